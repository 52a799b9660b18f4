-- `text::put_number` meets its contract: one digit, or more digits and the last.
use Rattle.text.proofs.EmitLaws.{then, by, small_number, more_digits}
use Rattle.text.proofs.+put_number.Goals as goal

pub returns-then-n-lt10 : goal.returns-then-n-lt10
returns-then-n-lt10 t c = by (small_number c.args.n c.if-n-lt10.true) c.put.ensures

pub returns : goal.returns
returns t c = by (more_digits c.args.n c.if-n-lt10.false) (then c.put_number-to.ensures c.put-2.ensures)
