-- `text::Writer::write_number` meets its contract.
use Rattle.text.proofs.EmitLaws.{writes_by, small_number}
use Rattle.text.proofs.Writer.write_number.Goals as goal

pub returns-then-n-lt10 : goal.returns-then-n-lt10
returns-then-n-lt10 c = writes_by (small_number c.args.n c.if-n-lt10.true) c.write_byte.ensures
