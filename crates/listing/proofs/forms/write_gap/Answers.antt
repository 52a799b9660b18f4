-- `listing::forms::write_gap` meets its contract.
use Rattle.text.proofs.EmitLaws.{writes_by, writes_nothing}
use Rattle.listing.proofs.EmitLaws.{no_gap, a_gap}
use Rattle.listing.proofs.forms.write_gap.Goals as goal

pub returns-then-i-gt0 : goal.returns-then-i-gt0
returns-then-i-gt0 c = writes_by (a_gap c.args.i c.if-i-gt0.true) c.write_byte.ensures

pub returns-else-i-gt0 : goal.returns-else-i-gt0
returns-else-i-gt0 c = writes_by (no_gap c.args.i c.if-i-gt0.false) writes_nothing
