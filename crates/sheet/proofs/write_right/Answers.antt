-- `sheet::write_right` meets its contract.
use Rattle.std.proofs.Common.{ap}
use Rattle.text.proofs.EmitLaws.{and_then, writes_by}
use Rattle.sheet.specs.Sheet.{blanks, right}
use Rattle.sheet.proofs.write_right.Goals as goal

pub returns : goal.returns
unfolding right
returns c = and_then (writes_by (ap blanks c.blanks_before.ensures) c.write_blanks.ensures) c.write_number.ensures
