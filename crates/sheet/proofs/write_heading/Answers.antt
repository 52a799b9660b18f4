-- `sheet::write_heading` meets its contract.
use Rattle.text.proofs.EmitLaws.{and_then}
use Rattle.sheet.specs.Sheet.{heading}
use Rattle.sheet.proofs.write_heading.Goals as goal

pub returns : goal.returns
unfolding heading
returns c =
    and_then
    c.write_right.ensures
    (and_then c.write_blanks.ensures (and_then c.write_right-2.ensures (and_then c.write_blanks-2.ensures (and_then c.write_number.ensures c.write_blanks-3.ensures))))
