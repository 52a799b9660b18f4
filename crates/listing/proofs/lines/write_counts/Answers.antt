-- `listing::lines::write_counts` meets its contract.
use Rattle.text.specs.Text.{bytes}
use Rattle.listing.specs.Text.{gap, fields, form}
use Rattle.listing.specs.Listing.{line, counts_line}
use Rattle.text.proofs.EmitLaws.{and_then}
use Rattle.listing.proofs.lines.write_counts.Goals as goal

pub returns : goal.returns
unfolding counts_line line form fields gap bytes
returns c =
    and_then
    (and_then c.write_text.ensures
    (and_then c.write_numbers.ensures
    (and_then c.write_byte.ensures
    (and_then c.write_numbers-2.ensures
    (and_then c.write_byte-2.ensures
    (and_then c.write_numbers-3.ensures c.write_byte-3.ensures))))))
    c.write_byte-4.ensures
