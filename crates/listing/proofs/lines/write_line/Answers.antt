-- `listing::lines::write_line` meets its contract.
use Rattle.listing.specs.Listing.{line}
use Rattle.text.proofs.EmitLaws.{and_then}
use Rattle.listing.proofs.lines.write_line.Goals as goal

pub returns : goal.returns
unfolding line
returns c = and_then c.write_numbers.ensures c.write_byte.ensures
