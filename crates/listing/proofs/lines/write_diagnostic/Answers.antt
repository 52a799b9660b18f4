-- `listing::lines::write_diagnostic` meets its contract.
use Rattle.lex.specs.Cells.{diagnostic_cells}
use Rattle.listing.specs.Listing.{numbers_line}
use Rattle.listing.proofs.lines.write_diagnostic.Goals as goal

pub returns : goal.returns
unfolding numbers_line diagnostic_cells
returns c = rw c.from.ensures at c.write_line.ensures
