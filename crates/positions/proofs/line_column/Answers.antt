-- `positions::line_column` meets its contract.
use Rattle.std.proofs.Common.{◌∙◌}
use Rattle.positions.proofs.Places.{advanced-start}
use Rattle.positions.proofs.line_column.Goals as goal

pub returns : goal.returns
returns c = c.advance.ensures ∙ advanced-start _ _
