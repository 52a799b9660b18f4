-- `parser::recovery::skips` meets its contract.
use Rattle.std.proofs.Common.{not, ap, ◌∙◌}
use Rattle.parser.specs.Whole.{root_boundary, skips}
use Rattle.parser.proofs.recovery.skips.Goals as goal

pub returns : goal.returns
unfolding skips
returns c = ap not (c.is_root_boundary.ensures ∙ ap root_boundary c.kind.ensures)
