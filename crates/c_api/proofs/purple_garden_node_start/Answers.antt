-- `purple_garden_node_start` meets its contract.
-- Assumes nothing.
use Rattle.std.proofs.Common.{rules, refl, ap, ◌∙◌}
use Rattle.ast.specs.Answer.{Lent}
use Rattle.lookups.specs.Lookup.{node_start, start_answer}
use Rattle.c_api.specs.Numbers.{start_cells}
use Rattle.ast.specs.Decode.{option_of}
use Rattle.c_api.proofs.Answers.{put_mapped}
use Rattle.c_api.proofs.purple_garden_node_start.Goals as goal

pub returns : goal.returns
unfolding start_answer
returns c = put_mapped start_cells start_answer (λ x y q. (option_of x, refl, search rules)) (λ e. refl) _ c.map.ensures.cases (c.node_start.ensures ∙ ap (λ (l : Lent). node_start l c.args.node) c.tree_of-tree.ensures) _ _ _ c.put.ensures
