-- `purple_garden_same_shape` meets its contract.
-- Assumes nothing.
use Rattle.std.proofs.Common.{rules, refl, ap₂, ◌∙◌}
use Rattle.lex.specs.Answer.{answered}
use Rattle.compare.specs.Compare.{compare}
use Rattle.c_api.specs.Numbers.{yes_cells}
use Rattle.c_api.proofs.Answers.{put_mapped}
use Rattle.c_api.proofs.purple_garden_same_shape.Goals as goal

pub returns : goal.returns
returns c = put_mapped yes_cells answered (λ x y q. (x, refl, search rules)) (λ e. refl) _ c.map.ensures.cases (c.same_shape.ensures ∙ ap₂ compare c.tree_of-left.ensures c.tree_of-right.ensures) _ _ _ c.put.ensures
