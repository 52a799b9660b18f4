-- `purple_garden_type_token` meets its contract.
-- Assumes nothing.
use Rattle.std.proofs.Common.{rules, refl, ap, ◌∙◌}
use Rattle.ast.specs.Answer.{Lent}
use Rattle.lookups.specs.Lookup.{type_token}
use Rattle.lex.specs.Answer.{answered}
use Rattle.ast.specs.Layout.{token_cells}
use Rattle.c_api.proofs.Answers.{put_mapped}
use Rattle.c_api.proofs.purple_garden_type_token.Goals as goal

pub returns : goal.returns
returns c = put_mapped token_cells answered (λ x y q. (x, refl, search rules)) (λ e. refl) _ c.map.ensures.cases (c.type_token.ensures ∙ ap (λ (l : Lent). type_token l c.args.ty) c.tree_of-tree.ensures) _ _ _ c.put.ensures
