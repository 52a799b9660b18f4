-- `purple_garden_line_column` meets its contract.
-- Assumes nothing.
use Rattle.std.proofs.Common.{rules, refl}
use Rattle.lex.specs.Answer.{answered}
use Rattle.c_api.specs.Numbers.{place_cells}
use Rattle.c_api.proofs.Answers.{put_mapped}
use Rattle.c_api.proofs.purple_garden_line_column.Goals as goal

pub returns : goal.returns
returns c = put_mapped place_cells answered (λ x y q. (x, refl, search rules)) (λ e. refl) _ c.map.ensures.cases c.line_column.ensures _ _ _ c.put.ensures
