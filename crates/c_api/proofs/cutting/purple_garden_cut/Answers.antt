-- `purple_garden_cut` meets its contract.
-- Assumes nothing.
use Rattle.std.proofs.Common.{rules, refl, sym, ap, ◌∙◌}
use Rattle.lex.specs.Answer.{answered}
use Rattle.tokens.specs.Tables.{Outcome}
use Rattle.c_api.specs.Numbers.{Answers}
use Rattle.c_api.specs.Tables.{table_cells, cut_numbers}
use Rattle.c_api.proofs.Answers.{put_mapped}
use Rattle.c_api.proofs.cutting.purple_garden_cut.Goals as goal

pub returns : goal.returns
unfolding cut_numbers
returns c =
    let h : Answers table_cells (answered c.cut.result) c.put.result c.args.counts.now c.put.new.lent =
    put_mapped table_cells answered (λ x y q. (x, refl, search rules)) (λ e. refl) _ c.map.ensures.cases refl _ _ _ c.put.ensures in
    ap (λ (o : Outcome). cut_numbers o c.args.counts.now) c.cut.ensures
    ∙ (λ i. record { number = sym h.0 i; counts = sym h.1 i; tokens = c.cut.new.tokens; errors = c.cut.new.errors })
