-- `put_length` meets its contract.
-- Assumes nothing.
use Rattle.std.proofs.Common.{rules, refl}
use Rattle.std.specs.Prelude.{ℕ, Result}
use Rattle.lex.specs.declared.diagnostic.Refusal.{Refusal}
use Rattle.text.specs.Answer.{answer_of}
use Rattle.c_api.specs.Texts.{length_of, length_cells}
use Rattle.c_api.proofs.Answers.{put_mapped}
use Rattle.c_api.proofs.texts.put_length.Goals as goal

pub returns : goal.returns
unfolding length_of answer_of
returns c = put_mapped length_cells (λ (w : Result ℕ Refusal). length_of (answer_of w)) (λ x y q. (x, refl, search rules)) (λ e. refl) _ c.map.ensures.cases refl _ _ _ c.put.ensures
