-- Calls that write a text: what is returned, the length's cell, and the buffer.
use Rattle.std.specs.Prelude.{◌≡◌, List, [], ◌∷◌, ℕ}
use Rattle.lex.specs.Answer.{Answer, refused, answer}
use Rattle.text.specs.Answer as T
use Rattle.c_api.specs.Numbers.{Answers}

-- the length that was written, or the refusal
unfoldable pub length_of : T.Answer → Answer ℕ
length_of (T.refused n) = refused n
length_of (T.written n) = answer n

unfoldable pub length_cells : ℕ → List ℕ
length_cells n = n ∷ []

-- the number that is returned, and the length's cell before and after
abbrev pub AnswersLength : T.Answer → ℕ → List ℕ → List ℕ → Type 0
AnswersLength a r out out' = Answers length_cells (length_of a) r out out'

-- of a whole call: the number that is returned, the length's cell before and after, and the buffer
-- after
pub record Writes (o : T.Result) (r : ℕ) (out out' buffer' : List ℕ) : Type 0 where
  pub answers : AnswersLength o.answer r out out'
  pub buffer : buffer' ≡ o.buffer
