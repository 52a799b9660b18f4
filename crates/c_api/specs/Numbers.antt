-- Answers as numbers: what is returned, and the cells that are written.
use Rattle.std.specs.Prelude.{◌≡◌, Bool, true, false, List, [], ◌∷◌, ◌++◌, ℕ}
use Rattle.std.proofs.Math.Option.{Option, none, some}
use Rattle.ast.specs.Layout.{diagnostic_cells}
pub use Rattle.ast.specs.Layout.{count_cells}
use Rattle.rules.specs.Promise.{Arrays, Outcome, Numbers, numbers_of}
use Rattle.parser.specs.Steps.{WholeOutcome}
use Rattle.rules.specs.Parsed.{Parsed}
use Rattle.rules.specs.Parsed as P
pub use Rattle.ast.specs.Decode.{counts_at}
use Rattle.lex.specs.Answer.{Answer, refused, answer}
use Rattle.positions.specs.declared.Span.{Span}
use Rattle.positions.specs.declared.Place.{Place}

-- ---- a reading

-- the number, the five numbers of an error, the six counts
unfoldable pub number_cells : Numbers → List ℕ
number_cells n = n.number ∷ diagnostic_cells n.error ++ count_cells n.counts

-- a refusal changes nothing that is lent
unfoldable pub reading_cells : Parsed → List ℕ → List ℕ
reading_cells (P.Tree c) out = number_cells (numbers_of (P.Tree c))
reading_cells (P.Error e) out = number_cells (numbers_of (P.Error e))
reading_cells (P.Refused n) out = out

pub record Returned : Type 0 where
  pub number : ℕ
  pub numbers : List ℕ
  pub arrays : Arrays

unfoldable pub as_numbers : Outcome → List ℕ → Returned
as_numbers o out =
    record {
      number = (numbers_of o.answer).number;
      numbers = reading_cells o.answer out;
      arrays = o.arrays;
    }

-- of both steps: the same, and the tables as they are left
pub record BothReturned : Type 0 where
  pub reading : Returned
  pub tokens : List ℕ
  pub errors : List ℕ

-- the answer and the arrays of both steps
abbrev pub reading_of : WholeOutcome → Outcome
reading_of o = record { answer = o.answer; arrays = o.arrays }

unfoldable pub both_numbers : WholeOutcome → List ℕ → BothReturned
both_numbers o out =
    record {
      reading = as_numbers (reading_of o) out;
      tokens = o.tokens;
      errors = o.errors;
    }

-- ---- a lookup or a comparison

-- 0 where there is an answer
unfoldable pub number_of : {A : Type 0} → Answer A → ℕ
number_of (refused n) = n
number_of (answer a) = 0

-- the cells of the answer; a refusal changes nothing that is lent
unfoldable pub answer_cells : {A C : Type 0} → (A → List C) → Answer A → List C → List C
answer_cells cells (refused n) out = out
answer_cells cells (answer a) out = cells a

-- the number that is returned, and what is lent for the answer before and after
abbrev pub Answers : {A C : Type 0} → (A → List C) → Answer A → ℕ → List C → List C → Type 0
Answers cells a r out out' = (r ≡ number_of a) × (out' ≡ answer_cells cells a out)

-- whether there is a start, and the start
unfoldable pub start_cells : Option ℕ → List ℕ
start_cells none = 0 ∷ 0 ∷ []
start_cells (some p) = 1 ∷ p ∷ []

unfoldable pub span_cells : Span → List ℕ
span_cells s = s.start ∷ s.len ∷ []

unfoldable pub place_cells : Place → List ℕ
place_cells p = p.line ∷ p.column ∷ []

-- 1 for yes, 0 for no
unfoldable pub yes_cells : Bool → List ℕ
yes_cells true = 1 ∷ []
yes_cells false = 0 ∷ []

-- cells that are themselves the answer
abbrev pub same_cells : {C : Type 0} → List C → List C
same_cells cells = cells
