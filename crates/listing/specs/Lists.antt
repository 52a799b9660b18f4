-- What a function that lists answers: it wrote its text, or the text has what cannot be listed.
use Rattle.std.specs.Prelude.{◌≡◌, ◌<◌, false, List, ℕ, Result, MatchResult}
use Rattle.std.specs.Borrow.{MutBor}
use Rattle.text.specs.Emit.{Writes, plain}
use Rattle.text.specs.declared.Writer.{Writer}
use Rattle.listing.specs.declared.emit.Malformed.{Malformed}

-- something of the text is no byte
pub record Unlisted (text : List ℕ) : Type 0 where
  pub not_plain : plain text ≡ false

pub record Lists (text : List ℕ) (before after : Writer) (r : Result (Unit {0}) Malformed)
    : Type 0 where
  pub answers : MatchResult r (λ _. Writes text before after) (λ _. Unlisted text)

-- whatever calls of `post` answer, the call at a number below `n` lists its text
abbrev pub ListsEach :
    (ℕ → MutBor Writer → Result (Unit {0}) Malformed → MutBor Writer → Type 0)
    → ℕ → (ℕ → List ℕ) → Type 0
ListsEach post n text =
    (j : ℕ) (u : MutBor Writer) (r : Result (Unit {0}) Malformed) (v : MutBor Writer)
    → j < n → post j u r v → Lists (text j) u.now v.now r
