-- The lines and columns of many positions, which never fall.
use Rattle.std.specs.Prelude.{⊤, ◌≡◌, Bool, true, false, List, [], ◌∷◌, ◌++◌, ℕ, ◌*◌, ◌≤◌, leb, ltb, length, take, drop}
use Rattle.std.specs.List.{list_all}
use Rattle.lex.specs.Answer.{max_bytes, Answer, refused, answer}
use Rattle.lex.specs.Refusals.{r_too_long, r_positions_fall, r_places_too_short}
use Rattle.lex.specs.Bytes.{if}
use Rattle.positions.specs.Position.{place_of, place_at}
use Rattle.positions.specs.declared.Place.{Place}

-- a position is below the one before it, `last` being the one before the first
unfoldable pub falls_from : ℕ → List ℕ → Bool
falls_from last [] = false
falls_from last (p ∷ ps) = if (ltb p last) true (falls_from p ps)

abbrev pub falls : List ℕ → Bool
falls positions = falls_from 0 positions

-- line and column of a position before those of the others; the first refusal ends it
abbrev pub pair_before : Answer Place → Answer (List ℕ) → Answer (List ℕ)
pair_before (refused n) others = refused n
pair_before (answer p) (refused n) = refused n
pair_before (answer p) (answer cells) = answer (p.line ∷ p.column ∷ cells)

-- line and column of each position, as the single lookup gives them
unfoldable pub pairs : List ℕ → List ℕ → Answer (List ℕ)
pairs script [] = answer []
pairs script (p ∷ ps) = pair_before (place_at script p) (pairs script ps)

-- how the call ends, and the second list as it is left
pub record Outcome : Type 0 where
  pub answer : Answer ⊤
  pub places : List ℕ

abbrev pub outcome : Answer ⊤ → List ℕ → Outcome
outcome a places = record { answer = a; places = places }

-- the pairs stand in front; behind them the second list keeps what it held
abbrev pub filled : Answer (List ℕ) → List ℕ → Outcome
filled (refused n) places = outcome (refused n) places
filled (answer cells) places = outcome (answer tt) (cells ++ drop (length cells) places)

-- 1 is tested first, then 50, then 49, then 3; none of them changes the second list
unfoldable pub line_columns : List ℕ → List ℕ → List ℕ → Outcome
line_columns script positions places =
    if (ltb max_bytes (length script)) (outcome (refused r_too_long) places)
    (if (ltb (length places) (2 * length positions)) (outcome (refused r_places_too_short) places)
    (if (falls positions) (outcome (refused r_positions_fall) places)
    (filled (pairs script positions) places)))

-- the papers' number for each case of the answer
unfoldable pub number_of : Answer ⊤ → ℕ
number_of (answer _) = 0
number_of (refused n) = n

-- ---- what the code's own functions mean

-- no position lies past the end of `n` bytes
unfoldable pub all_inside : ℕ → List ℕ → Bool
all_inside n positions = list_all (λ p. leb p n) positions

-- the pairs of positions that lie in the script
unfoldable pub cells_of : List ℕ → List ℕ → List ℕ
cells_of script [] = []
cells_of script (p ∷ ps) =
    (place_of (take p script)).line ∷ (place_of (take p script)).column ∷ cells_of script ps

-- what is tested before anything is written
pub record Fillable (script positions places : List ℕ) : Type 0 where
  pub short : length script ≤ max_bytes
  pub room : 2 * length positions ≤ length places
  pub rising : falls positions ≡ false
  pub inside : all_inside (length script) positions ≡ true
