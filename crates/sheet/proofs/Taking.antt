-- Errors that are read from the chunks of a list of cells.
-- Assumes nothing.
use mathlib.Core.Path.{◌≡◌, refl, ◌∙◌, ap}
use mathlib.Core.List.{List}
use Prim.Native.Nat.{ℕ, ◌+◌, ◌*◌, ◌/◌, ◌<◌}
use native.Mathlib.Omega.{arith}
use lib.ListN.{length, get_or, take, drop}
use lib.Seq.{get_or-drop}
use Rattle.std.proofs.lemmas.List.{get_or-take}
use Rattle.std.specs.Simd.{first_chunks}
use Rattle.ast.specs.Decode.{diagnostic_at}
use Rattle.lex.proofs.Chunks.{chunk_is}
use Rattle.sheet.specs.Sheet.{error_at}

module _ (cells : List ℕ) (i : ℕ) where
  cell : (k : ℕ) → k < 5 → get_or (take 5 (drop (5 * i) cells)) k 0 ≡ get_or cells (5 * i + k) 0
  cell k h = get_or-take 5 (drop (5 * i) cells) k 0 h ∙ get_or-drop (5 * i) cells k 0

  first : get_or (take 5 (drop (5 * i) cells)) 0 0 ≡ get_or cells (5 * i) 0
  first = let at : 5 * i + 0 ≡ 5 * i = omega arith in cell 0 (omega arith) ∙ ap (λ (m : ℕ). get_or cells m 0) at

  of_record : diagnostic_at (take 5 (drop (5 * i) cells)) 0 ≡ error_at cells i
  of_record = rw (first, cell 1 (omega arith), cell 2 (omega arith), cell 3 (omega arith), cell 4 (omega arith)) refl

  pub taken : (chunks : List (List ℕ)) (d : List ℕ) → chunks ≡ first_chunks 5 (length cells / 5) cells → i < length cells / 5
      → diagnostic_at (get_or chunks i d) 0 ≡ error_at cells i
  taken chunks d e h = rw (e, chunk_is 5 (length cells / 5) cells i d h) of_record
