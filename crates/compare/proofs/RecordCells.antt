-- What cells of a record are in the array.
use mathlib.Core.Path.{◌≡◌, ◌∙◌}
use mathlib.Core.List.{List}
use Prim.Native.Nat.{ℕ, ◌+◌, ◌<◌, ◌≤◌}
use native.Mathlib.Nat.{add_assoc}
use native.Mathlib.Omega.{arith}
use lib.ListN.{get_or, take, drop}
use lib.Seq.{get_or-take, get_or-drop}
use Rattle.ast.specs.Decode.{token_at, run_at}

module _ (width : ℕ) (xs : List ℕ) (p : ℕ) where
  abbrev pub record_cells : List ℕ
  record_cells = take width (drop p xs)

  cell_in : (k : ℕ) → k < width → get_or record_cells k 0 ≡ get_or xs (p + k) 0
  cell_in k h = get_or-take width (drop p xs) k 0 h ∙ get_or-drop p xs k 0

  -- one, two and three cells from `o` on
  pub number_in : (o : ℕ) → o + 1 ≤ width → get_or record_cells o 0 ≡ get_or xs (p + o) 0
  number_in o h = cell_in o (omega arith)

  pub run_in : (o : ℕ) → o + 2 ≤ width → run_at record_cells o ≡ run_at xs (p + o)
  run_in o h = rw (cell_in o (omega arith), cell_in (o + 1) (omega arith), add_assoc)

  pub token_in : (o : ℕ) → o + 3 ≤ width → token_at record_cells o ≡ token_at xs (p + o)
  token_in o h = rw (cell_in o (omega arith), cell_in (o + 1) (omega arith), cell_in (o + 2) (omega arith), add_assoc p o 1, add_assoc p o 2)
