-- Laws of the diagnostics array: what the code stores is a record pushed, and what it holds after
-- many.
-- Assumes nothing.
use mathlib.Core.Path.{◌≡◌, refl, ◌∙◌, sym, ap}
use mathlib.Core.List.{List, [], ◌∷◌, ◌++◌, map, flatten, foldl, append_assoc, append-nil}
use Prim.Native.Nat.{ℕ, ◌+◌, ◌*◌, ◌≤◌, ◌<◌}
use native.Mathlib.Omega.{arith}
use lib.ListN.{length, take, drop, length-append, length-drop}
use lib.Seq.{take_at, length-take-le}
use borrow.Author.Tests.{lt-ltb, le-leb}
use Rattle.lex.specs.declared.diagnostic.Diagnostic.{Diagnostic}
use Rattle.ast.specs.Layout.{diagnostic_cells}
use Rattle.diagnostics.specs.Records.{Diagnostics, diagnostics, Holding, max_count, pushed}

-- ---- one record

module _ (cells : List ℕ) (n : ℕ) (d : Diagnostic) where
  pub pushed_room : n < max_count → 5 * n + 5 ≤ length cells
      → pushed (diagnostics cells n) d ≡ diagnostics (take (5 * n) cells ++ diagnostic_cells d ++ drop (5 * n + 5) cells) (n + 1)
  unfolding pushed
  pushed_room h k = rw (lt-ltb n max_count h, pushed) (rw (le-leb (5 * n + 5) (length cells) k, pushed))

-- ---- many records

cells-append : (ds es : List Diagnostic) → flatten (map diagnostic_cells (ds ++ es)) ≡ flatten (map diagnostic_cells ds) ++ flatten (map diagnostic_cells es)
unfolding flatten
cells-append [] es = refl
cells-append (d ∷ ds) es = ap (λ (l : List ℕ). diagnostic_cells d ++ l) (cells-append ds es) ∙ sym (append_assoc (diagnostic_cells d) (flatten (map diagnostic_cells ds)) (flatten (map diagnostic_cells es)))

pub cells-length : (ds : List Diagnostic) → length (flatten (map diagnostic_cells ds)) ≡ 5 * length ds
unfolding flatten diagnostic_cells
cells-length [] = refl
cells-length (d ∷ ds) = omega (arith, cells-length ds)

holding_one : {a : Diagnostics} {ds : List Diagnostic} (d : Diagnostic) → Holding a ds → 5 * length ds + 5 ≤ length a.cells → length ds < max_count → Holding (pushed a d) (ds ++ (d ∷ []))
unfolding flatten diagnostic_cells
holding_one {a} {ds} d h k few =
    let n : ℕ = length ds in
    let front : List ℕ = flatten (map diagnostic_cells ds) in
    let wide : length front ≡ 5 * n = cells-length ds in
    let made : pushed a d ≡ diagnostics (take (5 * n) a.cells ++ diagnostic_cells d ++ drop (5 * n + 5) a.cells) (n + 1) =
    ap (λ (j : ℕ). pushed (diagnostics a.cells j) d) h.counted ∙ pushed_room a.cells n d few k in
    let before : take (5 * n) a.cells ≡ front = ap (take (5 * n)) h.laid ∙ take_at front h.behind (5 * n) wide in
    record {
      behind = drop (5 * n + 5) a.cells;
      laid = ap (λ (x : Diagnostics). x.cells) made ∙ ap (λ (l : List ℕ). l ++ diagnostic_cells d ++ drop (5 * n + 5) a.cells) before
          ∙ ap (λ (l : List ℕ). l ++ drop (5 * n + 5) a.cells) (sym (cells-append ds (d ∷ [])));
      counted = ap (λ (x : Diagnostics). x.count) made ∙ sym (length-append ds (d ∷ []));
    }

pushed-length : {a : Diagnostics} {ds : List Diagnostic} (d : Diagnostic) → Holding a ds → 5 * length ds + 5 ≤ length a.cells → length ds < max_count → length (pushed a d).cells ≡ length a.cells
unfolding diagnostic_cells
pushed-length {a} {ds} d h k few =
    let n : ℕ = length ds in
    let made : pushed a d ≡ diagnostics (take (5 * n) a.cells ++ diagnostic_cells d ++ drop (5 * n + 5) a.cells) (n + 1) =
    ap (λ (j : ℕ). pushed (diagnostics a.cells j) d) h.counted ∙ pushed_room a.cells n d few k in
    omega (arith, ap (λ (x : Diagnostics). length x.cells) made ∙ length-append (take (5 * n) a.cells ++ diagnostic_cells d) (drop (5 * n + 5) a.cells), length-append (take (5 * n) a.cells) (diagnostic_cells d), length-take-le (5 * n) a.cells (omega arith), length-drop (5 * n + 5) a.cells)

-- what is pushed is held behind what was held
pub holding-pushed : {a : Diagnostics} {ds : List Diagnostic} (xs : List Diagnostic) → Holding a ds → 5 * (length ds + length xs) ≤ length a.cells → length ds + length xs ≤ max_count → Holding (foldl pushed a xs) (ds ++ xs)
holding-pushed {a} {ds} [] h k few = rw (append-nil ds) h
holding-pushed {a} {ds} (x ∷ xs) h k few =
    let n : length (ds ++ (x ∷ [])) ≡ length ds + 1 = length-append ds (x ∷ []) in
    rw (← append_assoc ds (x ∷ []) xs) (holding-pushed {a = pushed a x} {ds = ds ++ (x ∷ [])} xs (holding_one x h (omega arith) (omega arith)) (omega (arith, pushed-length x h (omega arith) (omega arith))) (omega arith))

-- an array holds nothing at first
pub holding-none : {cells : List ℕ} → Holding (diagnostics cells 0) []
unfolding flatten
holding-none {cells} = record { behind = cells; laid = refl; counted = refl }
