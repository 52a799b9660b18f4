-- Laws of the lines: errors, roots, a tree.
use mathlib.Core.Path.{◌≡◌, refl, sym, ◌∙◌, ap}
use mathlib.Core.Bool.{true, false, ◌&&◌}
use mathlib.Core.List.{List, [], ◌∷◌, ◌++◌, map, append_assoc}
use Prim.Native.Nat.{ℕ, zero, suc, ◌+◌, ◌*◌, ◌/◌, ◌<◌, ◌≤◌}
use native.Mathlib.Numerals.{add-one}
use native.Mathlib.Omega.{arith}
use lib.Dec.{leb}
use lib.ListN.{length, get_or, take, drop}
use lib.Seq.{length-take-le, get_or-drop}
use borrow.Author.Tests.{eq-eqb, ne_eqb, leb-true}
use Rattle.std.proofs.Common.{get_or-take}
use Rattle.lex.proofs.Chunks.{chunk_is}
use Rattle.lex.specs.declared.diagnostic.Diagnostic.{Diagnostic}
use Rattle.ast.specs.declared.Counts.{Counts}
use Rattle.ast.specs.Layout.{node_width, type_width, diagnostic_width}
use Rattle.ast.specs.Decode.{node_at, type_at}
use Rattle.ast.specs.Decode as D
use Rattle.std.specs.Simd.{first_chunks}
use Rattle.ast.specs.declared.ReadError.{ReadError}
use Rattle.ast.specs.declared.ReadError.TheVariants as E
use Rattle.listing.specs.declared.Failure.{Failure}
use Rattle.listing.specs.declared.Failure.TheVariants as F
use Rattle.std.specs.Prelude.{Err}
use Rattle.rules.specs.Parsed as P
use Rattle.rules.specs.Parsed.{parsed_of}
use Rattle.rules.specs.Promise.{Arrays}
use Rattle.text.specs.Text.{bytes, number}
use Rattle.text.proofs.EmitLaws.{and_left, and_right}
use Rattle.listing.specs.Text.{malformed, gap, fields, form, each}
use Rattle.listing.specs.Listing.{line, numbers_line, error_line, failure_line, failure_of, roots_line, tree_text, within, diagnostic_at, as_parsed, text_of}
use Rattle.listing.proofs.EmitLaws.{next_field, no_field}

pub error_ten : (e : Diagnostic) → e.number ≡ 10 → line (bytes "refused") (number e.number ∷ number e.start ∷ number e.len ∷ []) ≡ error_line e
unfolding error_line
error_ten e h = rw (eq-eqb _ _ h, error_line)

pub error_other : (e : Diagnostic) → (e.number ≡ 10 → ⊥) → numbers_line (bytes "error") e ≡ error_line e
unfolding error_line
error_other e h = rw (ne_eqb _ _ h, error_line)

pub each_same : (f g : ℕ → List ℕ) (n : ℕ) → ((i : ℕ) → i < n → f i ≡ g i) → each f n ≡ each g n
unfolding each
each_same f g zero h = refl
each_same f g (suc n) h = rw (each_same f g n (λ (i : ℕ) (l : i < n). h i (omega arith)), h n (omega arith))

-- the numbers one behind the other are the fields of a form
each_field : (xs : List ℕ) (i : ℕ) → i ≤ length xs → each (λ k. gap 1 ++ number (get_or xs k 0)) i ++ fields (map number (drop i xs)) ≡ fields (map number xs)
unfolding each gap
each_field xs zero h = refl
each_field xs (suc i) h =
    let f = λ (k : ℕ). gap 1 ++ number (get_or xs k 0) in
    let e : 32 ∷ (number (get_or xs i 0) ++ fields (map number (drop (suc i) xs))) ≡ fields (map number (drop i xs)) =
    ap (λ (j : ℕ). 32 ∷ (number (get_or xs i 0) ++ fields (map number (drop j xs)))) (sym (add-one i)) ∙ next_field number xs i 0 (omega arith) in
    append_assoc (each f i) (gap 1 ++ number (get_or xs i 0)) (fields (map number (drop (suc i) xs)))
    ∙ ap (λ (l : List ℕ). each f i ++ l) e
    ∙ each_field xs i (omega arith)

pub roots_are : (xs : List ℕ) (n : ℕ) → n ≤ length xs → line (bytes "roots") (map number (take n xs)) ≡ roots_line (λ i. get_or xs i 0) n
unfolding line form roots_line bytes
roots_are xs n h =
    let ys = take n xs in
    let l : length ys ≡ n = length-take-le n xs h in
    let f = λ (k : ℕ). gap 1 ++ number (get_or xs k 0) in
    let g = λ (k : ℕ). gap 1 ++ number (get_or ys k 0) in
    let same : each g n ≡ each f n = each_same g f n (λ (k : ℕ) (m : k < n). ap (λ (x : ℕ). gap 1 ++ number x) (get_or-take n xs k 0 m)) in
    let all : each g n ++ (41 ∷ []) ≡ fields (map number ys) = ap (λ (t : List ℕ). each g n ++ t) (no_field number ys n (omega arith)) ∙ each_field ys n (omega arith) in
    let whole : fields (map number ys) ++ (10 ∷ []) ≡ each f n ++ (41 ∷ 10 ∷ []) =
    ap (λ (t : List ℕ). t ++ (10 ∷ [])) (sym all ∙ ap (λ (t : List ℕ). t ++ (41 ∷ [])) same)
    ∙ append_assoc (each f n) (41 ∷ []) (10 ∷ []) in
    ap (λ (t : List ℕ). (40 ∷ bytes "roots") ++ t) whole

-- ---- errors

-- the cells of an error among an array's
cell_is : (xs : List ℕ) (m k j : ℕ) → k < 5 → m + k ≡ j → get_or (take 5 (drop m xs)) k 0 ≡ get_or xs j 0
cell_is xs m k j h e = get_or-take 5 (drop m xs) k 0 h ∙ get_or-drop m xs k 0 ∙ ap (λ (n : ℕ). get_or xs n 0) e

-- what an array's part is read to
pub error_is : (xs : List ℕ) (k i : ℕ) (d : List ℕ) → i < k → D.diagnostic_at (get_or (first_chunks 5 k xs) i d) 0 ≡ diagnostic_at xs i
error_is xs k i d h =
    let m = 5 * i in
    rw (chunk_is 5 k xs i d h, cell_is xs m 0 m (omega arith) (omega arith), cell_is xs m 1 (m + 1) (omega arith) refl, cell_is xs m 2 (m + 2) (omega arith) refl, cell_is xs m 3 (m + 3) (omega arith) refl, cell_is xs m 4 (m + 4) (omega arith) refl)

-- those in front of an array are its first
pub errors_are : (f : Diagnostic → List ℕ) (xs : List ℕ) (n : ℕ) → 5 * n ≤ length xs
    → each (λ i. f (diagnostic_at (take (5 * n) xs) i)) (length (take (5 * n) xs) / 5) ≡ each (λ i. f (diagnostic_at xs i)) n
errors_are f xs n h =
    let ys = take (5 * n) xs in
    let l : length ys / 5 ≡ n = rw (length-take-le (5 * n) xs h) (grind arith) in
    rw l (each_same (λ i. f (diagnostic_at ys i)) (λ i. f (diagnostic_at xs i)) n (λ (i : ℕ) (b : i < n).
    ap f (rw (get_or-take (5 * n) xs (5 * i) 0 (omega arith), get_or-take (5 * n) xs (5 * i + 1) 0 (omega arith), get_or-take (5 * n) xs (5 * i + 2) 0 (omega arith), get_or-take (5 * n) xs (5 * i + 3) 0 (omega arith), get_or-take (5 * n) xs (5 * i + 4) 0 (omega arith)))))

-- ---- the arrays of an answer

pub failure_is : (failure : Failure) (a : Arrays) → failure_line failure ≡ text_of (as_parsed (Err failure)) a
unfolding text_of
failure_is (F.Script e) a = refl
failure_is (F.Refused n) a = refl

-- a failure of a reading is listed as the reading's answer
pub failure_same : (error : ReadError) → as_parsed (Err (failure_of error)) ≡ parsed_of (Err error)
failure_same (E.Script e) = refl
failure_same (E.Refused r) = refl

module _ (a : Arrays) (c : Counts) where
  pub tree_in : true ≡ within c a → tree_text c (take c.cells a.lists) (node_at a.nodes) (type_at a.types) (λ i. get_or a.roots i 0) (diagnostic_at a.diagnostics) ≡ text_of (P.Tree c) a
  unfolding text_of
  tree_in e = rw (sym e, text_of)

  pub tree_out : false ≡ within c a → malformed ≡ text_of (P.Tree c) a
  unfolding text_of
  tree_out e = rw (sym e, text_of)

  lists_in : true ≡ within c a → (leb c.cells (length a.lists) && (leb c.roots (length a.roots) && leb (diagnostic_width * c.diagnostics) (length a.diagnostics))) ≡ true
  unfolding within
  lists_in e = and_right (leb (type_width * c.types) (length a.types)) _ (and_right (leb (node_width * c.nodes) (length a.nodes)) _ (sym e))

  pub cells-inside : true ≡ within c a → c.cells ≤ length a.lists
  cells-inside e = leb-true _ _ (and_left _ _ (lists_in e))

  pub roots-inside : true ≡ within c a → c.roots ≤ length a.roots
  roots-inside e = leb-true _ _ (and_left _ _ (and_right (leb c.cells (length a.lists)) _ (lists_in e)))

  pub errors-inside : true ≡ within c a → diagnostic_width * c.diagnostics ≤ length a.diagnostics
  errors-inside e = leb-true _ _ (and_right (leb c.roots (length a.roots)) _ (and_right (leb c.cells (length a.lists)) _ (lists_in e)))
