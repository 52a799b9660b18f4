-- Blanks and comments, passed over one at a time: `i + skipped false (drop i s)` stays what it is.
-- Assumes nothing.
use mathlib.Core.Path.{◌≡◌, refl, ◌∙◌, sym, ap}
use mathlib.Core.Bool.{Bool, true, false}
use mathlib.Core.List.{List, [], ◌∷◌}
use Prim.Native.Nat.{ℕ, suc, ◌+◌, ◌<◌, ◌≤◌}
use native.Mathlib.Nat.{zero-add}
use native.Mathlib.Numerals.{add-one}
use native.Mathlib.Omega.{arith}
use lib.Dec.{eqb}
use lib.ListN.{length, get_or, drop, drop_of_length-le}
use lib.Seq.{drop-cons, drop-drop, get_or-drop}
use borrow.Author.Tests.{eqb-true, eq-eqb, ne_eqb}
use Rattle.lex.specs.Bytes.{is_ws, or, count_while, differs_from, before}
use Rattle.lex.specs.Lex.{begins_comment, skipped}
use Rattle.lex.proofs.Laws.{cases, nonzero_inside}

or-false : (t : Bool) → t ≡ or t false
unfolding or
or-false true = refl
or-false false = refl

-- of the bytes from the space on, only the space separates
pub separates_from_space : (b : ℕ) → 32 ≤ b → eqb b 32 ≡ is_ws b
unfolding is_ws or
separates_from_space b h = rw (ne_eqb b 9 (λ e. omega arith), ne_eqb b 13 (λ e. omega arith), ne_eqb b 10 (λ e. omega arith)) (or-false (eqb b 32))

pub space_separates : (b : ℕ) → b ≡ 32 → is_ws b ≡ true
space_separates b e = sym (separates_from_space b (omega arith)) ∙ eq-eqb b 32 e

-- a byte above the space that is no `#` is none of a blank or a comment
pub stands : (b next : ℕ) → 32 < b → (b ≡ 35 → ⊥) → (is_ws b ≡ false) × (begins_comment b next ≡ false)
unfolding begins_comment
stands b next h n = (sym (separates_from_space b (omega arith)) ∙ ne_eqb b 32 (λ e. omega arith), rw (ne_eqb b 35 n, begins_comment))

-- a comment runs to the end of its line
comment : (bs : List ℕ) → skipped true bs ≡ before 10 bs + skipped false (drop (before 10 bs) bs)
unfolding skipped before count_while differs_from is_ws or
comment [] = refl
comment (b ∷ bs) = go (eqb b 10) refl (comment bs)
  where
    go : (t : Bool) → eqb b 10 ≡ t → skipped true bs ≡ before 10 bs + skipped false (drop (before 10 bs) bs)
        → skipped true (b ∷ bs) ≡ before 10 (b ∷ bs) + skipped false (drop (before 10 (b ∷ bs)) (b ∷ bs))
    go true q h = rw (eqb-true b 10 q) (omega arith)
    go false q h = simp (q, skipped, count_while, differs_from) (omega arith)

-- a run of bytes that are blanks by a test of theirs
module _ (has : ℕ → Bool) (blank : (b : ℕ) → has b ≡ true → is_ws b ≡ true) where
  run : (bs : List ℕ) → count_while has bs + skipped false (drop (count_while has bs) bs) ≡ skipped false bs
  unfolding skipped count_while
  run [] = refl
  run (b ∷ bs) = go (has b) refl (run bs)
    where
      go : (t : Bool) → has b ≡ t → count_while has bs + skipped false (drop (count_while has bs) bs) ≡ skipped false bs
          → count_while has (b ∷ bs) + skipped false (drop (count_while has (b ∷ bs)) (b ∷ bs)) ≡ skipped false (b ∷ bs)
      go true q h = simp (q, blank b q, skipped, count_while) (omega arith)
      go false q h = simp (q, count_while) (zero-add _)

-- spaces are blanks
abbrev pub is_space : ℕ → Bool
is_space b = eqb b 32

hash : (b next : ℕ) → begins_comment b next ≡ true → b ≡ 35
unfolding begins_comment
hash b next =
    cases (λ (t : Bool). t ≡ true → b ≡ 35) (eqb b 35) (λ e f. eqb-true b 35 e) (λ e f. let z : ◌≡◌ {A = ℕ} 0 1 = cc in absurd (omega arith))

-- a line that begins a comment is longer than none
line : (s : List ℕ) (i next : ℕ) → i < length s → begins_comment (get_or s i 0) next ≡ true → before 10 (drop i s) ≡ suc (before 10 (drop (suc i) s))
unfolding before count_while differs_from
line s i next h e = rw (drop-cons s i 0 h, hash (get_or s i 0) next e)

pub line_pos : (s : List ℕ) (i next : ℕ) → i < length s → begins_comment (get_or s i 0) next ≡ true → 0 < before 10 (drop i s)
line_pos s i next h e = rw (line s i next h e) (omega arith)

-- the byte behind the one at `i`
behind : (s : List ℕ) (i : ℕ) → get_or (drop (suc i) s) 0 0 ≡ get_or s (i + 1) 0
behind s i = get_or-drop (suc i) s 0 0 ∙ ap (λ (k : ℕ). get_or s k 0) (omega arith)

module _ (s : List ℕ) (i n : ℕ) (scanned : i + skipped false (drop i s) ≡ n) where
  pub skip_end : length s ≤ i → i ≡ n
  unfolding skipped
  skip_end h = omega (arith, rw (drop_of_length-le s h) at scanned)

  skip_run : (has : ℕ → Bool) → ((b : ℕ) → has b ≡ true → is_ws b ≡ true) → (k : ℕ) → k ≡ i + count_while has (drop i s) → k + skipped false (drop k s) ≡ n
  skip_run has blank k e = rw (e, ← drop-drop (count_while has (drop i s)) i s) (omega (arith, run has blank (drop i s)))

  pub skip_blanks : (k : ℕ) → k ≡ i + count_while is_ws (drop i s) → k + skipped false (drop k s) ≡ n
  skip_blanks k e = skip_run is_ws (λ b h. h) k e

  pub skip_spaces : (k : ℕ) → k ≡ i + count_while is_space (drop i s) → k + skipped false (drop k s) ≡ n
  skip_spaces k e = skip_run is_space (λ b h. space_separates b (eqb-true b 32 h)) k e

  module _ (h : i < length s) where
    pub skip_blank : is_ws (get_or s i 0) ≡ true → i + 1 + skipped false (drop (i + 1) s) ≡ n
    unfolding skipped
    skip_blank e = rw add-one (omega (arith, rw (drop-cons s i 0 h, e, skipped) at scanned))

    pub skip_stop : is_ws (get_or s i 0) ≡ false → begins_comment (get_or s i 0) (get_or s (i + 1) 0) ≡ false → i ≡ n
    unfolding skipped
    skip_stop e f =
        let g : begins_comment (get_or s i 0) (get_or (drop (suc i) s) 0 0) ≡ false = rw (behind s i) f in
        omega (arith, rw (drop-cons s i 0 h, e, g, skipped) at scanned)

    pub skip_comment : is_ws (get_or s i 0) ≡ false → begins_comment (get_or s i 0) (get_or s (i + 1) 0) ≡ true
        → (k : ℕ) → k ≡ before 10 (drop i s) → i + k + skipped false (drop (i + k) s) ≡ n
    unfolding skipped
    skip_comment e f k q =
        let g : begins_comment (get_or s i 0) (get_or (drop (suc i) s) 0 0) ≡ true = rw (behind s i) f in
        let m = before 10 (drop (suc i) s) in
        let long = line s i (get_or s (i + 1) 0) h f in
        let sum : i + k ≡ suc i + m = omega arith in
        let to : drop (i + k) s ≡ drop m (drop (suc i) s) = ap (λ (x : ℕ). drop x s) sum ∙ sym (drop-drop m (suc i) s) in
        let here = rw (drop-cons s i 0 h, e, g, skipped) at scanned in
        rw to (omega (arith, comment (drop (suc i) s)))

-- a space in front is passed over, if there is one
pub skip_space : (s : List ℕ) (i k : ℕ) → get_or s i 0 ≡ 32 → k ≡ i + 1 → k + skipped false (drop k s) ≡ i + skipped false (drop i s)
skip_space s i k e f = rw f (skip_blank s i _ refl (nonzero_inside s i (omega arith)) (space_separates _ e))

pub skip_none : (s : List ℕ) (i k : ℕ) → k ≡ i → k + skipped false (drop k s) ≡ i + skipped false (drop i s)
skip_none s i k e = ap (λ (x : ℕ). x + skipped false (drop x s)) e
