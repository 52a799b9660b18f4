-- The words back from the lines of one error: the margins and the last padding cut off, the pieces
-- joined.
-- Assumes nothing.
use mathlib.Core.Path.{◌≡◌, refl, sym, ◌∙◌, ap}
use mathlib.Core.Bool.{Bool, true, false}
use mathlib.Core.List.{List, [], ◌∷◌, ◌++◌, append-nil, append_assoc}
use Prim.Native.Nat.{ℕ, zero, suc, ◌+◌, ◌-◌, ◌*◌, ◌/◌, ◌<◌, ◌≤◌}
use native.Mathlib.Omega.{arith}
use lib.Dec.{leb}
use lib.ListN.{length, take, drop, length-append, length-take, length-drop, length-replicate, take-append-drop}
use lib.Seq.{take_at, drop_at, drop-drop}
use borrow.Author.Tests.{leb-true, leb-false, ne_eqb}
use Rattle.words.specs.Words.{last_byte}
use Rattle.sheet.specs.Sheet.{blanks, margin, pieces, body, joined, cut_cons, cut, words_in}
use Rattle.sheet.proofs.Length.{line_count, pieces-length}

-- ---- blanks at the end

cut-blanks : (n : ℕ) → cut (blanks n) ≡ []
unfolding cut
cut-blanks zero = refl
cut-blanks (suc n) = ap (cut_cons 32) (cut-blanks n)

pub cut-back : (w : List ℕ) (n : ℕ) → (last_byte 32 w ≡ 32 → ⊥) → cut (w ++ blanks n) ≡ w
unfolding cut last_byte
cut-back [] n h = absurd (h refl)
cut-back (b ∷ []) n h = ap (cut_cons b) (cut-blanks n) ∙ rw (ne_eqb b 32 h, cut_cons)
cut-back (b ∷ c ∷ cs) n h = ap (cut_cons b) (cut-back (c ∷ cs) n h)

-- ---- the pieces

-- how many blanks the last one is padded with
abbrev pub padding : ℕ → List ℕ → ℕ
padding zero w = 0
padding (suc fuel) w = elim (leb (length w) 57) [ true ↦ 57 - length w | false ↦ padding fuel (drop 57 w) ]

module _ (front piece rest : List ℕ) (f : length front ≡ 15) (p : length piece ≡ 57) where
  -- places 16 to 72 of the first line
  pub first_piece : take 57 (drop 15 (front ++ (piece ++ rest))) ≡ piece
  first_piece = ap (take 57) (drop_at front (piece ++ rest) 15 f) ∙ take_at piece rest 57 p

  -- what stands behind them
  pub behind-piece : drop 72 (front ++ (piece ++ rest)) ≡ rest
  behind-piece = sym (drop-drop 57 15 (front ++ (piece ++ rest))) ∙ ap (drop 57) (drop_at front (piece ++ rest) 15 f) ∙ drop_at piece rest 57 p

joined-pieces : (fuel : ℕ) (front w : List ℕ) → length front ≡ 15 → length w < fuel → joined (line_count fuel w) (front ++ pieces fuel w) ≡ w ++ blanks (padding fuel w)
unfolding joined pieces
joined-pieces zero front w f h = absurd (omega arith)
joined-pieces (suc fuel) front w f h = go (leb (length w) 57) refl (joined-pieces fuel margin (drop 57 w))
  where
    go : (t : Bool) → leb (length w) 57 ≡ t
        → (length margin ≡ 15 → length (drop 57 w) < fuel → joined (line_count fuel (drop 57 w)) (margin ++ pieces fuel (drop 57 w)) ≡ drop 57 w ++ blanks (padding fuel (drop 57 w)))
        → joined (line_count (suc fuel) w) (front ++ pieces (suc fuel) w) ≡ w ++ blanks (padding (suc fuel) w)
    go true e more =
        let l : length w ≤ 57 = leb-true (length w) 57 e in
        let piece = w ++ blanks (57 - length w) in
        let size : length piece ≡ 57 = length-append w (blanks (57 - length w)) ∙ ap (λ (n : ℕ). length w + n) (length-replicate (57 - length w) 32) ∙ omega arith in
        rw (e, pieces, line_count, padding, ← append_assoc w (blanks (57 - length w)) (10 ∷ [])) (append-nil _ ∙ first_piece front piece (10 ∷ []) f size)
    go false e more =
        let l : 57 < length w = leb-false (length w) 57 e in
        let d : length (drop 57 w) ≡ length w - 57 = length-drop 57 w in
        let k : length (take 57 w) ≡ 57 = length-take 57 w ∙ omega arith in
        let rest = (10 ∷ margin) ++ pieces fuel (drop 57 w) in
        let tail : drop 73 (front ++ (take 57 w ++ rest)) ≡ margin ++ pieces fuel (drop 57 w) = sym (drop-drop 1 72 (front ++ (take 57 w ++ rest))) ∙ ap (drop 1) (behind-piece front (take 57 w) rest f k) in
        rw (e, pieces, line_count, padding, first_piece front (take 57 w) rest f k, tail, more refl (omega arith), ← append_assoc (take 57 w) (drop 57 w) (blanks (padding fuel (drop 57 w))), take-append-drop 57 w)

-- behind a heading of 15 bytes
pub words_back : (front w : List ℕ) → length front ≡ 15 → (last_byte 32 w ≡ 32 → ⊥) → words_in (front ++ body w) ≡ w
unfolding words_in body
words_back front w f h =
    let fuel = suc (length w) in
    let size : length (front ++ pieces fuel w) ≡ 73 * line_count fuel w = length-append front (pieces fuel w) ∙ ap (λ (n : ℕ). n + length (pieces fuel w)) f ∙ pieces-length fuel w (omega arith) in
    let count : length (front ++ pieces fuel w) / 73 ≡ line_count fuel w = ap (λ (n : ℕ). n / 73) size ∙ omega arith in
    ap (λ (n : ℕ). cut (joined n (front ++ pieces fuel w))) count
    ∙ ap cut (joined-pieces fuel front w f (omega arith))
    ∙ cut-back w (padding fuel w) h
