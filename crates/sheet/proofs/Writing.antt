-- Laws that the functions' proofs cite: the words of an error, piece by piece.
-- Assumes nothing.
use mathlib.Core.Path.{◌≡◌, refl, sym, ◌∙◌, ap}
use mathlib.Core.List.{List, [], ◌∷◌, ◌++◌, append_assoc}
use Prim.Native.Nat.{ℕ, zero, suc, ◌-◌, ◌<◌, ◌≤◌}
use native.Mathlib.Omega.{arith}
use lib.ListN.{length, take, drop, length-drop}
use borrow.Author.Tests.{le-leb, lt-leb}
use Rattle.text.specs.declared.Writer.{Writer}
use Rattle.text.specs.Emit.{Writes}
use Rattle.text.proofs.EmitLaws.{and_then, writes_nothing, writes_by}
use Rattle.sheet.specs.Sheet.{blanks, margin, pieces, body}

-- ---- one piece

pub last-piece : (fuel : ℕ) (w : List ℕ) → length w < fuel → length w ≤ 57 → w ++ (blanks (57 - length w) ++ (10 ∷ [])) ≡ pieces fuel w
unfolding pieces
last-piece zero w f h = absurd (omega arith)
last-piece (suc fuel) w f h = rw (le-leb (length w) 57 h, pieces)

full_piece : (fuel : ℕ) (w : List ℕ) → 57 < length w → take 57 w ++ ((10 ∷ margin) ++ pieces fuel (drop 57 w)) ≡ pieces (suc fuel) w
unfolding pieces
full_piece fuel w h = rw (lt-leb (length w) 57 h, pieces)

-- ---- the loop: pieces are written, and `rest` is not

pub record Pieces (words rest : List ℕ) (before after : Writer) : Type 0 where
  pub text : List ℕ
  pub fuel : ℕ
  pub enough : length rest < fuel
  pub writes : Writes text before after
  pub whole : text ++ pieces fuel rest ≡ body words

pub pieces_none : (w : List ℕ) {u : Writer} → Pieces w w u u
unfolding body
pieces_none w = record { text = []; fuel = suc (length w); enough = omega arith; writes = writes_nothing; whole = refl }

module _ {words rest : List ℕ} {u v : Writer} (p : Pieces words rest u v) where
  pub pieces-next : {x y z : Writer} → 57 < length rest → Writes (take 57 rest) v x → Writes (10 ∷ []) x y → Writes (blanks 15) y z → Pieces words (drop 57 rest) u z
  pieces-next {x} {y} {z} h a b d = go p.fuel refl
    where
      go : (n : ℕ) → p.fuel ≡ n → Pieces words (drop 57 rest) u z
      go zero e = absurd (let k = p.enough in omega arith)
      go (suc n) e =
          let k = p.enough in
          let l = length-drop 57 rest in
          let piece = take 57 rest in
          let behind = pieces n (drop 57 rest) in
          let joins : (p.text ++ (piece ++ ((10 ∷ []) ++ margin))) ++ behind ≡ body words =
          append_assoc p.text (piece ++ ((10 ∷ []) ++ margin)) behind
          ∙ ap (λ (s : List ℕ). p.text ++ s) (append_assoc piece ((10 ∷ []) ++ margin) behind ∙ full_piece n rest h)
          ∙ ap (λ (f : ℕ). p.text ++ pieces f rest) (sym e)
          ∙ p.whole in
          record { text = p.text ++ (piece ++ ((10 ∷ []) ++ margin)); fuel = n; enough = omega arith; writes = and_then p.writes (and_then a (and_then b d)); whole = joins }

  pub pieces-last : {x y z : Writer} → length rest ≤ 57 → Writes rest v x → Writes (blanks (57 - length rest)) x y → Writes (10 ∷ []) y z → Writes (body words) u z
  pieces-last h a b d =
      writes_by (ap (λ (s : List ℕ). p.text ++ s) (last-piece p.fuel rest p.enough h) ∙ p.whole) (and_then p.writes (and_then a (and_then b d)))
