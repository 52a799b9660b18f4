-- Laws of texts of bytes: one behind another, numbers, and a text that is counted on no buffer
-- before it is written.
use mathlib.Core.Path.{◌≡◌, refl, ◌∙◌, ap}
use mathlib.Core.Bool.{Bool, true, false}
use mathlib.Core.List.{List, [], ◌∷◌, ◌++◌}
use Prim.Native.Nat.{ℕ, zero, suc, ◌+◌, ◌/◌, ◌%◌, ◌≤◌}
use native.Mathlib.Omega.{arith}
use lib.Dec.{ltb}
use lib.ListN.{length}
use borrow.Author.Tests.{lt-ltb}
use Rattle.std.proofs.lemmas.List.{nil_from_length}
use Rattle.text.specs.Text.{digits, number}
use Rattle.text.specs.Emit.{Output, last, Emits, plain}
use Rattle.text.proofs.EmitLaws.{and_left, and_right, same_size, bytes_count}

pub plain-append : (a b : List ℕ) → plain a ≡ true → plain b ≡ true → plain (a ++ b) ≡ true
unfolding plain
plain-append [] b p q = q
plain-append (x ∷ a) b p q = rw (and_left (ltb x 256) (plain a) p) (plain-append a b (and_right (ltb x 256) (plain a) p) q)

-- ---- numbers

-- the digits before the last
abbrev front : ℕ → ℕ → Bool → List ℕ
front fuel n t = elim t as (λ (_ : Bool). List ℕ) [ true ↦ [] | false ↦ digits fuel (n / 10) ]

front-plain : (fuel n : ℕ) (t : Bool) → plain (digits fuel (n / 10)) ≡ true → plain (front fuel n t) ≡ true
unfolding plain
front-plain fuel n true h = refl
front-plain fuel n false h = h

digits-plain : (fuel n : ℕ) → plain (digits fuel n) ≡ true
unfolding digits plain
digits-plain zero n = rw (lt-ltb (48 + n % 10) 256 (omega arith))
digits-plain (suc fuel) n =
    plain-append (front fuel n (ltb n 10)) ((48 + n % 10) ∷ [])
    (front-plain fuel n (ltb n 10) (digits-plain fuel (n / 10)))
    (rw (lt-ltb (48 + n % 10) 256 (omega arith)))

pub number-plain : (n : ℕ) → plain (number n) ≡ true
unfolding number
number-plain n = digits-plain n n

-- ---- counted on no buffer

module _ {text y : List ℕ} {n : ℕ} (measured : Emits text [] 0 y n) where
  -- lending no part of a buffer leaves it
  pub kept : (x : List ℕ) → y ++ x ≡ x
  kept x = ap (λ (l : List ℕ). l ++ x) (nil_from_length y (same_size measured))

  -- the count is the text's length
  pub counted : plain text ≡ true → length text ≤ last → n ≡ length text
  counted e h =
      ap (λ (o : Output). o.at) measured.emitted
      ∙ bytes_count text (record { buffer = []; at = 0 }) e (omega arith)
      ∙ omega arith
