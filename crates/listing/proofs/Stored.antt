-- Records of one width behind one another: where each lies, whatever follows.
use mathlib.Core.Path.{◌≡◌, refl, sym, ◌∙◌, ap}
use mathlib.Core.Option.{some}
use mathlib.Core.List.{List, [], ◌∷◌, ◌++◌, map, flatten, append_assoc}
use Prim.Native.Nat.{ℕ, zero, suc, ◌+◌, ◌*◌, ◌<◌, ◌≤◌}
use native.Mathlib.Nat.{mul-zero, mul-suc, le_of_suc-le-suc, not-suc-le-zero}
use native.Mathlib.Omega.{arith}
use lib.ListN.{length, get_or, take, drop, get_elem?, length-append}
use lib.Seq.{take_at, drop-append-add}

-- member `i` of a list, and the cells at its place
pub record Stored {A : Type 0} (width : ℕ) (cells_of : A → List ℕ) (xs : List A) (cells : List ℕ) (i : ℕ) : Type 0 where
  pub member : A
  pub is : get_elem? xs i ≡ some member
  pub here : take width (drop (width * i) cells) ≡ cells_of member
  pub room : width * i + width ≤ length cells

-- the member by a default
pub get_d_is : {A : Type 0} (xs : List A) (i : ℕ) (d : A) {a : A} → get_elem? xs i ≡ some a → get_or xs i d ≡ a
get_d_is [] i d e = cc
get_d_is (x ∷ xs) zero d e = cc
get_d_is (x ∷ xs) (suc i) d e = get_d_is xs i d e

module _ {A : Type 0} (width : ℕ) (cells_of : A → List ℕ) (wide : (a : A) → length (cells_of a) ≡ width) where
  pub length_stored : (xs : List A) → length (flatten (map cells_of xs)) ≡ width * length xs
  unfolding flatten
  length_stored [] = sym (mul-zero width)
  length_stored (x ∷ xs) = length-append (cells_of x) (flatten (map cells_of xs)) ∙ omega (arith, wide x, length_stored xs, mul-suc width (length xs))

  module _ (zs : List ℕ) where
    step : (x : A) (xs : List A) (i : ℕ) → drop (width * suc i) (flatten (map cells_of (x ∷ xs)) ++ zs) ≡ drop (width * i) (flatten (map cells_of xs) ++ zs)
    unfolding flatten
    step x xs i =
        let e : width * suc i ≡ length (cells_of x) + width * i = omega (arith, wide x, mul-suc width i) in
        ap (λ (l : List ℕ). drop (width * suc i) l) (append_assoc (cells_of x) (flatten (map cells_of xs)) zs)
        ∙ ap (λ (n : ℕ). drop n (cells_of x ++ (flatten (map cells_of xs) ++ zs))) e
        ∙ drop-append-add (cells_of x) (flatten (map cells_of xs) ++ zs) (width * i)

    first : (x : A) (xs : List A) → take width (drop (width * 0) (flatten (map cells_of (x ∷ xs)) ++ zs)) ≡ cells_of x
    unfolding flatten
    first x xs =
        ap (λ (n : ℕ). take width (drop n ((cells_of x ++ flatten (map cells_of xs)) ++ zs))) (mul-zero width)
        ∙ ap (take width) (append_assoc (cells_of x) (flatten (map cells_of xs)) zs)
        ∙ take_at (cells_of x) (flatten (map cells_of xs) ++ zs) width (wide x)

    longer : (x : A) (xs : List A) → length (flatten (map cells_of (x ∷ xs)) ++ zs) ≡ width + length (flatten (map cells_of xs) ++ zs)
    unfolding flatten
    longer x xs = ap length (append_assoc (cells_of x) (flatten (map cells_of xs)) zs) ∙ length-append (cells_of x) (flatten (map cells_of xs) ++ zs) ∙ ap (λ (n : ℕ). n + length (flatten (map cells_of xs) ++ zs)) (wide x)

    pub stored : (xs : List A) (i : ℕ) → i < length xs → Stored width cells_of xs (flatten (map cells_of xs) ++ zs) i
    stored [] i h = absurd (not-suc-le-zero h)
    stored (x ∷ xs) zero h = record { member = x; is = refl; here = first x xs; room = omega (arith, mul-zero width, longer x xs) }
    stored (x ∷ xs) (suc i) h =
        let s = stored xs i (le_of_suc-le-suc h) in
        record { member = s.member; is = s.is; here = ap (take width) (step x xs i) ∙ s.here; room = omega (arith, s.room, mul-suc width i, longer x xs) }
