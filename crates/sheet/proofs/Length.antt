-- How long the parts of a sheet are: a heading has 15 bytes, and every line 73 with its line feed.
-- Assumes nothing.
use mathlib.Core.Path.{◌≡◌, refl, sym, ◌∙◌, ap}
use mathlib.Core.Bool.{Bool, true, false}
use mathlib.Core.List.{List, [], ◌∷◌, ◌++◌}
use Prim.Native.Nat.{ℕ, zero, suc, ◌+◌, ◌-◌, ◌*◌, ◌/◌, ◌%◌, ◌^◌, ◌<◌, ◌≤◌, max}
use native.Mathlib.Omega.{arith}
use Rattle.std.proofs.Math.Nat.{pow-succ'}
use lib.Dec.{leb, ltb, eqb}
use lib.ListN.{length, take, drop, length-append, length-take, length-drop, length-replicate}
use borrow.Author.Tests.{leb-true, leb-false, ltb-true, ltb-false, ne_eqb}
use Rattle.positions.specs.declared.Place.{Place}
use Rattle.text.specs.Text.{number}
use Rattle.text.proofs.EmitLaws.{one_digit, more_digits}
use Rattle.sheet.specs.Sheet.{blanks, right, heading, margin, pieces, blank}

-- ---- numbers in decimal

pub digits_one : (n : ℕ) → n < 10 → length (number n) ≡ 1
digits_one n h = ap length (sym (one_digit n h))

digits_more : (n : ℕ) → 10 ≤ n → length (number n) ≡ length (number (n / 10)) + 1
digits_more n h = ap length (sym (more_digits n h)) ∙ length-append (number (n / 10)) ((48 + n % 10) ∷ [])

pub digits_two : (n : ℕ) → 10 ≤ n → n < 100 → length (number n) ≡ 2
digits_two n l h = digits_more n l ∙ ap (λ (k : ℕ). k + 1) (digits_one (n / 10) (omega arith))

some-power : (k : ℕ) → 1 ≤ 10 ^ k
some-power zero = omega arith
some-power (suc k) = omega (arith, pow-succ' 10 k, some-power k)

-- one more than the logarithm to the base ten
pub digits_log : (k n : ℕ) → 10 ^ k ≤ max n 1 → max n 1 < 10 * 10 ^ k → length (number n) ≡ suc k
digits_log zero n l h = digits_one n (omega arith)
digits_log (suc k) n l h =
    let p = pow-succ' 10 k in
    let q = some-power k in
    let front = digits_log k (n / 10) (omega (arith, p, q)) (omega (arith, p, q)) in
    digits_more n (omega (arith, p, q)) ∙ omega (arith, front)

few-digits : (k n : ℕ) → n < 10 * 10 ^ k → length (number n) ≤ suc k
few-digits k n h = go k n (ltb n 10) refl h
  where
    go : (k n : ℕ) (t : Bool) → ltb n 10 ≡ t → n < 10 * 10 ^ k → length (number n) ≤ suc k
    go k n true e h = omega (arith, digits_one n (ltb-true n 10 e))
    go zero n false e h = absurd (omega (arith, ltb-false n 10 e))
    go (suc k) n false e h =
        omega (arith, digits_more n (ltb-false n 10 e), go k (n / 10) (ltb (n / 10) 10) refl (omega (arith, pow-succ' 10 k)))

-- ---- a heading

right-length : (n : ℕ) → n < 100000 → length (right (number n)) ≡ 5
unfolding right
right-length n h =
    let a = length-append (blanks (5 - length (number n))) (number n) in
    let b : length (blanks (5 - length (number n))) ≡ 5 - length (number n) = length-replicate (5 - length (number n)) 32 in
    let c = few-digits 4 n h in
    omega arith

pub heading-length : (p : Place) (n : ℕ) → p.line < 100000 → p.column < 100000 → 10 ≤ n → n < 100 → length (heading p n) ≡ 15
unfolding heading
heading-length p n l c a b =
    let i = length-append (right (number p.line)) (blanks 1 ++ (right (number p.column) ++ (blanks 1 ++ (number n ++ blanks 1)))) in
    let j = length-append (right (number p.column)) (blanks 1 ++ (number n ++ blanks 1)) in
    let k = length-append (number n) (blanks 1) in
    let x = right-length p.line l in
    let y = right-length p.column c in
    let z = digits_two n a b in
    omega arith

-- ---- a heading is not blank

blank-left : (a b : List ℕ) → blank a ≡ false → blank (a ++ b) ≡ false
unfolding blank
blank-left [] b h = absurd (let z : ◌≡◌ {A = ℕ} 0 1 = cc in omega arith)
blank-left (x ∷ a) b h = go (eqb x 32) refl (blank-left a b)
  where
    go : (t : Bool) → eqb x 32 ≡ t → (blank a ≡ false → blank (a ++ b) ≡ false) → blank (x ∷ (a ++ b)) ≡ false
    go true e more = rw (e, blank) (more (rw (e, blank) at h))
    go false e more = rw (e, blank)

blank-right : (a b : List ℕ) → blank b ≡ false → blank (a ++ b) ≡ false
unfolding blank
blank-right [] b h = h
blank-right (x ∷ a) b h = go (eqb x 32) refl (blank-right a b h)
  where
    go : (t : Bool) → eqb x 32 ≡ t → blank (a ++ b) ≡ false → blank (x ∷ (a ++ b)) ≡ false
    go true e more = rw (e, blank) more
    go false e more = rw (e, blank)

digit_seen : (n : ℕ) → blank ((48 + n) ∷ []) ≡ false
unfolding blank
digit_seen n = rw (ne_eqb (48 + n) 32 (λ e. omega arith), blank)

number-seen : (n : ℕ) → blank (number n) ≡ false
number-seen n = go (ltb n 10) refl
  where
    go : (t : Bool) → ltb n 10 ≡ t → blank (number n) ≡ false
    go true e = ap blank (sym (one_digit n (ltb-true n 10 e))) ∙ digit_seen (n % 10)
    go false e = ap blank (sym (more_digits n (ltb-false n 10 e))) ∙ blank-right (number (n / 10)) ((48 + n % 10) ∷ []) (digit_seen (n % 10))

pub heading-seen : (p : Place) (n : ℕ) → blank (heading p n) ≡ false
unfolding heading right
heading-seen p n =
    blank-left (right (number p.line)) (blanks 1 ++ (right (number p.column) ++ (blanks 1 ++ (number n ++ blanks 1))))
    (blank-right (blanks (5 - length (number p.line))) (number p.line) (number-seen p.line))

-- ---- the pieces

-- how many lines they take
abbrev pub line_count : ℕ → List ℕ → ℕ
line_count zero w = 0
line_count (suc fuel) w = elim (leb (length w) 57) [ true ↦ 1 | false ↦ suc (line_count fuel (drop 57 w)) ]

pub pieces-length : (fuel : ℕ) (w : List ℕ) → length w < fuel → 15 + length (pieces fuel w) ≡ 73 * line_count fuel w
unfolding pieces
pieces-length zero w h = absurd (omega arith)
pieces-length (suc fuel) w h = go (leb (length w) 57) refl (pieces-length fuel (drop 57 w))
  where
    go : (t : Bool) → leb (length w) 57 ≡ t → (length (drop 57 w) < fuel → 15 + length (pieces fuel (drop 57 w)) ≡ 73 * line_count fuel (drop 57 w)) → 15 + length (pieces (suc fuel) w) ≡ 73 * line_count (suc fuel) w
    go true e more =
        let l : length w ≤ 57 = leb-true (length w) 57 e in
        let a = length-append w (blanks (57 - length w) ++ (10 ∷ [])) in
        let b = length-append (blanks (57 - length w)) (10 ∷ []) in
        let c : length (blanks (57 - length w)) ≡ 57 - length w = length-replicate (57 - length w) 32 in
        rw (e, pieces, line_count) (omega arith)
    go false e more =
        let l : 57 < length w = leb-false (length w) 57 e in
        let d : length (drop 57 w) ≡ length w - 57 = length-drop 57 w in
        let k : length (take 57 w) ≡ 57 = length-take 57 w ∙ omega arith in
        let a = length-append (take 57 w) ((10 ∷ margin) ++ pieces fuel (drop 57 w)) in
        let m : 15 + length (pieces fuel (drop 57 w)) ≡ 73 * line_count fuel (drop 57 w) = more (omega arith) in
        rw (e, pieces, line_count) (omega arith)
