-- The lines of a sheet: 72 printable bytes and a line feed each.
-- Assumes nothing.
use mathlib.Core.Path.{◌≡◌, refl, sym, ◌∙◌, ap}
use mathlib.Core.Bool.{Bool, true, false, ◌&&◌}
use mathlib.Core.List.{List, [], ◌∷◌, ◌++◌, append_assoc}
use Prim.Native.Nat.{ℕ, zero, suc, ◌+◌, ◌-◌, ◌*◌, ◌/◌, ◌%◌, ◌<◌, ◌≤◌}
use native.Mathlib.Nat.{suc-ne-zero, zero-add}
use native.Mathlib.Omega.{arith}
use lib.Dec.{leb, ltb, eqb}
use lib.ListN.{length, get_or, take, drop, length-append, length-take, length-drop, length-replicate, take-append-drop, get_or-eq_default}
use lib.Seq.{take_at, drop_at, drop-drop, drop-cons, get_or_at}
use borrow.Author.Tests.{leb-true, leb-false, le-leb, ltb-true, ltb-false, eqb-true}
use Rattle.positions.specs.declared.Place.{Place}
use Rattle.text.specs.Text.{digits, number}
use Rattle.text.specs.Emit.{plain}
use Rattle.text.proofs.EmitLaws.{and_left, and_right}
use Rattle.words.specs.Words.{printable}
use Rattle.words.proofs.Lines.{printable-append}
use Rattle.words.proofs.Parts.{printable-plain}
use Rattle.sheet.specs.Sheet.{blanks, right, heading, margin, pieces, in_lines}
use Rattle.sheet.proofs.Length.{line_count}

-- ---- printable parts

printable-blanks : (n : ℕ) → printable (blanks n) ≡ true
unfolding printable
printable-blanks zero = refl
printable-blanks (suc n) = printable-blanks n

printable-take : (n : ℕ) (w : List ℕ) → printable w ≡ true → printable (take n w) ≡ true
unfolding printable
printable-take zero w h = refl
printable-take (suc n) [] h = refl
printable-take (suc n) (b ∷ w) h =
    rw (and_left (leb 32 b && leb b 126) (printable w) h) (printable-take n w (and_right (leb 32 b && leb b 126) (printable w) h))

printable-drop : (n : ℕ) (w : List ℕ) → printable w ≡ true → printable (drop n w) ≡ true
unfolding printable
printable-drop zero w h = h
printable-drop (suc n) [] h = refl
printable-drop (suc n) (b ∷ w) h = printable-drop n w (and_right (leb 32 b && leb b 126) (printable w) h)

printable_digit : (n : ℕ) → printable ((48 + n % 10) ∷ []) ≡ true
unfolding printable
printable_digit n = rw (le-leb 32 (48 + n % 10) (omega arith), le-leb (48 + n % 10) 126 (omega arith))

printable-digits : (fuel n : ℕ) → printable (digits fuel n) ≡ true
unfolding digits
printable-digits zero n = printable_digit n
printable-digits (suc fuel) n = go (ltb n 10) refl (printable-digits fuel (n / 10))
  where
    go : (t : Bool) → ltb n 10 ≡ t → printable (digits fuel (n / 10)) ≡ true → printable (digits (suc fuel) n) ≡ true
    go true e h = rw (e, digits) (printable_digit n)
    go false e h = rw (e, digits) (printable-append (digits fuel (n / 10)) ((48 + n % 10) ∷ []) h (printable_digit n))

printable-number : (n : ℕ) → printable (number n) ≡ true
unfolding number
printable-number n = printable-digits n n

printable-right : (n : ℕ) → printable (right (number n)) ≡ true
unfolding right
printable-right n = printable-append (blanks (5 - length (number n))) (number n) (printable-blanks (5 - length (number n))) (printable-number n)

pub printable-heading : (p : Place) (n : ℕ) → printable (heading p n) ≡ true
unfolding heading
printable-heading p n =
    printable-append (right (number p.line)) (blanks 1 ++ (right (number p.column) ++ (blanks 1 ++ (number n ++ blanks 1)))) (printable-right p.line)
    (printable-append (blanks 1) (right (number p.column) ++ (blanks 1 ++ (number n ++ blanks 1))) (printable-blanks 1)
    (printable-append (right (number p.column)) (blanks 1 ++ (number n ++ blanks 1)) (printable-right p.column)
    (printable-append (blanks 1) (number n ++ blanks 1) (printable-blanks 1) (printable-append (number n) (blanks 1) (printable-number n) (printable-blanks 1)))))

-- ---- one line in front

line_then : (n : ℕ) (a rest : List ℕ) → length a ≡ 72 → printable a ≡ true → in_lines n rest ≡ true → in_lines (suc n) (a ++ (10 ∷ rest)) ≡ true
unfolding in_lines
line_then n a rest l p h =
    let next : drop 73 (a ++ (10 ∷ rest)) ≡ rest = sym (drop-drop 1 72 (a ++ (10 ∷ rest))) ∙ ap (drop 1) (drop_at a (10 ∷ rest) 72 l) in
    rw (take_at a (10 ∷ rest) 72 l, p, get_or_at a 10 rest 0 72 l, next) h

-- the first of several lines
record First (n : ℕ) (t : List ℕ) : Type 0 where
  size : length (take 72 t) ≡ 72
  ascii : printable (take 72 t) ≡ true
  is : t ≡ take 72 t ++ (10 ∷ drop 73 t)
  more : in_lines n (drop 73 t) ≡ true

first : (n : ℕ) (t : List ℕ) → in_lines (suc n) t ≡ true → First n t
unfolding in_lines
first n t h =
    let front = and_left (printable (take 72 t) && eqb (get_or t 72 0) 10) (in_lines n (drop 73 t)) h in
    let feed : get_or t 72 0 ≡ 10 = eqb-true (get_or t 72 0) 10 (and_right (printable (take 72 t)) (eqb (get_or t 72 0) 10) front) in
    let long : 72 < length t = longer t feed in
    record {
      size = length-take 72 t ∙ omega arith;
      ascii = and_left (printable (take 72 t)) (eqb (get_or t 72 0) 10) front;
      is = sym (take-append-drop 72 t) ∙ ap (λ (l : List ℕ). take 72 t ++ l) (drop-cons t 72 0 long ∙ ap (λ (b : ℕ). b ∷ drop 73 t) feed);
      more = and_right (printable (take 72 t) && eqb (get_or t 72 0) 10) (in_lines n (drop 73 t)) h;
    }
  where
    longer : (t : List ℕ) → get_or t 72 0 ≡ 10 → 72 < length t
    longer t feed = go (ltb 72 (length t)) refl
      where
        go : (b : Bool) → ltb 72 (length t) ≡ b → 72 < length t
        go true e = ltb-true 72 (length t) e
        go false e = absurd (let z : get_or t 72 0 ≡ 0 = get_or-eq_default t 0 {n = 72} (ltb-false 72 (length t) e) in omega arith)

-- ---- lines behind lines

empty : (t : List ℕ) → in_lines 0 t ≡ true → t ≡ []
unfolding in_lines
empty [] h = refl
empty (b ∷ t) h = absurd (suc-ne-zero (length t) (eqb-true (suc (length t)) 0 h))

append : (n m : ℕ) (a b : List ℕ) → in_lines n a ≡ true → in_lines m b ≡ true → in_lines (n + m) (a ++ b) ≡ true
append zero m a b h k = ap (λ (i : ℕ). in_lines i (a ++ b)) (zero-add m) ∙ ap (λ (l : List ℕ). in_lines m (l ++ b)) (empty a h) ∙ k
append (suc n) m a b h k =
    let f = first n a h in
    let joins : a ++ b ≡ take 72 a ++ (10 ∷ (drop 73 a ++ b)) = ap (λ (l : List ℕ). l ++ b) f.is ∙ append_assoc (take 72 a) (10 ∷ drop 73 a) b in
    let count : suc n + m ≡ suc (n + m) = omega arith in
    ap (λ (i : ℕ). in_lines i (a ++ b)) count ∙ ap (in_lines (suc (n + m))) joins ∙ line_then (n + m) (take 72 a) (drop 73 a ++ b) f.size f.ascii (append n m (drop 73 a) b f.more k)

lines_size : (n : ℕ) (t : List ℕ) → in_lines n t ≡ true → length t ≡ 73 * n
lines_size zero t h = ap length (empty t h)
lines_size (suc n) t h =
    let f = first n t h in
    let s = f.size in
    let m = lines_size n (drop 73 t) f.more in
    ap length f.is ∙ length-append (take 72 t) (10 ∷ drop 73 t) ∙ omega arith

plain-append : (a b : List ℕ) → plain a ≡ true → plain b ≡ true → plain (a ++ b) ≡ true
unfolding plain
plain-append [] b p q = q
plain-append (x ∷ a) b p q = rw (and_left (ltb x 256) (plain a) p) (plain-append a b (and_right (ltb x 256) (plain a) p) q)

-- a text in lines is made of bytes
pub lines_plain : (n : ℕ) (t : List ℕ) → in_lines n t ≡ true → plain t ≡ true
unfolding plain
lines_plain zero t h = rw (empty t h)
lines_plain (suc n) t h = let f = first n t h in rw f.is (plain-append (take 72 t) (10 ∷ drop 73 t) (printable-plain (take 72 t) f.ascii) (lines_plain n (drop 73 t) f.more))

pub record InLines (t : List ℕ) : Type 0 where
  pub count : ℕ
  pub holds : in_lines count t ≡ true

pub no_lines : InLines []
unfolding in_lines
no_lines = record { count = 0; holds = refl }

pub lines_append : {a b : List ℕ} → InLines a → InLines b → InLines (a ++ b)
lines_append {a} {b} f g = record { count = f.count + g.count; holds = append f.count g.count a b f.holds g.holds }

pub counted_lines : {t : List ℕ} → InLines t → in_lines (length t / 73) t ≡ true
counted_lines {t} f =
    let n : length t / 73 ≡ f.count = ap (λ (k : ℕ). k / 73) (lines_size f.count t f.holds) ∙ omega arith in
    ap (λ (k : ℕ). in_lines k t) n ∙ f.holds

-- ---- the pieces behind 15 bytes

pub lines_of : (fuel : ℕ) (front w : List ℕ) → length front ≡ 15 → printable front ≡ true → printable w ≡ true → length w < fuel → in_lines (line_count fuel w) (front ++ pieces fuel w) ≡ true
unfolding pieces in_lines
lines_of zero front w f a p h = absurd (omega arith)
lines_of (suc fuel) front w f a p h = go (leb (length w) 57) refl (lines_of fuel margin (drop 57 w) refl (printable-blanks 15) (printable-drop 57 w p))
  where
    go : (t : Bool) → leb (length w) 57 ≡ t → (length (drop 57 w) < fuel → in_lines (line_count fuel (drop 57 w)) (margin ++ pieces fuel (drop 57 w)) ≡ true)
        → in_lines (line_count (suc fuel) w) (front ++ pieces (suc fuel) w) ≡ true
    go true e more =
        let l : length w ≤ 57 = leb-true (length w) 57 e in
        let piece = w ++ blanks (57 - length w) in
        let size : length piece ≡ 57 = length-append w (blanks (57 - length w)) ∙ ap (λ (n : ℕ). length w + n) (length-replicate (57 - length w) 32) ∙ omega arith in
        let joins : front ++ (w ++ (blanks (57 - length w) ++ (10 ∷ []))) ≡ (front ++ piece) ++ (10 ∷ []) = ap (λ (t : List ℕ). front ++ t) (sym (append_assoc w (blanks (57 - length w)) (10 ∷ []))) ∙ sym (append_assoc front piece (10 ∷ [])) in
        rw (e, pieces, line_count, joins) (line_then 0 (front ++ piece) [] (length-append front piece ∙ omega arith) (printable-append front piece a (printable-append w (blanks (57 - length w)) p (printable-blanks (57 - length w)))) refl)
    go false e more =
        let l : 57 < length w = leb-false (length w) 57 e in
        let d : length (drop 57 w) ≡ length w - 57 = length-drop 57 w in
        let k : length (take 57 w) ≡ 57 = length-take 57 w ∙ omega arith in
        let rest = margin ++ pieces fuel (drop 57 w) in
        let joins : front ++ (take 57 w ++ (10 ∷ rest)) ≡ (front ++ take 57 w) ++ (10 ∷ rest) = sym (append_assoc front (take 57 w) (10 ∷ rest)) in
        rw (e, pieces, line_count, joins) (line_then (line_count fuel (drop 57 w)) (front ++ take 57 w) rest (length-append front (take 57 w) ∙ omega arith) (printable-append front (take 57 w) a (printable-take 57 w p)) (more (omega arith)))
