-- The bits of a byte's class: each is set where the byte has the property, shown at all 256 bytes
-- by a table that antt computes. A greater number has none.
-- Assumes nothing.
use mathlib.Core.Path.{◌≡◌, refl, ◌∙◌, sym, ap}
use mathlib.Core.Bool.{Bool, true, false, not, ◌||◌}
use mathlib.Core.List.{List, ◌∷◌}
use Prim.Native.Nat.{ℕ, zero, suc, ◌<◌, ◌≤◌}
use native.Mathlib.Omega.{arith}
use lib.Bits.{bit_and}
use lib.Dec.{leb, ltb, eqb}
use lib.ListN.{get_or}
use borrow.Author.Tests.{le-leb, lt-leb, leb-true, ltb-true, ltb-false, ne_eqb}
use Rattle.std.specs.Char.{is_ascii_digit, is_ascii_alphanumeric}
use Rattle.lex.specs.Bytes.{class_of, classes_from, class_table, bit, is_letter, is_ident_cont, is_ident_start, is_digit, is_num_cont, is_ws, or, between}
use Rattle.lex.proofs.Laws.{cases, table, table_at, agree, at_each}

classes_from_lem : (b n : ℕ) → classes_from b n ≡ table class_of b n
classes_from_lem b zero = refl
classes_from_lem b (suc n) = ap (λ (l : List ℕ). class_of b ∷ l) (classes_from_lem (suc b) n)

-- what the table has at a byte
class_at : (cs : List ℕ) (b : ℕ) → cs ≡ class_table → b < 256 → get_or cs b 0 ≡ class_of b
unfolding class_table
class_at cs b e h = ap (λ (l : List ℕ). get_or l b 0) (e ∙ classes_from_lem 0 256) ∙ table_at class_of 0 256 b h

-- a byte's class has the bit
abbrev pub has_bit : ℕ → ℕ → Bool
has_bit m b = not (eqb (bit_and (class_of b) m) 0)

-- a bit that is looked up in the table
pub looked : (m : ℕ) (cs : List ℕ) (b : ℕ) → cs ≡ class_table → b < 256 → not (eqb (bit_and (get_or cs b 0) m) 0) ≡ has_bit m b
looked m cs b e h = ap (λ (n : ℕ). not (eqb (bit_and n m) 0)) (class_at cs b e h)

pub below : (low high b : ℕ) → b < low → between low high b ≡ false
unfolding between
below low high b h = rw (lt-leb low b h, between)

pub outside : (low high b : ℕ) → high < b → between low high b ≡ false
unfolding between
outside low high b h = cases (λ (t : Bool). t ≡ false) (leb low b) (λ e. lt-leb b high h) (λ e. refl)

pub within : (low high b : ℕ) → low ≤ b → b ≤ high → between low high b ≡ true
unfolding between
within low high b h k = rw (le-leb low b h, between) (le-leb b high k)

pub from_low : (low high b : ℕ) → between low high b ≡ true → low ≤ b
unfolding between
from_low low high b =
    cases (λ (t : Bool). t ≡ true → low ≤ b) (leb low b) (λ e f. leb-true low b e) (λ e f. let z : ◌≡◌ {A = ℕ} 0 1 = cc in absurd (omega arith))

pub to_high : (low high b : ℕ) → between low high b ≡ true → b ≤ high
unfolding between
to_high low high b =
    cases (λ (t : Bool). t ≡ true → b ≤ high) (leb low b) (λ e f. leb-true b high f) (λ e f. let z : ◌≡◌ {A = ℕ} 0 1 = cc in absurd (omega arith))

-- ---- a number that is no byte

module _ (b : ℕ) (h : 256 ≤ b) where
  no_start : is_ident_start b ≡ false
  unfolding is_ident_start or
  no_start = rw (outside 97 122 b (omega arith), outside 65 90 b (omega arith), ne_eqb b 95 (λ e. omega arith))

  no_digit_lem : is_digit b ≡ false
  unfolding is_digit
  no_digit_lem = outside 48 57 b (omega arith)

  in_no_name : is_ident_cont b ≡ false
  unfolding is_ident_cont or
  in_no_name = rw (no_start, no_digit_lem)

  in_no_number : is_num_cont b ≡ false
  unfolding is_num_cont or
  in_no_number = rw (no_digit_lem, ne_eqb b 46 (λ e. omega arith))

  no_separator : is_ws b ≡ false
  unfolding is_ws or
  no_separator = rw (ne_eqb b 32 (λ e. omega arith), ne_eqb b 9 (λ e. omega arith), ne_eqb b 13 (λ e. omega arith), ne_eqb b 10 (λ e. omega arith))

  no_class : class_of b ≡ 0
  unfolding class_of bit
  no_class = rw (in_no_name, no_start, no_digit_lem, in_no_number, no_separator)

  no-bit : (m : ℕ) → not (eqb (bit_and 0 m) 0) ≡ false → has_bit m b ≡ false
  no-bit m e = rw no_class e

-- ---- each bit stands for its property

everywhere : (m : ℕ) (p : ℕ → Bool) → table (has_bit m) 0 256 ≡ table p 0 256 → not (eqb (bit_and 0 m) 0) ≡ false → ((b : ℕ) → 256 ≤ b → p b ≡ false) → (b : ℕ) → has_bit m b ≡ p b
everywhere m p bytes e others b = go (ltb b 256) refl
  where
    go : (t : Bool) → ltb b 256 ≡ t → has_bit m b ≡ p b
    go true q = agree (has_bit m) p true 256 b bytes (ltb-true b 256 q)
    go false q = let h = ltb-false b 256 q in no-bit b h m e ∙ sym (others b h)

-- the rule of the table: its five bits, each at all bytes
pub class_bits : (b : ℕ) → (has_bit 1 b ≡ is_ident_cont b) × (has_bit 2 b ≡ is_ident_start b) × (has_bit 4 b ≡ is_digit b) × (has_bit 8 b ≡ is_num_cont b) × (has_bit 16 b ≡ is_ws b)
unfolding class_of bit is_ident_cont is_ident_start is_digit is_num_cont is_ws or between
class_bits b = (
  everywhere 1 is_ident_cont refl refl in_no_name b,
  everywhere 2 is_ident_start refl refl no_start b,
  everywhere 4 is_digit refl refl no_digit_lem b,
  everywhere 8 is_num_cont refl refl in_no_number b,
  everywhere 16 is_ws refl refl no_separator b,
)

-- ---- bytes that are tested without the table

-- the library's tests
pub ascii_digit : (b : ℕ) → b < 256 → is_ascii_digit b ≡ is_digit b
unfolding is_digit between
ascii_digit b h = agree is_ascii_digit is_digit true 256 b refl h

pub ascii_name : (b : ℕ) → b < 256 → is_ascii_alphanumeric b || eqb b 95 ≡ is_ident_cont b
unfolding is_ident_cont is_ident_start is_digit or between
ascii_name b h = agree (λ (x : ℕ). is_ascii_alphanumeric x || eqb x 95) is_ident_cont true 256 b refl h

pub letter_class : (b : ℕ) → b < 256 → is_letter b ≡ true → class_of b ≡ 3
unfolding class_of bit is_letter is_ident_cont is_ident_start is_digit is_num_cont is_ws or between
letter_class b h q = at_each is_letter class_of 3 b refl h q

pub digit_class : (b : ℕ) → b < 256 → is_digit b ≡ true → class_of b ≡ 13
unfolding class_of bit is_ident_cont is_ident_start is_digit is_num_cont is_ws or between
digit_class b h q = at_each is_digit class_of 13 b refl h q

pub blank_class : (b : ℕ) → b < 256 → is_ws b ≡ true → class_of b ≡ 16
unfolding class_of bit is_ident_cont is_ident_start is_digit is_num_cont is_ws or between
blank_class b h q = at_each is_ws class_of 16 b refl h q

blanks : (space tab cr lf : Bool) → space || tab || cr || lf ≡ or space (or tab (or cr lf))
unfolding or
blanks true tab cr lf = refl
blanks false true cr lf = refl
blanks false false true lf = refl
blanks false false false lf = refl

pub separates : (b : ℕ) → eqb b 32 || eqb b 9 || eqb b 13 || eqb b 10 ≡ is_ws b
unfolding is_ws
separates b = blanks _ _ _ _

letters : (small capital digit underscore : Bool) → or small capital || digit || underscore ≡ or (or small (or capital underscore)) digit
unfolding or
letters true capital digit underscore = refl
letters false true digit underscore = refl
letters false false true true = refl
letters false false true false = refl
letters false false false true = refl
letters false false false false = refl

pub in_name : (b : ℕ) → is_letter b || is_digit b || eqb b 95 ≡ is_ident_cont b
unfolding is_letter is_ident_cont is_ident_start
in_name b = letters _ _ _ _

pub letter_in_name : (b : ℕ) → is_letter b ≡ true → is_ident_cont b ≡ true
letter_in_name b e = rw (← in_name b, e)

in_number_lem : (digit dot : Bool) → digit || dot ≡ or digit dot
unfolding or
in_number_lem true dot = refl
in_number_lem false dot = refl

pub in_number : (b : ℕ) → is_digit b || eqb b 46 ≡ is_num_cont b
unfolding is_num_cont
in_number b = in_number_lem _ _
