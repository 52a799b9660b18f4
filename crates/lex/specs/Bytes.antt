-- The classes of bytes, runs of bytes, and the first place of a byte.
use Rattle.std.specs.Prelude.{◌≡◌, Bool, true, false, not, ◌&&◌, List, [], ◌∷◌, ℕ, zero, suc, ◌+◌, leb, ltb, eqb, length, Option, Some, None}

abbrev pub if : {A : Type 0} → Bool → A → A → A
if true a b = a
if false a b = b

unfoldable pub or : Bool → Bool → Bool
or true b = true
or false b = b

unfoldable pub between : ℕ → ℕ → ℕ → Bool
between low high b = elim (leb low b) [ true ↦ leb b high | false ↦ false ]

-- space, tab, CR, LF
unfoldable pub is_ws : ℕ → Bool
is_ws b = or (eqb b 32) (or (eqb b 9) (or (eqb b 13) (eqb b 10)))

unfoldable pub is_digit : ℕ → Bool
is_digit b = between 48 57 b

unfoldable pub is_letter : ℕ → Bool
is_letter b = or (between 97 122 b) (between 65 90 b)

unfoldable pub is_ident_start : ℕ → Bool
is_ident_start b = or (between 97 122 b) (or (between 65 90 b) (eqb b 95))

unfoldable pub is_ident_cont : ℕ → Bool
is_ident_cont b = or (is_ident_start b) (is_digit b)

unfoldable pub is_num_cont : ℕ → Bool
is_num_cont b = or (is_digit b) (eqb b 46)

-- a class bit, where the byte has the property
unfoldable pub bit : Bool → ℕ → ℕ
bit true n = n
bit false n = 0

-- the five bits of a byte's class
unfoldable pub class_of : ℕ → ℕ
class_of b =
    bit (is_ident_cont b) 1
    + bit (is_ident_start b) 2
    + bit (is_digit b) 4
    + bit (is_num_cont b) 8
    + bit (is_ws b) 16

-- the classes of `n` bytes from `b` on
abbrev pub classes_from : ℕ → ℕ → List ℕ
classes_from b zero = []
classes_from b (suc n) = class_of b ∷ classes_from (suc b) n

-- the table of all classes
unfoldable pub class_table : List ℕ
class_table = classes_from 0 256

-- what a test may answer of a byte is whether it has the property
abbrev pub Computes : (ℕ → Bool → Type 0) → (ℕ → Bool) → Type 0
Computes post p = (b : ℕ) (r : Bool) → post b r → r ≡ p b

-- how many bytes in front have the property
unfoldable pub count_while : (ℕ → Bool) → List ℕ → ℕ
count_while p [] = 0
count_while p (b ∷ bs) = elim (p b) [ true ↦ suc (count_while p bs) | false ↦ 0 ]

unfoldable pub differs_from : ℕ → ℕ → Bool
differs_from b x = not (eqb x b)

-- a byte of ASCII other than `except`
unfoldable pub is_plain : ℕ → ℕ → Bool
is_plain except b = ltb b 0x80 && differs_from except b

-- how many bytes stand before the first `b`; all of them where there is none
unfoldable pub before : ℕ → List ℕ → ℕ
before b bs = count_while (differs_from b) bs

-- the place of the first `b`
unfoldable pub find_byte : ℕ → List ℕ → Option ℕ
find_byte b bs = elim (ltb (before b bs) (length bs)) [ true ↦ Some (before b bs) | false ↦ None ]
