-- Every line is at most 160 bytes of printable ASCII with no blank at either end.
-- Assumes nothing.
use mathlib.Core.Path.{◌≡◌, refl, ◌∙◌, ap}
use mathlib.Core.Bool.{Bool, true, false, not, ◌&&◌}
use mathlib.Core.Option.{some}
use mathlib.Core.List.{List, [], ◌∷◌, ◌++◌}
use Prim.Native.Nat.{ℕ, ◌<◌, ◌≤◌}
use native.Mathlib.Omega.{arith}
use lib.Dec.{leb, eqb}
use lib.ListN.{length, get_or, length-append}
use borrow.Author.Tests.{leb-true, eqb-false, not-true, le-leb, ne_eqb}
use Rattle.lex.proofs.Laws.{agree}
use Rattle.lex.specs.declared.diagnostic.Diagnostic.{Diagnostic}
use Rattle.text.specs.Text.{bytes}
use Rattle.text.proofs.EmitLaws.{and_left, and_right}
use Rattle.words.specs.Words.{phrases, phrase, kind_names, kind_name, hex_digit, hex, but_found, details, line, is_kind, is_script_error, words, printable, last_byte, IsLine}
use Rattle.words.proofs.Tables.{at_those}
use Rattle.words.proofs.Forms.{Form, two, one, byte, bare, worded, script-error-small, kind-small}

-- ---- two texts, one behind the other

pub printable-append : (a b : List ℕ) → printable a ≡ true → printable b ≡ true → printable (a ++ b) ≡ true
unfolding printable
printable-append [] b p q = q
printable-append (x ∷ a) b p q =
    let l = and_left (leb 32 x && leb x 126) (printable a) p in
    rw l (printable-append a b (and_right (leb 32 x && leb x 126) (printable a) p) q)

last_byte-append : (c : ℕ) (a b : List ℕ) → last_byte c (a ++ b) ≡ last_byte (last_byte c a) b
unfolding last_byte
last_byte-append c [] b = refl
last_byte-append c (x ∷ a) b = last_byte-append x a b

first-append : (a b : List ℕ) → (get_or a 0 32 ≡ 32 → ⊥) → get_or (a ++ b) 0 32 ≡ 32 → ⊥
first-append [] b h e = h refl
first-append (x ∷ a) b h e = h e

-- ---- the tables, computed

-- a phrase is at most 90 bytes, printable, and does not begin with a blank
sound : List ℕ → Bool
sound p = (leb (length p) 90 && printable p) && not (eqb (get_or p 0 32) 32)

-- a name or a byte is at most 24 bytes, printable
fit : List ℕ → Bool
fit p = leb (length p) 24 && printable p

-- it does not end with a blank, whatever stands before it
Ends : List ℕ → Type 0
Ends p = (c : ℕ) → eqb (last_byte c p) 32 ≡ false

module _ (n : ℕ) (h : is_script_error n ≡ true) where
  phrase-sound : sound (phrase n) ≡ true
  unfolding sound phrase phrases bytes is_script_error printable
  phrase-sound = at_those is_script_error (λ (x : ℕ). sound (phrase x)) (λ (x : ℕ). true) true 35 n refl (script-error-small n h) h

  phrase-short : length (phrase n) ≤ 90
  unfolding sound
  phrase-short = leb-true _ _ (and_left (leb (length (phrase n)) 90) _ (and_left _ _ phrase-sound))

  phrase-ascii : printable (phrase n) ≡ true
  unfolding sound
  phrase-ascii = and_right (leb (length (phrase n)) 90) (printable (phrase n)) (and_left _ _ phrase-sound)

  phrase-first : get_or (phrase n) 0 32 ≡ 32 → ⊥
  unfolding sound
  phrase-first = eqb-false _ _ (not-true _ (and_right (leb (length (phrase n)) 90 && printable (phrase n)) (not (eqb (get_or (phrase n) 0 32) 32)) phrase-sound))

-- one that nothing follows does not end with a blank
bare_ends : (n : ℕ) → is_script_error n ≡ true → (n ≡ 33 → ⊥) → 23 < n → eqb (last_byte 32 (phrase n)) 32 ≡ false
unfolding phrase phrases bytes is_script_error last_byte
bare_ends n h k l = at_those alone (λ (x : ℕ). eqb (last_byte 32 (phrase x)) 32) (λ (x : ℕ). false) true 35 n refl (script-error-small n h) is_alone
  where
    alone : ℕ → Bool
    alone x = (is_script_error x && leb 24 x) && not (eqb x 33)

    is_alone : alone n ≡ true
    is_alone = rw (h, le-leb 24 n l, ne_eqb n 33 k)

module _ (k : ℕ) (h : is_kind k ≡ true) where
  name_fit : fit (kind_name k) ≡ true
  unfolding fit kind_name kind_names bytes is_kind printable
  name_fit = at_those is_kind (λ (x : ℕ). fit (kind_name x)) (λ (x : ℕ). true) true 44 k refl (kind-small k h) h

  name-ends : Ends (kind_name k)
  unfolding kind_name kind_names bytes is_kind last_byte Ends
  name-ends c = ap (λ (f : ℕ → Bool). f c) (at_those is_kind (λ (x : ℕ). λ (d : ℕ). eqb (last_byte d (kind_name x)) 32) (λ (x : ℕ). λ (d : ℕ). false) (λ (d : ℕ). true) 44 k refl (kind-small k h) h)

module _ (b : ℕ) (h : b < 256) where
  hex_fit : fit (hex b) ≡ true
  unfolding fit hex hex_digit printable
  hex_fit = agree (λ (x : ℕ). fit (hex x)) (λ (x : ℕ). true) true 256 b refl h

  hex-ends : Ends (hex b)
  unfolding hex hex_digit last_byte Ends
  hex-ends c = ap (λ (f : ℕ → Bool). f c) (agree (λ (x : ℕ). λ (d : ℕ). eqb (last_byte d (hex x)) 32) (λ (x : ℕ). λ (d : ℕ). false) (λ (d : ℕ). true) 256 b refl h)

module _ (p : List ℕ) (h : fit p ≡ true) where
  fit_short : length p ≤ 24
  unfolding fit
  fit_short = leb-true _ _ (and_left (leb (length p) 24) (printable p) h)

  fit_ascii : printable p ≡ true
  unfolding fit
  fit_ascii = and_right (leb (length p) 24) (printable p) h

-- ---- the whole line

module _ (n : ℕ) (h : is_script_error n ≡ true) where
  joined : (d : List ℕ) → length d ≤ 70 → printable d ≡ true → eqb (last_byte (last_byte 32 (phrase n)) d) 32 ≡ false → IsLine (phrase n ++ d)
  joined d short ascii ends = record {
    short = let l = length-append (phrase n) d in let m = phrase-short n h in omega arith;
    ascii = printable-append (phrase n) d (phrase-ascii n h) ascii;
    first = first-append (phrase n) d (phrase-first n h);
    last = eqb-false _ _ (ap (λ (b : ℕ). eqb b 32) (last_byte-append 32 (phrase n) d) ∙ ends);
  }

  of_form : {w s : ℕ} → Form n w s → IsLine (phrase n ++ details n w s)
  unfolding but_found bytes printable Ends last_byte
  of_form {w} {s} (two a p q d) =
      rw d (joined (kind_name w ++ (but_found ++ kind_name s))
      (let i = length-append (kind_name w) (but_found ++ kind_name s) in let j = length-append but_found (kind_name s) in let k = fit_short (kind_name w) (name_fit w p) in let l = fit_short (kind_name s) (name_fit s q) in omega arith)
      (printable-append (kind_name w) (but_found ++ kind_name s) (fit_ascii (kind_name w) (name_fit w p)) (printable-append but_found (kind_name s) refl (fit_ascii (kind_name s) (name_fit s q))))
      (ap (λ (b : ℕ). eqb b 32) (last_byte-append (last_byte 32 (phrase n)) (kind_name w) (but_found ++ kind_name s) ∙ last_byte-append (last_byte (last_byte 32 (phrase n)) (kind_name w)) but_found (kind_name s)) ∙ name-ends s q _))
  of_form {w} {s} (one a l z q d) = rw d (joined (kind_name s) (let k = fit_short (kind_name s) (name_fit s q) in omega arith) (fit_ascii (kind_name s) (name_fit s q)) (name-ends s q _))
  of_form {w} {s} (byte a z l d) = rw d (joined (hex s) (let k = fit_short (hex s) (hex_fit s l) in omega arith) (fit_ascii (hex s) (hex_fit s l)) (hex-ends s l _))
  of_form {w} {s} (bare a l z q d) = rw d (joined [] (omega arith) refl (bare_ends n h a l))

-- the words of every error make a line
pub is_line : (e : Diagnostic) (w : List ℕ) → words e ≡ some w → IsLine w
unfolding line
is_line e w p = let r = worded e w p in rw r.is (of_form e.number r.listed r.has)
