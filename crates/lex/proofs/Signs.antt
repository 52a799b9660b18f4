-- Which piece the first byte decides: a sign begins nothing else, and a byte that is none makes no
-- sign of two bytes.
-- Assumes nothing.
use mathlib.Core.Path.{◌≡◌, refl, ◌∙◌, sym, ap}
use mathlib.Core.Bool.{Bool, true, false}
use mathlib.Core.List.{List}
use Prim.Native.Nat.{ℕ, suc, ◌<◌}
use native.Mathlib.Omega.{arith}
use lib.Dec.{ltb, eqb}
use lib.ListN.{get_or}
use borrow.Author.Tests.{lt-ltb, ne_eqb}
use Rattle.lex.specs.Errors.{e_unknown_character}
use Rattle.lex.specs.declared.tok.Piece.{Piece}
use Rattle.lex.specs.Bytes.{or, between, is_digit, is_ident_start, count_while, differs_from, before, find_byte}
use Rattle.lex.specs.Kind.{punctuators, punctuator_kinds, punctuator_kind}
use Rattle.lex.specs.Lex.{punctuator, punctuation, symbol, piece}
use Rattle.lex.proofs.Laws.{cases, at_each}

-- ---- a sign

abbrev is_sign : ℕ → Bool
is_sign b = ltb 0 (punctuator_kind b)

sign_no_name : (b : ℕ) → b < 256 → is_sign b ≡ true → is_ident_start b ≡ false
unfolding punctuator_kind punctuators punctuator_kinds find_byte before count_while differs_from is_ident_start or between
sign_no_name b h k = at_each is_sign is_ident_start false b refl h k

sign_no_number : (b : ℕ) → b < 256 → is_sign b ≡ true → is_digit b ≡ false
unfolding punctuator_kind punctuators punctuator_kinds find_byte before count_while differs_from is_digit between
sign_no_number b h k = at_each is_sign is_digit false b refl h k

sign_no_string : (b : ℕ) → b < 256 → is_sign b ≡ true → eqb b 34 ≡ false
unfolding punctuator_kind punctuators punctuator_kinds find_byte before count_while differs_from
sign_no_string b h k = at_each is_sign (λ (x : ℕ). eqb x 34) false b refl h k

sign_no_doc : (b : ℕ) → b < 256 → is_sign b ≡ true → eqb b 35 ≡ false
unfolding punctuator_kind punctuators punctuator_kinds find_byte before count_while differs_from
sign_no_doc b h k = at_each is_sign (λ (x : ℕ). eqb x 35) false b refl h k

pub sign_piece : (bs : List ℕ) → get_or bs 0 0 < 256 → 0 < punctuator_kind (get_or bs 0 0) → piece bs ≡ punctuation (get_or bs 0 0) (get_or bs 1 0)
unfolding piece symbol
sign_piece bs h k =
    let b = get_or bs 0 0 in
    let s = lt-ltb 0 (punctuator_kind b) k in
    rw (sign_no_name b h s, sign_no_number b h s, sign_no_string b h s, sign_no_doc b h s, piece, symbol)

pub sign : (b kind : ℕ) → kind ≡ punctuator_kind b → 0 < kind → Piece.Token kind 1 1 ≡ punctuator b
unfolding punctuator
sign b kind e h = rw (lt-ltb 0 (punctuator_kind b) (rw e at h), punctuator) (ap (λ (k : ℕ). Piece.Token k 1 1) e)

-- ---- a digit

pub digit_no_name : (b : ℕ) → b < 256 → is_digit b ≡ true → is_ident_start b ≡ false
unfolding is_digit is_ident_start or between
digit_no_name b h k = at_each is_digit is_ident_start false b refl h k

-- ---- a quote

pub quote_no_name : (b : ℕ) → b ≡ 34 → is_ident_start b ≡ false
unfolding is_ident_start or between
quote_no_name b e = rw e

-- ---- a byte that is no sign

pub no_sign : (b : ℕ) → punctuator_kind b ≡ 0 → punctuator b ≡ Piece.Fault e_unknown_character 1 b 1
unfolding punctuator
no_sign b e = rw (e, punctuator)

equal : punctuator_kind 61 ≡ 9
unfolding punctuator_kind punctuators punctuator_kinds find_byte before count_while differs_from
equal = refl

exclaim : punctuator_kind 33 ≡ 13
unfolding punctuator_kind punctuators punctuator_kinds find_byte before count_while differs_from
exclaim = refl

differs : (b x k : ℕ) → punctuator_kind b ≡ 0 → punctuator_kind x ≡ suc k → eqb b x ≡ false
differs b x k e f = ne_eqb b x (λ z. omega (arith, sym e ∙ ap punctuator_kind z ∙ f))

pub no-punctuation : (b next : ℕ) → punctuator_kind b ≡ 0 → punctuation b next ≡ Piece.Fault e_unknown_character 1 b 1
unfolding punctuation
no-punctuation b next e =
    cases (λ (p : Piece). p ≡ Piece.Fault e_unknown_character 1 b 1) (eqb next 61)
    (λ q. rw (differs b 61 8 e equal, differs b 33 12 e exclaim) (no_sign b e))
    (λ q. no_sign b e)
