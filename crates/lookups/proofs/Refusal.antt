-- What the test of a record says of a lookup's answer.
use mathlib.Core.Path.{◌≡◌, refl, sym, ◌∙◌}
use mathlib.Core.Bool.{Bool, true, false}
use mathlib.Core.Option.{Option, none, some}
use mathlib.Core.List.{List}
use Prim.Native.Nat.{ℕ, zero, suc, ◌+◌, ◌*◌, ◌<◌, ◌≤◌}
use lib.Dec.{ltb}
use lib.ListN.{length}
use borrow.Author.Tests.{lt-ltb, le-ltb, lt-leb}
use Rattle.std.specs.Prelude as R
use Rattle.std.specs.Prelude.{Ok}
use Rattle.std.specs.Bool.{⊤}
use Rattle.lex.specs.declared.tok.Token.{Token}
use Rattle.lex.specs.Bytes.{if}
use Rattle.lex.specs.Answer.{Answer, refused, answer, answered}
use Rattle.ast.specs.Decode.{fits}
use Rattle.ast.specs.Answer.{unless, Lent, refusal}
use Rattle.lookups.specs.Descent.{as_start, start_or, as_type_token}
use Rattle.lookups.specs.Lookup.{unless_malformed, record_asked, start_answer}

module _ {A : Type 0} (a : Answer A) where
  tested : {B : Type 0} → ℕ → Bool → Bool → Answer B → Answer B
  tested r t u b = unless r (if t (if u b (refused 3)) (refused 3))

  tested_refused : (r : ℕ) (t u : Bool) (n : ℕ) → refused n ≡ tested {B = ⊤} r t u (answer tt) → refused n ≡ tested r t u a
  unfolding tested unless
  tested_refused zero true true n e = cc
  tested_refused zero true false n e = cc
  tested_refused zero false u n e = cc
  tested_refused (suc r) t u n e = cc

  tested-answer : (r : ℕ) (t u : Bool) (x : ⊤) → answer x ≡ tested {B = ⊤} r t u (answer tt) → a ≡ tested r t u a
  unfolding tested unless
  tested-answer zero true true x e = refl
  tested-answer zero true false x e = cc
  tested-answer zero false u x e = cc
  tested-answer (suc r) t u x e = cc

  module _ (l : Lent) (count size : ℕ) (xs : List ℕ) (i : ℕ) where
    pub asked_refused : (n : ℕ) → refused n ≡ record_asked {A = ⊤} l count size xs i (answer tt) → refused n ≡ record_asked l count size xs i a
    unfolding record_asked tested
    asked_refused n e = tested_refused (refusal l) (ltb i count) (fits size xs i) n e

    pub asked-answer : (x : ⊤) → answer x ≡ record_asked {A = ⊤} l count size xs i (answer tt) → a ≡ record_asked l count size xs i a
    unfolding record_asked tested
    asked-answer x e = tested-answer (refusal l) (ltb i count) (fits size xs i) x e

-- the tree is refused, whatever record is asked about; `r` is what its test found
pub refused-lent : {A : Type 0} (l : Lent) (count size : ℕ) (xs : List ℕ) (i : ℕ) (a : Answer A) (r : ℕ) → r ≡ refusal l → (r ≡ 0 → ⊥) → refused r ≡ record_asked l count size xs i a
unfolding record_asked unless
refused-lent l count size xs i a zero e h = absurd (h refl)
refused-lent l count size xs i a (suc m) e h = rw (← e) refl

-- and where it isn't: 3 for a record that is not in use, or that the array does not hold
module _ {A : Type 0} (l : Lent) (count size : ℕ) (xs : List ℕ) (i : ℕ) (a : Answer A) (r : ℕ) (e : r ≡ refusal l) where
  pub refused-count : r ≡ 0 → count ≤ i → refused 3 ≡ record_asked l count size xs i a
  unfolding record_asked unless
  refused-count z h = rw (sym e ∙ z, record_asked) (rw (le-ltb i count h))

  pub refused-array : r ≡ 0 → i < count → length xs < size * i + size → refused 3 ≡ record_asked l count size xs i a
  unfolding record_asked unless
  refused-array z h o = rw (sym e ∙ z, record_asked) (rw (lt-ltb i count h, lt-leb (size * i + size) (length xs) o))

pub start_answered : (x : Option (Option ℕ)) → start_answer (start_or (Ok R.None) (as_start x)) ≡ unless_malformed x
unfolding start_answer start_or as_start unless_malformed
start_answered none = refl
start_answered (some none) = refl
start_answered (some (some p)) = refl

pub token_answered : (x : Option Token) → answered (as_type_token x) ≡ unless_malformed x
unfolding as_type_token unless_malformed
token_answered none = refl
token_answered (some t) = refl
