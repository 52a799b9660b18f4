-- The four forms of an error that has words: two kinds (11), one kind (10, 12 to 23), a byte (33),
-- nothing (31, 32, 34).
-- Assumes nothing.
use mathlib.Core.Path.{◌≡◌, refl, sym, ◌∙◌, ap}
use mathlib.Core.Bool.{Bool, true, false, false≢true, ◌&&◌, ◌||◌}
use mathlib.Core.Option.{none, some}
use mathlib.Core.List.{List, [], ◌++◌}
use Prim.Native.Nat.{ℕ, ◌<◌, ◌≤◌}
use native.Mathlib.Omega.{arith}
use lib.Dec.{leb, eqb}
use borrow.Author.Tests.{leb-true, leb-false, eqb-true, eqb-false}
use Rattle.lex.specs.declared.diagnostic.Diagnostic.{Diagnostic}
use Rattle.text.proofs.EmitLaws.{and_left, and_right}
use Rattle.words.specs.Words.{kind_name, but_found, hex, details, line, is_kind, is_script_error, is_wanted, is_seen, has_words, words}

pub data Form (number wanted seen : ℕ) : Type 0 where
  two : number ≡ 11 → is_kind wanted ≡ true → is_kind seen ≡ true → details number wanted seen ≡ kind_name wanted ++ (but_found ++ kind_name seen) → Form number wanted seen
  one : (number ≡ 11 → ⊥) → number ≤ 23 → wanted ≡ 0 → is_kind seen ≡ true → details number wanted seen ≡ kind_name seen → Form number wanted seen
  byte : number ≡ 33 → wanted ≡ 0 → seen < 256 → details number wanted seen ≡ hex seen → Form number wanted seen
  bare : (number ≡ 33 → ⊥) → 23 < number → wanted ≡ 0 → seen ≡ 0 → details number wanted seen ≡ [] → Form number wanted seen

form : (n w s : ℕ) → is_wanted n w ≡ true → is_seen n s ≡ true → Form n w s
unfolding is_wanted is_seen details
form n w s p q = go (eqb n 11) (leb n 23) (eqb n 33) refl refl refl
  where
    go : (t u v : Bool) → eqb n 11 ≡ t → leb n 23 ≡ u → eqb n 33 ≡ v → Form n w s
    go true true v e f g = two (eqb-true n 11 e) (rw (e, is_wanted) at p) (rw (f, is_seen) at q) (rw (e, details))
    go true false v e f g = absurd (let h : 23 < n = leb-false n 23 f in let k : n ≡ 11 = eqb-true n 11 e in omega arith)
    go false true v e f g = one (eqb-false n 11 e) (leb-true n 23 f) (eqb-true w 0 (rw (e, is_wanted) at p)) (rw (f, is_seen) at q) (rw (e, details, f))
    go false false true e f g =
        let h : s ≤ 255 = leb-true s 255 (rw (f, is_seen, g) at q) in
        byte (eqb-true n 33 g) (eqb-true w 0 (rw (e, is_wanted) at p)) (omega arith) (rw (e, details, f, g))
    go false false false e f g =
        bare (eqb-false n 33 g) (leb-false n 23 f) (eqb-true w 0 (rw (e, is_wanted) at p)) (eqb-true s 0 (rw (f, is_seen, g) at q)) (rw (e, details, f, g))

-- an error has words where its number is an error's of scripts and it has one of the forms
pub record Worded (e : Diagnostic) (w : List ℕ) : Type 0 where
  pub listed : is_script_error e.number ≡ true
  pub has : Form e.number e.wanted e.seen
  pub is : w ≡ line e

pub worded : (e : Diagnostic) (w : List ℕ) → words e ≡ some w → Worded e w
unfolding words has_words
worded e w p = go (has_words e) refl
  where
    go : (t : Bool) → has_words e ≡ t → Worded e w
    go true h =
        let front = and_left (is_script_error e.number && is_wanted e.number e.wanted) (is_seen e.number e.seen) h in
        let back = and_right (is_script_error e.number && is_wanted e.number e.wanted) (is_seen e.number e.seen) h in
        let r : some (line e) ≡ some w = rw (h, words) at p in
        record {
          listed = and_left (is_script_error e.number) (is_wanted e.number e.wanted) front;
          has = form e.number e.wanted e.seen (and_right (is_script_error e.number) (is_wanted e.number e.wanted) front) back;
          is = cc;
        }
    go false h = absurd (let r : none ≡ some w = rw (h, words) at p in let z : ◌≡◌ {A = ℕ} 0 1 = cc in omega arith)

-- ---- numbers with a property are small

pub script-error-small : (n : ℕ) → is_script_error n ≡ true → n < 35
unfolding is_script_error
script-error-small n h = go (leb n 23) (leb n 34) refl refl
  where
    go : (t u : Bool) → leb n 23 ≡ t → leb n 34 ≡ u → n < 35
    go true u e f = let k : n ≤ 23 = leb-true n 23 e in omega arith
    go false true e f = let k : n ≤ 34 = leb-true n 34 f in omega arith
    go false false e f = absurd (false≢true (neither (leb 10 n) (leb 31 n) ∙ sym (ap (λ (t : Bool). (leb 10 n && t) || (leb 31 n && leb n 34)) e) ∙ h))
      where
        neither : (x y : Bool) → false ≡ (x && false) || (y && leb n 34)
        neither true true = sym f
        neither true false = refl
        neither false true = sym f
        neither false false = refl

pub script-error_two_digits : (n : ℕ) → is_script_error n ≡ true → 10 ≤ n
unfolding is_script_error
script-error_two_digits n h = go (leb 10 n) (leb 31 n) refl refl
  where
    go : (t u : Bool) → leb 10 n ≡ t → leb 31 n ≡ u → 10 ≤ n
    go true u e f = leb-true 10 n e
    go false true e f = let k : 31 ≤ n = leb-true 31 n f in omega arith
    go false false e f = absurd (false≢true (sym (rw (e, f)) ∙ h))

either : (a b c d : Bool) → ((a && b) || (c && d)) ≡ true → (a ≡ true → b ≡ true → ⊥) → (c ≡ true → d ≡ true → ⊥) → ⊥
either true true c d h f g = f refl refl
either true false true true h f g = g refl refl
either true false true false h f g = false≢true h
either true false false d h f g = false≢true h
either false b true true h f g = g refl refl
either false b true false h f g = false≢true h
either false b false d h f g = false≢true h

pub script-error-between : (n : ℕ) → is_script_error n ≡ true → (10 ≤ n → n ≤ 23 → ⊥) → (31 ≤ n → n ≤ 34 → ⊥) → ⊥
unfolding is_script_error
script-error-between n h front back =
    either (leb 10 n) (leb n 23) (leb 31 n) (leb n 34) h (λ a b. front (leb-true 10 n a) (leb-true n 23 b))
    (λ a b. back (leb-true 31 n a) (leb-true n 34 b))

pub kind-small : (k : ℕ) → is_kind k ≡ true → k < 44
unfolding is_kind
kind-small k h = let l : k ≤ 43 = leb-true k 43 (and_right (leb 1 k) (leb k 43) h) in omega arith
