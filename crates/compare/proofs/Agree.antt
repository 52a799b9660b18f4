-- When what constructors and lists make of two things agrees.
use mathlib.Core.Path.{◌≡◌, refl, sym, ◌∙◌, ap}
use mathlib.Core.Bool.{Bool, true, false, false≢true}
use mathlib.Core.Option.{Option, none, some}
use mathlib.Core.List.{List, [], ◌∷◌}
use Prim.Native.Nat.{ℕ, zero, suc, ◌+◌, ◌*◌, ◌<◌, ◌≤◌}
use native.Mathlib.Omega.{arith}
use lib.Dec.{leb, leb-zero, leb-suc-zero, leb-suc-suc}
use native.Mathlib.Nat.{zero-mul, suc-mul, add_comm}
use borrow.Author.Tests.{le-leb, lt-leb, leb-true, leb-false}
use lib.ListN.{length, get_or, drop, length-drop}
use lib.Seq.{drop-drop}
use Rattle.ast.specs.Lists.{map₁, map₂, and_then, Decoder, decoded, chain, number, token, run, resolve, both, items, from, list_at}
use Rattle.ast.specs.declared.Run.{Run}
use Rattle.lex.specs.Bytes.{if}
use Rattle.ast.specs.Decode.{token_at, run_at}
use Rattle.compare.specs.Agree.{Agree, Decides}

pub decides_yes : {P : Type 0} → P → Decides true P
decides_yes p = record { holds = λ e. p; back = λ q. refl }

pub decides_no : {P : Type 0} → (P → ⊥) → Decides false P
decides_no n = record { holds = λ e. absurd (false≢true e); back = λ p. absurd (n p) }

-- a test that failed rules its claim out
pub decides_not : {P : Type 0} (r : Bool) → r ≡ false → Decides r P → P → ⊥
decides_not r e d p = false≢true (sym e ∙ d.back p)

pub decides_by : {r : Bool} {P Q : Type 0} → (P → Q) → (Q → P) → Decides r P → Decides r Q
decides_by f g d = record { holds = λ e. f (d.holds e); back = λ q. d.back (g q) }

-- ---- what a constructor makes of two or three

module _ {A B : Type 0} (f : A → B) (inj : (a a' : A) → f a ≡ f a' → a ≡ a') where
  pub agree₁ : {x y : Option A} → Agree x y → Agree (map₁ f x) (map₁ f y)
  unfolding map₁
  agree₁ b = record { it = f b.it; left = rw b.left; right = rw b.right }

  pub part₁ : (x y : Option A) → Agree (map₁ f x) (map₁ f y) → Agree x y
  unfolding map₁
  part₁ none y b = absurd (let z : ◌≡◌ {A = ℕ} 0 1 = cc b.left in omega arith)
  part₁ (some a) none b = absurd (let z : ◌≡◌ {A = ℕ} 0 1 = cc b.right in omega arith)
  part₁ (some a) (some a') b = record { it = a; left = refl; right = ap some (sym (inj a a' (let z : f a ≡ f a' = cc (b.left, b.right) in z))) }

module _ {A B C : Type 0} (f : A → B → C) (inj : (a a' : A) (b b' : B) → f a b ≡ f a' b' → (a ≡ a') × (b ≡ b')) where
  pub agree₂ : {x x' : Option A} {y y' : Option B} → Agree x x' → Agree y y' → Agree (map₂ f x y) (map₂ f x' y')
  unfolding map₂ map₁
  agree₂ p q = record { it = f p.it q.it; left = rw (p.left, q.left); right = rw (p.right, q.right) }

  pub parts₂ : (x x' : Option A) (y y' : Option B) → Agree (map₂ f x y) (map₂ f x' y') → Agree x x' × Agree y y'
  unfolding map₂ map₁
  parts₂ none x' y y' b = absurd (let z : ◌≡◌ {A = ℕ} 0 1 = cc b.left in omega arith)
  parts₂ (some a) none y y' b = absurd (let z : ◌≡◌ {A = ℕ} 0 1 = cc b.right in omega arith)
  parts₂ (some a) (some a') none y' b = absurd (let z : ◌≡◌ {A = ℕ} 0 1 = cc b.left in omega arith)
  parts₂ (some a) (some a') (some c) none b = absurd (let z : ◌≡◌ {A = ℕ} 0 1 = cc b.right in omega arith)
  parts₂ (some a) (some a') (some c) (some c') b =
      let e : f a c ≡ f a' c' = cc (b.left, b.right) in
      let i = inj a a' c c' e in
      (record { it = a; left = refl; right = ap some (sym i.0) }, record { it = c; left = refl; right = ap some (sym i.1) })

-- ---- members of a list

-- a member takes `size` cells, and says what `val` says of them
abbrev pub with_rest : {A : Type 0} → List ℕ → A → A × List ℕ
with_rest cs a = (a, cs)

abbrev pub Sized : {A : Type 0} → Decoder A → ℕ → (List ℕ → Option A) → Type 0
Sized x size val = (cs : List ℕ) → x cs ≡ if (leb size (length cs)) (map₁ (with_rest (drop size cs)) (val cs)) none

pub sized-number : Sized number 1 (λ cs. some (get_or cs 0 0))
unfolding number map₁
sized-number [] = refl
sized-number (i ∷ cs) = rw (le-leb 1 (suc (length cs)) (omega arith))

pub sized-run : Sized run 2 (λ cs. some (run_at cs 0))
unfolding run chain number and_then decoded map₁
sized-run [] = refl
sized-run (i ∷ []) = refl
sized-run (i ∷ j ∷ cs) = rw (le-leb 2 (suc (suc (length cs))) (omega arith))

pub sized-token : Sized token 3 (λ cs. some (token_at cs 0))
unfolding token chain number and_then decoded map₁
sized-token [] = refl
sized-token (i ∷ []) = refl
sized-token (i ∷ j ∷ []) = refl
sized-token (i ∷ j ∷ k ∷ cs) = rw (le-leb 3 (suc (suc (suc (length cs)))) (omega arith))

module _ {A B : Type 0} (x : Decoder A) (n : ℕ) (v : List ℕ → Option A) (s : Sized x n v) where
  pub sized-resolve : (f : A → Option B) → Sized (resolve x f) n (λ cs. and_then (v cs) f)
  unfolding resolve chain and_then map₁ decoded
  sized-resolve f cs = ap (λ o. and_then o (λ (r : A × List ℕ). decoded (f r.0) r.1)) (s cs) ∙ go (leb n (length cs)) (v cs)
    where
      go : (b : Bool) (o : Option A) → and_then (if b (map₁ (with_rest {A = A} (drop n cs)) o) none) (λ (r : A × List ℕ). decoded (f r.0) r.1) ≡ if b (map₁ (with_rest {A = B} (drop n cs)) (and_then o f)) none
      go true none = refl
      go true (some a) = refl
      go false o = refl

  pub sized_with : {C : Type 0} (f : A → B → C) (y : Decoder B) (m : ℕ) (w : List ℕ → Option B) → Sized y m w
      → Sized (chain x (λ a. chain y (λ b. decoded (some (f a b))))) (n + m) (λ cs. map₂ f (v cs) (w (drop n cs)))
  unfolding chain and_then map₁ map₂ decoded
  sized_with {C} f y m w t cs = ap (λ o. and_then o next) (s cs) ∙ inner (leb n (length cs)) refl (v cs)
    where
      next : A × List ℕ → Option (C × List ℕ)
      next r = and_then (y r.1) (λ (q : B × List ℕ). some (f r.0 q.0, q.1))

      rest : (a : A) (c : Bool) (o : Option B)
          → and_then (if c (map₁ (with_rest {A = B} (drop m (drop n cs))) o) none) (λ (q : B × List ℕ). some (f a q.0, q.1)) ≡ if c (map₁ (with_rest (drop m (drop n cs))) (map₁ (f a) o)) none
      rest a true none = refl
      rest a true (some b) = refl
      rest a false o = refl

      test : n ≤ length cs → leb m (length (drop n cs)) ≡ leb (n + m) (length cs)
      test l = go (leb m (length (drop n cs))) refl
        where
          go : (b : Bool) → leb m (length (drop n cs)) ≡ b → b ≡ leb (n + m) (length cs)
          go true e = sym (le-leb (n + m) (length cs) (let h = leb-true m (length (drop n cs)) e in omega (arith, length-drop n cs)))
          go false e = sym (lt-leb (n + m) (length cs) (let h = leb-false m (length (drop n cs)) e in omega (arith, length-drop n cs)))

      neither : (b : Bool) → ◌≡◌ {A = Option (C × List ℕ)} none (if b none none)
      neither true = refl
      neither false = refl

      inner : (b : Bool) → leb n (length cs) ≡ b → (o : Option A)
          → and_then (if b (map₁ (with_rest (drop n cs)) o) none) next ≡ if (leb (n + m) (length cs)) (map₁ (with_rest (drop (n + m) cs)) (map₂ f o (w (drop n cs)))) none
      inner true e none = neither (leb (n + m) (length cs))
      inner true e (some a) = rw (t (drop n cs)) (rest a (leb m (length (drop n cs))) (w (drop n cs)) ∙ rw (test (leb-true n (length cs) e), drop-drop))
      inner false e o = rw (lt-leb (n + m) (length cs) (let l : length cs < n = leb-false n (length cs) e in omega arith))

  pub sized-both : (y : Decoder B) (m : ℕ) (w : List ℕ → Option B) → Sized y m w → Sized (both x y) (n + m) (λ cs. map₂ (λ a b. (a, b)) (v cs) (w (drop n cs)))
  unfolding both
  sized-both y m w t = sized_with (λ a b. (a, b)) y m w t

-- the members of a list, `n` of them, one after the other
module _ {A L : Type 0} (size : ℕ) (v : List ℕ → Option A) (nil : L) (cons : A → L → L) where
  unfoldable pub fold : ℕ → List ℕ → Option L
  fold zero cs = some nil
  fold (suc n) cs = map₂ cons (v cs) (fold n (drop size cs))

  items-sized : (x : Decoder A) → Sized x size v → (n : ℕ) → Sized (items x nil cons n) (n * size) (fold n)
  unfolding items fold decoded map₁
  items-sized x s zero cs = rw (zero-mul, leb-zero)
  items-sized x s (suc n) cs = rw (suc-mul, add_comm (n * size) size) (sized_with x size v s cons (items x nil cons n) (n * size) (fold n) (items-sized x s n) cs)

from_is : (n : ℕ) (cs : List ℕ) → from n cs ≡ if (leb n (length cs)) (some (drop n cs)) none
unfolding from
from_is zero cs = rw (leb-zero)
from_is (suc n) [] = rw (leb-suc-zero n)
from_is (suc n) (c ∷ cs) = from_is n cs ∙ rw (leb-suc-suc)

-- a list of a run: none where the run lies outside
module _ {A L : Type 0} (size : ℕ) (v : List ℕ → Option A) (nil : L) (cons : A → L → L) (x : Decoder A) (s : Sized x size v) where
  pub list_is : (cells : List ℕ) (r : Run) → list_at x nil cons cells r ≡ if (leb (r.start + r.len * size) (length cells)) (fold size v nil cons r.len (drop r.start cells)) none
  unfolding list_at and_then map₁
  list_is cells r = rw (from_is r.start cells) (go (leb r.start (length cells)) refl)
    where
      n : ℕ
      n = r.len * size

      rest : List ℕ
      rest = drop r.start cells

      back : (c : Bool) (o : Option L) → map₁ (λ (q : L × List ℕ). q.0) (if c (map₁ (with_rest (drop n rest)) o) none) ≡ if c o none
      back true none = refl
      back true (some l) = refl
      back false o = refl

      test : r.start ≤ length cells → leb n (length rest) ≡ leb (r.start + n) (length cells)
      test l = pick (leb n (length rest)) refl
        where
          pick : (b : Bool) → leb n (length rest) ≡ b → b ≡ leb (r.start + n) (length cells)
          pick true e = sym (le-leb (r.start + n) (length cells) (let h = leb-true n (length rest) e in omega (arith, length-drop r.start cells)))
          pick false e = sym (lt-leb (r.start + n) (length cells) (let h = leb-false n (length rest) e in omega (arith, length-drop r.start cells)))

      go : (b : Bool) → leb r.start (length cells) ≡ b
          → and_then (if b (some rest) none) (λ cs. map₁ (λ (q : L × List ℕ). q.0) (items x nil cons r.len cs)) ≡ if (leb (r.start + n) (length cells)) (fold size v nil cons r.len rest) none
      go true e = rw (items-sized size v nil cons x s r.len rest) (back (leb n (length rest)) (fold size v nil cons r.len rest) ∙ rw (test (leb-true r.start (length cells) e)))
      go false e = rw (lt-leb (r.start + n) (length cells) (let l = leb-false r.start (length cells) e in omega arith))

-- a test whose outcome is known
pub decided : {r x : Bool} {P : Type 0} → r ≡ x → Decides r P → Decides x P
decided e d = rw e at d
