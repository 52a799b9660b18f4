-- When two words agree.
use mathlib.Core.Path.{◌≡◌, refl, sym, ◌∙◌, ap, ap₂}
use mathlib.Core.Bool.{Bool, true, false}
use mathlib.Core.Option.{Option, none, some}
use mathlib.Core.List.{List, [], ◌∷◌}
use Prim.Native.Nat.{ℕ}
use native.Mathlib.Omega.{arith}
use lib.Dec.{ltb, eqb}
use lib.ListN.{length, take, drop}
use borrow.Author.Tests.{eq-eqb, eqb-true}
use Rattle.lex.specs.Kind.{same_bytes, fixed_spelling}
use Rattle.lex.specs.Spelling.{has_spelling, spelling, well_formed}
use Rattle.std.specs.Prelude.{Some, None}
use Rattle.lex.specs.declared.tok.Token.{Token}
use Rattle.lex.proofs.Laws.{cases}
use Rattle.lex.proofs.Spellings.{spelling_other, spelling-found}
use Rattle.rules.specs.Shape.{Word, word_of, word}
use Rattle.lex.proofs.WellFormed.{fixed_is, well_formed-found, well_formed-nothing}
use Rattle.compare.specs.Agree.{Agree, Decides}
use Rattle.compare.proofs.Agree.{decides_yes, decides_no, decides_by}

abbrev spelled : ℕ → List ℕ → Word
spelled k bs = record { kind = k; spelling = bs }

has_fixed : ℕ → Bool
has_fixed k = ltb 0 (length (fixed_spelling k))

module _ (s : List ℕ) (t : Token) where
  -- a kind whose spelling is found has one of its own
  found-own : (i : ℕ) → spelling s t ≡ Some i → has_spelling t.kind ≡ true
  found-own i e = go (has_spelling t.kind) refl
    where
      go : (b : Bool) → has_spelling t.kind ≡ b → b ≡ true
      go true h = refl
      go false h = let n : spelling s t ≡ None = spelling_other s t h in let z : ◌≡◌ {A = ℕ} 0 1 = cc in absurd (omega arith)

  word-found : (i : ℕ) → spelling s t ≡ Some i → word s t ≡ some (spelled t.kind (take t.len (drop i s)))
  unfolding word word_of
  word-found i e = rw (well_formed-found s t i e, word) (rw (found-own i e, (spelling-found s t i e).0))

  word-fixed : has_fixed t.kind ≡ true → word s t ≡ some (spelled t.kind [])
  unfolding word word_of has_fixed
  word-fixed h = go (has_spelling t.kind) refl
    where
      go : (b : Bool) → has_spelling t.kind ≡ b → word s t ≡ some (spelled t.kind [])
      go true o = let z : false ≡ true = sym (rw o at (fixed_is t.kind)) ∙ h in let n : ◌≡◌ {A = ℕ} 0 1 = cc in absurd (omega arith)
      go false o = rw (well_formed-nothing s t (spelling_other s t o) ∙ h, word) (rw o)

  word_none : spelling s t ≡ None → has_fixed t.kind ≡ false → word s t ≡ none
  unfolding word has_fixed
  word_none e h = rw (well_formed-nothing s t e ∙ h, word)

  word-kind : (w : Word) → word s t ≡ some w → w.kind ≡ t.kind
  unfolding word word_of
  word-kind w =
      cases (λ (o : Option Word). o ≡ some w → w.kind ≡ t.kind) (well_formed s t)
      (λ e q. let z : word_of s t ≡ w = cc in sym (ap (λ (x : Word). x.kind) z))
      (λ e q. let z : ◌≡◌ {A = ℕ} 0 1 = cc in absurd (omega arith))

-- two that are there agree if they are equal
agree_some : {A : Type 0} {x y : Option A} (a b : A) {r : Bool} → x ≡ some a → y ≡ some b → Decides r (a ≡ b) → Decides r (Agree x y)
agree_some a b p q = decides_by (λ (e : a ≡ b). record { it = a; left = p; right = q ∙ ap some (sym e) }) (λ (g : Agree _ _). let l = g.left in let r = g.right in let z : a ≡ b = cc in z)

module _ (s s' : List ℕ) (t t' : Token) where
  pub agree_kinds : Agree (word s t) (word s' t') → t.kind ≡ t'.kind
  agree_kinds g = sym (word-kind s t g.it g.left) ∙ word-kind s' t' g.it g.right

  module _ (k : t.kind ≡ t'.kind) where
    pub agree_fixed : spelling s t ≡ None → Decides (ltb 0 (length (fixed_spelling t.kind))) (Agree (word s t) (word s' t'))
    unfolding has_fixed
    agree_fixed e = go (has_fixed t.kind) refl
      where
        go : (b : Bool) → has_fixed t.kind ≡ b → Decides b (Agree (word s t) (word s' t'))
        go true h = agree_some _ _ (word-fixed s t h) (word-fixed s' t' (rw k at h)) (decides_yes (ap (λ (n : ℕ). spelled n []) k))
        go false h = decides_no (λ g. let l = g.left in let n = word_none s t e h in let z : ◌≡◌ {A = ℕ} 0 1 = cc in omega arith)

    -- one spelling is found, and the other not
    pub agree_lost : (i : ℕ) → spelling s t ≡ Some i → spelling s' t' ≡ None → Agree (word s t) (word s' t') → ⊥
    unfolding has_fixed
    agree_lost i e e' g =
        let o : has_spelling t'.kind ≡ true = rw k at (found-own s t i e) in
        let r = g.right in
        let n = word_none s' t' e' (rw o at (fixed_is t'.kind)) in
        let z : ◌≡◌ {A = ℕ} 0 1 = cc in omega arith

    -- both are found
    pub agree_spelled : {r : Bool} (i j : ℕ) → spelling s t ≡ Some i → spelling s' t' ≡ Some j → Decides r (take t.len (drop i s) ≡ take t'.len (drop j s'))
        → Decides r (Agree (word s t) (word s' t'))
    agree_spelled i j e e' d = agree_some _ _ (word-found s t i e) (word-found s' t' j e')
        (decides_by (λ p. ap₂ spelled k p) (λ q. ap (λ (w : Word). w.spelling) q) d)

-- ---- the comparison of bytes

pub same_bytes_lem : (xs ys : List ℕ) → Decides (same_bytes xs ys) (xs ≡ ys)
unfolding same_bytes
same_bytes_lem [] [] = decides_yes refl
same_bytes_lem [] (y ∷ ys) = decides_no (λ e. let z : ◌≡◌ {A = ℕ} 0 1 = cc in omega arith)
same_bytes_lem (x ∷ xs) [] = decides_no (λ e. let z : ◌≡◌ {A = ℕ} 0 1 = cc in omega arith)
same_bytes_lem (x ∷ xs) (y ∷ ys) = go (eqb x y) refl (same_bytes_lem xs ys)
  where
    go : (b : Bool) → eqb x y ≡ b → Decides (same_bytes xs ys) (xs ≡ ys) → Decides (elim b [ true ↦ same_bytes xs ys | false ↦ false ]) (◌≡◌ {A = List ℕ} (x ∷ xs) (y ∷ ys))
    go true e d = decides_by (λ (p : xs ≡ ys). ap₂ ◌∷◌ (eqb-true x y e) p) (λ (q : ◌≡◌ {A = List ℕ} (x ∷ xs) (y ∷ ys)). let z : xs ≡ ys = cc in z) d
    go false e d = decides_no (λ (q : ◌≡◌ {A = List ℕ} (x ∷ xs) (y ∷ ys)). let p : x ≡ y = cc in let z : false ≡ true = sym e ∙ eq-eqb x y p in let o : ◌≡◌ {A = ℕ} 0 1 = cc in omega arith)
