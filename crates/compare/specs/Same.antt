-- Whether two shapes are the same, as a test that computes.
use Rattle.std.specs.Prelude.{◌≡◌, Bool, true, false, ℕ, eqb}
use Rattle.std.proofs.Math.Path.{refl}
use Rattle.std.proofs.Common.{ap, ap₂, eqb-true}
use Rattle.std.proofs.Math.Bool.{decide}
use mathlib.Core.List.{List, [], ◌∷◌, nil≢cons, cons≢nil, head-eq_of_cons-eq, tail-eq_of_cons-eq}
use mathlib.Core.HLevel.{Discrete}
use Rattle.std.proofs.lemmas.Bool.{eqb-false}
use Rattle.rules.specs.Shape.{Word, FnShape, Params, TypeShape, Shapes, TypeShape-discrete}
use Rattle.rules.specs.Shape.{Params-discrete, Shapes-discrete}

unfoldable pub number_same : Discrete ℕ
number_same m n = go (eqb m n) refl
  where
    go : (b : Bool) → eqb m n ≡ b → Dec (m ≡ n)
    go true e = yes (eqb-true m n e)
    go false e = no (eqb-false m n e)

module _ {A : Type 0} (same : Discrete A) where
  unfoldable pub heads : {x y : A} {xs ys : List A} → Dec (x ≡ y) → Dec (xs ≡ ys)
      → Dec (◌≡◌ {A = List A} (x ∷ xs) (y ∷ ys))
  heads (yes p) (yes q) = yes (ap₂ ◌∷◌ p q)
  heads (yes p) (no n) = no (λ e. n (tail-eq_of_cons-eq e))
  heads (no n) q = no (λ e. n (head-eq_of_cons-eq e))

  unfoldable pub list_same : Discrete (List A)
  unfolding heads
  list_same [] [] = yes refl
  list_same [] (y ∷ ys) = no (λ e. nil≢cons e)
  list_same (x ∷ xs) [] = no (λ e. cons≢nil e)
  list_same (x ∷ xs) (y ∷ ys) = heads (same x y) (list_same xs ys)

-- what two parts make is the same if both are
module _ {A B C : Type 0} (f : A → B → C)
    (parts : (a a' : A) (b b' : B) → f a b ≡ f a' b' → (a ≡ a') × (b ≡ b')) where
  unfoldable pub both_same : (a a' : A) (b b' : B) → Dec (a ≡ a') → Dec (b ≡ b')
      → Dec (f a b ≡ f a' b')
  both_same a a' b b' (yes p) (yes q) = yes (ap₂ f p q)
  both_same a a' b b' (yes p) (no n) = no (λ e. n (parts a a' b b' e).1)
  both_same a a' b b' (no n) q = no (λ e. n (parts a a' b b' e).0)

unfoldable pub word_same : Discrete Word
unfolding both_same
word_same v w =
    both_same (λ k s. record { kind = k; spelling = s })
    (λ k k' s s' e. (ap (λ (x : Word). x.kind) e, ap (λ (x : Word). x.spelling) e))
    v.kind w.kind v.spelling w.spelling
    (number_same v.kind w.kind) (list_same number_same v.spelling w.spelling)

unfoldable pub fn_same : Discrete FnShape
unfolding both_same
fn_same f g =
    both_same
    (λ (p : List Word × Word) (q : Params × TypeShape).
    record { docs = p.0; name = p.1; args = q.0; ret = q.1 })
    (λ p p' q q' e. (
      ap (λ (x : FnShape). (x.docs, x.name)) e,
      ap (λ (x : FnShape). (x.args, x.ret)) e,
    ))
    (f.docs, f.name) (g.docs, g.name) (f.args, f.ret) (g.args, g.ret)
    (both_same (λ (a : List Word) (b : Word). (a, b))
    (λ a a' b b' e. (ap (λ (x : List Word × Word). x.0) e, ap (λ (x : List Word × Word). x.1) e))
    f.docs g.docs f.name g.name
    (list_same word_same f.docs g.docs) (word_same f.name g.name))
    (both_same (λ (a : Params) (b : TypeShape). (a, b))
    (λ a a' b b' e. (
      ap (λ (x : Params × TypeShape). x.0) e,
      ap (λ (x : Params × TypeShape). x.1) e,
    ))
    f.args g.args f.ret g.ret
    (Params-discrete word_same f.args g.args)
    (TypeShape-discrete word_same f.ret g.ret))

-- derived of the data types of shapes, from what is the same of words, of types and of fns
unfoldable pub shapes_same : Discrete Shapes
shapes_same =
    Shapes-discrete word_same (list_same word_same) (Params-discrete word_same)
    (TypeShape-discrete word_same) (list_same fn_same)

unfoldable pub same_shapes : Shapes → Shapes → Bool
same_shapes σ τ = decide (shapes_same σ τ)

-- `unfolding computed` lets the test compute
unfoldable pub computed : Unit {0}
unfolding same_shapes shapes_same fn_same word_same both_same list_same heads number_same decide
computed = tt
