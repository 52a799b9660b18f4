-- How three tests of agreement answer a comparison.
use mathlib.Core.Path.{◌≡◌, refl, sym, ◌∙◌, ap}
use mathlib.Core.Bool.{Bool, true, false, decide}
use mathlib.Core.Option.{Option, none, some}
use Prim.Native.Nat.{ℕ, ◌*◌, ◌<◌, ◌≤◌}
use lib.Dec.{eqb, ltb}
use borrow.Author.Tests.{ne_eqb, lt-ltb, le-ltb}
use Rattle.rules.specs.Shape.{Shapes}
use Rattle.lex.specs.Bytes.{if}
use Rattle.lex.specs.Answer.{refused, answer}
use Rattle.ast.specs.Answer.{Lent, refusal}
use Rattle.ast.proofs.AnswerLaws.{stops, goes_on}
use Rattle.lex.specs.Refusals.{number}
use Rattle.lex.specs.declared.diagnostic.Refusal.{Refusal}
use Rattle.lex.specs.declared.diagnostic.Refusal.TheVariants as R
use Rattle.lex.specs.Answer.{max_bytes}
use native.Mathlib.Omega.{arith}
use lib.ListN.{length}
use Rattle.compare.specs.Agree.{Agree, Decides}
use Rattle.compare.specs.Shapes.{shape_in}
use Rattle.compare.specs.Same.{shapes_same, same_shapes}
use Rattle.compare.specs.Compare.{refusals, compare_shapes, compare}
use Rattle.compare.proofs.Agree.{decides_yes, decides_no, decides_not}

-- what does not agree with itself is not there
missing : {A : Type 0} (x : Option A) → Decides false (Agree x x) → x ≡ none
missing none d = refl
missing (some a) d = absurd (decides_not false refl d (record { it = a; left = refl; right = refl }))

-- the test decides whether two shapes are the same
pub same_decides : (σ τ : Shapes) → Decides (same_shapes σ τ) (σ ≡ τ)
unfolding same_shapes decide
same_decides σ τ = go (shapes_same σ τ)
  where
    go : (d : Dec (σ ≡ τ)) → Decides (decide d) (σ ≡ τ)
    go (yes p) = decides_yes p
    go (no n) = decides_no n

pub differ : (σ τ : Shapes) → (σ ≡ τ → ⊥) → same_shapes σ τ ≡ false
differ σ τ n = go (same_shapes σ τ) (same_decides σ τ)
  where
    go : (b : Bool) → Decides b (σ ≡ τ) → b ≡ false
    go true d = absurd (n (d.holds refl))
    go false d = refl

module _ (a b : Lent) where
  -- 1 of the first tree is answered
  pub refused-left : {x y : ℕ} → x ≡ refusal a → y ≡ refusal b → x ≡ 1 → refusals a b ≡ 1
  unfolding refusals
  refused-left p q e = rw (← p, e)

  -- and 1 of the second
  pub refused-right : {x y : ℕ} → x ≡ refusal a → y ≡ refusal b → y ≡ 1 → refusals a b ≡ 1
  unfolding refusals
  refused-right {x} p q e = rw (← q, ← p, e) (either (eqb x 1))
    where
      either : (c : Bool) → ◌≡◌ {A = ℕ} (if c 1 1) 1
      either true = refl
      either false = refl

  pub too_long : max_bytes < length b.script → 1 ≡ refusals a b
  unfolding refusal
  too_long h = sym (refused-right refl refl (rw (lt-ltb _ _ h)))

  module _ (h : length b.script ≤ max_bytes) where
    not-too_long : refusal b ≡ 1 → ⊥
    unfolding refusal
    not-too_long = rw (le-ltb _ _ h) (let n = length b.script in go (ltb (length b.nodes) (16 * n)) (ltb (length b.types) (8 * n)) (ltb (length b.lists) (8 * n)) (ltb (length b.roots) n))
      where
        go : (c d e f : Bool) → ◌≡◌ {A = ℕ} (if c 2 (if d 2 (if e 2 (if f 2 0)))) 1 → ⊥
        go true d e f q = omega arith
        go false true e f q = omega arith
        go false false true f q = omega arith
        go false false false true q = omega arith
        go false false false false q = omega arith

    -- the left tree is refused, or only the right one
    pub first-refused : (r : Refusal) → number r ≡ refusal a → number r ≡ refusals a b
    unfolding refusals
    first-refused r e = rw (← e, ne_eqb (refusal b) 1 not-too_long) (each r)
      where
        each : (r : Refusal) → number r ≡ if (eqb (number r) 1) 1 (if (eqb (number r) 0) (refusal b) (number r))
        each R.TooLong = refl
        each R.TooShort = refl
        each R.Outside = refl
        each R.Malformed = refl
        each R.LineTooShort = refl
        each R.NoWords = refl
        each R.NotCut = refl
        each R.SheetTooShort = refl
        each R.TooManyLines = refl
        each R.PracticeTooShort = refl
        each R.PositionsFall = refl
        each R.PlacesTooShort = refl

    pub second-refused : {x : ℕ} → 0 ≡ refusal a → x ≡ refusal b → x ≡ refusals a b
    unfolding refusals
    second-refused e f = rw (← e, ne_eqb (refusal b) 1 not-too_long) f

  pub none-refused : refusal a ≡ 0 → refusal b ≡ 0 → 0 ≡ refusals a b
  unfolding refusals
  none-refused e f = rw (e, f)

  pub refused_with : (r : Refusal) → number r ≡ refusals a b → refused (number r) ≡ compare a b
  unfolding compare
  refused_with r e = stops r (compare_shapes (shape_in a) (shape_in b)) e

  module _ (r : 0 ≡ refusals a b) where
    pub compare_is : {x y : Option Shapes} → shape_in a ≡ x → shape_in b ≡ y → compare_shapes x y ≡ compare a b
    unfolding compare
    compare_is e f = rw (← e, ← f) (goes_on _ r)

    pub left-malformed : Decides false (Agree (shape_in a) (shape_in a)) → refused 4 ≡ compare a b
    unfolding compare_shapes
    left-malformed d = compare_is (missing (shape_in a) d) refl

    pub right-malformed : Decides false (Agree (shape_in b) (shape_in b)) → refused 4 ≡ compare a b
    unfolding compare_shapes
    right-malformed d = without (shape_in a) ∙ compare_is refl (missing (shape_in b) d)
      where
        without : (x : Option Shapes) → refused 4 ≡ compare_shapes x none
        without none = refl
        without (some σ) = refl

    pub same-shapes : Agree (shape_in a) (shape_in b) → answer true ≡ compare a b
    unfolding compare_shapes
    same-shapes s = ap answer (sym ((same_decides s.it s.it).back refl)) ∙ compare_is s.left s.right

    pub other_shapes : Agree (shape_in a) (shape_in a) → Agree (shape_in b) (shape_in b) → (Agree (shape_in a) (shape_in b) → ⊥) → answer false ≡ compare a b
    unfolding compare_shapes
    other_shapes s t f = ap answer (sym (differ s.it t.it (λ e. f (record { it = s.it; left = s.left; right = t.left ∙ ap some (sym e) })))) ∙ compare_is s.left t.left

    -- the test of the two decides
    pub shapes_answer : Agree (shape_in a) (shape_in a) → Agree (shape_in b) (shape_in b) → (c : Bool) → Decides c (Agree (shape_in a) (shape_in b)) → answer c ≡ compare a b
    shapes_answer s t true d = same-shapes (d.holds refl)
    shapes_answer s t false d = other_shapes s t (λ g. decides_not false refl d g)
