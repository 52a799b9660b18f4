-- Laws of the faults that are met before a token.
-- Assumes nothing.
use mathlib.Core.Path.{◌≡◌, refl, ◌∙◌, sym, ap}
use mathlib.Core.List.{List, [], ◌∷◌, foldl}
use Prim.Native.Nat.{ℕ, suc, ◌+◌, ◌/◌, ◌≤◌, ◌<◌}
use mathlib.Core.Bool.{Bool, true, false}
use native.Mathlib.Omega.{arith}
use lib.Dec.{leb}
use lib.ListN.{length}
use borrow.Author.Tests.{le-leb, lt-leb, leb-true, leb-false}
use Rattle.std.specs.Prelude.{max}
use Rattle.lex.specs.Lex.{Occurrence}
use Rattle.tokens.specs.Table.{error_at, errors_from}
use Rattle.tokens.specs.Tables.{error_width}
use Rattle.tokens.proofs.Records.{error_past, errors-none, errors_more}
use Rattle.diagnostics.specs.Records.{Diagnostics, pushed}
use Rattle.diagnostics.specs.Faults.{diagnostics_in, early, late}

module _ (at : ℕ) (o : Occurrence) (os : List Occurrence) where
  pub early_more : o.after ≤ at → early at (o ∷ os) ≡ o ∷ early at os
  unfolding early
  early_more h = rw (le-leb o.after at h, early) refl

  pub late_more : o.after ≤ at → late at (o ∷ os) ≡ late at os
  unfolding late
  late_more h = rw (le-leb o.after at h, late) refl

  pub early_out : at < o.after → early at (o ∷ os) ≡ []
  unfolding early
  early_out h = rw (lt-leb o.after at h, early) refl

  pub late_out : at < o.after → late at (o ∷ os) ≡ o ∷ os
  unfolding late
  late_out h = rw (lt-leb o.after at h, late) refl

-- what is still to be pushed onto what is there, and what is left behind it
pub record Pushing (at : ℕ) (errors : List ℕ) (from i : ℕ) (a₀ a : Diagnostics) : Type 0 where
  pub pushes : foldl pushed a (diagnostics_in (early at (errors_from errors i))) ≡ foldl pushed a₀ (diagnostics_in (early at (errors_from errors from)))
  pub leaves : late at (errors_from errors i) ≡ late at (errors_from errors from)

module _ {at : ℕ} {errors : List ℕ} {from i : ℕ} {a₀ a : Diagnostics} (p : Pushing at errors from i a₀ a) where
  -- no error is left
  pub pushing_none : (error_at errors i).diagnostic.number ≡ 0 → (a ≡ foldl pushed a₀ (diagnostics_in (early at (errors_from errors from)))) × (errors_from errors i ≡ late at (errors_from errors from))
  unfolding early late
  pushing_none e =
      let none : errors_from errors i ≡ [] = errors-none errors i e in
      (ap (λ (os : List Occurrence). foldl pushed a (diagnostics_in (early at os))) (sym none) ∙ p.pushes, none ∙ ap (late at) (sym none) ∙ p.leaves)

  pub pushing_past : length errors / error_width ≤ i → (a ≡ foldl pushed a₀ (diagnostics_in (early at (errors_from errors from)))) × (errors_from errors i ≡ late at (errors_from errors from))
  pushing_past h = pushing_none (error_past errors i h)

  -- no record is left, wherever one looks for it
  pub pushing_all : (k : ℕ) → length errors / error_width ≤ i → length errors / error_width ≤ k → (a ≡ foldl pushed a₀ (diagnostics_in (early at (errors_from errors from)))) × (errors_from errors k ≡ late at (errors_from errors from))
  pushing_all k h l =
      let past = pushing_past h in
      (past.0, errors-none errors k (error_past errors k l) ∙ sym (errors-none errors i (error_past errors i h)) ∙ past.1)

  -- the next one has more tokens before it
  pub pushing_out : ((error_at errors i).diagnostic.number ≡ 0 → ⊥) → at < (error_at errors i).after → (a ≡ foldl pushed a₀ (diagnostics_in (early at (errors_from errors from)))) × (errors_from errors i ≡ late at (errors_from errors from))
  pushing_out e h =
      let more : errors_from errors i ≡ error_at errors i ∷ errors_from errors (suc i) = errors_more errors i e in (
        sym (ap (λ (os : List Occurrence). foldl pushed a (diagnostics_in os)) (ap (early at) more ∙ early_out at _ _ h)) ∙ p.pushes,
        more ∙ sym (late_out at _ _ h) ∙ ap (late at) (sym more) ∙ p.leaves,
      )

  -- it is pushed
  pub pushing_on : {a' : Diagnostics} → ((error_at errors i).diagnostic.number ≡ 0 → ⊥) → (error_at errors i).after ≤ at → a' ≡ pushed a (error_at errors i).diagnostic → Pushing at errors from (i + 1) a₀ a'
  pushing_on e h w =
      let next : suc i ≡ i + 1 = omega arith in
      let more : errors_from errors i ≡ error_at errors i ∷ errors_from errors (i + 1) = errors_more errors i e ∙ ap (λ (k : ℕ). error_at errors i ∷ errors_from errors k) next in
      record {
        pushes = ap (λ (b : Diagnostics). foldl pushed b (diagnostics_in (early at (errors_from errors (i + 1))))) w
            ∙ sym (ap (λ (os : List Occurrence). foldl pushed a (diagnostics_in os)) (ap (early at) more ∙ early_more at _ _ h)) ∙ p.pushes;
        leaves = sym (ap (late at) more ∙ late_more at _ _ h) ∙ p.leaves;
      }

-- and how many are pushed
pub record Counted (at : ℕ) (errors : List ℕ) (from i : ℕ) (a₀ a : Diagnostics) : Type 0 where
  pub pushing : Pushing at errors from i a₀ a
  pub counts : i + length (early at (errors_from errors i)) ≡ from + length (early at (errors_from errors from))

-- all are pushed that are met before, and `k` is behind them
abbrev pub Ends : (at : ℕ) (errors : List ℕ) (from k : ℕ) (a₀ a : Diagnostics) → Type 0
Ends at errors from k a₀ a =
    (a ≡ foldl pushed a₀ (diagnostics_in (early at (errors_from errors from))))
    × (errors_from errors k ≡ late at (errors_from errors from))
    × (k ≡ from + length (early at (errors_from errors from)))

module _ {at : ℕ} {errors : List ℕ} {from i : ℕ} {a₀ a : Diagnostics} (p : Counted at errors from i a₀ a) where
  -- no error is left
  pub counted_none : (error_at errors i).diagnostic.number ≡ 0 → Ends at errors from i a₀ a
  unfolding early
  counted_none e =
      let none = pushing_none p.pushing e in
      (none.0, none.1, omega (arith, p.counts, ap (λ (os : List Occurrence). length (early at os)) (errors-none errors i e)))

  pub counted_at_end : length errors / error_width ≤ i → Ends at errors from i a₀ a
  counted_at_end h = counted_none (error_past errors i h)

  -- nothing is pushed from behind the table
  pub counted_past : length errors / error_width ≤ i → (from ≤ length errors / error_width → i ≤ length errors / error_width) → max (length errors / error_width) from ≡ from + length (early at (errors_from errors from))
  unfolding early
  counted_past h l = go (leb from (length errors / error_width)) refl
    where
      go : (b : Bool) → leb from (length errors / error_width) ≡ b → max (length errors / error_width) from ≡ from + length (early at (errors_from errors from))
      go true b = omega (arith, leb-true _ _ b, l (leb-true _ _ b), (counted_at_end h).2)
      go false b =
          let none : errors_from errors from ≡ [] = errors-none errors from (error_past errors from (omega (arith, leb-false _ _ b))) in
          omega (arith, leb-false _ _ b, ap (λ (os : List Occurrence). length (early at os)) none)

  -- the next one has more tokens before it
  pub counted_out : ((error_at errors i).diagnostic.number ≡ 0 → ⊥) → at < (error_at errors i).after → Ends at errors from i a₀ a
  counted_out e h =
      let out = pushing_out p.pushing e h in
      (out.0, out.1, omega (arith, p.counts, ap length (ap (early at) (errors_more errors i e) ∙ early_out at _ _ h)))

  -- it is pushed
  pub counted_on : {a' : Diagnostics} → ((error_at errors i).diagnostic.number ≡ 0 → ⊥) → (error_at errors i).after ≤ at → a' ≡ pushed a (error_at errors i).diagnostic → Counted at errors from (i + 1) a₀ a'
  counted_on e h w =
      let next : suc i ≡ i + 1 = omega arith in
      let more : errors_from errors i ≡ error_at errors i ∷ errors_from errors (i + 1) = errors_more errors i e ∙ ap (λ (k : ℕ). error_at errors i ∷ errors_from errors k) next in
      record { pushing = pushing_on p.pushing e h w; counts = omega (arith, p.counts, ap length (ap (early at) more ∙ early_more at _ _ h)) }
