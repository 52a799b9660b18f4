-- The order of collecting mode: at each error the faults that are met before its token are listed
-- and then the error, and at the end the faults that are left. That is `merged`.
-- Assumes nothing.
use mathlib.Core.Path.{◌≡◌, refl, ◌∙◌, sym, ap}
use mathlib.Core.List.{List, [], ◌∷◌, ◌++◌, append_assoc, append-nil}
use Prim.Native.Nat.{ℕ, suc, ◌+◌, ◌≤◌, ◌<◌}
use native.Mathlib.Nat.{zero-add, suc-add}
use native.Mathlib.Omega.{arith}
use lib.Dec.{leb}
use mathlib.Core.Bool.{Bool, true, false}
use lib.ListN.{length, length-append, length-map}
use borrow.Author.Tests.{leb-true, leb-false, le-leb, lt-leb}
use Rattle.lex.specs.Lex.{Occurrence}
use Rattle.lex.specs.declared.diagnostic.Diagnostic.{Diagnostic}
use Rattle.rules.specs.Parse.{merged}
use Rattle.diagnostics.specs.Faults.{diagnostics_in, early, late}
use Rattle.diagnostics.proofs.Faults.{early_more, late_more, early_out, late_out}

abbrev pub occurrence : ℕ → Diagnostic → Occurrence
occurrence after d = record { after = after; diagnostic = d }

-- ---- merging, a step

module _ (n : ℕ) (f : Occurrence) (fs : List Occurrence) (e : Occurrence) (es : List Occurrence) where
  merged_fault : f.after ≤ e.after → merged (suc n) (f ∷ fs) (e ∷ es) ≡ f.diagnostic ∷ merged n fs (e ∷ es)
  unfolding merged
  merged_fault h = rw (le-leb f.after e.after h, merged) refl

  merged-error : e.after < f.after → merged (suc n) (f ∷ fs) (e ∷ es) ≡ e.diagnostic ∷ merged n (f ∷ fs) es
  unfolding merged
  merged-error h = rw (lt-leb f.after e.after h, merged) refl

merged_alone : (fs : List Occurrence) → merged (length fs + 0) fs [] ≡ diagnostics_in fs
unfolding merged
merged_alone [] = refl
merged_alone (f ∷ fs) = ap (λ (n : ℕ). merged n (f ∷ fs) []) (suc-add (length fs) 0) ∙ ap (λ (l : List Diagnostic). f.diagnostic ∷ l) (merged_alone fs)

-- the faults before an error come before it, and the others after it
error-after : (at : ℕ) (fs : List Occurrence) (d : Diagnostic) (more : List Occurrence)
    → merged (length fs + suc (length more)) fs (occurrence at d ∷ more) ≡ diagnostics_in (early at fs) ++ (d ∷ merged (length (late at fs) + length more) (late at fs) more)
unfolding merged early late
error-after at [] d more = rw (zero-add (suc (length more)), zero-add (length more)) refl
error-after at (f ∷ fs) d more = go (leb f.after at) refl (error-after at fs d more)
  where
    go : (b : Bool) → leb f.after at ≡ b → merged (length fs + suc (length more)) fs (occurrence at d ∷ more) ≡ diagnostics_in (early at fs) ++ (d ∷ merged (length (late at fs) + length more) (late at fs) more)
        → merged (length (f ∷ fs) + suc (length more)) (f ∷ fs) (occurrence at d ∷ more) ≡ diagnostics_in (early at (f ∷ fs)) ++ (d ∷ merged (length (late at (f ∷ fs)) + length more) (late at (f ∷ fs)) more)
    go true b r =
        let h : f.after ≤ at = leb-true _ _ b in
        ap (λ (n : ℕ). merged n (f ∷ fs) (occurrence at d ∷ more)) (suc-add (length fs) (suc (length more)))
        ∙ merged_fault (length fs + suc (length more)) f fs (occurrence at d) more h
        ∙ ap (λ (l : List Diagnostic). f.diagnostic ∷ l) r
        ∙ sym (ap (λ (os : List Occurrence). diagnostics_in os ++ (d ∷ merged (length (late at (f ∷ fs)) + length more) (late at (f ∷ fs)) more)) (early_more at f fs h)
        ∙ ap (λ (os : List Occurrence). diagnostics_in (f ∷ early at fs) ++ (d ∷ merged (length os + length more) os more)) (late_more at f fs h))
    go false b r =
        let h : at < f.after = leb-false _ _ b in
        let fuel : length fs + suc (length more) ≡ length (f ∷ fs) + length more = omega arith in
        ap (λ (n : ℕ). merged n (f ∷ fs) (occurrence at d ∷ more)) (suc-add (length fs) (suc (length more)))
        ∙ merged-error (length fs + suc (length more)) f fs (occurrence at d) more h
        ∙ ap (λ (n : ℕ). d ∷ merged n (f ∷ fs) more) fuel
        ∙ sym (ap (λ (os : List Occurrence). diagnostics_in os ++ (d ∷ merged (length (late at (f ∷ fs)) + length more) (late at (f ∷ fs)) more)) (early_out at f fs h)
        ∙ ap (λ (os : List Occurrence). d ∷ merged (length os + length more) os more) (late_out at f fs h))

split-count : (at : ℕ) (fs : List Occurrence) → length (early at fs) + length (late at fs) ≡ length fs
unfolding early late
split-count at [] = refl
split-count at (f ∷ fs) = go (leb f.after at) refl (split-count at fs)
  where
    go : (b : Bool) → leb f.after at ≡ b → length (early at fs) + length (late at fs) ≡ length fs → length (early at (f ∷ fs)) + length (late at (f ∷ fs)) ≡ length (f ∷ fs)
    go true b r = let h : f.after ≤ at = leb-true _ _ b in omega (arith, ap length (early_more at f fs h), ap length (late_more at f fs h), r)
    go false b r = let h : at < f.after = leb-false _ _ b in omega (arith, ap length (early_out at f fs h), ap length (late_out at f fs h))

all-early : (at : ℕ) (os : List Occurrence) → late at os ≡ [] → early at os ≡ os
unfolding early late
all-early at [] e = refl
all-early at (x ∷ os) e = go (leb x.after at) refl (all-early at os)
  where
    go : (b : Bool) → leb x.after at ≡ b → (late at os ≡ [] → early at os ≡ os) → early at (x ∷ os) ≡ x ∷ os
    go true b r = let h : x.after ≤ at = leb-true _ _ b in early_more at x os h ∙ ap (λ (l : List Occurrence). x ∷ l) (r (sym (late_more at x os h) ∙ e))
    go false b r = let h : at < x.after = leb-false _ _ b in absurd (omega (arith, ap length (sym (late_out at x os h) ∙ e)))

-- ---- the order

-- `ds` are the errors `es` and the faults of `fs` but for `rest`, in the order in which they are
-- met
pub record Ordered (fs es : List Occurrence) (ds : List Diagnostic) (rest : List Occurrence) : Type 0 where
  pub merges : (more : List Occurrence) → merged (length fs + length (es ++ more)) fs (es ++ more) ≡ ds ++ merged (length rest + length more) rest more
  pub few : length ds + length rest ≡ length es + length fs

pub ordered-start : {fs : List Occurrence} → Ordered fs [] [] fs
ordered-start = record { merges = λ more. refl; few = refl }

module _ {fs es : List Occurrence} {ds : List Diagnostic} {rest : List Occurrence} (o : Ordered fs es ds rest) (at : ℕ) where
  -- there is room for what is listed: no more than the errors and all faults
  pub ordered-room : length ds + length (diagnostics_in (early at rest)) ≤ length es + length fs
  ordered-room = omega (arith, o.few, split-count at rest, length-map (early at rest) (λ (x : Occurrence). x.diagnostic))

  pub ordered-error : (e : Diagnostic) → Ordered fs (es ++ (occurrence at e ∷ [])) (ds ++ (diagnostics_in (early at rest) ++ (e ∷ []))) (late at rest)
  ordered-error e =
      let met : List Diagnostic = diagnostics_in (early at rest) in
      record {
        merges = λ more.
            let tail : List Diagnostic = merged (length (late at rest) + length more) (late at rest) more in
            ap (λ (l : List Occurrence). merged (length fs + length l) fs l) (append_assoc es (occurrence at e ∷ []) more)
            ∙ o.merges (occurrence at e ∷ more) ∙ ap (λ (l : List Diagnostic). ds ++ l) (error-after at rest e more)
            ∙ sym (append_assoc ds (met ++ (e ∷ [])) tail ∙ ap (λ (l : List Diagnostic). ds ++ l) (append_assoc met (e ∷ []) tail));
        few = omega (
          arith,
          o.few,
          split-count at rest,
          length-map (early at rest) (λ (x : Occurrence). x.diagnostic),
          length-append ds (met ++ (e ∷ [])),
          length-append met (e ∷ []),
          length-append es (occurrence at e ∷ []),
        );
      }

  -- where none has more tokens before it
  pub ordered_end : late at rest ≡ [] → merged (length fs + length es) fs es ≡ ds ++ diagnostics_in (early at rest)
  ordered_end none =
      ap (λ (l : List Occurrence). merged (length fs + length l) fs l) (sym (append-nil es)) ∙ o.merges [] ∙ ap (λ (l : List Diagnostic). ds ++ l) (merged_alone rest ∙ ap diagnostics_in (sym (all-early at rest none)))
