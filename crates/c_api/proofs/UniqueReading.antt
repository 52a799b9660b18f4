-- Demand 3 of what is delivered: what the four readings of `parser` (`parse`, `parse_collect`, `read`,
-- `read_collect`) ensure of two readings and `compare::same_shape` of the arrays that these leave,
-- composed with unique reading.
use mathlib.Core.Path.{◌≡◌, refl, sym, ap, ap₂, ◌∙◌}
use mathlib.Core.Bool.{Bool, true}
use mathlib.Core.List.{List}
use Prim.Native.Nat.{ℕ}
use native.Mathlib.Omega.{arith}
use Rattle.lex.specs.Lex.{cut, tokens_of}
use Rattle.lex.specs.declared.diagnostic.Diagnostic.{Diagnostic}
use Rattle.rules.specs.Tree.{Tree}
use Rattle.rules.specs.Rules.{stage_one}
use Rattle.rules.specs.Parse.{read}
use Rattle.rules.specs.Promise.{Arrays, Outcome, promised}
use Rattle.rules.specs.Strike.{no_doc_before_import, notes_of, strike, Plain}
use Rattle.ast.specs.declared.Counts.{Counts}
use Rattle.rules.specs.Parsed as P
use Rattle.rules.proofs.Unique.Whole.{unique_reading}
use Rattle.std.specs.Prelude.{Result}
use Rattle.lex.specs.Answer.{Answer, answer, answered}
use Rattle.lex.specs.declared.diagnostic.Refusal.{Refusal}
use Rattle.ast.specs.Answer.{Lent, lent}
use Rattle.compare.specs.Compare.{compare}
use Rattle.compare.specs.Returned.{Mode, strict, reading, returned, YesOrNo, yes, no}
use Rattle.compare.proofs.Held.{strict-read, compared}
use Rattle.parser.specs.Steps.{turned_away}
use Rattle.c_api.proofs.Calls.{Steps, due, of_all}

-- a reading of the script has left these arrays and counts, whatever arrays and tables held before:
-- what the four ensure
pub record Read (mode : Mode) (script : List ℕ) (left : Arrays) (counts : Counts) : Type 0 where
  pub steps : Steps
  pub tokens : List ℕ
  pub errors : List ℕ
  pub lent : Arrays
  pub ensured : due steps (reading mode) script tokens errors lent ≡ record { answer = P.Tree counts; arrays = left }

read-promised : (mode : Mode) (script : List ℕ) (left : Arrays) (counts : Counts) (r : Read mode script left counts) → promised (reading mode) script r.lent ≡ record { answer = P.Tree counts; arrays = left }
read-promised mode script left counts r =
    of_all (reading mode) script r.tokens r.errors r.lent r.steps same (λ p. refused 1 p) (λ p. refused 2 p) (λ u p. refused 43 p) (λ p. refl) (ap (λ (o : Outcome). o.answer) r.ensured) ∙ r.ensured
  where
    same : Outcome → Type 0
    same o = o.answer ≡ P.Tree counts → promised (reading mode) script r.lent ≡ o

    refused : (n : ℕ) → P.Refused n ≡ P.Tree counts → promised (reading mode) script r.lent ≡ turned_away n r.lent
    refused n p = absurd (let z : ◌≡◌ {A = ℕ} 0 1 = cc in omega arith)

abbrev pub lent_by : List ℕ → Arrays → Counts → Lent
lent_by script l c = lent script l.nodes l.types l.lists l.roots c

module _ (m₁ m₂ : Mode) (s₁ s₂ : List ℕ) (l₁ l₂ : Arrays) (c₁ c₂ : Counts) (first : Read m₁ s₁ l₁ c₁) (second : Read m₂ s₂ l₂ c₂) where
  first' : promised (reading m₁) s₁ first.lent ≡ record { answer = P.Tree c₁; arrays = l₁ }
  first' = read-promised m₁ s₁ l₁ c₁ first

  second' : promised (reading m₂) s₂ second.lent ≡ record { answer = P.Tree c₂; arrays = l₂ }
  second' = read-promised m₂ s₂ l₂ c₂ second

  as_returned : compare (lent_by s₁ l₁ c₁) (lent_by s₂ l₂ c₂) ≡ compare (returned m₁ s₁ first.lent c₁) (returned m₂ s₂ second.lent c₂)
  as_returned = ap₂ (λ (o p : Outcome). compare (lent_by s₁ o.arrays c₁) (lent_by s₂ p.arrays c₂)) (sym first') (sym second')

  -- of two readings, each in either mode: the comparison of their trees is yes or no, and yes
  -- exactly where the shapes are the same
  pub compared_trees : (t₁ : Tree) × (t₂ : Tree) × (es₁ : List Diagnostic) × (es₂ : List Diagnostic) × (reading m₁ s₁ ≡ read t₁ es₁) × (reading m₂ s₂ ≡ read t₂ es₂) × YesOrNo s₁ t₁ s₂ t₂ (compare (lent_by s₁ l₁ c₁) (lent_by s₂ l₂ c₂))
  compared_trees = rw as_returned (compared m₁ m₂ s₁ s₂ first.lent second.lent c₁ c₂ (ap (λ (o : Outcome). o.answer) first') (ap (λ (o : Outcome). o.answer) second'))

  -- and so is what `same_shape` answers
  pub answers : (x : Result Bool Refusal) → answered x ≡ compare (lent_by s₁ l₁ c₁) (lent_by s₂ l₂ c₂)
      → (t₁ : Tree) × (t₂ : Tree) × (es₁ : List Diagnostic) × (es₂ : List Diagnostic) × (reading m₁ s₁ ≡ read t₁ es₁) × (reading m₂ s₂ ≡ read t₂ es₂) × YesOrNo s₁ t₁ s₂ t₂ (answered x)
  answers x compares = rw compares compared_trees

-- of two strict readings
module _ (s₁ s₂ : List ℕ) (l₁ l₂ : Arrays) (c₁ c₂ : Counts) (first : Read strict s₁ l₁ c₁) (second : Read strict s₂ l₂ c₂) where
  -- yes: once what demand 3 strikes out is struck out, the tokens are the same
  pub same-tokens : compare (lent_by s₁ l₁ c₁) (lent_by s₂ l₂ c₂) ≡ answer true → no_doc_before_import (tokens_of (cut s₁)) ≡ true → no_doc_before_import (tokens_of (cut s₂)) ≡ true → (notes_of stage_one s₁).after_default ≡ 0 → (notes_of stage_one s₂).after_default ≡ 0
      → strike stage_one s₁ ≡ strike stage_one s₂
  same-tokens e d₁ d₂ m₁ m₂ =
      let a = compared_trees strict strict s₁ s₂ l₁ l₂ c₁ c₂ first second in
      go a.0 a.1 (record { accepted = strict-read s₁ a.0 a.2 a.4; docs = d₁; matches = m₁ }) (record { accepted = strict-read s₂ a.1 a.3 a.5; docs = d₂; matches = m₂ }) _ e a.6
    where
      go : (t₁ t₂ : Tree) → Plain stage_one s₁ t₁ → Plain stage_one s₂ t₂ → (a : Answer Bool) → a ≡ answer true → YesOrNo s₁ t₁ s₂ t₂ a → strike stage_one s₁ ≡ strike stage_one s₂
      go t₁ t₂ p₁ p₂ a e (yes shapes) = unique_reading s₁ s₂ t₁ t₂ p₁ p₂ shapes
      go t₁ t₂ p₁ p₂ a e (no differ) = absurd (let z : ◌≡◌ {A = ℕ} 0 1 = cc in omega arith)
