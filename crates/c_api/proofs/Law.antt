-- The law of a finished tree (Q-11) of what is delivered: what `purple_garden_parse`,
-- `purple_garden_parse_collect`, `purple_garden_read` and `purple_garden_read_collect` ensure, where
-- they return 0, composed with the law of the rules.
use mathlib.Core.Path.{◌≡◌, sym, ap, ◌∙◌}
use mathlib.Core.List.{List, [], ◌∷◌}
use Prim.Native.Nat.{ℕ}
use native.Mathlib.Omega.{arith}
use lib.ListN.{length}
use Rattle.lex.specs.declared.diagnostic.Diagnostic.{Diagnostic}
use Rattle.rules.specs.Tree.{Tree}
use Rattle.rules.specs.Rules.{stage_one}
use Rattle.rules.specs.Parse.{Reading, parse, parse_collect}
use Rattle.ast.specs.Layout.{diagnostic_cells}
use Rattle.rules.specs.Promise.{Arrays, holding, Outcome, promised, numbers_of}
use Rattle.rules.specs.Law.{resynchronisings, Law}
use Rattle.rules.specs.Parsed.{Parsed}
use Rattle.rules.proofs.Law.Whole.{tree_law_stage_one, Delivered, strict_delivered, collecting_delivered}
use Rattle.parser.specs.Steps.{read_promised, WholeOutcome, parse_promised}
use Rattle.c_api.specs.Numbers.{number_cells, reading_cells, Returned, as_numbers, BothReturned, both_numbers}
use Rattle.c_api.proofs.Calls.{Steps, both, second, due, of_all}

-- The twelve numbers and the five arrays that a call leaves hold a tree, and the law holds for it.
-- `lent` are the arrays before the call; `begun` has the resynchronisings of the reading.
pub record Lawful (script begun : List ℕ) (lent : Arrays) (numbers : List ℕ) (left : Arrays) : Type 0 where
  pub tree : Tree
  pub errors : List Diagnostic
  pub counts : numbers ≡ 0 ∷ 0 ∷ 0 ∷ 0 ∷ 0 ∷ 0 ∷ length tree.arena.nodes ∷ length tree.arena.types ∷ length tree.arena.cells ∷ length tree.roots ∷ tree.arena.values ∷ length errors ∷ []
  pub arrays : left ≡ holding tree errors lent
  pub law : Law script tree begun

module _ (script tokens errors : List ℕ) (lent left : Arrays) (before numbers : List ℕ) where
  -- a call with this outcome returned 0
  abbrev pub Returned0 : Outcome → Type 0
  Returned0 o = as_numbers o before ≡ record { number = 0; numbers = numbers; arrays = left }

  -- and one of both steps, with these tables left
  abbrev pub BothReturned0 : WholeOutcome → List ℕ → List ℕ → Type 0
  BothReturned0 o tokens' errors' = both_numbers o before ≡ record { reading = record { number = 0; numbers = numbers; arrays = left }; tokens = tokens'; errors = errors' }

  abbrev Delivers : List ℕ → Outcome → Type 0
  Delivers begun o = (numbers_of o.answer).number ≡ 0 → Delivered script begun lent o

  lawful : (begun : List ℕ) (o : Outcome) → Returned0 o → Delivers begun o → Lawful script begun lent numbers left
  unfolding as_numbers reading_cells number_cells numbers_of diagnostic_cells
  lawful begun o e h = go (h (ap (λ (r : Returned). r.number) e))
    where
      go : Delivered script begun lent o → Lawful script begun lent numbers left
      go d = record {
        tree = d.tree;
        errors = d.errors;
        counts = sym (ap (λ (r : Returned). r.numbers) e) ∙ ap (λ (p : Parsed). reading_cells p before) d.answer;
        arrays = sym (ap (λ (r : Returned). r.arrays) e) ∙ d.arrays;
        law = d.law;
      }

  delivers : (how : List ℕ → Reading) (begun : List ℕ) (steps : Steps) → Delivers begun (promised how script lent) → Delivers begun (due steps how script tokens errors lent)
  unfolding numbers_of
  delivers how begun steps h = of_all how script tokens errors lent steps (Delivers begun) (λ p. absurd (omega (arith, p))) (λ p. absurd (omega (arith, p))) (λ u p. absurd (omega (arith, p))) h

  -- strict mode never resynchronises
  strict_lawful : (steps : Steps) → Returned0 (due steps (parse stage_one) script tokens errors lent) → Lawful script [] lent numbers left
  strict_lawful steps e = lawful [] (due steps (parse stage_one) script tokens errors lent) e (delivers (parse stage_one) [] steps (strict_delivered tree_law_stage_one script lent))

  collecting_lawful : (steps : Steps) → Returned0 (due steps (parse_collect stage_one) script tokens errors lent) → Lawful script (resynchronisings stage_one script) lent numbers left
  collecting_lawful steps e =
      lawful (resynchronisings stage_one script) (due steps (parse_collect stage_one) script tokens errors lent) e
      (delivers (parse_collect stage_one) (resynchronisings stage_one script) steps (collecting_delivered tree_law_stage_one script lent))

  pub parse_lawful : {tokens' errors' : List ℕ} → BothReturned0 (parse_promised (parse stage_one) script tokens errors lent) tokens' errors' → Lawful script [] lent numbers left
  unfolding both_numbers
  parse_lawful e = strict_lawful both (ap (λ (r : BothReturned). r.reading) e)

  pub parse_collect_lawful : {tokens' errors' : List ℕ} → BothReturned0 (parse_promised (parse_collect stage_one) script tokens errors lent) tokens' errors' → Lawful script (resynchronisings stage_one script) lent numbers left
  unfolding both_numbers
  parse_collect_lawful e = collecting_lawful both (ap (λ (r : BothReturned). r.reading) e)

  pub read_lawful : Returned0 (read_promised (parse stage_one) script tokens errors lent) → Lawful script [] lent numbers left
  read_lawful e = strict_lawful second e

  pub read_collect_lawful : Returned0 (read_promised (parse_collect stage_one) script tokens errors lent) → Lawful script (resynchronisings stage_one script) lent numbers left
  read_collect_lawful e = collecting_lawful second e
