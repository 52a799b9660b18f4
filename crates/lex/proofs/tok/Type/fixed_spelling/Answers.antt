-- `Type::fixed_spelling` meets its contract: the table has the fixed spellings, which antt computes.
use Rattle.std.specs.Prelude.{Some, None}
use Rattle.std.proofs.Common.{◌∙◌, length, ap, sym}
use native.Mathlib.Omega.{arith}
use borrow.Author.Tests.{eqb-true, eqb-false}
use lib.ListN.{get_or-eq_default}
use Rattle.lex.specs.Kind.{keywords, fixed_spellings, fixed_spelling}
use Rattle.lex.proofs.WellFormed.{fixed_bytes}
use Rattle.lex.proofs.tok.Type.fixed_spelling.Goals.{in_default-via-in-Some+else-not-is_empty, in_default-via-in_default}
use Rattle.lex.proofs.tok.Type.fixed_spelling.Goals as goal

pub returns-in-Some-clause-by_cases : goal.returns-in-Some-clause-by_cases
unfolding fixed_spelling fixed_spellings keywords
returns-in-Some-clause-by_cases c = (omega (arith, ap length c.in-Some.ensures.1, eqb-false _ _ (sym c.if-not-is_empty.ensures)), c.in-Some.ensures.1)

pub returns-in_default-clause-by_cases : goal.returns-in_default-clause-by_cases
unfolding fixed_spelling fixed_spellings keywords
returns-in_default-clause-by_cases c = elim c.in_default.branch [
  | in_default-via-in-Some+else-not-is_empty w ↦ sym (ap length w.in-Some.ensures.1) ∙ eqb-true _ _ (sym w.if-not-is_empty.ensures)
  | in_default-via-in_default w ↦ ap length (get_or-eq_default fixed_spellings _ w.in_default.ensures)
]

pub returns-in-Some-clause-text : goal.returns-in-Some-clause-text
returns-in-Some-clause-text c = fixed_bytes c.args.kind (Some c.in-Some.text) (returns-in-Some-clause-by_cases c)

pub returns-in_default-clause-text : goal.returns-in_default-clause-text
returns-in_default-clause-text c = fixed_bytes c.args.kind None (returns-in_default-clause-by_cases c)
