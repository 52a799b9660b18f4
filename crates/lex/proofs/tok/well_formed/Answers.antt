-- `lex::tok::well_formed` meets its contract.
use mathlib.Core.Path.{◌∙◌, sym, ap}
use Rattle.std.specs.Prelude.{is_some}
use Rattle.lex.proofs.WellFormed.{fixed_some, well_formed-some, well_formed-none}
use Rattle.lex.proofs.tok.well_formed.Goals as goal

pub returns-then-is_some : goal.returns-then-is_some
returns-then-is_some c = c.if-is_some.true ∙ sym (well_formed-some _ _ (sym (ap is_some c.spelling.ensures) ∙ sym c.is_some.ensures ∙ c.if-is_some.true))

pub returns-else-is_some : goal.returns-else-is_some
returns-else-is_some c =
    let nothing = sym (ap is_some c.spelling.ensures) ∙ sym c.is_some.ensures ∙ c.if-is_some.false in
    c.is_some-else-is_some.ensures ∙ fixed_some _ _ c.fixed_spelling.ensures.by_cases ∙ sym (well_formed-none _ _ nothing)
