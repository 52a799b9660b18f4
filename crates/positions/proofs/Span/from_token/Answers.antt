-- `positions::Span::from_token` meets its contract.
use Rattle.std.proofs.Common.{◌∙◌, sym, arith}
use Rattle.lex.proofs.WellFormed.{well_formed-string}
use Rattle.positions.proofs.Span.from_token.Goals as goal

pub overflow_add-start : goal.overflow_add-start
overflow_add-start c =
    omega (arith, well_formed-string c.args.script.now c.args.t (sym c.well_formed-2.ensures ∙ c.if-not-well_formed.false) c.if-t-eq-S.true)
