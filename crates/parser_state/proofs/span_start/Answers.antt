-- `parser_state::span_start` meets its contract.
use Rattle.std.proofs.Common.{refl, arith, eq-eqb, ne_eqb}
use Rattle.lex.specs.Kind.{k_s}
use Rattle.parser_state.specs.Refines.{at_entry}
use Rattle.parser_state.proofs.span_start.Goals as goal

pub returns-then-t-eq-S : goal.returns-then-t-eq-S
unfolding at_entry
returns-then-t-eq-S c = rw (eq-eqb _ k_s c.if-t-eq-S.true) refl

pub returns-else-t-eq-S : goal.returns-else-t-eq-S
unfolding at_entry
returns-else-t-eq-S c = rw (ne_eqb _ k_s c.if-t-eq-S.false) (omega arith)
