-- `parser_types::fn_return` meets its contract.
use Rattle.std.proofs.Common.{sym, ◌∙◌}
use Rattle.parser_state.proofs.Steps.{if_kind-yes, if_kind-no, if_kind-both, enough}
use Rattle.parser_state.proofs.Rounds.{struck_as}
use Rattle.rules.specs.Rules.{return_type}
use Rattle.std.specs.Prelude.{None}
use Rattle.parser_types.proofs.fn_return.Goals as goal

pub returns-then-kind-eq-CURLY_LEFT-clause-wherever : goal.returns-then-kind-eq-CURLY_LEFT-clause-wherever
returns-then-kind-eq-CURLY_LEFT-clause-wherever c = λ rules nodes. if_kind-yes _ _ (c.supplied_void.ensures.wherever _ nodes None) (sym c.kind.ensures ∙ c.if-kind-eq-CURLY_LEFT.true)

pub returns-then-kind-eq-CURLY_LEFT-clause-reads : goal.returns-then-kind-eq-CURLY_LEFT-clause-reads
returns-then-kind-eq-CURLY_LEFT-clause-reads c = λ rules. returns-then-kind-eq-CURLY_LEFT-clause-wherever c rules None

pub returns-else-kind-eq-CURLY_LEFT-clause-wherever : goal.returns-else-kind-eq-CURLY_LEFT-clause-wherever
unfolding return_type
returns-else-kind-eq-CURLY_LEFT-clause-wherever c = λ rules nodes. if_kind-no _ _ (enough (if_kind-both _ _ _ (struck_as (c.parse_type.ensures.wherever rules nodes)) (c.parse_type.ensures.wherever rules nodes)) tt) (λ e. c.if-kind-eq-CURLY_LEFT.false (c.kind.ensures ∙ e))

pub returns-else-kind-eq-CURLY_LEFT-clause-reads : goal.returns-else-kind-eq-CURLY_LEFT-clause-reads
returns-else-kind-eq-CURLY_LEFT-clause-reads c = λ rules. returns-else-kind-eq-CURLY_LEFT-clause-wherever c rules None
