-- `parser_state::Parser::reject_kind` meets its contract.
use Rattle.std.proofs.Common.{sym, ◌∙◌}
use Rattle.rules.specs.Combinators.{reject_kind}
use Rattle.parser_state.proofs.Steps.{if_kind-yes, if_kind-no, refused, done}
use Rattle.std.specs.Prelude.{None}
use Rattle.parser_state.proofs.Parser.reject_kind.Goals as goal

pub returns-then-kind-rejected-clause-wherever : goal.returns-then-kind-rejected-clause-wherever
unfolding reject_kind
returns-then-kind-rejected-clause-wherever c = λ tokens nodes types lists. if_kind-yes _ _ (refused (c.fail_expecting.ensures.wherever _ nodes types lists)) (sym c.kind.ensures ∙ c.if-kind-rejected.true)

pub returns-then-kind-rejected-clause-reads : goal.returns-then-kind-rejected-clause-reads
returns-then-kind-rejected-clause-reads c = λ tokens. returns-then-kind-rejected-clause-wherever c tokens None None None

pub returns-clause-wherever : goal.returns-clause-wherever
unfolding reject_kind
returns-clause-wherever c = λ tokens nodes types lists. if_kind-no _ _ done (λ e. c.if-kind-rejected.false (c.kind.ensures ∙ e))

pub returns-clause-reads : goal.returns-clause-reads
returns-clause-reads c = λ tokens. returns-clause-wherever c tokens None None None
