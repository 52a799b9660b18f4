-- `parser_state::Parser::expect_or` meets its contract.
use Rattle.std.proofs.Common.{sym, ◌∙◌}
use Rattle.parser_state.proofs.Steps.{if_kind-yes, if_kind-no, refused}
use Rattle.std.specs.Prelude.{None}
use Rattle.parser_state.proofs.Parser.expect_or.Goals as goal

pub returns-then-kind-clause-wherever : goal.returns-then-kind-clause-wherever
returns-then-kind-clause-wherever c = λ nodes types lists. if_kind-yes _ _ (c.advance.ensures.wherever nodes types lists) (sym c.kind.ensures ∙ c.if-kind.true)

pub returns-then-kind-clause-reads : goal.returns-then-kind-clause-reads
returns-then-kind-clause-reads c = returns-then-kind-clause-wherever c None None None

pub returns-else-kind-clause-wherever : goal.returns-else-kind-clause-wherever
returns-else-kind-clause-wherever c = λ nodes types lists. if_kind-no _ _ (refused (c.fail_expecting.ensures.wherever _ nodes types lists)) (λ e. c.if-kind.false (c.kind.ensures ∙ e))

pub returns-else-kind-clause-reads : goal.returns-else-kind-clause-reads
returns-else-kind-clause-reads c = returns-else-kind-clause-wherever c None None None
