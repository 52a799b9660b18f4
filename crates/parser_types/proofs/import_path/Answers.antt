-- `parser_types::import_path` meets its contract.
use Rattle.std.proofs.Common.{refl}
use Rattle.parser_state.proofs.Steps.{as_rule, if_kind-bind, read, enough, fails, stops}
use Rattle.rules.specs.Rules.{import_path}
use Rattle.std.specs.Prelude.{None}
use Rattle.parser_types.proofs.import_path.Goals as goal

pub returns-in_err-expect_or-clause-wherever : goal.returns-in_err-expect_or-clause-wherever
unfolding import_path
returns-in_err-expect_or-clause-wherever c = λ nodes types. fails _ (as_rule (if_kind-bind _ _ _ _ _) (stops _ (c.in_err-expect_or.ensures.wherever nodes types None) refl)) refl c.from_residual.ensures tt

pub returns-in_err-expect_or-clause-reads : goal.returns-in_err-expect_or-clause-reads
returns-in_err-expect_or-clause-reads c = returns-in_err-expect_or-clause-wherever c None None

pub returns-clause-wherever : goal.returns-clause-wherever
unfolding import_path
returns-clause-wherever c = λ nodes types. as_rule (if_kind-bind _ _ _ _ _) (enough (read _ (c.in_ok-expect_or.ensures.wherever nodes types None) refl (c.push_token.ensures.wherever _ nodes types)) tt)

pub returns-clause-reads : goal.returns-clause-reads
returns-clause-reads c = returns-clause-wherever c None None
