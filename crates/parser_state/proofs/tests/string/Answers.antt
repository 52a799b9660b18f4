-- `parser_state::tests::string` meets its contract.
use Rattle.std.proofs.Common.{refl}
use Rattle.rules.specs.Rules.{import_path}
use Rattle.parser_state.specs.Represents.{AsNamed}
use Rattle.parser_state.proofs.Steps.{as_kept, as_rule, if_kind-bind, read, enough, fails, stops}
use Rattle.parser_state.proofs.tests.string.Goals as goal

pub returns-in_err-expect_or : goal.returns-in_err-expect_or
unfolding import_path
returns-in_err-expect_or c = as_kept AsNamed (fails _ (as_rule (if_kind-bind _ _ _ _ _) (stops _ c.in_err-expect_or.ensures.reads refl)) refl c.from_residual.ensures tt)

pub returns : goal.returns
unfolding import_path
returns c = as_kept AsNamed (as_rule (if_kind-bind _ _ _ _ _) (enough (read _ c.in_ok-expect_or.ensures.reads refl (c.push_token.ensures.reads _)) tt))
