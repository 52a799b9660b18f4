-- `parser_operators::field_access` meets its contract.
use Rattle.std.proofs.Common.{refl}
use Rattle.parser_state.proofs.Steps.{then, read, seq, done, enough, stops, fails}
use Rattle.rules.specs.Rules.{field_access}
use Rattle.std.specs.Prelude.{None}
use Rattle.parser_operators.proofs.field_access.Goals as goal

pub returns-in_err-expect_ident-clause-wherever : goal.returns-in_err-expect_ident-clause-wherever
unfolding field_access
returns-in_err-expect_ident-clause-wherever c = λ types lists. fails _ (then (c.advance.ensures.wherever None types lists) (stops _ (c.in_err-expect_ident.ensures.wherever None types lists) refl)) refl c.from_residual.ensures tt

pub returns-in_err-expect_ident-clause-reads : goal.returns-in_err-expect_ident-clause-reads
returns-in_err-expect_ident-clause-reads c = returns-in_err-expect_ident-clause-wherever c None None

pub returns-clause-wherever : goal.returns-clause-wherever
unfolding field_access
returns-clause-wherever c = λ types lists. enough (then (c.advance.ensures.wherever None types lists) (read _ (c.in_ok-expect_ident.ensures.wherever None types lists) refl (seq _ (c.push_field.ensures.wherever _ types lists) done))) tt

pub returns-clause-reads : goal.returns-clause-reads
returns-clause-reads c = returns-clause-wherever c None None
