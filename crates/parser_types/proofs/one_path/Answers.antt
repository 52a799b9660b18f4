-- `parser_types::one_path` meets its contract.
use Rattle.std.proofs.Common.{refl}
use Rattle.parser_state.proofs.Steps.{read, collected_one, enough}
use Rattle.std.specs.Prelude.{None}
use Rattle.parser_types.proofs.one_path.Goals as goal

pub returns-clause-wherever : goal.returns-clause-wherever
returns-clause-wherever c = λ nodes types. enough (read _ (c.advance.ensures.wherever nodes types None) refl (collected_one _ (c.push_token.ensures.wherever _ nodes types))) tt

pub returns-clause-reads : goal.returns-clause-reads
returns-clause-reads c = returns-clause-wherever c None None
