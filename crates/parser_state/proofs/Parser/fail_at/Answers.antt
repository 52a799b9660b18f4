-- `parser_state::Parser::fail_at` meets its contract.
use Rattle.std.proofs.Common.{refl}
use Rattle.parser_state.proofs.Leaves.{failing_before}
use Rattle.std.specs.Prelude.{None}
use Rattle.parser_state.proofs.Parser.fail_at.Goals as goal

pub returns-clause-wherever : goal.returns-clause-wherever
returns-clause-wherever c = λ nodes types lists. failing_before _ c.args.at _ c.token_at.ensures refl c.at_token.ensures

pub returns-clause-reads : goal.returns-clause-reads
returns-clause-reads c = returns-clause-wherever c None None None
