-- `parser_state::Parser::fail_expecting` meets its contract.
use Rattle.std.proofs.Common.{refl}
use Rattle.parser_state.proofs.Leaves.{failing}
use Rattle.std.specs.Prelude.{None}
use Rattle.parser_state.proofs.Parser.fail_expecting.Goals as goal

pub returns-clause-wherever : goal.returns-clause-wherever
returns-clause-wherever c = λ tokens nodes types lists. failing refl c.at_token.ensures

pub returns-clause-reads : goal.returns-clause-reads
returns-clause-reads c = λ tokens. returns-clause-wherever c tokens None None None
