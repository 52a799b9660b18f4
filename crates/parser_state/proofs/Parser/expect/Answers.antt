-- `parser_state::Parser::expect` meets its contract.
use Rattle.rules.specs.Combinators.{expect}
use Rattle.std.specs.Prelude.{None}
use Rattle.parser_state.proofs.Parser.expect.Goals as goal

pub returns-clause-wherever : goal.returns-clause-wherever
unfolding expect
returns-clause-wherever c = c.expect_or.ensures.wherever

pub returns-clause-reads : goal.returns-clause-reads
returns-clause-reads c = returns-clause-wherever c None None None
