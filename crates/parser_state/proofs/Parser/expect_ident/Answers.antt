-- `parser_state::Parser::expect_ident` meets its contract.
use Rattle.rules.specs.Combinators.{expect_ident}
use Rattle.std.specs.Prelude.{None}
use Rattle.parser_state.proofs.Parser.expect_ident.Goals as goal

pub returns-clause-wherever : goal.returns-clause-wherever
unfolding expect_ident
returns-clause-wherever c = c.expect_or.ensures.wherever

pub returns-clause-reads : goal.returns-clause-reads
returns-clause-reads c = returns-clause-wherever c None None None
