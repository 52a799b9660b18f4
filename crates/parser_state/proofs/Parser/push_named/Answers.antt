-- `parser_state::Parser::push_named` meets its contract.
use Rattle.ast.specs.Layout.{token_cells}
use Rattle.std.specs.Prelude.{None}
use Rattle.parser_state.proofs.Parser.push_named.Goals as goal

pub returns-clause-wherever : goal.returns-clause-wherever
unfolding token_cells
returns-clause-wherever c = λ tokens. c.push_cells.ensures.wherever tokens

pub returns-clause-reads : goal.returns-clause-reads
returns-clause-reads c = λ tokens. returns-clause-wherever c tokens None None
