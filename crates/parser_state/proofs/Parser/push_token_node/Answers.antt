-- `parser_state::Parser::push_token_node` meets its contract.
use Rattle.std.proofs.Common.{sym, arith}
use Rattle.ast.specs.Layout.{token_cells}
use Rattle.std.specs.Prelude.{None}
use Rattle.parser_state.proofs.Parser.push_token_node.Goals as goal

pub returns-clause-wherever : goal.returns-clause-wherever
unfolding token_cells
returns-clause-wherever c = λ tokens f e. c.push_node.ensures.wherever tokens f 1 (omega arith) (sym e)

pub returns-clause-reads : goal.returns-clause-reads
returns-clause-reads c = λ tokens f e. returns-clause-wherever c tokens f e None None
