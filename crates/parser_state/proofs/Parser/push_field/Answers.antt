-- `parser_state::Parser::push_field` meets its contract.
use Rattle.std.proofs.Common.{refl, arith}
use Rattle.ast.specs.Layout.{token_cells, run_cells, node_cells}
use Rattle.std.specs.Prelude.{None}
use Rattle.parser_state.proofs.Parser.push_field.Goals as goal

pub returns-clause-wherever : goal.returns-clause-wherever
unfolding node_cells token_cells run_cells
returns-clause-wherever c = λ tokens. c.push_node.ensures.wherever tokens _ 1 (omega arith) refl

pub returns-clause-reads : goal.returns-clause-reads
returns-clause-reads c = λ tokens. returns-clause-wherever c tokens None None
