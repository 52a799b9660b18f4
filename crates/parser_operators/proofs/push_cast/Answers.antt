-- `parser_operators::push_cast` meets its contract.
use Rattle.std.proofs.Common.{refl}
use Rattle.ast.specs.Layout.{token_cells, node_cells}
use Rattle.parser_operators.proofs.push_cast.Goals as goal

pub returns-clause-reads : goal.returns-clause-reads
unfolding node_cells token_cells
returns-clause-reads c = λ tokens. c.push_token_node.ensures.reads tokens _ refl
