-- `parser_operators::ident` meets its contract.
use Rattle.std.proofs.Common.{refl}
use Rattle.parser_state.proofs.Steps.{read, enough}
use Rattle.ast.specs.Layout.{token_cells, node_cells}
use Rattle.rules.specs.Rules.{ident}
use Rattle.std.specs.Prelude.{None}
use Rattle.parser_operators.proofs.ident.Goals as goal

pub returns-clause-wherever : goal.returns-clause-wherever
unfolding ident node_cells token_cells
returns-clause-wherever c = λ types lists. enough (read _ (c.advance.ensures.wherever None types lists) refl (c.push_token_node.ensures.wherever _ _ refl types lists)) tt

pub returns-clause-reads : goal.returns-clause-reads
returns-clause-reads c = returns-clause-wherever c None None
