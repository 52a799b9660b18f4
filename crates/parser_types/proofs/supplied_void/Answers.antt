-- `parser_types::supplied_void` meets its contract.
use Rattle.std.proofs.Common.{refl}
use Rattle.parser_state.proofs.Steps.{looks, read}
use Rattle.ast.specs.Layout.{type_cells, token_cells, run_cells}
use Rattle.rules.specs.Rules.{supplied_void}
use Rattle.std.specs.Prelude.{None}
use Rattle.parser_types.proofs.supplied_void.Goals as goal

pub returns-clause-wherever : goal.returns-clause-wherever
unfolding supplied_void type_cells token_cells run_cells
returns-clause-wherever c = λ tokens nodes lists. read _ looks refl (c.push_type.ensures.wherever tokens _ refl nodes lists)

pub returns-clause-reads : goal.returns-clause-reads
returns-clause-reads c = λ tokens. returns-clause-wherever c tokens None None
