-- `parser_types::atom_type` meets its contract.
use Rattle.std.proofs.Common.{refl}
use Rattle.parser_state.proofs.Steps.{read, enough}
use Rattle.ast.specs.Layout.{type_cells, token_cells, run_cells}
use Rattle.rules.specs.Rules.{atom_type}
use Rattle.std.specs.Prelude.{None}
use Rattle.parser_types.proofs.atom_type.Goals as goal

pub returns-clause-wherever : goal.returns-clause-wherever
unfolding atom_type type_cells token_cells run_cells
returns-clause-wherever c = λ nodes lists. enough (read _ (c.advance.ensures.wherever nodes None lists) refl (c.push_type.ensures.wherever _ _ refl nodes lists)) tt

pub returns-clause-reads : goal.returns-clause-reads
returns-clause-reads c = returns-clause-wherever c None None
