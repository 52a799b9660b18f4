-- `parser_types::parse_import` meets its contract.
use Rattle.std.proofs.Common.{refl}
use Rattle.parser_state.proofs.Steps.{read, seq, reassoc, lists-after, enough, fails, stops}
use Rattle.rules.specs.Rules.{parse_import}
use Rattle.rules.specs.Combinators.{alloc_slice}
use Rattle.ast.specs.Layout.{token_cells, run_cells, node_cells}
use Rattle.std.specs.Prelude.{None}
use Rattle.parser_types.proofs.parse_import.Goals as goal

pub returns-in_err-members-clause-wherever : goal.returns-in_err-members-clause-wherever
unfolding parse_import
returns-in_err-members-clause-wherever c = λ types. fails _ (read _ (c.advance.ensures.wherever None types None) refl (stops _ (c.in_err-members.ensures.wherever None types) refl)) refl c.from_residual.ensures tt

pub returns-in_err-members-clause-reads : goal.returns-in_err-members-clause-reads
returns-in_err-members-clause-reads c = returns-in_err-members-clause-wherever c None

pub returns-clause-wherever : goal.returns-clause-wherever
unfolding parse_import node_cells token_cells run_cells
returns-clause-wherever c = λ types. enough (read _ (c.advance.ensures.wherever None types None) refl (reassoc _ alloc_slice _ (seq _ (lists-after alloc_slice (c.in_ok-members.ensures.wherever None types) (c.alloc_slice-pkgs.ensures.wherever _ None types) refl) (c.push_token_node.ensures.wherever _ _ refl types None)))) tt

pub returns-clause-reads : goal.returns-clause-reads
returns-clause-reads c = returns-clause-wherever c None
