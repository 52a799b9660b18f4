-- `parser_types::foreign_type` meets its contract.
use Rattle.std.proofs.Common.{refl}
use Rattle.parser_state.proofs.Steps.{read, then, enough, stops, stops_then, fails}
use Rattle.ast.specs.Layout.{type_cells, token_cells, run_cells}
use Rattle.rules.specs.Rules.{foreign_type}
use Rattle.std.specs.Prelude.{None}
use Rattle.parser_types.proofs.foreign_type.Goals as goal

pub returns-in_err-open_angle-clause-wherever : goal.returns-in_err-open_angle-clause-wherever
unfolding foreign_type
returns-in_err-open_angle-clause-wherever c = λ nodes lists. fails _ (stops_then _ (c.in_err-open_angle.ensures.wherever nodes None lists) refl) refl c.from_residual.ensures tt

pub returns-in_err-open_angle-clause-reads : goal.returns-in_err-open_angle-clause-reads
returns-in_err-open_angle-clause-reads c = returns-in_err-open_angle-clause-wherever c None None

pub returns-in_err-expect_ident-clause-wherever : goal.returns-in_err-expect_ident-clause-wherever
unfolding foreign_type
returns-in_err-expect_ident-clause-wherever c = λ nodes lists. fails _ (then (c.in_ok-open_angle.ensures.wherever nodes None lists) (stops _ (c.in_err-expect_ident.ensures.wherever nodes None lists) refl)) refl c.from_residual-in_err-expect_ident.ensures tt

pub returns-in_err-expect_ident-clause-reads : goal.returns-in_err-expect_ident-clause-reads
returns-in_err-expect_ident-clause-reads c = returns-in_err-expect_ident-clause-wherever c None None

pub returns-in_err-expect-clause-wherever : goal.returns-in_err-expect-clause-wherever
unfolding foreign_type
returns-in_err-expect-clause-wherever c = λ nodes lists. fails _ (then (c.in_ok-open_angle.ensures.wherever nodes None lists) (read _ (c.in_ok-expect_ident.ensures.wherever nodes None lists) refl (stops_then _ (c.in_err-expect.ensures.wherever nodes None lists) refl))) refl c.from_residual-in_err-expect.ensures tt

pub returns-in_err-expect-clause-reads : goal.returns-in_err-expect-clause-reads
returns-in_err-expect-clause-reads c = returns-in_err-expect-clause-wherever c None None

pub returns-clause-wherever : goal.returns-clause-wherever
unfolding foreign_type type_cells token_cells run_cells
returns-clause-wherever c = λ nodes lists. enough (then (c.in_ok-open_angle.ensures.wherever nodes None lists) (read _ (c.in_ok-expect_ident.ensures.wherever nodes None lists) refl (then (c.in_ok-expect.ensures.wherever nodes None lists) (c.push_type.ensures.wherever _ _ refl nodes lists)))) tt

pub returns-clause-reads : goal.returns-clause-reads
returns-clause-reads c = returns-clause-wherever c None None
