-- `parser_state::Parser::close` meets its contract.
use Rattle.std.proofs.Common.{refl}
use Rattle.parser_state.specs.Refines.{closed}
use Rattle.parser_state.proofs.Steps.{lists_then, lists_stop}
use Rattle.std.specs.Prelude.{None}
use Rattle.parser_state.proofs.Parser.close.Goals as goal

pub returns-in_err-expect-clause-wherever : goal.returns-in_err-expect-clause-wherever
unfolding closed
returns-in_err-expect-clause-wherever c = λ nodes types. lists_stop _ _ (c.in_err-expect.ensures.wherever nodes types None) refl c.from_residual.ensures

pub returns-in_err-expect-clause-reads : goal.returns-in_err-expect-clause-reads
returns-in_err-expect-clause-reads c = returns-in_err-expect-clause-wherever c None None

pub returns-clause-wherever : goal.returns-clause-wherever
unfolding closed
returns-clause-wherever c = λ nodes types. lists_then _ (c.in_ok-expect.ensures.wherever nodes types None) (c.alloc_slice.ensures.wherever _ nodes types)

pub returns-clause-reads : goal.returns-clause-reads
returns-clause-reads c = returns-clause-wherever c None None
