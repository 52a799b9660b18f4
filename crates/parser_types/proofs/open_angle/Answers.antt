-- `parser_types::open_angle` meets its contract.
use Rattle.std.proofs.Common.{refl}
use Rattle.parser_state.proofs.Steps.{then, fails, stops_then}
use Rattle.rules.specs.Rules.{open_angle}
use Rattle.std.specs.Prelude.{None}
use Rattle.parser_types.proofs.open_angle.Goals as goal

pub returns-in_err-expect-clause-wherever : goal.returns-in_err-expect-clause-wherever
unfolding open_angle
returns-in_err-expect-clause-wherever c = λ nodes types lists. fails _ (then (c.advance.ensures.wherever nodes types lists) (stops_then _ (c.in_err-expect.ensures.wherever nodes types lists) refl)) refl c.from_residual.ensures tt

pub returns-in_err-expect-clause-reads : goal.returns-in_err-expect-clause-reads
returns-in_err-expect-clause-reads c = returns-in_err-expect-clause-wherever c None None None

pub returns-clause-wherever : goal.returns-clause-wherever
unfolding open_angle
returns-clause-wherever c = λ nodes types lists. then (c.advance.ensures.wherever nodes types lists) (then (c.in_ok-expect.ensures.wherever nodes types lists) (c.reject_kind.ensures.wherever _ nodes types lists))

pub returns-clause-reads : goal.returns-clause-reads
returns-clause-reads c = returns-clause-wherever c None None None
