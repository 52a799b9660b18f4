-- `parser_types::parse_args` meets its contract.
use Rattle.std.proofs.Common.{refl}
use Rattle.parser_state.proofs.Steps.{then, enough, fails, stops_then}
use Rattle.rules.specs.Rules.{parse_args}
use Rattle.std.specs.Prelude.{None}
use Rattle.parser_types.proofs.parse_args.Goals as goal

pub returns-in_err-expect-clause-wherever : goal.returns-in_err-expect-clause-wherever
unfolding parse_args
returns-in_err-expect-clause-wherever c = λ rules nodes. fails _ (stops_then _ (c.in_err-expect.ensures.wherever nodes None None) refl) refl c.from_residual.ensures tt

pub returns-in_err-expect-clause-reads : goal.returns-in_err-expect-clause-reads
returns-in_err-expect-clause-reads c = λ rules. returns-in_err-expect-clause-wherever c rules None

pub returns-clause-wherever : goal.returns-clause-wherever
unfolding parse_args
returns-clause-wherever c = λ rules nodes. enough (then (c.in_ok-expect.ensures.wherever nodes None None) (c.typed_names.ensures.wherever rules nodes)) tt

pub returns-clause-reads : goal.returns-clause-reads
returns-clause-reads c = λ rules. returns-clause-wherever c rules None
