-- `parser_types::bracketed_paths` meets its contract.
use Rattle.std.proofs.Common.{refl}
use Rattle.rules.specs.Rules.{bracketed_paths, import_path}
use Rattle.parser_state.specs.Represents.{AsLent}
use Rattle.parser_state.specs.Members.{members_until}
use Rattle.parser_state.proofs.Steps.{then, enough, fails, stops_then}
use Rattle.parser_state.proofs.Loops.{each-asked}
use Rattle.std.specs.Prelude.{None}
use Rattle.parser_types.proofs.bracketed_paths.Goals as goal

pub members_until-requires-clause-reads : goal.members_until-requires-clause-reads
members_until-requires-clause-reads c = (import_path, each-asked AsLent (λ u r v h. h.0 None None))

pub returns-in_err-expect-clause-wherever : goal.returns-in_err-expect-clause-wherever
unfolding bracketed_paths
returns-in_err-expect-clause-wherever c = λ nodes types. fails _ (stops_then _ (c.in_err-expect.ensures.wherever nodes types None) refl) refl c.from_residual.ensures tt

pub returns-in_err-expect-clause-reads : goal.returns-in_err-expect-clause-reads
returns-in_err-expect-clause-reads c = returns-in_err-expect-clause-wherever c None None

pub returns-clause-wherever : goal.returns-clause-wherever
unfolding bracketed_paths members_until
returns-clause-wherever c =
    λ nodes types. enough (then (c.in_ok-expect.ensures.wherever nodes types None) (c.members_until.ensures.wherever AsLent import_path nodes types (λ u r v h. h.0 nodes types))) tt

pub returns-clause-reads : goal.returns-clause-reads
returns-clause-reads c = returns-clause-wherever c None None
