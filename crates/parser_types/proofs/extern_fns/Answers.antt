-- `parser_types::extern_fns` meets its contract.
use Rattle.std.proofs.Common.{[]}
use Rattle.rules.specs.Rules.{extern_fn}
use Rattle.parser_state.specs.Represents.{AsLent}
use Rattle.parser_state.specs.Refines.{rules_of, deeper}
use Rattle.parser_state.proofs.Loops.{each-asked}
use Rattle.parser_types.proofs.extern_fns.Goals as goal

pub list_until-requires-clause-reads : goal.list_until-requires-clause-reads
list_until-requires-clause-reads c = (extern_fn (deeper (rules_of []) c.args.levels), each-asked AsLent (λ u r v h. h.0 (rules_of [])))

pub returns-clause-reads : goal.returns-clause-reads
returns-clause-reads c = λ rules. c.list_until.ensures.reads AsLent (extern_fn (deeper rules c.args.levels)) (λ u r v h. h.0 rules)
