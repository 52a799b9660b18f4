-- `parser_state::Parser::list_until` meets its contract.
use Rattle.std.proofs.Common.{refl}
use Rattle.rules.specs.Combinators.{alloc_slice}
use Rattle.parser_state.proofs.Steps.{as_rule, lists_as_kept, lists-after, fails, stops}
use Rattle.parser_state.proofs.Loops.{list_as_members}
use Rattle.std.specs.Prelude.{None}
use Rattle.parser_state.proofs.Parser.list_until.Goals as goal

pub returns-in_err-members-clause-wherever : goal.returns-in_err-members-clause-wherever
returns-in_err-members-clause-wherever g c =
    λ kept item nodes types each. fails _ (as_rule (list_as_members c.args.stop item) (stops alloc_slice (c.in_err-members.ensures.wherever kept item nodes types each) refl)) refl c.from_residual.ensures tt

pub returns-in_err-members-clause-reads : goal.returns-in_err-members-clause-reads
returns-in_err-members-clause-reads g c = λ kept item each. returns-in_err-members-clause-wherever g c kept item None None each

pub returns-clause-wherever : goal.returns-clause-wherever
returns-clause-wherever g c =
    λ kept item nodes types each. as_rule (list_as_members c.args.stop item) (lists-after alloc_slice (c.in_ok-members.ensures.wherever kept item nodes types each) (lists_as_kept kept (c.alloc_slice.ensures.wherever _ nodes types)) refl)

pub returns-clause-reads : goal.returns-clause-reads
returns-clause-reads g c = λ kept item each. returns-clause-wherever g c kept item None None each
