-- The measures and invariants of the cycle of items and expressions. A call's measure is sixteen for
-- each level that is left, and more for what stands higher in the grammar.
use Rattle.std.proofs.Common.{◌≡◌, [], ◌+◌, ◌*◌}
use mathlib.Core.Option.{none}
use Rattle.rules.specs.Rules.{next_case, postfix_step, infix_step, stage_one}
use Rattle.parser_state.specs.Represents.{code_of}
use Rattle.parser_state.specs.Refines.{stack_unchanged, rules_of, deeper}
use Rattle.parser_state.proofs.Rounds.{LoopInvariant, weight}
use Rattle.parser_operators.specs.Matches.{cases_grown, CasesAre}
use Rattle.parser_items.proofs.+grammar.Given as goal

abbrev pub decreases-array_literal : goal.decreases-array_literal
decreases-array_literal l = 16 * l.levels + 3

abbrev pub decreases-binary : goal.decreases-binary
decreases-binary l = 16 * l.levels + 1

abbrev pub decreases-call : goal.decreases-call
decreases-call l = 16 * l.levels + 4

abbrev pub decreases-next_case : goal.decreases-next_case
decreases-next_case l = 16 * l.levels + 6

abbrev pub decreases-cases : goal.decreases-cases
decreases-cases l = 16 * l.levels + 7

abbrev pub decreases-infix_step : goal.decreases-infix_step
decreases-infix_step l = 16 * l.levels + 2

abbrev pub decreases-condition : goal.decreases-condition
decreases-condition l = 16 * l.levels + 5

abbrev pub decreases-elems : goal.decreases-elems
decreases-elems l = 16 * l.levels + 2

abbrev pub decreases-elems-list_until : goal.decreases-elems-list_until
decreases-elems-list_until l = 16 * l.levels + 1

abbrev pub decreases-parse_expr : goal.decreases-parse_expr
decreases-parse_expr l = 16 * l.levels

abbrev pub decreases-group : goal.decreases-group
decreases-group l = 16 * l.levels + 1

abbrev pub decreases-infixes : goal.decreases-infixes
decreases-infixes l = 16 * l.levels + 3

abbrev pub decreases-field : goal.decreases-field
decreases-field l = 16 * l.levels + 1

abbrev pub decreases-inits : goal.decreases-inits
decreases-inits l = 16 * l.levels + 3

abbrev pub decreases-inits-list_until : goal.decreases-inits-list_until
decreases-inits-list_until l = 16 * l.levels + 2

abbrev pub decreases-item : goal.decreases-item
decreases-item l = 16 * l.levels + 9

abbrev pub decreases-items : goal.decreases-items
decreases-items l = 16 * l.levels + 3

abbrev pub decreases-items-list_until : goal.decreases-items-list_until
decreases-items-list_until l = 16 * l.levels + 2

abbrev pub decreases-member : goal.decreases-member
decreases-member l = 16 * l.levels + 1

abbrev pub decreases-operand : goal.decreases-operand
decreases-operand l = 16 * l.levels + 5

abbrev pub decreases-parse_body : goal.decreases-parse_body
decreases-parse_body l = 16 * l.levels + 4

abbrev pub decreases-parse_fn : goal.decreases-parse_fn
decreases-parse_fn l = 16 * l.levels + 5

abbrev pub decreases-parse_let : goal.decreases-parse_let
decreases-parse_let l = 16 * l.levels + 1

abbrev pub decreases-parse_match : goal.decreases-parse_match
decreases-parse_match l = 16 * l.levels + 8

abbrev pub decreases-parse_prefix : goal.decreases-parse_prefix
decreases-parse_prefix l = 16 * l.levels

abbrev pub decreases-postfix_step : goal.decreases-postfix_step
decreases-postfix_step l = 16 * l.levels + 5

abbrev pub decreases-postfix : goal.decreases-postfix
decreases-postfix l = 16 * l.levels + 6

abbrev pub decreases-record_literal : goal.decreases-record_literal
decreases-record_literal l = 16 * l.levels + 4

abbrev pub decreases-unary : goal.decreases-unary
decreases-unary l = 16 * l.levels + 1

abbrev pub invariant-cases-loop-p : goal.invariant-cases-loop-p
invariant-cases-loop-p l =
    LoopInvariant l.source.tokens.now (next_case (deeper (rules_of l.source.script.now) l.levels)) cases_grown (record { cases = []; default = none }) (CasesAre l.source.tokens.now l.so_far.default l.so_far.members (code_of l.p)) (code_of l.fn.p) (code_of l.p)

abbrev pub decreases-cases-loop-p : goal.decreases-cases-loop-p
decreases-cases-loop-p l = weight l.source.tokens.now (code_of l.p)

abbrev pub invariant-infixes-loop-p : goal.invariant-infixes-loop-p
invariant-infixes-loop-p l =
    LoopInvariant l.source.tokens.now (infix_step (deeper (rules_of l.source.script.now) l.levels) stage_one l.source.script.now l.least) stack_unchanged l.fn.lhs (λ a. a ≡ l.x) (code_of l.fn.p) (code_of l.p)

abbrev pub decreases-infixes-loop-p : goal.decreases-infixes-loop-p
decreases-infixes-loop-p l = weight l.source.tokens.now (code_of l.p)

abbrev pub invariant-postfix-loop-p : goal.invariant-postfix-loop-p
invariant-postfix-loop-p l =
    LoopInvariant l.source.tokens.now (postfix_step (deeper (rules_of l.source.script.now) l.levels)) stack_unchanged l.fn.lhs (λ a. a ≡ l.x) (code_of l.fn.p) (code_of l.p)

abbrev pub decreases-postfix-loop-p : goal.decreases-postfix-loop-p
decreases-postfix-loop-p l = weight l.source.tokens.now (code_of l.p)
