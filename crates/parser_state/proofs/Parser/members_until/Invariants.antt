-- The members so far are those of the rule; each turn takes a token.
use Rattle.std.proofs.Common.{ℕ, List}
use Rattle.std.specs.Prelude.{Option, None}
use Rattle.rules.specs.Combinators.{Rule}
use Rattle.parser_state.specs.Represents.{Kept, code_of}
use Rattle.parser_state.specs.Keeps.{KeepsNodes, KeepsTypes}
use Rattle.parser_state.specs.Members.{KeepsEach}
use Rattle.parser_state.specs.Wherever.{ReadsEachAny, lending}
use Rattle.parser_state.proofs.Loops.{MembersInvariant}
use Rattle.parser_state.proofs.Rounds.{weight}
use Rattle.parser_state.proofs.Parser.members_until.Given as goal

abbrev pub invariant-loop-member : goal.invariant-loop-member
invariant-loop-member g l =
    ((kept : Kept) (item : Rule (List ℕ)) (nodes types : Option (List ℕ)) → ReadsEachAny kept l.tokens item nodes types (goal.F-post g l.member)
    → MembersInvariant kept l.tokens l.stop item (lending nodes types None (code_of l.initial.self)) (lending nodes types None (code_of l.self)) l.members)
    × (KeepsEach KeepsNodes (goal.F-post g l.member) → KeepsNodes l.initial.self l.self)
    × (KeepsEach KeepsTypes (goal.F-post g l.member) → KeepsTypes l.initial.self l.self)

abbrev pub decreases-loop-member : goal.decreases-loop-member
decreases-loop-member g l = weight l.tokens (code_of l.self)
