-- Each round reads a root.
use Rattle.std.proofs.Common.{◌≡◌, [], length}
use Rattle.parser_state.specs.Represents.{code_of}
use Rattle.parser_state.specs.Refines.{stack_unchanged}
use Rattle.parser_state.proofs.Rounds.{LoopInvariant, weight}
use Rattle.parser.specs.Whole.{root_step, RootsAre}
use Rattle.parser.proofs.parse_roots.Given as goal

abbrev pub invariant-loop-p : goal.invariant-loop-p
invariant-loop-p l =
    (length l.roots ≡ length l.fn.roots)
    × LoopInvariant l.source.tokens.now (root_step l.source.script.now) stack_unchanged [] (RootsAre l.source.script.now l.source.tokens.now l.roots l.members (code_of l.p)) (code_of l.fn.p) (code_of l.p)

abbrev pub decreases-loop-p : goal.decreases-loop-p
decreases-loop-p l = weight l.source.tokens.now (code_of l.p)
