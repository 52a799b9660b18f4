-- Each round passes over a token, and writes no array.
use Rattle.std.proofs.Common.{◌≡◌}
use Rattle.rules.specs.Parse.{synchronize_step}
use Rattle.parser_state.specs.Represents.{code_of}
use Rattle.parser_state.specs.Refines.{stack_unchanged}
use Rattle.parser_state.specs.Keeps.{KeepsAll}
use Rattle.parser_state.proofs.Rounds.{LoopInvariant, weight}
use Rattle.parser.proofs.recovery.synchronize_root.Given as goal

abbrev pub invariant-loop-p : goal.invariant-loop-p
invariant-loop-p l = LoopInvariant l.tokens synchronize_step stack_unchanged 0 (λ n. n ≡ 0) (code_of l.fn.p) (code_of l.p) × KeepsAll l.fn.p l.p

abbrev pub decreases-loop-p : goal.decreases-loop-p
decreases-loop-p l = weight l.tokens (code_of l.p)
