-- Each round takes a doc, and writes neither nodes nor lists.
use Rattle.std.proofs.Common.{◌≡◌}
use Rattle.rules.specs.Combinators.{doc_step}
use Rattle.parser_state.specs.Refines.{stack_unchanged}
use Rattle.parser_state.specs.Represents.{code_of}
use Rattle.parser_state.specs.Keeps.{KeepsNodesLists}
use Rattle.parser_state.specs.Wherever.{AnyNodesLists}
use Rattle.parser_state.proofs.Rounds.{LoopInvariant, weight}
use Rattle.parser_state.proofs.Parser.collect_docs.Given as goal

abbrev pub invariant-loop-i : goal.invariant-loop-i
invariant-loop-i l = AnyNodesLists (LoopInvariant l.tokens doc_step stack_unchanged 0 (λ n. n ≡ 0)) (code_of l.fn.self) (code_of l.self) × KeepsNodesLists l.fn.self l.self

abbrev pub decreases-loop-i : goal.decreases-loop-i
decreases-loop-i l = weight l.tokens (code_of l.self)
