-- What is left of the text comes to the same as the whole.
use Rattle.std.proofs.Common.{length, drop}
use Rattle.text.proofs.EmitLaws.{Left}
use Rattle.text.proofs.put_text.Given as goal

abbrev pub invariant-loop-eight : goal.invariant-loop-eight
invariant-loop-eight l = Left l.text l.fn.out l.fn.at l.rest l.out l.to

abbrev pub decreases-loop-eight : goal.decreases-loop-eight
decreases-loop-eight l = length l.rest

abbrev pub invariant-loop-b : goal.invariant-loop-b
invariant-loop-b l = Left l.text l.fn.out l.fn.at (drop l.b-index l.b-items) l.out l.to
