-- Pieces are written, and `rest` is not.
use Rattle.std.proofs.Common.{length}
use Rattle.sheet.proofs.Writing.{Pieces}
use Rattle.sheet.proofs.write_body.Given as goal

abbrev pub invariant-loop-rest : goal.invariant-loop-rest
invariant-loop-rest l = Pieces l.words l.rest l.fn.w l.w

abbrev pub decreases-loop-rest : goal.decreases-loop-rest
decreases-loop-rest l = length l.rest
