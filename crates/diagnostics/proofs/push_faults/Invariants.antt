-- What is still to be pushed onto what is there comes to the same at every turn.
use Rattle.std.proofs.Common.{◌≡◌, length}
use Rattle.diagnostics.specs.Records.{diagnostics}
use Rattle.diagnostics.proofs.Faults.{Counted}
use Rattle.diagnostics.proofs.push_faults.Given as goal

abbrev pub invariant-loop-i : goal.invariant-loop-i
invariant-loop-i l =
    Counted l.at l.errors l.from l.i (diagnostics l.fn.diagnostics l.n) (diagnostics l.diagnostics l.count)
    × (length l.diagnostics ≡ length l.fn.diagnostics)
