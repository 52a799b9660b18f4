-- The lines of the errors before `i` are written, and the place of the last one is known.
use Rattle.sheet.proofs.Joining.{Writing}
use Rattle.sheet.specs.Count.{Reached}
use Rattle.sheet.proofs.write_all.Given as goal

abbrev pub invariant-loop-cells : goal.invariant-loop-cells
invariant-loop-cells l =
    Writing l.script l.errors l.cells-index l.initial.w l.w × Reached l.script l.known
