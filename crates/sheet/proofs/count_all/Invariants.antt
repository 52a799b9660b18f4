-- The errors before `i` are counted.
use Rattle.sheet.proofs.Joining.{Counting}
use Rattle.sheet.proofs.count_all.Given as goal

abbrev pub invariant-loop-cells : goal.invariant-loop-cells
invariant-loop-cells l = Counting l.script l.errors l.cells-index l.lines
