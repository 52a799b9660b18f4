-- The lines before `i` are written.
use Rattle.practice.proofs.Draws.{Begun}
use Rattle.practice.proofs.write_lines.Given as goal

abbrev pub invariant-loop-i : goal.invariant-loop-i
invariant-loop-i l = Begun l.seed l.lines l.initial.w l.w l.next l.i
