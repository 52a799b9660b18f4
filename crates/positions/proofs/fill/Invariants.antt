-- The pairs of `i` positions stand in front.
use Rattle.positions.proofs.Many.{Reached}
use Rattle.positions.proofs.fill.Given as goal

abbrev pub invariant-loop-i : goal.invariant-loop-i
invariant-loop-i l = Reached l.script l.positions l.fn.places l.places l.at l.place l.i
