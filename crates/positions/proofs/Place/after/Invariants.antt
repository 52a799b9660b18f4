-- The place behind the bytes that were passed.
use Rattle.positions.proofs.Places.{Walked}
use Rattle.positions.proofs.Place.after.Given as goal

abbrev pub invariant-loop-b : goal.invariant-loop-b
invariant-loop-b l = Walked l.fn.self l.bytes l.b-index l.place
