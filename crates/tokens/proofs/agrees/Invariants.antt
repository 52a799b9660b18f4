-- What is left to compare comes to the same at every turn.
use Rattle.std.proofs.Common.{◌≡◌, ◌-◌, length}
use Rattle.tokens.proofs.Same.{Agreeing}
use Rattle.tokens.proofs.agrees.Given as goal

abbrev pub invariant-loop-s : goal.invariant-loop-s
invariant-loop-s l =
    Agreeing l.script l.tokens l.errors l.n l.m l.pos
    × (length l.t ≡ length l.fn.t)
    × (length l.e ≡ length l.fn.e)

abbrev pub decreases-loop-s : goal.decreases-loop-s
decreases-loop-s l = length l.script - l.pos
