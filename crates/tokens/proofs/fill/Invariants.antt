-- The records made and those that the rest of the script gives are those from `from` on, at every
-- turn.
use Rattle.std.proofs.Common.{◌≡◌, ◌-◌, length}
use Rattle.tokens.proofs.Progress.{Filled}
use Rattle.tokens.proofs.fill.Given as goal

abbrev pub invariant-loop-token : goal.invariant-loop-token
invariant-loop-token l =
    Filled l.script l.fn.from l.fn.before l.tokens l.errors l.n l.m l.lexer.pos
    × (l.lexer.input.now ≡ l.script)
    × (length l.tokens ≡ length l.fn.tokens)
    × (length l.errors ≡ length l.fn.errors)

abbrev pub decreases-loop-token : goal.decreases-loop-token
decreases-loop-token l = length l.script - l.lexer.pos
