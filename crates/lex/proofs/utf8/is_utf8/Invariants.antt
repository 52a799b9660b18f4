-- `is_utf8` meets its contract: the ASCII bytes in front, then a character a turn.
-- Assumes nothing.
use mathlib.Core.Path.{◌≡◌}
use Prim.Native.Nat.{◌-◌, ◌≤◌}
use lib.ListN.{length, drop}
use Rattle.lex.specs.Utf8.{state_after, is_boundary, utf8}
use Rattle.lex.specs.declared.utf8.Utf8State.TheVariants.{Boundary}
use Rattle.lex.proofs.utf8.is_utf8.Given as goal

abbrev pub invariant-loop-i : goal.invariant-loop-i
invariant-loop-i l = (l.i ≤ length l.bytes) × (is_boundary (state_after Boundary (drop l.i l.bytes)) ≡ utf8 l.bytes)

abbrev pub decreases-loop-i : goal.decreases-loop-i
decreases-loop-i l = length l.bytes - l.i
