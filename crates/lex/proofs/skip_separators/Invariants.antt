-- `skip_separators` meets its contract: each turn passes over blanks or a comment.
-- Assumes nothing.
use mathlib.Core.Bool.{false}
use mathlib.Core.Path.{◌≡◌}
use Prim.Native.Nat.{◌+◌, ◌-◌}
use lib.ListN.{length, drop}
use Rattle.lex.specs.Lex.{skipped}
use Rattle.lex.proofs.skip_separators.Given as goal

abbrev pub invariant-loop-p : goal.invariant-loop-p
invariant-loop-p l = l.p + skipped false (drop l.p l.script) ≡ l.pos + skipped false (drop l.pos l.script)

abbrev pub decreases-loop-p : goal.decreases-loop-p
decreases-loop-p l = length l.script - l.p
