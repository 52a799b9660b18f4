-- `next_token` meets its contract: a fault has no part in what `next_at` gives.
-- Assumes nothing.
use mathlib.Core.Path.{◌≡◌}
use Prim.Native.Nat.{◌-◌}
use lib.ListN.{length}
use Rattle.lex.specs.Lex.{next_at}
use Rattle.lex.proofs.next_token.Given as goal

abbrev pub invariant-loop-token : goal.invariant-loop-token
invariant-loop-token l = next_at l.script l.p ≡ next_at l.script l.pos

abbrev pub decreases-loop-token : goal.decreases-loop-token
decreases-loop-token l = length l.script - l.p
