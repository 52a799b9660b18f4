-- `count_run` meets its contract: what of the run follows what is passed stays what it is.
use Rattle.std.proofs.Common.{◌≡◌, ℕ, Bool, ◌+◌, ◌≤◌, length}
use Rattle.lex.specs.Bytes.{Computes, count_while}
use Rattle.lex.proofs.byte_search.count_run.Given as goal

abbrev pub invariant-loop-window : goal.invariant-loop-window
invariant-loop-window g l =
    (length l.rest ≤ length l.bytes)
    × ((p : ℕ → Bool) → Computes (goal.F-post g l.has) p → length l.rest + count_while p l.bytes ≡ length l.bytes + count_while p l.rest)

abbrev pub decreases-loop-window : goal.decreases-loop-window
decreases-loop-window g l = length l.rest
