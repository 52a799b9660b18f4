-- `all_have` meets its contract: `all` says whether the run is as long as the bytes tested so far.
use Rattle.std.proofs.Common.{◌≡◌, ℕ, Bool, leb}
use Rattle.lex.specs.Bytes.{Computes, count_while}
use Rattle.lex.proofs.byte_search.all_have.Given as goal

abbrev pub invariant-loop-b : goal.invariant-loop-b
invariant-loop-b g l = (p : ℕ → Bool) → Computes (goal.F-post g l.has) p → l.all ≡ leb l.b-index (count_while p l.window)
