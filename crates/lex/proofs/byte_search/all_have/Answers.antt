-- `all_have` meets its contract: `all` says whether the run is as long as the bytes tested so far.
use Rattle.std.proofs.Common.{arith}
use Rattle.lex.proofs.Laws.{window_next}
use Rattle.lex.proofs.byte_search.all_have.Goals as goal

pub loop-b-preserved : goal.loop-b-preserved
loop-b-preserved g c =
    λ p computes. window_next p c.args.window.now c.loop-b.b-index _ _ (omega arith) (c.loop-b.invariant p computes) (computes _ _ c.has-all.ensures)
