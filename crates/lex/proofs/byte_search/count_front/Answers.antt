-- `count_front` meets its contract: the run ends in the first 8 bytes, or goes on behind them.
use Rattle.lex.proofs.Laws.{run_near, run_far}
use Rattle.lex.proofs.byte_search.count_front.Goals as goal

pub returns-then-n-lt8-clause-run : goal.returns-then-n-lt8-clause-run
returns-then-n-lt8-clause-run g c =
    λ p near far.
    run_near p c.args.bytes.now _ 8 _ c.in-Some.ensures.cases.0 (c.count_each-n.ensures.run p near) c.if-n-lt8.true

pub returns-else-n-lt8-clause-run : goal.returns-else-n-lt8-clause-run
returns-else-n-lt8-clause-run g c =
    λ p near far.
    run_far p c.args.bytes.now _ 8 _ c.in-Some.ensures.cases.0 (c.count_each-n.ensures.run p near) c.if-n-lt8.false _
    (rw c.in-Some.ensures.cases.1 at (c.count_run.ensures.run p far))
