-- `positions::Place::after` meets its contract.
use Rattle.std.proofs.Common.{arith}
use Rattle.positions.proofs.Places.{columns_le, walked_feed, walked_other, walked-all}
use Rattle.positions.proofs.Place.after.Goals as goal
use Rattle.positions.proofs.Place.after.Goals.{then-b-eq-LINE_FEED, else-b-eq-LINE_FEED}

pub overflow_add-place-else-b-eq-LINE_FEED : goal.overflow_add-place-else-b-eq-LINE_FEED
overflow_add-place-else-b-eq-LINE_FEED c = omega (arith, columns_le, c.columns_of.ensures)

pub loop-b-preserved : goal.loop-b-preserved
loop-b-preserved c =
    elim c.if-b-eq-LINE_FEED.branch [
      | then-b-eq-LINE_FEED w ↦ rw w.place-is (walked_feed _ _ _ _ c.loop-b-test.true c.loop-b.invariant w.if-b-eq-LINE_FEED.true)
      | else-b-eq-LINE_FEED w ↦ rw (w.place-is, w.columns_of.ensures) (walked_other _ _ _ _ c.loop-b-test.true c.loop-b.invariant w.if-b-eq-LINE_FEED.false)
    ]

pub returns : goal.returns
returns c = walked-all _ _ _ _ c.loop-b-test.false c.loop-b.invariant
