-- `compare::agree_roots` meets its contract.
use mathlib.Core.Path.{refl}
use Rattle.compare.proofs.Agree.{decides_not}
use Rattle.compare.proofs.Listing.{node_lists, not-in_step, paired, next, differs, over}
use Rattle.compare.proofs.Roots.{as_roots}
use Rattle.compare.proofs.agree_roots.Goals as goal

pub returns-in_default : goal.returns-in_default
returns-in_default c = as_roots _ _ _ _ _ _ _ _ (not-in_step node_lists refl c.in_default.ensures)

pub loop-at-init : goal.loop-at-init
loop-at-init c = paired node_lists refl c.in-Some.ensures c.into_iter-at-iterator.ensures.into_iter_gives

pub returns-then-not-agree_node : goal.returns-then-not-agree_node
returns-then-not-agree_node c =
    let d = rw (c.cell.ensures, c.cell-in-loop-at.ensures, c.new-left.ensures, c.new-right.ensures) at c.agree_node.ensures in
    as_roots _ _ _ _ _ _ _ _ (differs node_lists _ _ c.next.new.self c.in-Some-2.ensures.steps c.loop-at.invariant (decides_not _ c.if-not-agree_node.true d))

pub loop-at-preserved : goal.loop-at-preserved
loop-at-preserved c =
    let d = rw (c.cell.ensures, c.cell-in-loop-at.ensures, c.new-left.ensures, c.new-right.ensures) at c.agree_node.ensures in
    next node_lists _ _ c.next.new.self c.in-Some-2.ensures.steps c.loop-at.invariant (d.holds c.if-not-agree_node.false)

pub returns : goal.returns
returns c = as_roots _ _ _ _ _ _ _ _ (over node_lists c.loop-at.invariant c.in-None.ensures.steps.0)
