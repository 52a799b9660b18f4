-- `positions::fill` meets its contract.
use Rattle.std.proofs.Common.{arith, length-take, length-drop}
use Rattle.positions.proofs.Many.{reached-none, step_ahead, step_inside, step_near, step_next}
use Rattle.positions.proofs.fill.Goals as goal

pub loop-i-init : goal.loop-i-init
loop-i-init c = reached-none c.args.script.now c.args.positions.now c.args.places.now c.requires

pub slice_bounds-after-count : goal.slice_bounds-after-count
slice_bounds-after-count c = step_ahead _ _ _ _ _ _ _ c.requires c.loop-i.invariant c.loop-i-test.true

pub slice_bounds-after-start : goal.slice_bounds-after-start
slice_bounds-after-start c = step_ahead _ _ _ _ _ _ _ c.requires c.loop-i.invariant c.loop-i-test.true

pub slice_bounds-after-end : goal.slice_bounds-after-end
slice_bounds-after-end c =
    let a = step_ahead _ _ _ _ _ _ _ c.requires c.loop-i.invariant c.loop-i-test.true in
    let b = step_inside _ _ _ _ _ _ _ c.requires c.loop-i.invariant c.loop-i-test.true in
    omega arith

pub after-place-requires : goal.after-place-requires
after-place-requires c =
    let a = step_ahead _ _ _ _ _ _ _ c.requires c.loop-i.invariant c.loop-i-test.true in
    let b = step_inside _ _ _ _ _ _ _ c.requires c.loop-i.invariant c.loop-i-test.true in
    let n = step_near _ _ _ _ _ _ _ c.requires c.loop-i.invariant c.loop-i-test.true in
    (n.one, n.column, n.line, simp (length-take, length-drop) (omega (arith, c.requires.short)))

pub loop-i-preserved : goal.loop-i-preserved
loop-i-preserved c =
    step_next _ _ _ _ _ _ _ c.requires c.loop-i.invariant c.loop-i-test.true _ c.after-place.ensures
