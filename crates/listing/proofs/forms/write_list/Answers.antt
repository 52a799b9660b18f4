-- `listing::forms::write_list` meets its contract.
use mathlib.Core.Path.{sym}
use Prim.Native.Nat.{◌+◌, ◌*◌}
use mathlib.Core.List.{◌++◌}
use native.Mathlib.Omega.{arith}
use Rattle.text.proofs.EmitLaws.{and_then}
use Rattle.ast.specs.Schema.{members}
use Rattle.listing.specs.Text.{gap}
use Rattle.listing.proofs.EmitLaws.{done, fails, unlisted, unlisted_by, unlisted-first, unlisted-then, each-none, each-next, each-all, each-unlisted, run_inside, run_outside, narrow, few-before}
use Rattle.text.proofs.EmitLaws.{writes_by}
use Rattle.listing.proofs.forms.write_list.Goals as goal

pub returns-then-lists-start : goal.returns-then-lists-start
returns-then-lists-start g c = λ member each. rw (sym c.width-width.ensures) (record { answers = unlisted_by (run_outside c.width-width.result c.args.lists.now member c.args.run c.if-lists-start.true) unlisted })

pub loop-i-init : goal.loop-i-init
loop-i-init g c = λ member each. each-none _

pub returns-in_err-write_member : goal.returns-in_err-write_member
returns-in_err-write_member g c = λ member each.
    let h = few-before c.width-width.result c.args.run.len (rw c.width-width.ensures (narrow (members c.args.sort))) (omega arith) c.loop-i.i c.loop-i-test.true in
    rw (sym c.width-width.ensures) (fails c.from_residual.ensures.0
    (unlisted_by (run_inside c.width-width.result c.args.lists.now member c.args.run c.if-lists-start.false)
    (unlisted-then c.write_byte.ensures
    (unlisted-first (each-unlisted (λ i. gap i ++ member (c.args.run.start + c.width-width.result * i)) c.loop-i-test.true (unlisted-then c.write_gap.ensures (each _ _ _ _ (omega arith) c.in_err-write_member.ensures).answers)) _))))

pub loop-i-preserved : goal.loop-i-preserved
loop-i-preserved g c = λ member each.
    let h = few-before c.width-width.result c.args.run.len (rw c.width-width.ensures (narrow (members c.args.sort))) (omega arith) c.loop-i.i c.loop-i-test.true in
    each-next _ (c.loop-i.invariant member each) (and_then c.write_gap.ensures (each _ _ _ _ (omega arith) c.in_ok-write_member.ensures).answers)

pub returns : goal.returns
returns g c = λ member each.
    rw (sym c.width-width.ensures) (done (writes_by (run_inside c.width-width.result c.args.lists.now member c.args.run c.if-lists-start.false)
    (and_then c.write_byte.ensures
    (and_then (each-all _ c.loop-i.auto.i-end c.loop-i-test.false (c.loop-i.invariant member each)) c.write_byte-2.ensures))))
