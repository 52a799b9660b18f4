-- `sheet::count_all` meets its contract.
use Rattle.std.proofs.Common.{arith, ◌∙◌}
use Rattle.std.proofs.lemmas.Result.{err_from_is_err_and}
use Rattle.sheet.proofs.Taking.{taken}
use Rattle.sheet.proofs.Joining.{counting_none, counting_next, counting_stop, counting_all, sum-fits}
use Rattle.sheet.proofs.count_all.Goals as goal

pub loop-cells-init : goal.loop-cells-init
loop-cells-init c = counting_none

pub returns-in_err-lines : goal.returns-in_err-lines
returns-in_err-lines c =
    let e = c.from.ensures ∙ taken c.args.errors.now c.loop-cells.cells-index _ _ c.as_chunks.ensures.front (omega (arith, c.as_chunks.ensures.front_len)) in
    let p = err_from_is_err_and c.from_residual.result c.from_residual.ensures.1 in
    rw (p.1, p.2) (counting_stop c.loop-cells.invariant e c.count_lines.result c.count_lines.ensures (omega (arith, c.as_chunks.ensures.front_len)) c.in_err-lines.was)

pub overflow_add-lines : goal.overflow_add-lines
overflow_add-lines c =
    let e = c.from.ensures ∙ taken c.args.errors.now c.loop-cells.cells-index _ _ c.as_chunks.ensures.front (omega (arith, c.as_chunks.ensures.front_len)) in
    let f = sum-fits c.loop-cells.invariant e c.count_lines.result c.count_lines.ensures c.in_ok-lines.was (omega (arith, c.as_chunks.ensures.front_len)) c.requires in
    omega (arith, f)

pub loop-cells-preserved : goal.loop-cells-preserved
loop-cells-preserved c =
    let e = c.from.ensures ∙ taken c.args.errors.now c.loop-cells.cells-index _ _ c.as_chunks.ensures.front (omega (arith, c.as_chunks.ensures.front_len)) in
    counting_next c.loop-cells.invariant e c.count_lines.result c.count_lines.ensures c.in_ok-lines.was c.requires

pub returns : goal.returns
returns c = counting_all c.loop-cells.invariant (omega (arith, c.as_chunks.ensures.front_len))
