-- `sheet::write_all` meets its contract.
use Rattle.std.proofs.Common.{arith, ◌∙◌}
use Rattle.sheet.proofs.Taking.{taken}
use Rattle.sheet.proofs.Joining.{writing-none, writing-next}
use Rattle.sheet.proofs.Told.{reached-none}
use Rattle.sheet.proofs.write_all.Goals as goal

pub loop-cells-init : goal.loop-cells-init
loop-cells-init c = (writing-none c.args.script.now c.args.errors.now, reached-none)

pub loop-cells-preserved : goal.loop-cells-preserved
loop-cells-preserved c =
    let e = c.from.ensures ∙ taken c.args.errors.now c.loop-cells.cells-index _ _ c.as_chunks.ensures.front (omega (arith, c.as_chunks.ensures.front_len)) in
    (writing-next c.args.script.now c.args.errors.now c.loop-cells.cells-index c.loop-cells.invariant.0 e c.write_entry-known.ensures.writes, c.write_entry-known.ensures.reached)
