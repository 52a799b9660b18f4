-- `sheet::write_blanks` meets its contract.
use lib.ListN.{replicate-append-replicate}
use Rattle.text.proofs.EmitLaws.{and_then, writes_nothing, writes_by}
use Rattle.sheet.proofs.write_blanks.Goals as goal

pub loop-init : goal.loop-init
loop-init c = writes_nothing

pub loop-preserved : goal.loop-preserved
loop-preserved c = writes_by (replicate-append-replicate c.loop.counter 1 32) (and_then c.loop.invariant c.write_byte.ensures)
