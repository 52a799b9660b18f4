-- `sheet::write_body` meets its contract.
use Rattle.sheet.proofs.Writing.{pieces_none, pieces-next, pieces-last}
use Rattle.sheet.proofs.write_body.Goals as goal

pub loop-rest-init : goal.loop-rest-init
loop-rest-init c = pieces_none c.args.words.now

pub loop-rest-preserved : goal.loop-rest-preserved
loop-rest-preserved c =
    rw c.split_at.ensures.back (pieces-next c.loop-rest.invariant c.loop-rest-test.true (rw c.split_at.ensures.front at c.write_text.ensures) c.write_byte.ensures c.write_blanks.ensures)

pub returns : goal.returns
returns c = pieces-last c.loop-rest.invariant c.loop-rest-test.false c.write_text-2.ensures c.write_blanks-2.ensures c.write_byte-2.ensures
