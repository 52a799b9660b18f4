-- `listing::emit::write_numbers` meets its contract.
use Rattle.text.specs.Text.{number}
use Rattle.text.proofs.EmitLaws.{and_then, writes_by}
use Rattle.listing.specs.Text.{gap, form}
use Rattle.listing.proofs.EmitLaws.{next_field, no_field}
use Rattle.listing.proofs.emit.write_numbers.Goals as goal
use native.Mathlib.Omega.{arith}

pub loop-n-init : goal.loop-n-init
loop-n-init c = λ v h. h

pub loop-n-preserved : goal.loop-n-preserved
unfolding gap
loop-n-preserved c = λ v h. c.loop-n.invariant v (writes_by (next_field number c.args.numbers.now c.loop-n.n-index 0 (omega arith)) (and_then c.write_next_number.ensures h))

pub returns : goal.returns
unfolding form
returns c = and_then c.write_byte.ensures (and_then c.write_text.ensures (c.loop-n.invariant _ (writes_by (no_field number c.args.numbers.now c.loop-n.n-index (omega arith)) c.write_byte-2.ensures)))
