-- `listing::lines::write_records` meets its contract.
use Rattle.text.proofs.EmitLaws.{and_then}
use Rattle.listing.specs.Text.{gap, fields, form}
use Rattle.listing.specs.Listing.{line}
use Rattle.listing.proofs.EmitLaws.{done, fails, unlisted-first, unlisted-then, each-none, each-next, each-all, each-unlisted}
use Rattle.listing.proofs.lines.write_records.Goals as goal

pub loop-i-init : goal.loop-i-init
loop-i-init g c = λ text each. each-none _

pub returns-in_err-write_record : goal.returns-in_err-write_record
unfolding line form fields gap
returns-in_err-write_record g c = λ text each.
    fails c.from_residual.ensures.0
    (each-unlisted _ c.loop-i-test.true
    (unlisted-first (unlisted-then c.write_byte.ensures
    (unlisted-then c.write_text.ensures
    (unlisted-then c.write_next_number.ensures
    (unlisted-first (unlisted-then c.write_byte-in-loop-i.ensures (each _ _ _ _ c.loop-i-test.true c.in_err-write_record.ensures).answers) _)))) _))

pub loop-i-preserved : goal.loop-i-preserved
unfolding line form fields gap
loop-i-preserved g c = λ text each.
    each-next _ (c.loop-i.invariant text each)
    (and_then (and_then c.write_byte.ensures
    (and_then c.write_text.ensures
    (and_then c.write_next_number.ensures
    (and_then (and_then c.write_byte-in-loop-i.ensures (each _ _ _ _ c.loop-i-test.true c.in_ok-write_record.ensures).answers) c.write_byte-in-loop-i-2.ensures))))
    c.write_byte-in-loop-i-3.ensures)

pub returns : goal.returns
returns g c = λ text each. done (each-all _ c.loop-i.auto.i-end c.loop-i-test.false (c.loop-i.invariant text each))
