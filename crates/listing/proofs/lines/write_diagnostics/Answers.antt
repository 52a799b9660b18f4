-- `listing::lines::write_diagnostics` meets its contract.
use Rattle.std.proofs.Common.{◌∙◌, ap, length, ◌/◌}
use native.Mathlib.Omega.{arith}
use Rattle.text.specs.Text.{bytes}
use Rattle.text.proofs.EmitLaws.{writes_by}
use Rattle.listing.specs.Listing.{numbers_line}
use Rattle.listing.proofs.EmitLaws.{each-none, each-next, each-all}
use Rattle.listing.proofs.LineLaws.{error_is}
use Rattle.listing.proofs.lines.write_diagnostics.Goals as goal

pub loop-record-init : goal.loop-record-init
loop-record-init c = each-none _

pub loop-record-preserved : goal.loop-record-preserved
unfolding bytes
loop-record-preserved c =
    let xs = c.args.diagnostics.now in
    let e = c.into.ensures ∙ rw c.as_chunks.ensures.front (error_is xs (length xs / 5) c.loop-record.record-index _ (omega (arith, c.as_chunks.ensures.front_len, c.loop-record-test.true))) in
    each-next _ c.loop-record.invariant (writes_by (ap (numbers_line (bytes "diag")) e) c.write_diagnostic.ensures)

pub returns : goal.returns
returns c = each-all _ (omega (arith, c.as_chunks.ensures.front_len, c.loop-record.auto.record-index-end)) (omega (arith, c.as_chunks.ensures.front_len, c.loop-record-test.false)) c.loop-record.invariant
