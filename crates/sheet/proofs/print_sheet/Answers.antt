-- `sheet::print_sheet` meets its contract.
use Rattle.std.proofs.Common.{arith, ◌∙◌, sym, ap}
use Rattle.std.proofs.lemmas.Result.{err_from_is_err_and}
use Rattle.sheet.specs.Count.{counted_of}
use Rattle.sheet.proofs.Joining.{too_long, not_printed, no_room, all-printed}
use Rattle.sheet.proofs.print_sheet.Goals as goal

pub returns-then-script-gt-MAX_BYTES : goal.returns-then-script-gt-MAX_BYTES
returns-then-script-gt-MAX_BYTES c = too_long c.args.script.now c.args.errors.now c.args.sheet.now c.if-script-gt-MAX_BYTES.true

pub returns-in_err-lines : goal.returns-in_err-lines
unfolding counted_of
returns-in_err-lines c =
    let p = err_from_is_err_and c.from_residual.result c.from_residual.ensures.1 in
    rw (p.1, p.2)
    (not_printed
    c.args.script.now
    c.args.errors.now
    c.args.sheet.now
    c.if-script-gt-MAX_BYTES.false
    _
    (sym (ap counted_of c.in_err-lines.was) ∙ c.count_all.ensures))

pub returns-then-sheet-lines : goal.returns-then-sheet-lines
unfolding counted_of
returns-then-sheet-lines c =
    no_room
    c.args.script.now
    c.args.errors.now
    c.args.sheet.now
    c.if-script-gt-MAX_BYTES.false
    c.in_ok-lines.lines
    (sym (ap counted_of c.in_ok-lines.was) ∙ c.count_all.ensures)
    c.if-sheet-lines.true

pub returns : goal.returns
unfolding counted_of
returns c =
    all-printed
    c.args.script.now
    c.args.errors.now
    c.args.sheet.now
    c.if-script-gt-MAX_BYTES.false
    c.in_ok-lines.lines
    (sym (ap counted_of c.in_ok-lines.was) ∙ c.count_all.ensures)
    c.if-sheet-lines.false
    (omega arith)
    c.write_all.ensures
