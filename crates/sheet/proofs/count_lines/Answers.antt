-- `sheet::count_lines` meets its contract.
use Rattle.std.proofs.Common.{arith}
use Rattle.std.proofs.lemmas.Result.{err_from_is_err_and}
use Rattle.sheet.proofs.Told.{counts_wordless, counts_outside, counts_inside}
use Rattle.sheet.proofs.count_lines.Goals as goal

pub returns-in_err-n : goal.returns-in_err-n
returns-in_err-n c =
    let p = err_from_is_err_and c.from_residual.result c.from_residual.ensures.1 in
    rw (p.1, p.2) (counts_wordless c.args.e _ (omega arith) c.describe.ensures c.args.script.now c.in_err-n.was)

pub returns-then-script-e : goal.returns-then-script-e
returns-then-script-e c = counts_outside c.args.e _ (omega arith) c.describe.ensures c.args.script.now c.requires c.in_ok-n.was c.if-script-e.true

pub returns : goal.returns
returns c =
    counts_inside c.args.e _ (omega arith) c.describe.ensures c.args.script.now c.requires c.in_ok-n.was c.if-script-e.false c.div_ceil.ensures
