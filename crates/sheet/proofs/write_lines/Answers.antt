-- `sheet::write_lines` meets its contract.
use Rattle.std.proofs.Common.{arith, sym}
use lib.Seq.{length-take-le}
use Rattle.sheet.proofs.Told.{line, writes_none, writes_lines}
use Rattle.sheet.proofs.write_lines.Goals as goal

pub slice_bounds-line-end : goal.slice_bounds-line-end
slice_bounds-line-end c = (line c.args.e _ (omega arith) c.describe.ensures c.in-Ok.is).room

pub slice_bounds-write_body-end : goal.slice_bounds-write_body-end
slice_bounds-write_body-end c = sym (length-take-le _ _ (line c.args.e _ (omega arith) c.describe.ensures c.in-Ok.is).room)

pub returns-in-Ok : goal.returns-in-Ok
returns-in-Ok c = writes_lines c.args.e _ (omega arith) c.describe.ensures c.args.p c.in-Ok.is c.write_heading.ensures c.write_body.ensures

pub returns-in_default : goal.returns-in_default
returns-in_default c = writes_none c.args.e _ (omega arith) c.describe.ensures c.args.p c.in_default.is
