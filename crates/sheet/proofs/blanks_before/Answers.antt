-- `sheet::blanks_before` meets its contract.
use Rattle.std.proofs.Common.{arith}
use Rattle.sheet.proofs.Length.{digits_log}
use Rattle.sheet.proofs.blanks_before.Goals as goal

pub returns : goal.returns
returns c = omega (arith, digits_log c.ilog10.result c.args.n (omega arith) (omega arith))
