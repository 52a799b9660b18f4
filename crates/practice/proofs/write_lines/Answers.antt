-- `practice::write_lines` meets its contract.
use Rattle.std.proofs.Common.{arith, rules, refl}
use Rattle.practice.proofs.Draws.{lines_none, lines_next, lines_all}
use Rattle.practice.proofs.write_lines.Goals as goal

pub loop-i-init : goal.loop-i-init
loop-i-init c = lines_none refl

pub loop-i-preserved : goal.loop-i-preserved
loop-i-preserved c = lines_next c.loop-i.invariant (omega arith) c.write_line-next.ensures

pub returns : goal.returns
returns c = lines_all c.loop-i.invariant (omega arith) refl (search rules)
