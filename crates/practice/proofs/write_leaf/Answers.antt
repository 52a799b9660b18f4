-- `practice::write_leaf` meets its contract.
use Rattle.practice.proofs.Draws.{leaf-number, leaf-name}
use Rattle.practice.proofs.write_leaf.Goals as goal

pub returns-then-pick-eq0 : goal.returns-then-pick-eq0
returns-then-pick-eq0 c =
    leaf-number c.args.pick c.args.seed c.if-pick-eq0.true c.draw-n.ensures.drawn c.draw-n.ensures.seed
    c.write_number.ensures

pub returns-else-pick-eq0 : goal.returns-else-pick-eq0
returns-else-pick-eq0 c =
    leaf-name c.args.pick c.args.seed c.if-pick-eq0.false c.draw-n-else-pick-eq0.ensures.drawn
    c.draw-n-else-pick-eq0.ensures.seed c.write_byte.ensures c.write_number-else-pick-eq0.ensures
