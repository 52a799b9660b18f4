-- `practice::write_expression` meets its contract.
use Rattle.std.proofs.Common.{arith}
use Rattle.practice.proofs.Draws.{lowest, a_leaf, a_sum, a_negated}
use Rattle.practice.proofs.+write_expression.Goals as goal

pub returns-then-level-eq0 : goal.returns-then-level-eq0
returns-then-level-eq0 t c =
    lowest c.args.level c.args.seed c.if-level-eq0.true c.draw-pick.ensures.drawn c.draw-pick.ensures.seed
    c.write_leaf.ensures

pub returns-in-0-to-1 : goal.returns-in-0-to-1
returns-in-0-to-1 t c =
    a_leaf c.args.level c.args.seed c.if-level-eq0.false c.draw.ensures.drawn c.draw.ensures.seed (omega arith)
    c.write_leaf-in-0-to-1.ensures

pub returns-in-2 : goal.returns-in-2
returns-in-2 t c =
    a_sum c.args.level c.args.seed c.if-level-eq0.false c.draw.ensures.drawn c.draw.ensures.seed c.in-2.is
    c.write_byte.ensures c.write_expression-behind.ensures c.write_text.ensures c.write_expression-last.ensures
    c.write_byte-in-2.ensures

pub returns-in_default : goal.returns-in_default
returns-in_default t c =
    a_negated c.args.level c.args.seed c.if-level-eq0.false c.draw.ensures.drawn c.draw.ensures.seed (omega arith)
    (λ e. omega arith) c.write_byte-in_default.ensures c.write_expression.ensures
