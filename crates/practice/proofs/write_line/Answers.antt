-- `practice::write_line` meets its contract.
use Rattle.practice.proofs.Draws.{a_line}
use Rattle.practice.proofs.write_line.Goals as goal

pub returns : goal.returns
returns c =
    a_line c.args.i c.args.seed c.write_text.ensures c.write_number.ensures c.write_text-2.ensures
    c.write_expression-next.ensures c.write_byte.ensures
