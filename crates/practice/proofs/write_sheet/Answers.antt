-- `practice::write_sheet` meets its contract.
use Rattle.std.proofs.Common.{arith}
use Rattle.text.specs.Answer.{answer_of}
use Rattle.practice.proofs.Draws.{too_many, too_short_lem, all-written}
use Rattle.practice.proofs.write_sheet.Goals as goal

pub returns-then-lines-gt-MAX_LINES : goal.returns-then-lines-gt-MAX_LINES
unfolding answer_of
returns-then-lines-gt-MAX_LINES c = too_many c.args.seed c.args.lines c.args.out.now c.if-lines-gt-MAX_LINES.true

pub returns-then-out-n : goal.returns-then-out-n
unfolding answer_of
returns-then-out-n c =
    too_short_lem c.args.seed c.args.lines c.args.out.now (omega arith) c.write_lines-n.ensures (omega arith)

pub returns : goal.returns
unfolding answer_of
returns c =
    all-written c.args.seed c.args.lines c.args.out.now (omega arith) c.write_lines-n.ensures (omega arith)
    c.write_lines.ensures
