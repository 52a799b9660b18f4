-- `positions::line_columns` meets its contract.
use Rattle.std.proofs.Common.{arith, ◌∙◌, sym, ap}
use Rattle.lex.specs.Answer.{answer}
use Rattle.positions.specs.LineColumns.{outcome}
use Rattle.positions.proofs.Many.{ends_outside, ends-filled}
use Rattle.positions.proofs.line_columns.Goals as goal

pub returns : goal.returns
returns c =
    ap (outcome (answer tt)) c.fill.ensures
    ∙ ends-filled
    c.args.script.now
    c.args.positions.now
    c.args.places.now
    c.if-script-gt-MAX_BYTES.false
    (omega arith)
    (sym c.falls.ensures ∙ c.if-falls.false)
    (sym c.all_inside.ensures ∙ c.if-not-all_inside.false)

pub returns-then-not-all_inside : goal.returns-then-not-all_inside
returns-then-not-all_inside c =
    ends_outside
    c.args.script.now
    c.args.positions.now
    c.args.places.now
    c.if-script-gt-MAX_BYTES.false
    (omega arith)
    (sym c.falls.ensures ∙ c.if-falls.false)
    (sym c.all_inside.ensures ∙ c.if-not-all_inside.true)
