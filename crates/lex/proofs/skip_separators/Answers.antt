-- `skip_separators` meets its contract: each turn passes over blanks or a comment.
-- Assumes nothing.
use mathlib.Core.Path.{◌∙◌, sym, ap}
use native.Mathlib.Omega.{arith}
use lib.ListN.{drop, length-drop}
use borrow.Author.Rules.{rules, part_to_end}
use Rattle.lex.specs.Bytes.{is_ws}
use Rattle.lex.specs.Lex.{begins_comment}
use Rattle.lex.proofs.Laws.{before_le}
use Rattle.lex.proofs.Skips.{skip_end, skip_blank, skip_blanks, skip_stop, skip_comment, line_pos}
use Rattle.lex.proofs.skip_separators.Goals as goal

pub loop-p-preserved-then-separates : goal.loop-p-preserved-then-separates
loop-p-preserved-then-separates c =
    let blank = skip_blank c.args.script.now _ _ c.loop-p.invariant c.loop-p-test.true (sym c.separates.ensures ∙ c.if-separates.true) in
    skip_blanks c.args.script.now _ _ blank _
    (omega (arith, rw part_to_end at (c.count_each.ensures.run is_ws (λ b r e. search rules))))

pub overflow_add-p-then-begins_comment : goal.overflow_add-p-then-begins_comment
overflow_add-p-then-begins_comment c = omega (arith, before_le 10 (drop c.loop-p.p c.args.script.now), length-drop c.loop-p.p c.args.script.now, rw part_to_end at c.line_end-p.ensures)

pub loop-p-smaller : goal.loop-p-smaller
loop-p-smaller c =
    let comment = ap (begins_comment _) (sym c.peek.ensures) ∙ sym c.begins_comment.ensures ∙ c.if-begins_comment.true in
    omega (arith, line_pos c.args.script.now c.loop-p.p _ c.loop-p-test.true comment, rw part_to_end at c.line_end-p.ensures)

pub loop-p-preserved : goal.loop-p-preserved
loop-p-preserved c =
    let comment = ap (begins_comment _) (sym c.peek.ensures) ∙ sym c.begins_comment.ensures ∙ c.if-begins_comment.true in
    skip_comment c.args.script.now _ _ c.loop-p.invariant c.loop-p-test.true (sym c.separates.ensures ∙ c.if-separates.false) comment _ (rw part_to_end at c.line_end-p.ensures)

pub returns-else-begins_comment : goal.returns-else-begins_comment
returns-else-begins_comment c =
    let comment = ap (begins_comment _) (sym c.peek.ensures) ∙ sym c.begins_comment.ensures ∙ c.if-begins_comment.false in
    skip_stop c.args.script.now _ _ c.loop-p.invariant c.loop-p-test.true (sym c.separates.ensures ∙ c.if-separates.false) comment

pub returns : goal.returns
returns c = skip_end c.args.script.now _ _ c.loop-p.invariant c.loop-p-test.false
