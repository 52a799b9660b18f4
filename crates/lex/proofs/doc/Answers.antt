-- `doc` meets its contract.
-- Assumes nothing.
use mathlib.Core.Path.{◌∙◌, sym}
use native.Mathlib.Omega.{arith}
use lib.Seq.{length-take-le}
use lib.ListN.{take, length-take}
use borrow.Author.Rules.{part_to_end}
use Rattle.lex.specs.Lex.{doc, doc_in}
use Rattle.lex.proofs.Characters.{plain-utf8, leading_utf8}
use Rattle.lex.proofs.Laws.{before_le, leading_le, plain-before}
use Rattle.lex.proofs.doc.Goals as goal

pub overflow_sub-result : goal.overflow_sub-result
overflow_sub-result c = omega (arith, c.leading_space.ensures, leading_le (take c.skip_plain-plain.result c.args.rest.now), length-take c.skip_plain-plain.result c.args.rest.now)

pub returns-then-peek-eq10 : goal.returns-then-peek-eq10
unfolding doc doc_in
returns-then-peek-eq10 c =
    let end = plain-before 10 c.args.rest.now _ c.skip_plain-plain.ensures (sym c.peek.ensures ∙ c.if-peek-eq10.true) (omega arith) in
    rw (← end) (rw (leading_utf8 _ ∙ plain-utf8 10 c.args.rest.now _ c.skip_plain-plain.ensures, c.leading_space.ensures, doc_in))

pub slice_bounds-line-end : goal.slice_bounds-line-end
slice_bounds-line-end c = sym (length-take-le _ c.args.rest.now (omega (arith, c.line_end-n.ensures, before_le 10 c.args.rest.now)))

pub slice_bounds-is_utf8-count : goal.slice_bounds-is_utf8-count
slice_bounds-is_utf8-count c = rw c.leading_space-space.ensures (leading_le _)

pub slice_bounds-is_utf8-start : goal.slice_bounds-is_utf8-start
slice_bounds-is_utf8-start c = rw c.leading_space-space.ensures (leading_le _)

pub overflow_sub-result-then-is_utf8 : goal.overflow_sub-result-then-is_utf8
overflow_sub-result-then-is_utf8 c = omega (arith, c.leading_space-space.ensures, leading_le (take c.line_end-n.result c.args.rest.now), length-take c.line_end-n.result c.args.rest.now)

pub overflow_add-result-then-is_utf8 : goal.overflow_add-result-then-is_utf8
overflow_add-result-then-is_utf8 c = omega (arith, c.line_end-n.ensures, before_le 10 c.args.rest.now)

pub overflow_add-n : goal.overflow_add-n
overflow_add-n c = omega (arith, c.line_end-n.ensures, before_le 10 c.args.rest.now)

pub overflow_add-n-else-is_utf8 : goal.overflow_add-n-else-is_utf8
overflow_add-n-else-is_utf8 c = omega (arith, c.line_end-n.ensures, before_le 10 c.args.rest.now)

pub returns-then-is_utf8 : goal.returns-then-is_utf8
unfolding doc doc_in
returns-then-is_utf8 c = rw (← c.line_end-n.ensures) (rw (← c.leading_space-space.ensures, rw part_to_end at (sym c.is_utf8.ensures ∙ c.if-is_utf8.true), doc_in) (cc))

pub returns-else-is_utf8 : goal.returns-else-is_utf8
unfolding doc doc_in
returns-else-is_utf8 c = rw (← c.line_end-n.ensures) (rw (← c.leading_space-space.ensures, rw part_to_end at (sym c.is_utf8.ensures ∙ c.if-is_utf8.false), doc_in) c.invalid_utf8.ensures)
