-- `string` meets its contract.
-- Assumes nothing.
use mathlib.Core.Path.{◌∙◌, sym}
use native.Mathlib.Omega.{arith}
use lib.Seq.{length-take-le}
use Rattle.lex.specs.Lex.{string}
use Rattle.lex.proofs.Characters.{plain-utf8}
use Rattle.lex.proofs.Laws.{found, find_hit, before_le, nonzero_inside, plain-before}
use Rattle.lex.proofs.string.Goals as goal

pub returns-then-peek-eq34 : goal.returns-then-peek-eq34
unfolding string
returns-then-peek-eq34 c =
    let quote = sym c.peek.ensures ∙ c.if-peek-eq34.true in
    rw (sym (find_hit 34 c.args.rest.now _ (plain-before 34 c.args.rest.now _ c.skip_plain-plain.ensures quote (omega arith)) (nonzero_inside c.args.rest.now _ (omega arith))), plain-utf8 34 c.args.rest.now _ c.skip_plain-plain.ensures, string)

pub overflow_add-line : goal.overflow_add-line
overflow_add-line c = omega (arith, c.line_end-line.ensures, before_le 10 c.args.rest.now)

pub returns-in_default : goal.returns-in_default
unfolding string
returns-in_default c = rw (sym c.find_byte.ensures ∙ c.in_default.is, c.line_end-line.ensures, string)

pub slice_bounds-is_utf8-end : goal.slice_bounds-is_utf8-end
slice_bounds-is_utf8-end c = sym (length-take-le _ c.args.rest.now (omega (arith, (found _ c.args.rest.now _ (sym c.find_byte.ensures ∙ c.in-Some.is)).1)))

pub overflow_add-result-then-is_utf8 : goal.overflow_add-result-then-is_utf8
overflow_add-result-then-is_utf8 c = omega (arith, (found _ c.args.rest.now _ (sym c.find_byte.ensures ∙ c.in-Some.is)).1)

pub overflow_add-n : goal.overflow_add-n
overflow_add-n c = omega (arith, (found _ c.args.rest.now _ (sym c.find_byte.ensures ∙ c.in-Some.is)).1)

pub overflow_add-n-else-is_utf8 : goal.overflow_add-n-else-is_utf8
overflow_add-n-else-is_utf8 c = omega (arith, (found _ c.args.rest.now _ (sym c.find_byte.ensures ∙ c.in-Some.is)).1)

pub returns-then-is_utf8 : goal.returns-then-is_utf8
unfolding string
returns-then-is_utf8 c = rw (sym c.find_byte.ensures ∙ c.in-Some.is, sym c.is_utf8.ensures ∙ c.if-is_utf8.true, string)

pub returns-else-is_utf8 : goal.returns-else-is_utf8
unfolding string
returns-else-is_utf8 c = rw (sym c.find_byte.ensures ∙ c.in-Some.is, sym c.is_utf8.ensures ∙ c.if-is_utf8.false, string) c.invalid_utf8.ensures
