-- `spelling` meets its contract: the tests stand in an order in which nothing wraps, and say
-- together what the definition asks of the sum.
-- Assumes nothing.
use Prim.Native.Nat.{ℕ, ◌+◌}
use mathlib.Core.Path.{sym, ap, ◌∙◌}
use native.Mathlib.Omega.{arith}
use borrow.Author.Rules.{part_to_end}
use Rattle.std.specs.Prelude.{Some}
use Rattle.lex.specs.Spelling.{spelling_start}
use Rattle.lex.proofs.Spellings.{no-spelling-below, no-spelling_above, has_spelling_lem, spelling_other, spelling_outside, spelling-inside}
use Rattle.lex.proofs.tok.spelling.Goals as goal

pub returns-then-kind-lt-S : goal.returns-then-kind-lt-S
returns-then-kind-lt-S c = sym (spelling_other _ _ (no-spelling-below _ c.if-kind-lt-S.true))

pub returns-then-kind-gt-DOC : goal.returns-then-kind-gt-DOC
returns-then-kind-gt-DOC c = sym (spelling_other _ _ (no-spelling_above _ c.if-kind-gt-DOC.true))

pub returns-then-script-start : goal.returns-then-script-start
unfolding spelling_start
returns-then-script-start c = sym (spelling_outside _ _ (omega arith))

pub returns-then-left-offset : goal.returns-then-left-offset
unfolding spelling_start
returns-then-left-offset c = sym (spelling_outside _ _ (omega (arith, rw part_to_end at c.spelling_offset-offset.ensures)))

pub returns-then-left-offset-2 : goal.returns-then-left-offset-2
unfolding spelling_start
returns-then-left-offset-2 c = sym (spelling_outside _ _ (omega (arith, rw part_to_end at c.spelling_offset-offset.ensures)))

pub returns : goal.returns
unfolding spelling_start
returns c =
    let offset = rw part_to_end at c.spelling_offset-offset.ensures in
    ap Some (ap (λ (n : ℕ). c.args.t.start + n) offset)
    ∙ sym (spelling-inside c.args.script.now c.args.t (has_spelling_lem c.args.t.kind (omega arith) (omega arith)) (omega (arith, offset)))
