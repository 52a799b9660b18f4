-- `spelling_offset` meets its contract.
-- Assumes nothing.
use Prim.Native.Nat.{ℕ, ◌+◌, ◌≤◌}
use mathlib.Core.Path.{ap}
use native.Mathlib.Omega.{arith}
use lib.ListN.{length, drop_of_length-le}
use borrow.Author.Tests.{eq-eqb, ne_eqb}
use borrow.Author.Rules.{part_to_end}
use Rattle.lex.specs.Lex.{leading_space}
use Rattle.lex.specs.Spelling.{spelling_offset}
use Rattle.lex.proofs.Laws.{leading_le_one}
use Rattle.lex.proofs.tok.spelling_offset.Goals as goal

pub returns-then-kind-eq-S : goal.returns-then-kind-eq-S
unfolding spelling_offset
returns-then-kind-eq-S c = rw (eq-eqb _ _ c.if-kind-eq-S.true, spelling_offset)

pub returns-then-kind-ne-DOC : goal.returns-then-kind-ne-DOC
unfolding spelling_offset
returns-then-kind-ne-DOC c = rw (ne_eqb _ _ c.if-kind-eq-S.false, ne_eqb _ _ c.if-kind-ne-DOC.true, spelling_offset)

pub returns-then-rest-lt2 : goal.returns-then-rest-lt2
unfolding spelling_offset leading_space
returns-then-rest-lt2 c =
    let short : length c.args.rest.now ≤ 2 = omega arith in
    rw (ne_eqb _ _ c.if-kind-eq-S.false, eq-eqb _ _ c.if-kind-ne-DOC.false, drop_of_length-le c.args.rest.now short, spelling_offset)

pub overflow_add-result : goal.overflow_add-result
overflow_add-result c =
    let h : c.leading_space.result ≤ 1 = rw c.leading_space.ensures (leading_le_one _) in
    omega arith

pub returns : goal.returns
unfolding spelling_offset
returns c = rw (ne_eqb _ _ c.if-kind-eq-S.false, eq-eqb _ _ c.if-kind-ne-DOC.false, spelling_offset) (ap (λ (n : ℕ). n + 2) (rw part_to_end at c.leading_space.ensures))
