-- `compare::word::agree_token` meets its contract.
use mathlib.Core.Path.{◌∙◌, sym}
use native.Mathlib.Nat.{add-sub_cancel_left}
use native.Mathlib.Omega.{arith}
use Rattle.lex.proofs.Spellings.{spelling-found}
use Rattle.lex.proofs.WellFormed.{fixed_some}
use Rattle.compare.proofs.Agree.{decides_no}
use Rattle.compare.proofs.Words.{agree_kinds, agree_fixed, agree_lost, agree_spelled, same_bytes_lem}
use Rattle.compare.proofs.word.agree_token.Goals as goal

pub returns-then-t-t2 : goal.returns-then-t-t2
returns-then-t-t2 c = decides_no (λ g. c.if-t-t2.true (agree_kinds _ _ _ _ g))

pub returns-in_default : goal.returns-in_default
returns-in_default c = rw (c.is_some.ensures, fixed_some _ _ c.fixed_spelling.ensures.by_cases) (agree_fixed _ _ _ _ c.if-t-t2.false (sym c.spelling.ensures ∙ c.in_default.is))

pub returns-in_default-spelling : goal.returns-in_default-spelling
returns-in_default-spelling c = decides_no (agree_lost _ _ _ _ c.if-t-t2.false _ (sym c.spelling.ensures ∙ c.in-Some.is) (sym c.spelling-2.ensures ∙ c.in_default-spelling.is))

pub overflow_add-a_end : goal.overflow_add-a_end
overflow_add-a_end c = omega (arith, (spelling-found _ _ _ (sym c.spelling.ensures ∙ c.in-Some.is)).1)

pub overflow_add-b_end : goal.overflow_add-b_end
overflow_add-b_end c = omega (arith, (spelling-found _ _ _ (sym c.spelling-2.ensures ∙ c.in-Some-spelling.is)).1)

pub slice_bounds-same_bytes-end : goal.slice_bounds-same_bytes-end
slice_bounds-same_bytes-end c = (spelling-found _ _ _ (sym c.spelling.ensures ∙ c.in-Some.is)).1

pub slice_bounds-same_bytes-end-2 : goal.slice_bounds-same_bytes-end-2
slice_bounds-same_bytes-end-2 c = (spelling-found _ _ _ (sym c.spelling-2.ensures ∙ c.in-Some-spelling.is)).1

pub returns : goal.returns
returns c =
    agree_spelled _ _ _ _ c.if-t-t2.false _ _ (sym c.spelling.ensures ∙ c.in-Some.is) (sym c.spelling-2.ensures ∙ c.in-Some-spelling.is)
    (rw (simp add-sub_cancel_left at c.same_bytes.ensures) (same_bytes_lem _ _))
