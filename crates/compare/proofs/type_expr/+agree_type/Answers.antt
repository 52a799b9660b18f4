-- `compare::type_expr::agree_type` meets its contract.
use mathlib.Core.Path.{refl}
use Rattle.compare.proofs.Agree.{decides_no, decides_not, decides_by}
use Rattle.compare.proofs.Types.{type_past_left, type_past_right, type-zero_left, type-zero_right, other_kind, option_agrees, array_agrees, token_differs, token_agrees, record_agrees}
use Rattle.rules.specs.Shape.{w}
use Rattle.compare.proofs.Walk.{pair_agree, pair_parts}
use Rattle.compare.proofs.Listing.{param_lists, not-in_step, paired, room, over, next, differs, decides-last}
use Rattle.compare.proofs.type_expr.+agree_type.Goals as goal
use Rattle.compare.proofs.type_expr.+agree_type.Goals.{then-kind-eq-OPTION-via-then-kind-eq-OPTION, then-kind-eq-OPTION-via-else-kind-eq-OPTION+then-kind-eq-ARRAY}

pub returns-then-n-i : goal.returns-then-n-i
returns-then-n-i t c = type_past_left _ _ _ _ _ _ _ _ _ _ c.if-n-i.true

pub returns-then-m-j : goal.returns-then-m-j
returns-then-m-j t c = type_past_right _ _ _ _ _ _ _ _ _ _ c.if-m-j.true

pub returns-in_default : goal.returns-in_default
returns-in_default t c = type-zero_left _ _ _ _ _ _ _ _ _ _ c.if-n-i.false c.in_default.ensures

pub returns-in_default-kind_at : goal.returns-in_default-kind_at
returns-in_default-kind_at t c = type-zero_right _ _ _ _ _ _ _ _ _ _ c.if-m-j.false c.in_default-kind_at.ensures

pub returns-then-kind-kind2 : goal.returns-then-kind-kind2
returns-then-kind-kind2 t c = other_kind _ _ _ _ _ _ _ _ _ _ c.if-n-i.false c.if-m-j.false c.in-Some.ensures.0 c.in-Some-kind_at.ensures.0 c.if-kind-kind2.true

pub returns-then-kind-eq-OPTION : goal.returns-then-kind-eq-OPTION
returns-then-kind-eq-OPTION t c =
    let d = rw (c.cell.ensures, c.cell-then-kind-eq-OPTION.ensures) at c.agree_type.ensures in
    elim c.then-kind-eq-OPTION.branch [ then-kind-eq-OPTION-via-then-kind-eq-OPTION w ↦ option_agrees _ _ _ _ _ _ _ _ _ _ c.if-n-i.false c.if-m-j.false c.in-Some.ensures.0 c.in-Some-kind_at.ensures.0 c.if-kind-kind2.false w.if-kind-eq-OPTION.true d | then-kind-eq-OPTION-via-else-kind-eq-OPTION+then-kind-eq-ARRAY w ↦ array_agrees _ _ _ _ _ _ _ _ _ _ c.if-n-i.false c.if-m-j.false c.in-Some.ensures.0 c.in-Some-kind_at.ensures.0 c.if-kind-kind2.false w.if-kind-eq-ARRAY.true d ]

pub returns-then-not-agree_token_at : goal.returns-then-not-agree_token_at
returns-then-not-agree_token_at t c = token_differs _ _ _ _ _ _ _ _ _ _ c.if-n-i.false c.if-m-j.false c.in-Some.ensures.0 c.in-Some-kind_at.ensures.0 c.if-kind-kind2.false c.in-Some.ensures.1 c.if-kind-eq-OPTION.false c.if-kind-eq-ARRAY.false (decides_not _ c.if-not-agree_token_at.true c.agree_token_at.ensures)

pub returns-then-kind-ne-RECORD : goal.returns-then-kind-ne-RECORD
returns-then-kind-ne-RECORD t c = token_agrees _ _ _ _ _ _ _ _ _ _ c.if-n-i.false c.if-m-j.false c.in-Some.ensures.0 c.in-Some-kind_at.ensures.0 c.if-kind-kind2.false c.in-Some.ensures.1 c.if-kind-eq-OPTION.false c.if-kind-eq-ARRAY.false c.if-kind-ne-RECORD.true (c.agree_token_at.ensures.holds c.if-not-agree_token_at.false)

pub returns-in_default-new : goal.returns-in_default-new
returns-in_default-new t c = record_agrees _ _ _ _ _ _ _ _ _ _ c.if-n-i.false c.if-m-j.false c.in-Some.ensures.0 c.in-Some-kind_at.ensures.0 c.if-kind-kind2.false c.if-kind-ne-RECORD.false (c.agree_token_at.ensures.holds c.if-not-agree_token_at.false) c.run_at-r.ensures c.run_at-r2.ensures (not-in_step param_lists refl c.in_default-new.ensures)

pub loop-at-init : goal.loop-at-init
loop-at-init t c =
    let a = rw (c.run_at-r.ensures, c.run_at-r2.ensures) at c.in-Some-new.ensures in
    paired param_lists refl a refl

pub next-requires : goal.next-requires
next-requires t c = room param_lists c.loop-at.invariant

pub returns-then-not-agree_token_at-2 : goal.returns-then-not-agree_token_at-2
unfolding w
returns-then-not-agree_token_at-2 t c = record_agrees _ _ _ _ _ _ _ _ _ _ c.if-n-i.false c.if-m-j.false c.in-Some.ensures.0 c.in-Some-kind_at.ensures.0 c.if-kind-kind2.false c.if-kind-ne-RECORD.false (c.agree_token_at.ensures.holds c.if-not-agree_token_at.false) refl refl (differs param_lists _ _ c.next.new.self c.in-Some-next.ensures.steps c.loop-at.invariant (λ b. decides_not _ c.if-not-agree_token_at-2.true c.agree_token_at-in-Some-next.ensures (pair_parts _ _ _ _ b).0))

pub returns-then-pairs-eq0 : goal.returns-then-pairs-eq0
unfolding w
returns-then-pairs-eq0 t c =
    let q = rw (c.cell-in-Some-next.ensures, c.cell-in-Some-next-2.ensures) at c.agree_type-then-pairs-eq0.ensures in
    record_agrees _ _ _ _ _ _ _ _ _ _ c.if-n-i.false c.if-m-j.false c.in-Some.ensures.0 c.in-Some-kind_at.ensures.0 c.if-kind-kind2.false c.if-kind-ne-RECORD.false (c.agree_token_at.ensures.holds c.if-not-agree_token_at.false) refl refl (decides-last param_lists _ _ c.next.new.self c.in-Some-next.ensures.steps c.loop-at.invariant c.if-pairs-eq0.true (decides_by (pair_agree (c.agree_token_at-in-Some-next.ensures.holds c.if-not-agree_token_at-2.false)) (λ b. (pair_parts _ _ _ _ b).1) q))

pub returns-then-not-agree_type : goal.returns-then-not-agree_type
unfolding w
returns-then-not-agree_type t c =
    let q = rw (c.cell-in-Some-next.ensures, c.cell-in-Some-next-2.ensures) at c.agree_type-in-Some-next.ensures in
    record_agrees _ _ _ _ _ _ _ _ _ _ c.if-n-i.false c.if-m-j.false c.in-Some.ensures.0 c.in-Some-kind_at.ensures.0 c.if-kind-kind2.false c.if-kind-ne-RECORD.false (c.agree_token_at.ensures.holds c.if-not-agree_token_at.false) refl refl (differs param_lists _ _ c.next.new.self c.in-Some-next.ensures.steps c.loop-at.invariant (λ b. decides_not _ c.if-not-agree_type.true q (pair_parts _ _ _ _ b).1))

pub loop-at-preserved : goal.loop-at-preserved
unfolding w
loop-at-preserved t c =
    let q = rw (c.cell-in-Some-next.ensures, c.cell-in-Some-next-2.ensures) at c.agree_type-in-Some-next.ensures in
    next param_lists _ _ c.next.new.self c.in-Some-next.ensures.steps c.loop-at.invariant (pair_agree (c.agree_token_at-in-Some-next.ensures.holds c.if-not-agree_token_at-2.false) (q.holds c.if-not-agree_type.false))

pub returns : goal.returns
returns t c = record_agrees _ _ _ _ _ _ _ _ _ _ c.if-n-i.false c.if-m-j.false c.in-Some.ensures.0 c.in-Some-kind_at.ensures.0 c.if-kind-kind2.false c.if-kind-ne-RECORD.false (c.agree_token_at.ensures.holds c.if-not-agree_token_at.false) refl refl (over param_lists c.loop-at.invariant c.in_default-next.ensures.steps.0)
