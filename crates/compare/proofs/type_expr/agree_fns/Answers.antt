-- `compare::type_expr::agree_fns` meets its contract.
use Rattle.std.proofs.Common.{refl}
use Rattle.rules.specs.Shape.{words, word_in, w, params, param_in}
use Rattle.compare.proofs.Agree.{decides_not}
use Rattle.compare.proofs.Walk.{pair_agree, pair_parts}
use Rattle.compare.proofs.Listing.{fn_lists, not-in_step, paired, next, differs, over}
use Rattle.compare.proofs.type_expr.agree_fns.Goals as goal

pub returns-in_default : goal.returns-in_default
returns-in_default c = not-in_step fn_lists refl c.in_default.ensures

pub loop-at-init : goal.loop-at-init
loop-at-init c = paired fn_lists refl c.in-Some.ensures c.into_iter-at-iterator.ensures.into_iter_gives

pub returns-then-not-agree_words : goal.returns-then-not-agree_words
unfolding words word_in w params param_in
returns-then-not-agree_words c =
    let p = rw (c.run_at.ensures, c.run_at-in-loop-at.ensures) at c.agree_words.ensures in
    differs fn_lists _ _ c.next.new.self c.in-Some-2.ensures.steps c.loop-at.invariant (λ b. decides_not _ c.if-not-agree_words.true p (pair_parts _ _ _ _ (pair_parts _ _ _ _ (pair_parts _ _ _ _ b).0).0).0)

pub returns-then-not-agree_token_at : goal.returns-then-not-agree_token_at
unfolding words word_in w params param_in
returns-then-not-agree_token_at c =
    differs fn_lists _ _ c.next.new.self c.in-Some-2.ensures.steps c.loop-at.invariant (λ b. decides_not _ c.if-not-agree_token_at.true c.agree_token_at.ensures (pair_parts _ _ _ _ (pair_parts _ _ _ _ (pair_parts _ _ _ _ b).0).0).1)

pub returns-then-not-agree_params : goal.returns-then-not-agree_params
unfolding words word_in w params param_in
returns-then-not-agree_params c =
    let q = rw (c.run_at-in-loop-at-2.ensures, c.run_at-in-loop-at-3.ensures) at c.agree_params.ensures in
    differs fn_lists _ _ c.next.new.self c.in-Some-2.ensures.steps c.loop-at.invariant (λ b. decides_not _ c.if-not-agree_params.true q (pair_parts _ _ _ _ (pair_parts _ _ _ _ b).0).1)

pub returns-then-not-agree_type : goal.returns-then-not-agree_type
unfolding words word_in w params param_in
returns-then-not-agree_type c =
    let z = rw (c.cell.ensures, c.cell-in-loop-at.ensures) at c.agree_type.ensures in
    differs fn_lists _ _ c.next.new.self c.in-Some-2.ensures.steps c.loop-at.invariant (λ b. decides_not _ c.if-not-agree_type.true z (pair_parts _ _ _ _ b).1)

pub loop-at-preserved : goal.loop-at-preserved
unfolding words word_in w params param_in
loop-at-preserved c =
    let p = rw (c.run_at.ensures, c.run_at-in-loop-at.ensures) at c.agree_words.ensures in
    let q = rw (c.run_at-in-loop-at-2.ensures, c.run_at-in-loop-at-3.ensures) at c.agree_params.ensures in
    let z = rw (c.cell.ensures, c.cell-in-loop-at.ensures) at c.agree_type.ensures in
    next fn_lists _ _ c.next.new.self c.in-Some-2.ensures.steps c.loop-at.invariant (pair_agree (pair_agree (pair_agree (p.holds c.if-not-agree_words.false) (c.agree_token_at.ensures.holds c.if-not-agree_token_at.false)) (q.holds c.if-not-agree_params.false)) (z.holds c.if-not-agree_type.false))

pub returns : goal.returns
returns c = over fn_lists c.loop-at.invariant c.in-None.ensures.steps.0
