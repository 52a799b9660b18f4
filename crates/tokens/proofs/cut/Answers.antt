-- `tokens::cut` meets its contract.
use Rattle.std.proofs.Common.{arith}
use Rattle.std.proofs.lemmas.Result.{err_from_is_err_and}
use Rattle.tokens.proofs.Progress.{made-left, met-left}
use Rattle.tokens.proofs.Promised.{has_room, refused_left, room, done}
use Rattle.tokens.proofs.cut.Goals as goal

pub returns-in_err-refusal : goal.returns-in_err-refusal
returns-in_err-refusal c =
    let p = err_from_is_err_and c.from_residual.result c.from_residual.ensures.1 in
    rw (p.1, p.2) (refused_left _ _ _ c.in_err-refusal.ensures)

pub fill-s-requires : goal.fill-s-requires
fill-s-requires c =
    let r = has_room _ _ _ c.in_ok-refusal.ensures in
    (r.short, omega arith, omega (arith, room c.args.script.now, r.short))

pub overflow_cast-result : goal.overflow_cast-result
overflow_cast-result c = omega (arith, made-left c.fill-s.ensures, room c.args.script.now, (has_room _ _ _ c.in_ok-refusal.ensures).short)

pub overflow_cast-result-2 : goal.overflow_cast-result-2
overflow_cast-result-2 c = omega (arith, met-left c.fill-s.ensures, room c.args.script.now, (has_room _ _ _ c.in_ok-refusal.ensures).short)

pub returns : goal.returns
returns c =
    let r = has_room _ _ _ c.in_ok-refusal.ensures in
    done c.args.script.now c.args.tokens.now c.args.errors.now _ _ _ _ r.short r.tokens r.errors c.fill-s.ensures c.fill-s.auto.tokens c.fill-s.auto.errors c.clear_from.ensures c.clear_from-2.ensures
