-- `lookups::type_token` meets its contract.
use Rattle.std.proofs.Common.{◌∙◌, ap}
use Rattle.std.proofs.lemmas.Result.{err_from_is_err_and}
use Rattle.lex.specs.Answer.{answered}
use Rattle.lookups.specs.Lookup.{type_token}
use Rattle.lookups.specs.Descent.{as_type_token}
use Rattle.lookups.proofs.Descent.{own_is}
use Rattle.lookups.proofs.Refusal.{asked_refused, asked-answer, token_answered}
use Rattle.lookups.proofs.type_token.Goals as goal

pub returns-in_err-check_record : goal.returns-in_err-check_record
unfolding type_token
returns-in_err-check_record c =
    let p = err_from_is_err_and c.from_residual.result c.from_residual.ensures.1 in
    rw (p.1, p.2) (asked_refused _ _ _ _ _ _ _ c.in_err-check_record.ensures)

pub returns : goal.returns
unfolding type_token
returns c =
    let here = own_is c.args.tree.now.script.now c.args.tree.now.types.now _ c.innermost.ensures.ends ∙ c.innermost.ensures.same c.args.tree.now.script.now in
    ap answered (c.token_here.ensures ∙ ap as_type_token here)
    ∙ token_answered _
    ∙ asked-answer _ _ _ _ _ _ _ c.in_ok-check_record.ensures
