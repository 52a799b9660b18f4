-- `lookups::node_start` meets its contract.
use Rattle.std.proofs.Common.{◌∙◌, ap}
use Rattle.std.proofs.lemmas.Result.{err_from_is_err_and}
use Rattle.lookups.specs.Lookup.{node_start, start_answer}
use Rattle.lookups.proofs.Refusal.{asked_refused, asked-answer, start_answered}
use Rattle.lookups.proofs.node_start.Goals as goal

pub returns-in_err-check_record : goal.returns-in_err-check_record
unfolding node_start start_answer
returns-in_err-check_record c =
    let p = err_from_is_err_and c.from_residual.result c.from_residual.ensures.1 in
    rw (p.1, p.2) (asked_refused _ _ _ _ _ _ _ c.in_err-check_record.ensures)

pub returns : goal.returns
unfolding node_start
returns c = ap start_answer c.find_start.ensures ∙ start_answered _ ∙ asked-answer _ _ _ _ _ _ _ c.in_ok-check_record.ensures
