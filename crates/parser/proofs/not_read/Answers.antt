-- `parser::not_read` meets its contract.
use Rattle.std.proofs.Common.{refl, sym, ◌∙◌, eq-eqb, ne_eqb}
use Rattle.std.proofs.lemmas.Result.{err_from_is_err_and}
use Rattle.parser.specs.Whole.{not_read}
use Rattle.parser.proofs.Promised.{some_number}
use Rattle.parser.proofs.not_read.Goals as goal

pub returns-in_err-refusal : goal.returns-in_err-refusal
unfolding not_read
returns-in_err-refusal c =
    let refused = c.in_err-refusal in
    let p = err_from_is_err_and c.from_residual.result c.from_residual.ensures.1 in
    rw (p.1, p.2) (refused.ensures ∙ rw (ne_eqb _ 0 (λ e. some_number refused.field-0.0 (refused.ensures ∙ e)), not_read) refl)

pub returns-then-is_cut : goal.returns-then-is_cut
unfolding not_read
returns-then-is_cut c =
    rw (eq-eqb _ 0 (sym c.in_ok-refusal.ensures), sym c.is_cut.ensures ∙ c.if-is_cut.true, not_read) refl

pub returns-else-is_cut : goal.returns-else-is_cut
unfolding not_read
returns-else-is_cut c =
    rw (eq-eqb _ 0 (sym c.in_ok-refusal.ensures), sym c.is_cut.ensures ∙ c.if-is_cut.false, not_read) refl
