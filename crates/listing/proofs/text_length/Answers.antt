-- `listing::text_length` meets its contract.
use Rattle.listing.proofs.Whole.{fitting, not_measured, too_long}
use Rattle.listing.proofs.text_length.Goals as goal

pub returns-in_err-write_answer : goal.returns-in_err-write_answer
returns-in_err-write_answer c = not_measured _ _ c.from_residual.ensures.0 c.in_err-write_answer.ensures.answers

pub returns-then-w : goal.returns-then-w
returns-then-w c = too_long c.in_ok-write_answer.ensures.answers.emits c.if-w.true

pub returns : goal.returns
returns c = fitting c.in_ok-write_answer.ensures.answers.emits c.if-w.false
