-- `listing::forms::write_branch` meets its contract.
use Rattle.listing.specs.Text.{gap, fields, tuple, branch}
use Rattle.text.proofs.EmitLaws.{and_then}
use Rattle.listing.proofs.EmitLaws.{done, fails, unlisted-first, unlisted-then}
use Rattle.listing.proofs.forms.write_branch.Goals as goal

pub returns-in_err-write_pair : goal.returns-in_err-write_pair
unfolding branch tuple
returns-in_err-write_pair c =
    fails c.from_residual.ensures.0 (unlisted-then c.write_byte.ensures (unlisted-first c.in_err-write_pair.ensures.answers _))

pub returns-in_err-write_ids : goal.returns-in_err-write_ids
unfolding branch tuple fields gap
returns-in_err-write_ids c =
    fails c.from_residual-in_err-write_ids.ensures.0 (unlisted-then c.write_byte.ensures (unlisted-then c.in_ok-write_pair.ensures.answers (unlisted-first (unlisted-then c.write_byte-2.ensures (rw c.run_at.ensures at c.in_err-write_ids.ensures.answers)) _)))

pub returns : goal.returns
unfolding branch tuple fields gap
returns c =
    done (and_then c.write_byte.ensures
    (and_then c.in_ok-write_pair.ensures.answers
    (and_then (and_then c.write_byte-2.ensures (rw c.run_at.ensures at c.in_ok-write_ids.ensures.answers)) c.write_byte-3.ensures)))
