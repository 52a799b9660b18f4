-- `listing::forms::write_pair` meets its contract.
use Rattle.listing.specs.Text.{gap, fields, tuple, pair}
use Rattle.text.proofs.EmitLaws.{and_then}
use Rattle.listing.proofs.EmitLaws.{done, fails, unlisted-first, unlisted-then}
use Rattle.listing.proofs.forms.write_pair.Goals as goal

pub returns-in_err-write_token : goal.returns-in_err-write_token
unfolding pair tuple
returns-in_err-write_token c =
    fails c.from_residual.ensures.0 (unlisted-then c.write_byte.ensures (unlisted-first (rw c.token_at.ensures at c.in_err-write_token.ensures.answers) _))

pub returns : goal.returns
unfolding pair tuple fields gap
returns c =
    done (and_then c.write_byte.ensures
    (and_then (rw c.token_at.ensures at c.in_ok-write_token.ensures.answers)
    (and_then (rw c.cell.ensures at c.write_next_number.ensures) c.write_byte-2.ensures)))
