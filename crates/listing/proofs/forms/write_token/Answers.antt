-- `listing::forms::write_token` meets its contract.
use Rattle.listing.specs.Text.{fields, token}
use Rattle.text.proofs.EmitLaws.{and_then}
use Rattle.listing.proofs.EmitLaws.{done, fails, unlisted-first, unlisted-then}
use Rattle.listing.proofs.forms.write_token.Goals as goal

pub returns-in_err-write_kind : goal.returns-in_err-write_kind
unfolding token
returns-in_err-write_kind c = fails c.from_residual.ensures.0 (unlisted-then c.write_byte.ensures (unlisted-first c.in_err-write_kind.ensures.answers _))

pub returns : goal.returns
unfolding token fields
returns c = done (and_then c.write_byte.ensures (and_then c.in_ok-write_kind.ensures.answers (and_then (and_then c.write_gap.ensures c.write_number.ensures) (and_then c.write_next_number.ensures c.write_byte-2.ensures))))
