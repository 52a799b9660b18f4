-- `listing::forms::write_extern_fn` meets its contract.
use Rattle.listing.specs.Text.{gap, fields, tuple, extern_fn}
use Rattle.text.proofs.EmitLaws.{and_then}
use Rattle.listing.proofs.EmitLaws.{done, fails, unlisted-first, unlisted-then}
use Rattle.listing.proofs.forms.write_extern_fn.Goals as goal

pub returns-in_err-write_tokens : goal.returns-in_err-write_tokens
unfolding extern_fn tuple
returns-in_err-write_tokens c =
    fails c.from_residual.ensures.0 (unlisted-then c.write_byte.ensures (unlisted-first (rw c.run_at.ensures at c.in_err-write_tokens.ensures.answers) _))

pub returns-in_err-write_token : goal.returns-in_err-write_token
unfolding extern_fn tuple fields gap
returns-in_err-write_token c =
    fails c.from_residual-in_err-write_token.ensures.0 (unlisted-then c.write_byte.ensures
    (unlisted-then (rw c.run_at.ensures at c.in_ok-write_tokens.ensures.answers)
    (unlisted-first (unlisted-then c.write_byte-2.ensures (rw c.token_at.ensures at c.in_err-write_token.ensures.answers)) _)))

pub returns-in_err-write_pairs : goal.returns-in_err-write_pairs
unfolding extern_fn tuple fields gap
returns-in_err-write_pairs c =
    fails c.from_residual-in_err-write_pairs.ensures.0 (unlisted-then c.write_byte.ensures
    (unlisted-then (rw c.run_at.ensures at c.in_ok-write_tokens.ensures.answers)
    (unlisted-then (and_then c.write_byte-2.ensures (rw c.token_at.ensures at c.in_ok-write_token.ensures.answers))
    (unlisted-first (unlisted-then c.write_byte-3.ensures (rw c.run_at-2.ensures at c.in_err-write_pairs.ensures.answers)) _))))

pub returns : goal.returns
unfolding extern_fn tuple fields gap
returns c =
    done (and_then c.write_byte.ensures
    (and_then (rw c.run_at.ensures at c.in_ok-write_tokens.ensures.answers)
    (and_then (and_then c.write_byte-2.ensures (rw c.token_at.ensures at c.in_ok-write_token.ensures.answers))
    (and_then (and_then c.write_byte-3.ensures (rw c.run_at-2.ensures at c.in_ok-write_pairs.ensures.answers))
    (and_then (rw c.cell.ensures at c.write_next_number.ensures) c.write_byte-4.ensures)))))
