-- `listing::write_listing` meets its contract.
use Rattle.std.proofs.Common.{rules}
use Rattle.listing.specs.Listing.{held, as_parsed, text_of, listing_answer}
use Rattle.listing.proofs.Whole.{malformed_answer, no_tree, no_room, whole}
use Rattle.listing.proofs.write_listing.Goals as goal

pub returns-in_err-length-clause-listed : goal.returns-in_err-length-clause-listed
returns-in_err-length-clause-listed c =
    rw (malformed_answer c.from_residual.result c.from_residual.ensures.1)
    (no_tree (text_of (as_parsed c.args.answer) (held c.args.arrays.now)) c.args.out.now c.in_err-length.ensures)

pub returns-then-out-length-clause-listed : goal.returns-then-out-length-clause-listed
unfolding listing_answer
returns-then-out-length-clause-listed c = no_room (text_of (as_parsed c.args.answer) (held c.args.arrays.now)) c.args.out.now c.in_ok-length.ensures c.if-out-length.true

pub returns-clause-listed : goal.returns-clause-listed
unfolding listing_answer
returns-clause-listed c =
    let h = c.in_ok-write_answer.ensures.answers in
    whole (text_of (as_parsed c.args.answer) (held c.args.arrays.now)) c.args.out.now c.in_ok-length.ensures c.write_answer.new.w.at c.if-out-length.false (search rules)
