-- `listing::lines::write_type_at` meets its contract.
use Rattle.std.proofs.Common.{ap}
use Rattle.listing.specs.Listing.{type_text}
use Rattle.listing.proofs.EmitLaws.{lists_by, unlisted, unlisted_by}
use Rattle.listing.proofs.lines.write_type_at.Goals as goal

pub returns-in-Some : goal.returns-in-Some
unfolding type_text
returns-in-Some c = lists_by (ap (type_text c.args.lists.now) c.in-Some.ensures) c.write_type.ensures

pub returns-in-None : goal.returns-in-None
unfolding type_text
returns-in-None c = record { answers = unlisted_by (ap (type_text c.args.lists.now) c.in-None.ensures) unlisted }
