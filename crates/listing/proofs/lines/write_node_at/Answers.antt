-- `listing::lines::write_node_at` meets its contract.
use Rattle.std.proofs.Common.{ap}
use Rattle.listing.specs.Listing.{node_text}
use Rattle.listing.proofs.EmitLaws.{lists_by, unlisted, unlisted_by}
use Rattle.listing.proofs.lines.write_node_at.Goals as goal

pub returns-in-Some : goal.returns-in-Some
unfolding node_text
returns-in-Some c = lists_by (ap (node_text c.args.lists.now) c.in-Some.ensures) c.write_node.ensures

pub returns-in-None : goal.returns-in-None
unfolding node_text
returns-in-None c = record { answers = unlisted_by (ap (node_text c.args.lists.now) c.in-None.ensures) unlisted }
