-- `listing::emit::write_next_number` meets its contract.
use Rattle.std.proofs.Common.{rules, [], ◌∷◌}
use Rattle.text.proofs.EmitLaws.{and_then}
use Rattle.listing.specs.Text.{gap}
use Rattle.listing.proofs.emit.write_next_number.Goals as goal

pub returns : goal.returns
unfolding gap
returns c = and_then {a = 32 ∷ []} (search rules) c.write_number.ensures
