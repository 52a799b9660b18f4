-- `tokens::is_cut` meets its contract.
use Rattle.std.proofs.Common.{arith, sym}
use Rattle.tokens.proofs.Promised.{has_room, refused_uncut, long_enough}
use Rattle.tokens.proofs.Same.{cut_wholly}
use Rattle.tokens.proofs.is_cut.Goals as goal

pub returns-in_default : goal.returns-in_default
returns-in_default c = sym (refused_uncut _ _ _ c.in_default.ensures)

pub agrees-requires : goal.agrees-requires
agrees-requires c =
    let r = has_room _ _ _ c.in-Ok.ensures in
    (omega arith, omega arith, r.short, r.tokens, r.errors)

pub returns : goal.returns
returns c =
    let r = has_room _ _ _ c.in-Ok.ensures in
    cut_wholly _ _ _ r.short (long_enough _ _ _ r.tokens r.errors) c.agrees.ensures
