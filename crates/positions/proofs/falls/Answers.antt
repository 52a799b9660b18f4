-- `positions::falls` meets its contract.
use Rattle.std.proofs.lemmas.List.Sorted.{non_decreasing_from_is_sorted}
use Rattle.positions.proofs.Many.{falls-sorted}
use Rattle.positions.proofs.falls.Goals as goal

pub returns : goal.returns
returns c = falls-sorted _ _ (non_decreasing_from_is_sorted _ _ c.is_sorted.ensures.cases)
