-- `positions::all_inside` meets its contract.
use Rattle.std.proofs.Common.{rules, tests, leb, length}
use Rattle.std.proofs.lemmas.Iterator.{YieldsList-from_slice}
use Rattle.std.proofs.lemmas.Iterator.Search.{all_from_yields_List}
use Rattle.positions.specs.LineColumns.{all_inside}
use Rattle.positions.proofs.all_inside.Goals as goal

pub returns : goal.returns
unfolding all_inside
returns c =
    all_from_yields_List (λ p. leb p (length c.args.script.now)) _ _ _ c.all.ensures.ran (YieldsList-from_slice c.args.positions.now cc)
    (λ x b q k. search (rules, tests))
