-- `lookups::innermost` meets its contract.
use Rattle.lookups.proofs.Descent.{innermost_step}
use Rattle.lookups.proofs.+innermost.Goals as goal

pub returns-in-Some : goal.returns-in-Some
returns-in-Some t c = innermost_step c.args.tree.now.types.now _ _ _ c.in-Some.ensures c.if-inner-id.true c.innermost.ensures
