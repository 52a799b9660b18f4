-- `compare::type_expr::agree_params` meets its contract.
use Rattle.std.proofs.Common.{refl, rules}
use Rattle.rules.specs.Shape.{w}
use Rattle.compare.proofs.Walk.{pair_decides}
use Rattle.compare.proofs.Listing.{param_lists, not-in_step, paired, all-tested}
use Rattle.compare.proofs.type_expr.agree_params.Goals as goal

pub returns-in_default : goal.returns-in_default
returns-in_default c = not-in_step param_lists refl c.in_default.ensures

pub returns : goal.returns
unfolding w
returns c = all-tested param_lists _ _ (λ x b q k. (search rules, pair_decides (search rules))) (paired param_lists refl c.in-Some.ensures refl) c.all.ensures.ran
