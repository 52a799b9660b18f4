-- `compare::node::agree_name` meets its contract.
use mathlib.Core.Path.{◌∙◌, sym}
use mathlib.Core.Bool.{false≢true}
use Rattle.compare.proofs.Agree.{decides_by, decides_yes}
use Rattle.compare.proofs.node.agree_name.Goals as goal

pub returns-then-named : goal.returns-then-named
returns-then-named c = decides_by (λ a q. a) (λ f. f c.if-named.true) c.agree_token_at.ensures

pub returns : goal.returns
returns c = decides_yes (λ q. absurd (false≢true (sym c.if-named.false ∙ q)))
