-- `listing::forms::write_pairs` meets its contract.
use Rattle.std.proofs.Common.{rules}
use Rattle.listing.specs.Text.{pair, pairs}
use Rattle.listing.proofs.forms.write_pairs.Goals as goal

pub returns : goal.returns
unfolding pairs
returns c = c.write_list.ensures (λ j. pair c.args.lists.now j) (λ j u r v h p. search rules)
