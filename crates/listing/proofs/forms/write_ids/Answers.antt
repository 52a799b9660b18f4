-- `listing::forms::write_ids` meets its contract.
use Rattle.std.proofs.Common.{rules, get_or}
use Rattle.text.specs.Text.{number}
use Rattle.listing.specs.Text.{ids}
use Rattle.listing.proofs.forms.write_ids.Goals as goal

pub returns : goal.returns
unfolding ids
returns c = c.write_list.ensures (λ j. number (get_or c.args.lists.now j 0)) (λ j u r v h p. search rules)
