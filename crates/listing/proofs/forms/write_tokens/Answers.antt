-- `listing::forms::write_tokens` meets its contract.
use Rattle.std.proofs.Common.{rules}
use Rattle.ast.specs.Decode.{token_at}
use Rattle.listing.specs.Text.{token, tokens}
use Rattle.listing.proofs.forms.write_tokens.Goals as goal

pub returns : goal.returns
unfolding tokens
returns c = c.write_list.ensures (λ j. token (token_at c.args.lists.now j)) (λ j u r v h p. search rules)
