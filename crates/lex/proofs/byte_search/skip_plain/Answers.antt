-- `skip_plain` meets its contract.
use Rattle.std.proofs.Common.{rules}
use Rattle.lex.specs.Bytes.{is_plain, differs_from}
use Rattle.lex.proofs.byte_search.skip_plain.Goals as goal

pub returns : goal.returns
unfolding is_plain differs_from
returns c = c.count_front.ensures.run (is_plain c.args.needle) (λ b r e. search rules) (λ b r e. search rules)
