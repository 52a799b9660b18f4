-- `line_end` meets its contract.
use Rattle.std.proofs.Common.{rules}
use Rattle.lex.specs.Bytes.{before, differs_from}
use Rattle.lex.proofs.byte_search.line_end.Goals as goal

pub returns : goal.returns
unfolding before differs_from
returns c = c.count_run.ensures.run (differs_from 10) (λ b r e. search rules)
