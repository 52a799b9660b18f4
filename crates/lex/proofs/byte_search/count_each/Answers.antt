-- `count_each` meets its contract: the test answers true of the bytes before the position, and false
-- of the one at it.
use Rattle.std.proofs.Common.{rules}
use Rattle.lex.proofs.Laws.{run_counted}
use Rattle.lex.proofs.byte_search.count_each.Goals as goal

pub returns-clause-run : goal.returns-clause-run
returns-clause-run g c = λ p computes. run_counted _ p computes c.args.bytes.now c.unwrap_or.result (search rules) (search rules) (search rules)
