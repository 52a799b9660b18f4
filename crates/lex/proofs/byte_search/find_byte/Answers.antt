-- `find_byte` meets its contract: the byte stands behind those that stand before it, or nowhere.
use Rattle.std.proofs.Common.{rules}
use Rattle.lex.specs.Bytes.{before, differs_from}
use Rattle.lex.proofs.Laws.{find_hit, find_miss}
use Rattle.lex.proofs.byte_search.find_byte.Goals as goal

pub returns-then-i-haystack : goal.returns-then-i-haystack
unfolding before differs_from
returns-then-i-haystack c = find_hit _ _ _ (c.count_run-i.ensures.run (differs_from c.args.needle) (λ b r e. search rules)) c.if-i-haystack.true

pub returns-else-i-haystack : goal.returns-else-i-haystack
unfolding before differs_from
returns-else-i-haystack c = find_miss _ _ _ (c.count_run-i.ensures.run (differs_from c.args.needle) (λ b r e. search rules)) c.if-i-haystack.false
