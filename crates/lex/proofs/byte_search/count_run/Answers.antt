-- `count_run` meets its contract: what of the run follows what is passed stays what it is.
use Rattle.std.proofs.Common.{sym, ◌∙◌, arith}
use borrow.Author.Rules.{rules}
use borrow.Author.Tests.{leb-true}
use Rattle.lex.proofs.Laws.{run_rest}
use Rattle.lex.proofs.byte_search.count_run.Goals as goal

pub loop-window-preserved : goal.loop-window-preserved
loop-window-preserved g c = (
  search rules,
  λ p computes. run_rest p _ _ _ _ 16 (c.loop-window.invariant.1 p computes) c.in-Some.ensures.cases.0 (search rules)
      (leb-true 16 _ (sym (c.all_have.ensures p computes) ∙ c.if-not-all_have.false)),
)
