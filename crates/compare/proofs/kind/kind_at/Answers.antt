-- `compare::kind::kind_at` meets its contract.
use Rattle.std.proofs.Common.{rules}
use borrow.Author.Tests.{le-leb, lt-leb}
use Rattle.compare.specs.Shapes.{kind_at}
use Rattle.compare.proofs.kind.kind_at.Goals as goal

pub returns-then-records-at : goal.returns-then-records-at
unfolding kind_at
returns-then-records-at c = rw (lt-leb _ _ c.if-records-at.true)

pub returns : goal.returns
unfolding kind_at
returns c = rw (le-leb _ _ c.if-records-at.false) (search rules)
