-- `Type::name` meets its contract: the table has the names, which antt computes.
use Rattle.std.proofs.Common.{arith}
use Rattle.std.specs.Prelude.{None}
use Rattle.lex.specs.Kind.{kind_names, kind_name}
use Rattle.lex.proofs.Bits.{below, outside, within}
use Rattle.lex.proofs.Laws.{match_weaker}
use Rattle.lex.proofs.WellFormed.{name_bytes}
use Rattle.lex.proofs.tok.Type.name.Goals as goal

pub returns-then-kind-lt-EOF-clause-by_cases : goal.returns-then-kind-lt-EOF-clause-by_cases
returns-then-kind-lt-EOF-clause-by_cases c = below 1 43 c.args.kind c.if-kind-lt-EOF.true

pub returns-then-kind-lt-EOF-clause-text : goal.returns-then-kind-lt-EOF-clause-text
returns-then-kind-lt-EOF-clause-text c = name_bytes c.args.kind None (below 1 43 c.args.kind c.if-kind-lt-EOF.true)

pub returns-clause-by_cases : goal.returns-clause-by_cases
unfolding kind_name kind_names
returns-clause-by_cases c = match_weaker c.text_at.result (λ h. outside 1 43 c.args.kind h) (λ t e. (within 1 43 c.args.kind c.if-kind-lt-EOF.false (omega (arith, e.0)), e.1)) c.text_at.ensures

pub returns-clause-text : goal.returns-clause-text
returns-clause-text c = name_bytes c.args.kind c.text_at.result (returns-clause-by_cases c)
