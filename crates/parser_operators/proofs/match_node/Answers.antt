-- `parser_operators::match_node` meets its contract.
use Rattle.parser_state.specs.Refines.{fail_at}
use Rattle.parser_state.proofs.Steps.{enough}
use Rattle.parser_operators.specs.Matches.{match_node}
use Rattle.parser_operators.proofs.Matches.{fail_any}
use Rattle.std.specs.Prelude.{None}
use Rattle.parser_operators.proofs.match_node.Goals as goal

pub returns-in-None-clause-wherever : goal.returns-in-None-clause-wherever
unfolding match_node fail_at
returns-in-None-clause-wherever c = λ types lists. rw (c.in-None.is, match_node) (enough (fail_any _ _ (c.fail_at.ensures.wherever None types lists)) tt)

pub returns-in-None-clause-reads : goal.returns-in-None-clause-reads
returns-in-None-clause-reads c = returns-in-None-clause-wherever c None None

pub returns-in-Some-clause-wherever : goal.returns-in-Some-clause-wherever
unfolding match_node
returns-in-Some-clause-wherever c = λ types lists. rw (c.in-Some.is, match_node) (c.push_match.ensures.wherever _ types lists)

pub returns-in-Some-clause-reads : goal.returns-in-Some-clause-reads
returns-in-Some-clause-reads c = returns-in-Some-clause-wherever c None None
