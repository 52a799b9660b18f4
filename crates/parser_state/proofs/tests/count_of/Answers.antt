-- `parser_state::tests::count_of` meets its contract.
use Rattle.parser_state.specs.Represents.{AsNamed}
use Rattle.parser_state.proofs.tests.count_of.Goals as goal

pub returns-clause-reads : goal.returns-clause-reads
returns-clause-reads g c = c.members_until.ensures.reads AsNamed
