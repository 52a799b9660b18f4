-- `parser_state::tests::strings` may call what it calls.
use Rattle.rules.specs.Rules.{import_path}
use Rattle.parser_state.proofs.tests.strings.Goals as goal

pub list_of-requires-clause-reads : goal.list_of-requires-clause-reads
list_of-requires-clause-reads c = (import_path, λ u r v h. h)
