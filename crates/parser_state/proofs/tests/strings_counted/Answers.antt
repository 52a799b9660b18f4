-- `parser_state::tests::strings_counted` may call what it calls.
use Rattle.rules.specs.Rules.{import_path}
use Rattle.parser_state.proofs.tests.strings_counted.Goals as goal

pub count_of-requires-clause-reads : goal.count_of-requires-clause-reads
count_of-requires-clause-reads c = (import_path, λ u r v h. h)
