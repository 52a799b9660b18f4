-- `parser::drop_docs` meets its contract.
use Rattle.std.proofs.Common.{refl}
use Rattle.parser_state.specs.Represents.{code_of}
use Rattle.parser.proofs.Roots.{dropping}
use Rattle.parser.proofs.drop_docs.Goals as goal

pub returns-clause-reads : goal.returns-clause-reads
returns-clause-reads c = (λ tokens. dropping tokens (code_of c.args.p.now) refl, refl, refl)
