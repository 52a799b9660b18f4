-- `parser_state::Parser::doc_follows` meets its contract.
use Rattle.std.proofs.Common.{refl}
use Rattle.parser_state.specs.Refines.{doc_follows}
use Rattle.parser_state.proofs.Parser.doc_follows.Goals as goal

pub returns : goal.returns
unfolding doc_follows
returns c = rw (← c.kind.ensures) refl
