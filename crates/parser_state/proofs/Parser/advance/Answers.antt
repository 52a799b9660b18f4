-- `parser_state::Parser::advance` meets its contract.
use Rattle.std.proofs.Common.{refl, arith}
use Rattle.parser_state.specs.Represents.{code_of}
use Rattle.parser_state.proofs.Leaves.{taking, taking_past}
use Rattle.std.specs.Prelude.{None}
use Rattle.parser_state.specs.Wherever.{lending}
use Rattle.parser_state.proofs.Parser.advance.Goals as goal

pub returns-then-i-ge-MAX_BYTES-clause-wherever : goal.returns-then-i-ge-MAX_BYTES-clause-wherever
returns-then-i-ge-MAX_BYTES-clause-wherever c = λ nodes types lists. taking_past c.args.tokens.now (lending nodes types lists (code_of c.args.self.now)) 0 3 refl (omega arith) (omega (arith, c.if-i-ge-MAX_BYTES.true))

pub returns-then-i-ge-MAX_BYTES-clause-reads : goal.returns-then-i-ge-MAX_BYTES-clause-reads
returns-then-i-ge-MAX_BYTES-clause-reads c = returns-then-i-ge-MAX_BYTES-clause-wherever c None None None

pub returns-clause-wherever : goal.returns-clause-wherever
returns-clause-wherever c = λ nodes types lists. taking c.args.tokens.now (lending nodes types lists (code_of c.args.self.now)) _ refl (omega arith) c.token_at-self.ensures

pub returns-clause-reads : goal.returns-clause-reads
returns-clause-reads c = returns-clause-wherever c None None None
