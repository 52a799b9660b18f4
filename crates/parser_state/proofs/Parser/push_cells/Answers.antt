-- `parser_state::Parser::push_cells` meets its contract.
use Rattle.std.proofs.Common.{refl, arith}
use Rattle.parser_state.specs.Represents.{code_of}
use Rattle.parser_state.proofs.Leaves.{full}
use Rattle.parser_state.proofs.Steps.{left-some}
use Rattle.parser_state.proofs.Cells.{pushing}
use Rattle.std.specs.Prelude.{None}
use Rattle.parser_state.specs.Wherever.{lending}
use Rattle.parser_state.proofs.Parser.push_cells.Goals as goal

pub returns-then-n-gt-MAX_LISTS-clause-wherever : goal.returns-then-n-gt-MAX_LISTS-clause-wherever
returns-then-n-gt-MAX_LISTS-clause-wherever c = λ tokens nodes types. full (λ R L stack m h. omega (arith, h.credit.room, h.lent.small, left-some h))

pub returns-then-n-gt-MAX_LISTS-clause-reads : goal.returns-then-n-gt-MAX_LISTS-clause-reads
returns-then-n-gt-MAX_LISTS-clause-reads c = λ tokens. returns-then-n-gt-MAX_LISTS-clause-wherever c tokens None None

pub returns-then-self-n-clause-wherever : goal.returns-then-self-n-clause-wherever
returns-then-self-n-clause-wherever c = λ tokens nodes types. full (λ R L stack m h. omega (arith, h.credit.room, h.lent.lists, left-some h))

pub returns-then-self-n-clause-reads : goal.returns-then-self-n-clause-reads
returns-then-self-n-clause-reads c = λ tokens. returns-then-self-n-clause-wherever c tokens None None

pub returns-clause-wherever : goal.returns-clause-wherever
returns-clause-wherever c = λ tokens nodes types. pushing tokens c.args.cells.now (lending nodes types None (code_of c.args.self.now)) refl c.put.ensures (omega arith)

pub returns-clause-reads : goal.returns-clause-reads
returns-clause-reads c = λ tokens. returns-clause-wherever c tokens None None
