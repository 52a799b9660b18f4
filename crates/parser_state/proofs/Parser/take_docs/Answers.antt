-- `parser_state::Parser::take_docs` meets its contract.
use Rattle.std.proofs.Common.{◌≡◌, ◌*◌, sym, refl, ap, subst, arith}
use Rattle.rules.specs.Combinators.{take_docs}
use Rattle.parser_state.specs.Represents.{Code, code_of}
use Rattle.parser_state.specs.Refines.{Refines, stack_unchanged}
use Rattle.parser_state.proofs.Steps.{left-some}
use Rattle.parser_state.proofs.Leaves.{full}
use Rattle.parser_state.proofs.Docs.{attaching, docs_moved-length}
use Rattle.std.specs.Prelude.{None}
use Rattle.parser_state.specs.Wherever.{lending}
use Rattle.parser_state.proofs.Parser.take_docs.Goals as goal

pub returns-then-docs-gt-MAX_BYTES-clause-wherever : goal.returns-then-docs-gt-MAX_BYTES-clause-wherever
returns-then-docs-gt-MAX_BYTES-clause-wherever c = λ tokens nodes. full (λ R L stack m h. omega (arith, h.credit.records, h.lent.small, left-some h))

pub returns-then-docs-gt-MAX_BYTES-clause-reads : goal.returns-then-docs-gt-MAX_BYTES-clause-reads
returns-then-docs-gt-MAX_BYTES-clause-reads c = ((λ tokens. returns-then-docs-gt-MAX_BYTES-clause-wherever c tokens None), refl)

pub returns-then-cells-gt-MAX_LISTS-clause-wherever : goal.returns-then-cells-gt-MAX_LISTS-clause-wherever
returns-then-cells-gt-MAX_LISTS-clause-wherever c = λ tokens nodes. full (λ R L stack m h. omega (arith, h.credit.room, h.lent.small, left-some h))

pub returns-then-cells-gt-MAX_LISTS-clause-reads : goal.returns-then-cells-gt-MAX_LISTS-clause-reads
returns-then-cells-gt-MAX_LISTS-clause-reads c = ((λ tokens. returns-then-cells-gt-MAX_LISTS-clause-wherever c tokens None), refl)

pub returns-then-self-n-clause-wherever : goal.returns-then-self-n-clause-wherever
returns-then-self-n-clause-wherever c = λ tokens nodes. full (λ R L stack m h. omega (arith, h.credit.records, h.lent.types, left-some h))

pub returns-then-self-n-clause-reads : goal.returns-then-self-n-clause-reads
returns-then-self-n-clause-reads c = ((λ tokens. returns-then-self-n-clause-wherever c tokens None), refl)

pub returns-then-self-at-clause-wherever : goal.returns-then-self-at-clause-wherever
returns-then-self-at-clause-wherever c = λ tokens nodes. full (λ R L stack m h. omega (arith, h.credit.room, h.lent.lists, left-some h))

pub returns-then-self-at-clause-reads : goal.returns-then-self-at-clause-reads
returns-then-self-at-clause-reads c = ((λ tokens. returns-then-self-at-clause-wherever c tokens None), refl)

pub returns-clause-wherever : goal.returns-clause-wherever
returns-clause-wherever c =
    let s = code_of c.args.self.now in
    let moved = docs_moved-length s.types s.lists s.parser.used.cells (3 * s.parser.used.docs) (omega arith) (omega arith) in
    λ tokens nodes.
    subst (λ (t : Code). Refines tokens 0 0 take_docs (λ t. t ≡ record { start = s.parser.used.cells; len = s.parser.used.docs }) stack_unchanged 0 0 0 (lending nodes None None s) (lending nodes None None t)) (sym c.move_docs.ensures)
    (attaching tokens (lending nodes None None s) refl refl moved)

pub returns-clause-reads : goal.returns-clause-reads
returns-clause-reads c = ((λ tokens. returns-clause-wherever c tokens None), ap (λ (t : Code). t.parser.cur) c.move_docs.ensures)
