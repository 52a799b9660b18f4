-- `parser_state::Parser::alloc_slice` meets its contract.
use Rattle.std.proofs.Common.{◌-◌, List, ℕ, refl, ap, ◌∙◌, arith}
use Rattle.parser_state.specs.Represents.{code_of}
use Rattle.parser_state.proofs.Leaves.{lists_full}
use Rattle.parser_state.proofs.Steps.{left-some}
use Rattle.parser_state.proofs.Cells.{allocating, moved, tail_mid, tail_put, tail_put-length}
use Rattle.std.specs.Prelude.{None}
use Rattle.parser_state.specs.Wherever.{lending}
use Rattle.parser_state.proofs.Parser.alloc_slice.Goals as goal

pub returns-then-members-gt-MAX_BYTES-clause-wherever : goal.returns-then-members-gt-MAX_BYTES-clause-wherever
returns-then-members-gt-MAX_BYTES-clause-wherever c = λ tokens nodes types. lists_full (λ R L stack xs m a b few h. omega (arith, h.lent.small, left-some h))

pub returns-then-members-gt-MAX_BYTES-clause-reads : goal.returns-then-members-gt-MAX_BYTES-clause-reads
returns-then-members-gt-MAX_BYTES-clause-reads c = ((λ tokens. returns-then-members-gt-MAX_BYTES-clause-wherever c tokens None None), omega arith)

pub returns-then-self-at-clause-wherever : goal.returns-then-self-at-clause-wherever
returns-then-self-at-clause-wherever c = λ tokens nodes types. lists_full (λ R L stack xs m a b few h. omega (arith, h.credit.room, h.lent.lists, left-some h))

pub returns-then-self-at-clause-reads : goal.returns-then-self-at-clause-reads
returns-then-self-at-clause-reads c = ((λ tokens. returns-then-self-at-clause-wherever c tokens None None), omega arith)

pub returns-then-cells-gt-MAX_LISTS-clause-wherever : goal.returns-then-cells-gt-MAX_LISTS-clause-wherever
returns-then-cells-gt-MAX_LISTS-clause-wherever c = λ tokens nodes types. lists_full (λ R L stack xs m a b few h. omega (arith, h.credit.room, h.lent.small, left-some h))

pub returns-then-cells-gt-MAX_LISTS-clause-reads : goal.returns-then-cells-gt-MAX_LISTS-clause-reads
returns-then-cells-gt-MAX_LISTS-clause-reads c = ((λ tokens. returns-then-cells-gt-MAX_LISTS-clause-wherever c tokens None None), omega arith)

pub returns-clause-wherever : goal.returns-clause-wherever
returns-clause-wherever c =
    let s = code_of c.args.self.now in
    let used = s.parser.used in
    let long = tail_put-length used.cells s.lists c.move_list.new.part (omega arith) c.move_list.auto.part in
    λ tokens nodes types. allocating tokens (lending nodes types None s) _ _ refl (tail_put used.cells s.lists _ _ (c.move_list.ensures ∙ ap (λ (l : List ℕ). moved l (used.scratch - c.args.mark) used.scratch) (tail_mid used.cells s.lists))) long

pub returns-clause-reads : goal.returns-clause-reads
returns-clause-reads c = ((λ tokens. returns-clause-wherever c tokens None None), c.if-members-gt-MAX_BYTES.false)
