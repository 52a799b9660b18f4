-- `parser_state::Parser::move_docs` meets its contract.
use Rattle.std.proofs.Common.{ℕ, ◌+◌, ◌-◌, List, reverse, length, get_or, drop, set, refl, ap, ◌∙◌, arith, length-set}
use Rattle.std.proofs.Math.Seq.{paste}
use Rattle.parser_state.specs.Represents.{Code, code_of, with_lists}
use Rattle.parser_state.proofs.Cells.{docs_turn}
use Rattle.parser_state.proofs.Parser.move_docs.Goals as goal

pub loop-i-preserved : goal.loop-i-preserved
loop-i-preserved c =
    let before = code_of c.args.self.now in
    let at = c.args.at in
    let n = c.args.n in
    let i = c.loop-i.i in
    let so_far : List ℕ = paste before.lists at (reverse (drop (length before.types - n) before.types)) i in (
      simp length-set (omega arith),
      ap (λ (s : Code). with_lists s (set s.lists (at + i) (get_or s.types (length s.types - 1 - i) 0))) c.loop-i.invariant.1
          ∙ ap (with_lists before) (docs_turn before.types before.lists so_far at n i (omega arith) (omega arith) c.loop-i-test.true refl),
    )
