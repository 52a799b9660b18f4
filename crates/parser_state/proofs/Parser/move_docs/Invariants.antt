-- The cells before `i` are copied.
use Rattle.std.proofs.Common.{◌≡◌, ◌-◌, reverse, length, drop}
use Rattle.std.proofs.Math.Seq.{paste}
use Rattle.parser_state.specs.Represents.{code_of, with_lists}
use Rattle.parser_state.proofs.Parser.move_docs.Given as goal

abbrev pub invariant-loop-i : goal.invariant-loop-i
invariant-loop-i l =
    let before = code_of l.fn.self in
    (length l.self.lists.now ≡ length before.lists) × (code_of l.self ≡ with_lists before (paste before.lists l.at (reverse (drop (length before.types - l.n) before.types)) l.i))
