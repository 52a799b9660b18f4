-- The cells before `i` are copied.
use Rattle.std.proofs.Common.{◌≡◌, ◌-◌, reverse, length, take, drop}
use Rattle.std.proofs.Math.Seq.{paste}
use Rattle.parser_state.proofs.move_list.Given as goal

abbrev pub invariant-loop-i : goal.invariant-loop-i
invariant-loop-i l = (length l.part ≡ length l.fn.part) × (l.part ≡ paste l.fn.part 0 (reverse (take l.n (drop (length l.fn.part - l.scratch) l.fn.part))) l.i)
