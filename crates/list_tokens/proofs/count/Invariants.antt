use Rattle.std.proofs.Common.{◌≡◌, ◌+◌, ◌≤◌, length}
use Rattle.lex.specs.Lex.{tokens_from}
use Rattle.list_tokens.proofs.count.Given as goal

-- the tokens that are counted and those that are left are all, and no more than the bytes
abbrev pub invariant-loop-piece : goal.invariant-loop-piece
invariant-loop-piece l =
    (l.piece-iterator.input.now ≡ l.script)
    × (l.n ≤ l.piece-iterator.pos)
    × (l.piece-iterator.pos ≤ length l.script)
    × (l.n + length (tokens_from l.script l.piece-iterator.pos) ≡ length (tokens_from l.script 0))
