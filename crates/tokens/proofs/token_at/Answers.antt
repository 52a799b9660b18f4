-- `tokens::token_at` meets its contract.
use Rattle.std.proofs.Common.{arith, ℕ, ◌+◌, ◌*◌}
use borrow.Author.Tests.{lt-ltb, le-ltb}
use Rattle.tokens.specs.Table.{token_at}
use Rattle.tokens.proofs.Chunks.{outside, inside, cell_is}
use Rattle.tokens.proofs.token_at.Goals as goal

pub returns-in_default : goal.returns-in_default
unfolding token_at
returns-in_default c =
    let h = outside 4 c.args.i c.args.tokens.now _ c.as_chunks.ensures.front_len _ c.in_default.is c.get.ensures.lookup in
    rw (le-ltb _ _ h, token_at)

pub returns : goal.returns
unfolding token_at
returns c =
    let l = c.as_chunks.ensures.front_len in
    let g = c.in-Some.ensures.lookup in
    let cell = cell_is 4 c.args.i c.args.tokens.now _ l c.in-Some.record g c.as_chunks.ensures.front in
    let at : ℕ = 4 * c.args.i in
    rw (lt-ltb _ _ (inside 4 c.args.i c.args.tokens.now _ l c.in-Some.record g), token_at)
    (λ i. record { kind = cell 0 at (omega arith) (omega arith) i; start = cell 1 (at + 1) (omega arith) (omega arith) i; len = cell 2 (at + 2) (omega arith) (omega arith) i })
