-- `tokens::error_at` meets its contract.
use Rattle.std.proofs.Common.{arith, ℕ, ◌+◌, ◌*◌}
use borrow.Author.Tests.{lt-ltb, le-ltb}
use Rattle.tokens.specs.Table.{error_at}
use Rattle.tokens.proofs.Chunks.{outside, inside, cell_is}
use Rattle.tokens.proofs.error_at.Goals as goal

pub returns-in_default : goal.returns-in_default
unfolding error_at
returns-in_default c =
    let h = outside 6 c.args.i c.args.errors.now _ c.as_chunks.ensures.front_len _ c.in_default.is c.get.ensures.lookup in
    let d = c.default.ensures in
    let e = d.0 in
    rw (le-ltb _ _ h, error_at)
    (λ i. record { after = d.1 i; diagnostic = record { number = e.0 i; start = e.1.0 i; len = e.1.1.0 i; wanted = e.1.1.1.0 i; seen = e.1.1.1.1 i } })

pub returns : goal.returns
unfolding error_at
returns c =
    let l = c.as_chunks.ensures.front_len in
    let g = c.in-Some.ensures.lookup in
    let cell = cell_is 6 c.args.i c.args.errors.now _ l c.in-Some.record g c.as_chunks.ensures.front in
    let at : ℕ = 6 * c.args.i in
    rw (lt-ltb _ _ (inside 6 c.args.i c.args.errors.now _ l c.in-Some.record g), error_at)
    (λ i. record {
      after = cell 5 (at + 5) (omega arith) (omega arith) i;
      diagnostic = record {
        number = cell 0 at (omega arith) (omega arith) i;
        start = cell 1 (at + 1) (omega arith) (omega arith) i;
        len = cell 2 (at + 2) (omega arith) (omega arith) i;
        wanted = cell 3 (at + 3) (omega arith) (omega arith) i;
        seen = cell 4 (at + 4) (omega arith) (omega arith) i;
      };
    })
