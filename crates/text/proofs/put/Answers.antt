-- `text::put` meets its contract.
use Rattle.std.proofs.Common.{◌≡◌, ◌+◌, arith, rules}
use Prim.Native.Nat.{min}
use Rattle.text.specs.Emit.{last}
use Rattle.text.proofs.EmitLaws.{byte_inside, byte_behind}
use Rattle.text.proofs.put.Goals as goal

pub returns-then-at-out : goal.returns-then-at-out
returns-then-at-out c =
    let e : min (c.args.at + 1) last ≡ c.args.at + 1 = omega arith in
    rw e at (byte_inside c.args.b c.args.out.now c.args.at (search rules))

pub returns : goal.returns
returns c = rw c.saturating_add.ensures (byte_behind c.args.b c.args.out.now c.args.at (search rules) (omega arith))
