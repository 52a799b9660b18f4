-- What a turn takes is the first of the tokens from the position on.
use Rattle.std.proofs.Common.{◌∙◌, sym, arith}
use Rattle.lex.specs.Bytes.{bit}
use Rattle.list_tokens.proofs.Counting.{takes, ends}
use Rattle.list_tokens.proofs.count.Goals as goal

pub loop-piece-preserved-then-is_ok : goal.loop-piece-preserved-then-is_ok
unfolding bit
loop-piece-preserved-then-is_ok c =
    let i = c.loop-piece.invariant in
    let s = c.in-Some.ensures.steps in
    let t = rw (sym c.is_ok.ensures.value ∙ c.if-is_ok.true) at (takes c.args.script.now _ _ c.in-Some.piece (rw i.0 at s.1)) in
    (rw s.0 i.0, omega (arith, t), omega (arith, t), omega (arith, t))

pub loop-piece-preserved : goal.loop-piece-preserved
unfolding bit
loop-piece-preserved c =
    let i = c.loop-piece.invariant in
    let s = c.in-Some.ensures.steps in
    let t = rw (sym c.is_ok.ensures.value ∙ c.if-is_ok.false) at (takes c.args.script.now _ _ c.in-Some.piece (rw i.0 at s.1)) in
    (rw s.0 i.0, omega (arith, t), omega (arith, t), omega (arith, t))

pub returns : goal.returns
returns c =
    let i = c.loop-piece.invariant in
    omega (arith, ends c.args.script.now _ _ (rw i.0 at c.in-None.ensures.steps.1))
