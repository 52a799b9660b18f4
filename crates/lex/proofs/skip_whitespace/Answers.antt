-- `skip_whitespace` meets its contract.
-- Assumes nothing.
use mathlib.Core.Path.{◌∙◌, sym}
use native.Mathlib.Omega.{arith}
use Rattle.lex.proofs.Laws.{nonzero_inside}
use Rattle.lex.proofs.Skips.{stands, skip_stop, skip_space, skip_none}
use Rattle.lex.proofs.skip_whitespace.Goals as goal
use Rattle.lex.proofs.skip_whitespace.Goals.{then-peek-eq32, else-peek-eq32}

pub returns-then-b-ne35 : goal.returns-then-b-ne35
returns-then-b-ne35 c =
    let above = rw c.peek-b.ensures at c.if-b-gt32.true in
    let here = stands _ _ above (rw c.peek-b.ensures at c.if-b-ne35.true) in
    skip_stop c.args.script.now _ _
    (elim c.if-peek-eq32.branch [ then-peek-eq32 w ↦ skip_space c.args.script.now _ _ (sym c.peek.ensures ∙ w.if-peek-eq32.true) w.p-is | else-peek-eq32 w ↦ skip_none c.args.script.now _ _ w.p-is ])
    (nonzero_inside c.args.script.now _ (omega arith)) here.0 here.1

pub returns : goal.returns
returns c = c.skip_separators.ensures ∙ elim c.if-peek-eq32.branch [ then-peek-eq32 w ↦ skip_space c.args.script.now _ _ (sym c.peek.ensures ∙ w.if-peek-eq32.true) w.p-is | else-peek-eq32 w ↦ skip_none c.args.script.now _ _ w.p-is ]
