-- `next_token` meets its contract: a fault has no part in what `next_at` gives.
-- Assumes nothing.
use mathlib.Core.Path.{◌∙◌, sym}
use native.Mathlib.Omega.{arith}
use Rattle.lex.specs.Lex.{next_at, next_of}
use Rattle.lex.proofs.Steps.{step_forward, next_step}
use Rattle.lex.proofs.next_token.Goals as goal

pub returns-in-Token : goal.returns-in-Token
unfolding next_of
returns-in-Token c = sym (next_step c.args.script.now c.loop-token.p (sym c.step.ensures ∙ c.in-Token.is)) ∙ c.loop-token.invariant

pub loop-token-smaller : goal.loop-token-smaller
loop-token-smaller c = omega (arith, rw (sym c.step.ensures ∙ c.in-Fault.is) at (step_forward c.args.script.now c.loop-token.p))

pub loop-token-preserved : goal.loop-token-preserved
unfolding next_at next_of
loop-token-preserved c = sym (next_step c.args.script.now c.loop-token.p (sym c.step.ensures ∙ c.in-Fault.is)) ∙ c.loop-token.invariant

pub returns-in-End : goal.returns-in-End
unfolding next_of
returns-in-End c = rw c.eof.ensures (sym (next_step c.args.script.now c.loop-token.p (sym c.step.ensures ∙ c.in-End.is)) ∙ c.loop-token.invariant)
