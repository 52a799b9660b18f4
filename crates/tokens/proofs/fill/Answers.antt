-- `tokens::fill` meets its contract: the records made and those that the rest of the script gives
-- are those from `from` on, at every turn.
use Rattle.std.proofs.Common.{arith, refl, sym}
use Rattle.tokens.proofs.Progress.{filled-start, filled-token, filled_fault, stops_tokens, stops_errors, stops_end, tokens-left, step_bounds, fault_bounds, end_bounds}
use Rattle.tokens.proofs.fill.Goals as goal

pub loop-token-init : goal.loop-token-init
loop-token-init c =
    let at = c.with_pos-lexer.ensures in (
      rw at.1 (filled-start c.args.script.now c.args.tokens.now c.args.errors.now c.args.from c.args.before c.requires.1),
      rw (at.0, c.new.ensures.0) refl,
      refl,
      refl,
    )

pub returns-then-tokens-n : goal.returns-then-tokens-n
returns-then-tokens-n c = stops_tokens c.loop-token.invariant.0 c.if-tokens-n.true

pub put_token-requires : goal.put_token-requires
put_token-requires c =
    let b = step_bounds c.args.script.now c.loop-token.lexer.pos (omega arith) (sym (rw c.loop-token.invariant.1 at c.in-Token.ensures)) in
    (c.if-tokens-n.false, omega arith, b.0, b.1)

pub loop-token-preserved-in-Token : goal.loop-token-preserved-in-Token
loop-token-preserved-in-Token c =
    (filled-token c.loop-token.invariant.0 (sym (rw c.loop-token.invariant.1 at c.in-Token.ensures)) c.if-tokens-n.false c.put_token.ensures, c.loop-token.invariant.1, omega (arith, c.put_token.auto), omega arith)

pub returns-then-errors-m : goal.returns-then-errors-m
returns-then-errors-m c = stops_errors c.loop-token.invariant.0 (sym (rw c.loop-token.invariant.1 at c.in-Fault.ensures)) c.if-errors-m.true

pub put_error-requires : goal.put_error-requires
put_error-requires c =
    let b = fault_bounds c.args.script.now c.loop-token.lexer.pos (omega arith) (sym (rw c.loop-token.invariant.1 at c.in-Fault.ensures)) in
    (c.if-errors-m.false, b.0, b.1, omega (arith, tokens-left c.loop-token.invariant.0))

pub loop-token-preserved : goal.loop-token-preserved
loop-token-preserved c =
    (filled_fault c.loop-token.invariant.0 (sym (rw c.loop-token.invariant.1 at c.in-Fault.ensures)) c.if-errors-m.false c.put_error.ensures, c.loop-token.invariant.1, omega arith, omega (arith, c.put_error.auto))

pub returns-then-tokens-n-2 : goal.returns-then-tokens-n-2
returns-then-tokens-n-2 c = stops_tokens c.loop-token.invariant.0 c.if-tokens-n-2.true

pub put_token-requires-in-End : goal.put_token-requires-in-End
put_token-requires-in-End c =
    rw c.eof.ensures (c.if-tokens-n-2.false, omega arith, end_bounds c.args.script.now c.loop-token.lexer.pos c.loop-token.invariant.0.inside (sym (rw c.loop-token.invariant.1 at c.in-End.ensures)), omega arith)

pub returns-in-End : goal.returns-in-End
returns-in-End c = stops_end c.loop-token.invariant.0 (sym (rw c.loop-token.invariant.1 at c.in-End.ensures)) c.if-tokens-n-2.false (rw c.eof.ensures at c.put_token-in-End.ensures)
