-- `completes` meets its contract: past the end `peek` answers 0, which is in no range, so that the
-- tests tell what `state_after` does.
-- Assumes nothing.
use mathlib.Core.Path.{◌∙◌, sym, ap}
use Prim.Native.Nat.{◌+◌}
use native.Mathlib.Omega.{arith}
use Rattle.lex.specs.Bytes.{between}
use Rattle.lex.proofs.Bits.{below, outside, within, from_low}
use Rattle.lex.proofs.Characters.{first_out, first-last, second_out, second_last, third_last, three}
use Rattle.lex.proofs.Laws.{false-true, nonzero_inside}
use Rattle.lex.proofs.utf8.completes.Goals as goal

pub returns-then-b-low : goal.returns-then-b-low
returns-then-b-low c = record {
  result_value = first_out c.args.bytes.now c.args.at _ _ _ c.requires.2 c.requires.0 (below _ _ _ (rw c.peek-b.ensures at c.if-b-low.true));
  more_in_bounds = false-true;
}

pub returns-then-high-b : goal.returns-then-high-b
returns-then-high-b c = record {
  result_value = first_out c.args.bytes.now c.args.at _ _ _ c.requires.2 c.requires.0 (outside _ _ _ (rw c.peek-b.ensures at c.if-high-b.true));
  more_in_bounds = false-true;
}

pub returns-then-more-eq1 : goal.returns-then-more-eq1
returns-then-more-eq1 c =
    let low = rw c.peek-b.ensures at c.if-b-low.false in
    record {
      result_value = first-last c.args.bytes.now c.args.at _ _ _ c.requires.2 (within _ _ _ low (rw c.peek-b.ensures at c.if-high-b.false)) c.if-more-eq1.true;
      more_in_bounds = λ e. omega (arith, nonzero_inside c.args.bytes.now c.args.at (omega arith));
    }

pub returns-then-not-is_between : goal.returns-then-not-is_between
returns-then-not-is_between c =
    let first = within _ _ _ (rw c.peek-b.ensures at c.if-b-low.false) (rw c.peek-b.ensures at c.if-high-b.false) in
    let second = ap (between 0x80 0xbf) (sym c.peek.ensures) ∙ sym c.is_between.ensures ∙ c.if-not-is_between.true in
    record {
      result_value = second_out c.args.bytes.now c.args.at _ _ _ c.requires.2 first (omega (arith, c.if-more-eq1.false)) c.requires.1 second;
      more_in_bounds = false-true;
    }

pub returns-then-more-eq2 : goal.returns-then-more-eq2
returns-then-more-eq2 c =
    let first = within _ _ _ (rw c.peek-b.ensures at c.if-b-low.false) (rw c.peek-b.ensures at c.if-high-b.false) in
    let second = ap (between 0x80 0xbf) (sym c.peek.ensures) ∙ sym c.is_between.ensures ∙ c.if-not-is_between.false in
    record {
      result_value = sym second ∙ second_last c.args.bytes.now c.args.at _ _ _ c.requires.2 first c.if-more-eq2.true;
      more_in_bounds = λ e. omega (arith, nonzero_inside c.args.bytes.now (c.args.at + 1) (omega (arith, from_low _ _ _ second)));
    }

pub returns : goal.returns
returns c =
    let first = within _ _ _ (rw c.peek-b.ensures at c.if-b-low.false) (rw c.peek-b.ensures at c.if-high-b.false) in
    let second = ap (between 0x80 0xbf) (sym c.peek.ensures) ∙ sym c.is_between.ensures ∙ c.if-not-is_between.false in
    let third = c.is_between-2.ensures ∙ ap (between 0x80 0xbf) c.peek-2.ensures in
    record {
      result_value = third ∙ third_last c.args.bytes.now c.args.at _ _ _ c.requires.2 first (three _ c.requires.0 c.requires.1 c.if-more-eq1.false c.if-more-eq2.false) second;
      more_in_bounds = λ e. omega (arith, nonzero_inside c.args.bytes.now (c.args.at + 2) (omega (arith, from_low _ _ _ (sym third ∙ e))));
    }
