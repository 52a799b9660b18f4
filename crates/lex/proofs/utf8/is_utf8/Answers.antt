-- `is_utf8` meets its contract: the ASCII bytes in front, then a character a turn.
-- Assumes nothing.
use mathlib.Core.Path.{◌∙◌, sym}
use native.Mathlib.Omega.{arith}
use borrow.Author.Rules.{rules}
use Rattle.lex.proofs.Characters.{is_ascii, ascii-front, lead_asks, lead_two, char_single, char_invalid, char_whole, char_cut, char_end}
use Rattle.lex.proofs.utf8.is_utf8.Goals as goal

pub loop-i-init : goal.loop-i-init
loop-i-init c = ascii-front c.args.bytes.now _ (c.count_run-i.ensures.run is_ascii (λ b r e. search rules))

pub returns-then-not-completes : goal.returns-then-not-completes
returns-then-not-completes c =
    char_cut c.args.bytes.now _ _ c.loop-i.invariant.1 c.loop-i-test.true _ _ _ (lead_two _ (sym c.is_between.ensures ∙ c.if-is_between.true))
    (sym c.if-not-completes.true ∙ c.completes.ensures.result_value)

pub loop-i-preserved-then-is_between : goal.loop-i-preserved-then-is_between
loop-i-preserved-then-is_between c =
    let inside = c.completes.ensures.more_in_bounds c.if-not-completes.false in (
      omega arith,
      char_whole c.args.bytes.now _ _ c.loop-i.invariant.1 c.loop-i-test.true _ _ _ (lead_two _ (sym c.is_between.ensures ∙ c.if-is_between.true))
          (sym c.if-not-completes.false ∙ c.completes.ensures.result_value),
    )

pub loop-i-preserved-in-Boundary : goal.loop-i-preserved-in-Boundary
loop-i-preserved-in-Boundary c = (search rules, char_single c.args.bytes.now _ _ c.loop-i.invariant.1 c.loop-i-test.true (sym c.after_lead.ensures ∙ c.in-Boundary.is))

pub completes-requires-in-Expecting : goal.completes-requires-in-Expecting
completes-requires-in-Expecting c = lead_asks _ _ _ _ (sym c.after_lead.ensures ∙ c.in-Expecting.is)

pub returns-then-not-completes-2 : goal.returns-then-not-completes-2
returns-then-not-completes-2 c =
    char_cut c.args.bytes.now _ _ c.loop-i.invariant.1 c.loop-i-test.true _ _ _ (sym c.after_lead.ensures ∙ c.in-Expecting.is)
    (sym c.if-not-completes-2.true ∙ c.completes-in-Expecting.ensures.result_value)

pub loop-i-preserved : goal.loop-i-preserved
loop-i-preserved c =
    let inside = c.completes-in-Expecting.ensures.more_in_bounds c.if-not-completes-2.false in (
      omega arith,
      char_whole c.args.bytes.now _ _ c.loop-i.invariant.1 c.loop-i-test.true _ _ _ (sym c.after_lead.ensures ∙ c.in-Expecting.is)
          (sym c.if-not-completes-2.false ∙ c.completes-in-Expecting.ensures.result_value),
    )

pub returns-in-Invalid : goal.returns-in-Invalid
returns-in-Invalid c = char_invalid c.args.bytes.now _ _ c.loop-i.invariant.1 c.loop-i-test.true (sym c.after_lead.ensures ∙ c.in-Invalid.is)

pub returns : goal.returns
returns c = char_end c.args.bytes.now _ _ c.loop-i.invariant.1 c.loop-i-test.false
