-- `diagnostics::push_faults` meets its contract.
use Rattle.std.proofs.Common.{arith, ◌∙◌, sym, ap}
use Rattle.lex.specs.Lex.{Occurrence}
use Rattle.diagnostics.specs.Records.{diagnostics, pushed}
use Rattle.diagnostics.proofs.Faults.{pushing_all, counted_none, counted_past, counted_out, counted_on}
use Rattle.diagnostics.proofs.push_faults.Goals.{then-e-eq0-via-then-e-eq0, then-e-eq0-via-else-e-eq0+then-at-e}
use Rattle.diagnostics.proofs.push_faults.Goals as goal

pub returns-then-e-eq0 : goal.returns-then-e-eq0
returns-then-e-eq0 c = elim c.then-e-eq0.branch [
  | then-e-eq0-via-then-e-eq0 w ↦ counted_none c.loop-i.invariant.0 (sym (ap (λ (o : Occurrence). o.diagnostic.number) c.error_at-e.ensures) ∙ w.if-e-eq0.true)
  | then-e-eq0-via-else-e-eq0+then-at-e w ↦
      counted_out
      c.loop-i.invariant.0
      (λ e. w.if-e-eq0.false (ap (λ (o : Occurrence). o.diagnostic.number) c.error_at-e.ensures ∙ e))
      (omega (arith, ap (λ (o : Occurrence). o.after) c.error_at-e.ensures))
]

pub loop-i-preserved : goal.loop-i-preserved
loop-i-preserved c = (
  counted_on
      c.loop-i.invariant.0
      (λ e. c.if-e-eq0.false (ap (λ (o : Occurrence). o.diagnostic.number) c.error_at-e.ensures ∙ e))
      (omega (arith, ap (λ (o : Occurrence). o.after) c.error_at-e.ensures))
      (c.push_diagnostic-count.ensures ∙ ap (λ (o : Occurrence). pushed (diagnostics c.loop-i.diagnostics c.loop-i.count) o.diagnostic) c.error_at-e.ensures),
  omega arith,
)

pub returns : goal.returns
returns c =
    let all = pushing_all c.loop-i.invariant.0.pushing c.max.result (omega arith) (omega arith) in
    (all.0, all.1, c.max.ensures ∙ counted_past c.loop-i.invariant.0 (omega arith) (λ h. omega arith))
