-- `parser::recovery::synchronize_root` meets its contract.
use Rattle.std.proofs.Common.{◌≡◌, true, refl, sym, ◌∙◌}
use Rattle.parser_state.proofs.Rounds.{round_start, round_again, round_last, again_of, last_of, lighter}
use Rattle.parser.specs.Whole.{synchronizing}
use Rattle.parser.proofs.Synchronize.{skips-both, skips-some, continues, breaks_past, breaks_before}
use Rattle.parser.proofs.recovery.synchronize_root.Goals as goal

pub loop-p-init : goal.loop-p-init
loop-p-init c = (round_start, (refl, refl, refl))

pub advance-requires : goal.advance-requires
advance-requires c = skips-some _ (sym c.skips.ensures ∙ c.loop-p-test.true)

pub loop-p-smaller : goal.loop-p-smaller
loop-p-smaller c = lighter (skips-both _ (sym c.skips.ensures ∙ c.loop-p-test.true)).0 c.advance.ensures.reads

pub loop-p-preserved : goal.loop-p-preserved
loop-p-preserved c =
    let on : _ ≡ true = sym c.skips.ensures ∙ c.loop-p-test.true in
    let kept = c.loop-p.invariant.1 in
    let keeps = c.advance.ensures.keeps in
    (round_again c.loop-p.invariant.0 (skips-both _ on).0 (again_of _ (continues on c.advance.ensures.reads)), (keeps.0 ∙ kept.0, keeps.1 ∙ kept.1, keeps.2 ∙ kept.2))

pub returns-then-kind-eq-CURLY_RIGHT-clause-reads : goal.returns-then-kind-eq-CURLY_RIGHT-clause-reads
unfolding synchronizing
returns-then-kind-eq-CURLY_RIGHT-clause-reads c = round_last c.loop-p.invariant.0 (λ stack. refl) (last_of _ (breaks_past c.advance-then-kind-eq-CURLY_RIGHT.ensures.reads (sym c.kind.ensures ∙ c.if-kind-eq-CURLY_RIGHT.true)))

pub returns-else-kind-eq-CURLY_RIGHT-clause-reads : goal.returns-else-kind-eq-CURLY_RIGHT-clause-reads
unfolding synchronizing
returns-else-kind-eq-CURLY_RIGHT-clause-reads c = round_last c.loop-p.invariant.0 (λ stack. refl) (last_of _ (breaks_before _ (sym c.skips.ensures ∙ c.loop-p-test.false) (λ e. c.if-kind-eq-CURLY_RIGHT.false (c.kind.ensures ∙ e))))
