-- `parser_state::Parser::members_until` meets its contract.
use Rattle.std.specs.Prelude.{Ok}
use Rattle.std.proofs.Common.{sym, refl, ◌∙◌}
use Rattle.parser_state.specs.Members.{members_until}
use Rattle.parser_state.proofs.Steps.{as_kept, collected_then, fails, stops}
use Rattle.parser_state.proofs.Loops.{midway_start, midway_turn, members_end, falls, members_stop}
use Rattle.std.specs.Prelude.{None}
use Rattle.parser_state.proofs.Parser.members_until.Goals as goal

pub loop-member-init : goal.loop-member-init
loop-member-init g c = ((λ kept item nodes types each. midway_start), (λ each. refl), (λ each. refl))

pub loop-member-smaller : goal.loop-member-smaller
loop-member-smaller g c = falls _ (sym c.member_follows.ensures ∙ c.loop-member-test.true) (c.requires.reads.1 _ _ _ c.in_ok-member.ensures)

pub loop-member-preserved : goal.loop-member-preserved
loop-member-preserved g c =
    let follows = sym c.member_follows.ensures ∙ c.loop-member-test.true in
    let so_far = c.loop-member.invariant in (
      (λ kept item nodes types each. midway_turn (so_far.0 kept item nodes types each) follows (each _ (Ok tt) _ c.in_ok-member.ensures) refl),
      (λ each. each _ (Ok tt) _ c.in_ok-member.ensures ∙ so_far.1 each),
      (λ each. each _ (Ok tt) _ c.in_ok-member.ensures ∙ so_far.2 each),
    )

pub returns-in_err-member-clause-wherever : goal.returns-in_err-member-clause-wherever
unfolding members_until
returns-in_err-member-clause-wherever g c =
    λ kept item nodes types each. fails _ (stops _ (members_stop (c.loop-member.invariant.0 kept item nodes types each) (sym c.member_follows.ensures ∙ c.loop-member-test.true) (each _ _ _ c.in_err-member.ensures) refl) refl) refl c.from_residual.ensures tt

pub returns-in_err-member-clause-reads : goal.returns-in_err-member-clause-reads
returns-in_err-member-clause-reads g c = λ kept item each. returns-in_err-member-clause-wherever g c kept item None None each

pub returns-in_err-expect-clause-wherever : goal.returns-in_err-expect-clause-wherever
unfolding members_until
returns-in_err-expect-clause-wherever g c =
    λ kept item nodes types each. fails _ (collected_then (members_end (c.loop-member.invariant.0 kept item nodes types each) (sym c.member_follows.ensures ∙ c.loop-member-test.false)) (as_kept kept (c.in_err-expect.ensures.wherever nodes types None))) refl c.from_residual-in_err-expect.ensures tt

pub returns-in_err-expect-clause-reads : goal.returns-in_err-expect-clause-reads
returns-in_err-expect-clause-reads g c = λ kept item each. returns-in_err-expect-clause-wherever g c kept item None None each

pub returns-clause-wherever : goal.returns-clause-wherever
unfolding members_until
returns-clause-wherever g c = λ kept item nodes types each. collected_then (members_end (c.loop-member.invariant.0 kept item nodes types each) (sym c.member_follows.ensures ∙ c.loop-member-test.false)) (as_kept kept (c.in_ok-expect.ensures.wherever nodes types None))

pub returns-clause-reads : goal.returns-clause-reads
returns-clause-reads g c = λ kept item each. returns-clause-wherever g c kept item None None each
