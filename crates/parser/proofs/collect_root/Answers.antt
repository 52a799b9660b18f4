-- `parser::collect_root` meets its contract.
use Rattle.std.proofs.Common.{refl, ◌∙◌}
use Rattle.parser_state.proofs.Steps.{true≢false, represents_going, failed-fails, fails_as}
use Rattle.parser.proofs.Collect.{collect_turn, gathered_root, gathers_on}
use Rattle.parser.proofs.Roots.{root_there}
use Rattle.parser.proofs.collect_root.Goals as goal

pub returns-in-Ok : goal.returns-in-Ok
returns-in-Ok c =
    let read = c.in-Ok.ensures in
    record {
      turn = λ g m room all h z. collect_turn _ g m c.requires h read (λ a m₁ e k. gathered_root g a m₁ e room h z read k (root_there c.push_root-members.ensures)) (λ e m₁ k. absurd (true≢false refl (failed-fails k)));
      same = read.same;
    }

pub returns-in-Err : goal.returns-in-Err
returns-in-Err c =
    let read = c.in-Err.ensures in
    record {
      turn = λ g m room all h z. collect_turn {id = record { 0 = 0 }} _ g m c.requires h (fails_as read refl) (λ a m₁ e k. absurd (true≢false (represents_going k) refl)) (λ e m₁ k. c.recover.ensures.turn _ _ g e m₁ room all k (gathers_on z read.monotone));
      same = c.recover.ensures.same ∙ read.same;
    }
