-- `tokens::agrees` meets its contract: what is left to compare comes to the same at every turn.
use borrow.Author.Rules.{part_to_end}
use Rattle.std.proofs.Common.{arith, refl, ◌∙◌, ◌+◌, ◌*◌}
use Rattle.std.proofs.lemmas.Bool.{not_from_true, not_from_false}
use Rattle.lex.proofs.Steps.{cut_le}
use Rattle.tokens.proofs.Same.{zeros_fold, agreeing_start, part_room, differs_tokens, differs_errors, agreeing_part, differs_behind, agrees_end}
use Rattle.tokens.proofs.agrees.Goals as goal

pub loop-s-init : goal.loop-s-init
loop-s-init c =
    (agreeing_start _ _ _, refl, refl)

pub fill-s-requires : goal.fill-s-requires
fill-s-requires c =
    let g = c.loop-s.invariant.0 in
    (c.requires.2, g.inside, omega (arith, g.tokens, cut_le c.args.script.now))

pub returns-then-not-same_cells : goal.returns-then-not-same_cells
returns-then-not-same_cells c =
    let g = c.loop-s.invariant.0 in
    let st = c.fill-s.ensures in
    let room = part_room g st in
    differs_tokens g st (omega (arith, room)) (omega (arith, room)) c.same_cells.ensures (not_from_false _ c.if-not-same_cells.true)

pub returns-then-not-same_cells-2 : goal.returns-then-not-same_cells-2
returns-then-not-same_cells-2 c =
    let g = c.loop-s.invariant.0 in
    let st = c.fill-s.ensures in
    let room = part_room g st in
    differs_errors g st (omega (arith, room)) (omega (arith, room)) c.same_cells-in-loop-s.ensures (not_from_false _ c.if-not-same_cells-2.true)

pub returns-then-not-is_zero : goal.returns-then-not-is_zero
returns-then-not-is_zero c =
    let g = c.loop-s.invariant.0 in
    let st = c.fill-s.ensures in
    let room = part_room g st in
    differs_behind g st (omega (arith, room)) (omega (arith, room)) c.same_cells.ensures (not_from_true _ c.if-not-same_cells.false) c.same_cells-in-loop-s.ensures (not_from_true _ c.if-not-same_cells-2.false) c.in_default.is (rw part_to_end at c.is_zero.ensures ∙ zeros_fold c.args.tokens.now (4 * (c.loop-s.n + c.fill-s.result.tokens))) (not_from_false _ c.if-not-is_zero.true)

pub returns-in_default : goal.returns-in_default
returns-in_default c =
    let g = c.loop-s.invariant.0 in
    let st = c.fill-s.ensures in
    let room = part_room g st in
    agrees_end g st (omega (arith, room)) (omega (arith, room)) c.same_cells.ensures (not_from_true _ c.if-not-same_cells.false) c.same_cells-in-loop-s.ensures (not_from_true _ c.if-not-same_cells-2.false) c.in_default.is (rw part_to_end at c.is_zero.ensures ∙ zeros_fold c.args.tokens.now (4 * (c.loop-s.n + c.fill-s.result.tokens))) (not_from_true _ c.if-not-is_zero.false) (rw part_to_end at c.is_zero-in_default.ensures ∙ zeros_fold c.args.errors.now (6 * (c.loop-s.m + c.fill-s.result.errors)))

pub loop-s-preserved : goal.loop-s-preserved
loop-s-preserved c =
    let g = c.loop-s.invariant.0 in
    let st = c.fill-s.ensures in
    let room = part_room g st in
    (agreeing_part g st (omega (arith, room)) (omega (arith, room)) c.same_cells.ensures (not_from_true _ c.if-not-same_cells.false) c.same_cells-in-loop-s.ensures (not_from_true _ c.if-not-same_cells-2.false) _ c.in-Some.is, omega (arith, c.fill-s.auto), omega (arith, c.fill-s.auto))
