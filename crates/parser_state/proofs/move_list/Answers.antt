-- `parser_state::move_list` meets its contract.
use Rattle.std.proofs.Common.{arith, length-set}
use Rattle.parser_state.proofs.Cells.{list_turn}
use Rattle.parser_state.proofs.move_list.Goals as goal

pub loop-i-preserved : goal.loop-i-preserved
loop-i-preserved c =
    let args = c.args in
    let loop = c.loop-i in
    (simp length-set (omega arith), list_turn args.part.now loop.part args.n args.scratch loop.i (omega arith) (omega arith) c.loop-i-test.true loop.invariant.0 loop.invariant.1)
