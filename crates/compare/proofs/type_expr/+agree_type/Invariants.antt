-- The members of a record before the place agree. The measure is the bound of the left type.
use Prim.Native.Nat.{◌+◌}
use Rattle.ast.specs.Decode.{run_at}
use Rattle.compare.specs.Shapes.{type_env}
use Rattle.compare.proofs.Listing.{param_lists, Paired}
use Rattle.compare.proofs.type_expr.+agree_type.Given as goal

abbrev pub invariant-loop-at : goal.invariant-loop-at
invariant-loop-at l = Paired param_lists (type_env l.a.script.now l.a.cells.now l.a.types.now l.fn.i.0) (type_env l.b.script.now l.b.cells.now l.b.types.now l.fn.j.0) (run_at l.a.types.now (l.at + 4)) (run_at l.b.types.now (l.at2 + 4)) l.pairs

abbrev pub decreases-loop-at : goal.decreases-loop-at
decreases-loop-at l = l.pairs.left

abbrev pub decreases-agree_type : goal.decreases-agree_type
decreases-agree_type l = l.n
