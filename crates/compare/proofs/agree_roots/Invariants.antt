-- The roots before the place agree.
use Rattle.ast.specs.Answer.{lent_of}
use Rattle.compare.specs.Shapes.{view_of}
use Rattle.compare.proofs.Walk.{run_of}
use Rattle.compare.proofs.Listing.{node_lists, Paired}
use Rattle.compare.proofs.Roots.{root_env}
use Rattle.compare.proofs.agree_roots.Given as goal

abbrev pub invariant-loop-at : goal.invariant-loop-at
invariant-loop-at l = Paired node_lists (root_env (view_of (lent_of l.a)) l.a.counts.nodes l.a.roots.now) (root_env (view_of (lent_of l.b)) l.b.counts.nodes l.b.roots.now) (run_of 0 l.a.counts.roots) (run_of 0 l.b.counts.roots) l.at-iterator
