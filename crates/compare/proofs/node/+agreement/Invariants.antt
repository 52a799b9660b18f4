-- What was compared before the place agrees.
-- The measure is eight times the bound or the node's number, and the function's rank.
use Rattle.std.specs.Prelude.{ℕ, ◌<◌, ◌*◌, ◌+◌, get_or}
use Rattle.ast.specs.Decode.{run_at}
use Rattle.compare.specs.Shapes.{seen, env_below}
use Rattle.compare.specs.Orders.{FieldAgrees}
use Rattle.compare.specs.declared.node.Part.TheVariants.{Nothing}
use Rattle.compare.proofs.Listing.{case_lists, node_lists, Paired, Before}
use Rattle.compare.proofs.Last.{lists}
use Rattle.compare.proofs.node.+agreement.Given as goal

abbrev pub invariant-agree_cases-loop-at : goal.invariant-agree_cases-loop-at
invariant-agree_cases-loop-at l = Paired case_lists (env_below (seen l.a) l.fn.i) (env_below (seen l.b) l.fn.j) l.fn.r l.fn.r2 l.at-iterator

abbrev pub invariant-agree_last-loop-at : goal.invariant-agree_last-loop-at
invariant-agree_last-loop-at l = Before (lists l.named) (env_below (seen l.a) l.fn.i) (env_below (seen l.b) l.fn.j) (run_at l.a.nodes.now (16 * l.fn.i + l.o)) (run_at l.b.nodes.now (16 * l.fn.j + l.o)) l.last l.last2 l.at-iterator

abbrev pub invariant-agree_nodes-loop-at : goal.invariant-agree_nodes-loop-at
invariant-agree_nodes-loop-at l = Paired node_lists (env_below (seen l.a) l.fn.i) (env_below (seen l.b) l.fn.j) l.fn.r l.fn.r2 l.at-iterator

abbrev pub invariant-agree_parts-loop-part : goal.invariant-agree_parts-loop-part
invariant-agree_parts-loop-part l = (y : ℕ) → y < l.part-index → FieldAgrees (env_below (seen l.a) l.fn.i) (env_below (seen l.b) l.fn.j) l.a.nodes.now (16 * l.fn.i) l.b.nodes.now (16 * l.fn.j) (get_or l.part-items y Nothing)

abbrev pub decreases-agree_cases : goal.decreases-agree_cases
decreases-agree_cases l = 8 * l.i + 2

abbrev pub decreases-agree_last : goal.decreases-agree_last
decreases-agree_last l = 8 * l.i + 1

abbrev pub decreases-agree_node : goal.decreases-agree_node
decreases-agree_node l = 8 * l.n

abbrev pub decreases-agree_nodes : goal.decreases-agree_nodes
decreases-agree_nodes l = 8 * l.i + 1

abbrev pub decreases-agree_part : goal.decreases-agree_part
decreases-agree_part l = 8 * l.i + 3

abbrev pub decreases-agree_parts : goal.decreases-agree_parts
decreases-agree_parts l = 8 * l.i + 4
