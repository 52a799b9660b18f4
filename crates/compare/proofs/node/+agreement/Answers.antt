-- The functions of `compare::node` that call one another meet their contracts.
use mathlib.Core.Path.{◌∙◌, sym, refl, ap}
use native.Mathlib.Omega.{arith}
use Rattle.rules.specs.Shape.{w, words, word_in, params, param_in, fns, fn_in}
use Rattle.compare.specs.Shapes.{seen, env_below}
use Rattle.compare.specs.Parts.{PartAgrees, part_of}
use Rattle.compare.specs.Orders.{sort}
use Rattle.compare.proofs.Agree.{decides_no, decides_not, decides_by, decides_yes}
use Rattle.compare.proofs.Walk.{pair_agree, pair_parts, formed_agree, formed_parts, unformed_left, unformed_right}
use Rattle.compare.proofs.Listing.{case_lists, node_lists, not-in_step, paired, next, differs, over, taken, next-before, differs-before, last-pair}
use Rattle.compare.proofs.Nodes.{last-nothing, last-node, node_past_left, node_past_right, node-zero_left, node-zero_right, other_node_kind, parts_differ, by_last, node-kind_bound, nothing_agrees}
use Rattle.compare.proofs.Last.{lists, width_is, member_agree, member-parts, last-list}
use Rattle.compare.proofs.Orders.{as_field, ended, five}
use Rattle.compare.proofs.node.+agreement.Goals as goal

pub agree_cases-returns-in_default : goal.agree_cases-returns-in_default
agree_cases-returns-in_default t c = not-in_step case_lists refl c.in_default.ensures

pub agree_cases-loop-at-init : goal.agree_cases-loop-at-init
agree_cases-loop-at-init t c = paired case_lists refl c.in-Some.ensures c.into_iter-at-iterator.ensures.into_iter_gives

pub agree_cases-returns-then-not-formed_at : goal.agree_cases-returns-then-not-formed_at
unfolding w
agree_cases-returns-then-not-formed_at t c = differs case_lists _ _ c.next.new.self c.in-Some-2.ensures.steps c.loop-at.invariant (unformed_left _ _ _ _ _ _ (sym c.formed_at.ensures ∙ c.if-not-formed_at.true))

pub agree_cases-returns-then-not-formed_at-2 : goal.agree_cases-returns-then-not-formed_at-2
unfolding w
agree_cases-returns-then-not-formed_at-2 t c = differs case_lists _ _ c.next.new.self c.in-Some-2.ensures.steps c.loop-at.invariant (unformed_right _ _ _ _ _ _ (sym c.formed_at-in-loop-at.ensures ∙ c.if-not-formed_at-2.true))

pub agree_cases-returns-then-not-agree_node : goal.agree_cases-returns-then-not-agree_node
unfolding w
agree_cases-returns-then-not-agree_node t c =
    let f = sym c.formed_at.ensures ∙ c.if-not-formed_at.false in
    let g = sym c.formed_at-in-loop-at.ensures ∙ c.if-not-formed_at-2.false in
    let q = rw (c.cell.ensures, c.cell-in-loop-at.ensures) at c.agree_node.ensures in
    differs case_lists _ _ c.next.new.self c.in-Some-2.ensures.steps c.loop-at.invariant (λ b. decides_not _ c.if-not-agree_node.true q (pair_parts _ _ _ _ (formed_parts _ _ _ _ _ _ f g b)).0)

pub agree_cases-returns-then-not-agree_nodes : goal.agree_cases-returns-then-not-agree_nodes
unfolding w
agree_cases-returns-then-not-agree_nodes t c =
    let f = sym c.formed_at.ensures ∙ c.if-not-formed_at.false in
    let g = sym c.formed_at-in-loop-at.ensures ∙ c.if-not-formed_at-2.false in
    let p = rw (c.run_at.ensures, c.run_at-in-loop-at.ensures) at c.agree_nodes.ensures in
    differs case_lists _ _ c.next.new.self c.in-Some-2.ensures.steps c.loop-at.invariant (λ b. decides_not _ c.if-not-agree_nodes.true p (pair_parts _ _ _ _ (formed_parts _ _ _ _ _ _ f g b)).1)

pub agree_cases-loop-at-preserved : goal.agree_cases-loop-at-preserved
unfolding w
agree_cases-loop-at-preserved t c =
    let f = sym c.formed_at.ensures ∙ c.if-not-formed_at.false in
    let g = sym c.formed_at-in-loop-at.ensures ∙ c.if-not-formed_at-2.false in
    let q = rw (c.cell.ensures, c.cell-in-loop-at.ensures) at c.agree_node.ensures in
    let p = rw (c.run_at.ensures, c.run_at-in-loop-at.ensures) at c.agree_nodes.ensures in
    next case_lists _ _ c.next.new.self c.in-Some-2.ensures.steps c.loop-at.invariant (formed_agree _ _ _ _ _ _ f g (pair_agree (q.holds c.if-not-agree_node.false) (p.holds c.if-not-agree_nodes.false)))

pub agree_cases-returns : goal.agree_cases-returns
agree_cases-returns t c = over case_lists c.loop-at.invariant c.in-None.ensures.steps.0

pub agree_last-returns-in-None : goal.agree_last-returns-in-None
agree_last-returns-in-None t c = last-nothing _ _ _ _ _ _ _ c.in-None.ensures

pub agree_last-returns-in-Some-Node : goal.agree_last-returns-in-Some-Node
agree_last-returns-in-Some-Node t c =
    let f = rw c.in-Some-Node.field-0-is at c.in-Some-Node.ensures in
    last-node _ _ _ _ _ _ _ f.0 (rw (c.cell.ensures, c.cell-in-Some-Node.ensures, ← f.1) at c.agree_node.ensures)

pub agree_last-returns-in_default : goal.agree_last-returns-in_default
agree_last-returns-in_default t c = last-list _ _ _ _ _ _ c.args.order c.in-Some-Nodes.o c.in-Some-Nodes.named c.in-Some-Nodes.field-0-is c.in-Some-Nodes.ensures c.runs_at.ensures.0 c.runs_at.ensures.1 (not-in_step (lists c.in-Some-Nodes.named) (c.member_cells-width.ensures ∙ width_is c.in-Some-Nodes.named) c.in_default.ensures)

pub agree_last-returns-in_default-take_last : goal.agree_last-returns-in_default-take_last
agree_last-returns-in_default-take_last t c =
    let a = rw (c.runs_at.ensures.0, c.runs_at.ensures.1) at c.in-Some.ensures in
    last-list _ _ _ _ _ _ c.args.order c.in-Some-Nodes.o c.in-Some-Nodes.named c.in-Some-Nodes.field-0-is c.in-Some-Nodes.ensures refl refl (over (lists c.in-Some-Nodes.named) (paired (lists c.in-Some-Nodes.named) (c.member_cells-width.ensures ∙ width_is c.in-Some-Nodes.named) a refl) c.in_default-take_last.ensures.0)

pub agree_last-loop-at-init : goal.agree_last-loop-at-init
agree_last-loop-at-init t c =
    let a = rw (c.runs_at.ensures.0, c.runs_at.ensures.1) at c.in-Some.ensures in
    rw c.into_iter-at-iterator.ensures.into_iter_gives (taken (lists c.in-Some-Nodes.named) _ _ c.take_last.new.self (paired (lists c.in-Some-Nodes.named) (c.member_cells-width.ensures ∙ width_is c.in-Some-Nodes.named) a refl) c.in-Some-take_last.ensures)

pub agree_last-returns-then-not-agree_name : goal.agree_last-returns-then-not-agree_name
unfolding w
agree_last-returns-then-not-agree_name t c =
    let e = env_below (seen c.args.a.now) c.args.i in
    let e2 = env_below (seen c.args.b.now) c.args.j in
    last-list _ _ _ _ _ _ c.args.order c.in-Some-Nodes.o c.in-Some-Nodes.named c.in-Some-Nodes.field-0-is c.in-Some-Nodes.ensures refl refl (differs-before (lists c.in-Some-Nodes.named) _ _ c.next.new.self c.in-Some-2.ensures.steps c.loop-at.invariant (λ b. decides_not _ c.if-not-agree_name.true c.agree_name.ensures (member-parts c.in-Some-Nodes.named e e2 _ _ c.member_cells-width.ensures b).0))

pub agree_last-returns-then-not-agree_node : goal.agree_last-returns-then-not-agree_node
agree_last-returns-then-not-agree_node t c =
    let e = env_below (seen c.args.a.now) c.args.i in
    let e2 = env_below (seen c.args.b.now) c.args.j in
    let d = rw (c.cell-in-loop-at.ensures, c.cell-in-loop-at-2.ensures) at c.agree_node-in-loop-at.ensures in
    last-list _ _ _ _ _ _ c.args.order c.in-Some-Nodes.o c.in-Some-Nodes.named c.in-Some-Nodes.field-0-is c.in-Some-Nodes.ensures refl refl (differs-before (lists c.in-Some-Nodes.named) _ _ c.next.new.self c.in-Some-2.ensures.steps c.loop-at.invariant (λ b. decides_not _ c.if-not-agree_node.true d (member-parts c.in-Some-Nodes.named e e2 _ _ c.member_cells-width.ensures b).1))

pub agree_last-loop-at-preserved : goal.agree_last-loop-at-preserved
unfolding w
agree_last-loop-at-preserved t c =
    let e = env_below (seen c.args.a.now) c.args.i in
    let e2 = env_below (seen c.args.b.now) c.args.j in
    let d = rw (c.cell-in-loop-at.ensures, c.cell-in-loop-at-2.ensures) at c.agree_node-in-loop-at.ensures in
    next-before (lists c.in-Some-Nodes.named) _ _ c.next.new.self c.in-Some-2.ensures.steps c.loop-at.invariant (member_agree c.in-Some-Nodes.named e e2 _ _ c.member_cells-width.ensures (c.agree_name.ensures.holds c.if-not-agree_name.false) (d.holds c.if-not-agree_node.false))

pub agree_last-returns-then-not-agree_name-2 : goal.agree_last-returns-then-not-agree_name-2
unfolding w
agree_last-returns-then-not-agree_name-2 t c =
    let e = env_below (seen c.args.a.now) c.args.i in
    let e2 = env_below (seen c.args.b.now) c.args.j in
    last-list _ _ _ _ _ _ c.args.order c.in-Some-Nodes.o c.in-Some-Nodes.named c.in-Some-Nodes.field-0-is c.in-Some-Nodes.ensures refl refl (last-pair (lists c.in-Some-Nodes.named) c.loop-at.invariant c.in-None-2.ensures.steps.0 (decides_no (λ b. decides_not _ c.if-not-agree_name-2.true c.agree_name-in-Some-Nodes.ensures (member-parts c.in-Some-Nodes.named e e2 _ _ c.member_cells-width.ensures b).0)))

pub agree_last-returns-else-not-agree_name-2 : goal.agree_last-returns-else-not-agree_name-2
unfolding w
agree_last-returns-else-not-agree_name-2 t c =
    let e = env_below (seen c.args.a.now) c.args.i in
    let e2 = env_below (seen c.args.b.now) c.args.j in
    let d = rw (c.cell-in-Some-Nodes.ensures, c.cell-in-Some-Nodes-2.ensures) at c.agree_node-in-Some-Nodes.ensures in
    last-list _ _ _ _ _ _ c.args.order c.in-Some-Nodes.o c.in-Some-Nodes.named c.in-Some-Nodes.field-0-is c.in-Some-Nodes.ensures refl refl (last-pair (lists c.in-Some-Nodes.named) c.loop-at.invariant c.in-None-2.ensures.steps.0 (decides_by (member_agree c.in-Some-Nodes.named e e2 _ _ c.member_cells-width.ensures (c.agree_name-in-Some-Nodes.ensures.holds c.if-not-agree_name-2.false)) (λ b. (member-parts c.in-Some-Nodes.named e e2 _ _ c.member_cells-width.ensures b).1) d))

pub agree_node-returns-then-n-i : goal.agree_node-returns-then-n-i
agree_node-returns-then-n-i t c = node_past_left _ _ _ _ _ _ c.if-n-i.true

pub agree_node-returns-then-m-j : goal.agree_node-returns-then-m-j
agree_node-returns-then-m-j t c = node_past_right _ _ _ _ _ _ c.if-m-j.true

pub agree_node-returns-in_default : goal.agree_node-returns-in_default
agree_node-returns-in_default t c = node-zero_left _ _ _ _ _ _ c.if-n-i.false c.in_default.ensures

pub agree_node-returns-in_default-kind_at : goal.agree_node-returns-in_default-kind_at
agree_node-returns-in_default-kind_at t c = node-zero_right _ _ _ _ _ _ c.if-m-j.false c.in_default-kind_at.ensures

pub agree_node-returns-then-kind-kind2 : goal.agree_node-returns-then-kind-kind2
agree_node-returns-then-kind-kind2 t c = other_node_kind _ _ _ _ _ _ c.if-n-i.false c.if-m-j.false c.in-Some.ensures.0 c.in-Some-kind_at.ensures.0 c.if-kind-kind2.true

pub agree_node-order_of-order-requires : goal.agree_node-order_of-order-requires
agree_node-order_of-order-requires t c = (c.in-Some.ensures.1, node-kind_bound _ _ c.in-Some.ensures.0)

pub agree_node-returns-then-not-agree_parts : goal.agree_node-returns-then-not-agree_parts
agree_node-returns-then-not-agree_parts t c = parts_differ _ _ _ _ _ _ c.if-n-i.false c.if-m-j.false c.in-Some.ensures.0 c.in-Some-kind_at.ensures.0 c.if-kind-kind2.false c.in-Some.ensures.1 c.order_of-order.ensures (decides_not _ c.if-not-agree_parts.true c.agree_parts.ensures)

pub agree_node-returns : goal.agree_node-returns
agree_node-returns t c = by_last _ _ _ _ _ _ c.if-n-i.false c.if-m-j.false c.in-Some.ensures.0 c.in-Some-kind_at.ensures.0 c.if-kind-kind2.false c.in-Some.ensures.1 c.order_of-order.ensures (c.agree_parts.ensures.holds c.if-not-agree_parts.false) c.agree_last.ensures

pub agree_nodes-returns-in_default : goal.agree_nodes-returns-in_default
agree_nodes-returns-in_default t c = not-in_step node_lists refl c.in_default.ensures

pub agree_nodes-loop-at-init : goal.agree_nodes-loop-at-init
agree_nodes-loop-at-init t c = paired node_lists refl c.in-Some.ensures c.into_iter-at-iterator.ensures.into_iter_gives

pub agree_nodes-returns-then-not-agree_node : goal.agree_nodes-returns-then-not-agree_node
agree_nodes-returns-then-not-agree_node t c = differs node_lists _ _ c.next.new.self c.in-Some-2.ensures.steps c.loop-at.invariant (decides_not _ c.if-not-agree_node.true (rw (c.cell.ensures, c.cell-in-loop-at.ensures) at c.agree_node.ensures))

pub agree_nodes-loop-at-preserved : goal.agree_nodes-loop-at-preserved
agree_nodes-loop-at-preserved t c =
    let d = rw (c.cell.ensures, c.cell-in-loop-at.ensures) at c.agree_node.ensures in
    next node_lists _ _ c.next.new.self c.in-Some-2.ensures.steps c.loop-at.invariant (d.holds c.if-not-agree_node.false)

pub agree_nodes-returns : goal.agree_nodes-returns
agree_nodes-returns t c = over node_lists c.loop-at.invariant c.in-None.ensures.steps.0

pub agree_part-returns-in-Nothing : goal.agree_part-returns-in-Nothing
unfolding part_of
agree_part-returns-in-Nothing t c = rw c.in-Nothing.is (decides_yes (nothing_agrees _ _ _ _ _ _))

pub agree_part-returns-in-Token : goal.agree_part-returns-in-Token
unfolding part_of PartAgrees w
agree_part-returns-in-Token t c = rw c.in-Token.is c.agree_token_at.ensures

pub agree_part-returns-in-Tokens : goal.agree_part-returns-in-Tokens
unfolding part_of PartAgrees words word_in w
agree_part-returns-in-Tokens t c = rw c.in-Tokens.is (rw (c.runs_at.ensures.0, c.runs_at.ensures.1) at c.agree_words.ensures)

pub agree_part-returns-in-Params : goal.agree_part-returns-in-Params
unfolding part_of PartAgrees params param_in word_in w
agree_part-returns-in-Params t c = rw c.in-Params.is (rw (c.runs_at-in-Params.ensures.0, c.runs_at-in-Params.ensures.1) at c.agree_params.ensures)

pub agree_part-returns-in-Type : goal.agree_part-returns-in-Type
unfolding part_of PartAgrees
agree_part-returns-in-Type t c = rw c.in-Type.is (rw (c.cell.ensures, c.cell-in-Type.ensures) at c.agree_type.ensures)

pub agree_part-returns-in-Fns : goal.agree_part-returns-in-Fns
unfolding part_of PartAgrees fns fn_in words params param_in word_in w
agree_part-returns-in-Fns t c = rw c.in-Fns.is (rw (c.runs_at-in-Fns.ensures.0, c.runs_at-in-Fns.ensures.1) at c.agree_fns.ensures)

pub agree_part-returns-in-Nodes : goal.agree_part-returns-in-Nodes
unfolding part_of PartAgrees
agree_part-returns-in-Nodes t c = rw c.in-Nodes.is (rw (c.runs_at-in-Nodes.ensures.0, c.runs_at-in-Nodes.ensures.1) at c.agree_nodes.ensures)

pub agree_part-returns-in-Cases : goal.agree_part-returns-in-Cases
unfolding part_of PartAgrees
agree_part-returns-in-Cases t c = rw c.in-Cases.is (rw (c.runs_at-in-Cases.ensures.0, c.runs_at-in-Cases.ensures.1) at c.agree_cases.ensures)

pub agree_part-returns-in-Node : goal.agree_part-returns-in-Node
unfolding part_of PartAgrees
agree_part-returns-in-Node t c = rw c.in-Node.is (rw (c.cell-in-Node.ensures, c.cell-in-Node-2.ensures) at c.agree_node.ensures)

pub agree_parts-returns-then-not-agree_part : goal.agree_parts-returns-then-not-agree_part
agree_parts-returns-then-not-agree_part t c = decides_no (λ q. decides_not _ c.if-not-agree_part.true c.agree_part.ensures (as_field _ _ _ _ _ _ c.args.order c.loop-part.part-index _ (c.first-part-items.ensures c.loop-part.part-index (omega arith)) (q c.loop-part.part-index (omega arith))))

pub agree_parts-returns : goal.agree_parts-returns
agree_parts-returns t c = decides_yes (five _ _ _ _ _ _ c.args.order c.first-part-items.result c.first-part-items.ensures (λ y l. c.loop-part.invariant y (omega arith)))

pub agree_parts-returns-in-Nothing : goal.agree_parts-returns-in-Nothing
agree_parts-returns-in-Nothing t c = decides_yes (ended _ _ _ _ _ _ c.args.order c.first-part-items.result c.first-part-items.ensures c.loop-part.part-index (omega arith) (sym (c.first-part-items.ensures c.loop-part.part-index (omega arith)).0 ∙ ap sort c.in-Nothing.is) c.loop-part.invariant)
