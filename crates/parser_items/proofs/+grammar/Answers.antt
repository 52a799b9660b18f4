-- The functions of the cycle meet their contracts: each step of the code is a step of its rule.
use Rattle.std.proofs.Common.{length, sym, refl, ap, ◌∙◌, arith}
use Rattle.lex.specs.Kind.{k_curly_right, k_import, k_extern, k_let, k_fn}
use Rattle.ast.specs.Layout.{token_cells, run_cells, node_cells}
use Rattle.rules.specs.Combinators.{choose}
use Rattle.rules.specs.Rules.{node_member, parse_prefix, parse_expr, parse_let, parse_fn, parse_body, parse_match, field, record_literal, array_literal, group, unary, call, postfix_step, postfix, binary, infix_step, infixes, stage_one}
use Rattle.parser_state.specs.Represents.{AsLent, reading}
use Rattle.parser_state.specs.Refines.{rules_of, deeper}
use Rattle.parser_state.proofs.Steps.{read, read_at, looks, as_rule, seq, then, done, enough, stops, stops_then, fails_as, fails, refused, at-kind, if_kind-yes, if_kind-no, lists_seq, lists_fail}
use Rattle.parser_state.proofs.Rounds.{round_start, round_start_at, round_again, round_out, again_of, again_fails, loop_stops, lighter, struck_as}
use Rattle.parser_state.proofs.Loops.{member-going, each-asked}
use Rattle.parser_operators.specs.Tests.{operand_class, operand_of}
use Rattle.parser_operators.specs.Matches.{case_cells, match_end, match_node}
use Rattle.parser_operators.proofs.Tables.{power_below, as_is_none}
use Rattle.parser_operators.proofs.Exprs.{postfix_goes, post_out, postfix_brace, post_call, is_cast, infix_sign, infix_on, infix_out}
use Rattle.parser_operators.proofs.Matches.{default_again, condition_again, match_rest_lem, match_end_lem, match_stops}
use Rattle.parser_items.proofs.Levels.{prefix_deep, prefix_by, prefix-expr, expr_deep, expr_by, operand_by, operand-kind, infix_kind, plain_item_by, out_at, again_lighter}
use Rattle.parser_items.proofs.+grammar.Goals as goal

-- ---- items

pub member-returns-then-begins_expr : goal.member-returns-then-begins_expr
member-returns-then-begins_expr t c = prefix_by (rules_of c.args.source.now.script.now) _ c.if-levels-ne0.true (prefix-expr _ (sym c.begins_expr.ensures ∙ c.if-begins_expr.true) c.parse_expr.ensures)

pub parse_prefix-returns-then-levels-eq0 : goal.parse_prefix-returns-then-levels-eq0
parse_prefix-returns-then-levels-eq0 t c = prefix_deep (rules_of c.args.source.now.script.now) _ c.if-levels-eq0.true (c.fail_expecting.ensures.reads _)

pub parse_prefix-returns-then-begins_expr : goal.parse_prefix-returns-then-begins_expr
parse_prefix-returns-then-begins_expr t c = prefix_by (rules_of c.args.source.now.script.now) _ c.if-levels-eq0.false (prefix-expr _ (sym c.begins_expr.ensures ∙ c.if-begins_expr.true) c.parse_expr.ensures)

pub parse_prefix-returns : goal.parse_prefix-returns
unfolding parse_prefix
parse_prefix-returns t c = prefix_by (rules_of c.args.source.now.script.now) _ c.if-levels-eq0.false (enough (then c.collect_docs.ensures.reads c.item.ensures) tt)

pub item-returns-in-27 : goal.item-returns-in-27
unfolding choose
item-returns-in-27 t c = at-kind _ k_import c.parse_import.ensures.reads (sym c.kind.ensures ∙ c.in-27.is)

pub item-returns-in-29 : goal.item-returns-in-29
unfolding choose
item-returns-in-29 t c = at-kind _ k_let c.parse_let.ensures (sym c.kind.ensures ∙ c.in-29.is)

pub item-returns-in-30 : goal.item-returns-in-30
unfolding choose
item-returns-in-30 t c = at-kind _ k_fn c.parse_fn.ensures (sym c.kind.ensures ∙ c.in-30.is)

pub item-returns-in-28 : goal.item-returns-in-28
unfolding choose
item-returns-in-28 t c = at-kind _ k_extern (c.parse_extern.ensures (rules_of c.args.source.now.script.now)) (sym c.kind.ensures ∙ c.in-28.is)

pub item-returns-in_err-require_no_docs-in_default : goal.item-returns-in_err-require_no_docs-in_default
item-returns-in_err-require_no_docs-in_default t c =
    plain_item_by _ (sym c.kind.ensures) (λ e. omega arith) (λ e. omega arith) (λ e. omega arith) (λ e. omega arith)
    (fails _ (stops_then _ (c.in_err-require_no_docs-in_default.ensures.reads _) refl) refl c.from_residual.ensures tt)

pub item-returns-then-kind-eq-MATCH : goal.item-returns-then-kind-eq-MATCH
item-returns-then-kind-eq-MATCH t c =
    plain_item_by _ (sym c.kind.ensures) (λ e. omega arith) (λ e. omega arith) (λ e. omega arith) (λ e. omega arith)
    (enough (then (c.in_ok-require_no_docs-in_default.ensures.reads _) (if_kind-yes _ _ c.parse_match.ensures (sym c.kind-in_default.ensures ∙ c.if-kind-eq-MATCH.true))) tt)

pub item-returns-else-kind-eq-MATCH : goal.item-returns-else-kind-eq-MATCH
item-returns-else-kind-eq-MATCH t c =
    plain_item_by _ (sym c.kind.ensures) (λ e. omega arith) (λ e. omega arith) (λ e. omega arith) (λ e. omega arith)
    (enough (then (c.in_ok-require_no_docs-in_default.ensures.reads _) (if_kind-no _ _ c.parse_expr.ensures (λ e. c.if-kind-eq-MATCH.false (c.kind-in_default.ensures ∙ e)))) tt)

pub parse_let-returns-in_err-expect : goal.parse_let-returns-in_err-expect
unfolding parse_let
parse_let-returns-in_err-expect t c = fails _ (seq _ (c.take_docs-docs.ensures.reads.0 _) (stops_then _ c.in_err-expect.ensures.reads refl)) refl c.from_residual.ensures tt

pub parse_let-returns-in_err-expect_ident : goal.parse_let-returns-in_err-expect_ident
unfolding parse_let
parse_let-returns-in_err-expect_ident t c = fails _ (seq _ (c.take_docs-docs.ensures.reads.0 _) (then c.in_ok-expect.ensures.reads (stops _ c.in_err-expect_ident.ensures.reads refl))) refl c.from_residual-in_err-expect_ident.ensures tt

pub parse_let-returns-in_err-expect-2 : goal.parse_let-returns-in_err-expect-2
unfolding parse_let
parse_let-returns-in_err-expect-2 t c = fails _ (seq _ (c.take_docs-docs.ensures.reads.0 _) (then c.in_ok-expect.ensures.reads (read _ c.in_ok-expect_ident.ensures.reads refl (stops_then _ c.in_err-expect-2.ensures.reads refl)))) refl c.from_residual-in_err-expect-2.ensures tt

pub parse_let-returns-in_err-rhs : goal.parse_let-returns-in_err-rhs
unfolding parse_let
parse_let-returns-in_err-rhs t c = fails _ (seq _ (c.take_docs-docs.ensures.reads.0 _) (then c.in_ok-expect.ensures.reads (read _ c.in_ok-expect_ident.ensures.reads refl (then c.in_ok-expect-2.ensures.reads (stops _ c.in_err-rhs.ensures refl))))) refl c.from_residual-in_err-rhs.ensures tt

pub parse_let-returns : goal.parse_let-returns
unfolding parse_let
parse_let-returns t c = enough (seq _ (c.take_docs-docs.ensures.reads.0 _) (then c.in_ok-expect.ensures.reads (read _ c.in_ok-expect_ident.ensures.reads refl (then c.in_ok-expect-2.ensures.reads (seq _ c.in_ok-rhs.ensures (c.push_let.ensures.reads _)))))) tt

pub parse_fn-returns-in_err-expect_ident : goal.parse_fn-returns-in_err-expect_ident
unfolding parse_fn
parse_fn-returns-in_err-expect_ident t c = fails _ (seq _ (c.take_docs-docs.ensures.reads.0 _) (then c.advance.ensures.reads (stops _ c.in_err-expect_ident.ensures.reads refl))) refl c.from_residual.ensures tt

pub parse_fn-returns-in_err-args : goal.parse_fn-returns-in_err-args
unfolding parse_fn
parse_fn-returns-in_err-args t c = fails _ (seq _ (c.take_docs-docs.ensures.reads.0 _) (then c.advance.ensures.reads (read _ c.in_ok-expect_ident.ensures.reads refl (stops _ (c.in_err-args.ensures.reads (rules_of c.args.source.now.script.now)) refl)))) refl c.from_residual-in_err-args.ensures tt

pub parse_fn-returns-in_err-return_type : goal.parse_fn-returns-in_err-return_type
unfolding parse_fn
parse_fn-returns-in_err-return_type t c = fails _ (seq _ (c.take_docs-docs.ensures.reads.0 _) (then c.advance.ensures.reads (read _ c.in_ok-expect_ident.ensures.reads refl (seq _ (c.in_ok-args.ensures.reads (rules_of c.args.source.now.script.now)) (stops _ (c.in_err-return_type.ensures.reads (rules_of c.args.source.now.script.now)) refl))))) refl c.from_residual-in_err-return_type.ensures tt

pub parse_fn-returns-in_err-body : goal.parse_fn-returns-in_err-body
unfolding parse_fn
parse_fn-returns-in_err-body t c = fails _ (seq _ (c.take_docs-docs.ensures.reads.0 _) (then c.advance.ensures.reads (read _ c.in_ok-expect_ident.ensures.reads refl (seq _ (c.in_ok-args.ensures.reads (rules_of c.args.source.now.script.now)) (seq _ (c.in_ok-return_type.ensures.reads (rules_of c.args.source.now.script.now)) (stops _ c.in_err-body.ensures refl)))))) refl c.from_residual-in_err-body.ensures tt

pub parse_fn-returns : goal.parse_fn-returns
unfolding parse_fn
parse_fn-returns t c =
    enough
    (seq _ (c.take_docs-docs.ensures.reads.0 _)
    (then c.advance.ensures.reads
    (read _ c.in_ok-expect_ident.ensures.reads refl
    (seq _ (c.in_ok-args.ensures.reads (rules_of c.args.source.now.script.now))
    (seq _ (c.in_ok-return_type.ensures.reads (rules_of c.args.source.now.script.now))
    (seq _ c.in_ok-body.ensures
    (c.push_fn.ensures.reads _)))))))
    tt

pub parse_body-returns-in_err-expect : goal.parse_body-returns-in_err-expect
unfolding parse_body
parse_body-returns-in_err-expect t c = fails _ (stops_then _ c.in_err-expect.ensures.reads refl) refl c.from_residual.ensures tt

pub parse_body-returns : goal.parse_body-returns
unfolding parse_body
parse_body-returns t c = enough (then c.in_ok-expect.ensures.reads c.items.ensures) tt

pub items-list_until-returns-in_err-n : goal.items-list_until-returns-in_err-n
unfolding node_member
items-list_until-returns-in_err-n t c = fails _ (stops _ c.in_err-n.ensures refl) refl c.from_residual.ensures tt

pub items-list_until-returns : goal.items-list_until-returns
unfolding node_member
items-list_until-returns t c = enough (seq _ c.in_ok-n.ensures (c.push_cell.ensures.reads _)) tt

pub items-list_until-requires-clause-reads : goal.items-list_until-requires-clause-reads
items-list_until-requires-clause-reads t c = (node_member (deeper (rules_of c.args.source.now.script.now) c.args.levels).prefix, each-asked AsLent (λ u r v h. h))

pub items-returns : goal.items-returns
items-returns t c = c.list_until.ensures.reads AsLent (node_member (deeper (rules_of c.args.source.now.script.now) c.args.levels).prefix) (λ u r v h. h)

-- ---- match

pub parse_match-returns-in_err-expect : goal.parse_match-returns-in_err-expect
unfolding parse_match match_node
parse_match-returns-in_err-expect t c = fails _ (then c.advance.ensures.reads (read_at _ looks refl (stops_then _ c.in_err-expect.ensures.reads refl))) refl c.from_residual.ensures tt

pub parse_match-returns : goal.parse_match-returns
unfolding parse_match match_node
parse_match-returns t c = enough (then c.advance.ensures.reads (read_at _ looks refl (then c.in_ok-expect.ensures.reads (as_rule (match_rest_lem _ _) c.cases.ensures)))) tt

pub cases-loop-p-init : goal.cases-loop-p-init
cases-loop-p-init t c = rw (c.default-so_far.ensures.0, c.default-so_far.ensures.1) (round_start_at (λ R L stack m h. (refl, (refl, omega (arith, h.related.credit.records, ap length h.related.left)))))

pub cases-loop-p-preserved : goal.cases-loop-p-preserved
cases-loop-p-preserved t c = round_again c.loop-p.invariant (member-going (reading c.loop-p.p) k_curly_right (sym c.member_follows.ensures ∙ c.loop-p-test.true)) c.in_ok-so_far.ensures

pub cases-loop-p-smaller : goal.cases-loop-p-smaller
cases-loop-p-smaller t c = again_lighter (member-going (reading c.loop-p.p) k_curly_right (sym c.member_follows.ensures ∙ c.loop-p-test.true)) c.in_ok-so_far.ensures

pub cases-returns-in_err-so_far : goal.cases-returns-in_err-so_far
unfolding match_end
cases-returns-in_err-so_far t c = fails _ (match_stops _ _ _ c.loop-p.invariant (sym c.member_follows.ensures ∙ c.loop-p-test.true) c.in_err-so_far.ensures refl) refl c.from_residual.ensures tt

pub cases-returns-in_err-run : goal.cases-returns-in_err-run
unfolding match_end
cases-returns-in_err-run t c = fails _ (match_end_lem _ _ _ c.loop-p.invariant (sym c.member_follows.ensures ∙ c.loop-p-test.false) refl (lists_fail _ c.in_err-run.ensures.reads refl)) refl c.from_residual-in_err-run.ensures tt

pub cases-returns : goal.cases-returns
unfolding match_end
cases-returns t c = match_end_lem _ _ _ c.loop-p.invariant (sym c.member_follows.ensures ∙ c.loop-p-test.false) refl (lists_seq _ c.in_ok-run.ensures.reads c.match_node.ensures.reads (omega arith) (omega arith))

pub next_case-returns-then-kind-eq-CURLY_LEFT : goal.next_case-returns-then-kind-eq-CURLY_LEFT
next_case-returns-then-kind-eq-CURLY_LEFT t c = default_again _ c.args.so_far.default c.requires refl (sym c.kind.ensures ∙ c.if-kind-eq-CURLY_LEFT.true) c.in_ok-run.ensures

pub next_case-returns-in_err-run : goal.next_case-returns-in_err-run
next_case-returns-in_err-run t c = again_fails _ (default_again _ {run = record { start = 0; len = 0 }} c.args.so_far.default c.requires refl (sym c.kind.ensures ∙ c.if-kind-eq-CURLY_LEFT.true) (fails_as c.in_err-run.ensures refl)) refl c.from_residual.ensures

pub next_case-returns-in_err-condition : goal.next_case-returns-in_err-condition
next_case-returns-in_err-condition t c = again_fails _ (condition_again _ c.args.so_far.default c.requires (λ e. c.if-kind-eq-CURLY_LEFT.false (c.kind.ensures ∙ e)) c.in_err-condition.ensures refl) refl c.from_residual-in_err-condition.ensures

pub next_case-returns : goal.next_case-returns
next_case-returns t c = condition_again _ c.args.so_far.default c.requires (λ e. c.if-kind-eq-CURLY_LEFT.false (c.kind.ensures ∙ e)) c.in_ok-condition.ensures refl

pub condition-returns-in_err-n : goal.condition-returns-in_err-n
unfolding case_cells
condition-returns-in_err-n t c = fails _ (read _ looks refl (stops _ c.in_err-n.ensures refl)) refl c.from_residual.ensures tt

pub condition-returns-in_err-run : goal.condition-returns-in_err-run
unfolding case_cells
condition-returns-in_err-run t c = fails _ (read _ looks refl (seq _ c.in_ok-n.ensures (stops _ c.in_err-run.ensures refl))) refl c.from_residual-in_err-run.ensures tt

pub condition-returns : goal.condition-returns
unfolding case_cells
condition-returns t c = enough (read _ looks refl (seq _ c.in_ok-n.ensures (seq _ c.in_ok-run.ensures (c.push_case.ensures.reads _)))) tt

-- ---- expressions

pub parse_expr-returns-then-levels-eq0 : goal.parse_expr-returns-then-levels-eq0
parse_expr-returns-then-levels-eq0 t c = expr_deep (rules_of c.args.source.now.script.now) _ _ c.if-levels-eq0.true (c.fail_expecting.ensures.reads _)

pub parse_expr-returns-in_err-x : goal.parse_expr-returns-in_err-x
unfolding parse_expr
parse_expr-returns-in_err-x t c = expr_by (rules_of c.args.source.now.script.now) _ _ c.if-levels-eq0.false (fails _ (stops _ c.in_err-x.ensures refl) refl c.from_residual.ensures tt)

pub parse_expr-returns-in_err-y : goal.parse_expr-returns-in_err-y
unfolding parse_expr
parse_expr-returns-in_err-y t c = expr_by (rules_of c.args.source.now.script.now) _ _ c.if-levels-eq0.false (fails _ (seq _ c.in_ok-x.ensures (stops _ c.in_err-y.ensures refl)) refl c.from_residual-in_err-y.ensures tt)

pub parse_expr-returns : goal.parse_expr-returns
unfolding parse_expr
parse_expr-returns t c = expr_by (rules_of c.args.source.now.script.now) _ _ c.if-levels-eq0.false (enough (seq _ c.in_ok-x.ensures (seq _ c.in_ok-y.ensures c.infixes.ensures)) tt)

pub operand-record_literal-requires : goal.operand-record_literal-requires
operand-record_literal-requires t c = (omega arith, operand-kind _ (rw c.in-Some-Record.field-0-is at c.in-Some-Record.ensures ∙ ap operand_class c.kind.ensures) (λ z. omega (arith, z)))

pub operand-returns-in-Some-Record : goal.operand-returns-in-Some-Record
unfolding operand_of choose
operand-returns-in-Some-Record t c = operand_by _ {n = 1} c.record_literal.ensures (rw c.in-Some-Record.field-0-is at c.in-Some-Record.ensures ∙ ap operand_class c.kind.ensures)

pub operand-array_literal-requires : goal.operand-array_literal-requires
operand-array_literal-requires t c = (omega arith, operand-kind _ (rw c.in-Some-Array.field-0-is at c.in-Some-Array.ensures ∙ ap operand_class c.kind.ensures) (λ z. omega (arith, z)))

pub operand-returns-in-Some-Array : goal.operand-returns-in-Some-Array
unfolding operand_of choose
operand-returns-in-Some-Array t c = operand_by _ {n = 2} c.array_literal.ensures (rw c.in-Some-Array.field-0-is at c.in-Some-Array.ensures ∙ ap operand_class c.kind.ensures)

pub operand-atom-requires : goal.operand-atom-requires
operand-atom-requires t c = operand-kind _ (rw c.in-Some-Atom.field-0-is at c.in-Some-Atom.ensures ∙ ap operand_class c.kind.ensures) (λ z. omega (arith, z))

pub operand-returns-in-Some-Atom : goal.operand-returns-in-Some-Atom
unfolding operand_of choose
operand-returns-in-Some-Atom t c = operand_by _ {n = 3} c.atom.ensures.reads (rw c.in-Some-Atom.field-0-is at c.in-Some-Atom.ensures ∙ ap operand_class c.kind.ensures)

pub operand-ident-requires : goal.operand-ident-requires
operand-ident-requires t c = operand-kind _ (rw c.in-Some-Name.field-0-is at c.in-Some-Name.ensures ∙ ap operand_class c.kind.ensures) (λ z. omega (arith, z))

pub operand-returns-in-Some-Name : goal.operand-returns-in-Some-Name
unfolding operand_of choose
operand-returns-in-Some-Name t c = operand_by _ {n = 4} c.ident.ensures.reads (rw c.in-Some-Name.field-0-is at c.in-Some-Name.ensures ∙ ap operand_class c.kind.ensures)

pub operand-group-requires : goal.operand-group-requires
operand-group-requires t c = (omega arith, operand-kind _ (rw c.in-Some-Group.field-0-is at c.in-Some-Group.ensures ∙ ap operand_class c.kind.ensures) (λ z. omega (arith, z)))

pub operand-returns-in-Some-Group : goal.operand-returns-in-Some-Group
unfolding operand_of choose
operand-returns-in-Some-Group t c = operand_by _ {n = 5} c.group.ensures (rw c.in-Some-Group.field-0-is at c.in-Some-Group.ensures ∙ ap operand_class c.kind.ensures)

pub operand-unary-requires : goal.operand-unary-requires
operand-unary-requires t c = (omega arith, operand-kind _ (rw c.in-Some-Sign.field-0-is at c.in-Some-Sign.ensures ∙ ap operand_class c.kind.ensures) (λ z. omega (arith, z)))

pub operand-returns-in-Some-Sign : goal.operand-returns-in-Some-Sign
unfolding operand_of choose
operand-returns-in-Some-Sign t c = operand_by _ {n = 6} c.unary.ensures (rw c.in-Some-Sign.field-0-is at c.in-Some-Sign.ensures ∙ ap operand_class c.kind.ensures)

pub operand-returns-in-None : goal.operand-returns-in-None
unfolding operand_of choose
operand-returns-in-None t c = operand_by _ {n = 0} (refused (c.fail_expecting.ensures.reads _)) (c.in-None.ensures ∙ ap operand_class c.kind.ensures)

pub record_literal-returns-in_err-fields : goal.record_literal-returns-in_err-fields
unfolding record_literal node_cells token_cells run_cells
record_literal-returns-in_err-fields t c = fails _ (read _ c.advance.ensures.reads refl (stops _ c.in_err-fields.ensures refl)) refl c.from_residual.ensures tt

pub record_literal-returns : goal.record_literal-returns
unfolding record_literal node_cells token_cells run_cells
record_literal-returns t c = enough (read _ c.advance.ensures.reads refl (seq _ c.in_ok-fields.ensures (c.push_token_node.ensures.reads _ _ refl))) tt

pub inits-list_until-requires-clause-reads : goal.inits-list_until-requires-clause-reads
inits-list_until-requires-clause-reads t c = (field (deeper (rules_of c.args.source.now.script.now) c.args.levels), each-asked AsLent (λ u r v h. h))

pub inits-returns : goal.inits-returns
inits-returns t c = c.list_until.ensures.reads AsLent (field (deeper (rules_of c.args.source.now.script.now) c.args.levels)) (λ u r v h. h)

pub field-returns-in_err-expect_ident : goal.field-returns-in_err-expect_ident
unfolding field
field-returns-in_err-expect_ident t c = fails _ (stops _ c.in_err-expect_ident.ensures.reads refl) refl c.from_residual.ensures tt

pub field-returns-in_err-expect : goal.field-returns-in_err-expect
unfolding field
field-returns-in_err-expect t c = fails _ (read _ c.in_ok-expect_ident.ensures.reads refl (stops_then _ c.in_err-expect.ensures.reads refl)) refl c.from_residual-in_err-expect.ensures tt

pub field-returns-in_err-id : goal.field-returns-in_err-id
unfolding field
field-returns-in_err-id t c = fails _ (read _ c.in_ok-expect_ident.ensures.reads refl (then c.in_ok-expect.ensures.reads (stops _ c.in_err-id.ensures refl))) refl c.from_residual-in_err-id.ensures tt

pub field-returns : goal.field-returns
unfolding field
field-returns t c = enough (read _ c.in_ok-expect_ident.ensures.reads refl (then c.in_ok-expect.ensures.reads (seq _ c.in_ok-id.ensures (c.push_named.ensures.reads _)))) tt

pub array_literal-returns-in_err-members : goal.array_literal-returns-in_err-members
unfolding array_literal node_cells token_cells run_cells
array_literal-returns-in_err-members t c = fails _ (read _ c.advance.ensures.reads refl (stops _ c.in_err-members.ensures refl)) refl c.from_residual.ensures tt

pub array_literal-returns : goal.array_literal-returns
unfolding array_literal node_cells token_cells run_cells
array_literal-returns t c = enough (read _ c.advance.ensures.reads refl (seq _ c.in_ok-members.ensures (c.push_token_node.ensures.reads _ _ refl))) tt

pub elems-list_until-returns-in_err-n : goal.elems-list_until-returns-in_err-n
unfolding node_member
elems-list_until-returns-in_err-n t c = fails _ (stops _ c.in_err-n.ensures refl) refl c.from_residual.ensures tt

pub elems-list_until-returns : goal.elems-list_until-returns
unfolding node_member
elems-list_until-returns t c = enough (seq _ c.in_ok-n.ensures (c.push_cell.ensures.reads _)) tt

pub elems-list_until-requires-clause-reads : goal.elems-list_until-requires-clause-reads
elems-list_until-requires-clause-reads t c = (node_member ((deeper (rules_of c.args.source.now.script.now) c.args.levels).expr 0), each-asked AsLent (λ u r v h. h))

pub elems-returns : goal.elems-returns
elems-returns t c = c.list_until.ensures.reads AsLent (node_member ((deeper (rules_of c.args.source.now.script.now) c.args.levels).expr 0)) (λ u r v h. h)

pub group-returns-in_err-id : goal.group-returns-in_err-id
unfolding group
group-returns-in_err-id t c = fails _ (then (struck_as c.advance.ensures.reads) (stops _ c.in_err-id.ensures refl)) refl c.from_residual.ensures tt

pub group-returns-in_err-expect : goal.group-returns-in_err-expect
unfolding group
group-returns-in_err-expect t c = fails _ (then (struck_as c.advance.ensures.reads) (seq _ c.in_ok-id.ensures (stops_then _ (struck_as c.in_err-expect.ensures.reads) refl))) refl c.from_residual-in_err-expect.ensures tt

pub group-returns : goal.group-returns
unfolding group
group-returns t c = enough (then (struck_as c.advance.ensures.reads) (seq _ c.in_ok-id.ensures (then (struck_as c.in_ok-expect.ensures.reads) done))) tt

pub unary-returns-in_err-rhs : goal.unary-returns-in_err-rhs
unfolding unary node_cells token_cells
unary-returns-in_err-rhs t c = fails _ (read _ c.advance.ensures.reads refl (stops _ c.in_err-rhs.ensures refl)) refl c.from_residual.ensures tt

pub unary-returns : goal.unary-returns
unfolding unary node_cells token_cells
unary-returns t c = enough (read _ c.advance.ensures.reads refl (seq _ c.in_ok-rhs.ensures (c.push_token_node.ensures.reads _ _ refl))) tt

-- ---- behind an operand

pub postfix-loop-p-init : goal.postfix-loop-p-init
postfix-loop-p-init t c = round_start

pub postfix-loop-p-smaller : goal.postfix-loop-p-smaller
postfix-loop-p-smaller t c = lighter (postfix_goes c.loop-p.p.nodes.now (reading c.loop-p.p) c.loop-p.x (sym c.postfix_follows.ensures ∙ c.loop-p-test.true)) c.in_ok-x.ensures

pub postfix-loop-p-preserved : goal.postfix-loop-p-preserved
postfix-loop-p-preserved t c = round_again c.loop-p.invariant (postfix_goes c.loop-p.p.nodes.now (reading c.loop-p.p) c.loop-p.x (sym c.postfix_follows.ensures ∙ c.loop-p-test.true)) (again_of _ c.in_ok-x.ensures)

pub postfix-returns-in_err-x : goal.postfix-returns-in_err-x
unfolding postfix
postfix-returns-in_err-x t c = fails _ (loop_stops _ c.loop-p.invariant c.in_err-x.ensures refl) refl c.from_residual.ensures tt

pub postfix-returns : goal.postfix-returns
unfolding postfix
postfix-returns t c = round_out c.loop-p.invariant (λ stack. refl) (λ R L stack a m e h. out_at (postfix_step (deeper (rules_of c.args.source.now.script.now) c.args.levels)) e (post_out (deeper (rules_of c.args.source.now.script.now) c.args.levels) c.loop-p.x (sym c.postfix_follows.ensures ∙ c.loop-p-test.false) R L stack m h))

pub postfix_step-call-requires : goal.postfix_step-call-requires
postfix_step-call-requires t c = (omega arith, omega (arith, postfix_brace c.args.p.now.nodes.now (reading c.args.p.now) c.args.lhs c.requires (λ e. c.if-kind-eq-DOT.false (c.kind.ensures ∙ e))))

pub postfix_step-returns-then-kind-eq-DOT : goal.postfix_step-returns-then-kind-eq-DOT
postfix_step-returns-then-kind-eq-DOT t c = if_kind-yes _ _ c.field_access.ensures.reads (sym c.kind.ensures ∙ c.if-kind-eq-DOT.true)

pub postfix_step-returns-else-kind-eq-DOT : goal.postfix_step-returns-else-kind-eq-DOT
postfix_step-returns-else-kind-eq-DOT t c = post_call _ _ c.requires (λ e. c.if-kind-eq-DOT.false (c.kind.ensures ∙ e)) c.call.ensures

pub call-returns-in_err-args : goal.call-returns-in_err-args
unfolding call
call-returns-in_err-args t c = fails _ (then c.advance.ensures.reads (stops _ c.in_err-args.ensures refl)) refl c.from_residual.ensures tt

pub call-returns : goal.call-returns
unfolding call
call-returns t c = enough (then c.advance.ensures.reads (seq _ c.in_ok-args.ensures (seq _ (c.push_call.ensures.reads _) done))) tt

pub infixes-loop-p-init : goal.infixes-loop-p-init
infixes-loop-p-init t c = round_start

pub infixes-loop-p-smaller : goal.infixes-loop-p-smaller
infixes-loop-p-smaller t c = lighter (infix_on c.args.source.now.script.now (reading c.loop-p.p) c.args.least (sym c.infix_follows.ensures ∙ c.loop-p-test.true)) c.in_ok-x.ensures

pub infixes-loop-p-preserved : goal.infixes-loop-p-preserved
infixes-loop-p-preserved t c = round_again c.loop-p.invariant (infix_on c.args.source.now.script.now (reading c.loop-p.p) c.args.least (sym c.infix_follows.ensures ∙ c.loop-p-test.true)) (again_of _ c.in_ok-x.ensures)

pub infixes-returns-in_err-x : goal.infixes-returns-in_err-x
unfolding infixes
infixes-returns-in_err-x t c = fails _ (loop_stops _ c.loop-p.invariant c.in_err-x.ensures refl) refl c.from_residual.ensures tt

pub infixes-returns : goal.infixes-returns
unfolding infixes
infixes-returns t c = round_out c.loop-p.invariant (λ stack. refl) (λ R L stack a m e h. out_at (infix_step (deeper (rules_of c.args.source.now.script.now) c.args.levels) stage_one c.args.source.now.script.now c.args.least) e (infix_out (deeper (rules_of c.args.source.now.script.now) c.args.levels) c.args.source.now.script.now c.args.least c.loop-p.x (sym c.infix_follows.ensures ∙ c.loop-p-test.false) R L stack m h))

pub infix_step-cast-requires : goal.infix_step-cast-requires
infix_step-cast-requires t c = omega (arith, is_cast c.args.source.now.script.now (reading c.args.p.now) c.args.least c.requires (c.in-None.ensures ∙ ap stage_one c.kind.ensures))

pub infix_step-returns-in-None : goal.infix_step-returns-in-None
infix_step-returns-in-None t c = if_kind-yes _ _ (c.cast.ensures (rules_of c.args.source.now.script.now)) (is_cast c.args.source.now.script.now (reading c.args.p.now) c.args.least c.requires (c.in-None.ensures ∙ ap stage_one c.kind.ensures))

pub infix_step-binary-requires : goal.infix_step-binary-requires
infix_step-binary-requires t c = (omega arith, (infix_kind _ (c.in-Some.ensures ∙ ap stage_one c.kind.ensures), power_below _ c.in-Some.ensures))

pub infix_step-returns-in-Some : goal.infix_step-returns-in-Some
infix_step-returns-in-Some t c =
    let power = c.in-Some.ensures ∙ ap stage_one c.kind.ensures in
    infix_sign _ _ _ _ _ c.requires (λ e. as_is_none _ e power) (sym power) c.binary.ensures

pub binary-returns-in_err-rhs : goal.binary-returns-in_err-rhs
unfolding binary node_cells token_cells
binary-returns-in_err-rhs t c = fails _ (read _ c.advance.ensures.reads refl (stops _ c.in_err-rhs.ensures refl)) refl c.from_residual.ensures tt

pub binary-returns : goal.binary-returns
unfolding binary node_cells token_cells
binary-returns t c = enough (read _ c.advance.ensures.reads refl (seq _ c.in_ok-rhs.ensures (seq _ (c.push_token_node.ensures.reads _ _ refl) done))) tt
