-- The cycle of calls of types: each function does what its rule does.
use Rattle.std.proofs.Common.{◌<◌, ◌⊎◌, inl, inr, [], sym, refl, ◌∙◌, arith}
use Rattle.lex.specs.Kind.{k_str, k_void, k_option, k_array, k_foreign, k_record}
use Rattle.ast.specs.Layout.{type_cells, token_cells, run_cells}
use Rattle.ast.specs.declared.TypeExpr.TheVariants as T
use Rattle.rules.specs.Combinators.{choose}
use Rattle.rules.specs.Rules.{array_type, option_type, record_type, typed_name, type_by_kind}
use Rattle.parser_state.specs.Represents.{AsLent}
use Rattle.parser_state.specs.Refines.{rules_of, deeper}
use Rattle.parser_state.proofs.Steps.{read, seq, then, enough, fails, stops, stops_then}
use Rattle.parser_state.proofs.Loops.{each-asked}
use Rattle.parser_types.specs.Inner.{inner_type}
use Rattle.parser_types.proofs.TypeKinds.{too_deep, type_at, type-atom, type-none}
use Rattle.std.specs.Prelude.{None}
use Rattle.parser_types.proofs.+types.Goals as goal
use Rattle.parser_types.proofs.+types.Goals.{parse_type-in_default-via-then-this-lt35, parse_type-in_default-via-else-this-lt35+else-this-lt40}

pub inner_type-returns-in_err-open_angle-clause-wherever : goal.inner_type-returns-in_err-open_angle-clause-wherever
unfolding inner_type
inner_type-returns-in_err-open_angle-clause-wherever t c = λ rules make w nodes. fails _ (stops_then _ (c.in_err-open_angle.ensures.wherever nodes None None) refl) refl c.from_residual.ensures tt

pub inner_type-returns-in_err-open_angle-clause-reads : goal.inner_type-returns-in_err-open_angle-clause-reads
inner_type-returns-in_err-open_angle-clause-reads t c = λ rules make w. inner_type-returns-in_err-open_angle-clause-wherever t c rules make w None

pub inner_type-returns-in_err-id-clause-wherever : goal.inner_type-returns-in_err-id-clause-wherever
unfolding inner_type
inner_type-returns-in_err-id-clause-wherever t c = λ rules make w nodes. fails _ (then (c.in_ok-open_angle.ensures.wherever nodes None None) (stops _ (c.in_err-id.ensures.wherever rules nodes) refl)) refl c.from_residual-in_err-id.ensures tt

pub inner_type-returns-in_err-id-clause-reads : goal.inner_type-returns-in_err-id-clause-reads
inner_type-returns-in_err-id-clause-reads t c = λ rules make w. inner_type-returns-in_err-id-clause-wherever t c rules make w None

pub inner_type-returns-in_err-expect-clause-wherever : goal.inner_type-returns-in_err-expect-clause-wherever
unfolding inner_type
inner_type-returns-in_err-expect-clause-wherever t c = λ rules make w nodes. fails _ (then (c.in_ok-open_angle.ensures.wherever nodes None None) (seq _ (c.in_ok-id.ensures.wherever rules nodes) (stops_then _ (c.in_err-expect.ensures.wherever nodes None None) refl))) refl c.from_residual-in_err-expect.ensures tt

pub inner_type-returns-in_err-expect-clause-reads : goal.inner_type-returns-in_err-expect-clause-reads
inner_type-returns-in_err-expect-clause-reads t c = λ rules make w. inner_type-returns-in_err-expect-clause-wherever t c rules make w None

pub inner_type-returns-clause-wherever : goal.inner_type-returns-clause-wherever
unfolding inner_type
inner_type-returns-clause-wherever t c = λ rules make w nodes. enough (then (c.in_ok-open_angle.ensures.wherever nodes None None) (seq _ (c.in_ok-id.ensures.wherever rules nodes) (then (c.in_ok-expect.ensures.wherever nodes None None) (c.push_type.ensures.wherever _ _ (sym (w _)) nodes None)))) tt

pub inner_type-returns-clause-reads : goal.inner_type-returns-clause-reads
inner_type-returns-clause-reads t c = λ rules make w. inner_type-returns-clause-wherever t c rules make w None

pub record_type-returns-in_err-expect-clause-wherever : goal.record_type-returns-in_err-expect-clause-wherever
unfolding record_type
record_type-returns-in_err-expect-clause-wherever t c = λ rules nodes. fails _ (read _ (c.advance.ensures.wherever nodes None None) refl (stops_then _ (c.in_err-expect.ensures.wherever nodes None None) refl)) refl c.from_residual.ensures tt

pub record_type-returns-in_err-expect-clause-reads : goal.record_type-returns-in_err-expect-clause-reads
record_type-returns-in_err-expect-clause-reads t c = λ rules. record_type-returns-in_err-expect-clause-wherever t c rules None

pub record_type-returns-in_err-run-clause-wherever : goal.record_type-returns-in_err-run-clause-wherever
unfolding record_type
record_type-returns-in_err-run-clause-wherever t c = λ rules nodes. fails _ (read _ (c.advance.ensures.wherever nodes None None) refl (then (c.in_ok-expect.ensures.wherever nodes None None) (stops _ (c.in_err-run.ensures.wherever rules nodes) refl))) refl c.from_residual-in_err-run.ensures tt

pub record_type-returns-in_err-run-clause-reads : goal.record_type-returns-in_err-run-clause-reads
record_type-returns-in_err-run-clause-reads t c = λ rules. record_type-returns-in_err-run-clause-wherever t c rules None

pub record_type-returns-clause-wherever : goal.record_type-returns-clause-wherever
unfolding record_type type_cells token_cells run_cells
record_type-returns-clause-wherever t c = λ rules nodes. enough (read _ (c.advance.ensures.wherever nodes None None) refl (then (c.in_ok-expect.ensures.wherever nodes None None) (seq _ (c.in_ok-run.ensures.wherever rules nodes) (c.push_type.ensures.wherever _ _ refl nodes None)))) tt

pub record_type-returns-clause-reads : goal.record_type-returns-clause-reads
record_type-returns-clause-reads t c = λ rules. record_type-returns-clause-wherever t c rules None

pub typed_name-returns-in_err-expect_ident-clause-wherever : goal.typed_name-returns-in_err-expect_ident-clause-wherever
unfolding typed_name
typed_name-returns-in_err-expect_ident-clause-wherever t c = λ rules nodes. fails _ (stops _ (c.in_err-expect_ident.ensures.wherever nodes None None) refl) refl c.from_residual.ensures tt

pub typed_name-returns-in_err-expect_ident-clause-reads : goal.typed_name-returns-in_err-expect_ident-clause-reads
typed_name-returns-in_err-expect_ident-clause-reads t c = λ rules. typed_name-returns-in_err-expect_ident-clause-wherever t c rules None

pub typed_name-returns-in_err-expect-clause-wherever : goal.typed_name-returns-in_err-expect-clause-wherever
unfolding typed_name
typed_name-returns-in_err-expect-clause-wherever t c = λ rules nodes. fails _ (read _ (c.in_ok-expect_ident.ensures.wherever nodes None None) refl (stops_then _ (c.in_err-expect.ensures.wherever nodes None None) refl)) refl c.from_residual-in_err-expect.ensures tt

pub typed_name-returns-in_err-expect-clause-reads : goal.typed_name-returns-in_err-expect-clause-reads
typed_name-returns-in_err-expect-clause-reads t c = λ rules. typed_name-returns-in_err-expect-clause-wherever t c rules None

pub typed_name-returns-in_err-id-clause-wherever : goal.typed_name-returns-in_err-id-clause-wherever
unfolding typed_name
typed_name-returns-in_err-id-clause-wherever t c = λ rules nodes. fails _ (read _ (c.in_ok-expect_ident.ensures.wherever nodes None None) refl (then (c.in_ok-expect.ensures.wherever nodes None None) (stops _ (c.in_err-id.ensures.wherever rules nodes) refl))) refl c.from_residual-in_err-id.ensures tt

pub typed_name-returns-in_err-id-clause-reads : goal.typed_name-returns-in_err-id-clause-reads
typed_name-returns-in_err-id-clause-reads t c = λ rules. typed_name-returns-in_err-id-clause-wherever t c rules None

pub typed_name-returns-clause-wherever : goal.typed_name-returns-clause-wherever
unfolding typed_name
typed_name-returns-clause-wherever t c = λ rules nodes. enough (read _ (c.in_ok-expect_ident.ensures.wherever nodes None None) refl (then (c.in_ok-expect.ensures.wherever nodes None None) (seq _ (c.in_ok-id.ensures.wherever rules nodes) (c.push_named.ensures.wherever _ nodes None)))) tt

pub typed_name-returns-clause-reads : goal.typed_name-returns-clause-reads
typed_name-returns-clause-reads t c = λ rules. typed_name-returns-clause-wherever t c rules None

pub typed_names-list_until-requires-clause-reads : goal.typed_names-list_until-requires-clause-reads
typed_names-list_until-requires-clause-reads t c = (typed_name (deeper (rules_of []) c.args.levels), each-asked AsLent (λ u r v h. h.0 (rules_of []) None))

pub typed_names-returns-clause-wherever : goal.typed_names-returns-clause-wherever
typed_names-returns-clause-wherever t c = λ rules nodes. c.list_until.ensures.wherever AsLent (typed_name (deeper rules c.args.levels)) nodes None (λ u r v h. h.0 rules nodes)

pub typed_names-returns-clause-reads : goal.typed_names-returns-clause-reads
typed_names-returns-clause-reads t c = λ rules. typed_names-returns-clause-wherever t c rules None

pub parse_type-returns-then-levels-eq0-clause-wherever : goal.parse_type-returns-then-levels-eq0-clause-wherever
parse_type-returns-then-levels-eq0-clause-wherever t c = λ rules nodes. too_deep rules _ c.if-levels-eq0.true (c.fail_expecting.ensures.wherever _ nodes None None)

pub parse_type-returns-then-levels-eq0-clause-reads : goal.parse_type-returns-then-levels-eq0-clause-reads
parse_type-returns-then-levels-eq0-clause-reads t c = λ rules. parse_type-returns-then-levels-eq0-clause-wherever t c rules None

pub parse_type-returns-in-42-clause-wherever : goal.parse_type-returns-in-42-clause-wherever
unfolding type_by_kind choose
parse_type-returns-in-42-clause-wherever t c = λ rules nodes. type_at rules _ k_foreign c.if-levels-eq0.false (c.foreign_type.ensures.wherever nodes None) (sym c.kind.ensures ∙ c.in-42.is)

pub parse_type-returns-in-42-clause-reads : goal.parse_type-returns-in-42-clause-reads
parse_type-returns-in-42-clause-reads t c = λ rules. parse_type-returns-in-42-clause-wherever t c rules None

pub parse_type-returns-in-40-clause-wherever : goal.parse_type-returns-in-40-clause-wherever
unfolding type_by_kind choose option_type inner_type type_cells
parse_type-returns-in-40-clause-wherever t c = λ rules nodes. type_at rules _ k_option c.if-levels-eq0.false (c.inner_type.ensures.wherever rules T.Option (λ id. refl) nodes) (sym c.kind.ensures ∙ c.in-40.is)

pub parse_type-returns-in-40-clause-reads : goal.parse_type-returns-in-40-clause-reads
parse_type-returns-in-40-clause-reads t c = λ rules. parse_type-returns-in-40-clause-wherever t c rules None

pub parse_type-returns-in-41-clause-wherever : goal.parse_type-returns-in-41-clause-wherever
unfolding type_by_kind choose array_type inner_type type_cells
parse_type-returns-in-41-clause-wherever t c = λ rules nodes. type_at rules _ k_array c.if-levels-eq0.false (c.inner_type-in-41.ensures.wherever rules T.Array (λ id. refl) nodes) (sym c.kind.ensures ∙ c.in-41.is)

pub parse_type-returns-in-41-clause-reads : goal.parse_type-returns-in-41-clause-reads
parse_type-returns-in-41-clause-reads t c = λ rules. parse_type-returns-in-41-clause-wherever t c rules None

pub parse_type-returns-in-43-clause-wherever : goal.parse_type-returns-in-43-clause-wherever
unfolding type_by_kind choose
parse_type-returns-in-43-clause-wherever t c = λ rules nodes. type_at rules _ k_record c.if-levels-eq0.false (c.record_type.ensures.wherever rules nodes) (sym c.kind.ensures ∙ c.in-43.is)

pub parse_type-returns-in-43-clause-reads : goal.parse_type-returns-in-43-clause-reads
parse_type-returns-in-43-clause-reads t c = λ rules. parse_type-returns-in-43-clause-wherever t c rules None

pub parse_type-returns-in-35-clause-wherever : goal.parse_type-returns-in-35-clause-wherever
parse_type-returns-in-35-clause-wherever t c = λ rules nodes. type-atom rules _ c.if-levels-eq0.false (c.atom_type.ensures.wherever nodes None) c.kind.ensures (omega arith) (omega arith)

pub parse_type-returns-in-35-clause-reads : goal.parse_type-returns-in-35-clause-reads
parse_type-returns-in-35-clause-reads t c = λ rules. parse_type-returns-in-35-clause-wherever t c rules None

pub parse_type-returns-in_default-clause-wherever : goal.parse_type-returns-in_default-clause-wherever
parse_type-returns-in_default-clause-wherever t c =
    let outside : (c.kind.result < k_str) ⊎ (k_void < c.kind.result) = elim c.in_default.branch [
      | parse_type-in_default-via-then-this-lt35 w ↦ inl (omega arith)
      | parse_type-in_default-via-else-this-lt35+else-this-lt40 w ↦ inr (omega arith)
    ] in
    λ rules nodes. type-none rules _ c.if-levels-eq0.false (c.fail_expecting-in_default.ensures.wherever _ nodes None None) c.kind.ensures outside (λ e. omega arith) (λ e. omega arith) (λ e. omega arith) (λ e. omega arith)

pub parse_type-returns-in_default-clause-reads : goal.parse_type-returns-in_default-clause-reads
parse_type-returns-in_default-clause-reads t c = λ rules. parse_type-returns-in_default-clause-wherever t c rules None
