-- `parser::parse_collect` meets its contract.
use Rattle.std.proofs.Common.{refl, arith, sym, ap, ◌∙◌}
use Rattle.std.proofs.lemmas.Result.{err_from_is_err_and}
use Rattle.ast.specs.Answer.{refusal_number}
use Rattle.rules.specs.Parse.{parse_collect}
use Rattle.rules.specs.Rules.{stage_one}
use Rattle.rules.specs.Promise.{arrays_of}
use Rattle.parser.proofs.Promised.{some_number, unrefused, handed_on, parse-refused, accepted, is_parsed, tables_are, begins, enough_of}
use Rattle.parser.proofs.parse_collect.Goals as goal

pub returns-in_err-map_err : goal.returns-in_err-map_err
returns-in_err-map_err c =
    let given = handed_on c.refusal.result c.in_err-map_err.field-0.0 c.in_err-map_err.ensures.cases in
    let out = err_from_is_err_and c.from_residual.result c.from_residual.ensures.1 in
    rw (out.1, out.2, given.2) (parse-refused _ _ _ _ _ _ (sym (ap refusal_number given.1) ∙ c.refusal.ensures) (some_number given.0))

pub read_cut_collect-requires : goal.read_cut_collect-requires
read_cut_collect-requires c =
    let args = c.args in
    let ok = accepted (parse_collect stage_one) args.script.now args.tokens.now args.errors.now (arrays_of args.nodes.now args.types.now args.lists.now args.roots.now args.diagnostics.now) 0 (unrefused c.refusal.result c.in_ok-map_err.ensures.variant c.refusal.ensures) refl in
    let tables = tables_are _ _ _ _ _ ok c.cut.ensures (omega (arith, c.cut.auto.tokens)) (omega (arith, c.cut.auto.errors)) in
    (begins _ _ _ _ _ ok _ tables.0, tables.1, (enough_of _ _ _ _ _ ok).diagnostics)

pub returns : goal.returns
returns c = is_parsed _ _ _ _ _ (accepted _ _ _ _ _ 0 (unrefused c.refusal.result c.in_ok-map_err.ensures.variant c.refusal.ensures) refl) c.cut.ensures c.read_cut_collect.ensures
