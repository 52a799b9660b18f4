-- `parser::read` meets its contract.
use Rattle.std.proofs.Common.{refl, ◌∙◌, sym, ap}
use Rattle.std.proofs.lemmas.Result.{err_from_is_err_and}
use Rattle.ast.specs.Answer.{refusal_number}
use Rattle.rules.specs.Parse.{parse}
use Rattle.rules.specs.Rules.{stage_one}
use Rattle.rules.specs.Promise.{arrays_of}
use Rattle.tokens.proofs.Whole.{is_cut_tables}
use Rattle.parser.proofs.Promised.{some_number, unrefused, handed_on, read_turned_away, read-accepted, accepted, is_read_lem, begins}
use Rattle.parser.proofs.read.Goals as goal

pub returns-in_err-map_err : goal.returns-in_err-map_err
returns-in_err-map_err c =
    let given = handed_on c.not_read.result c.in_err-map_err.field-0.0 c.in_err-map_err.ensures.cases in
    let out = err_from_is_err_and c.from_residual.result c.from_residual.ensures.1 in
    rw (out.1, out.2, given.2) (read_turned_away _ _ _ _ _ _ (sym (ap refusal_number given.1) ∙ c.not_read.ensures) (some_number given.0))

pub read_cut-requires : goal.read_cut-requires
read_cut-requires c =
    let args = c.args in
    let lent = arrays_of args.nodes.now args.types.now args.lists.now args.roots.now args.diagnostics.now in
    let read = read-accepted (parse stage_one) args.script.now args.tokens.now args.errors.now lent 0 (unrefused c.not_read.result c.in_ok-map_err.ensures.variant c.not_read.ensures) refl in
    let ok = accepted (parse stage_one) args.script.now args.tokens.now args.errors.now lent 0 read.number refl in
    let tables = is_cut_tables args.script.now args.tokens.now args.errors.now read.cut in
    begins _ _ _ _ _ ok _ tables.tokens

pub returns : goal.returns
returns c =
    let args = c.args in
    let lent = arrays_of args.nodes.now args.types.now args.lists.now args.roots.now args.diagnostics.now in
    let read = read-accepted (parse stage_one) args.script.now args.tokens.now args.errors.now lent 0 (unrefused c.not_read.result c.in_ok-map_err.ensures.variant c.not_read.ensures) refl in
    is_read_lem _ _ _ _ _ (accepted _ _ _ _ _ 0 read.number refl) read.cut ∙ c.read_cut.ensures
