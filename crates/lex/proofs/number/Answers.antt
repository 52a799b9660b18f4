-- `number` meets its contract: what stands behind the digits picks the case of `number`.
-- Assumes nothing.
use mathlib.Core.Path.{◌∙◌, sym, ap}
use Rattle.lex.specs.Bytes.{is_ident_start}
use Rattle.lex.proofs.Runs.{number-whole, number-field, number_double}
use Rattle.lex.proofs.number.Goals as goal
use Rattle.lex.proofs.number.Goals.{then-peek-ne46-via-then-peek-ne46, then-peek-ne46-via-else-peek-ne46+then-begins_name}

pub returns-then-peek-ne46 : goal.returns-then-peek-ne46
returns-then-peek-ne46 c = elim c.then-peek-ne46.branch [
  | then-peek-ne46-via-then-peek-ne46 w ↦ number-whole c.args.rest.now _ c.skip_digits-first.ensures (λ e. w.if-peek-ne46.true (c.peek.ensures ∙ e))
  | then-peek-ne46-via-else-peek-ne46+then-begins_name w ↦
      let dot = sym c.peek.ensures ∙ w.if-peek-ne46.false in
      let name = ap is_ident_start (sym w.peek-else-peek-ne46.ensures) ∙ sym w.begins_name.ensures ∙ w.if-begins_name.true in
      number-field c.args.rest.now _ c.skip_digits-first.ensures dot name
]

pub returns : goal.returns
returns c =
    let dot = sym c.peek.ensures ∙ c.if-peek-ne46.false in
    let name = ap is_ident_start (sym c.peek-else-peek-ne46.ensures) ∙ sym c.begins_name.ensures ∙ c.if-begins_name.false in
    c.double.ensures ∙ number_double c.args.rest.now _ c.skip_digits-first.ensures dot name
