-- `double` meets its contract: what stands behind the digits picks the case of `double_in`.
-- Assumes nothing.
use mathlib.Core.Path.{◌∙◌, sym, ap}
use native.Mathlib.Omega.{arith}
use borrow.Author.Rules.{part_to_end}
use Rattle.lex.specs.Bytes.{is_ident_start, is_digit, is_num_cont}
use Rattle.lex.proofs.Laws.{run_fits}
use Rattle.lex.proofs.Runs.{double_whole, double_field, double_fault}
use Rattle.lex.proofs.double.Goals as goal
use Rattle.lex.proofs.double.Goals.{then-peek-ne46-via-then-peek-ne46, then-peek-ne46-via-else-peek-ne46+then-begins_name}

pub overflow_add-second : goal.overflow_add-second
overflow_add-second c = omega (arith, run_fits is_digit c.args.rest.now _ _ c.requires (rw part_to_end at c.skip_digits.ensures))

pub returns-then-peek-ne46 : goal.returns-then-peek-ne46
returns-then-peek-ne46 c =
    let digits = rw part_to_end at c.skip_digits.ensures in
    elim c.then-peek-ne46.branch [
      | then-peek-ne46-via-then-peek-ne46 w ↦ double_whole c.args.rest.now _ _ digits (λ e. w.if-peek-ne46.true (c.peek.ensures ∙ e))
      | then-peek-ne46-via-else-peek-ne46+then-begins_name w ↦
          let dot = sym c.peek.ensures ∙ w.if-peek-ne46.false in
          let name = ap is_ident_start (sym w.peek-else-peek-ne46.ensures) ∙ sym w.begins_name.ensures ∙ w.if-begins_name.true in
          double_field c.args.rest.now _ _ digits dot name
    ]

pub overflow_add-n : goal.overflow_add-n
overflow_add-n c =
    let second = run_fits is_digit c.args.rest.now _ _ c.requires (rw part_to_end at c.skip_digits.ensures) in
    omega (arith, run_fits is_num_cont c.args.rest.now _ _ second (rw part_to_end at c.skip_num_cont.ensures))

pub returns : goal.returns
returns c =
    let dot = sym c.peek.ensures ∙ c.if-peek-ne46.false in
    let name = ap is_ident_start (sym c.peek-else-peek-ne46.ensures) ∙ sym c.begins_name.ensures ∙ c.if-begins_name.false in
    double_fault c.args.rest.now _ _ (rw part_to_end at c.skip_digits.ensures) dot name _ (omega (arith, (rw part_to_end at c.skip_num_cont.ensures)))
