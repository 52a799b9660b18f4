-- `listing::forms::write_form` meets its contract.
use Rattle.text.proofs.EmitLaws.{and_then, writes_by}
use Rattle.listing.specs.Text.{form}
use Rattle.listing.specs.Field.{field_text}
use Rattle.listing.specs.declared.forms.Field.TheVariants as F
use Rattle.listing.proofs.EmitLaws.{done, fails, unlisted_by, unlisted-first, unlisted-then, lists_by, lists-then, next_field, no_field}
use Rattle.listing.proofs.forms.write_form.Goals as goal
use native.Mathlib.Omega.{arith}

pub loop-field-init : goal.loop-field-init
loop-field-init c = λ v r h. h

pub returns-in_err-write_field : goal.returns-in_err-write_field
unfolding form
returns-in_err-write_field c =
    lists-then c.write_byte.ensures (lists-then c.write_text.ensures (c.loop-field.invariant _ _
    (fails c.from_residual.ensures.0 (unlisted_by (next_field (field_text c.args.lists.now) c.args.fields.now c.loop-field.field-index (F.Number 0) (omega arith))
    (unlisted-then c.write_byte-in-loop-field.ensures (unlisted-first c.in_err-write_field.ensures.answers _))))))

pub loop-field-preserved : goal.loop-field-preserved
loop-field-preserved c = λ v r h. c.loop-field.invariant v r
    (lists_by (next_field (field_text c.args.lists.now) c.args.fields.now c.loop-field.field-index (F.Number 0) (omega arith))
    (lists-then (and_then c.write_byte-in-loop-field.ensures c.in_ok-write_field.ensures.answers) h))

pub returns : goal.returns
unfolding form
returns c =
    lists-then c.write_byte.ensures (lists-then c.write_text.ensures (c.loop-field.invariant _ _
    (done (writes_by (no_field (field_text c.args.lists.now) c.args.fields.now c.loop-field.field-index (omega arith)) c.write_byte-2.ensures))))
