-- `listing::forms::write_form`: what lists the fields that are left lists all.
use Rattle.std.proofs.Common.{drop, map}
use Rattle.std.specs.Prelude.{Result}
use Rattle.text.specs.declared.Writer.{Writer}
use Rattle.listing.specs.declared.emit.Malformed.{Malformed}
use Rattle.listing.specs.Text.{fields}
use Rattle.listing.specs.Field.{field_text}
use Rattle.listing.specs.Lists.{Lists}
use Rattle.listing.proofs.forms.write_form.Given as goal

abbrev pub invariant-loop-field : goal.invariant-loop-field
invariant-loop-field l = (v : Writer) (r : Result (Unit {0}) Malformed)
    → Lists (fields (map (field_text l.lists) (drop l.field-index l.fields))) l.w v r
    → Lists (fields (map (field_text l.lists) l.fields)) l.initial.w v r
