-- The text of a form's field.
use Rattle.std.specs.Prelude.{List, [], ◌∷◌, ℕ}
use Rattle.text.specs.Text.{number}
use Rattle.listing.specs.declared.forms.Field.{Field}
use Rattle.listing.specs.declared.forms.Field.TheVariants as F
use Rattle.listing.specs.Text.{token, tokens, ids, pairs, branches, extern_fns, tuple}

abbrev pub field_text : List ℕ → Field → List ℕ
field_text cells (F.Number n) = number n
field_text cells (F.Token t) = token t
field_text cells (F.Tokens r) = tokens cells r
field_text cells (F.Ids r) = ids cells r
field_text cells (F.Pairs r) = pairs cells r
field_text cells (F.Branches r) = branches cells r
field_text cells (F.ExternFns r) = extern_fns cells r
field_text cells (F.Default t body) = tuple (token t) (ids cells body ∷ [])
