-- `listing::forms::write_kind` meets its contract.
use Rattle.std.proofs.Common.{◌∙◌, rules}
use Rattle.text.proofs.EmitLaws.{writes_by}
use Rattle.listing.proofs.EmitLaws.{done, fails, kind_none, kind_named, unlisted, unlisted_by}
use Rattle.listing.proofs.forms.write_kind.Goals as goal

pub returns-in_err-name : goal.returns-in_err-name
returns-in_err-name c = fails c.from_residual.ensures.0 (unlisted_by (kind_none c.args.kind (search rules)) unlisted)

pub returns : goal.returns
returns c = done (writes_by (c.as_bytes.ensures.value ∙ search rules ∙ kind_named c.args.kind (search rules)) c.write_text.ensures)
