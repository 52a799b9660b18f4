-- `listing::lines::write_error` meets its contract.
use Rattle.text.specs.Text.{bytes}
use Rattle.text.proofs.EmitLaws.{writes_by}
use Rattle.listing.proofs.LineLaws.{error_ten, error_other}
use Rattle.listing.proofs.lines.write_error.Goals as goal

pub returns-then-e-eq-TOO_DEEP : goal.returns-then-e-eq-TOO_DEEP
unfolding bytes
returns-then-e-eq-TOO_DEEP c = writes_by (error_ten c.args.e c.if-e-eq-TOO_DEEP.true) c.write_line.ensures

pub returns-else-e-eq-TOO_DEEP : goal.returns-else-e-eq-TOO_DEEP
unfolding bytes
returns-else-e-eq-TOO_DEEP c = writes_by (error_other c.args.e c.if-e-eq-TOO_DEEP.false) c.write_diagnostic.ensures
