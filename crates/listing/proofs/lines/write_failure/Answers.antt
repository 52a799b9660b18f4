-- `listing::lines::write_failure` meets its contract.
use Rattle.std.proofs.Common.{sym, ap}
use Rattle.text.specs.Text.{bytes}
use Rattle.text.proofs.EmitLaws.{writes_by}
use Rattle.listing.specs.Listing.{failure_line}
use Rattle.listing.proofs.lines.write_failure.Goals as goal

pub returns-in-Script : goal.returns-in-Script
returns-in-Script c = writes_by (sym (ap failure_line c.in-Script.is)) c.write_error.ensures

pub returns-in-Refused : goal.returns-in-Refused
unfolding bytes
returns-in-Refused c = writes_by (sym (ap failure_line c.in-Refused.is)) c.write_line.ensures
