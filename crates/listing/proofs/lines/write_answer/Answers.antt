-- `listing::lines::write_answer` meets its contract.
use Rattle.std.proofs.Common.{sym, ap, ◌∙◌}
use Rattle.std.specs.Prelude.{Result}
use Rattle.ast.specs.declared.Counts.{Counts}
use Rattle.listing.specs.declared.Failure.{Failure}
use Rattle.text.proofs.EmitLaws.{writes_by}
use Rattle.listing.specs.Listing.{held, as_parsed, text_of}
use Rattle.listing.proofs.EmitLaws.{done}
use Rattle.listing.proofs.LineLaws.{failure_is}
use Rattle.listing.proofs.lines.write_answer.Goals as goal

pub returns-in-Err : goal.returns-in-Err
returns-in-Err c =
    let a = held c.args.arrays.now in
    done (writes_by (failure_is c.in-Err.failure a ∙ sym (ap (λ (p : Result Counts Failure). text_of (as_parsed p) a) c.in-Err.is)) c.write_failure.ensures)
