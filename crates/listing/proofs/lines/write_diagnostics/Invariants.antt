-- `listing::lines::write_diagnostics`: the lines before record `i` are written.
use Rattle.text.specs.Text.{bytes}
use Rattle.text.specs.Emit.{Writes}
use Rattle.listing.specs.Text.{each}
use Rattle.listing.specs.Listing.{numbers_line, diagnostic_at}
use Rattle.listing.proofs.lines.write_diagnostics.Given as goal

abbrev pub invariant-loop-record : goal.invariant-loop-record
invariant-loop-record l = Writes (each (λ i. numbers_line (bytes "diag") (diagnostic_at l.diagnostics i)) l.record-index) l.initial.w l.w
