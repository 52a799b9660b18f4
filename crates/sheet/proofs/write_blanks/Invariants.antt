-- So many blanks are written.
use Rattle.text.specs.Emit.{Writes}
use Rattle.sheet.specs.Sheet.{blanks}
use Rattle.sheet.proofs.write_blanks.Given as goal

abbrev pub invariant-loop : goal.invariant-loop
invariant-loop l = Writes (blanks l.counter) l.fn.w l.w
