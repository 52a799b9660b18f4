-- `listing::emit::write_numbers`: what writes the numbers that are left writes all.
use Rattle.std.proofs.Common.{drop, map}
use Rattle.text.specs.Text.{number}
use Rattle.text.specs.Emit.{Writes}
use Rattle.text.specs.declared.Writer.{Writer}
use Rattle.listing.specs.Text.{fields}
use Rattle.listing.proofs.emit.write_numbers.Given as goal

abbrev pub invariant-loop-n : goal.invariant-loop-n
invariant-loop-n l = (v : Writer) → Writes (fields (map number (drop l.n-index l.numbers))) l.w v → Writes (fields (map number l.numbers)) l.initial.w v
