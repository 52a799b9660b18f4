-- `listing::lines::write_records`: the lines before `i` are written.
use Rattle.std.proofs.Common.{ℕ, List, [], ◌∷◌}
use Rattle.text.specs.Text.{number}
use Rattle.text.specs.Emit.{Writes}
use Rattle.listing.specs.Text.{each}
use Rattle.listing.specs.Listing.{line}
use Rattle.listing.specs.Lists.{ListsEach}
use Rattle.listing.proofs.lines.write_records.Given as goal

abbrev pub invariant-loop-i : goal.invariant-loop-i
invariant-loop-i g l = (text : ℕ → List ℕ) → ListsEach (goal.F-post g l.write_record) l.n text
    → Writes (each (λ i. line l.name (number i ∷ text i ∷ [])) l.i) l.initial.w l.w
