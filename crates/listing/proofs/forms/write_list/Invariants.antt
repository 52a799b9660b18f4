-- `listing::forms::write_list`: the members before `i` are written.
use Rattle.std.proofs.Common.{ℕ, List, ◌+◌, ◌*◌, ◌++◌}
use Rattle.text.specs.Emit.{Writes}
use Rattle.listing.specs.Text.{gap, each}
use Rattle.listing.specs.Lists.{ListsEach}
use Rattle.listing.proofs.forms.write_list.Given as goal

abbrev pub invariant-loop-i : goal.invariant-loop-i
invariant-loop-i g l = (member : ℕ → List ℕ) → ListsEach (goal.F-post g l.write_member) 1099511627776 member
    → Writes (each (λ k. gap k ++ member (l.start + l.width * k)) l.i) l.initial.w l.w
