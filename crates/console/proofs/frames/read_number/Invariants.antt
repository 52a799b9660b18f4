use Rattle.std.proofs.Common.{◌≤◌}
use Rattle.console.proofs.frames.read_number.Given as goal

abbrev pub invariant-loop-digits : goal.invariant-loop-digits
invariant-loop-digits g l = l.value ≤ l.limit
