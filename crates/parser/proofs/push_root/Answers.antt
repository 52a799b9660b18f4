-- `parser::push_root` meets its contract.
use Rattle.std.proofs.Common.{arith}
use Rattle.parser.proofs.Roots.{root-written, root-left_out}
use Rattle.parser.proofs.push_root.Goals.{else-at-roots-via-then-at-roots+else-at-lt-MAX_BYTES, else-at-roots-via-else-at-roots}
use Rattle.parser.proofs.push_root.Goals as goal

pub returns-then-at-lt-MAX_BYTES : goal.returns-then-at-lt-MAX_BYTES
returns-then-at-lt-MAX_BYTES c = root-written (omega arith) (omega arith)

pub returns : goal.returns
returns c = root-left_out (λ h k. elim c.else-at-roots.branch [
  | else-at-roots-via-then-at-roots+else-at-lt-MAX_BYTES w ↦ omega arith
  | else-at-roots-via-else-at-roots w ↦ omega arith
])
