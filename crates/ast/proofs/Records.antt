-- A record among those of an array, and where it lies.
use mathlib.Core.Path.{◌≡◌, ◌∙◌, ap}
use mathlib.Core.List.{List}
use Prim.Native.Nat.{ℕ, ◌+◌, ◌*◌, ◌<◌, ◌/◌}
use native.Mathlib.Omega.{arith}
use lib.ListN.{length}
use borrow.Author.Tests.{le-leb, lt-leb}
use Rattle.std.proofs.Common.{Bor}
use Rattle.std.specs.Prelude.{Option, Some, None, option_copied}
use Rattle.std.specs.Simd.{first_chunks}
use Rattle.std.specs.Slice.{IsItemAt}
use Rattle.lex.proofs.Chunks.{chunk_is, chunk_inside, chunk_outside}
use Rattle.ast.specs.Decode.{record_at}

-- what is got of an array's chunks is a record's cells
pub record_is : (n : ℕ) (xs : List ℕ) (i : ℕ) (ys : List (List ℕ)) → 0 < n → ys ≡ first_chunks n (length xs / n) xs → length ys ≡ length xs / n → (r : Option (Bor (List ℕ))) → IsItemAt ys i r → option_copied r ≡ record_at n xs i
record_is n xs i ys p e l None g = rw (lt-leb (n * i + n) (length xs) (chunk_outside p (omega (arith, g.3, l))))
record_is n xs i ys p e l (Some r) g =
    let h : i < length xs / n = omega (arith, g.3.0, l) in
    rw (le-leb (n * i + n) (length xs) (chunk_inside p h)) (ap (λ (c : List ℕ). Some c) (g.1 ∙ rw e (chunk_is n _ xs i _ h)))
