-- The records of an array, of so many cells each, as the parts that `as_chunks` gives.
use mathlib.Core.Path.{◌≡◌, ◌∙◌, ap}
use mathlib.Core.List.{List}
use Prim.Native.Nat.{ℕ, zero, suc, ◌+◌, ◌*◌, ◌<◌, ◌≤◌, ◌/◌}
use native.Mathlib.Omega.{arith}
use lib.ListN.{get_or, take, drop}
use lib.Seq.{drop-drop}
use Rattle.std.proofs.Math.Nat.{le-div_iff_mul-le, div-lt_iff_lt-mul}
use Rattle.std.specs.Simd.{first_chunks}

-- part `i` is the cells of record `i`
pub chunk_is : {X : Type 0} (n k : ℕ) (xs : List X) (i : ℕ) (d : List X) → i < k → get_or (first_chunks n k xs) i d ≡ take n (drop (n * i) xs)
chunk_is n zero xs i d h = absurd (omega arith)
chunk_is n (suc k) xs zero d h = let e : n * 0 ≡ 0 = omega arith in rw e
chunk_is n (suc k) xs (suc i) d h =
    let e : n * suc i ≡ n + n * i = grind arith in
    rw e (chunk_is n k (drop n xs) i d (omega arith) ∙ ap (take n) (drop-drop _ _ xs))

-- record `i` lies inside where it is among the whole parts
pub chunk_inside : {n k i : ℕ} → 0 < n → i < k / n → n * i + n ≤ k
chunk_inside {n} {k} {i} p h = let l : suc i * n ≤ k = (le-div_iff_mul-le p).0 h in grind arith

pub chunk_outside : {n k i : ℕ} → 0 < n → k / n ≤ i → k < n * i + n
chunk_outside {n} {k} {i} p h = let l : k < suc i * n = (div-lt_iff_lt-mul p).0 (omega arith) in grind arith
