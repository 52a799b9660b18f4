-- Cells that are stored and cleared.
-- Assumes nothing.
use mathlib.Core.Path.{◌≡◌, ◌∙◌, ap}
use mathlib.Core.List.{List, [], ◌∷◌, ◌++◌}
use Prim.Native.Nat.{ℕ, suc, ◌+◌, ◌≤◌}
use native.Mathlib.Omega.{arith}
use lib.ListN.{length, take, drop, set, length-append, length-take, length-drop, length-replicate}
use lib.Seq.{sets-eq, take_at}
use Rattle.lex.specs.Cells.{zeros}

-- ---- records

pub four_stores : (xs : List ℕ) (at a b c d : ℕ) → at + 4 ≤ length xs
    → set (set (set (set xs at a) (at + 1) b) (at + 2) c) (at + 3) d ≡ take at xs ++ (a ∷ b ∷ c ∷ d ∷ []) ++ drop (at + 4) xs
four_stores xs at a b c d h =
    let one : at + 1 ≡ suc at = omega arith in
    let two : at + 2 ≡ suc (suc at) = omega arith in
    let three : at + 3 ≡ suc (suc (suc at)) = omega arith in
    rw (one, two, three) (sets-eq (a ∷ b ∷ c ∷ d ∷ []) xs at h)

pub six_stores : (xs : List ℕ) (at a b c d e f : ℕ) → at + 6 ≤ length xs
    → set (set (set (set (set (set xs at a) (at + 1) b) (at + 2) c) (at + 3) d) (at + 4) e) (at + 5) f ≡ take at xs ++ (a ∷ b ∷ c ∷ d ∷ e ∷ f ∷ []) ++ drop (at + 6) xs
six_stores xs at a b c d e f h =
    let one : at + 1 ≡ suc at = omega arith in
    let two : at + 2 ≡ suc (suc at) = omega arith in
    let three : at + 3 ≡ suc (suc (suc at)) = omega arith in
    let four : at + 4 ≡ suc (suc (suc (suc at))) = omega arith in
    let five : at + 5 ≡ suc (suc (suc (suc (suc at)))) = omega arith in
    rw (one, two, three, four, five) (sets-eq (a ∷ b ∷ c ∷ d ∷ e ∷ f ∷ []) xs at h)

-- what stands in front, once a record is stored behind it
pub record Stored (xs xs' cells : List ℕ) (at to : ℕ) : Type 0 where
  pub same : length xs' ≡ length xs
  pub front : take to xs' ≡ take at xs ++ cells

pub stored : {xs' : List ℕ} (xs cells : List ℕ) (at w to : ℕ) → xs' ≡ take at xs ++ cells ++ drop (at + w) xs → length cells ≡ w → at + w ≡ to → to ≤ length xs → Stored xs xs' cells at to
stored xs cells at w to e n k h =
    let fits : at ≤ length xs = omega arith in
    let front : List ℕ = take at xs ++ cells in
    let all : length front ≡ to = omega (arith, length-append (take at xs) cells, length-take at xs) in
    record {
      same = omega (arith, ap length e ∙ length-append front (drop (at + w) xs), length-drop (at + w) xs);
      front = ap (take to) e ∙ take_at front (drop (at + w) xs) to all;
    }

-- ---- clearing

pub zeros-length : (n : ℕ) → length (zeros n) ≡ n
zeros-length n = length-replicate {A = ℕ} n 0
