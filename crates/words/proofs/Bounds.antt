-- A table of texts in one array, one behind the other, and where each begins.
-- Assumes nothing.
use mathlib.Core.Path.{◌≡◌, refl, ◌∙◌, ap}
use mathlib.Core.List.{List, [], ◌∷◌, ◌++◌, flatten, append_assoc}
use Prim.Native.Nat.{ℕ, zero, suc, ◌+◌, ◌-◌, ◌<◌, ◌≤◌}
use native.Mathlib.Nat.{le_of_suc-le-suc, not-suc-le-zero}
use native.Mathlib.Numerals.{add-one}
use native.Mathlib.Omega.{arith}
use lib.ListN.{length, get_or, take, drop, length-append}
use lib.Seq.{take-append_seam, drop-append_seam}

-- where each entry begins, from `n` on; behind them where the last one ends
abbrev pub bounds : ℕ → List (List ℕ) → List ℕ
bounds n [] = n ∷ []
bounds n (e ∷ es) = n ∷ bounds (n + length e) es

bounds_first : (n : ℕ) (es : List (List ℕ)) → get_or (bounds n es) 0 0 ≡ n
bounds_first n [] = refl
bounds_first n (e ∷ es) = refl

-- an entry stands in `cells` between the bounds `i` and `j`
pub record Entry (starts cells : List ℕ) (i j : ℕ) (entry : List ℕ) : Type 0 where
  pub ordered : get_or starts i 0 ≤ get_or starts j 0
  pub inside : get_or starts j 0 ≤ length cells
  pub here : take (get_or starts j 0 - get_or starts i 0) (drop (get_or starts i 0) cells) ≡ entry

behind : (p : List ℕ) (es : List (List ℕ)) (k : ℕ) → k < length es → Entry (bounds (length p) es) (p ++ flatten es) k (suc k) (get_or es k [])
unfolding flatten
behind p [] k h = absurd (not-suc-le-zero h)
behind p (e ∷ es) zero h =
    let next : get_or (bounds (length p + length e) es) 0 0 ≡ length p + length e = bounds_first (length p + length e) es in
    let size : length (p ++ (e ++ flatten es)) ≡ length p + (length e + length (flatten es)) = length-append p (e ++ flatten es) ∙ ap (λ (n : ℕ). length p + n) (length-append e (flatten es)) in
    let width : get_or (bounds (length p + length e) es) 0 0 - length p ≡ length e = omega arith in
    record {
      ordered = omega arith;
      inside = omega arith;
      here = ap (λ (n : ℕ). take n (drop (length p) (p ++ (e ++ flatten es)))) width ∙ ap (take (length e)) (drop-append_seam p (e ++ flatten es)) ∙ take-append_seam e (flatten es);
    }
behind p (e ∷ es) (suc k) h =
    moved (length-append p e) (append_assoc p e (flatten es)) (behind (p ++ e) es k (le_of_suc-le-suc h))
  where
    moved : {n : ℕ} {cells : List ℕ} → length (p ++ e) ≡ n → (p ++ e) ++ flatten es ≡ cells
        → Entry (bounds (length (p ++ e)) es) ((p ++ e) ++ flatten es) k (suc k) (get_or es k [])
        → Entry (length p ∷ bounds n es) cells (suc k) (suc (suc k)) (get_or es k [])
    moved a b r =
        let s : Entry (length p ∷ bounds (length (p ++ e)) es) ((p ++ e) ++ flatten es) (suc k) (suc (suc k)) (get_or es k []) = record { ordered = r.ordered; inside = r.inside; here = r.here } in
        rw (a, b) at s

pub entry_at : (es : List (List ℕ)) (k : ℕ) → k < length es → Entry (bounds 0 es) (flatten es) k (k + 1) (get_or es k [])
entry_at es k h = rw add-one (behind [] es k h)
