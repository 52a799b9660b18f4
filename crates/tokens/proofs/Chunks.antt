-- A record among those of an array.
use mathlib.Core.Path.{◌≡◌, ◌∙◌, ap}
use mathlib.Core.List.{List}
use Prim.Native.Nat.{ℕ, ◌+◌, ◌*◌, ◌<◌, ◌≤◌, ◌/◌}
use native.Mathlib.Omega.{arith}
use lib.ListN.{length, get_or, take, drop}
use Rattle.std.proofs.Common.{Bor}
use Rattle.std.proofs.lemmas.List.{get_or-drop, get_or-take}
use Rattle.std.specs.Prelude.{Option, Some, None}
use Rattle.std.specs.Simd.{first_chunks}
use Rattle.std.specs.Slice.{IsItemAt}
use Rattle.lex.proofs.Chunks.{chunk_is}

module _ (n i : ℕ) (xs : List ℕ) (ys : List (List ℕ)) (l : length ys ≡ length xs / n) where
  -- none is got past the last whole record
  pub outside : (r : Option (Bor (List ℕ))) → r ≡ None → IsItemAt ys i r → length xs / n ≤ i
  outside None e g = omega (arith, g.3, l)
  outside (Some r) e g = let z : ◌≡◌ {A = ℕ} 0 1 = cc in absurd (omega arith)

  module _ (r : Bor (List ℕ)) (g : IsItemAt ys i (Some r)) where
    pub inside : i < length xs / n
    inside = omega (arith, g.3.0, l)

    -- and else a record's cells
    pub cell_is : ys ≡ first_chunks n (length xs / n) xs → (k j : ℕ) → k < n → n * i + k ≡ j → get_or r.now k 0 ≡ get_or xs j 0
    cell_is e k j h at =
        let c : r.now ≡ take n (drop (n * i) xs) = g.1 ∙ rw e (chunk_is n _ xs i _ inside) in
        ap (λ (c : List ℕ). get_or c k 0) c ∙ get_or-take n _ k 0 h ∙ get_or-drop (n * i) xs k 0 ∙ ap (λ (a : ℕ). get_or xs a 0) at
