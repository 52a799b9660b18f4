-- A table whose entries are made from those before them, and what stands at a place of it.
use Rattle.std.proofs.Math.Option.{Option, none}
use Rattle.std.specs.Prelude.{List, [], ◌∷◌, ◌++◌, ℕ, zero, suc}

-- what stands at a place of a table
unfoldable pub lookup : {A : Type 0} → List (Option A) → ℕ → Option A
lookup [] i = none
lookup (x ∷ xs) zero = x
lookup (x ∷ xs) (suc i) = lookup xs i

-- a table grows from left to right, each entry made from those before it
unfoldable pub tabulate : {R A : Type 0} → ((ℕ → Option A) → R → Option A) → List (Option A) → List R → List (Option A)
tabulate f done [] = done
tabulate f done (x ∷ xs) = tabulate f (done ++ (f (lookup done) x ∷ [])) xs

-- the first `n` of numbered rows
unfoldable pub rows : {R : Type 0} → (ℕ → R) → ℕ → List R
rows g zero = []
rows g (suc n) = rows g n ++ (g n ∷ [])

module _ {R A : Type 0} (f : (ℕ → Option A) → R → Option A) (g : ℕ → R) where
  -- what the rows before `n` give
  unfoldable pub entries_below : ℕ → ℕ → Option A
  entries_below n = lookup (tabulate f [] (rows g n))

  -- what row `i` gives, by those before it
  unfoldable pub entry_at : ℕ → Option A
  entry_at i = f (entries_below i) (g i)
