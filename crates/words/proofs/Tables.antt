-- Tables of texts: which entry a text begins with; tests that antt computes.
-- Assumes nothing.
use mathlib.Core.Path.{◌≡◌}
use mathlib.Core.Bool.{Bool, true, false}
use mathlib.Core.List.{List, [], ◌∷◌}
use Prim.Native.Nat.{ℕ, suc, ◌<◌}
use lib.Dec.{eqb}
use Rattle.lex.proofs.Laws.{table, agree}

-- ---- which entry a text begins with

abbrev pub begins : List ℕ → List ℕ → Bool
begins [] s = true
begins (b ∷ bs) [] = false
begins (b ∷ bs) (c ∷ cs) = elim (eqb b c) [ true ↦ begins bs cs | false ↦ false ]

-- the number of the first entry; an empty one is passed over
abbrev pub which : List (List ℕ) → List ℕ → ℕ
which [] s = 0
which ([] ∷ es) s = suc (which es s)
which ((b ∷ bs) ∷ es) s = elim (begins (b ∷ bs) s) [ true ↦ 0 | false ↦ suc (which es s) ]

-- ---- a test that antt computes, at the entries with a property

pub at_those : {A : Type 0} (p : ℕ → Bool) (f g : ℕ → A) (d : A) (n k : ℕ)
    → table (λ (x : ℕ). elim (p x) as (λ (_ : Bool). A) [ true ↦ f x | false ↦ g x ]) 0 n ≡ table g 0 n → k < n → p k ≡ true → f k ≡ g k
at_those {A} p f g d n k e h q = rw q at (agree (λ (x : ℕ). elim (p x) as (λ (_ : Bool). A) [ true ↦ f x | false ↦ g x ]) g d n k e h)
