-- Laws of a table whose entries are made from those before them.
use mathlib.Core.Path.{◌≡◌, refl, sym, ◌∙◌, ap}
use mathlib.Core.Option.{Option, none}
use mathlib.Core.List.{List, [], ◌∷◌, ◌++◌}
use Prim.Native.Nat.{ℕ, zero, suc, ◌<◌, ◌≤◌}
use native.Mathlib.Omega.{arith}
use native.Mathlib.Nat.{eq-or-lt_of_le}
use mathlib.Core.Logic.{⊎_elim}
use lib.ListN.{length, length-append}
use Rattle.ast.specs.Tabulate.{lookup, tabulate, rows, entries_below, entry_at}

lookup_past : {A : Type 0} (xs : List (Option A)) (i : ℕ) → length xs ≤ i → lookup xs i ≡ none
unfolding lookup
lookup_past [] i h = refl
lookup_past (x ∷ xs) zero h = absurd (let z : suc (length xs) ≤ 0 = h in omega arith)
lookup_past (x ∷ xs) (suc i) h = lookup_past xs i (omega arith)

lookup_seam : {A : Type 0} (xs : List (Option A)) (x : Option A) → lookup (xs ++ (x ∷ [])) (length xs) ≡ x
unfolding lookup
lookup_seam [] x = refl
lookup_seam (y ∷ xs) x = lookup_seam xs x

lookup-left : {A : Type 0} (xs ys : List (Option A)) (i : ℕ) → i < length xs → lookup (xs ++ ys) i ≡ lookup xs i
unfolding lookup
lookup-left [] ys i h = absurd (let z : suc i ≤ 0 = h in omega arith)
lookup-left (x ∷ xs) ys zero h = refl
lookup-left (x ∷ xs) ys (suc i) h = lookup-left xs ys i (omega arith)

tabulate-snoc : {R A : Type 0} (f : (ℕ → Option A) → R → Option A) (done : List (Option A)) (xs : List R) (x : R)
    → tabulate f done (xs ++ (x ∷ [])) ≡ tabulate f done xs ++ (f (lookup (tabulate f done xs)) x ∷ [])
unfolding tabulate
tabulate-snoc f done [] x = refl
tabulate-snoc f done (y ∷ xs) x = tabulate-snoc f (done ++ (f (lookup done) y ∷ [])) xs x

module _ {R A : Type 0} (f : (ℕ → Option A) → R → Option A) (g : ℕ → R) where
  entries-grown : (n : ℕ) → tabulate f [] (rows g (suc n)) ≡ tabulate f [] (rows g n) ++ (entry_at f g n ∷ [])
  unfolding rows entry_at entries_below
  entries-grown n = tabulate-snoc f [] (rows g n) (g n)

  tabulate-length : (n : ℕ) → length (tabulate f [] (rows g n)) ≡ n
  unfolding rows tabulate
  tabulate-length zero = refl
  tabulate-length (suc n) = ap length (entries-grown n) ∙ length-append (tabulate f [] (rows g n)) (entry_at f g n ∷ []) ∙ (let e : length (tabulate f [] (rows g n)) ≡ n = tabulate-length n in omega arith)

  pub entries_past : (n i : ℕ) → n ≤ i → entries_below f g n i ≡ none
  unfolding entries_below
  entries_past n i h = lookup_past (tabulate f [] (rows g n)) i (let e : length (tabulate f [] (rows g n)) ≡ n = tabulate-length n in omega arith)

  entries-here : (n i : ℕ) → i ≡ n → entries_below f g (suc n) i ≡ entry_at f g i
  unfolding entries_below
  entries-here n i e =
      let t = tabulate f [] (rows g n) in
      rw e (ap (λ (l : List (Option A)). lookup l n) (entries-grown n) ∙ ap (lookup (t ++ (entry_at f g n ∷ []))) (sym (tabulate-length n)) ∙ lookup_seam t (entry_at f g n))

  entries_kept : (n i : ℕ) → i < n → entries_below f g (suc n) i ≡ entries_below f g n i
  unfolding entries_below
  entries_kept n i l =
      let t = tabulate f [] (rows g n) in
      ap (λ (m : List (Option A)). lookup m i) (entries-grown n) ∙ lookup-left t (entry_at f g n ∷ []) i (let e : length t ≡ n = tabulate-length n in omega arith)

  pub entries_below_lem : (n i : ℕ) → i < n → entries_below f g n i ≡ entry_at f g i
  entries_below_lem zero i h = absurd (let z : suc i ≤ 0 = h in omega arith)
  entries_below_lem (suc n) i h =
      let le : i ≤ n = omega arith in
      ⊎_elim (entries-here n i) (λ (l : i < n). entries_kept n i l ∙ entries_below_lem n i l) (eq-or-lt_of_le le)
