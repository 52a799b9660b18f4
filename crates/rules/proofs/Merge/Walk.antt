-- Moving list cells by a walk over the records: all cells as node numbers first, then each list
-- that a record holds once more.
use mathlib.Core.Path.{◌≡◌, refl, ap, ap₂, ◌∙◌}
use mathlib.Core.Bool.{Bool, true, false}
use mathlib.Core.List.{List, [], ◌∷◌, flatten}
use Prim.Native.Nat.{ℕ, zero, suc, ◌+◌, ◌-◌, ◌*◌, ◌≤◌, ◌<◌}
use native.Mathlib.Nat.{zero-add, zero-mul, suc-mul}
use native.Mathlib.Omega.{arith}
use lib.Dec.{ltb}
use borrow.Author.Tests.{le-leb, lt-leb, lt-ltb, le-ltb}
use lib.ListN.{length, get_or, replicate, get_or-append}
use lib.Seq.{get_or-append-add}
use Rattle.rules.specs.Merge.{Offsets, Role, node_number, added, Held, roles_of, covers, role_in, moved_cells}

module _ (o : Offsets) (hs : List Held) where
  pub moved_cells-length : (i : ℕ) (cs : List ℕ) → length (moved_cells o hs i cs) ≡ length cs
  unfolding moved_cells
  moved_cells-length i [] = refl
  moved_cells-length i (c ∷ cs) = ap suc (moved_cells-length (suc i) cs)

  -- one cell
  pub moved_cells-at : (i k : ℕ) (cs : List ℕ) → k < length cs → get_or (moved_cells o hs i cs) k 0 ≡ added o (role_in hs (i + k)) + get_or cs k 0
  unfolding moved_cells
  moved_cells-at i k [] h = absurd (omega arith)
  moved_cells-at i zero (c ∷ cs) h = let e : i ≡ i + 0 = omega arith in ap (λ (n : ℕ). added o (role_in hs n) + c) e
  moved_cells-at i (suc k) (c ∷ cs) h = let e : suc i + k ≡ i + suc k = omega arith in moved_cells-at (suc i) k cs (omega arith) ∙ ap (λ (n : ℕ). added o (role_in hs n) + get_or cs k 0) e

-- before any list, every cell is a node number
pub role_none : (i : ℕ) → role_in [] i ≡ node_number
unfolding role_in
role_none i = refl

module _ (h : Held) (hs : List Held) where
  -- the list at hand says what its cells are
  pub role_own : (k : ℕ) → k < length (roles_of h) → role_in (h ∷ hs) (h.run.start + k) ≡ get_or (roles_of h) k node_number
  unfolding role_in covers
  role_own k l =
      let e : h.run.start + k - h.run.start ≡ k = omega arith in
      ap₂ (λ (b : Bool) (n : ℕ). elim (elim b as (λ b'. Bool) [ true ↦ ltb n (length (roles_of h)) | false ↦ false ]) as (λ b'. Role) [ true ↦ get_or (roles_of h) n node_number | false ↦ role_in hs (h.run.start + k) ]) (le-leb h.run.start (h.run.start + k) (omega arith)) e
      ∙ ap (λ (b : Bool). elim b as (λ b'. Role) [ true ↦ get_or (roles_of h) k node_number | false ↦ role_in hs (h.run.start + k) ]) (lt-ltb k (length (roles_of h)) l)

  -- and leaves all others as they were
  pub role_behind : (i : ℕ) → h.run.start + length (roles_of h) ≤ i → role_in (h ∷ hs) i ≡ role_in hs i
  unfolding role_in covers
  role_behind i l =
      ap₂ (λ (b c : Bool). elim (elim b as (λ b'. Bool) [ true ↦ c | false ↦ false ]) as (λ b'. Role) [ true ↦ get_or (roles_of h) (i - h.run.start) node_number | false ↦ role_in hs i ]) (le-leb h.run.start i (omega arith)) (le-ltb (i - h.run.start) (length (roles_of h)) (omega arith))

  pub role_before : (i : ℕ) → i < h.run.start → role_in (h ∷ hs) i ≡ role_in hs i
  unfolding role_in covers
  role_before i l = ap (λ (b : Bool). elim (elim b as (λ b'. Bool) [ true ↦ ltb (i - h.run.start) (length (roles_of h)) | false ↦ false ]) as (λ b'. Role) [ true ↦ get_or (roles_of h) (i - h.run.start) node_number | false ↦ role_in hs i ]) (lt-leb h.run.start i l)

-- cell `j` of member `k`
pub roles_at : (m : List Role) (n k j : ℕ) → k < n → j < length m → get_or (flatten (replicate n m)) (k * length m + j) node_number ≡ get_or m j node_number
unfolding flatten
roles_at m zero k j h l = absurd (omega arith)
roles_at m (suc n) zero j h l = ap (λ (i : ℕ). get_or (flatten (replicate (suc n) m)) i node_number) (ap (λ (i : ℕ). i + j) (zero-mul (length m)) ∙ zero-add j) ∙ get_or-append m (flatten (replicate n m)) node_number j l
roles_at m (suc n) (suc k) j h l =
    let e : suc k * length m + j ≡ length m + (k * length m + j) = omega (arith, suc-mul k (length m)) in
    ap (λ (i : ℕ). get_or (flatten (replicate (suc n) m)) i node_number) e ∙ get_or-append-add m (flatten (replicate n m)) (k * length m + j) node_number ∙ roles_at m n k j (omega arith) l
