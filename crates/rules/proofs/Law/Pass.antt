-- The parents of a tree by one pass over its nodes, each writing its number at its children: for
-- code that fills in or tests parents.
use mathlib.Core.Path.{◌≡◌, refl, sym, ap, ◌∙◌, subst}
use mathlib.Core.Bool.{Bool, true, false}
use mathlib.Core.Option.{Option, none, some}
use mathlib.Core.List.{List, [], ◌∷◌}
use Prim.Native.Nat.{ℕ, zero, suc, ◌+◌, ◌≤◌, ◌<◌}
use lib.Dec.{eqb, eqb-zero-suc, eqb-suc-zero, eqb-suc-suc}
use lib.ListN.{length, length-set, get_or, set}
use native.Mathlib.Omega.{arith}
use Rattle.rules.specs.Tree.{Tree}
use Rattle.rules.specs.Law.{Child, a_node, a_type, children_of, same, times, all_of}
use Rattle.rules.specs.Parents.{is_among, parent_from, parent_of}
use Rattle.ast.specs.declared.Node.{Node}
use Rattle.rules.proofs.Law.Parents.{Split, split, split-times, parts, parts-times, Sole}

-- `k` written at each of the nodes among these children
unfoldable pub mark : ℕ → List Child → List ℕ → List ℕ
mark k [] ps = ps
mark k (a_node i ∷ cs) ps = mark k cs (set ps i k)
mark k (a_type j ∷ cs) ps = mark k cs ps

unfoldable pub mark_in : ℕ → Option (List Child) → List ℕ → List ℕ
mark_in k none ps = ps
mark_in k (some cs) ps = mark k cs ps

-- the nodes one after the other, numbered from `k` on
unfoldable pub pass : List ℕ → ℕ → List Node → List ℕ → List ℕ
pass cells k [] ps = ps
pass cells k (x ∷ xs) ps = pass cells (suc k) xs (mark_in k (children_of cells x) ps)

-- `k` where there is one, else what was there
abbrev pub choice : ℕ → ℕ → ℕ → ℕ
choice zero k p = p
choice (suc n) k p = k

choice_one : (n k p : ℕ) → choice (1 + n) k p ≡ k
choice_one n k p = let e : suc n ≡ 1 + n = omega arith in subst (λ (m : ℕ). choice m k p ≡ k) e refl

choice_zero : (n k p : ℕ) → choice n k p ≡ choice (0 + n) k p
choice_zero n k p = let e : n ≡ 0 + n = omega arith in ap (λ (m : ℕ). choice m k p) e

choice_same : (n k : ℕ) → choice n k k ≡ k
choice_same zero k = refl
choice_same (suc n) k = refl

choice_none : (n k p : ℕ) → n ≡ 0 → choice n k p ≡ p
choice_none n k p e = ap (λ (m : ℕ). choice m k p) e

choice_some : (n k p : ℕ) → 0 < n → choice n k p ≡ k
choice_some zero k p h = absurd (omega arith)
choice_some (suc n) k p h = refl

get_d_set : (ps : List ℕ) (i j k : ℕ) → i < length ps → get_or (set ps j k) i 0 ≡ elim (eqb i j) as (λ b. ℕ) [ true ↦ k | false ↦ get_or ps i 0 ]
get_d_set [] i j k h = absurd (omega arith)
get_d_set (p ∷ ps) zero zero k h = refl
get_d_set (p ∷ ps) zero (suc j) k h = rw (eqb-zero-suc j) refl
get_d_set (p ∷ ps) (suc i) zero k h = rw (eqb-suc-zero i) refl
get_d_set (p ∷ ps) (suc i) (suc j) k h = get_d_set ps i j k (omega arith) ∙ ap (λ (b : Bool). elim b as (λ b'. ℕ) [ true ↦ k | false ↦ get_or ps i 0 ]) (sym (eqb-suc-suc i j))

mark_length : (k : ℕ) (cs : List Child) (ps : List ℕ) → length (mark k cs ps) ≡ length ps
unfolding mark
mark_length k [] ps = refl
mark_length k (a_node i ∷ cs) ps = mark_length k cs (set ps i k) ∙ length-set ps i k
mark_length k (a_type j ∷ cs) ps = mark_length k cs ps

mark_at : (k i : ℕ) (cs : List Child) (ps : List ℕ) → i < length ps → get_or (mark k cs ps) i 0 ≡ choice (times (a_node i) cs) k (get_or ps i 0)
unfolding mark times same
mark_at k i [] ps h = refl
mark_at k i (a_type j ∷ cs) ps h = mark_at k i cs ps h ∙ choice_zero (times (a_node i) cs) k (get_or ps i 0)
mark_at k i (a_node j ∷ cs) ps h =
    let z : get_or (mark k cs (set ps j k)) i 0 ≡ choice (times (a_node i) cs) k (get_or (set ps j k) i 0) = mark_at k i cs (set ps j k) (omega (arith, length-set ps j k)) in
    z ∙ ap (choice (times (a_node i) cs) k) (get_d_set ps i j k h) ∙ go (eqb i j) (times (a_node i) cs)
  where
    go : (b : Bool) (n : ℕ) → choice n k (elim b as (λ b'. ℕ) [ true ↦ k | false ↦ get_or ps i 0 ]) ≡ choice (elim b as (λ b'. ℕ) [ true ↦ 1 | false ↦ 0 ] + n) k (get_or ps i 0)
    go true n = choice_same n k ∙ sym (choice_one n k (get_or ps i 0))
    go false n = choice_zero n k (get_or ps i 0)

-- none of them has it
parent_from-none : (cells : List ℕ) (c : Child) (other k : ℕ) (xs : List Node) (all : List Child) → all_of (children_of cells) xs ≡ some all → times c all ≡ 0 → parent_from cells c other k xs ≡ other
unfolding parent_from is_among
parent_from-none cells c other k [] all e n = refl
parent_from-none cells c other k (x ∷ xs) all e n =
    let z = split (children_of cells) x xs all e in
    rw (z.is_first, parent_from) (go (times c z.first) (omega (arith, split-times c z, n)) (parent_from-none cells c other (suc k) xs z.others z.are_others (omega (arith, split-times c z, n))))
  where
    go : (m : ℕ) → m ≡ 0 → parent_from cells c other (suc k) xs ≡ other → elim (elim (eqb m 0) as (λ b'. Bool) [ true ↦ false | false ↦ true ]) as (λ b'. ℕ) [ true ↦ k | false ↦ parent_from cells c other (suc k) xs ] ≡ other
    go m e h = subst (λ (j : ℕ). elim (elim (eqb j 0) as (λ b'. Bool) [ true ↦ false | false ↦ true ]) as (λ b'. ℕ) [ true ↦ k | false ↦ parent_from cells c other (suc k) xs ] ≡ other) (sym e) h

-- the first has it, or not
parent_from-first : (cells : List ℕ) (c : Child) (other k : ℕ) (x : Node) (xs : List Node) (cs : List Child) → children_of cells x ≡ some cs → parent_from cells c other k (x ∷ xs) ≡ choice (times c cs) k (parent_from cells c other (suc k) xs)
unfolding parent_from is_among
parent_from-first cells c other k x xs cs e = rw (e, parent_from) (go (times c cs))
  where
    go : (m : ℕ) → elim (elim (eqb m 0) as (λ b'. Bool) [ true ↦ false | false ↦ true ]) as (λ b'. ℕ) [ true ↦ k | false ↦ parent_from cells c other (suc k) xs ] ≡ choice m k (parent_from cells c other (suc k) xs)
    go zero = refl
    go (suc m) = rw (eqb-suc-zero m) refl

-- what the pass leaves at `i`, where it occurs at most once
pub pass_at : (cells : List ℕ) (i k : ℕ) (xs : List Node) (all : List Child) (ps : List ℕ) → all_of (children_of cells) xs ≡ some all → times (a_node i) all ≤ 1 → i < length ps → get_or (pass cells k xs ps) i 0 ≡ parent_from cells (a_node i) (get_or ps i 0) k xs
unfolding pass mark_in parent_from
pass_at cells i k [] all ps e once h = refl
pass_at cells i k (x ∷ xs) all ps e once h =
    let z = split (children_of cells) x xs all e in
    let n : times (a_node i) all ≡ times (a_node i) z.first + times (a_node i) z.others = split-times (a_node i) z in
    let qs : List ℕ = mark k z.first ps in
    let a : get_or qs i 0 ≡ choice (times (a_node i) z.first) k (get_or ps i 0) = mark_at k i z.first ps h in
    let ih : get_or (pass cells (suc k) xs qs) i 0 ≡ parent_from cells (a_node i) (get_or qs i 0) (suc k) xs = pass_at cells i (suc k) xs z.others qs z.are_others (omega (arith, n, once)) (omega (arith, mark_length k z.first ps, h)) in
    let f : parent_from cells (a_node i) (get_or ps i 0) k (x ∷ xs) ≡ choice (times (a_node i) z.first) k (parent_from cells (a_node i) (get_or ps i 0) (suc k) xs) = parent_from-first cells (a_node i) (get_or ps i 0) k x xs z.first z.is_first in
    rw z.is_first (ih ∙ go z (times (a_node i) z.first) (times (a_node i) z.others) refl (omega (arith, n, once)) (get_or qs i 0) a ∙ sym f)
  where
    go : (z : Split (children_of cells) x xs all) (m n : ℕ) → times (a_node i) z.others ≡ n → m + n ≤ 1 → (q : ℕ) → q ≡ choice m k (get_or ps i 0) → parent_from cells (a_node i) q (suc k) xs ≡ choice m k (parent_from cells (a_node i) (get_or ps i 0) (suc k) xs)
    go z zero n r l q p = ap (λ (o : ℕ). parent_from cells (a_node i) o (suc k) xs) p
    go z (suc m) n r l q p = ap (λ (o : ℕ). parent_from cells (a_node i) o (suc k) xs) p ∙ parent_from-none cells (a_node i) k (suc k) xs z.others z.are_others (r ∙ omega arith)

-- where no node occurs twice: begun with each node at itself, it leaves each node's parent
pub pass_parents : (tree : Tree) → Sole tree → (ps : List ℕ) (i : ℕ) → i < length tree.arena.nodes → i < length ps → get_or ps i 0 ≡ i → get_or (pass tree.arena.cells 0 tree.arena.nodes ps) i 0 ≡ parent_of tree.arena i
unfolding parent_of
pass_parents tree lawful ps i b h e =
    let z = parts tree lawful.all lawful.found in
    pass_at tree.arena.cells i 0 tree.arena.nodes z.of_nodes ps z.are_of_nodes (omega (arith, parts-times (a_node i) z, lawful.once i b)) h
    ∙ ap (λ (o : ℕ). parent_from tree.arena.cells (a_node i) o 0 tree.arena.nodes) e
