-- A node's parent is well defined where no node occurs twice, and lies above it; and the two
-- journeys undo one another.
use mathlib.Core.Path.{◌≡◌, refl, sym, ap, ap₂, ◌∙◌, subst}
use mathlib.Core.Bool.{Bool, true, false}
use mathlib.Core.Option.{Option, none, some}
use mathlib.Core.List.{List, [], ◌∷◌, ◌++◌, map, append_assoc}
use Prim.Native.Nat.{ℕ, zero, suc, ◌+◌, ◌*◌, ◌≤◌, ◌<◌}
use lib.Dec.{eqb, eqb→eq, eqb_refl, T}
use lib.ListN.{length, length-append, get_or, take, drop, take-append-drop, length-take, length-drop, get_or-append}
use native.Mathlib.Nat.{suc-add}
use native.Mathlib.Omega.{arith}
use Rattle.rules.specs.Tree.{Arena, Tree}
use Rattle.ast.specs.Lists.{map₁, map₂, and_then}
use Rattle.rules.specs.Law.{Child, a_node, children_of, inner_of, times, all_of, occurrences, nth, children_at, Below, Once}
use Rattle.ast.specs.Layout.{node_width}
use Rattle.rules.specs.Parents.{is_among, parent_from, parent_of, wide_width, widened, narrowed, all_below, parents_right}
use Rattle.ast.specs.declared.Node.{Node}
use Rattle.rules.proofs.Results.{not_kind}
use Rattle.rules.proofs.Unique.Grow.{none≢some, some_inj}
use Rattle.rules.proofs.Law.Step.{times-append}

-- ---- all children, one record after the other

-- the first record's children and those of the rest
pub record Split {R : Type 0} (f : R → Option (List Child)) (x : R) (xs : List R) (all : List Child) : Type 0 where
  pub first : List Child
  pub others : List Child
  pub is_first : f x ≡ some first
  pub are_others : all_of f xs ≡ some others
  pub joined : first ++ others ≡ all

pub split : {R : Type 0} (f : R → Option (List Child)) (x : R) (xs : List R) (all : List Child) → all_of f (x ∷ xs) ≡ some all → Split f x xs all
unfolding all_of map₂ map₁
split f x xs all e = go (f x) (all_of f xs) refl refl e
  where
    go : (o p : Option (List Child)) → f x ≡ o → all_of f xs ≡ p → map₂ ◌++◌ o p ≡ some all → Split f x xs all
    go none p g h k = none≢some all k
    go (some us) none g h k = none≢some all k
    go (some us) (some vs) g h k = record { first = us; others = vs; is_first = g; are_others = h; joined = some_inj _ _ k }

pub split-times : {R : Type 0} {f : R → Option (List Child)} {x : R} {xs : List R} {all : List Child} (c : Child) (z : Split f x xs all) → times c all ≡ times c z.first + times c z.others
split-times c z = ap (times c) (sym z.joined) ∙ times-append c z.first z.others

-- one record's children are among all
part : {R : Type 0} (f : R → Option (List Child)) (c : Child) (xs : List R) (all : List Child) → all_of f xs ≡ some all → (k : ℕ) (cs : List Child) → and_then (nth xs k) f ≡ some cs → times c cs ≤ times c all
unfolding nth and_then
part f c [] all e k cs h = none≢some cs h
part f c (x ∷ xs) all e zero cs h =
    let z = split f x xs all e in
    let g : times c z.first ≡ times c cs = ap (times c) (some_inj z.first cs (sym z.is_first ∙ h)) in
    omega (arith, split-times c z, g)
part f c (x ∷ xs) all e (suc k) cs h =
    let z = split f x xs all e in
    omega (arith, split-times c z, part f c xs z.others z.are_others k cs h)

-- what has children is there
pub nth_inside : {R : Type 0} (xs : List R) (f : R → Option (List Child)) (k : ℕ) (cs : List Child) → and_then (nth xs k) f ≡ some cs → k < length xs
unfolding nth and_then
nth_inside [] f k cs e = none≢some cs e
nth_inside (x ∷ xs) f zero cs e = omega arith
nth_inside (x ∷ xs) f (suc k) cs e = let z = nth_inside xs f k cs e in omega arith

-- ---- the parent

module _ (cells : List ℕ) (c : Child) (other : ℕ) where
  -- what is found: a record that has the child, or that none has it
  pub data IsParent (k : ℕ) (xs : List Node) : ℕ → Type 0 where
    has : {i : ℕ} (j : ℕ) (cs : List Child) → i ≡ k + j → and_then (nth xs j) (children_of cells) ≡ some cs → 0 < times c cs → IsParent k xs i
    has_not : ((j : ℕ) (cs : List Child) → and_then (nth xs j) (children_of cells) ≡ some cs → times c cs ≡ 0) → IsParent k xs other

  pub parent_from_is : (k : ℕ) (xs : List Node) → IsParent k xs (parent_from cells c other k xs)
  unfolding parent_from is_among nth and_then
  parent_from_is k [] = has_not (λ j cs e. none≢some cs e)
  parent_from_is k (x ∷ xs) = go (parent_from_is (suc k) xs) (children_of cells x) refl
    where
      later : {i : ℕ} → ((cs : List Child) → children_of cells x ≡ some cs → times c cs ≡ 0) → IsParent (suc k) xs i → IsParent k (x ∷ xs) i
      later n (has {i} j cs e h l) = has {i = i} (suc j) cs (omega (arith, e)) h l
      later n (has_not h) = has_not (λ j cs e. elim j as (λ j'. and_then (nth (x ∷ xs) j') (children_of cells) ≡ some cs → times c cs ≡ 0) [ zero ↦ n cs | suc j' ↦ h j' cs ] e)

      by_times : (cs : List Child) → children_of cells x ≡ some cs → IsParent (suc k) xs (parent_from cells c other (suc k) xs) → (b : Bool) → eqb (times c cs) 0 ≡ b → IsParent k (x ∷ xs) (elim (elim b as (λ b'. Bool) [ true ↦ false | false ↦ true ]) as (λ b'. ℕ) [ true ↦ k | false ↦ parent_from cells c other (suc k) xs ])
      by_times cs e q true p = later (λ ds g. ap (times c) (some_inj ds cs (sym g ∙ e)) ∙ eqb→eq (times c cs) 0 (rw p tt)) q
      by_times cs e q false p = has {i = k} 0 cs (omega arith) e (omega (arith, not_kind (times c cs) 0 p))

      go : IsParent (suc k) xs (parent_from cells c other (suc k) xs) → (o : Option (List Child)) → children_of cells x ≡ o → IsParent k (x ∷ xs) (elim (is_among c o) as (λ b'. ℕ) [ true ↦ k | false ↦ parent_from cells c other (suc k) xs ])
      go q none e = later (λ cs g. none≢some cs (sym e ∙ g)) q
      go q (some cs) e = by_times cs e q (eqb (times c cs) 0) refl

  -- where it occurs once, there is only one
  pub parent_from_only : (k : ℕ) (xs : List Node) (all : List Child) → all_of (children_of cells) xs ≡ some all → times c all ≤ 1 → (j : ℕ) (cs : List Child) → and_then (nth xs j) (children_of cells) ≡ some cs → 0 < times c cs → parent_from cells c other k xs ≡ k + j
  unfolding parent_from is_among nth and_then
  parent_from_only k [] all e once j cs h l = none≢some cs h
  parent_from_only k (x ∷ xs) all e once zero cs h l = rw (h, parent_from) (go (eqb (times c cs) 0) refl)
    where
      go : (b : Bool) → eqb (times c cs) 0 ≡ b → elim (elim b as (λ b'. Bool) [ true ↦ false | false ↦ true ]) as (λ b'. ℕ) [ true ↦ k | false ↦ parent_from cells c other (suc k) xs ] ≡ k + 0
      go true p = absurd (omega (arith, eqb→eq (times c cs) 0 (rw p tt), l))
      go false p = omega arith
  parent_from_only k (x ∷ xs) all e once (suc j) cs h l =
      let z = split (children_of cells) x xs all e in
      let y : times c cs ≤ times c z.others = part (children_of cells) c xs z.others z.are_others j cs h in
      rw (z.is_first, parent_from) (go z (parent_from_only (suc k) xs z.others z.are_others (omega (arith, split-times c z, once)) j cs h l) (omega (arith, split-times c z, once, y, l)) (eqb (times c z.first) 0) refl)
    where
      go : (z : Split (children_of cells) x xs all) → parent_from cells c other (suc k) xs ≡ suc k + j → times c z.first ≡ 0 → (b : Bool) → eqb (times c z.first) 0 ≡ b → elim (elim b as (λ b'. Bool) [ true ↦ false | false ↦ true ]) as (λ b'. ℕ) [ true ↦ k | false ↦ parent_from cells c other (suc k) xs ] ≡ k + suc j
      go z ih n true p = omega (arith, ih)
      go z ih n false p = absurd (not_kind (times c z.first) 0 p n)

-- ---- the parents of a lawful tree

-- all children of nodes, and those of types, and the roots
pub record Parts (tree : Tree) (all : List Child) : Type 0 where
  pub of_nodes : List Child
  pub of_types : List Child
  pub are_of_nodes : all_of (children_of tree.arena.cells) tree.arena.nodes ≡ some of_nodes
  pub together : map a_node tree.roots ++ (of_nodes ++ of_types) ≡ all

pub parts : (tree : Tree) (all : List Child) → occurrences tree ≡ some all → Parts tree all
unfolding occurrences map₂ map₁
parts tree all e = go (all_of (children_of tree.arena.cells) tree.arena.nodes) (all_of (inner_of tree.arena.cells) tree.arena.types) refl e
  where
    go : (o p : Option (List Child)) → all_of (children_of tree.arena.cells) tree.arena.nodes ≡ o → map₁ (λ cs. map a_node tree.roots ++ cs) (map₂ ◌++◌ o p) ≡ some all → Parts tree all
    go none p g h = none≢some all h
    go (some us) none g h = none≢some all h
    go (some us) (some vs) g h = record { of_nodes = us; of_types = vs; are_of_nodes = g; together = some_inj _ _ h }

pub parts-times : {tree : Tree} {all : List Child} (c : Child) (z : Parts tree all) → times c all ≡ times c (map a_node tree.roots) + (times c z.of_nodes + times c z.of_types)
parts-times {tree} c z = ap (times c) (sym z.together) ∙ omega (arith, times-append c (map a_node tree.roots) (z.of_nodes ++ z.of_types), times-append c z.of_nodes z.of_types)

-- what a parent's number is: a node that has it for a child, above it; or itself, where no node has
-- it
pub data ParentIs (m : Arena) (i : ℕ) : ℕ → Type 0 where
  above : (k : ℕ) (cs : List Child) → children_at m k ≡ some cs → 0 < times (a_node i) cs → i < k → ParentIs m i k
  itself : ((k : ℕ) (cs : List Child) → children_at m k ≡ some cs → times (a_node i) cs ≡ 0) → ParentIs m i i

-- all children are found, those of a node are below it, and no node occurs twice
pub record Sole (tree : Tree) : Type 0 where
  pub all : List Child
  pub found : occurrences tree ≡ some all
  pub nodes_fall : (k i : ℕ) (cs : List Child) → children_at tree.arena k ≡ some cs → 0 < times (a_node i) cs → i < k
  pub once : (i : ℕ) → i < length tree.arena.nodes → times (a_node i) all ≤ 1

pub lawful_sole : (tree : Tree) → Below tree.arena → Once tree → Sole tree
unfolding children_at
lawful_sole tree below once = record {
  all = once.all;
  found = once.found;
  nodes_fall = λ k i cs e h.
      let z = below.nodes k (nth_inside tree.arena.nodes (children_of tree.arena.cells) k cs e) in
      z.2 i (subst (λ (ds : List Child). 0 < times (a_node i) ds) (some_inj cs z.0 (sym e ∙ z.1)) h);
  once = λ i h. once.nodes i;
}

module _ (tree : Tree) (lawful : Sole tree) where
  abbrev m : Arena
  m = tree.arena

  pub parent_is : (i : ℕ) → ParentIs m i (parent_of m i)
  unfolding parent_of children_at
  parent_is i = go (parent_from_is m.cells (a_node i) i 0 m.nodes)
    where
      go : {p : ℕ} → IsParent m.cells (a_node i) i 0 m.nodes p → ParentIs m i p
      go (has {i = p} j cs e h l) = let g : j ≡ p = omega (arith, e) in subst (ParentIs m i) g (above j cs h l (lawful.nodes_fall j i cs h l))
      go (has_not h) = itself h

  -- the node that has it for a child is its parent: there is no other
  pub parent_only : (k i : ℕ) (cs : List Child) → children_at m k ≡ some cs → 0 < times (a_node i) cs → parent_of m i ≡ k
  unfolding parent_of children_at
  parent_only k i cs e l =
      let z = parts tree lawful.all lawful.found in
      let n : parent_from m.cells (a_node i) i 0 m.nodes ≡ 0 + k = parent_from_only m.cells (a_node i) i 0 m.nodes z.of_nodes z.are_of_nodes (omega (arith, parts-times (a_node i) z, lawful.once i (omega (arith, lawful.nodes_fall k i cs e l, nth_inside m.nodes (children_of m.cells) k cs e)))) k cs e l in
      omega (arith, n)

  -- a root names itself
  pub root_parent : (i : ℕ) → i < length m.nodes → 0 < times (a_node i) (map a_node tree.roots) → parent_of m i ≡ i
  unfolding children_at and_then
  root_parent i b l = go (parent_is i)
    where
      go : {p : ℕ} → ParentIs m i p → p ≡ i
      go (above k cs e h n) =
          let z = parts tree lawful.all lawful.found in
          absurd (omega (arith, parts-times (a_node i) z, lawful.once i b, part (children_of m.cells) (a_node i) m.nodes z.of_nodes z.are_of_nodes k cs e, h, l))
      go (itself h) = refl

-- ---- what turns a tree away, decided

-- the last cell of each of `n` wide records, numbered from `i` on, is its parent's number
abbrev pub ParentsRight : (ℕ → ℕ) → ℕ → ℕ → List ℕ → Type 0
ParentsRight parent i zero cells = Unit {0}
ParentsRight parent i (suc n) cells = (get_or cells node_width 0 ≡ parent i) × ParentsRight parent (suc i) n (drop wide_width cells)

pub yes_true : (b : Bool) → T b → b ≡ true
yes_true true h = refl
yes_true false h = absurd h

pub parents_right_lem : (parent : ℕ → ℕ) (i n : ℕ) (cells : List ℕ) → parents_right parent i n cells ≡ true → ParentsRight parent i n cells
unfolding parents_right
parents_right_lem parent i zero cells e = tt
parents_right_lem parent i (suc n) cells e = go (λ h. parents_right_lem parent (suc i) n (drop wide_width cells) h) (eqb (get_or cells node_width 0) (parent i)) refl e
  where
    go : (parents_right parent (suc i) n (drop wide_width cells) ≡ true → ParentsRight parent (suc i) n (drop wide_width cells)) → (b : Bool) → eqb (get_or cells node_width 0) (parent i) ≡ b → elim b as (λ b'. Bool) [ true ↦ parents_right parent (suc i) n (drop wide_width cells) | false ↦ false ] ≡ true → ParentsRight parent i (suc n) cells
    go ih true p h = (eqb→eq _ _ (rw p tt), ih h)
    go ih false p h = absurd (subst T (sym h) tt)

pub right_parents : (parent : ℕ → ℕ) (i n : ℕ) (cells : List ℕ) → ParentsRight parent i n cells → parents_right parent i n cells ≡ true
unfolding parents_right
right_parents parent i zero cells h = refl
right_parents parent i (suc n) cells h = rw (yes_true (eqb (get_or cells node_width 0) (parent i)) (subst (λ (k : ℕ). T (eqb (get_or cells node_width 0) k)) h.0 (eqb_refl (get_or cells node_width 0))), parents_right) (right_parents parent (suc i) n (drop wide_width cells) h.1)

pub all-below : (n : ℕ) (p : ℕ → Bool) → all_below n p ≡ true → (i : ℕ) → i < n → p i ≡ true
unfolding all_below
all-below zero p e i h = absurd (omega arith)
all-below (suc n) p e i h = go (λ k. all-below n p k i) (p n) refl e (eqb i n) refl
  where
    go : (all_below n p ≡ true → i < n → p i ≡ true) → (b : Bool) → p n ≡ b → elim b as (λ b'. Bool) [ true ↦ all_below n p | false ↦ false ] ≡ true → (c : Bool) → eqb i n ≡ c → p i ≡ true
    go ih false q k c r = absurd (subst T (sym k) tt)
    go ih true q k true r = ap p (eqb→eq i n (rw r tt)) ∙ q
    go ih true q k false r = ih k (omega (arith, not_kind i n r, h))

pub below_all : (n : ℕ) (p : ℕ → Bool) → ((i : ℕ) → i < n → p i ≡ true) → all_below n p ≡ true
unfolding all_below
below_all zero p h = refl
below_all (suc n) p h = rw (h n (omega arith), all_below) (below_all n p (λ i l. h i (omega arith)))

-- ---- the two journeys

take_back : (n : ℕ) (xs ys : List ℕ) → length xs ≡ n → take n (xs ++ ys) ≡ xs
take_back zero [] ys e = refl
take_back zero (x ∷ xs) ys e = absurd (omega arith)
take_back (suc n) [] ys e = absurd (omega arith)
take_back (suc n) (x ∷ xs) ys e = ap {B = List ℕ} (λ l. x ∷ l) (take_back n xs ys (omega arith))

drop-back : (n : ℕ) (xs ys : List ℕ) → length xs ≡ n → drop n (xs ++ ys) ≡ ys
drop-back zero [] ys e = refl
drop-back zero (x ∷ xs) ys e = absurd (omega arith)
drop-back (suc n) [] ys e = absurd (omega arith)
drop-back (suc n) (x ∷ xs) ys e = drop-back n xs ys (omega arith)

-- a record of `w` cells before a cell and others
module _ (w : ℕ) (xs : List ℕ) (h : w ≤ length xs) where
  whole : length (take w xs) ≡ w
  whole = length-take w xs ∙ omega arith

  first_of : (ys : List ℕ) → take w (take w xs ++ ys) ≡ take w xs
  first_of ys = take_back w (take w xs) ys whole

  rest_of : (ys : List ℕ) → drop w (take w xs ++ ys) ≡ ys
  rest_of ys = drop-back w (take w xs) ys whole

  past_one : (p : ℕ) (ys : List ℕ) → drop (w + 1) (take w xs ++ (p ∷ ys)) ≡ ys
  past_one p ys = ap (drop (w + 1)) (sym (append_assoc (take w xs) (p ∷ []) ys)) ∙ drop-back (w + 1) (take w xs ++ (p ∷ [])) ys (length-append (take w xs) (p ∷ []) ∙ omega (arith, whole))

cell_between : (w : ℕ) (ys : List ℕ) → w < length ys → take w ys ++ (get_or ys w 0 ∷ drop (w + 1) ys) ≡ ys
cell_between w [] h = absurd (omega arith)
cell_between zero (y ∷ ys) h = refl
cell_between (suc w) (y ∷ ys) h = rw suc-add (ap {B = List ℕ} (λ l. y ∷ l) (cell_between w ys (omega arith)))

empty : (xs : List ℕ) → length xs ≡ 0 → [] ≡ xs
empty [] e = refl
empty (x ∷ xs) e = absurd (omega arith)

-- to the wide form and back restores every cell
pub there_and_back : (parent : ℕ → ℕ) (i n : ℕ) (xs : List ℕ) → length xs ≡ node_width * n → narrowed n (widened parent i n xs) ≡ xs
unfolding widened narrowed
there_and_back parent i zero xs e = empty xs (omega arith)
there_and_back parent i (suc n) xs e =
    let h : 16 ≤ length xs = omega arith in
    let ys : List ℕ = widened parent (suc i) n (drop 16 xs) in
    let ih : narrowed n ys ≡ drop 16 xs = there_and_back parent (suc i) n (drop 16 xs) (length-drop 16 xs ∙ omega arith) in
    ap₂ ◌++◌ (first_of 16 xs h (parent i ∷ ys)) (ap (narrowed n) (past_one 16 xs h (parent i) ys) ∙ ih) ∙ take-append-drop 16 xs

-- and so does the way back and there, where the parents are right
pub back_and_there : (parent : ℕ → ℕ) (i n : ℕ) (ys : List ℕ) → length ys ≡ wide_width * n → ParentsRight parent i n ys → widened parent i n (narrowed n ys) ≡ ys
unfolding widened narrowed
back_and_there parent i zero ys e r = empty ys (omega arith)
back_and_there parent i (suc n) ys e r =
    let h : 16 < length ys = omega arith in
    let xs : List ℕ = narrowed n (drop 17 ys) in
    let ih : widened parent (suc i) n xs ≡ drop 17 ys = back_and_there parent (suc i) n (drop 17 ys) (length-drop 17 ys ∙ omega arith) r.1 in
    ap₂ (λ (a l : List ℕ). a ++ l) (first_of 16 ys (omega arith) xs) (ap₂ (λ (a : ℕ) (l : List ℕ). a ∷ l) (sym r.0) (ap (widened parent (suc i) n) (rest_of 16 ys (omega arith) xs) ∙ ih)) ∙ cell_between 16 ys h

-- the wide form has the right parents
pub widened-right : (parent : ℕ → ℕ) (i n : ℕ) (xs : List ℕ) → length xs ≡ node_width * n → ParentsRight parent i n (widened parent i n xs)
unfolding widened
widened-right parent i zero xs e = tt
widened-right parent i (suc n) xs e =
    let h : 16 ≤ length xs = omega arith in
    let ys : List ℕ = widened parent (suc i) n (drop 16 xs) in
    (cell_at 16 (take 16 xs) (parent i) ys (whole 16 xs h), subst (ParentsRight parent (suc i) n) (sym (past_one 16 xs h (parent i) ys)) (widened-right parent (suc i) n (drop 16 xs) (length-drop 16 xs ∙ omega arith)))
  where
    cell_at : (w : ℕ) (us : List ℕ) (p : ℕ) (vs : List ℕ) → length us ≡ w → get_or (us ++ (p ∷ vs)) w 0 ≡ p
    cell_at zero [] p vs e = refl
    cell_at zero (u ∷ us) p vs e = absurd (omega arith)
    cell_at (suc w) [] p vs e = absurd (omega arith)
    cell_at (suc w) (u ∷ us) p vs e = cell_at w us p vs (omega arith)

-- ---- the cells of the wide form, by place

pub widened-length : (parent : ℕ → ℕ) (i n : ℕ) (xs : List ℕ) → length xs ≡ node_width * n → length (widened parent i n xs) ≡ wide_width * n
unfolding widened
widened-length parent i zero xs e = refl
widened-length parent i (suc n) xs e =
    let h : 16 ≤ length xs = omega arith in
    let ys : List ℕ = widened parent (suc i) n (drop 16 xs) in
    let z : length ys ≡ 17 * n = widened-length parent (suc i) n (drop 16 xs) (length-drop 16 xs ∙ omega arith) in
    length-append (take 16 xs) (parent i ∷ ys) ∙ omega (arith, whole 16 xs h, z)

get_d_take : (w : ℕ) (xs : List ℕ) (j : ℕ) → j < w → get_or (take w xs) j 0 ≡ get_or xs j 0
get_d_take zero xs j h = absurd (omega arith)
get_d_take (suc w) [] j h = refl
get_d_take (suc w) (x ∷ xs) zero h = refl
get_d_take (suc w) (x ∷ xs) (suc j) h = get_d_take w xs j (omega arith)

get_d_drop : (w : ℕ) (xs : List ℕ) (j : ℕ) → get_or (drop w xs) j 0 ≡ get_or xs (w + j) 0
get_d_drop zero xs j = let e : j ≡ 0 + j = omega arith in ap (λ (k : ℕ). get_or xs k 0) e
get_d_drop (suc w) [] j = refl
get_d_drop (suc w) (x ∷ xs) j = let e : suc (w + j) ≡ suc w + j = omega arith in get_d_drop w xs j ∙ ap (λ (k : ℕ). get_or (x ∷ xs) k 0) e

get_d_past : (us vs : List ℕ) (j : ℕ) → get_or (us ++ vs) (length us + j) 0 ≡ get_or vs j 0
get_d_past [] vs j = let e : 0 + j ≡ j = omega arith in ap (λ (k : ℕ). get_or vs k 0) e
get_d_past (u ∷ us) vs j = let e : suc (length us) + j ≡ suc (length us + j) = omega arith in ap (λ (k : ℕ). get_or (u ∷ (us ++ vs)) k 0) e ∙ get_d_past us vs j

-- one record and those behind it
module _ (w : ℕ) (xs ys : List ℕ) (p : ℕ) (h : w ≤ length xs) where
  in_record : (j : ℕ) → j < w → get_or (take w xs ++ ys) j 0 ≡ get_or xs j 0
  in_record j l = get_or-append (take w xs) ys 0 j (omega (arith, whole w xs h)) ∙ get_d_take w xs j l

  behind_record : (k : ℕ) → get_or (take w xs ++ (p ∷ ys)) (w + 1 + k) 0 ≡ get_or ys k 0
  behind_record k =
      let e : w + 1 + k ≡ length (take w xs) + suc k = omega (arith, whole w xs h) in
      ap (λ (i : ℕ). get_or (take w xs ++ (p ∷ ys)) i 0) e ∙ get_d_past (take w xs) (p ∷ ys) (suc k)

  behind_narrow : (k : ℕ) → get_or (take w xs ++ ys) (w + k) 0 ≡ get_or ys k 0
  behind_narrow k =
      let e : w + k ≡ length (take w xs) + k = omega (arith, whole w xs h) in
      ap (λ (i : ℕ). get_or (take w xs ++ ys) i 0) e ∙ get_d_past (take w xs) ys k

  its_parent : get_or (take w xs ++ (p ∷ ys)) w 0 ≡ p
  its_parent =
      let e : w ≡ length (take w xs) + 0 = omega (arith, whole w xs h) in
      ap (λ (i : ℕ). get_or (take w xs ++ (p ∷ ys)) i 0) e ∙ get_d_past (take w xs) (p ∷ ys) 0

pub wide_cell : (parent : ℕ → ℕ) (i n : ℕ) (xs : List ℕ) → length xs ≡ node_width * n → (k j : ℕ) → k < n → j < node_width → get_or (widened parent i n xs) (wide_width * k + j) 0 ≡ get_or xs (node_width * k + j) 0
unfolding widened
wide_cell parent i zero xs e k j a b = absurd (omega arith)
wide_cell parent i (suc n) xs e zero j a b =
    let g : wide_width * 0 + j ≡ j = omega arith in
    let f : j ≡ node_width * 0 + j = omega arith in
    ap (λ (m : ℕ). get_or (widened parent i (suc n) xs) m 0) g ∙ in_record 16 xs (parent i ∷ widened parent (suc i) n (drop 16 xs)) 0 (omega arith) j b ∙ ap (λ (m : ℕ). get_or xs m 0) f
wide_cell parent i (suc n) xs e (suc k) j a b =
    let g : wide_width * suc k + j ≡ 16 + 1 + (wide_width * k + j) = omega arith in
    let f : 16 + (node_width * k + j) ≡ node_width * suc k + j = omega arith in
    ap (λ (m : ℕ). get_or (widened parent i (suc n) xs) m 0) g ∙ behind_record 16 xs (widened parent (suc i) n (drop 16 xs)) (parent i) (omega arith) (wide_width * k + j)
    ∙ wide_cell parent (suc i) n (drop 16 xs) (length-drop 16 xs ∙ omega arith) k j (omega arith) b ∙ get_d_drop 16 xs (node_width * k + j) ∙ ap (λ (m : ℕ). get_or xs m 0) f

pub wide_parent : (parent : ℕ → ℕ) (i n : ℕ) (xs : List ℕ) → length xs ≡ node_width * n → (k : ℕ) → k < n → get_or (widened parent i n xs) (wide_width * k + node_width) 0 ≡ parent (i + k)
unfolding widened
wide_parent parent i zero xs e k a = absurd (omega arith)
wide_parent parent i (suc n) xs e zero a =
    let f : i ≡ i + 0 = omega arith in
    its_parent 16 xs (widened parent (suc i) n (drop 16 xs)) (parent i) (omega arith) ∙ ap parent f
wide_parent parent i (suc n) xs e (suc k) a =
    let g : wide_width * suc k + node_width ≡ 16 + 1 + (wide_width * k + node_width) = omega arith in
    let f : suc i + k ≡ i + suc k = omega arith in
    ap (λ (m : ℕ). get_or (widened parent i (suc n) xs) m 0) g ∙ behind_record 16 xs (widened parent (suc i) n (drop 16 xs)) (parent i) (omega arith) (wide_width * k + node_width)
    ∙ wide_parent parent (suc i) n (drop 16 xs) (length-drop 16 xs ∙ omega arith) k (omega arith) ∙ ap parent f

pub narrow_cell : (n : ℕ) (ys : List ℕ) → length ys ≡ wide_width * n → (k j : ℕ) → k < n → j < node_width → get_or (narrowed n ys) (node_width * k + j) 0 ≡ get_or ys (wide_width * k + j) 0
unfolding narrowed
narrow_cell zero ys e k j a b = absurd (omega arith)
narrow_cell (suc n) ys e zero j a b =
    let g : node_width * 0 + j ≡ j = omega arith in
    let f : j ≡ wide_width * 0 + j = omega arith in
    ap (λ (m : ℕ). get_or (narrowed (suc n) ys) m 0) g ∙ in_record 16 ys (narrowed n (drop 17 ys)) 0 (omega arith) j b ∙ ap (λ (m : ℕ). get_or ys m 0) f
narrow_cell (suc n) ys e (suc k) j a b =
    let g : node_width * suc k + j ≡ 16 + (node_width * k + j) = omega arith in
    let f : 17 + (wide_width * k + j) ≡ wide_width * suc k + j = omega arith in
    ap (λ (m : ℕ). get_or (narrowed (suc n) ys) m 0) g ∙ behind_narrow 16 ys (narrowed n (drop 17 ys)) 0 (omega arith) (node_width * k + j)
    ∙ narrow_cell n (drop 17 ys) (length-drop 17 ys ∙ omega arith) k j (omega arith) b ∙ get_d_drop 17 ys (wide_width * k + j) ∙ ap (λ (m : ℕ). get_or ys m 0) f
