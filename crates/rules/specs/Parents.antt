-- Each node names its parent: what that is, and records of 17 cells, which hold it, beside those of
-- 16.
use Rattle.std.specs.Prelude.{Bool, true, false, List, [], ◌∷◌, ◌++◌, ℕ, zero, suc, eqb, leb, length, get_or, take, drop}
use Rattle.std.proofs.Math.Option.{Option, none, some}
use Rattle.rules.specs.Tree.{Arena, Tree}
use Rattle.ast.specs.Layout.{node_width}
use Rattle.rules.specs.Shape.{type_shape_at, node_shape_at, shape_of}
use Rattle.rules.specs.Law.{Child, a_node, times, children_of, occurrences}
use Rattle.ast.specs.declared.Node.{Node}

-- it is one of these
unfoldable pub is_among : Child → Option (List Child) → Bool
is_among c none = false
is_among c (some cs) = elim (eqb (times c cs) 0) [ true ↦ false | false ↦ true ]

-- the first of these nodes, numbered from `k` on, that has the child; `other` where none has it
unfoldable pub parent_from : List ℕ → Child → ℕ → ℕ → List Node → ℕ
parent_from cells c other k [] = other
parent_from cells c other k (x ∷ xs) = elim (is_among c (children_of cells x)) [ true ↦ k | false ↦ parent_from cells c other (suc k) xs ]

-- the number of the node that has node `i` for a child; a root, and the top of orphans, names
-- itself
unfoldable pub parent_of : Arena → ℕ → ℕ
parent_of m i = parent_from m.cells (a_node i) i 0 m.nodes

-- ---- records with a parent

abbrev pub wide_width : ℕ
wide_width = 17

-- to the wide form: behind each of `n` records, numbered from `i` on, its parent's number
unfoldable pub widened : (ℕ → ℕ) → ℕ → ℕ → List ℕ → List ℕ
widened parent i zero cells = []
widened parent i (suc n) cells = take node_width cells ++ (parent i ∷ widened parent (suc i) n (drop node_width cells))

-- and back: of each of `n` records all cells but the last
unfoldable pub narrowed : ℕ → List ℕ → List ℕ
narrowed zero cells = []
narrowed (suc n) cells = take node_width cells ++ narrowed n (drop wide_width cells)

-- ---- what turns a tree away

-- for all numbers below `n`
unfoldable pub all_below : ℕ → (ℕ → Bool) → Bool
all_below zero p = true
all_below (suc n) p = elim (p n) [ true ↦ all_below n p | false ↦ false ]

unfoldable pub is_some : {A : Type 0} → Option A → Bool
is_some none = false
is_some (some a) = true

-- every record is well formed, orphans included, as a comparison asks it of those that the roots
-- reach; and every root is a node
unfoldable pub sound : List ℕ → Tree → Bool
sound script t =
    let m = t.arena in
    elim (all_below (length m.types) (λ j. is_some (type_shape_at script m j))) [
      | true ↦ elim (all_below (length m.nodes) (λ i. is_some (node_shape_at script m i))) [ true ↦ is_some (shape_of script t) | false ↦ false ]
      | false ↦ false
    ]

-- no node occurs twice among roots and children
unfoldable pub once_each : Tree → Bool
once_each t = elim (occurrences t) [ none ↦ false | some all ↦ all_below (length t.arena.nodes) (λ i. leb (times (a_node i) all) 1) ]

-- the last cell of each of `n` wide records, numbered from `i` on, is its parent's number
unfoldable pub parents_right : (ℕ → ℕ) → ℕ → ℕ → List ℕ → Bool
parents_right parent i zero cells = true
parents_right parent i (suc n) cells = elim (eqb (get_or cells node_width 0) (parent i)) [ true ↦ parents_right parent (suc i) n (drop wide_width cells) | false ↦ false ]

-- on the way to the wide form: 4, then 45, or 0
unfoldable pub turned_away : List ℕ → Tree → ℕ
turned_away script t = elim (sound script t) [ true ↦ elim (once_each t) [ true ↦ 0 | false ↦ 45 ] | false ↦ 4 ]

-- on the way back, where the tree of the wide records `cells` is `t`
unfoldable pub turned_back : List ℕ → Tree → List ℕ → ℕ
turned_back script t cells = elim (turned_away script t) [
  | zero ↦ elim (parents_right (parent_of t.arena) 0 (length t.arena.nodes) cells) [ true ↦ 0 | false ↦ 45 ]
  | suc n ↦ suc n
]
