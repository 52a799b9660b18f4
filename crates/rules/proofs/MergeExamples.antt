-- Worked examples of merging, computed: the merged tree is the tree of both scripts joined; and why
-- its conditions stand there.
use mathlib.Core.Path.{◌≡◌, refl}
use mathlib.Core.Bool.{Bool, true, false}
use mathlib.Core.List.{[], flatten}
use Prim.Native.Nat.{ℕ}
use Prim.Native.String.{String, ◌++◌ as ◌++ˢ◌}
use lib.ListN.{length}
use Rattle.rules.specs.Merge as Merge
use Rattle.rules.specs.Merge.{merged_tree}
use Rattle.rules.specs.Parse.{Reading, read, ended}
use Rattle.rules.proofs.Compute.{bytes, computed}

unfoldable pub merged_reading : ℕ → Reading → Reading → Reading
unfolding flatten Merge.behind Merge.moved_token Merge.moved_run Merge.moved_node_id Merge.moved_type_id Merge.moved_node Merge.moved_type Merge.added Merge.roles_of Merge.split Merge.held_by_fn Merge.held_by_fns Merge.held_by_node Merge.held_by_type Merge.held_in Merge.covers Merge.role_in Merge.moved_cells Merge.merged_arena Merge.merged_tree
merged_reading n (read t es) (read u fs) = read (merged_tree n t u) []
merged_reading n (read t es) (ended f) = ended f
merged_reading n (ended e) r = ended e

unfoldable pub is_read : Reading → Bool
is_read (read t es) = true
is_read (ended e) = false

-- the tree of both scripts joined, and the merged tree
abbrev pub whole : String → String → Reading
whole x y = (computed (x ++ˢ "\n" ++ˢ y)).strict

unfoldable pub together : String → String → Reading
unfolding bytes merged_reading
together x y = merged_reading (length (bytes x)) (computed x).strict (computed y).strict

abbrev pub Joins : String → String → Type 0
Joins x y = (is_read (together x y) ≡ true) × (whole x y ≡ together x y)

pub joins :
    Joins "" ""
    × Joins "let x = 1" "let y = -x + 2"
    -- runs, types and docs
    × Joins "#! d\nfn f(a: Int b: Array<Int>) { a }" "fn f(a: Int b: Record<x: Int y: Option<Foreign<q>>>) Int { [a b.c(a 1)] }"
    × Joins "import \"a\"" "import (\"b\" \"c\") #! d\n#! e\nlet x = 1"
    × Joins "let x = {a: 1 b: [2 3]} as Record<a: Int>" "let y = {a: {b: (-c)} as Int}"
    -- the body of a default that a later one replaced; the lists of an extern's fns
    × Joins "let x = 1" "match { a {b c} {d} e.f {g} {h i} } extern \"p\" { #! x\n#! y\nfn f(a: Int) Str fn g() fn i() Int #! z\nfn h(b: Str c: Str) }"
    -- what ends at the end ends before an item too
    × Joins "f" "match {{1}}"
    × Joins "a" "fn g() {}"
    × Joins "1." "extern \"p\" {}"
    × Joins "a # b" " # c\n"
    -- lexer errors but an open string do no harm
    × Joins "$ 1.2.3" "let x = 1"
    × Joins "let x = 1" "let y = 1 \"a"
unfolding computed merged_reading together is_read
joins = (
  (refl, refl),
  (refl, refl),
  (refl, refl),
  (refl, refl),
  (refl, refl),
  (refl, refl),
  (refl, refl),
  (refl, refl),
  (refl, refl),
  (refl, refl),
  (refl, refl),
  (refl, refl),
)

-- ---- why the conditions stand there

-- how many roots and list cells
unfoldable pub sizes : Reading → ℕ × ℕ
sizes (read t es) = (length t.roots, length t.arena.cells)
sizes (ended e) = (0, 0)

-- both are accepted; the sizes of both joined, and of the merged tree
abbrev pub Sizes : String → String → ℕ × ℕ → ℕ × ℕ → Type 0
Sizes x y m n = (is_read (together x y) ≡ true) × (sizes (whole x y) ≡ m) × (sizes (together x y) ≡ n)

pub apart :
    -- a string that is open at the first's end goes on
    Sizes "\"" "let x = \"b\"" (2, 0) (1, 0)
    -- docs that wait at the first's end go to the second's let
    × Sizes "#! d\nimport \"a\"" "let x = 1" (2, 6) (2, 3)
    -- what begins the second goes on the first's last expression
    × Sizes "f" "(b)" (1, 1) (2, 0)
    × Sizes "a" "- b" (1, 0) (2, 0)
unfolding computed merged_reading together is_read sizes
apart = ((refl, refl, refl), (refl, refl, refl), (refl, refl, refl), (refl, refl, refl))
