-- The parts of a node's record as the code has them, in an order, against the table of parts.
use Rattle.std.specs.Prelude.{◌≡◌, List, ℕ, Bool, ◌+◌, ◌*◌, ◌<◌, get_or, Option, None, Some}
use Rattle.rules.specs.Shape.{Env}
use Rattle.lex.specs.Bytes.{if}
use Rattle.ast.specs.Schema.{member_width, fields, nodes}
use Rattle.compare.specs.Parts.{PartAgrees, part_of, sort_at, cell_at}
use Rattle.compare.specs.declared.node.Order.{Order}
use Rattle.compare.specs.declared.node.Order.TheVariants as O
use Rattle.compare.specs.declared.node.Part.{Part}
use Rattle.compare.specs.declared.node.Part.TheVariants as P
use Rattle.compare.specs.declared.node.Last.{Last}
use Rattle.compare.specs.declared.node.Last.TheVariants as L

-- the number of an order in the table of parts
abbrev pub number : Order → ℕ
number O.Atom = 1
number O.Ident = 2
number O.Bin = 3
number O.Unary = 4
number O.Let = 5
number O.Fn = 6
number O.Match = 7
number O.Call = 8
number O.Field = 9
number O.Cast = 10
number O.Import = 11
number O.Extern = 12
number O.Record = 13
number O.Array = 14
number O.RightLast = 15
number O.ArgumentsLast = 16

-- the number of a part's sort, and its cell
abbrev pub sort : Part → ℕ
sort P.Nothing = 0
sort (P.Token o) = 1
sort (P.Tokens o) = 2
sort (P.Params o) = 3
sort (P.Type o) = 4
sort (P.Fns o) = 5
sort (P.Nodes o) = 6
sort (P.Cases o) = 8
sort (P.Node o) = 9

abbrev pub place : Part → ℕ
place P.Nothing = 0
place (P.Token o) = o
place (P.Tokens o) = o
place (P.Params o) = o
place (P.Type o) = o
place (P.Fns o) = o
place (P.Nodes o) = o
place (P.Cases o) = o
place (P.Node o) = o

-- the part of two records from the cells `p` and `p'` on agrees
abbrev pub FieldAgrees : Env → Env → List ℕ → ℕ → List ℕ → ℕ → Part → Type 0
FieldAgrees e e' xs p xs' p' part =
    PartAgrees e e' (part_of (sort part)) xs (p + place part) xs' (p' + place part)

-- the part stands at place `x` of an order
abbrev pub IsPlaced : Order → ℕ → Part → Type 0
IsPlaced order x part =
    (sort part ≡ sort_at (6 * number order + x)) × (place part ≡ cell_at (6 * number order + x))

-- the parts are the first four of an order
abbrev pub AreFirst : Order → List Part → Type 0
AreFirst order parts = (x : ℕ) → x < 4 → IsPlaced order x (get_or parts x P.Nothing)

-- the part that stands last in an order, if there is one
abbrev pub IsLast : Order → Option Last → Type 0
IsLast order None = sort_at (6 * number order + 5) ≡ 0
IsLast order (Some (L.Node o)) =
    (sort_at (6 * number order + 5) ≡ 9) × (cell_at (6 * number order + 5) ≡ o)
IsLast order (Some (L.Nodes o named)) =
    (sort_at (6 * number order + 5) ≡ if named 7 6) × (cell_at (6 * number order + 5) ≡ o)

-- the cells of a member of a list of nodes, each behind a name or not
abbrev pub member_cells : Bool → ℕ
member_cells named = if named (member_width fields) (member_width nodes)
