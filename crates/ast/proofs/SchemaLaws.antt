-- Records go by the schema: how they are laid out, and where they are read; and its numbers.
use mathlib.Core.Path.{◌≡◌, refl}
use mathlib.Core.Option.{some}
use mathlib.Core.List.{List, [], ◌∷◌, map, flatten}
use Prim.Native.Nat.{ℕ}
use lib.ListN.{get_or, drop}
use native.Mathlib.Omega.{arith}
use Rattle.ast.specs.Layout.{token_cells, run_cells, node_width, type_width, padded, node_cells, type_cells}
use Rattle.ast.specs.Lists.{map₁}
use Rattle.ast.specs.Schema as S
use Rattle.ast.specs.Schema.{Field, Part, node_schema, type_schema, field_of, cells_of, parts_of, type_parts_of, parts_at, sort_of, sort_at, members_of}
use Rattle.ast.specs.declared.Node.{Node}
use Rattle.ast.specs.declared.Node.TheVariants as N
use Rattle.ast.specs.declared.TypeExpr.{TypeExpr}
use Rattle.ast.specs.declared.TypeExpr.TheVariants as T
use Rattle.ast.specs.Decode.{nodes_by_kind, types_by_kind}

-- a record is its kind, what the fields of the kind hold, and zeros
pub record Laid (width : ℕ) (schema : List (List Field)) (cells : List ℕ) (parts : List Part) : Type 0 where
  pub fields : map field_of parts ≡ get_or schema (get_or cells 0 0) []
  pub encoded : cells ≡ padded width (get_or cells 0 0 ∷ flatten (map cells_of parts))

pub node-laid : (x : Node) → Laid node_width node_schema (node_cells x) (parts_of x)
unfolding node_cells token_cells run_cells node_schema field_of cells_of parts_of flatten
node-laid (N.Atom id raw) = record { fields = refl; encoded = refl }
node-laid (N.Ident id name) = record { fields = refl; encoded = refl }
node-laid (N.Bin id op lhs rhs) = record { fields = refl; encoded = refl }
node-laid (N.Unary id op rhs) = record { fields = refl; encoded = refl }
node-laid (N.Let id docs name rhs) = record { fields = refl; encoded = refl }
node-laid (N.Fn id docs name args ret body) = record { fields = refl; encoded = refl }
node-laid (N.Match id cases t body) = record { fields = refl; encoded = refl }
node-laid (N.Call id target args) = record { fields = refl; encoded = refl }
node-laid (N.Field id target name) = record { fields = refl; encoded = refl }
node-laid (N.Cast id src lhs rhs) = record { fields = refl; encoded = refl }
node-laid (N.Import id src pkgs) = record { fields = refl; encoded = refl }
node-laid (N.Extern id src docs name fns) = record { fields = refl; encoded = refl }
node-laid (N.Record id src fields) = record { fields = refl; encoded = refl }
node-laid (N.Array id src members) = record { fields = refl; encoded = refl }

pub type-laid : (x : TypeExpr) → Laid type_width type_schema (type_cells x) (type_parts_of x)
unfolding type_cells token_cells run_cells type_schema field_of cells_of type_parts_of flatten
type-laid (T.Atom t) = record { fields = refl; encoded = refl }
type-laid (T.Foreign t) = record { fields = refl; encoded = refl }
type-laid (T.Option t) = record { fields = refl; encoded = refl }
type-laid (T.Array t) = record { fields = refl; encoded = refl }
type-laid (T.Record src fields) = record { fields = refl; encoded = refl }

-- ---- reading

-- the record of each kind is read where the schema has its fields
pub nodes-read : (cs : List ℕ) → map (map₁ parts_of) (nodes_by_kind cs) ≡ map (λ fs. some (parts_at cs 1 fs)) (drop 1 node_schema)
unfolding nodes_by_kind node_schema parts_of map₁
nodes-read cs = refl

pub types-read : (cs : List ℕ) → map (map₁ type_parts_of) (types_by_kind cs) ≡ map (λ fs. some (parts_at cs 1 fs)) (drop 1 type_schema)
unfolding types_by_kind type_schema type_parts_of map₁
types-read cs = refl

-- ---- numbers

-- each list has the number of its sort
pub members_are : (m : S.Members) → members_of (sort_of (S.list m)) ≡ m
unfolding members_of
members_are S.tokens = refl
members_are S.params = refl
members_are S.fns = refl
members_are S.nodes = refl
members_are S.fields = refl
members_are S.cases = refl

-- the number of each sort of field is that of its sort
pub sorts_are : (f : Field) → S.field_at (sort_at (sort_of f)) ≡ f
unfolding sort_at
sorts_are S.value = refl
sorts_are S.token = refl
sorts_are S.node = refl
sorts_are S.type = refl
sorts_are (S.list S.tokens) = refl
sorts_are (S.list S.params) = refl
sorts_are (S.list S.fns) = refl
sorts_are (S.list S.nodes) = refl
sorts_are (S.list S.fields) = refl
sorts_are (S.list S.cases) = refl

-- the sort of any number has the members of that number
pub members-at : (k : ℕ) → S.members (sort_at k) ≡ members_of k
unfolding sort_at members_of
members-at k = grind arith
