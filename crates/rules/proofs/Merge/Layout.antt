-- The cells of moved records: each is moved by its role.
use mathlib.Core.Path.{◌≡◌, refl, sym, ap, ap₂, ◌∙◌}
use mathlib.Core.List.{List, [], ◌∷◌, ◌++◌, map, flatten}
use Prim.Native.Nat.{ℕ, ◌+◌}
use native.Mathlib.Nat.{zero-add}
use lib.ListN.{length, get_or}
use lib.Seq.{take_at, drop_at}
use Rattle.ast.specs.Layout.{token_cells, run_cells, node_width, type_width, node_cells, type_cells}
use Rattle.ast.specs.Schema.{node_schema, type_schema}
use Rattle.rules.specs.Merge.{Offsets, moved_token, moved_run, moved_node_id, moved_type_id, moved_node, moved_type, added, moved_by, Role, cell_at, held_by_node, held_by_type}
use Rattle.rules.specs.MergedCells.{node_roles, type_roles, moved_records, held_at, names_at, names_from, node_names, type_names, held_by_cells}
use Rattle.ast.specs.declared.Node.{Node}
use Rattle.ast.specs.declared.Node.TheVariants as N
use Rattle.ast.specs.declared.TypeExpr.{TypeExpr}
use Rattle.ast.specs.declared.TypeExpr.TheVariants as T

-- ---- records

-- the first cell of a record is its kind
pub node-cells : (o : Offsets) (x : Node) → node_cells (moved_node o x) ≡ moved_by o (get_or node_roles (get_or (node_cells x) 0 0) []) (node_cells x)
unfolding node_cells token_cells run_cells moved_node moved_token moved_run moved_node_id moved_type_id moved_by added node_roles node_schema
node-cells o (N.Atom id raw) = λ j. 1 ∷ (o.values + id) ∷ sym (zero-add raw.kind) j ∷ (o.bytes + raw.start) ∷ sym (zero-add raw.len) j ∷ 0 ∷ 0 ∷ 0 ∷ 0 ∷ 0 ∷ 0 ∷ 0 ∷ 0 ∷ 0 ∷ 0 ∷ 0 ∷ []
node-cells o (N.Ident id name) = λ j. 2 ∷ (o.values + id) ∷ sym (zero-add name.kind) j ∷ (o.bytes + name.start) ∷ sym (zero-add name.len) j ∷ 0 ∷ 0 ∷ 0 ∷ 0 ∷ 0 ∷ 0 ∷ 0 ∷ 0 ∷ 0 ∷ 0 ∷ 0 ∷ []
node-cells o (N.Bin id op lhs rhs) = λ j. 3 ∷ (o.values + id) ∷ sym (zero-add op.kind) j ∷ (o.bytes + op.start) ∷ sym (zero-add op.len) j ∷ (o.nodes + lhs.0) ∷ (o.nodes + rhs.0) ∷ 0 ∷ 0 ∷ 0 ∷ 0 ∷ 0 ∷ 0 ∷ 0 ∷ 0 ∷ 0 ∷ []
node-cells o (N.Unary id op rhs) = λ j. 4 ∷ (o.values + id) ∷ sym (zero-add op.kind) j ∷ (o.bytes + op.start) ∷ sym (zero-add op.len) j ∷ (o.nodes + rhs.0) ∷ 0 ∷ 0 ∷ 0 ∷ 0 ∷ 0 ∷ 0 ∷ 0 ∷ 0 ∷ 0 ∷ 0 ∷ []
node-cells o (N.Let id docs name rhs) = λ j. 5 ∷ (o.values + id) ∷ (o.cells + docs.start) ∷ sym (zero-add docs.len) j ∷ sym (zero-add name.kind) j ∷ (o.bytes + name.start) ∷ sym (zero-add name.len) j ∷ (o.nodes + rhs.0) ∷ 0 ∷ 0 ∷ 0 ∷ 0 ∷ 0 ∷ 0 ∷ 0 ∷ 0 ∷ []
node-cells o (N.Fn id docs name args ret body) = λ j. 6 ∷ (o.values + id) ∷ (o.cells + docs.start) ∷ sym (zero-add docs.len) j ∷ sym (zero-add name.kind) j ∷ (o.bytes + name.start) ∷ sym (zero-add name.len) j ∷ (o.cells + args.start) ∷ sym (zero-add args.len) j ∷ (o.types + ret.0) ∷ (o.cells + body.start) ∷ sym (zero-add body.len) j ∷ 0 ∷ 0 ∷ 0 ∷ 0 ∷ []
node-cells o (N.Match id cases t b) = λ j. 7 ∷ (o.values + id) ∷ (o.cells + cases.start) ∷ sym (zero-add cases.len) j ∷ sym (zero-add t.kind) j ∷ (o.bytes + t.start) ∷ sym (zero-add t.len) j ∷ (o.cells + b.start) ∷ sym (zero-add b.len) j ∷ 0 ∷ 0 ∷ 0 ∷ 0 ∷ 0 ∷ 0 ∷ 0 ∷ []
node-cells o (N.Call id target args) = λ j. 8 ∷ (o.values + id) ∷ (o.nodes + target.0) ∷ (o.cells + args.start) ∷ sym (zero-add args.len) j ∷ 0 ∷ 0 ∷ 0 ∷ 0 ∷ 0 ∷ 0 ∷ 0 ∷ 0 ∷ 0 ∷ 0 ∷ 0 ∷ []
node-cells o (N.Field id target name) = λ j. 9 ∷ (o.values + id) ∷ (o.nodes + target.0) ∷ sym (zero-add name.kind) j ∷ (o.bytes + name.start) ∷ sym (zero-add name.len) j ∷ 0 ∷ 0 ∷ 0 ∷ 0 ∷ 0 ∷ 0 ∷ 0 ∷ 0 ∷ 0 ∷ 0 ∷ []
node-cells o (N.Cast id src lhs rhs) = λ j. 10 ∷ (o.values + id) ∷ sym (zero-add src.kind) j ∷ (o.bytes + src.start) ∷ sym (zero-add src.len) j ∷ (o.nodes + lhs.0) ∷ (o.types + rhs.0) ∷ 0 ∷ 0 ∷ 0 ∷ 0 ∷ 0 ∷ 0 ∷ 0 ∷ 0 ∷ 0 ∷ []
node-cells o (N.Import id src pkgs) = λ j. 11 ∷ (o.values + id) ∷ sym (zero-add src.kind) j ∷ (o.bytes + src.start) ∷ sym (zero-add src.len) j ∷ (o.cells + pkgs.start) ∷ sym (zero-add pkgs.len) j ∷ 0 ∷ 0 ∷ 0 ∷ 0 ∷ 0 ∷ 0 ∷ 0 ∷ 0 ∷ 0 ∷ []
node-cells o (N.Extern id src docs name fns) = λ j. 12 ∷ (o.values + id) ∷ sym (zero-add src.kind) j ∷ (o.bytes + src.start) ∷ sym (zero-add src.len) j ∷ (o.cells + docs.start) ∷ sym (zero-add docs.len) j ∷ sym (zero-add name.kind) j ∷ (o.bytes + name.start) ∷ sym (zero-add name.len) j ∷ (o.cells + fns.start) ∷ sym (zero-add fns.len) j ∷ 0 ∷ 0 ∷ 0 ∷ 0 ∷ []
node-cells o (N.Record id src fields) = λ j. 13 ∷ (o.values + id) ∷ sym (zero-add src.kind) j ∷ (o.bytes + src.start) ∷ sym (zero-add src.len) j ∷ (o.cells + fields.start) ∷ sym (zero-add fields.len) j ∷ 0 ∷ 0 ∷ 0 ∷ 0 ∷ 0 ∷ 0 ∷ 0 ∷ 0 ∷ 0 ∷ []
node-cells o (N.Array id src elements) = λ j. 14 ∷ (o.values + id) ∷ sym (zero-add src.kind) j ∷ (o.bytes + src.start) ∷ sym (zero-add src.len) j ∷ (o.cells + elements.start) ∷ sym (zero-add elements.len) j ∷ 0 ∷ 0 ∷ 0 ∷ 0 ∷ 0 ∷ 0 ∷ 0 ∷ 0 ∷ 0 ∷ []

pub type-cells : (o : Offsets) (x : TypeExpr) → type_cells (moved_type o x) ≡ moved_by o (get_or type_roles (get_or (type_cells x) 0 0) []) (type_cells x)
unfolding type_cells token_cells run_cells moved_type moved_token moved_run moved_type_id moved_by added type_roles type_schema
type-cells o (T.Atom t) = λ j. 1 ∷ sym (zero-add t.kind) j ∷ (o.bytes + t.start) ∷ sym (zero-add t.len) j ∷ 0 ∷ 0 ∷ 0 ∷ 0 ∷ []
type-cells o (T.Foreign t) = λ j. 2 ∷ sym (zero-add t.kind) j ∷ (o.bytes + t.start) ∷ sym (zero-add t.len) j ∷ 0 ∷ 0 ∷ 0 ∷ 0 ∷ []
type-cells o (T.Option t) = λ j. 3 ∷ (o.types + t.0) ∷ 0 ∷ 0 ∷ 0 ∷ 0 ∷ 0 ∷ 0 ∷ []
type-cells o (T.Array t) = λ j. 4 ∷ (o.types + t.0) ∷ 0 ∷ 0 ∷ 0 ∷ 0 ∷ 0 ∷ 0 ∷ []
type-cells o (T.Record src fields) = λ j. 5 ∷ sym (zero-add src.kind) j ∷ (o.bytes + src.start) ∷ sym (zero-add src.len) j ∷ (o.cells + fields.start) ∷ sym (zero-add fields.len) j ∷ 0 ∷ 0 ∷ []

-- so many records, all of one width
module _ {A : Type 0} (cells : A → List ℕ) (moved : Offsets → A → A) (roles : List (List Role)) (width : ℕ) (wide : (x : A) → length (cells x) ≡ width) (first : (x : A) (cs : List ℕ) → cell_at (cells x ++ cs) 0 ≡ cell_at (cells x) 0)
    (each : (o : Offsets) (x : A) → cells (moved o x) ≡ moved_by o (get_or roles (cell_at (cells x) 0) []) (cells x)) where
  records : (o : Offsets) (xs : List A) → moved_records o roles width (length xs) (flatten (map cells xs)) ≡ flatten (map cells (map (moved o) xs))
  unfolding moved_records flatten
  records o [] = refl
  records o (x ∷ xs) =
      let more = flatten (map cells xs) in
      ap₂ {C = List ℕ} ◌++◌
      (ap₂ (λ (k : ℕ) (l : List ℕ). moved_by o (get_or roles k []) l) (first x more) (take_at (cells x) more width (wide x)) ∙ sym (each o x))
      (ap (moved_records o roles width (length xs)) (drop_at (cells x) more width (wide x)) ∙ records o xs)

node_wide : (x : Node) → length (node_cells x) ≡ node_width
unfolding node_cells token_cells run_cells
node_wide (N.Atom id raw) = refl
node_wide (N.Ident id name) = refl
node_wide (N.Bin id op lhs rhs) = refl
node_wide (N.Unary id op rhs) = refl
node_wide (N.Let id docs name rhs) = refl
node_wide (N.Fn id docs name args ret body) = refl
node_wide (N.Match id cases t b) = refl
node_wide (N.Call id target args) = refl
node_wide (N.Field id target name) = refl
node_wide (N.Cast id src lhs rhs) = refl
node_wide (N.Import id src pkgs) = refl
node_wide (N.Extern id src docs name fns) = refl
node_wide (N.Record id src fields) = refl
node_wide (N.Array id src elements) = refl

node-first : (x : Node) (cs : List ℕ) → cell_at (node_cells x ++ cs) 0 ≡ cell_at (node_cells x) 0
unfolding node_cells token_cells run_cells
node-first (N.Atom id raw) cs = refl
node-first (N.Ident id name) cs = refl
node-first (N.Bin id op lhs rhs) cs = refl
node-first (N.Unary id op rhs) cs = refl
node-first (N.Let id docs name rhs) cs = refl
node-first (N.Fn id docs name args ret body) cs = refl
node-first (N.Match id cases t b) cs = refl
node-first (N.Call id target args) cs = refl
node-first (N.Field id target name) cs = refl
node-first (N.Cast id src lhs rhs) cs = refl
node-first (N.Import id src pkgs) cs = refl
node-first (N.Extern id src docs name fns) cs = refl
node-first (N.Record id src fields) cs = refl
node-first (N.Array id src elements) cs = refl

type_wide : (x : TypeExpr) → length (type_cells x) ≡ type_width
unfolding type_cells token_cells run_cells
type_wide (T.Atom t) = refl
type_wide (T.Foreign t) = refl
type_wide (T.Option t) = refl
type_wide (T.Array t) = refl
type_wide (T.Record src fields) = refl

type-first : (x : TypeExpr) (cs : List ℕ) → cell_at (type_cells x ++ cs) 0 ≡ cell_at (type_cells x) 0
unfolding type_cells token_cells run_cells
type-first (T.Atom t) cs = refl
type-first (T.Foreign t) cs = refl
type-first (T.Option t) cs = refl
type-first (T.Array t) cs = refl
type-first (T.Record src fields) cs = refl

pub node-records : (o : Offsets) (xs : List Node) → moved_records o node_roles node_width (length xs) (flatten (map node_cells xs)) ≡ flatten (map node_cells (map (moved_node o) xs))
node-records = records node_cells moved_node node_roles node_width node_wide node-first node-cells

pub type-records : (o : Offsets) (xs : List TypeExpr) → moved_records o type_roles type_width (length xs) (flatten (map type_cells xs)) ≡ flatten (map type_cells (map (moved_type o) xs))
type-records = records type_cells moved_type type_roles type_width type_wide type-first type-cells

-- ---- the lists that a record names

pub node_names_lem : (cells : List ℕ) (x : Node) → held_by_cells node_names cells (node_cells x) ≡ held_by_node cells x
unfolding held_by_cells held_at node_names names_from names_at node_schema node_cells token_cells run_cells held_by_node flatten
node_names_lem cells (N.Atom id raw) = refl
node_names_lem cells (N.Ident id name) = refl
node_names_lem cells (N.Bin id op lhs rhs) = refl
node_names_lem cells (N.Unary id op rhs) = refl
node_names_lem cells (N.Let id docs name rhs) = refl
node_names_lem cells (N.Fn id docs name args ret body) = refl
node_names_lem cells (N.Match id cases t b) = refl
node_names_lem cells (N.Call id target args) = refl
node_names_lem cells (N.Field id target name) = refl
node_names_lem cells (N.Cast id src lhs rhs) = refl
node_names_lem cells (N.Import id src pkgs) = refl
node_names_lem cells (N.Extern id src docs name fns) = refl
node_names_lem cells (N.Record id src fields) = refl
node_names_lem cells (N.Array id src elements) = refl

pub type_names_lem : (cells : List ℕ) (x : TypeExpr) → held_by_cells type_names cells (type_cells x) ≡ held_by_type x
unfolding held_by_cells held_at type_names names_from names_at type_schema type_cells token_cells run_cells held_by_type flatten
type_names_lem cells (T.Atom t) = refl
type_names_lem cells (T.Foreign t) = refl
type_names_lem cells (T.Option t) = refl
type_names_lem cells (T.Array t) = refl
type_names_lem cells (T.Record src fields) = refl
