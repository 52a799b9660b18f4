-- The same on the cells of the arrays: which offset each cell of a record is moved by, and where
-- records name lists.
use mathlib.Core.List.{List, [], ◌∷◌, ◌++◌, map, flatten}
use Rattle.std.specs.Prelude.{ℕ, zero, suc, ◌+◌, ◌-◌, length, get_or, take, drop, replicate}
use Rattle.ast.specs.Layout.{node_width, type_width}
use Rattle.ast.specs.Schema as S
use Rattle.ast.specs.Schema.{Field, cell_count, node_schema, type_schema}
use Rattle.rules.specs.Merge.{Offsets, Role, fixed, moved_by, token_roles, typed_roles, field_roles, case_roles, fn_roles, roles_of_fields, Held, split, cell_at, held_by_fns}
use Rattle.ast.specs.declared.Run.{Run}

-- ---- records

-- a record's cells, up to its width
abbrev pub filled : ℕ → List Role → List Role
filled n rs = rs ++ replicate (n - length rs) fixed

-- the cells of a node's record and of a type's, by kind; 0 is none
unfoldable pub node_roles : List (List Role)
node_roles = map (λ fs. filled node_width (fixed ∷ roles_of_fields fs)) node_schema

unfoldable pub type_roles : List (List Role)
type_roles = map (λ fs. filled type_width (fixed ∷ roles_of_fields fs)) type_schema

-- so many records of an array
unfoldable pub moved_records : Offsets → List (List Role) → ℕ → ℕ → List ℕ → List ℕ
moved_records o roles width zero cs = []
moved_records o roles width (suc n) cs = moved_by o (get_or roles (cell_at cs 0) []) (take width cs) ++ moved_records o roles width n (drop width cs)

-- ---- lists

-- where a record names a list, with the cells of its members; the fns of an extern name lists in
-- turn
pub data Names : Type 0 where
  list : List Role → ℕ → Names
  fns : ℕ → Names

abbrev pub run_at : List ℕ → ℕ → Run
run_at cs i = record { start = cell_at cs i; len = cell_at cs (i + 1) }

unfoldable pub held_at : List ℕ → List ℕ → Names → List Held
held_at cells cs (list member i) = record { member = member; run = run_at cs i } ∷ []
held_at cells cs (fns i) = record { member = fn_roles; run = run_at cs i } ∷ held_by_fns (split 8 (cell_at cs (i + 1)) (drop (cell_at cs i) cells))

-- a field from cell `i` on: a list of nodes is left out, since a cell of no list is a node number
unfoldable pub names_at : ℕ → Field → List Names
names_at i S.value = []
names_at i S.token = []
names_at i S.node = []
names_at i S.type = []
names_at i (S.list S.nodes) = []
names_at i (S.list S.fns) = fns i ∷ []
names_at i (S.list S.tokens) = list token_roles i ∷ []
names_at i (S.list S.params) = list typed_roles i ∷ []
names_at i (S.list S.fields) = list field_roles i ∷ []
names_at i (S.list S.cases) = list case_roles i ∷ []

-- fields from cell `i` on, the last first
unfoldable pub names_from : ℕ → List Field → List Names
names_from i [] = []
names_from i (f ∷ fs) = names_from (i + cell_count f) fs ++ names_at i f

-- by kind; 0 is none
unfoldable pub node_names : List (List Names)
node_names = map (names_from 1) node_schema

unfoldable pub type_names : List (List Names)
type_names = map (names_from 1) type_schema

-- the lists of a record, by its cells
unfoldable pub held_by_cells : List (List Names) → List ℕ → List ℕ → List Held
held_by_cells names cells cs = flatten (map (held_at cells cs) (get_or names (cell_at cs 0) []))
