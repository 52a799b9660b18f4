-- Merging two trees: the second one's numbers go on after the first one's, its positions behind the
-- first script and a line feed.
use Rattle.std.specs.Prelude.{Bool, true, false, ◌≡◌, ℕ, zero, suc, ◌+◌, ◌-◌, leb, ltb, length, get_or, take, drop, replicate}
use Rattle.std.proofs.Math.Option.{Option}
use mathlib.Core.List.{List, [], ◌∷◌, ◌++◌, map, flatten}
use Rattle.lex.specs.declared.tok.Token.{Token}
use Rattle.lex.specs.Kind.{k_eof, k_import, k_extern, k_let, k_fn, k_match}
use Rattle.lex.specs.Lex.{cut, tokens_of, faults_of}
use Rattle.rules.specs.Tree.{Arena, Tree, ok, err}
use Rattle.rules.specs.Combinators.{current, choose}
use Rattle.ast.specs.Schema as S
use Rattle.ast.specs.Schema.{Field, Members, member_schema}
use Rattle.rules.specs.Parse.{read, begin, parse, parse_roots}
use Rattle.ast.specs.declared.Run.{Run}
use Rattle.ast.specs.declared.NodeId.{NodeId}
use Rattle.ast.specs.declared.TypeExprId.{TypeExprId}
use Rattle.ast.specs.declared.Node.{Node}
use Rattle.ast.specs.declared.Node.TheVariants as N
use Rattle.ast.specs.declared.TypeExpr.{TypeExpr}
use Rattle.ast.specs.declared.TypeExpr.TheVariants as T

-- what stands before the second tree: node and type records, list cells, value numbers, and bytes
-- of the script
pub record Offsets : Type 0 where
  pub nodes : ℕ
  pub types : ℕ
  pub cells : ℕ
  pub values : ℕ
  pub bytes : ℕ

-- behind what is made of so many bytes
unfoldable pub behind : ℕ → Arena → Offsets
behind n m = record { nodes = length m.nodes; types = length m.types; cells = length m.cells; values = m.values; bytes = n }

-- ---- records

module _ (o : Offsets) where
  unfoldable pub moved_token : Token → Token
  moved_token t = record { kind = t.kind; start = o.bytes + t.start; len = t.len }

  unfoldable pub moved_run : Run → Run
  moved_run r = record { start = o.cells + r.start; len = r.len }

  unfoldable pub moved_node_id : NodeId → NodeId
  moved_node_id n = record { 0 = o.nodes + n.0 }

  unfoldable pub moved_type_id : TypeExprId → TypeExprId
  moved_type_id n = record { 0 = o.types + n.0 }

  unfoldable pub moved_node : Node → Node
  moved_node (N.Atom id raw) = N.Atom (o.values + id) (moved_token raw)
  moved_node (N.Ident id name) = N.Ident (o.values + id) (moved_token name)
  moved_node (N.Bin id op lhs rhs) = N.Bin (o.values + id) (moved_token op) (moved_node_id lhs) (moved_node_id rhs)
  moved_node (N.Unary id op rhs) = N.Unary (o.values + id) (moved_token op) (moved_node_id rhs)
  moved_node (N.Let id docs name rhs) = N.Let (o.values + id) (moved_run docs) (moved_token name) (moved_node_id rhs)
  moved_node (N.Fn id docs name args ret body) = N.Fn (o.values + id) (moved_run docs) (moved_token name) (moved_run args) (moved_type_id ret) (moved_run body)
  moved_node (N.Match id cases token body) = N.Match (o.values + id) (moved_run cases) (moved_token token) (moved_run body)
  moved_node (N.Call id target args) = N.Call (o.values + id) (moved_node_id target) (moved_run args)
  moved_node (N.Field id target name) = N.Field (o.values + id) (moved_node_id target) (moved_token name)
  moved_node (N.Cast id src lhs rhs) = N.Cast (o.values + id) (moved_token src) (moved_node_id lhs) (moved_type_id rhs)
  moved_node (N.Import id src pkgs) = N.Import (o.values + id) (moved_token src) (moved_run pkgs)
  moved_node (N.Extern id src docs name fns) = N.Extern (o.values + id) (moved_token src) (moved_run docs) (moved_token name) (moved_run fns)
  moved_node (N.Record id src fields) = N.Record (o.values + id) (moved_token src) (moved_run fields)
  moved_node (N.Array id src elements) = N.Array (o.values + id) (moved_token src) (moved_run elements)

  unfoldable pub moved_type : TypeExpr → TypeExpr
  moved_type (T.Atom t) = T.Atom (moved_token t)
  moved_type (T.Foreign t) = T.Foreign (moved_token t)
  moved_type (T.Option t) = T.Option (moved_type_id t)
  moved_type (T.Array t) = T.Array (moved_type_id t)
  moved_type (T.Record src fields) = T.Record (moved_token src) (moved_run fields)

-- ---- cells

-- what a cell says
pub data Role : Type 0 where
  -- a kind, a length, or nothing
  fixed : Role
  position : Role
  node_number : Role
  type_number : Role
  -- where a list begins
  place : Role
  value : Role

unfoldable pub added : Offsets → Role → ℕ
added o fixed = 0
added o position = o.bytes
added o node_number = o.nodes
added o type_number = o.types
added o place = o.cells
added o value = o.values

-- each cell moved by its role
unfoldable pub moved_by : Offsets → List Role → List ℕ → List ℕ
moved_by o [] cs = []
moved_by o (r ∷ rs) [] = []
moved_by o (r ∷ rs) (c ∷ cs) = (added o r + c) ∷ moved_by o rs cs

-- ---- list cells

-- the cells of a token and of a run
abbrev pub token_roles : List Role
token_roles = fixed ∷ position ∷ fixed ∷ []

abbrev pub run_roles : List Role
run_roles = place ∷ fixed ∷ []

-- the cells of fields, as the schema has them
abbrev pub cell_roles : Field → List Role
cell_roles S.value = value ∷ []
cell_roles S.token = token_roles
cell_roles S.node = node_number ∷ []
cell_roles S.type = type_number ∷ []
cell_roles (S.list m) = run_roles

abbrev pub roles_of_fields : List Field → List Role
roles_of_fields [] = []
roles_of_fields (f ∷ fs) = cell_roles f ++ roles_of_fields fs

abbrev pub member_roles : Members → List Role
member_roles m = roles_of_fields (member_schema m)

-- and of a member of each list whose members are not nodes alone

abbrev pub typed_roles : List Role
typed_roles = member_roles S.params

abbrev pub field_roles : List Role
field_roles = member_roles S.fields

abbrev pub case_roles : List Role
case_roles = member_roles S.cases

abbrev pub fn_roles : List Role
fn_roles = member_roles S.fns

-- a list that a record holds, with the cells of its members
pub record Held : Type 0 where
  pub member : List Role
  pub run : Run

-- what all its cells say
unfoldable pub roles_of : Held → List Role
roles_of h = flatten (replicate h.run.len h.member)

-- so many members of so many cells
unfoldable pub split : ℕ → ℕ → List ℕ → List (List ℕ)
split width zero cs = []
split width (suc n) cs = take width cs ∷ split width n (drop width cs)

abbrev pub cell_at : List ℕ → ℕ → ℕ
cell_at cs i = get_or cs i 0

-- the arguments and the docs of a fn of an extern
unfoldable pub held_by_fn : List ℕ → List Held
held_by_fn cs = record { member = typed_roles; run = record { start = cell_at cs 5; len = cell_at cs 6 } } ∷ record { member = token_roles; run = record { start = cell_at cs 0; len = cell_at cs 1 } } ∷ []

unfoldable pub held_by_fns : List (List ℕ) → List Held
held_by_fns fns = flatten (map held_by_fn fns)

unfoldable pub held_by_node : List ℕ → Node → List Held
held_by_node cells (N.Atom id raw) = []
held_by_node cells (N.Ident id name) = []
held_by_node cells (N.Bin id op lhs rhs) = []
held_by_node cells (N.Unary id op rhs) = []
held_by_node cells (N.Let id docs name rhs) = record { member = token_roles; run = docs } ∷ []
held_by_node cells (N.Fn id docs name args ret body) = record { member = typed_roles; run = args } ∷ record { member = token_roles; run = docs } ∷ []
held_by_node cells (N.Match id cases token body) = record { member = case_roles; run = cases } ∷ []
held_by_node cells (N.Call id target args) = []
held_by_node cells (N.Field id target name) = []
held_by_node cells (N.Cast id src lhs rhs) = []
held_by_node cells (N.Import id src pkgs) = record { member = token_roles; run = pkgs } ∷ []
held_by_node cells (N.Extern id src docs name fns) = record { member = fn_roles; run = fns } ∷ (held_by_fns (split 8 fns.len (drop fns.start cells)) ++ (record { member = token_roles; run = docs } ∷ []))
held_by_node cells (N.Record id src fields) = record { member = field_roles; run = fields } ∷ []
held_by_node cells (N.Array id src elements) = []

unfoldable pub held_by_type : TypeExpr → List Held
held_by_type (T.Atom t) = []
held_by_type (T.Foreign t) = []
held_by_type (T.Option t) = []
held_by_type (T.Array t) = []
held_by_type (T.Record src fields) = record { member = typed_roles; run = fields } ∷ []

unfoldable pub held_in : Arena → List Held
held_in m = flatten (map (held_by_node m.cells) m.nodes) ++ flatten (map held_by_type m.types)

-- a cell is one of a list's
unfoldable pub covers : Held → ℕ → Bool
covers h i = elim (leb h.run.start i) [ true ↦ ltb (i - h.run.start) (length (roles_of h)) | false ↦ false ]

-- what a cell says: as the list that it belongs to has it; all others are node numbers, as in
-- bodies, also in that of a default which a later one replaced, and which no record holds
unfoldable pub role_in : List Held → ℕ → Role
role_in [] i = node_number
role_in (h ∷ hs) i = elim (covers h i) [ true ↦ get_or (roles_of h) (i - h.run.start) node_number | false ↦ role_in hs i ]

-- cells from `i` on
unfoldable pub moved_cells : Offsets → List Held → ℕ → List ℕ → List ℕ
moved_cells o hs i [] = []
moved_cells o hs i (c ∷ cs) = (added o (role_in hs i) + c) ∷ moved_cells o hs (suc i) cs

-- ---- trees

-- `m`, and behind it `u`, whose tokens stand `n` bytes later
unfoldable pub merged_arena : ℕ → Arena → Arena → Arena
merged_arena n m u = let o = behind n m in record {
  nodes = m.nodes ++ map (moved_node o) u.nodes;
  types = m.types ++ map (moved_type o) u.types;
  cells = m.cells ++ moved_cells o (held_in u) 0 u.cells;
  values = m.values + u.values;
}

-- the tree of a script of `n` bytes, and behind it another, a line feed between them
unfoldable pub merged_tree : ℕ → Tree → Tree → Tree
merged_tree n t u = record { arena = merged_arena (n + 1) t.arena u.arena; roots = t.roots ++ map (λ i. length t.arena.nodes + i) u.roots }

-- ---- scripts

-- two scripts, a line feed between them
unfoldable pub joined : List ℕ → List ℕ → List ℕ
joined s₁ s₂ = s₁ ++ (10 ∷ s₂)

-- let, fn, import, extern or match; or nothing
unfoldable pub begins_item : ℕ → Bool
begins_item = choose ((k_eof, true) ∷ (k_import, true) ∷ (k_extern, true) ∷ (k_let, true) ∷ (k_fn, true) ∷ (k_match, true) ∷ []) false

module _ (power : ℕ → Option ℕ) where
  -- the docs that wait at the end of a strict reading
  unfoldable pub docs_at_end : List ℕ → List Token
  docs_at_end script = elim (parse_roots power script (begin script)) [ ok roots s ↦ s.docs | err e s ↦ s.docs ]

  -- what is asked of two scripts that strict mode accepts: the first has no lexer error and no docs
  -- waiting at its end, the second has no token or begins with let, fn, import, extern or match
  pub record Joinable (s₁ s₂ : List ℕ) : Type 0 where
    pub faultless : faults_of 0 (cut s₁) ≡ []
    pub no_docs : docs_at_end s₁ ≡ []
    pub begins : begins_item (current (tokens_of (cut s₂))).kind ≡ true

  -- the merged tree is the tree of both scripts joined
  abbrev pub Joins : Type 0
  Joins = (s₁ s₂ : List ℕ) (t₁ t₂ : Tree) → parse power s₁ ≡ read t₁ [] → parse power s₂ ≡ read t₂ [] → Joinable s₁ s₂ → parse power (joined s₁ s₂) ≡ read (merged_tree (length s₁) t₁ t₂) []
