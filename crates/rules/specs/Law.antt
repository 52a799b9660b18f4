-- The law of a finished tree (Q-11): what each record names and how often, its values, its
-- resynchronisings; then the law itself.
use Rattle.std.specs.Prelude.{◌≡◌, true, false, List, [], ◌∷◌, ◌++◌, map, ℕ, zero, suc, ◌+◌, ◌≤◌, ◌<◌, eqb, length}
use Rattle.std.proofs.Math.Option.{Option, none, some}
use Rattle.lex.specs.Lex.{Occurrence}
use Rattle.lex.specs.declared.diagnostic.Diagnostic.{Diagnostic}
use Rattle.rules.specs.Tree.{Arena, Tree, ok, err}
use Rattle.rules.specs.Parse.{read, begin, parse, parse_collect, parse_roots_collect}
use Rattle.ast.specs.Lists.{map₁, map₂, and_then, Decoder, decoded, chain, number, token, run, list_at}
use Rattle.ast.specs.declared.Run.{Run}
use Rattle.ast.specs.declared.Node.{Node}
use Rattle.ast.specs.declared.Node.TheVariants as N
use Rattle.ast.specs.declared.TypeExpr.{TypeExpr}
use Rattle.ast.specs.declared.TypeExpr.TheVariants as T

-- ---- children

-- what a record names: a node or a type, by its number
pub data Child : Type 0 where
  a_node : ℕ → Child
  a_type : ℕ → Child

-- what the members of a run name, `member` reading the cells of one; none where the run lies
-- outside
unfoldable pub listed : Decoder (List Child) → List ℕ → Run → Option (List Child)
listed member cells r = list_at member [] ◌++◌ cells r

-- a member that is a node, as in a body, a call's arguments or an array
unfoldable pub node_in : Decoder (List Child)
node_in = chain number (λ i. decoded (some (a_node i ∷ [])))

unfoldable pub type_in : Decoder (List Child)
type_in = chain number (λ j. decoded (some (a_type j ∷ [])))

-- a name and its value
unfoldable pub field_in : Decoder (List Child)
field_in = chain token (λ t. node_in)

-- a name and its type
unfoldable pub param_in : Decoder (List Child)
param_in = chain token (λ t. type_in)

-- a case: its token, its condition, its body
unfoldable pub case_in : List ℕ → Decoder (List Child)
case_in cells = chain token (λ t. chain node_in (λ c. chain run (λ r. decoded (map₁ (λ b. c ++ b) (listed node_in cells r)))))

-- a fn of an extern: its docs, its name, its arguments, its return type
unfoldable pub fn_in : List ℕ → Decoder (List Child)
fn_in cells = chain run (λ docs. chain token (λ t. chain run (λ r. chain type_in (λ c. decoded (map₁ (λ a. a ++ c) (listed param_in cells r))))))

-- the children of a node, in the order of its fields; none where a list of them lies outside
unfoldable pub children_of : List ℕ → Node → Option (List Child)
children_of cells (N.Atom id raw) = some []
children_of cells (N.Ident id name) = some []
children_of cells (N.Bin id op lhs rhs) = some (a_node lhs.0 ∷ a_node rhs.0 ∷ [])
children_of cells (N.Unary id op rhs) = some (a_node rhs.0 ∷ [])
children_of cells (N.Let id docs name rhs) = some (a_node rhs.0 ∷ [])
children_of cells (N.Fn id docs name args ret body) = map₂ (λ a b. a ++ (a_type ret.0 ∷ b)) (listed param_in cells args) (listed node_in cells body)
children_of cells (N.Match id cases t body) = map₂ ◌++◌ (listed (case_in cells) cells cases) (listed node_in cells body)
children_of cells (N.Call id target args) = map₁ (λ a. a_node target.0 ∷ a) (listed node_in cells args)
children_of cells (N.Field id target name) = some (a_node target.0 ∷ [])
children_of cells (N.Cast id src lhs rhs) = some (a_node lhs.0 ∷ a_type rhs.0 ∷ [])
children_of cells (N.Import id src pkgs) = some []
children_of cells (N.Extern id src docs name fns) = listed (fn_in cells) cells fns
children_of cells (N.Record id src fields) = listed field_in cells fields
children_of cells (N.Array id src elements) = listed node_in cells elements

-- the types inside of a type
unfoldable pub inner_of : List ℕ → TypeExpr → Option (List Child)
inner_of cells (T.Atom t) = some []
inner_of cells (T.Foreign t) = some []
inner_of cells (T.Option t) = some (a_type t.0 ∷ [])
inner_of cells (T.Array t) = some (a_type t.0 ∷ [])
inner_of cells (T.Record src fields) = listed param_in cells fields

-- ---- how often

-- 1 where they are the same, else 0
unfoldable pub same : Child → Child → ℕ
same (a_node i) (a_node k) = elim (eqb i k) [ true ↦ 1 | false ↦ 0 ]
same (a_node i) (a_type k) = 0
same (a_type j) (a_node k) = 0
same (a_type j) (a_type k) = elim (eqb j k) [ true ↦ 1 | false ↦ 0 ]

-- how often it occurs in a list
unfoldable pub times : Child → List Child → ℕ
times c [] = 0
times c (d ∷ ds) = same c d + times c ds

-- the children of all records of a list; none where those of one are
unfoldable pub all_of : {R : Type 0} → (R → Option (List Child)) → List R → Option (List Child)
all_of f [] = some []
all_of f (x ∷ xs) = map₂ ◌++◌ (f x) (all_of f xs)

-- roots and children: the children of all nodes and types, orphans included
unfoldable pub occurrences : Tree → Option (List Child)
occurrences t = map₁ (λ cs. map a_node t.roots ++ cs) (map₂ ◌++◌ (all_of (children_of t.arena.cells) t.arena.nodes) (all_of (inner_of t.arena.cells) t.arena.types))

-- ---- by number

unfoldable pub nth : {A : Type 0} → List A → ℕ → Option A
nth [] i = none
nth (x ∷ xs) zero = some x
nth (x ∷ xs) (suc i) = nth xs i

unfoldable pub children_at : Arena → ℕ → Option (List Child)
children_at m k = and_then (nth m.nodes k) (children_of m.cells)

unfoldable pub inner_at : Arena → ℕ → Option (List Child)
inner_at m k = and_then (nth m.types k) (inner_of m.cells)

-- ---- values

-- the value numbers that a node takes besides its own
unfoldable pub arguments_of : Node → ℕ
arguments_of (N.Atom id raw) = 0
arguments_of (N.Ident id name) = 0
arguments_of (N.Bin id op lhs rhs) = 0
arguments_of (N.Unary id op rhs) = 0
arguments_of (N.Let id docs name rhs) = 0
arguments_of (N.Fn id docs name args ret body) = args.len
arguments_of (N.Match id cases t body) = 0
arguments_of (N.Call id target args) = 0
arguments_of (N.Field id target name) = 0
arguments_of (N.Cast id src lhs rhs) = 0
arguments_of (N.Import id src pkgs) = 0
arguments_of (N.Extern id src docs name fns) = 0
arguments_of (N.Record id src fields) = 0
arguments_of (N.Array id src elements) = 0

-- the arguments of all Fn nodes
unfoldable pub all_arguments : List Node → ℕ
all_arguments [] = 0
all_arguments (x ∷ xs) = arguments_of x + all_arguments xs

-- ---- resynchronisings

-- For each resynchronising of a collecting reading, how many tokens are taken when it begins.
-- `recover` alone resynchronises: once after each error that is gathered, from the state in which
-- the root failed, and the error is kept with the tokens taken before that state. So it is in the
-- Rust: parse_roots_collect pushes the error and calls synchronize_root. No tree comes of 10, and
-- no list here.
unfoldable pub resynchronisings : (ℕ → Option ℕ) → List ℕ → List ℕ
resynchronisings power script = elim (parse_roots_collect power script (begin script)) [ ok g s ↦ map (λ (e : Occurrence). e.after) g.errors | err e s ↦ [] ]

-- each number is above the one before it
abbrev pub Rising : List ℕ → Type 0
Rising [] = Unit {0}
Rising (m ∷ []) = Unit {0}
Rising (m ∷ (n ∷ ns)) = (m < n) × Rising (n ∷ ns)

-- ---- the law, sentence by sentence

-- a record's children are found, and what `child` names among them is below `k`
abbrev pub FoundBelow : (ℕ → Child) → ℕ → Option (List Child) → Type 0
FoundBelow child k found = (cs : List Child) × (found ≡ some cs) × ((i : ℕ) → 0 < times (child i) cs → i < k)

-- nodes and types are numbered apart: a child is a node of a node, or a type of a type
pub record Below (m : Arena) : Type 0 where
  pub nodes : (k : ℕ) → k < length m.nodes → FoundBelow a_node k (children_at m k)
  pub types : (k : ℕ) → k < length m.types → FoundBelow a_type k (inner_at m k)

-- all roots and children are found, none occurs twice, and each is a record of the tree
pub record Once (tree : Tree) : Type 0 where
  pub all : List Child
  pub found : occurrences tree ≡ some all
  pub nodes : (i : ℕ) → times (a_node i) all ≤ 1
  pub types : (j : ℕ) → times (a_type j) all ≤ 1
  pub nodes_inside : (i : ℕ) → 0 < times (a_node i) all → i < length tree.arena.nodes
  pub types_inside : (j : ℕ) → 0 < times (a_type j) all → j < length tree.arena.types

pub record AtMostBytes (script : List ℕ) (m : Arena) : Type 0 where
  pub nodes : length m.nodes ≤ length script
  pub types : length m.types ≤ length script
  pub values : m.values ≤ length script

-- The law of a finished tree: a field for each sentence of Q-11, in its order. `begun` has for each
-- resynchronising of the reading how many tokens were taken when it began.
pub record Law (script : List ℕ) (tree : Tree) (begun : List ℕ) : Type 0 where
  -- 'Each child's number is below its parent's.'
  pub below : Below tree.arena
  -- 'No node occurs twice among roots and children.'
  pub once : Once tree
  -- 'The value count is the number of nodes plus the arguments of all Fn nodes, orphans included;
  -- where collecting gathers one of 11 to 23 it is at least that.' It is exactly that, then too.
  pub values : tree.arena.values ≡ length tree.arena.nodes + all_arguments tree.arena.nodes
  -- 'Nodes, types and values are each at most the number of bytes.'
  pub few : AtMostBytes script tree.arena
  -- 'From the beginning of one resynchronising to the beginning of the next at least one token is
  -- taken.'
  pub takes : Rising begun

-- 'for both modes .., for every returned tree', `power` having the infix signs
pub record TreeLaw (power : ℕ → Option ℕ) : Type 0 where
  -- strict mode never resynchronises
  pub strict : (script : List ℕ) (tree : Tree) (es : List Diagnostic) → parse power script ≡ read tree es → Law script tree []
  pub collecting : (script : List ℕ) (tree : Tree) (es : List Diagnostic) → parse_collect power script ≡ read tree es → Law script tree (resynchronisings power script)
