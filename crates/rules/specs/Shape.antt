-- Same shape: what is left of a tree without positions, node numbers, value numbers and a case's
-- own token.
use Rattle.std.specs.Prelude.{true, false, List, [], ◌∷◌, ℕ, take, drop}
use Rattle.std.proofs.Math.Option.{Option, none, some}
use Rattle.lex.specs.Spelling.{has_spelling, spelling_start, well_formed}
use Rattle.rules.specs.Tree.{Arena, Tree}
use Rattle.lex.specs.declared.tok.Token.{Token}
use Rattle.ast.specs.Lists.{map₁, map₂, map₃, map₄, map₅, Decoder, number, token, run, resolve, both, list_at}
use Rattle.ast.specs.Tabulate.{lookup, tabulate}
use Rattle.ast.specs.declared.Run.{Run}
use Rattle.ast.specs.declared.Node.{Node}
use Rattle.ast.specs.declared.Node.TheVariants as N
use Rattle.ast.specs.declared.TypeExpr.{TypeExpr}
use Rattle.ast.specs.declared.TypeExpr.TheVariants as T

-- ---- words

-- a token without its place: its kind, and its spelling where the kind does not fix it
pub record Word : Type 0 where
  pub kind : ℕ
  pub spelling : List ℕ

-- what a token says
unfoldable pub word_of : List ℕ → Token → Word
word_of script t = record { kind = t.kind; spelling = elim (has_spelling t.kind) [ true ↦ take t.len (drop (spelling_start script t) script) | false ↦ [] ] }

unfoldable pub word : List ℕ → Token → Option Word
word script t = elim (well_formed script t) [ true ↦ some (word_of script t) | false ↦ none ]

-- ---- shapes

mutual
  pub data TypeShape : Type 0 where
    atom_t : Word → TypeShape
    foreign_t : Word → TypeShape
    option_t : TypeShape → TypeShape
    array_t : TypeShape → TypeShape
    record_t : Word → Params → TypeShape
    deriving Discrete as TypeShape-discrete

  -- names with their types: a fn's arguments, a record type's fields
  pub data Params : Type 0 where
    no_param : Params
    param : Word → TypeShape → Params → Params
    deriving Discrete as Params-discrete

-- a fn of an extern
pub record FnShape : Type 0 where
  pub docs : List Word
  pub name : Word
  pub args : Params
  pub ret : TypeShape

mutual
  pub data Shape : Type 0 where
    atom : (raw : Word) → Shape
    ident : (name : Word) → Shape
    bin : (op : Word) → (lhs rhs : Shape) → Shape
    unary : (op : Word) → (rhs : Shape) → Shape
    let_s : (docs : List Word) → (name : Word) → (rhs : Shape) → Shape
    fn_s : (docs : List Word) → (name : Word) → (args : Params) → (ret : TypeShape) → (body : Shapes) → Shape
    match_s : (cases : CaseShapes) → (default : Word) → (body : Shapes) → Shape
    call : (target : Shape) → (args : Shapes) → Shape
    field : (target : Shape) → (name : Word) → Shape
    cast : (src : Word) → (lhs : Shape) → (rhs : TypeShape) → Shape
    import_s : (src : Word) → (pkgs : List Word) → Shape
    extern_s : (src : Word) → (docs : List Word) → (name : Word) → (fns : List FnShape) → Shape
    record_s : (src : Word) → (fields : FieldShapes) → Shape
    array : (src : Word) → (members : Shapes) → Shape

  pub data Shapes : Type 0 where
    no_shape : Shapes
    shape : Shape → Shapes → Shapes
    deriving Discrete as Shapes-discrete

  pub data FieldShapes : Type 0 where
    no_field : FieldShapes
    field_s : (key : Word) → (value : Shape) → FieldShapes → FieldShapes

  pub data CaseShapes : Type 0 where
    no_case : CaseShapes
    case_s : (condition : Shape) → (body : Shapes) → CaseShapes → CaseShapes

-- ---- the shape of a record, by those of the records before it

pub record Env : Type 0 where
  pub script : List ℕ
  pub cells : List ℕ
  pub type : ℕ → Option TypeShape
  pub node : ℕ → Option Shape

module _ (e : Env) where
  unfoldable pub w : Token → Option Word
  w t = word e.script t

  unfoldable pub word_in : Decoder Word
  word_in = resolve token w

  unfoldable pub param_in : Decoder (Word × TypeShape)
  param_in = both word_in (resolve number e.type)

  unfoldable pub field_in : Decoder (Word × Shape)
  field_in = both word_in (resolve number e.node)

  unfoldable pub words : Run → Option (List Word)
  words r = list_at word_in [] ◌∷◌ e.cells r

  unfoldable pub params : Run → Option Params
  params r = list_at param_in no_param (λ p. param p.0 p.1) e.cells r

  unfoldable pub shapes : Run → Option Shapes
  shapes r = list_at (resolve number e.node) no_shape shape e.cells r

  unfoldable pub fields : Run → Option FieldShapes
  fields r = list_at field_in no_field (λ p. field_s p.0 p.1) e.cells r

  -- a case's own token must be well formed like any other; the shape has it not
  unfoldable pub case_in : Decoder ((Word × Shape) × Shapes)
  case_in = both (both word_in (resolve number e.node)) (resolve run shapes)

  unfoldable pub cases : Run → Option CaseShapes
  cases r = list_at case_in no_case (λ c. case_s c.0.1 c.1) e.cells r

  unfoldable pub fn_in : Decoder (((List Word × Word) × Params) × TypeShape)
  fn_in = both (both (both (resolve run words) word_in) (resolve run params)) (resolve number e.type)

  unfoldable pub fns : Run → Option (List FnShape)
  fns r = list_at fn_in [] (λ f. ◌∷◌ (record { docs = f.0.0.0; name = f.0.0.1; args = f.0.1; ret = f.1 })) e.cells r

  unfoldable pub type_shape : TypeExpr → Option TypeShape
  type_shape (T.Atom t) = map₁ atom_t (w t)
  type_shape (T.Foreign t) = map₁ foreign_t (w t)
  type_shape (T.Option t) = map₁ option_t (e.type t.0)
  type_shape (T.Array t) = map₁ array_t (e.type t.0)
  type_shape (T.Record src fs) = map₂ record_t (w src) (params fs)

  unfoldable pub node_shape : Node → Option Shape
  node_shape (N.Atom id raw) = map₁ atom (w raw)
  node_shape (N.Ident id name) = map₁ ident (w name)
  node_shape (N.Bin id op lhs rhs) = map₃ bin (w op) (e.node lhs.0) (e.node rhs.0)
  node_shape (N.Unary id op rhs) = map₂ unary (w op) (e.node rhs.0)
  node_shape (N.Let id docs name rhs) = map₃ let_s (words docs) (w name) (e.node rhs.0)
  node_shape (N.Fn id docs name args ret body) = map₅ fn_s (words docs) (w name) (params args) (e.type ret.0) (shapes body)
  node_shape (N.Match id cs t b) = map₃ match_s (cases cs) (w t) (shapes b)
  node_shape (N.Call id target args) = map₂ call (e.node target.0) (shapes args)
  node_shape (N.Field id target name) = map₂ field (e.node target.0) (w name)
  node_shape (N.Cast id src lhs rhs) = map₃ cast (w src) (e.node lhs.0) (e.type rhs.0)
  node_shape (N.Import id src pkgs) = map₂ import_s (w src) (words pkgs)
  node_shape (N.Extern id src docs name fs) = map₄ extern_s (w src) (words docs) (w name) (fns fs)
  node_shape (N.Record id src fs) = map₂ record_s (w src) (fields fs)
  node_shape (N.Array id src ms) = map₂ array (w src) (shapes ms)

-- ---- a tree's shape

module _ (script : List ℕ) (m : Arena) where
  -- the types of a tree
  unfoldable pub type_in : (ℕ → Option TypeShape) → TypeExpr → Option TypeShape
  type_in types x = type_shape (record { script = script; cells = m.cells; type = types; node = λ i. none }) x

  unfoldable pub type_shape_at : ℕ → Option TypeShape
  type_shape_at = lookup (tabulate type_in [] m.types)

  -- its nodes
  unfoldable pub node_in : (ℕ → Option Shape) → Node → Option Shape
  node_in nodes x = node_shape (record { script = script; cells = m.cells; type = type_shape_at; node = nodes }) x

  unfoldable pub node_shape_at : ℕ → Option Shape
  node_shape_at = lookup (tabulate node_in [] m.nodes)

-- the shapes of numbered nodes, in order
unfoldable pub shapes_of : (ℕ → Option Shape) → List ℕ → Option Shapes
shapes_of node [] = some no_shape
shapes_of node (i ∷ is) = map₂ shape (node i) (shapes_of node is)

-- a tree's shape: that of its roots
unfoldable pub shape_of : List ℕ → Tree → Option Shapes
shape_of script t = shapes_of (node_shape_at script t.arena) t.roots
