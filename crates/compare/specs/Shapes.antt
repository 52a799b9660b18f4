-- The shape of a tree in lent arrays: that of `rules`, its records read by the decoders of `ast`.
use Rattle.std.proofs.Math.Option.{Option, none}
use Rattle.std.specs.Prelude.{List, ℕ, ◌*◌, leb, length, get_or, take}
use Rattle.ast.specs.Layout.{node_width, type_width}
use Rattle.rules.specs.Shape.{TypeShape, Shape, Shapes, Env, type_shape, node_shape, shapes_of}
use Rattle.ast.specs.Lists.{and_then}
use Rattle.ast.specs.declared.Node.{Node}
use Rattle.ast.specs.declared.TypeExpr.{TypeExpr}
use Rattle.lex.specs.Bytes.{if}
use Rattle.ast.specs.Decode.{fits, node_at, type_at}
use Rattle.ast.specs.Tabulate.{entries_below}
use Rattle.ast.specs.Answer.{Lent, cells_of}
use Rattle.compare.specs.declared.view.View as V

-- an unknown record has no shape
abbrev pub type_row : (script cells : List ℕ) → (ℕ → Option TypeShape) → Option TypeExpr
    → Option TypeShape
type_row script cells types o =
    and_then o
    (type_shape (record { script = script; cells = cells; type = types; node = λ i. none }))

abbrev pub node_row : (script cells : List ℕ) → (ℕ → Option TypeShape) → (ℕ → Option Shape)
    → Option Node → Option Shape
node_row script cells types nodes o =
    and_then o (node_shape (record { script = script; cells = cells; type = types; node = nodes }))

-- what lists of tokens are read from
abbrev pub word_env : (script cells : List ℕ) → Env
word_env script cells =
    record { script = script; cells = cells; type = λ i. none; node = λ i. none }

-- the shapes of the types before `n`
unfoldable pub types_below : (script cells types : List ℕ) → ℕ → ℕ → Option TypeShape
types_below script cells types n = entries_below (type_row script cells) (type_at types) n

abbrev pub type_env : (script cells types : List ℕ) → ℕ → Env
type_env script cells types n =
    record {
      script = script;
      cells = cells;
      type = types_below script cells types n;
      node = λ i. none;
    }

-- what a comparison reads of a tree: the script, the records, the list cells in use, and how many
-- types there are
pub record View : Type 0 where
  pub script : List ℕ
  pub nodes : List ℕ
  pub types : List ℕ
  pub cells : List ℕ
  pub type_count : ℕ

abbrev pub view : (script nodes types cells : List ℕ) → ℕ → View
view script nodes types cells type_count =
    record {
      script = script;
      nodes = nodes;
      types = types;
      cells = cells;
      type_count = type_count;
    }

-- what the code's view of a tree shows
abbrev pub seen : V.View → View
seen v = view v.script.now v.nodes.now v.types.now v.cells.now v.type_count

-- its types
abbrev pub types_in : View → ℕ → Option TypeShape
types_in v = types_below v.script v.cells v.types v.type_count

-- its nodes before `n`
unfoldable pub nodes_below : View → ℕ → ℕ → Option Shape
nodes_below v n = entries_below (node_row v.script v.cells (types_in v)) (node_at v.nodes) n

abbrev pub env_below : View → ℕ → Env
env_below v n =
    record {
      script = v.script;
      cells = v.cells;
      type = types_in v;
      node = nodes_below v n;
    }

-- the kind of a record; 0 where it lies outside or its kind is unknown
unfoldable pub kind_at : (width known : ℕ) → List ℕ → ℕ → ℕ
kind_at width known xs i =
    if (fits width xs i) (if (leb (get_or xs (width * i) 0) known) (get_or xs (width * i) 0) 0) 0

abbrev pub type_kind : List ℕ → ℕ → ℕ
type_kind = kind_at type_width 5

abbrev pub node_kind : List ℕ → ℕ → ℕ
node_kind = kind_at node_width 14

abbrev pub view_of : Lent → View
view_of l = view l.script l.nodes l.types (cells_of l) l.counts.types

-- the shapes of the first `count` roots, those being nodes before `n`: none where anything that
-- they reach is malformed, or a root lies outside its array
unfoldable pub root_shapes : View → ℕ → List ℕ → ℕ → Option Shapes
root_shapes v n roots count =
    if (leb count (length roots)) (shapes_of (nodes_below v n) (take count roots)) none

-- a tree's shape: that of its roots
abbrev pub shape_in : Lent → Option Shapes
shape_in l = root_shapes (view_of l) l.counts.nodes l.roots l.counts.roots
