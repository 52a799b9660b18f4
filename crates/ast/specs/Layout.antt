-- Where a tree's records lie in the lent arrays.
use Rattle.std.specs.Prelude.{List, [], ◌∷◌, ◌++◌, ℕ}
pub use Rattle.lex.specs.Cells.{zeros, padded}
unfoldable pub use Rattle.lex.specs.Cells.{diagnostic_cells}
use Rattle.lex.specs.declared.tok.Token.{Token}
use Rattle.ast.specs.declared.Counts.{Counts}
use Rattle.ast.specs.declared.Run.{Run}
use Rattle.ast.specs.declared.Node.{Node}
use Rattle.ast.specs.declared.Node.TheVariants as N
use Rattle.ast.specs.declared.TypeExpr.{TypeExpr}
use Rattle.ast.specs.declared.TypeExpr.TheVariants as T

-- the cells of a record
abbrev pub node_width : ℕ
node_width = 16

abbrev pub type_width : ℕ
type_width = 8

abbrev pub diagnostic_width : ℕ
diagnostic_width = 5

-- the list cells that are lent at least for each byte of the script
abbrev pub cells_per_byte : ℕ
cells_per_byte = 8

unfoldable pub token_cells : Token → List ℕ
token_cells t = t.kind ∷ t.start ∷ t.len ∷ []

unfoldable pub run_cells : Run → List ℕ
run_cells r = r.start ∷ r.len ∷ []

unfoldable pub node_cells : Node → List ℕ
node_cells (N.Atom id raw) = padded node_width (1 ∷ id ∷ token_cells raw)
node_cells (N.Ident id name) = padded node_width (2 ∷ id ∷ token_cells name)
node_cells (N.Bin id op lhs rhs) = padded node_width (3 ∷ id ∷ token_cells op ++ (lhs.0 ∷ rhs.0 ∷ []))
node_cells (N.Unary id op rhs) = padded node_width (4 ∷ id ∷ token_cells op ++ (rhs.0 ∷ []))
node_cells (N.Let id docs name rhs) = padded node_width (5 ∷ id ∷ run_cells docs ++ token_cells name ++ (rhs.0 ∷ []))
node_cells (N.Fn id docs name args ret body) = padded node_width (6 ∷ id ∷ run_cells docs ++ token_cells name ++ run_cells args ++ (ret.0 ∷ run_cells body))
node_cells (N.Match id cases token body) = padded node_width (7 ∷ id ∷ run_cells cases ++ token_cells token ++ run_cells body)
node_cells (N.Call id target args) = padded node_width (8 ∷ id ∷ target.0 ∷ run_cells args)
node_cells (N.Field id target name) = padded node_width (9 ∷ id ∷ target.0 ∷ token_cells name)
node_cells (N.Cast id src lhs rhs) = padded node_width (10 ∷ id ∷ token_cells src ++ (lhs.0 ∷ rhs.0 ∷ []))
node_cells (N.Import id src pkgs) = padded node_width (11 ∷ id ∷ token_cells src ++ run_cells pkgs)
node_cells (N.Extern id src docs name fns) = padded node_width (12 ∷ id ∷ token_cells src ++ run_cells docs ++ token_cells name ++ run_cells fns)
node_cells (N.Record id src fields) = padded node_width (13 ∷ id ∷ token_cells src ++ run_cells fields)
node_cells (N.Array id src elements) = padded node_width (14 ∷ id ∷ token_cells src ++ run_cells elements)

unfoldable pub type_cells : TypeExpr → List ℕ
type_cells (T.Atom t) = padded type_width (1 ∷ token_cells t)
type_cells (T.Foreign t) = padded type_width (2 ∷ token_cells t)
type_cells (T.Option t) = padded type_width (3 ∷ t.0 ∷ [])
type_cells (T.Array t) = padded type_width (4 ∷ t.0 ∷ [])
type_cells (T.Record src fields) = padded type_width (5 ∷ token_cells src ++ run_cells fields)

-- the counts; `counts_at` reads them again
abbrev pub count_cells : Counts → List ℕ
count_cells c = c.nodes ∷ c.types ∷ c.cells ∷ c.roots ∷ c.values ∷ c.diagnostics ∷ []
