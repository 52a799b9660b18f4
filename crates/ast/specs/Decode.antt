-- Reading the records that `Layout` lays out: `node_trip` and `type_trip` have that what is read is
-- what was laid out.
use Rattle.std.specs.Prelude.{Bool, List, [], ◌∷◌, ℕ, ◌+◌, ◌*◌, ◌%◌, leb, length, get_or, take, drop}
use Rattle.std.proofs.Math.Option.{Option, none, some}
use Rattle.std.specs.Prelude as R
use Rattle.lex.specs.Bytes.{if}
pub use Rattle.lex.specs.Cells.{diagnostic_at}
use Rattle.ast.specs.Layout.{node_width, type_width}
use Rattle.lex.specs.declared.tok.Token.{Token}
use Rattle.ast.specs.declared.Counts.{Counts}
use Rattle.ast.specs.declared.Run.{Run}
use Rattle.ast.specs.declared.Node.{Node}
use Rattle.ast.specs.declared.Node.TheVariants as N
use Rattle.ast.specs.declared.TypeExpr.{TypeExpr}
use Rattle.ast.specs.declared.TypeExpr.TheVariants as T

-- ---- what cells say

abbrev pub token_at : List ℕ → ℕ → Token
token_at cs j = record { kind = get_or cs j 0; start = get_or cs (j + 1) 0; len = get_or cs (j + 2) 0 }

abbrev pub run_at : List ℕ → ℕ → Run
run_at cs j = record { start = get_or cs j 0; len = get_or cs (j + 1) 0 }

abbrev pub counts_at : List ℕ → Counts
counts_at cs =
    record {
      nodes = get_or cs 0 0;
      types = get_or cs 1 0;
      cells = get_or cs 2 0;
      roots = get_or cs 3 0;
      values = get_or cs 4 0;
      diagnostics = get_or cs 5 0;
    }

-- the record that cells hold, at each kind from 1 on
unfoldable pub nodes_by_kind : List ℕ → List (Option Node)
nodes_by_kind cs =
    some (N.Atom (get_or cs 1 0) (token_at cs 2)) ∷
    some (N.Ident (get_or cs 1 0) (token_at cs 2)) ∷
    some
    (N.Bin (get_or cs 1 0) (token_at cs 2) (record { 0 = get_or cs 5 0 }) (record { 0 = get_or cs 6 0 })) ∷
    some (N.Unary (get_or cs 1 0) (token_at cs 2) (record { 0 = get_or cs 5 0 })) ∷
    some (N.Let (get_or cs 1 0) (run_at cs 2) (token_at cs 4) (record { 0 = get_or cs 7 0 })) ∷
    some
    (N.Fn (get_or cs 1 0) (run_at cs 2) (token_at cs 4) (run_at cs 7) (record { 0 = get_or cs 9 0 })
    (run_at cs 10)) ∷
    some (N.Match (get_or cs 1 0) (run_at cs 2) (token_at cs 4) (run_at cs 7)) ∷
    some (N.Call (get_or cs 1 0) (record { 0 = get_or cs 2 0 }) (run_at cs 3)) ∷
    some (N.Field (get_or cs 1 0) (record { 0 = get_or cs 2 0 }) (token_at cs 3)) ∷
    some
    (N.Cast (get_or cs 1 0) (token_at cs 2) (record { 0 = get_or cs 5 0 })
    (record { 0 = get_or cs 6 0 })) ∷
    some (N.Import (get_or cs 1 0) (token_at cs 2) (run_at cs 5)) ∷
    some (N.Extern (get_or cs 1 0) (token_at cs 2) (run_at cs 5) (token_at cs 7) (run_at cs 10)) ∷
    some (N.Record (get_or cs 1 0) (token_at cs 2) (run_at cs 5)) ∷
    some (N.Array (get_or cs 1 0) (token_at cs 2) (run_at cs 5)) ∷
    []

unfoldable pub types_by_kind : List ℕ → List (Option TypeExpr)
types_by_kind cs =
    some (T.Atom (token_at cs 1)) ∷
    some (T.Foreign (token_at cs 1)) ∷
    some (T.Option (record { 0 = get_or cs 1 0 })) ∷
    some (T.Array (record { 0 = get_or cs 1 0 })) ∷
    some (T.Record (token_at cs 1) (run_at cs 4)) ∷
    []

-- the record that cells hold, by the kind in the first; none where the kind is unknown
unfoldable pub node_of : List ℕ → Option Node
node_of cs = get_or (none ∷ nodes_by_kind cs) (get_or cs 0 0) none

unfoldable pub type_of : List ℕ → Option TypeExpr
type_of cs = get_or (none ∷ types_by_kind cs) (get_or cs 0 0) none

-- record `i` lies before the end of the array's last whole record, `size` cells a record
abbrev pub fits : ℕ → List ℕ → ℕ → Bool
fits size xs i = leb (size * i + size) (length xs)

-- the cells of record `i`; none where it lies outside
abbrev pub record_at : ℕ → List ℕ → ℕ → R.Option (List ℕ)
record_at size xs i = if (fits size xs i) (R.Some (take size (drop (size * i) xs))) R.None

-- record `i`; none where it lies outside or its kind is unknown
unfoldable pub node_at : List ℕ → ℕ → Option Node
node_at nodes i =
    if (fits node_width nodes i) (node_of (take node_width (drop (node_width * i) nodes))) none

unfoldable pub type_at : List ℕ → ℕ → Option TypeExpr
type_at types i =
    if (fits type_width types i) (type_of (take type_width (drop (type_width * i) types))) none

-- 32 bits: what an array holds of a number
abbrev pub low32 : ℕ → ℕ
low32 n = n % 4294967296

-- ---- what an answer of the code says

abbrev pub option_of : {A : Type 0} → R.Option A → Option A
option_of (R.Some a) = some a
option_of R.None = none
