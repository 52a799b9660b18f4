-- The parts of a node's record, in the order in which they are compared: what each is, and in which
-- cell it stands.
use Rattle.std.proofs.Math.Option.{Option, some}
use Rattle.std.specs.Prelude.{List, [], ◌∷◌, ◌++◌, map, ℕ, ◌+◌, ◌*◌, ◌/◌, ◌%◌, eqb, get_or}
use Rattle.ast.specs.Schema.{Field, cell_count, node_schema}
use Rattle.rules.specs.Shape.{Word, TypeShape, Params, FnShape, Shape, Shapes, FieldShapes}
use Rattle.rules.specs.Shape.{CaseShapes, Env, w, words, params, shapes, fields, cases, fns}
use Rattle.lex.specs.Bytes.{if}
use Rattle.ast.specs.Decode.{token_at, run_at}
use Rattle.ast.specs.Schema.{sort_of}
use Rattle.compare.specs.Agree.{Agree}

pub data Part : Type 0 where
  nothing : Part
  a_word : Part
  some_words : Part
  some_params : Part
  a_type : Part
  some_fns : Part
  some_nodes : Part
  some_fields : Part
  some_cases : Part
  a_node : Part

-- what a part says
abbrev pub Value : Part → Type 0
Value nothing = ℕ
Value a_word = Word
Value some_words = List Word
Value some_params = Params
Value a_type = TypeShape
Value some_fns = List FnShape
Value some_nodes = Shapes
Value some_fields = FieldShapes
Value some_cases = CaseShapes
Value a_node = Shape

-- a part that stands in cell `o`
abbrev pub read : Env → (p : Part) → List ℕ → ℕ → Option (Value p)
read e nothing xs o = some 0
read e a_word xs o = w e (token_at xs o)
read e some_words xs o = words e (run_at xs o)
read e some_params xs o = params e (run_at xs o)
read e a_type xs o = e.type (get_or xs o 0)
read e some_fns xs o = fns e (run_at xs o)
read e some_nodes xs o = shapes e (run_at xs o)
read e some_fields xs o = fields e (run_at xs o)
read e some_cases xs o = cases e (run_at xs o)
read e a_node xs o = e.node (get_or xs o 0)

-- two parts of one sort agree
unfoldable pub PartAgrees : Env → Env → Part → List ℕ → ℕ → List ℕ → ℕ → Type 0
PartAgrees e e' p xs o xs' o' = Agree (read e p xs o) (read e' p xs' o')

-- the sorts by number
unfoldable pub part_of : ℕ → Part
part_of k =
    if (eqb k 1) a_word
    (if (eqb k 2) some_words
    (if (eqb k 3) some_params
    (if (eqb k 4) a_type
    (if (eqb k 5) some_fns
    (if (eqb k 6) some_nodes
    (if (eqb k 7) some_fields
    (if (eqb k 8) some_cases
    (if (eqb k 9) a_node nothing))))))))

-- the fields of a record as numbers, from cell `i` on: the sort and the cell, and 0 for what is not
-- compared
abbrev codes : ℕ → List Field → List ℕ
codes i [] = []
codes i (f ∷ fs) = if (eqb (sort_of f) 0) 0 (16 * sort_of f + i) ∷ codes (i + cell_count f) fs

-- fields of a kind by their places in the schema; that at place 0 is a value, and is not compared
abbrev fields_of : ℕ → List ℕ → List ℕ
fields_of kind places = map (λ x. get_or (codes 1 (get_or node_schema kind [])) x 0) places

-- six parts for each kind from 0 on, the last being the child, or the list of nodes or of fields,
-- that is compared last; behind them another order for an operator, its right side last, and for a
-- call, its arguments last
unfoldable pub parts : List ℕ
parts =
    fields_of 0 (0 ∷ 0 ∷ 0 ∷ 0 ∷ 0 ∷ 0 ∷ []) ++
    -- Atom, Ident, Bin, Unary
    fields_of 1 (1 ∷ 0 ∷ 0 ∷ 0 ∷ 0 ∷ 0 ∷ []) ++
    fields_of 2 (1 ∷ 0 ∷ 0 ∷ 0 ∷ 0 ∷ 0 ∷ []) ++
    fields_of 3 (1 ∷ 3 ∷ 0 ∷ 0 ∷ 0 ∷ 2 ∷ []) ++
    fields_of 4 (1 ∷ 0 ∷ 0 ∷ 0 ∷ 0 ∷ 2 ∷ []) ++
    -- Let, Fn, Match
    fields_of 5 (1 ∷ 2 ∷ 0 ∷ 0 ∷ 0 ∷ 3 ∷ []) ++
    fields_of 6 (1 ∷ 2 ∷ 3 ∷ 4 ∷ 0 ∷ 5 ∷ []) ++
    fields_of 7 (1 ∷ 2 ∷ 0 ∷ 0 ∷ 0 ∷ 3 ∷ []) ++
    -- Call, Field, Cast
    fields_of 8 (2 ∷ 0 ∷ 0 ∷ 0 ∷ 0 ∷ 1 ∷ []) ++
    fields_of 9 (2 ∷ 0 ∷ 0 ∷ 0 ∷ 0 ∷ 1 ∷ []) ++
    fields_of 10 (1 ∷ 3 ∷ 0 ∷ 0 ∷ 0 ∷ 2 ∷ []) ++
    -- Import, Extern, Record, Array
    fields_of 11 (1 ∷ 2 ∷ 0 ∷ 0 ∷ 0 ∷ 0 ∷ []) ++
    fields_of 12 (1 ∷ 2 ∷ 3 ∷ 4 ∷ 0 ∷ 0 ∷ []) ++
    fields_of 13 (1 ∷ 0 ∷ 0 ∷ 0 ∷ 0 ∷ 2 ∷ []) ++
    fields_of 14 (1 ∷ 0 ∷ 0 ∷ 0 ∷ 0 ∷ 2 ∷ []) ++
    -- Bin and Call in another order
    fields_of 3 (1 ∷ 2 ∷ 0 ∷ 0 ∷ 0 ∷ 3 ∷ []) ++
    fields_of 8 (1 ∷ 0 ∷ 0 ∷ 0 ∷ 0 ∷ 2 ∷ [])

-- the orders in which a kind's parts are compared
pub data Ordered : ℕ → ℕ → Type 0 where
  own : {kind : ℕ} → Ordered kind kind
  right_last : Ordered 3 15
  arguments_last : Ordered 8 16

unfoldable pub sort_at : ℕ → ℕ
sort_at k = get_or parts k 0 / 16

unfoldable pub cell_at : ℕ → ℕ
cell_at k = get_or parts k 0 % 16

-- part `k` of two records in one order, from the cells `p` and `p'` on
unfoldable pub PartsAgree : Env → Env → ℕ → List ℕ → ℕ → List ℕ → ℕ → ℕ → Type 0
PartsAgree e e' order xs p xs' p' k =
    PartAgrees e e' (part_of (sort_at (6 * order + k)))
    xs (p + cell_at (6 * order + k)) xs' (p' + cell_at (6 * order + k))
