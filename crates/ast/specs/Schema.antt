-- The schema: what the cells of each record, and of each member of a list, hold. Encoding,
-- decoding, children, renumbering, comparison and the listing go by it.
use Rattle.std.specs.Prelude.{List, [], ◌∷◌, ℕ, ◌+◌, eqb, get_or}
use Rattle.lex.specs.Bytes.{if}
use Rattle.lex.specs.declared.tok.Token.{Token}
use Rattle.ast.specs.Layout.{token_cells, run_cells}
use Rattle.ast.specs.Decode.{token_at, run_at}
use Rattle.ast.specs.declared.Run.{Run}
use Rattle.ast.specs.declared.Node.{Node}
use Rattle.ast.specs.declared.Node.TheVariants as N
use Rattle.ast.specs.declared.TypeExpr.{TypeExpr}
use Rattle.ast.specs.declared.TypeExpr.TheVariants as T
use Rattle.ast.specs.declared.schema.Sort.{Sort}
use Rattle.ast.specs.declared.schema.Sort.TheVariants as So

-- what the members of a list are
pub data Members : Type 0 where
  -- docs, packages
  tokens : Members
  -- a name and its type: a fn's arguments, a record type's fields
  params : Members
  -- the fns of an extern
  fns : Members
  -- a body, a call's arguments, an array
  nodes : Members
  -- a name and its value
  fields : Members
  -- the cases of a match
  cases : Members

-- what a field is: a value number, a token, the number of a node or of a type, a run of a list
pub data Field : Type 0 where
  value : Field
  token : Field
  node : Field
  type : Field
  list : Members → Field

-- how many cells it takes
abbrev pub cell_count : Field → ℕ
cell_count value = 1
cell_count token = 3
cell_count node = 1
cell_count type = 1
cell_count (list m) = 2

abbrev pub cell_counts : List Field → ℕ
cell_counts [] = 0
cell_counts (f ∷ fs) = cell_count f + cell_counts fs

-- ---- the schema, in the order of the cells

-- by kind, 0 being none; the kind's own cell stands in front
unfoldable pub node_schema : List (List Field)
node_schema =
    [] ∷
    -- Atom, Ident
    (value ∷ token ∷ []) ∷
    (value ∷ token ∷ []) ∷
    -- Bin, Unary
    (value ∷ token ∷ node ∷ node ∷ []) ∷
    (value ∷ token ∷ node ∷ []) ∷
    -- Let, Fn, Match
    (value ∷ list tokens ∷ token ∷ node ∷ []) ∷
    (value ∷ list tokens ∷ token ∷ list params ∷ type ∷ list nodes ∷ []) ∷
    (value ∷ list cases ∷ token ∷ list nodes ∷ []) ∷
    -- Call, Field, Cast
    (value ∷ node ∷ list nodes ∷ []) ∷
    (value ∷ node ∷ token ∷ []) ∷
    (value ∷ token ∷ node ∷ type ∷ []) ∷
    -- Import, Extern
    (value ∷ token ∷ list tokens ∷ []) ∷
    (value ∷ token ∷ list tokens ∷ token ∷ list fns ∷ []) ∷
    -- Record, Array
    (value ∷ token ∷ list fields ∷ []) ∷
    (value ∷ token ∷ list nodes ∷ []) ∷
    []

unfoldable pub type_schema : List (List Field)
type_schema =
    [] ∷
    -- Atom, Foreign, Option, Array, Record
    (token ∷ []) ∷
    (token ∷ []) ∷
    (type ∷ []) ∷
    (type ∷ []) ∷
    (token ∷ list params ∷ []) ∷
    []

abbrev pub member_schema : Members → List Field
member_schema tokens = token ∷ []
member_schema params = token ∷ type ∷ []
member_schema fns = list tokens ∷ token ∷ list params ∷ type ∷ []
member_schema nodes = node ∷ []
member_schema fields = token ∷ node ∷ []
member_schema cases = token ∷ node ∷ list nodes ∷ []

-- the cells of a member
abbrev pub member_width : Members → ℕ
member_width m = cell_counts (member_schema m)

-- ---- what records hold

-- a field with what it holds
pub data Part : Type 0 where
  a_value : ℕ → Part
  a_token : Token → Part
  a_node : ℕ → Part
  a_type : ℕ → Part
  a_list : Members → Run → Part

unfoldable pub field_of : Part → Field
field_of (a_value n) = value
field_of (a_token t) = token
field_of (a_node i) = node
field_of (a_type j) = type
field_of (a_list m r) = list m

unfoldable pub cells_of : Part → List ℕ
cells_of (a_value n) = n ∷ []
cells_of (a_token t) = token_cells t
cells_of (a_node i) = i ∷ []
cells_of (a_type j) = j ∷ []
cells_of (a_list m r) = run_cells r

unfoldable pub parts_of : Node → List Part
parts_of (N.Atom id raw) = a_value id ∷ a_token raw ∷ []
parts_of (N.Ident id name) = a_value id ∷ a_token name ∷ []
parts_of (N.Bin id op lhs rhs) = a_value id ∷ a_token op ∷ a_node lhs.0 ∷ a_node rhs.0 ∷ []
parts_of (N.Unary id op rhs) = a_value id ∷ a_token op ∷ a_node rhs.0 ∷ []
parts_of (N.Let id docs name rhs) = a_value id ∷ a_list tokens docs ∷ a_token name ∷ a_node rhs.0 ∷ []
parts_of (N.Fn id docs name args ret body) = a_value id ∷ a_list tokens docs ∷ a_token name ∷ a_list params args ∷ a_type ret.0 ∷ a_list nodes body ∷ []
parts_of (N.Match id branches t body) = a_value id ∷ a_list cases branches ∷ a_token t ∷ a_list nodes body ∷ []
parts_of (N.Call id target args) = a_value id ∷ a_node target.0 ∷ a_list nodes args ∷ []
parts_of (N.Field id target name) = a_value id ∷ a_node target.0 ∷ a_token name ∷ []
parts_of (N.Cast id src lhs rhs) = a_value id ∷ a_token src ∷ a_node lhs.0 ∷ a_type rhs.0 ∷ []
parts_of (N.Import id src pkgs) = a_value id ∷ a_token src ∷ a_list tokens pkgs ∷ []
parts_of (N.Extern id src docs name members) = a_value id ∷ a_token src ∷ a_list tokens docs ∷ a_token name ∷ a_list fns members ∷ []
parts_of (N.Record id src members) = a_value id ∷ a_token src ∷ a_list fields members ∷ []
parts_of (N.Array id src members) = a_value id ∷ a_token src ∷ a_list nodes members ∷ []

unfoldable pub type_parts_of : TypeExpr → List Part
type_parts_of (T.Atom t) = a_token t ∷ []
type_parts_of (T.Foreign t) = a_token t ∷ []
type_parts_of (T.Option t) = a_type t.0 ∷ []
type_parts_of (T.Array t) = a_type t.0 ∷ []
type_parts_of (T.Record src members) = a_token src ∷ a_list params members ∷ []

-- ---- fields read from cells

-- what a field holds that stands from cell `i` on
abbrev pub part_at : List ℕ → ℕ → Field → Part
part_at cs i value = a_value (get_or cs i 0)
part_at cs i token = a_token (token_at cs i)
part_at cs i node = a_node (get_or cs i 0)
part_at cs i type = a_type (get_or cs i 0)
part_at cs i (list m) = a_list m (run_at cs i)

-- fields one after the other
abbrev pub parts_at : List ℕ → ℕ → List Field → List Part
parts_at cs i [] = []
parts_at cs i (f ∷ fs) = part_at cs i f ∷ parts_at cs (i + cell_count f) fs

-- ---- the sorts of fields as numbers

-- the number of a sort of field
abbrev pub sort_of : Field → ℕ
sort_of value = 0
sort_of token = 1
sort_of (list tokens) = 2
sort_of (list params) = 3
sort_of type = 4
sort_of (list fns) = 5
sort_of (list nodes) = 6
sort_of (list fields) = 7
sort_of (list cases) = 8
sort_of node = 9

-- the members of a list, by the number of its sort; tokens for any other number
unfoldable pub members_of : ℕ → Members
members_of k =
    if (eqb k 3) params
    (if (eqb k 5) fns
    (if (eqb k 6) nodes
    (if (eqb k 7) fields
    (if (eqb k 8) cases tokens))))

-- the sort of a number; a list of tokens for any that is none
unfoldable pub sort_at : ℕ → Sort
sort_at k =
    if (eqb k 0) So.Value
    (if (eqb k 1) So.Token
    (if (eqb k 3) So.Params
    (if (eqb k 4) So.Type
    (if (eqb k 5) So.Fns
    (if (eqb k 6) So.Nodes
    (if (eqb k 7) So.Fields
    (if (eqb k 8) So.Cases
    (if (eqb k 9) So.Node So.Tokens))))))))

-- the members of a list of a sort; tokens where it is none of a list
abbrev pub members : Sort → Members
members So.Value = tokens
members So.Token = tokens
members So.Tokens = tokens
members So.Params = params
members So.Type = tokens
members So.Fns = fns
members So.Nodes = nodes
members So.Fields = fields
members So.Cases = cases
members So.Node = tokens

-- the field of a sort
abbrev pub field_at : Sort → Field
field_at So.Value = value
field_at So.Token = token
field_at So.Tokens = list tokens
field_at So.Params = list params
field_at So.Type = type
field_at So.Fns = list fns
field_at So.Nodes = list nodes
field_at So.Fields = list fields
field_at So.Cases = list cases
field_at So.Node = node
