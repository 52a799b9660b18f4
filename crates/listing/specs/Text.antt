-- The forms of the listing as bytes: tokens, lists, records.
use Rattle.std.specs.Prelude.{true, false, List, [], ◌∷◌, ◌++◌, ℕ, zero, suc, ◌+◌, ◌*◌, leb, length}
use Rattle.std.specs.Prelude.{get_or}
use Rattle.lex.specs.declared.tok.Token.{Token}
use Rattle.ast.specs.declared.Run.{Run}
use Rattle.ast.specs.declared.Node.{Node}
use Rattle.ast.specs.declared.Node.TheVariants as N
use Rattle.ast.specs.declared.TypeExpr.{TypeExpr}
use Rattle.ast.specs.declared.TypeExpr.TheVariants as T
use Rattle.ast.specs.Schema as S
use Rattle.ast.specs.Schema.{member_width}
use Rattle.ast.specs.Decode.{token_at, run_at}
use Rattle.text.specs.Text.{bytes, number}

-- stands in a text, where it is no byte, for what cannot be listed: a kind that there is not, a run
-- outside the list cells
abbrev pub malformed : List ℕ
malformed = 256 ∷ []

-- ---- round brackets, one blank between

-- the blank in front of what is not the first
unfoldable pub gap : ℕ → List ℕ
gap zero = []
gap (suc n) = 32 ∷ []

-- what is left of a form: its other fields and the bracket
unfoldable pub fields : List (List ℕ) → List ℕ
fields [] = 41 ∷ []
fields (f ∷ fs) = (gap 1 ++ f) ++ fields fs

-- `(name field field ..)`
unfoldable pub form : List ℕ → List (List ℕ) → List ℕ
form name fs = (40 ∷ name) ++ fields fs

-- `(field field ..)`; a first field is there
unfoldable pub tuple : List ℕ → List (List ℕ) → List ℕ
tuple f fs = (40 ∷ []) ++ (f ++ fields fs)

-- texts 0 to n - 1, one behind the other
unfoldable pub each : (ℕ → List ℕ) → ℕ → List ℕ
each text zero = []
each text (suc n) = each text n ++ text n

-- a run of members of `width` cells: each by `member` from its first cell
unfoldable pub listed : ℕ → List ℕ → (ℕ → List ℕ) → Run → List ℕ
listed width cells member r =
    elim (leb (r.start + width * r.len) (length cells)) [
      | true ↦
          (40 ∷ [])
          ++ (each (λ i. gap i ++ member (r.start + width * i)) r.len ++ (41 ∷ []))
      | false ↦ malformed
    ]

-- ---- tokens

-- the names of `Type` in its order, from 1 on
unfoldable pub kind_names : List (List ℕ)
kind_names =
    malformed ∷ bytes "Eof" ∷ bytes "BraceLeft" ∷ bytes "BraceRight" ∷ bytes "Plus" ∷
    bytes "Minus" ∷ bytes "Asteriks" ∷ bytes "Slash" ∷ bytes "Percent" ∷ bytes "Equal" ∷
    bytes "DoubleEqual" ∷ bytes "LessThan" ∷ bytes "GreaterThan" ∷ bytes "Exclaim" ∷
    bytes "NotEqual" ∷ bytes "Question" ∷ bytes "Colon" ∷ bytes "Dot" ∷ bytes "BraketLeft" ∷
    bytes "BraketRight" ∷ bytes "CurlyLeft" ∷ bytes "CurlyRight" ∷ bytes "S" ∷ bytes "D" ∷
    bytes "I" ∷ bytes "Ident" ∷ bytes "Doc" ∷ bytes "Import" ∷ bytes "Extern" ∷ bytes "Let" ∷
    bytes "Fn" ∷ bytes "Match" ∷ bytes "As" ∷ bytes "True" ∷ bytes "False" ∷ bytes "Str" ∷
    bytes "Int" ∷ bytes "Double" ∷ bytes "Bool" ∷ bytes "Void" ∷ bytes "Option" ∷ bytes "Array" ∷
    bytes "Foreign" ∷ bytes "Record" ∷ []

unfoldable pub kind_name : ℕ → List ℕ
kind_name k = get_or kind_names k malformed

unfoldable pub token : Token → List ℕ
token t = (40 ∷ []) ++ (kind_name t.kind ++ fields (number t.start ∷ number t.len ∷ []))

-- ---- lists, by the cells that they lie in

module _ (cells : List ℕ) where
  -- docs, pkgs
  unfoldable pub tokens : Run → List ℕ
  tokens = listed (member_width S.tokens) cells (λ j. token (token_at cells j))

  -- the nodes of a body, of arguments, of an array
  unfoldable pub ids : Run → List ℕ
  ids = listed (member_width S.nodes) cells (λ j. number (get_or cells j 0))

  -- a token and the number of a node or of a type
  unfoldable pub pair : ℕ → List ℕ
  pair j = tuple (token (token_at cells j)) (number (get_or cells (j + 3) 0) ∷ [])

  unfoldable pub pairs : Run → List ℕ
  pairs = listed (member_width S.params) cells pair

  -- `((token condition) body)`
  unfoldable pub branch : ℕ → List ℕ
  branch j = tuple (pair j) (ids (run_at cells (j + 4)) ∷ [])

  unfoldable pub branches : Run → List ℕ
  branches = listed (member_width S.cases) cells branch

  -- `(docs name args type)`
  unfoldable pub extern_fn : ℕ → List ℕ
  extern_fn j =
      tuple (tokens (run_at cells j))
      (token (token_at cells (j + 2)) ∷ pairs (run_at cells (j + 5)) ∷
      number (get_or cells (j + 7) 0) ∷ [])

  unfoldable pub extern_fns : Run → List ℕ
  extern_fns = listed (member_width S.fns) cells extern_fn

  -- ---- records

  unfoldable pub node : Node → List ℕ
  node (N.Atom id raw) = form (bytes "Atom") (number id ∷ token raw ∷ [])
  node (N.Ident id name) = form (bytes "Ident") (number id ∷ token name ∷ [])
  node (N.Bin id op lhs rhs) =
      form (bytes "Bin") (number id ∷ token op ∷ number lhs.0 ∷ number rhs.0 ∷ [])
  node (N.Unary id op rhs) = form (bytes "Unary") (number id ∷ token op ∷ number rhs.0 ∷ [])
  node (N.Let id docs name rhs) =
      form (bytes "Let") (number id ∷ tokens docs ∷ token name ∷ number rhs.0 ∷ [])
  node (N.Fn id docs name args ret body) =
      form (bytes "Fn")
      (number id ∷ tokens docs ∷ token name ∷ pairs args ∷ number ret.0 ∷ ids body ∷ [])
  node (N.Match id cases t body) =
      form (bytes "Match") (number id ∷ branches cases ∷ tuple (token t) (ids body ∷ []) ∷ [])
  node (N.Call id target args) =
      form (bytes "Call") (number id ∷ number target.0 ∷ ids args ∷ [])
  node (N.Field id target name) =
      form (bytes "Field") (number id ∷ number target.0 ∷ token name ∷ [])
  node (N.Cast id src lhs rhs) =
      form (bytes "Cast") (number id ∷ token src ∷ number lhs.0 ∷ number rhs.0 ∷ [])
  node (N.Import id src pkgs) = form (bytes "Import") (number id ∷ token src ∷ tokens pkgs ∷ [])
  node (N.Extern id src docs name fns) =
      form (bytes "Extern") (number id ∷ token src ∷ tokens docs ∷ token name ∷ extern_fns fns ∷ [])
  node (N.Record id src members) =
      form (bytes "Record") (number id ∷ token src ∷ pairs members ∷ [])
  node (N.Array id src members) = form (bytes "Array") (number id ∷ token src ∷ ids members ∷ [])

  unfoldable pub type_expr : TypeExpr → List ℕ
  type_expr (T.Atom t) = form (bytes "Atom") (token t ∷ [])
  type_expr (T.Foreign t) = form (bytes "Foreign") (token t ∷ [])
  type_expr (T.Option t) = form (bytes "Option") (number t.0 ∷ [])
  type_expr (T.Array t) = form (bytes "Array") (number t.0 ∷ [])
  type_expr (T.Record src members) = form (bytes "Record") (token src ∷ pairs members ∷ [])
