-- What a lookup answers: where a node starts, and the token of a type.
use Rattle.std.specs.Prelude.{Bool, List, ℕ, ◌+◌, ◌*◌, leb, ltb, eqb, length, get_or}
use Rattle.std.specs.Prelude.{Result, Ok, Err}
use Rattle.std.specs.Prelude as R
use Rattle.std.proofs.Math.Option.{Option, none, some}
use Rattle.lex.specs.declared.tok.Token.{Token}
use Rattle.ast.specs.Layout.{node_width, type_width}
use Rattle.lex.specs.Spelling.{well_formed, as_str_length}
use Rattle.ast.specs.Lists.{and_then}
use Rattle.ast.specs.declared.Run.{Run}
use Rattle.ast.specs.declared.Node.{Node}
use Rattle.ast.specs.declared.Node.TheVariants as N
use Rattle.ast.specs.declared.TypeExpr.{TypeExpr}
use Rattle.ast.specs.declared.TypeExpr.TheVariants as T
use Rattle.lex.specs.Bytes.{if}
use Rattle.ast.specs.Decode.{fits, low32, token_at, node_at, type_at, option_of}
use Rattle.ast.specs.Tabulate.{entry_at}
use Rattle.lex.specs.Answer.{Answer, refused, answer}
use Rattle.lex.specs.Refusals.{r_outside, r_malformed, number}
use Rattle.lex.specs.declared.diagnostic.Refusal.{Refusal}
use Rattle.ast.specs.Schema as Sc
use Rattle.ast.specs.Schema.{member_width}
use Rattle.ast.specs.Answer.{unless, Lent, refusal, cells_of}

-- ---- refusals

-- refused with 4 where something visited is malformed
unfoldable pub unless_malformed : {A : Type 0} → Option A → Answer A
unless_malformed none = refused r_malformed
unless_malformed (some a) = answer a

-- record `i` of an array is asked about: 1 and 2 are tested first, then 3, whether it lies at or
-- past the count or past the array's last whole record
unfoldable pub record_asked : {A : Type 0} → Lent → (count size : ℕ) → List ℕ → ℕ → Answer A
    → Answer A
record_asked l count size xs i a =
    unless (refusal l)
    (if (ltb i count) (if (fits size xs i) a (refused r_outside)) (refused r_outside))

-- a run of members lies in the cells, `size` cells a member
abbrev pub inside : ℕ → List ℕ → Run → Bool
inside size cells r = leb (r.start + r.len * size) (length cells)

-- ---- where a node starts

-- an array holds 32 bits of a start, and `node_start` gives them. none: something visited is
-- malformed. A record, run or token is visited if the answer is read from it
unfoldable pub token_start : List ℕ → Token → Option (Option ℕ)
token_start script t = if (well_formed script t) (some (some (low32 t.start))) none

-- the other where there is no start
unfoldable pub or_else : Option (Option ℕ) → Option (Option ℕ) → Option (Option ℕ)
or_else other none = none
or_else other (some none) = other
or_else other (some (some p)) = some (some p)

-- the token of the first case, or that of the default
unfoldable pub match_start : List ℕ → List ℕ → Run → Token → Option (Option ℕ)
match_start script cells cases t =
    if (inside (member_width Sc.cases) cells cases)
    (if (eqb cases.len 0) (token_start script t)
    (token_start script (token_at cells cases.start)))
    none

module _ (script cells : List ℕ) where
  -- by the starts of the records before it, as `node_start`
  unfoldable pub start_of : (ℕ → Option (Option ℕ)) → Node → Option (Option ℕ)
  start_of start (N.Atom id raw) = token_start script raw
  start_of start (N.Ident id name) = token_start script name
  start_of start (N.Bin id op lhs rhs) = or_else (token_start script op) (start lhs.0)
  start_of start (N.Unary id op rhs) = token_start script op
  start_of start (N.Let id docs name rhs) = token_start script name
  start_of start (N.Fn id docs name args ret body) = token_start script name
  start_of start (N.Match id cases t body) = match_start script cells cases t
  start_of start (N.Call id target args) = start target.0
  start_of start (N.Field id target name) = start target.0
  start_of start (N.Cast id src lhs rhs) = token_start script src
  start_of start (N.Import id src pkgs) = token_start script src
  start_of start (N.Extern id src docs name fns) = token_start script src
  start_of start (N.Record id src fields) = token_start script src
  start_of start (N.Array id src members) =
      if (inside (member_width Sc.nodes) cells members)
      (if (eqb members.len 0) (some none) (start (get_or cells members.start 0)))
      none

  abbrev pub start_row : (ℕ → Option (Option ℕ)) → Option Node → Option (Option ℕ)
  start_row start o = and_then o (start_of start)

  -- the start of record `i`, each child's number being below its own
  abbrev pub start_at : List ℕ → ℕ → Option (Option ℕ)
  start_at nodes i = entry_at start_row (node_at nodes) i

-- where node `i` starts; none where `node_start` has none
unfoldable pub node_start : Lent → ℕ → Answer (Option ℕ)
node_start l i =
    record_asked l l.counts.nodes node_width l.nodes i
    (unless_malformed (start_at l.script (cells_of l) l.nodes i))

-- ---- the token of a type

-- a token with the length of `as_str`
unfoldable pub spelled : Token → Token
spelled t = record { kind = t.kind; start = t.start; len = as_str_length t }

module _ (script : List ℕ) where
  unfoldable pub well_formed_token : Token → Option Token
  well_formed_token t = if (well_formed script t) (some (spelled t)) none

  -- by those of the records before it, as `type_token`
  unfoldable pub type_token_of : (ℕ → Option Token) → TypeExpr → Option Token
  type_token_of tok (T.Atom t) = well_formed_token t
  type_token_of tok (T.Foreign t) = well_formed_token t
  type_token_of tok (T.Option i) = tok i.0
  type_token_of tok (T.Array i) = tok i.0
  type_token_of tok (T.Record src fields) = well_formed_token src

  abbrev pub type_token_row : (ℕ → Option Token) → Option TypeExpr → Option Token
  type_token_row tok o = and_then o (type_token_of tok)

  abbrev pub type_token_at : List ℕ → ℕ → Option Token
  type_token_at types i = entry_at type_token_row (type_at types) i

unfoldable pub type_token : Lent → ℕ → Answer Token
type_token l i =
    record_asked l l.counts.types type_width l.types i
    (unless_malformed (type_token_at l.script l.types i))

-- ---- the answer that a result of the code is

unfoldable pub start_answer : Result (R.Option ℕ) Refusal → Answer (Option ℕ)
start_answer (Ok o) = answer (option_of o)
start_answer (Err r) = refused (number r)
