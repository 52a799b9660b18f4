-- The steps by which the lookups go down a tree.
use Rattle.std.specs.Prelude.{◌≡◌, List, ℕ, ◌≤◌, eqb, get_or, Result, Ok, Err}
use Rattle.std.specs.Prelude as R
use Rattle.std.proofs.Math.Option.{Option, none, some}
use Rattle.lex.specs.declared.tok.Token.{Token}
use Rattle.ast.specs.declared.Run.{Run}
use Rattle.ast.specs.declared.Node.{Node}
use Rattle.ast.specs.declared.Node.TheVariants as N
use Rattle.ast.specs.declared.TypeExpr.{TypeExpr}
use Rattle.ast.specs.declared.TypeExpr.TheVariants as T
use Rattle.lex.specs.Bytes.{if}
use Rattle.ast.specs.Schema as Sc
use Rattle.ast.specs.Schema.{member_width}
use Rattle.ast.specs.Decode.{type_at}
use Rattle.lookups.specs.Lookup.{inside, token_start, match_start, well_formed_token, type_token_at}
use Rattle.ast.specs.declared.NodeId.{NodeId}
use Rattle.ast.specs.declared.TypeExprId.{TypeExprId}
use Rattle.lex.specs.declared.diagnostic.Refusal.{Refusal}
use Rattle.lex.specs.declared.diagnostic.Refusal.TheVariants.{Malformed}

-- a start, if there is one, or a refusal
abbrev pub Start : Type 0
Start = Result (R.Option ℕ) Refusal

-- the answer of a record
unfoldable pub as_start : Option (Option ℕ) → Start
as_start none = Err Malformed
as_start (some none) = Ok R.None
as_start (some (some p)) = Ok (R.Some p)

unfoldable pub start_or : Start → Start → Start
start_or other (Ok (R.Some p)) = Ok (R.Some p)
start_or other (Ok R.None) = other
start_or other (Err r) = Err r

-- what a record leaves: the start so far, and the child to go on with, if there is one
pub data Step : Type 0 where
  done : Start → Step
  descend : NodeId → Start → Step

abbrev pub step_from : R.Option NodeId → Start → Step
step_from R.None s = done s
step_from (R.Some j) s = descend j s

unfoldable pub array_step : List ℕ → Run → Start → Step
array_step cells members other =
    if (inside (member_width Sc.nodes) cells members)
    (if (eqb members.len 0) (done other)
    (descend (record { 0 = get_or cells members.start 0 }) other))
    (done (Err Malformed))

-- one record of it: an answer, or the child to go on with and what is answered where that has no
-- start
module _ (script cells : List ℕ) (other : Start) where
  unfoldable pub step_of : Option Node → Step
  step_of none = done (Err Malformed)
  step_of (some (N.Atom id raw)) = done (as_start (token_start script raw))
  step_of (some (N.Ident id name)) = done (as_start (token_start script name))
  step_of (some (N.Bin id op lhs rhs)) = descend lhs (as_start (token_start script op))
  step_of (some (N.Unary id op rhs)) = done (as_start (token_start script op))
  step_of (some (N.Let id docs name rhs)) = done (as_start (token_start script name))
  step_of (some (N.Fn id docs name args ret body)) = done (as_start (token_start script name))
  step_of (some (N.Match id cases t body)) = done (as_start (match_start script cells cases t))
  step_of (some (N.Call id target args)) = descend target other
  step_of (some (N.Field id target name)) = descend target other
  step_of (some (N.Cast id src lhs rhs)) = done (as_start (token_start script src))
  step_of (some (N.Import id src pkgs)) = done (as_start (token_start script src))
  step_of (some (N.Extern id src docs name fns)) = done (as_start (token_start script src))
  step_of (some (N.Record id src fields)) = done (as_start (token_start script src))
  step_of (some (N.Array id src members)) = array_step cells members other

-- what an Option or an Array holds; the other types hold none, and have their own number `i` here
unfoldable pub inner_of : Option TypeExpr → ℕ → ℕ
inner_of none i = i
inner_of (some (T.Atom t)) i = i
inner_of (some (T.Foreign t)) i = i
inner_of (some (T.Option j)) i = j.0
inner_of (some (T.Array j)) i = j.0
inner_of (some (T.Record t fs)) i = i

abbrev pub inner_or : ℕ → R.Option TypeExprId → ℕ
inner_or i (R.Some j) = j.0
inner_or i R.None = i

-- type `r` holds none below it, and has the token of type `i`
pub record Innermost (types : List ℕ) (i r : ℕ) : Type 0 where
  pub ends : r ≤ inner_of (type_at types r) r
  pub same : (script : List ℕ) → type_token_at script types r ≡ type_token_at script types i

-- the token of a type that holds none below it
module _ (script : List ℕ) where
  unfoldable pub own_token : Option TypeExpr → Option Token
  own_token none = none
  own_token (some (T.Atom t)) = well_formed_token script t
  own_token (some (T.Foreign t)) = well_formed_token script t
  own_token (some (T.Option j)) = none
  own_token (some (T.Array j)) = none
  own_token (some (T.Record t fs)) = well_formed_token script t

unfoldable pub as_type_token : Option Token → Result Token Refusal
as_type_token none = Err Malformed
as_type_token (some t) = Ok t
