-- Laws of the layout.
use mathlib.Core.Path.{◌≡◌, refl}
use mathlib.Core.Option.{Option, none, some}
use mathlib.Core.List.{List, ◌∷◌}
use Prim.Native.Nat.{ℕ, zero, suc, ◌+◌, ◌*◌, ◌<◌, ◌≤◌}
use native.Mathlib.Omega.{arith}
use lib.ListN.{length, get_or, take, drop, get_or-eq_default}
use Rattle.ast.specs.Layout.{token_cells, run_cells, node_width, type_width, node_cells, type_cells}
use borrow.Author.Tests.{le-leb, lt-leb}
use Rattle.ast.specs.declared.Node.{Node}
use Rattle.ast.specs.declared.Node.TheVariants as N
use Rattle.ast.specs.declared.TypeExpr.{TypeExpr}
use Rattle.ast.specs.declared.TypeExpr.TheVariants as T
use Rattle.ast.specs.Decode.{nodes_by_kind, types_by_kind, node_of, type_of, node_at, type_at}

-- ---- a kind that is unknown

outside : {A : Type 0} (xs : List (Option A)) (t : ℕ) → (0 < t → length xs < t) → get_or (none ∷ xs) t none ≡ none
outside xs zero h = refl
outside xs (suc t) h = get_or-eq_default xs none (let l : length xs < suc t = h (omega arith) in omega arith)

-- a number past k that is not the next one
pub past : (k x : ℕ) → k < x → (x ≡ suc k → ⊥) → suc k < x
past k x h n = omega arith

pub node_unknown : (cs : List ℕ) → (0 < get_or cs 0 0 → 14 < get_or cs 0 0) → node_of cs ≡ none
unfolding node_of nodes_by_kind
node_unknown cs h = outside (nodes_by_kind cs) (get_or cs 0 0) h

pub type_unknown : (cs : List ℕ) → (0 < get_or cs 0 0 → 5 < get_or cs 0 0) → type_of cs ≡ none
unfolding type_of types_by_kind
type_unknown cs h = outside (types_by_kind cs) (get_or cs 0 0) h

-- ---- a record inside its array, and one outside

module _ (xs : List ℕ) (i : ℕ) where
  pub node-inside : node_width * i + node_width ≤ length xs → node_at xs i ≡ node_of (take node_width (drop (node_width * i) xs))
  unfolding node_at
  node-inside h = rw (le-leb (node_width * i + node_width) (length xs) h)

  pub node_outside : length xs < node_width * i + node_width → node_at xs i ≡ none
  unfolding node_at
  node_outside h = rw (lt-leb (node_width * i + node_width) (length xs) h)

  pub type-inside : type_width * i + type_width ≤ length xs → type_at xs i ≡ type_of (take type_width (drop (type_width * i) xs))
  unfolding type_at
  type-inside h = rw (le-leb (type_width * i + type_width) (length xs) h)

  pub type_outside : length xs < type_width * i + type_width → type_at xs i ≡ none
  unfolding type_at
  type_outside h = rw (lt-leb (type_width * i + type_width) (length xs) h)

-- ---- a record has as many cells as its array gives it

pub node-length : (n : Node) → length (node_cells n) ≡ node_width
unfolding node_cells token_cells run_cells
node-length (N.Atom id t) = refl
node-length (N.Ident id t) = refl
node-length (N.Bin id op l r) = refl
node-length (N.Unary id op r) = refl
node-length (N.Let id ds t r) = refl
node-length (N.Fn id ds t ps ret b) = refl
node-length (N.Match id cs t b) = refl
node-length (N.Call id f ps) = refl
node-length (N.Field id f t) = refl
node-length (N.Cast id t l r) = refl
node-length (N.Import id t ps) = refl
node-length (N.Extern id t ds n fs) = refl
node-length (N.Record id t fs) = refl
node-length (N.Array id t ms) = refl

pub type-length : (t : TypeExpr) → length (type_cells t) ≡ type_width
unfolding type_cells token_cells run_cells
type-length (T.Atom t) = refl
type-length (T.Foreign t) = refl
type-length (T.Option i) = refl
type-length (T.Array i) = refl
type-length (T.Record t fs) = refl

-- ---- what is read of a record's cells is the record

pub node_trip : (n : Node) → node_of (node_cells n) ≡ some n
unfolding node_of nodes_by_kind node_cells token_cells run_cells
node_trip (N.Atom id t) = refl
node_trip (N.Ident id t) = refl
node_trip (N.Bin id op l r) = refl
node_trip (N.Unary id op r) = refl
node_trip (N.Let id ds t r) = refl
node_trip (N.Fn id ds t ps ret b) = refl
node_trip (N.Match id cs t b) = refl
node_trip (N.Call id f ps) = refl
node_trip (N.Field id f t) = refl
node_trip (N.Cast id t l r) = refl
node_trip (N.Import id t ps) = refl
node_trip (N.Extern id t ds n fs) = refl
node_trip (N.Record id t fs) = refl
node_trip (N.Array id t ms) = refl

pub type_trip : (t : TypeExpr) → type_of (type_cells t) ≡ some t
unfolding type_of types_by_kind type_cells token_cells run_cells
type_trip (T.Atom t) = refl
type_trip (T.Foreign t) = refl
type_trip (T.Option i) = refl
type_trip (T.Array i) = refl
type_trip (T.Record t fs) = refl
