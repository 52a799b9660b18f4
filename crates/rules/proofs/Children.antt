-- A record's children go by the schema.
use mathlib.Core.Path.{◌≡◌, refl, sym, ap}
use mathlib.Core.Option.{Option, none, some}
use mathlib.Core.List.{List, [], ◌∷◌, ◌++◌, append-nil}
use Prim.Native.Nat.{ℕ}
use Rattle.ast.specs.Lists.{map₁, map₂}
use Rattle.rules.specs.Law.{Child, a_node, a_type, listed, node_in, field_in, param_in, case_in, fn_in, children_of, inner_of, all_of}
use Rattle.ast.specs.Schema as S
use Rattle.ast.specs.Schema.{Part, parts_of, type_parts_of}
use Rattle.ast.specs.declared.Node.{Node}
use Rattle.ast.specs.declared.Node.TheVariants as N
use Rattle.ast.specs.declared.TypeExpr.{TypeExpr}
use Rattle.ast.specs.declared.TypeExpr.TheVariants as T

-- what a field names; a list of tokens names none, wherever it lies
unfoldable pub children_in : List ℕ → Part → Option (List Child)
children_in cells (S.a_value n) = some []
children_in cells (S.a_token t) = some []
children_in cells (S.a_node i) = some (a_node i ∷ [])
children_in cells (S.a_type j) = some (a_type j ∷ [])
children_in cells (S.a_list S.tokens r) = some []
children_in cells (S.a_list S.params r) = listed param_in cells r
children_in cells (S.a_list S.fns r) = listed (fn_in cells) cells r
children_in cells (S.a_list S.nodes r) = listed node_in cells r
children_in cells (S.a_list S.fields r) = listed field_in cells r
children_in cells (S.a_list S.cases r) = listed (case_in cells) cells r

-- the fields of a kind that has lists
abbrev gathered : List (Option (List Child)) → Option (List Child)
gathered = all_of (λ (o : Option (List Child)). o)

only : (o : Option (List Child)) → o ≡ gathered (some [] ∷ o ∷ [])
unfolding all_of map₂ map₁
only none = refl
only (some a) = ap some (sym (append-nil a))

after_token : (o : Option (List Child)) → o ≡ gathered (some [] ∷ some [] ∷ o ∷ [])
unfolding all_of map₂ map₁
after_token none = refl
after_token (some a) = ap some (sym (append-nil a))

after_name : (o : Option (List Child)) → o ≡ gathered (some [] ∷ some [] ∷ some [] ∷ some [] ∷ o ∷ [])
unfolding all_of map₂ map₁
after_name none = refl
after_name (some a) = ap some (sym (append-nil a))

after_target : (c : Child) (o : Option (List Child)) → map₁ (λ a. c ∷ a) o ≡ gathered (some [] ∷ some (c ∷ []) ∷ o ∷ [])
unfolding all_of map₂ map₁
after_target c none = refl
after_target c (some a) = ap (λ (l : List Child). some (c ∷ l)) (sym (append-nil a))

of_match : (x y : Option (List Child)) → map₂ ◌++◌ x y ≡ gathered (some [] ∷ x ∷ some [] ∷ y ∷ [])
unfolding all_of map₂ map₁
of_match none y = refl
of_match (some a) none = refl
of_match (some a) (some b) = ap (λ (l : List Child). some (a ++ l)) (sym (append-nil b))

of_fn : (c : Child) (x y : Option (List Child)) → map₂ (λ a b. a ++ (c ∷ b)) x y ≡ gathered (some [] ∷ some [] ∷ some [] ∷ x ∷ some (c ∷ []) ∷ y ∷ [])
unfolding all_of map₂ map₁
of_fn c none y = refl
of_fn c (some a) none = refl
of_fn c (some a) (some b) = ap (λ (l : List Child). some (a ++ (c ∷ l))) (sym (append-nil b))

-- a record's children are what its fields name, in their order
pub node_children : (cells : List ℕ) (x : Node) → children_of cells x ≡ all_of (children_in cells) (parts_of x)
unfolding children_of children_in parts_of all_of map₂ map₁
node_children cells (N.Atom id raw) = refl
node_children cells (N.Ident id name) = refl
node_children cells (N.Bin id op lhs rhs) = refl
node_children cells (N.Unary id op rhs) = refl
node_children cells (N.Let id docs name rhs) = refl
node_children cells (N.Fn id docs name args ret body) = of_fn (a_type ret.0) (listed param_in cells args) (listed node_in cells body)
node_children cells (N.Match id branches t body) = of_match (listed (case_in cells) cells branches) (listed node_in cells body)
node_children cells (N.Call id target args) = after_target (a_node target.0) (listed node_in cells args)
node_children cells (N.Field id target name) = refl
node_children cells (N.Cast id src lhs rhs) = refl
node_children cells (N.Import id src pkgs) = refl
node_children cells (N.Extern id src docs name fns) = after_name (listed (fn_in cells) cells fns)
node_children cells (N.Record id src fields) = after_token (listed field_in cells fields)
node_children cells (N.Array id src members) = after_token (listed node_in cells members)

pub type_children : (cells : List ℕ) (x : TypeExpr) → inner_of cells x ≡ all_of (children_in cells) (type_parts_of x)
unfolding inner_of children_in type_parts_of all_of map₂ map₁
type_children cells (T.Atom t) = refl
type_children cells (T.Foreign t) = refl
type_children cells (T.Option t) = refl
type_children cells (T.Array t) = refl
type_children cells (T.Record src fields) = only (listed param_in cells fields)
