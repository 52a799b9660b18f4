-- Owning by credit: a record that is made and named nowhere yet is held, and to name it spends it.
use mathlib.Core.Path.{◌≡◌, refl, sym, ap, ◌∙◌, subst}
use mathlib.Core.Bool.{Bool, true, false}
use mathlib.Core.Option.{Option, some}
use mathlib.Core.List.{List, [], ◌∷◌, ◌++◌, flatten, append_assoc, append-nil}
use Prim.Native.Nat.{ℕ, ◌+◌, ◌≤◌, ◌<◌}
use lib.Dec.{eqb, ltb, eqb→eq, ltb→lt, nltb→le}
use lib.ListN.{length, length-append}
use native.Mathlib.Omega.{arith}
use Rattle.lex.specs.Kind.{k_eof, k_ident, k_doc}
use Rattle.rules.specs.Tree.{Arena, Notes, State, Result, ok, err}
use Rattle.rules.specs.Combinators.{Rule, advance, struck, reject_kind, expect, expect_ident, with_arena, with_docs, push_node_and, push_type, alloc_slice, members, list_until, collect_docs, take_docs}
use Rattle.ast.specs.Lists.{map₁, and_then, Decoder, list_at, items}
use Rattle.rules.specs.Law.{Child, a_node, a_type, listed, node_in, type_in, field_in, param_in, case_in, fn_in, children_of, inner_of, same, times, arguments_of, all_arguments}
use Rattle.ast.specs.declared.Run.{Run}
use Rattle.ast.specs.declared.Node.{Node}
use Rattle.ast.specs.declared.Node.TheVariants as N
use Rattle.ast.specs.declared.TypeExpr.{TypeExpr}
use Rattle.ast.specs.declared.TypeExpr.TheVariants as X
use Rattle.rules.proofs.Results.{not_kind, Ends, holds, fails, weaken_both, ended-ok, if_kind-ok, bind_ok, then_ok, pure-ok, fail-ok, reject_kind-ok, loop-ok}
use Rattle.rules.proofs.Unique.Grow.{◌⊑◌, Le, map₁_mono, map₂_mono, found_mono, number_mono, token_mono, run_mono, chain_mono, list_at_mono, from_end}
use Rattle.rules.proofs.Unique.Step.{All, all[], all_snoc, all_mono, all-items, fold}

-- ---- lists of children, with more cells behind

node_in_mono : Le node_in node_in
unfolding node_in
node_in_mono = chain_mono _ _ _ _ number_mono (λ i. found_mono _ _ (λ c e. e))

type_in_mono : Le type_in type_in
unfolding type_in
type_in_mono = chain_mono _ _ _ _ number_mono (λ i. found_mono _ _ (λ c e. e))

field_in_mono : Le field_in field_in
unfolding field_in
field_in_mono = chain_mono _ _ _ _ token_mono (λ t. node_in_mono)

param_in_mono : Le param_in param_in
unfolding param_in
param_in_mono = chain_mono _ _ _ _ token_mono (λ t. type_in_mono)

-- what reads a member, over the cells that hold its lists
abbrev pub Reader : Type 0
Reader = List ℕ → Decoder (List Child)

abbrev pub Steady : Reader → Type 0
Steady rd = (cells more : List ℕ) → Le (rd cells) (rd (cells ++ more))

pub node_steady : Steady (λ cells. node_in)
node_steady cells more = node_in_mono

pub field_steady : Steady (λ cells. field_in)
field_steady cells more = field_in_mono

pub param_steady : Steady (λ cells. param_in)
param_steady cells more = param_in_mono

pub listed_mono : (rd : Reader) → Steady rd → (cells more : List ℕ) (r : Run) → listed (rd cells) cells r ⊑ listed (rd (cells ++ more)) (cells ++ more) r
unfolding listed
listed_mono rd h cells more r = list_at_mono _ _ _ _ (h cells more) cells more r

pub case_steady : Steady case_in
unfolding case_in
case_steady cells more = chain_mono _ _ _ _ token_mono (λ t. chain_mono _ _ _ _ node_in_mono (λ c. chain_mono _ _ _ _ run_mono (λ r. found_mono _ _ (map₁_mono _ _ _ (listed_mono (λ z. node_in) node_steady cells more r)))))

pub fn_steady : Steady fn_in
unfolding fn_in
fn_steady cells more = chain_mono _ _ _ _ run_mono (λ docs. chain_mono _ _ _ _ token_mono (λ t. chain_mono _ _ _ _ run_mono (λ r. chain_mono _ _ _ _ type_in_mono (λ c. found_mono _ _ (map₁_mono _ _ _ (listed_mono (λ z. param_in) param_steady cells more r))))))

nodes_mono : (cells more : List ℕ) (r : Run) → listed node_in cells r ⊑ listed node_in (cells ++ more) r
nodes_mono = listed_mono (λ z. node_in) node_steady

params_mono : (cells more : List ℕ) (r : Run) → listed param_in cells r ⊑ listed param_in (cells ++ more) r
params_mono = listed_mono (λ z. param_in) param_steady

pub children_of_mono : (cells more : List ℕ) (x : Node) → children_of cells x ⊑ children_of (cells ++ more) x
unfolding children_of
children_of_mono cells more (N.Atom id raw) = λ c e. e
children_of_mono cells more (N.Ident id name) = λ c e. e
children_of_mono cells more (N.Bin id op lhs rhs) = λ c e. e
children_of_mono cells more (N.Unary id op rhs) = λ c e. e
children_of_mono cells more (N.Let id docs name rhs) = λ c e. e
children_of_mono cells more (N.Fn id docs name args ret body) = map₂_mono _ _ _ _ _ (params_mono cells more args) (nodes_mono cells more body)
children_of_mono cells more (N.Match id cases t body) = map₂_mono _ _ _ _ _ (listed_mono case_in case_steady cells more cases) (nodes_mono cells more body)
children_of_mono cells more (N.Call id target args) = map₁_mono _ _ _ (nodes_mono cells more args)
children_of_mono cells more (N.Field id target name) = λ c e. e
children_of_mono cells more (N.Cast id src lhs rhs) = λ c e. e
children_of_mono cells more (N.Import id src pkgs) = λ c e. e
children_of_mono cells more (N.Extern id src docs name fns) = listed_mono fn_in fn_steady cells more fns
children_of_mono cells more (N.Record id src fields) = listed_mono (λ z. field_in) field_steady cells more fields
children_of_mono cells more (N.Array id src elements) = nodes_mono cells more elements

pub inner_of_mono : (cells more : List ℕ) (x : TypeExpr) → inner_of cells x ⊑ inner_of (cells ++ more) x
unfolding inner_of
inner_of_mono cells more (X.Atom t) = λ c e. e
inner_of_mono cells more (X.Foreign t) = λ c e. e
inner_of_mono cells more (X.Option t) = λ c e. e
inner_of_mono cells more (X.Array t) = λ c e. e
inner_of_mono cells more (X.Record src fields) = params_mono cells more fields

-- ---- counting

pub times-append : (r : Child) (cs ds : List Child) → times r (cs ++ ds) ≡ times r cs + times r ds
unfolding times
times-append r [] ds = omega arith
times-append r (c ∷ cs) ds = omega (arith, times-append r cs ds)

abbrev pub joined : List (List Child) → List Child
joined vs = fold [] ◌++◌ vs

pub times_snoc : (r : Child) (vs : List (List Child)) (v : List Child) → times r (joined (vs ++ (v ∷ []))) ≡ times r (joined vs) + times r v
unfolding fold times
times_snoc r [] v = omega (arith, times-append r v [])
times_snoc r (u ∷ vs) v = omega (arith, times-append r u (joined (vs ++ (v ∷ []))), times-append r u (joined vs), times_snoc r vs v)

-- 1 where it is below, else 0
unfoldable pub below : ℕ → ℕ → ℕ
below i n = elim (ltb i n) [ true ↦ 1 | false ↦ 0 ]

-- whether it is made: 1, or 0
unfoldable pub made : Child → ℕ → ℕ → ℕ
made (a_node i) nodes types = below i nodes
made (a_type j) nodes types = below j types

below_one : (i n : ℕ) → below i n ≤ 1
unfolding below
below_one i n = go (ltb i n)
  where
    go : (b : Bool) → elim b as (λ b'. ℕ) [ true ↦ 1 | false ↦ 0 ] ≤ 1
    go true = omega arith
    go false = omega arith

pub below_lt : (i n : ℕ) → 0 < below i n → i < n
unfolding below
below_lt i n = go (ltb i n) refl
  where
    go : (b : Bool) → ltb i n ≡ b → 0 < elim b as (λ b'. ℕ) [ true ↦ 1 | false ↦ 0 ] → i < n
    go true e h = ltb→lt i n (rw e tt)
    go false e h = absurd (omega arith)

pub made_one : (r : Child) (n t : ℕ) → made r n t ≤ 1
unfolding made
made_one (a_node i) n t = below_one i n
made_one (a_type j) n t = below_one j t

lt_yes : (m n : ℕ) → ltb m n ≡ true → m < n
lt_yes m n e = ltb→lt m n (rw e tt)

lt_no : (m n : ℕ) → ltb m n ≡ false → n ≤ m
lt_no m n e = nltb→le m n (rw e tt)

eq_yes : (m n : ℕ) → eqb m n ≡ true → m ≡ n
eq_yes m n e = eqb→eq m n (rw e tt)

below_suc : (i n : ℕ) → below i (n + 1) ≡ below i n + elim (eqb i n) as (λ b'. ℕ) [ true ↦ 1 | false ↦ 0 ]
unfolding below
below_suc i n = go (ltb i (n + 1)) (ltb i n) (eqb i n) refl refl refl
  where
    go : (x y z : Bool) → ltb i (n + 1) ≡ x → ltb i n ≡ y → eqb i n ≡ z → ◌≡◌ {A = ℕ} (elim x as (λ b'. ℕ) [ true ↦ 1 | false ↦ 0 ]) (elim y as (λ b'. ℕ) [ true ↦ 1 | false ↦ 0 ] + elim z as (λ b'. ℕ) [ true ↦ 1 | false ↦ 0 ])
    go true true true p q t = omega (arith, lt_yes i (n + 1) p, lt_yes i n q, eq_yes i n t)
    go true true false p q t = omega (arith, lt_yes i (n + 1) p, lt_yes i n q, not_kind i n t)
    go true false true p q t = omega (arith, lt_yes i (n + 1) p, lt_no i n q, eq_yes i n t)
    go true false false p q t = omega (arith, lt_yes i (n + 1) p, lt_no i n q, not_kind i n t)
    go false true true p q t = omega (arith, lt_no i (n + 1) p, lt_yes i n q, eq_yes i n t)
    go false true false p q t = omega (arith, lt_no i (n + 1) p, lt_yes i n q, not_kind i n t)
    go false false true p q t = omega (arith, lt_no i (n + 1) p, lt_no i n q, eq_yes i n t)
    go false false false p q t = omega (arith, lt_no i (n + 1) p, lt_no i n q, not_kind i n t)

pub made-node : (r : Child) (xs : List Node) (x : Node) (t : ℕ) → made r (length (xs ++ (x ∷ []))) t ≡ made r (length xs) t + same r (a_node (length xs))
unfolding made same
made-node (a_node i) xs x t = rw (length-append) (below_suc i (length xs))
made-node (a_type j) xs x t = omega arith

pub made-type : (r : Child) (n : ℕ) (xs : List TypeExpr) (x : TypeExpr) → made r n (length (xs ++ (x ∷ []))) ≡ made r n (length xs) + same r (a_type (length xs))
unfolding made same
made-type (a_node i) n xs x = omega arith
made-type (a_type j) n xs x = rw (length-append) (below_suc j (length xs))

arguments_snoc : (xs : List Node) (x : Node) → all_arguments (xs ++ (x ∷ [])) ≡ all_arguments xs + arguments_of x
unfolding all_arguments
arguments_snoc [] x = omega arith
arguments_snoc (y ∷ xs) x = omega (arith, arguments_snoc xs x)

-- ---- what is named

-- where what is held is counted from: what is held besides, and the cells that are there
pub record Base : Type 0 where
  pub held : ℕ
  pub cells : List ℕ

module _ (r : Child) where
  -- records name it so often; none of them names what was not made before it, `limit` saying
  -- whether that was
  pub data Named {R : Type 0} (f : List ℕ → R → Option (List Child)) (limit : ℕ → ℕ → ℕ) (cells : List ℕ) : List R → ℕ → Type 0 where
    named[] : Named f limit cells [] 0
    named_snoc : {xs : List R} {n : ℕ} (x : R) (cs : List Child) (others : ℕ) → Named f limit cells xs n → f cells x ≡ some cs → times r cs ≤ limit (length xs) others → Named f limit cells (xs ++ (x ∷ [])) (n + times r cs)

  pub named_mono : {R : Type 0} {f : List ℕ → R → Option (List Child)} {limit : ℕ → ℕ → ℕ} → ((cells more : List ℕ) (x : R) → f cells x ⊑ f (cells ++ more) x) → {cells : List ℕ} (more : List ℕ) {xs : List R} {n : ℕ} → Named f limit cells xs n → Named f limit (cells ++ more) xs n
  named_mono h more named[] = named[]
  named_mono h {cells} more (named_snoc x cs others q e l) = named_snoc x cs others (named_mono h more q) (h cells more x cs e) l

  abbrev pub ByNodes : Arena → ℕ → Type 0
  ByNodes m n = Named children_of (λ k o. made r k o) m.cells m.nodes n

  abbrev pub ByTypes : Arena → ℕ → Type 0
  ByTypes m n = Named inner_of (λ k o. made r o k) m.cells m.types n

  -- of what is made, what is `held` and `hs` are named nowhere
  pub record Holding (b : Base) (hs : List Child) (m : Arena) : Type 0 where
    pub by_nodes : ℕ
    pub by_types : ℕ
    pub nodes : ByNodes m by_nodes
    pub types : ByTypes m by_types
    pub owned : by_nodes + by_types + (b.held + times r hs) ≤ made r (length m.nodes) (length m.types)
    pub values : m.values ≡ length m.nodes + all_arguments m.nodes
    pub more : List ℕ
    pub grown : m.cells ≡ b.cells ++ more

  abbrev pub Held : Base → List Child → State → Type 0
  Held b hs s = Holding b hs s.arena

  -- a rule that makes nothing
  abbrev pub Stays : {A : Type 0} → Base → List Child → Result A → Type 0
  Stays b hs x = Ends (λ a s'. Held b hs s') (Held b []) x

  -- one that makes a node, or a type, or what `f` says of its value; where it fails, all is dropped
  -- that was held
  abbrev pub Gives : {A : Type 0} → (A → Child) → Base → List Child → Result A → Type 0
  Gives f b hs x = Ends (λ a s'. Held b (f a ∷ hs) s') (Held b []) x

  -- the cells of a member, which say what it names; that is held
  pub record ItemHeld (rd : Reader) (b : Base) (hs : List Child) (x : List ℕ) (m : Arena) : Type 0 where
    pub names : List Child
    pub are : rd m.cells x ≡ some (names, [])
    pub held : Holding b (names ++ hs) m

  pub record ItemsHeld (rd : Reader) (b : Base) (hs : List Child) (xs : List (List ℕ)) (m : Arena) : Type 0 where
    pub names : List (List Child)
    pub are : All (rd m.cells) xs names
    pub held : Holding b (joined names ++ hs) m

  -- a rule that reads such a member
  abbrev pub MemberHeld : Reader → Rule (List ℕ) → Type 0
  MemberHeld rd item = (b : Base) (hs : List Child) (s : State) → Held b hs s → Ends (λ x s'. ItemHeld rd b hs x s'.arena) (Held b []) (item s)

  -- a list that is written, and what its members name
  pub record RunHeld (rd : Reader) (b : Base) (hs : List Child) (u : Run) (m : Arena) : Type 0 where
    pub names : List Child
    pub are : listed (rd m.cells) m.cells u ≡ some names
    pub held : Holding b (names ++ hs) m

module _ {r : Child} where
  module _ {b : Base} {hs : List Child} {m : Arena} (q : Holding r b hs m) where
    pub less : {gs : List Child} → times r gs ≤ times r hs → Holding r b gs m
    less h = record { by_nodes = q.by_nodes; by_types = q.by_types; nodes = q.nodes; types = q.types; owned = omega (arith, q.owned, h); values = q.values; more = q.more; grown = q.grown }

    -- what is held, left aside
    pub drop : Holding r b [] m
    unfolding times
    drop = less (omega arith)

    -- counted from here
    pub rebase : Holding r (record { held = b.held; cells = m.cells }) hs m
    rebase = record { by_nodes = q.by_nodes; by_types = q.by_types; nodes = q.nodes; types = q.types; owned = q.owned; values = q.values; more = []; grown = sym (append-nil _) }

    -- what is counted from here, counted from there
    pub onward : {gs : List Child} {m' : Arena} → Holding r (record { held = b.held; cells = m.cells }) gs m' → Holding r b gs m'
    onward z = record { by_nodes = z.by_nodes; by_types = z.by_types; nodes = z.nodes; types = z.types; owned = z.owned; values = z.values; more = q.more ++ z.more; grown = z.grown ∙ ap (λ (l : List ℕ). l ++ z.more) q.grown ∙ append_assoc b.cells q.more z.more }

    -- what is held is held besides
    pub freeze : Holding r (record { held = b.held + times r hs; cells = b.cells }) [] m
    unfolding times
    freeze = record { by_nodes = q.by_nodes; by_types = q.by_types; nodes = q.nodes; types = q.types; owned = omega (arith, q.owned); values = q.values; more = q.more; grown = q.grown }

  pub thaw : (b : Base) (hs : List Child) {gs : List Child} {m : Arena} → Holding r (record { held = b.held + times r hs; cells = b.cells }) gs m → Holding r b (hs ++ gs) m
  thaw b hs {gs} q = record { by_nodes = q.by_nodes; by_types = q.by_types; nodes = q.nodes; types = q.types; owned = omega (arith, q.owned, times-append r hs gs); values = q.values; more = q.more; grown = q.grown }

  -- ---- tokens, docs, notes: nothing is made

  module _ {b : Base} {hs : List Child} where
    pub advance-holds : {E : State → Type 0} (s : State) → Held r b hs s → Ends (λ t s'. Held r b hs s') E (advance s)
    unfolding advance
    advance-holds s q = holds q

    pub expect-holds : (k : ℕ) (s : State) → Held r b hs s → Stays r b hs (expect k s)
    unfolding expect
    expect-holds k s q = if_kind-ok k _ _ s (λ e. advance-holds s q) (fail-ok 11 k s (drop q))

    pub expect_ident-holds : (s : State) → Held r b hs s → Stays r b hs (expect_ident s)
    unfolding expect_ident
    expect_ident-holds s q = if_kind-ok k_ident _ _ s (λ e. advance-holds s q) (fail-ok 12 0 s (drop q))

    pub reject_kind-holds : (k n : ℕ) (s : State) → Held r b hs s → Stays r b hs (reject_kind k n s)
    reject_kind-holds k n s q = reject_kind-ok k n s q (drop q)

    pub collect_docs-holds : (s : State) → Held r b hs s → Stays r b hs (collect_docs s)
    unfolding collect_docs with_docs
    collect_docs-holds s q = loop-ok (λ n s'. Held r b hs s') _
        (λ n s₁ q₁. if_kind-ok k_doc _ _ s₁ (λ e. bind_ok _ _ s₁ (advance-holds s₁ q₁) (λ d s₂ q₂. ended-ok _ _ q₂)) (pure-ok _ s₁ q₁))
        0 s q

    -- a list that names nothing
    pub alloc_slice-holds : {E : State → Type 0} (xs : List (List ℕ)) (s : State) → Held r b hs s → Ends (λ u s'. Held r b hs s') E (alloc_slice xs s)
    unfolding alloc_slice with_arena
    alloc_slice-holds xs s q = holds (record { by_nodes = q.by_nodes; by_types = q.by_types; nodes = named_mono r children_of_mono (flatten xs) q.nodes; types = named_mono r inner_of_mono (flatten xs) q.types; owned = q.owned; values = q.values; more = q.more ++ flatten xs; grown = ap (λ (l : List ℕ). l ++ flatten xs) q.grown ∙ append_assoc b.cells q.more (flatten xs) })

    pub take_docs-holds : {E : State → Type 0} (s : State) → Held r b hs s → Ends (λ u s'. Held r b hs s') E (take_docs s)
    unfolding take_docs with_docs
    take_docs-holds s q = alloc_slice-holds _ (with_docs [] s) q

  -- ---- records

  -- a node's children are held until it names them; then it is held itself
  pub push_node-holds : {E : State → Type 0} {b : Base} {hs gs : List Child} (more : ℕ) (f : ℕ → Node) (cs : List Child) (s : State) → Held r b gs s → times r hs + times r cs ≤ times r gs → ((id : ℕ) → children_of s.arena.cells (f id) ≡ some cs) → ((id : ℕ) → arguments_of (f id) ≡ more)
      → Ends (λ n s'. Held r b (a_node n.0 ∷ hs) s') E (push_node_and more f s)
  unfolding push_node_and with_arena times
  push_node-holds more f cs s q h e a =
      let m : Arena = s.arena in
      ended-ok _ _ (record {
        by_nodes = q.by_nodes + times r cs;
        by_types = q.by_types;
        nodes = named_snoc (f m.values) cs (length m.types) q.nodes (e m.values) (omega (arith, q.owned, h));
        types = q.types;
        owned = omega (arith, q.owned, h, made-node r m.nodes (f m.values) (length m.types));
        values = omega (arith, q.values, a m.values, arguments_snoc m.nodes (f m.values), length-append m.nodes (f m.values ∷ []));
        more = q.more;
        grown = q.grown;
      })

  pub push_type-holds : {E : State → Type 0} {b : Base} {hs gs : List Child} (x : TypeExpr) (cs : List Child) (s : State) → Held r b gs s → times r hs + times r cs ≤ times r gs → inner_of s.arena.cells x ≡ some cs → Ends (λ t s'. Held r b (a_type t.0 ∷ hs) s') E (push_type x s)
  unfolding push_type with_arena times
  push_type-holds x cs s q h e =
      let m : Arena = s.arena in
      ended-ok _ _ (record {
        by_nodes = q.by_nodes;
        by_types = q.by_types + times r cs;
        nodes = q.nodes;
        types = named_snoc x cs (length m.nodes) q.types e (omega (arith, q.owned, h));
        owned = omega (arith, q.owned, h, made-type r (length m.nodes) m.types x);
        values = q.values;
        more = q.more;
        grown = q.grown;
      })

-- notes hold nothing
pub struck-holds : {A : Type 0} {P : A → State → Type 0} {E : State → Type 0} (x : Rule A) (s : State) → Ends P E (x s) → ((a : A) (t : State) (n : Notes) → P a t → P a (record { left = t.left; docs = t.docs; arena = t.arena; notes = n })) → Ends P E (struck x s)
unfolding struck
struck-holds {A} {P} {E} x s h k = go _ (x s) h
  where
    go : (notes : State → Notes) (z : Result A) → Ends P E z → Ends P E (elim z as (λ z'. Result A) [ ok a s₁ ↦ ok a (record { left = s₁.left; docs = s₁.docs; arena = s₁.arena; notes = notes s₁ }) | err e s₁ ↦ err e s₁ ])
    go notes z (holds {a} {s = t} p) = holds (k a t (notes t) p)
    go notes z (fails q) = fails q

-- ---- lists

module _ {r : Child} (rd : Reader) (steady : Steady rd) {b : Base} {hs : List Child} where
  -- one member more
  pub items-snoc : {xs : List (List ℕ)} {x : List ℕ} {m m' : Arena} (q : ItemsHeld r rd b hs xs m) → ItemHeld r rd (record { held = b.held; cells = m.cells }) (joined q.names ++ hs) x m' → ItemsHeld r rd b hs (xs ++ (x ∷ [])) m'
  items-snoc {xs} {x} {m} {m'} q z = record {
    names = q.names ++ (z.names ∷ []);
    are = all_snoc _ (subst (λ (l : List ℕ). All (rd l) xs q.names) (sym z.held.grown) (all_mono _ _ (steady m.cells z.held.more) q.are)) z.are;
    held = less (onward q.held z.held) (omega (arith, times_snoc r q.names z.names, times-append r z.names (joined q.names ++ hs), times-append r (joined q.names) hs, times-append r (joined (q.names ++ (z.names ∷ []))) hs));
  }

  pub members-holds : (stop : ℕ) (item : Rule (List ℕ)) → MemberHeld r rd item
      → (s : State) → Held r b hs s → Ends (λ xs s'. ItemsHeld r rd b hs xs s'.arena) (Held r b []) (members stop item s)
  unfolding members fold
  members-holds stop item each s q = loop-ok (λ xs s'. ItemsHeld r rd b hs xs s'.arena) _
      (λ xs s₁ q₁. if_kind-ok k_eof _ _ s₁ (λ e. pure-ok _ s₁ q₁) (if_kind-ok stop _ _ s₁ (λ e. pure-ok _ s₁ q₁)
      (bind_ok item _ s₁ (weaken_both (each _ _ s₁ (rebase q₁.held)) (λ x s₂ z. z) (λ s₂ z. onward q₁.held z)) (λ x s₂ z.
      pure-ok _ s₂ (items-snoc q₁ z)))))
      [] s (record { names = []; are = all[]; held = q })

  pub writes : {E : State → Type 0} (xs : List (List ℕ)) (s : State) → ItemsHeld r rd b hs xs s.arena → Ends (λ u s'. RunHeld r rd b hs u s'.arena) E (alloc_slice xs s)
  unfolding alloc_slice with_arena listed list_at and_then map₁
  writes xs s q =
      let m : Arena = s.arena in
      let cells : List ℕ = m.cells ++ flatten xs in
      let w : All (rd cells) xs q.names = all_mono _ _ (steady m.cells (flatten xs)) q.are in
      let i : items (rd cells) [] ◌++◌ (length xs) (flatten xs) ≡ some (joined q.names, []) = all-items [] ◌++◌ (rd cells) (le_self cells) w in
      let z : Holding r b (joined q.names ++ hs) (record { nodes = m.nodes; types = m.types; cells = cells; values = m.values }) = record {
        by_nodes = q.held.by_nodes;
        by_types = q.held.by_types;
        nodes = named_mono r children_of_mono (flatten xs) q.held.nodes;
        types = named_mono r inner_of_mono (flatten xs) q.held.types;
        owned = q.held.owned;
        values = q.held.values;
        more = q.held.more ++ flatten xs;
        grown = ap (λ (l : List ℕ). l ++ flatten xs) q.held.grown ∙ append_assoc b.cells q.held.more (flatten xs);
      } in
      ended-ok _ _ (record {
        names = joined q.names;
        are = rw (from_end m.cells (flatten xs), i);
        held = z;
      })
    where
      le_self : (cells : List ℕ) → Le (rd cells) (rd cells)
      le_self cells = subst (λ (l : List ℕ). Le (rd cells) (rd l)) (append-nil cells) (steady cells [])

  pub list_until-holds : (stop : ℕ) (item : Rule (List ℕ)) → MemberHeld r rd item
      → (s : State) → Held r b hs s → Ends (λ u s'. RunHeld r rd b hs u s'.arena) (Held r b []) (list_until stop item s)
  unfolding list_until expect advance
  list_until-holds stop item each s q =
      bind_ok _ _ s (members-holds stop item each s q) (λ xs s₁ q₁.
      then_ok _ _ s₁ (expect_items_held stop s₁ q₁) (λ t s₂ q₂.
      writes xs s₂ q₂))
    where
      expect_items_held : (stop : ℕ) {xs : List (List ℕ)} (s : State) → ItemsHeld r rd b hs xs s.arena → Ends (λ t s'. ItemsHeld r rd b hs xs s'.arena) (Held r b []) (expect stop s)
      expect_items_held stop s q = if_kind-ok stop _ _ s (λ e. holds q) (fail-ok 11 stop s (drop q.held))
