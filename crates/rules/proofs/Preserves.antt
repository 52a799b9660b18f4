-- What taking a token and adding to what is made preserve every rule preserves, whether it ends
-- well or fails; and where it fails, it does so with one of 10 to 23.
use mathlib.Core.Bool.{Bool, true, false}
use mathlib.Core.Option.{Option, none, some}
use mathlib.Core.List.{List, [], ◌∷◌, ◌++◌, flatten}
use Prim.Native.Nat.{ℕ, zero, suc, ◌+◌, ◌≤◌}
use lib.Dec.{eqb, ltb}
use lib.ListN.{length}
use native.Mathlib.Omega.{arith}
use Rattle.lex.specs.Kind.{k_eof, k_brace_left, k_brace_right, k_equal, k_less_than, k_greater_than, k_colon, k_braket_right, k_curly_left, k_curly_right, k_extern, k_let, k_fn}
use Rattle.lex.specs.declared.diagnostic.Diagnostic.{Diagnostic}
use Rattle.lex.specs.declared.tok.Token.{Token}
use Rattle.rules.specs.Tree.{Arena, Notes, State, Result, ok, err}
use Rattle.rules.specs.Combinators as R
use Rattle.rules.specs.Combinators.{Rule, current, rest, Readers, ControlFlow, continue, break}
use Rattle.rules.specs.Rules as Q
use Rattle.rules.specs.Rules.{Cases}
use Rattle.ast.specs.declared.Run.{Run}
use Rattle.ast.specs.declared.NodeId.{NodeId}
use Rattle.ast.specs.declared.Node.{Node}
use Rattle.ast.specs.declared.Node.TheVariants as N
use Rattle.ast.specs.declared.TypeExpr.{TypeExpr}
use Rattle.rules.proofs.Results.{Ends, holds, fails}

-- a property of the tokens left and of what is made, and the steps that preserve it; docs that wait
-- and notes play no part
pub record StepsPreserve (P : List Token → Arena → Type 0) : Type 0 where
  pub token : (l : List Token) (m : Arena) → P l m → P (rest l) m
  pub node : (l : List Token) (m : Arena) (x : Node) (values : ℕ) → P l m → P l (record { nodes = m.nodes ++ (x ∷ []); types = m.types; cells = m.cells; values = values })
  pub type : (l : List Token) (m : Arena) (x : TypeExpr) → P l m → P l (record { nodes = m.nodes; types = m.types ++ (x ∷ []); cells = m.cells; values = m.values })
  pub list : (l : List Token) (m : Arena) (cs : List ℕ) → P l m → P l (record { nodes = m.nodes; types = m.types; cells = m.cells ++ cs; values = m.values })

module _ (P : List Token → Arena → Type 0) where
  abbrev pub At : State → Type 0
  At s = P s.left s.arena

  -- it holds of the state that a rule leaves; an error is one of 10 to 23
  pub data EndsAt {A : Type 0} : Result A → Type 0 where
    well : {a : A} {s : State} → At s → EndsAt (ok a s)
    badly : {e : Diagnostic} {s : State} → At s → 10 ≤ e.number → e.number ≤ 23 → EndsAt (err e s)

  abbrev pub Preserves : {A : Type 0} → Rule A → Type 0
  Preserves x = (s : State) → At s → EndsAt (x s)

  pub record AllPreserve (d : Readers) : Type 0 where
    pub prefix : Preserves d.prefix
    pub expr : (least : ℕ) → Preserves (d.expr least)
    pub type : Preserves d.type

  -- of the state alone
  abbrev pub StatePreserved : {A : Type 0} → Rule A → Type 0
  StatePreserved x = (s : State) → At s → Ends (λ a s'. At s') At (x s)

  state_preserved : {A : Type 0} {x : Rule A} → Preserves x → StatePreserved x
  state_preserved h s p = go _ (h s p)
    where
      go : {A : Type 0} (r : Result A) → EndsAt r → Ends (λ a s'. At s') At r
      go r (well q) = holds q
      go r (badly q least most) = fails q

  pub record ReadersPreserve (d : Readers) : Type 0 where
    pub prefix : StatePreserved d.prefix
    pub expr : (least : ℕ) → StatePreserved (d.expr least)
    pub type : StatePreserved d.type

  pub states_preserved : {d : Readers} → AllPreserve d → ReadersPreserve d
  states_preserved h = record { prefix = state_preserved h.prefix; expr = λ least. state_preserved (h.expr least); type = state_preserved h.type }

module _ (P : List Token → Arena → Type 0) (steps : StepsPreserve P) where
  -- ---- ways to put rules together

  module _ {A B : Type 0} where
    pub bind : {x : Rule A} {f : A → Rule B} → Preserves P x → ((a : A) → Preserves P (f a)) → Preserves P (R.◌>>=◌ x f)
    unfolding R.◌>>=◌
    bind {x} {f} h k s p = go (x s) (h s p)
      where
        go : (r : Result A) → EndsAt P r → EndsAt P {A = B} (elim r as (λ r'. Result B) [ ok a s₁ ↦ f a s₁ | err e s₁ ↦ err e s₁ ])
        go r (well {a} {s = s₁} q) = k a s₁ q
        go r (badly q least most) = badly q least most

    pub sequence : {x : Rule A} {y : Rule B} → Preserves P x → Preserves P y → Preserves P (R.◌>>◌ x y)
    unfolding R.◌>>◌
    sequence {x} {y} h k s p = go (x s) (h s p)
      where
        go : (r : Result A) → EndsAt P r → EndsAt P {A = B} (elim r as (λ r'. Result B) [ ok a s₁ ↦ y s₁ | err e s₁ ↦ err e s₁ ])
        go r (well {s = s₁} q) = k s₁ q
        go r (badly q least most) = badly q least most

  module _ {A : Type 0} where
    pub branch : (k : ℕ) {x y : Rule A} → Preserves P x → Preserves P y → Preserves P (R.if_kind k x y)
    unfolding R.if_kind R.by_kind
    branch k {x} {y} h o s p = go (eqb (current s.left).kind k)
      where
        go : (b : Bool) → EndsAt P ((elim b as (λ b'. Rule A) [ true ↦ x | false ↦ y ]) s)
        go true = h s p
        go false = o s p

    current-token : {f : Token → Rule A} → ((t : Token) → Preserves P (f t)) → Preserves P (R.◌>>=◌ R.cur f)
    unfolding R.◌>>=◌ R.cur
    current-token h s p = h (current s.left) s p

    pub value : (a : A) → Preserves P (R.pure a)
    unfolding R.pure
    value a s p = well p

    failure : (number wanted : ℕ) → 10 ≤ number → number ≤ 23 → Preserves P {A = A} (R.fail_expecting number wanted)
    unfolding R.fail_expecting R.at_token
    failure number wanted least most s p = badly p least most

    turns : {f : A → Rule (ControlFlow A)} → ((a : A) → Preserves P (f a)) → (n : ℕ) (a : A) → Preserves P (R.iterate n f a)
    unfolding R.iterate
    turns h zero a s p = well p
    turns {f} h (suc n) a s p = go (turns h n) (f a s) (h a s p)
      where
        go : ((b : A) → Preserves P (R.iterate n f b)) → (r : Result (ControlFlow A)) → EndsAt P r → EndsAt P {A = A} (elim r as (λ r'. Result A) [ ok t s₁ ↦ elim t as (λ t'. Result A) [ continue b ↦ R.iterate n f b s₁ | break b ↦ ok b s₁ ] | err e s₁ ↦ err e s₁ ])
        go ih r (well {a = continue b} {s = s₁} q) = ih b s₁ q
        go ih r (well {a = break b} q) = well q
        go ih r (badly q least most) = badly q least most

    pub repeat : {f : A → Rule (ControlFlow A)} → ((a : A) → Preserves P (f a)) → (a : A) → Preserves P (R.loop f a)
    unfolding R.loop
    repeat h a s p = turns h (length s.left) a s p

    -- each entry of a table
    pub data Entries : List (ℕ × Rule A) → Type 0 where
      entries[] : Entries []
      entry : {k : ℕ} {x : Rule A} {xs : List (ℕ × Rule A)} → Preserves P x → Entries xs → Entries ((k, x) ∷ xs)

    chosen : {xs : List (ℕ × Rule A)} {other : Rule A} → Entries xs → Preserves P other → (k : ℕ) → Preserves P (R.choose xs other k)
    unfolding R.choose
    chosen entries[] o k = o
    chosen {other} (entry {k = j} {x} {xs} h hs) o k = go (chosen hs o k) (eqb k j)
      where
        go : Preserves P (R.choose xs other k) → (b : Bool) → Preserves P {A = A} (elim b as (λ b'. Rule A) [ true ↦ x | false ↦ R.choose xs other k ])
        go others true = h
        go others false = others

    pub table : {xs : List (ℕ × Rule A)} {other : Rule A} → Entries xs → Preserves P other → Preserves P (R.by_kind (R.choose xs other))
    unfolding R.by_kind
    table h o s p = chosen h o _ s p

    struck_preserves : {x : Rule A} → Preserves P x → Preserves P (R.struck x)
    unfolding R.struck
    struck_preserves {x} h s p = go _ (x s) (h s p)
      where
        go : (notes : State → Notes) (r : Result A) → EndsAt P r → EndsAt P {A = A} (elim r as (λ r'. Result A) [ ok a t ↦ ok a (record { left = t.left; docs = t.docs; arena = t.arena; notes = notes t }) | err e t ↦ err e t ])
        go notes r (well q) = well q
        go notes r (badly q least most) = badly q least most

  -- ---- tokens, records, lists, docs

  pub advance_preserves : Preserves P R.advance
  unfolding R.advance
  advance_preserves s p = well (steps.token s.left s.arena p)

  expect_preserves : (k : ℕ) → Preserves P (R.expect k)
  unfolding R.expect
  expect_preserves k = branch _ advance_preserves (failure 11 k (omega arith) (omega arith))

  expect_ident_preserves : Preserves P R.expect_ident
  unfolding R.expect_ident
  expect_ident_preserves = branch _ advance_preserves (failure 12 0 (omega arith) (omega arith))

  reject_kind_preserves : (k n : ℕ) → 10 ≤ n → n ≤ 23 → Preserves P (R.reject_kind k n)
  unfolding R.reject_kind
  reject_kind_preserves k n least most = branch _ (failure n 0 least most) (value 0)

  push_node_preserves : (more : ℕ) (f : ℕ → Node) → Preserves P (R.push_node_and more f)
  unfolding R.push_node_and R.with_arena
  push_node_preserves more f s p = well (steps.node s.left s.arena (f s.arena.values) (s.arena.values + (1 + more)) p)

  push_type_preserves : (x : TypeExpr) → Preserves P (R.push_type x)
  unfolding R.push_type R.with_arena
  push_type_preserves x s p = well (steps.type s.left s.arena x p)

  alloc_slice_preserves : (xs : List (List ℕ)) → Preserves P (R.alloc_slice xs)
  unfolding R.alloc_slice R.with_arena
  alloc_slice_preserves xs s p = well (steps.list s.left s.arena (flatten xs) p)

  members_preserves : (stop : ℕ) {item : Rule (List ℕ)} → Preserves P item → Preserves P (R.members stop item)
  unfolding R.members
  members_preserves stop h = repeat (λ xs. branch _ (value _) (branch _ (value _) (bind h (λ x. value _)))) []

  list_until_preserves : (stop : ℕ) {item : Rule (List ℕ)} → Preserves P item → Preserves P (R.list_until stop item)
  unfolding R.list_until
  list_until_preserves stop h = bind (members_preserves stop h) (λ xs. sequence (expect_preserves stop) (alloc_slice_preserves xs))

  collect_docs_preserves : Preserves P R.collect_docs
  unfolding R.collect_docs R.with_docs
  collect_docs_preserves = repeat (λ n. branch _ (bind advance_preserves (λ d s p. well p)) (value _)) 0

  take_docs_preserves : Preserves P R.take_docs
  unfolding R.take_docs R.with_docs
  take_docs_preserves s p = alloc_slice_preserves _ _ p

  -- ---- rules that read nothing deeper

  open_angle_preserves : (n : ℕ) → 10 ≤ n → n ≤ 23 → Preserves P (Q.open_angle n)
  unfolding Q.open_angle
  open_angle_preserves n least most = sequence advance_preserves (sequence (expect_preserves k_less_than) (reject_kind_preserves k_greater_than n least most))

  atom_type_preserves : Preserves P Q.atom_type
  unfolding Q.atom_type
  atom_type_preserves = bind advance_preserves (λ t. push_type_preserves _)

  foreign_type_preserves : Preserves P Q.foreign_type
  unfolding Q.foreign_type
  foreign_type_preserves = sequence (open_angle_preserves 20 (omega arith) (omega arith)) (bind expect_ident_preserves (λ name. sequence (expect_preserves k_greater_than) (push_type_preserves _)))

  supplied_void_preserves : Preserves P Q.supplied_void
  unfolding Q.supplied_void
  supplied_void_preserves = current-token (λ t. push_type_preserves _)

  import_path_preserves : Preserves P Q.import_path
  unfolding Q.import_path
  import_path_preserves = branch _ (bind advance_preserves (λ p. value _)) (failure 15 0 (omega arith) (omega arith))

  bracketed_paths_preserves : Preserves P Q.bracketed_paths
  unfolding Q.bracketed_paths
  bracketed_paths_preserves = sequence (expect_preserves k_brace_left) (bind (members_preserves k_brace_right import_path_preserves) (λ ps. sequence (expect_preserves k_brace_right) (value ps)))

  strike_single_preserves : {x : Rule (List (List ℕ))} → Preserves P x → Preserves P (Q.strike_single x)
  unfolding Q.strike_single
  strike_single_preserves {x} h s p = go _ (x s) (h s p)
    where
      by_length : (n : Notes) (ps : List (List ℕ)) (t : State) → At P t → (b : Bool) → EndsAt P {A = List (List ℕ)} (elim b as (λ b'. Result (List (List ℕ))) [ true ↦ ok ps (record { left = t.left; docs = t.docs; arena = t.arena; notes = n }) | false ↦ ok ps t ])
      by_length n ps t q true = well q
      by_length n ps t q false = well q

      go : (notes : State → Notes) (r : Result (List (List ℕ))) → EndsAt P r
          → EndsAt P {A = List (List ℕ)} (elim r as (λ r'. Result (List (List ℕ))) [ ok ps t ↦ elim (eqb (length ps) 1) as (λ b'. Result (List (List ℕ))) [ true ↦ ok ps (record { left = t.left; docs = t.docs; arena = t.arena; notes = notes t }) | false ↦ ok ps t ] | err e t ↦ err e t ])
      go notes r (well {a = ps} {s = t} q) = by_length (notes t) ps t q (eqb (length ps) 1)
      go notes r (badly q least most) = badly q least most

  parse_import_preserves : Preserves P Q.parse_import
  unfolding Q.parse_import
  parse_import_preserves = bind advance_preserves (λ src. bind (branch _ (bind advance_preserves (λ p. value _)) (strike_single_preserves bracketed_paths_preserves)) (λ ps. bind (alloc_slice_preserves ps) (λ pkgs. push_node_preserves 0 _)))

  atom_preserves : Preserves P Q.atom
  unfolding Q.atom
  atom_preserves = bind advance_preserves (λ t. push_node_preserves 0 _)

  ident_preserves : Preserves P Q.ident
  unfolding Q.ident
  ident_preserves = bind advance_preserves (λ t. push_node_preserves 0 _)

  callable_preserves : (n : NodeId) → Preserves P (Q.callable n)
  unfolding Q.callable
  callable_preserves n s p = well p

  field_access_preserves : (n : NodeId) → Preserves P (Q.field_access n)
  unfolding Q.field_access
  field_access_preserves n = sequence advance_preserves (bind expect_ident_preserves (λ name. bind (push_node_preserves 0 _) (λ m. value _)))

  require_no_docs_preserves : {A : Type 0} {x : Rule A} → Preserves P x → Preserves P (Q.require_no_docs x)
  unfolding Q.require_no_docs R.if_kind R.by_kind R.at_token
  require_no_docs_preserves {A} {x} h s p = by_docs_lem s.docs
    where
      at-kind : (y z : Diagnostic) → 10 ≤ y.number → y.number ≤ 23 → 10 ≤ z.number → z.number ≤ 23 → (b : Bool) → EndsAt P {A = A} ((elim b as (λ b'. Rule A) [ true ↦ (λ t. err y t) | false ↦ (λ t. err z t) ]) s)
      at-kind y z l m l' m' true = badly p l m
      at-kind y z l m l' m' false = badly p l' m'

      by_docs_lem : (l : List Token) → EndsAt P {A = A} (elim l as (λ l'. Result A) [ [] ↦ x s | d ∷ ds ↦ R.if_kind k_eof (λ t. err (R.at_token 13 0 (Q.last_of d ds)) t) (λ t. err (R.at_token 14 0 d) t) s ])
      by_docs_lem [] = h s p
      by_docs_lem (d ∷ ds) = at-kind _ _ (omega arith) (omega arith) (omega arith) (omega arith) (eqb (current s.left).kind k_eof)

  note_after_default_preserves : (c : Cases) → Preserves P (Q.note_after_default c)
  unfolding Q.note_after_default
  note_after_default_preserves c s p = go _ c.default
    where
      go : (n : Notes) (o : Option (Token × Run)) → EndsAt P {A = ℕ} (elim o as (λ o'. Result ℕ) [ none ↦ ok 0 s | some d ↦ ok 1 (record { left = s.left; docs = s.docs; arena = s.arena; notes = n }) ])
      go n none = well p
      go n (some d) = well p

  node_member_preserves : {x : Rule NodeId} → Preserves P x → Preserves P (Q.node_member x)
  unfolding Q.node_member
  node_member_preserves h = bind h (λ n. value _)

  -- ---- the rules at one level

  module _ (d : Readers) (deep : AllPreserve P d) where
    typed_name_preserves : Preserves P (Q.typed_name d)
    unfolding Q.typed_name
    typed_name_preserves = bind expect_ident_preserves (λ name. sequence (expect_preserves k_colon) (bind deep.type (λ t. value _)))

    option_type_preserves : Preserves P (Q.option_type d)
    unfolding Q.option_type
    option_type_preserves = sequence (open_angle_preserves 21 (omega arith) (omega arith)) (bind deep.type (λ t. sequence (expect_preserves k_greater_than) (push_type_preserves _)))

    array_type_preserves : Preserves P (Q.array_type d)
    unfolding Q.array_type
    array_type_preserves = sequence (open_angle_preserves 22 (omega arith) (omega arith)) (bind deep.type (λ t. sequence (expect_preserves k_greater_than) (push_type_preserves _)))

    record_type_preserves : Preserves P (Q.record_type d)
    unfolding Q.record_type
    record_type_preserves = bind advance_preserves (λ src. sequence (expect_preserves k_less_than) (bind (list_until_preserves k_greater_than typed_name_preserves) (λ fields. push_type_preserves _)))

    parse_type_preserves : Preserves P (Q.parse_type d)
    unfolding Q.parse_type Q.type_by_kind
    parse_type_preserves = table (entry atom_type_preserves (entry atom_type_preserves (entry atom_type_preserves (entry atom_type_preserves (entry atom_type_preserves (entry foreign_type_preserves (entry option_type_preserves (entry array_type_preserves (entry record_type_preserves entries[]))))))))) (failure 23 0 (omega arith) (omega arith))

    -- ---- items

    parse_body_preserves : Preserves P (Q.parse_body d)
    unfolding Q.parse_body
    parse_body_preserves = sequence (expect_preserves k_curly_left) (list_until_preserves k_curly_right (node_member_preserves deep.prefix))

    parse_args_preserves : Preserves P (Q.parse_args d)
    unfolding Q.parse_args
    parse_args_preserves = sequence (expect_preserves k_brace_left) (list_until_preserves k_brace_right typed_name_preserves)

    return_type_preserves : Preserves P (Q.return_type d)
    unfolding Q.return_type
    return_type_preserves = branch _ (struck_preserves deep.type) deep.type

    parse_let_preserves : Preserves P (Q.parse_let d)
    unfolding Q.parse_let
    parse_let_preserves =
        bind take_docs_preserves (λ docs. sequence (expect_preserves k_let) (bind expect_ident_preserves (λ name.
        sequence (expect_preserves k_equal) (bind deep.prefix (λ rhs. push_node_preserves 0 _)))))

    parse_fn_preserves : Preserves P (Q.parse_fn d)
    unfolding Q.parse_fn
    parse_fn_preserves =
        bind take_docs_preserves (λ docs. sequence advance_preserves (bind expect_ident_preserves (λ name.
        bind parse_args_preserves (λ args. bind (branch _ supplied_void_preserves return_type_preserves) (λ ret.
        bind parse_body_preserves (λ body. push_node_preserves args.len _))))))

    extern_fn_preserves : Preserves P (Q.extern_fn d)
    unfolding Q.extern_fn
    extern_fn_preserves =
        sequence collect_docs_preserves (sequence (reject_kind_preserves k_extern 17 (omega arith) (omega arith)) (bind take_docs_preserves (λ docs.
        sequence (expect_preserves k_fn) (bind expect_ident_preserves (λ name. bind parse_args_preserves (λ args.
        bind (branch _ supplied_void_preserves (branch _ supplied_void_preserves return_type_preserves)) (λ ret. value _)))))))

    parse_extern_preserves : Preserves P (Q.parse_extern d)
    unfolding Q.parse_extern
    parse_extern_preserves =
        bind take_docs_preserves (λ docs. bind (expect_preserves k_extern) (λ src. bind (branch _ advance_preserves (failure 16 0 (omega arith) (omega arith))) (λ name.
        sequence (expect_preserves k_curly_left) (bind (list_until_preserves k_curly_right extern_fn_preserves) (λ fns. push_node_preserves 0 _)))))

    default_case_preserves : (c : Cases) → Preserves P (Q.default_case d c)
    unfolding Q.default_case
    default_case_preserves c = current-token (λ t. bind parse_body_preserves (λ body. value _))

    condition_case_preserves : (c : Cases) → Preserves P (Q.condition_case d c)
    unfolding Q.condition_case
    condition_case_preserves c = current-token (λ t. bind (deep.expr 0) (λ condition. bind parse_body_preserves (λ body. value _)))

    next_case_preserves : (c : Cases) → Preserves P (Q.next_case d c)
    unfolding Q.next_case
    next_case_preserves c = branch _ (value _) (branch _ (value _) (sequence (note_after_default_preserves c) (bind (branch _ (default_case_preserves c) (condition_case_preserves c)) (λ e. value _))))

    parse_match_preserves : Preserves P (Q.parse_match d)
    unfolding Q.parse_match R.at_token
    parse_match_preserves =
        sequence advance_preserves (current-token (λ t. sequence (expect_preserves k_curly_left) (bind (repeat next_case_preserves _) (λ c.
        sequence (expect_preserves k_curly_right) (bind (alloc_slice_preserves c.cases) (λ cases. finish t cases c.default))))))
      where
        finish : (t : Token) (r : Run) (o : Option (Token × Run)) → Preserves P {A = NodeId} (elim o as (λ o'. Rule NodeId) [ none ↦ (λ s. err (R.at_token 18 0 t) s) | some x ↦ R.push_node (λ id. N.Match id r x.0 x.1) ])
        finish t r none = λ s p. badly {e = R.at_token 18 0 t} p (omega arith) (omega arith)
        finish t r (some x) = push_node_preserves 0 _

    parse_prefix_preserves : Preserves P (Q.parse_prefix d)
    unfolding Q.parse_prefix
    parse_prefix_preserves = sequence collect_docs_preserves (table (entry parse_import_preserves (entry parse_let_preserves (entry parse_fn_preserves (entry parse_extern_preserves entries[])))) (require_no_docs_preserves (branch _ parse_match_preserves (deep.expr 0))))

    -- ---- expressions

    field_preserves : Preserves P (Q.field d)
    unfolding Q.field
    field_preserves = bind expect_ident_preserves (λ key. sequence (expect_preserves k_colon) (bind (deep.expr 0) (λ x. value _)))

    record_literal_preserves : Preserves P (Q.record_literal d)
    unfolding Q.record_literal
    record_literal_preserves = bind advance_preserves (λ src. bind (list_until_preserves k_curly_right field_preserves) (λ fields. push_node_preserves 0 _))

    array_literal_preserves : Preserves P (Q.array_literal d)
    unfolding Q.array_literal
    array_literal_preserves = bind advance_preserves (λ src. bind (list_until_preserves k_braket_right (node_member_preserves (deep.expr 0))) (λ elements. push_node_preserves 0 _))

    group_preserves : Preserves P (Q.group d)
    unfolding Q.group
    group_preserves = sequence (struck_preserves advance_preserves) (bind (deep.expr 0) (λ e. sequence (struck_preserves (expect_preserves k_brace_right)) (value e)))

    unary_preserves : Preserves P (Q.unary d)
    unfolding Q.unary
    unary_preserves = bind advance_preserves (λ op. bind (deep.expr Q.prefix_power) (λ rhs. push_node_preserves 0 _))

    operand_preserves : Preserves P (Q.operand d)
    unfolding Q.operand
    operand_preserves = table (entry record_literal_preserves (entry array_literal_preserves (entry atom_preserves (entry atom_preserves (entry atom_preserves (entry atom_preserves (entry atom_preserves (entry ident_preserves (entry group_preserves (entry unary_preserves (entry unary_preserves entries[]))))))))))) (failure 19 0 (omega arith) (omega arith))

    call_preserves : (n : NodeId) → Preserves P (Q.call d n)
    unfolding Q.call
    call_preserves n = sequence advance_preserves (bind (list_until_preserves k_brace_right (node_member_preserves deep.prefix)) (λ args. bind (push_node_preserves 0 _) (λ m. value _)))

    call_step_preserves : (n : NodeId) (b : Bool) → Preserves P {A = ControlFlow NodeId} (elim b as (λ b'. Rule (ControlFlow NodeId)) [ true ↦ Q.call d n | false ↦ R.pure (break n) ])
    call_step_preserves n true = call_preserves n
    call_step_preserves n false = value _

    postfix_preserves : (n : NodeId) → Preserves P (Q.postfix d n)
    unfolding Q.postfix
    postfix_preserves = repeat (λ n. branch _ (field_access_preserves n) (branch _ (bind (callable_preserves n) (call_step_preserves n)) (value _)))

    cast_preserves : (n : NodeId) → Preserves P (Q.cast d n)
    unfolding Q.cast
    cast_preserves n = bind advance_preserves (λ src. bind deep.type (λ t. bind (push_node_preserves 0 _) (λ m. value _)))

    binary_preserves : (n : NodeId) (p : ℕ) → Preserves P (Q.binary d n p)
    unfolding Q.binary
    binary_preserves n p = bind advance_preserves (λ op. bind (deep.expr (Q.right_power p)) (λ rhs. bind (push_node_preserves 0 _) (λ m. value _)))

    module _ (power : ℕ → Option ℕ) (script : List ℕ) where
      sign_step_preserves : (least : ℕ) (n : NodeId) (t : Token) → Preserves P (Q.sign_step d power script least n t)
      sign_step_preserves least n t = by_power (power t.kind)
        where
          by_least : (p : ℕ) (b : Bool) → Preserves P {A = ControlFlow NodeId} (elim b as (λ b'. Rule (ControlFlow NodeId)) [ true ↦ R.pure (break n) | false ↦ Q.binary d n p ])
          by_least p true = value _
          by_least p false = binary_preserves n p

          by_sign : (p : ℕ) (b : Bool) → Preserves P {A = ControlFlow NodeId} (elim b as (λ b'. Rule (ControlFlow NodeId)) [ true ↦ R.pure (break n) | false ↦ elim (ltb p least) as (λ b'. Rule (ControlFlow NodeId)) [ true ↦ R.pure (break n) | false ↦ Q.binary d n p ] ])
          by_sign p true = value _
          by_sign p false = by_least p (ltb p least)

          by_power : (o : Option ℕ)
              → Preserves P {A = ControlFlow NodeId} (elim o as (λ o'. Rule (ControlFlow NodeId)) [ none ↦ R.pure (break n) | some p ↦ elim (Q.breaks_off script t) as (λ b'. Rule (ControlFlow NodeId)) [ true ↦ R.pure (break n) | false ↦ elim (ltb p least) as (λ b'. Rule (ControlFlow NodeId)) [ true ↦ R.pure (break n) | false ↦ Q.binary d n p ] ] ])
          by_power none = value _
          by_power (some p) = by_sign p (Q.breaks_off script t)

      infixes_preserves : (least : ℕ) (n : NodeId) → Preserves P (Q.infixes d power script least n)
      unfolding Q.infixes
      infixes_preserves least = repeat (λ n. branch _ (cast_preserves n) (current-token (sign_step_preserves least n)))

      parse_expr_preserves : (least : ℕ) → Preserves P (Q.parse_expr d power script least)
      unfolding Q.parse_expr
      parse_expr_preserves least = bind operand_preserves (λ x. bind (postfix_preserves x) (λ y. infixes_preserves least y))

  -- ---- levels

  pub all_preserve : (power : ℕ → Option ℕ) (script : List ℕ) (l : ℕ) → AllPreserve P (Q.readers power script l)
  unfolding Q.readers
  all_preserve power script zero = record { prefix = too_deep; expr = λ least. too_deep; type = too_deep }
    where
      too_deep : {A : Type 0} → Preserves P {A = A} (R.fail 10)
      too_deep = failure 10 0 (omega arith) (omega arith)
  all_preserve power script (suc l) =
      let deep : AllPreserve P (Q.readers power script l) = all_preserve power script l in
      record { prefix = parse_prefix_preserves _ deep; expr = parse_expr_preserves _ deep power script; type = parse_type_preserves _ deep }

  pub readers_preserve : (power : ℕ → Option ℕ) (script : List ℕ) (l : ℕ) → ReadersPreserve P (Q.readers power script l)
  readers_preserve power script l = states_preserved P (all_preserve power script l)
