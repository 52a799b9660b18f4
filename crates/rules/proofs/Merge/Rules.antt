-- Each rule, read in two states side by side.
use mathlib.Core.Path.{◌≡◌, refl, sym, ap, ap₂, ◌∙◌, subst}
use mathlib.Core.Bool.{Bool, true, false}
use mathlib.Core.Option.{Option, none, some}
use mathlib.Core.List.Memᴰ
use mathlib.Core.List.{List, [], ◌∷◌, ◌++◌, map, flatten, append_assoc, map-append, Memᴰ}
use mathlib.Core.Logic.{⊎_elim}
use Prim.Native.Nat.{ℕ, zero, suc, ◌+◌, ◌≤◌, ◌<◌}
use lib.Dec.{eqb, ltb}
use lib.ListN.{length, get_or, take, drop}
use lib.Seq.{get_or-append-add, take_at, drop_at, drop-append_seam}
use native.Mathlib.Nat.{zero-add}
use native.Mathlib.Omega.{arith}
use Rattle.lex.specs.Kind.{k_eof, k_brace_left, k_brace_right, k_equal, k_less_than, k_greater_than, k_colon, k_dot, k_braket_right, k_curly_left, k_curly_right, k_s, k_extern, k_let, k_fn, k_match, k_as, k_void}
use Rattle.lex.specs.declared.diagnostic.Diagnostic.{Diagnostic}
use Rattle.lex.specs.declared.tok.Token.{Token}
use Rattle.rules.specs.Tree.{Notes, State, Result, ok, err}
use Rattle.rules.specs.Combinators as R
use Rattle.rules.specs.Combinators.{Rule, current, Readers, ControlFlow, continue, break}
use Rattle.ast.specs.Layout.{token_cells, run_cells}
use Rattle.rules.specs.Rules as Q
use Rattle.rules.specs.Rules.{Cases, is_callable_target}
use Rattle.rules.specs.Merge.{Offsets, behind, moved_by, moved_token, moved_run, moved_node_id, moved_type_id, moved_node, moved_type, added, node_number, token_roles, typed_roles, field_roles, case_roles, fn_roles, Held, split, held_by_fn, held_by_fns, held_by_node, held_by_type, begins_item}
use Rattle.ast.specs.declared.Run.{Run}
use Rattle.ast.specs.declared.NodeId.{NodeId}
use Rattle.ast.specs.declared.TypeExprId.{TypeExprId}
use Rattle.ast.specs.declared.Node.{Node}
use Rattle.ast.specs.declared.Node.TheVariants as N
use Rattle.ast.specs.declared.TypeExpr.TheVariants as X
use Rattle.rules.proofs.Unique.Grow.{none≢some}
use Rattle.rules.proofs.Merge.Match.{Match, matched, doomed, failed, Never, Matches, Fails, fails, by_failure, matches-nothing, weaken, pure_match, fail_match, bind_doom, bind_match, then_doom, then_match, if_kind_match, if_kind_other, cur_match, entries[], entry, struck_match, strike_single_match, Turn, again, out, TurnDoomed, doomed_out, loop_match}
use Rattle.rules.proofs.Merge.Arena.{AllLike, like[], like∷, like_snoc, flatten_snoc}
use Rattle.rules.proofs.Merge.Beside.{false≢true, eof-begins, at-eof, same_kind, Setting, by, Beside, Less, raise, sharp, inside-first, inside_second, renote, Front, inside, at_end, front, TokenIs, NodeIs, TypeIs, RunIs, Like, After, Took, Any, advance_match, branch_inner, branch_item, branch-eof, table_beside, expect_match, expect_ident_match, expect_doomed, push_node_match, push_type_match, alloc_slice_match, take_docs_match, collect_docs_match, members_match, list_until_match, list_match, nodes_match, rewait}

-- where a rule takes a token, it fails at the end
pub fails-at_end : {A : Type 0} {Is : A → A → Type 0} {S : Setting} {ws : List Held} {r q : Result A} → Matches (Took S Is ws 0) r q → Fails r
fails-at_end h = matches-nothing h (λ a b s t z. omega (arith, z.1.less))

fail-fails : {A : Type 0} (number : ℕ) (s : State) → Fails {A = A} (R.fail number s)
unfolding R.fail_expecting
fail-fails number s = fails

module _ (S : Setting) where
  -- a rule takes a token, and both readings stay side by side
  abbrev pub Takes : {A : Type 0} → (A → A → Type 0) → Rule A → Rule A → Type 0
  Takes Is x x' = (ws : List Held) (n : ℕ) (s t : State) → Beside S ws n s t → Matches (Took S Is ws n) (x s) (x' t)

  -- the same, before a token
  abbrev pub TakesHere : {A : Type 0} → (A → A → Type 0) → Rule A → Rule A → Type 0
  TakesHere Is x x' = (ws : List Held) (n : ℕ) (s t : State) → Beside S ws n s t → ¬ ((current s.left).kind ≡ k_eof) → Matches (Took S Is ws n) (x s) (x' t)

  -- no token need be taken
  abbrev pub Keeps : {A : Type 0} → (A → A → Type 0) → Rule A → Rule A → Type 0
  Keeps Is x x' = (ws : List Held) (n : ℕ) (s t : State) → Beside S ws n s t → Matches (After S Is ws n) (x s) (x' t)

  -- the token being read
  current_moved : {ws : List Held} {n : ℕ} {s t : State} → Beside S ws n s t → ¬ ((current s.left).kind ≡ k_eof) → TokenIs S (current s.left) (current t.left)
  current_moved {ws} {s} {t} q k = go (front S q)
    where
      go : Front S ws s t → TokenIs S (current s.left) (current t.left)
      go (inside e i) = e
      go (at_end e i z) = absurd (k e)

  -- a result once more tokens are taken
  took_after : {A : Type 0} {Is : A → A → Type 0} {ws : List Held} {m n : ℕ} {r q : Result A} → m < n → Matches (After S Is ws m) r q → Matches (Took S Is ws n) r q
  took_after h z = weaken z (λ a b s t y. (y.0, record { at = _; less = h; beside = y.1 }))

  took_more : {A : Type 0} {Is : A → A → Type 0} {ws : List Held} {m n : ℕ} {r q : Result A} → m < n → Matches (Took S Is ws m) r q → Matches (Took S Is ws n) r q
  took_more h z = weaken z (λ a b s t y. (y.0, record { at = y.1.at; less = omega (arith, y.1.less); beside = y.1.beside }))

  -- ---- rules that read nothing deeper

  open_angle_match : (number : ℕ) → TakesHere (Any S) (Q.open_angle number) (Q.open_angle number)
  unfolding Q.open_angle R.reject_kind begins_item R.choose
  open_angle_match number ws n s t q k =
      then_match _ _ _ _ s t (advance_match S s t q k) (λ x x' s₁ t₁ y.
      then_match _ _ _ _ s₁ t₁ (expect_match S k_less_than refl s₁ t₁ y.1.beside) (λ x₂ x₂' s₂ t₂ z.
      branch_inner S k_greater_than refl _ _ _ _ s₂ t₂ z.1.beside (λ e. fail_match number 0 s₂ _) (λ e.
      pure_match _ _ s₂ t₂ (tt, record { at = z.1.at; less = omega (arith, y.1.less, z.1.less); beside = z.1.beside }))))

  atom_type_match : TakesHere (TypeIs S) Q.atom_type Q.atom_type
  unfolding Q.atom_type moved_type held_by_type
  atom_type_match ws n s t q k =
      bind_match _ _ _ _ s t (advance_match S s t q k) (λ x x' s₁ t₁ y.
      took_after y.1.less (push_type_match S [] _ _ s₁ t₁ y.1.beside refl (ap X.Atom y.0)))

  foreign_type_match : TakesHere (TypeIs S) Q.foreign_type Q.foreign_type
  unfolding Q.foreign_type moved_type held_by_type
  foreign_type_match ws n s t q k =
      then_match _ _ _ _ s t (open_angle_match 20 ws n s t q k) (λ x x' s₁ t₁ y.
      bind_match _ _ _ _ s₁ t₁ (expect_ident_match S s₁ t₁ y.1.beside) (λ a a' s₂ t₂ z.
      then_match _ _ _ _ s₂ t₂ (expect_match S k_greater_than refl s₂ t₂ z.1.beside) (λ b b' s₃ t₃ w.
      took_after (omega (arith, y.1.less, z.1.less, w.1.less)) (push_type_match S [] _ _ s₃ t₃ w.1.beside refl (ap X.Foreign z.0)))))

  supplied_void_match : {ws : List Held} {n : ℕ} (s t : State) → Beside S ws n s t → ¬ ((current s.left).kind ≡ k_eof) → Matches (After S (TypeIs S) ws n) (Q.supplied_void s) (Q.supplied_void t)
  unfolding Q.supplied_void moved_type held_by_type moved_token
  supplied_void_match s t q k = cur_match _ _ s t (push_type_match S [] _ _ s t q refl (ap (λ (x : Token). X.Atom (record { kind = k_void; start = x.start; len = 4 })) (current_moved q k)))

  token-cells : (a b : Token) → TokenIs S a b → Like S token_roles (token_cells a) (token_cells b)
  unfolding token_cells moved_token moved_by added
  token-cells a b e = (refl, ap (λ (x : Token). token_cells x) e ∙ ap₂ {C = List ℕ} (λ (k l : ℕ). k ∷ ((by S).bytes + a.start) ∷ l ∷ []) (sym (zero-add a.kind)) (sym (zero-add a.len)))

  import_path_match : Takes (Like S token_roles) Q.import_path Q.import_path
  unfolding Q.import_path
  import_path_match ws n s t q =
      branch_item S k_s refl _ _ _ _ s t q
      (λ e. bind_match _ _ _ _ s t (advance_match S s t q (omega arith)) (λ a b s₁ t₁ y. pure_match _ _ s₁ t₁ (token-cells a b y.0, y.1)))
      (λ e. fail_match 15 0 s _) (λ w. fail-fails 15 s)

  abbrev Paths : List Held → ℕ → List (List ℕ) → List (List ℕ) → State → State → Type 0
  Paths ws n = Took S (λ a b. AllLike (by S) token_roles a b) ws n

  -- notes play no part
  took_free : {A : Type 0} (Is : A → A → Type 0) {ws : List Held} {n : ℕ} (a b : A) (s t : State) (j k : Notes) → Took S Is ws n a b s t → Took S Is ws n a b (record { left = s.left; docs = s.docs; arena = s.arena; notes = j }) (record { left = t.left; docs = t.docs; arena = t.arena; notes = k })
  took_free Is a b s t j k z = (z.0, record { at = z.1.at; less = z.1.less; beside = renote S z.1.beside j k })

  bracketed_paths_match : (ws : List Held) (n : ℕ) (s t : State) → Beside S ws n s t → Matches (Paths ws n) (Q.bracketed_paths s) (Q.bracketed_paths t)
  unfolding Q.bracketed_paths begins_item R.choose
  bracketed_paths_match ws n s t q =
      then_match _ _ _ _ s t (expect_match S k_brace_left refl s t q) (λ a b s₁ t₁ y.
      bind_doom _ _ _ _ s₁ t₁ (members_match S (λ xs. ws) token_roles k_brace_right refl Q.import_path Q.import_path (λ xs m s₂ t₂ z. import_path_match ws m s₂ t₂ z) s₁ t₁ y.1.beside) (λ xs xs' s₂ t₂ z.
      then_match _ _ _ _ s₂ t₂ (expect_match S k_brace_right refl s₂ t₂ z.1) (λ c d s₃ t₃ w.
      pure_match _ _ s₃ t₃ (z.0, record { at = w.1.at; less = omega (arith, y.1.less, w.1.less); beside = w.1.beside })))
      (λ xs s₂ r e. expect_doomed k_brace_right (R.pure xs) s₂ r e refl))

  import_paths_match : (ws : List Held) (n : ℕ) (s t : State) → Beside S ws n s t → Matches (Paths ws n) (Q.import_paths s) (Q.import_paths t)
  unfolding begins_item R.choose
  import_paths_match ws n s t q =
      branch_inner S k_s refl _ _ _ _ s t q
      (λ e. bind_match _ _ _ _ s t (advance_match S s t q (omega arith)) (λ a b s₁ t₁ y. pure_match _ _ s₁ t₁ (one a b y.0, y.1)))
      (λ e. strike_single_match (took_free _) Q.bracketed_paths Q.bracketed_paths s t (bracketed_paths_match ws n s t q))
    where
      one : (a b : Token) → TokenIs S a b → AllLike (by S) token_roles (token_cells a ∷ []) (token_cells b ∷ [])
      one a b e = let z = token-cells a b e in like∷ z.0 z.1 like[]

  parse_import_match : TakesHere (NodeIs S) Q.parse_import Q.parse_import
  unfolding Q.parse_import moved_node held_by_node
  parse_import_match ws n s t q k =
      bind_match _ _ _ _ s t (advance_match S s t q k) (λ a b s₁ t₁ y.
      bind_match _ _ _ _ s₁ t₁ (import_paths_match ws _ s₁ t₁ y.1.beside) (λ ps ps' s₂ t₂ z.
      bind_match _ _ _ _ s₂ t₂ (alloc_slice_match S token_roles ps ps' s₂ t₂ z.1.beside z.0) (λ r r' s₃ t₃ w.
      took_after (omega (arith, y.1.less, z.1.less)) (push_node_match S (record { member = token_roles; run = r } ∷ []) 0 0 _ _ s₃ t₃ w.beside refl (λ v j. N.Import ((by S).values + v) (y.0 j) (w.moved j)) (λ v cs. refl)))))

  atom_match : TakesHere (NodeIs S) Q.atom Q.atom
  unfolding Q.atom moved_node held_by_node
  atom_match ws n s t q k =
      bind_match _ _ _ _ s t (advance_match S s t q k) (λ a b s₁ t₁ y.
      took_after y.1.less (push_node_match S [] 0 0 _ _ s₁ t₁ y.1.beside refl (λ v. ap (N.Atom ((by S).values + v)) y.0) (λ v cs. refl)))

  ident_match : TakesHere (NodeIs S) Q.ident Q.ident
  unfolding Q.ident moved_node held_by_node
  ident_match ws n s t q k =
      bind_match _ _ _ _ s t (advance_match S s t q k) (λ a b s₁ t₁ y.
      took_after y.1.less (push_node_match S [] 0 0 _ _ s₁ t₁ y.1.beside refl (λ v. ap (N.Ident ((by S).values + v)) y.0) (λ v cs. refl)))

  -- ---- calls

  moved_callable : (x : Node) → is_callable_target (moved_node (by S) x) ≡ is_callable_target x
  unfolding moved_node is_callable_target
  moved_callable (N.Atom id raw) = refl
  moved_callable (N.Ident id name) = refl
  moved_callable (N.Bin id op lhs rhs) = refl
  moved_callable (N.Unary id op rhs) = refl
  moved_callable (N.Let id docs name rhs) = refl
  moved_callable (N.Fn id docs name args ret body) = refl
  moved_callable (N.Match id cases t b) = refl
  moved_callable (N.Call id target args) = refl
  moved_callable (N.Field id target name) = refl
  moved_callable (N.Cast id src lhs rhs) = refl
  moved_callable (N.Import id src pkgs) = refl
  moved_callable (N.Extern id src docs name fns) = refl
  moved_callable (N.Record id src fields) = refl
  moved_callable (N.Array id src elements) = refl

  callable-at : (xs : List Node) (i : ℕ) (d : Node) → is_callable_target (get_or (map (moved_node (by S)) xs) i d) ≡ is_callable_target (get_or xs i d)
  callable-at [] i d = refl
  callable-at (x ∷ xs) zero d = moved_callable x
  callable-at (x ∷ xs) (suc i) d = callable-at xs i d

  callable_match : {ws : List Held} {n : ℕ} (a b : NodeId) → NodeIs S a b → (s t : State) → Beside S ws n s t → (current s.left).kind ≡ k_brace_left → Matches (λ c d s' t'. (d ≡ c) × Beside S ws n s' t' × ((current s'.left).kind ≡ k_brace_left)) (Q.callable a s) (Q.callable b t)
  unfolding Q.callable moved_node_id behind
  callable_match a b e s t q k = matched (
    ap₂ (λ (xs : List Node) (i : NodeId). is_callable_target (get_or xs i.0 (N.Atom 0 (record { kind = 0; start = 0; len = 0 })))) q.arena.nodes e
        ∙ ap is_callable_target (get_or-append-add S.pre.nodes (map (moved_node (by S)) s.arena.nodes) a.0 (N.Atom 0 (record { kind = 0; start = 0; len = 0 })))
        ∙ callable-at s.arena.nodes a.0 (N.Atom 0 (record { kind = 0; start = 0; len = 0 })),
    q,
    k,
  )

  -- a loop goes on with another node
  pub data GoesOn (ws : List Held) (n : ℕ) : ControlFlow NodeId → ControlFlow NodeId → State → State → Type 0 where
    goes_on_lem : {a b : NodeId} {s t : State} → NodeIs S a b → Less S ws n s t → GoesOn ws n (continue a) (continue b) s t

  field_access_match : {ws : List Held} {n : ℕ} (a b : NodeId) → NodeIs S a b → (s t : State) → Beside S ws n s t → ¬ ((current s.left).kind ≡ k_eof) → Matches (GoesOn ws n) (Q.field_access a s) (Q.field_access b t)
  unfolding Q.field_access moved_node held_by_node
  field_access_match a b e s t q k =
      then_match _ _ _ _ s t (advance_match S s t q k) (λ x x' s₁ t₁ y.
      bind_match _ _ _ _ s₁ t₁ (expect_ident_match S s₁ t₁ y.1.beside) (λ c c' s₂ t₂ z.
      bind_match _ _ _ _ s₂ t₂ (push_node_match S [] 0 0 _ _ s₂ t₂ z.1.beside refl (λ v j. N.Field ((by S).values + v) (e j) (z.0 j)) (λ v cs. refl)) (λ m m' s₃ t₃ w.
      pure_match _ _ s₃ t₃ (goes_on_lem w.0 (record { at = z.1.at; less = omega (arith, y.1.less, z.1.less); beside = w.1 })))))

  -- ---- waiting docs, notes

  require_no_docs_match : {A : Type 0} {P : A → A → State → State → Type 0} {ws : List Held} {n : ℕ} (x x' : Rule A) (s t : State) → Beside S ws n s t → Matches P (x s) (x' t) → Matches P (Q.require_no_docs x s) (Q.require_no_docs x' t)
  unfolding Q.require_no_docs R.if_kind R.by_kind
  require_no_docs_match {A} {P} x x' s t q h = go s.docs t.docs q.docs _ _ (λ d ds. either (eqb (current s.left).kind k_eof) _ _)
    where
      either : (b : Bool) (e e' : Diagnostic) → Fails {A = A} ((elim b as (λ b'. Rule A) [ true ↦ (λ z. err e z) | false ↦ (λ z. err e' z) ]) s)
      either true e e' = fails
      either false e e' = fails

      go : (l l' : List Token) → l' ≡ map (moved_token (by S)) l → (f f' : Token → List Token → Result A) → ((d : Token) (ds : List Token) → Fails (f d ds)) → Matches P (elim l as (λ z. Result A) [ [] ↦ x s | d ∷ ds ↦ f d ds ]) (elim l' as (λ z. Result A) [ [] ↦ x' t | d ∷ ds ↦ f' d ds ])
      go [] [] e f f' w = h
      go [] (d ∷ ds) e f f' w = let z = ap length e in absurd (omega arith)
      go (d ∷ ds) l' e f f' w = by_failure _ (w d ds)

  -- no token is taken
  note_after_default_match : {ws : List Held} {n : ℕ} (c c' : Cases) (s t : State) → Beside S ws n s t → Matches (λ x x' s' t'. Beside S ws n s' t' × (s'.left ≡ s.left)) (Q.note_after_default c s) (Q.note_after_default c' t)
  unfolding Q.note_after_default
  note_after_default_match {ws} {n} c c' s t q = go c.default c'.default _ _
    where
      go : (l l' : Option (Token × Run)) (j k : Notes) → Matches {A = ℕ} (λ x x' s' t'. Beside S ws n s' t' × (s'.left ≡ s.left)) (elim l as (λ z. Result ℕ) [ none ↦ ok 0 s | some x ↦ ok 1 (record { left = s.left; docs = s.docs; arena = s.arena; notes = j }) ])
          (elim l' as (λ z. Result ℕ) [ none ↦ ok 0 t | some x ↦ ok 1 (record { left = t.left; docs = t.docs; arena = t.arena; notes = k }) ])
      go none none j k = matched (q, refl)
      go none (some x) j k = matched (renote S q s.notes k, refl)
      go (some x) none j k = matched (renote S q j t.notes, refl)
      go (some x) (some y) j k = matched (renote S q j k, refl)

  node_member_match : (x x' : Rule NodeId) → Takes (NodeIs S) x x' → Takes (Like S (node_number ∷ [])) (Q.node_member x) (Q.node_member x')
  unfolding Q.node_member moved_node_id moved_by added
  node_member_match x x' h ws n s t q = bind_match _ _ _ _ s t (h ws n s t q) (λ a b s₁ t₁ y. pure_match _ _ s₁ t₁ ((refl, ap (λ (m : NodeId). m.0 ∷ []) y.0), y.1))

  -- ---- the rules at one level

  pub record ReadersMatch (d d' : Readers) : Type 0 where
    pub prefix : Takes (NodeIs S) d.prefix d'.prefix
    pub expr : (least : ℕ) → Takes (NodeIs S) (d.expr least) (d'.expr least)
    pub type : Takes (TypeIs S) d.type d'.type

  typed_like : (a b : Token) (i j : TypeExprId) → TokenIs S a b → TypeIs S i j → Like S typed_roles (token_cells a ++ (i.0 ∷ [])) (token_cells b ++ (j.0 ∷ []))
  unfolding token_cells moved_token moved_type_id moved_by added
  typed_like a b i j e f = (refl, ap₂ {C = List ℕ} (λ (x : Token) (k : TypeExprId). token_cells x ++ (k.0 ∷ [])) e f ∙ ap₂ {C = List ℕ} (λ (k l : ℕ). k ∷ ((by S).bytes + a.start) ∷ l ∷ ((by S).types + i.0) ∷ []) (sym (zero-add a.kind)) (sym (zero-add a.len)))

  field_like : (a b : Token) (i j : NodeId) → TokenIs S a b → NodeIs S i j → Like S field_roles (token_cells a ++ (i.0 ∷ [])) (token_cells b ++ (j.0 ∷ []))
  unfolding token_cells moved_token moved_node_id moved_by added
  field_like a b i j e f = (refl, ap₂ {C = List ℕ} (λ (x : Token) (k : NodeId). token_cells x ++ (k.0 ∷ [])) e f ∙ ap₂ {C = List ℕ} (λ (k l : ℕ). k ∷ ((by S).bytes + a.start) ∷ l ∷ ((by S).nodes + i.0) ∷ []) (sym (zero-add a.kind)) (sym (zero-add a.len)))

  case_like : (a b : Token) (i j : NodeId) (r r' : Run) → TokenIs S a b → NodeIs S i j → RunIs S r r' → Like S case_roles (token_cells a ++ (i.0 ∷ run_cells r)) (token_cells b ++ (j.0 ∷ run_cells r'))
  unfolding token_cells run_cells moved_token moved_node_id moved_run moved_by added
  case_like a b i j r r' e f g = (refl, (λ k. token_cells (e k) ++ ((f k).0 ∷ run_cells (g k))) ∙ (λ k. sym (zero-add a.kind) k ∷ ((by S).bytes + a.start) ∷ sym (zero-add a.len) k ∷ ((by S).nodes + i.0) ∷ ((by S).cells + r.start) ∷ sym (zero-add r.len) k ∷ []))

  fn_like : (p p' : Run) (a b : Token) (r r' : Run) (i j : TypeExprId) → RunIs S p p' → TokenIs S a b → RunIs S r r' → TypeIs S i j → Like S fn_roles (run_cells p ++ token_cells a ++ run_cells r ++ (i.0 ∷ [])) (run_cells p' ++ token_cells b ++ run_cells r' ++ (j.0 ∷ []))
  unfolding token_cells run_cells moved_token moved_type_id moved_run moved_by added
  fn_like p p' a b r r' i j e f g h = (
    refl,
    (λ k. run_cells (e k) ++ token_cells (f k) ++ run_cells (g k) ++ ((h k).0 ∷ []))
        ∙ (λ k. ((by S).cells + p.start) ∷ sym (zero-add p.len) k ∷ sym (zero-add a.kind) k ∷ ((by S).bytes + a.start) ∷ sym (zero-add a.len) k ∷ ((by S).cells + r.start) ∷ sym (zero-add r.len) k ∷ ((by S).types + i.0) ∷ []),
  )

  -- the lists of an extern's fns, one fn after the other
  fns-snoc : (xs : List (List ℕ)) (x : List ℕ) → held_by_fns (xs ++ (x ∷ [])) ≡ held_by_fns xs ++ held_by_fn x
  unfolding held_by_fns
  fns-snoc xs x = ap flatten (map-append held_by_fn xs (x ∷ [])) ∙ flatten_snoc (map held_by_fn xs) (held_by_fn x)

  fn_holds : (p : Run) (a : Token) (r : Run) (i : TypeExprId) → held_by_fn (run_cells p ++ token_cells a ++ run_cells r ++ (i.0 ∷ [])) ≡ record { member = typed_roles; run = r } ∷ record { member = token_roles; run = p } ∷ []
  unfolding held_by_fn run_cells token_cells
  fn_holds p a r i = refl

  -- a list of lists that wait, its parts in another order
  turned : (hs bs ws : List Held) (h : Held) → Memᴰ h (hs ++ (bs ++ ws)) → Memᴰ h ((bs ++ hs) ++ ws)
  turned hs bs ws h z = ⊎_elim (λ y. Memᴰ.append_left ws (Memᴰ.append_right bs y)) (λ y. ⊎_elim (λ x. Memᴰ.append_left ws (Memᴰ.append_left hs x)) (λ x. Memᴰ.append_right (bs ++ hs) x) (Memᴰ.append_cases bs y)) (Memᴰ.append_cases hs z)

  turned_back_lem : (hs bs ws : List Held) (h : Held) → Memᴰ h ((bs ++ hs) ++ ws) → Memᴰ h (hs ++ (bs ++ ws))
  turned_back_lem hs bs ws h z = ⊎_elim (λ y. ⊎_elim (λ x. Memᴰ.append_right hs (Memᴰ.append_left ws x)) (λ x. Memᴰ.append_left (bs ++ ws) x) (Memᴰ.append_cases bs y)) (λ y. Memᴰ.append_right hs (Memᴰ.append_right bs y)) (Memᴰ.append_cases (bs ++ hs) z)

  -- members of one width are found again behind other cells, with more behind them
  split_flatten : {o : Offsets} {xs xs' : List (List ℕ)} (more : List ℕ) → AllLike o fn_roles xs xs' → split 8 (length xs) (flatten xs ++ more) ≡ xs
  unfolding split flatten
  split_flatten more like[] = refl
  split_flatten more (like∷ {x} {xs} h e l) =
      let z = append_assoc x (flatten xs) more in
      ap₂ {C = List (List ℕ)} ◌∷◌ (ap (take 8) z ∙ take_at x (flatten xs ++ more) 8 (sym h)) (ap (λ (cs : List ℕ). split 8 (length xs) (drop 8 cs)) z ∙ ap (split 8 (length xs)) (drop_at x (flatten xs ++ more) 8 (sym h)) ∙ split_flatten more l)

  -- nothing is said of the second at the end
  reject_kind_match : {ws : List Held} {n : ℕ} (k number : ℕ) → eqb k_eof k ≡ false → (s t : State) → Beside S ws n s t → Match (After S (Any S) ws n) (λ a s'. (current s'.left).kind ≡ k_eof) (R.reject_kind k number s) (R.reject_kind k number t)
  unfolding R.reject_kind R.pure
  reject_kind_match {ws} {n} k number b s t q = go (front S q)
    where
      go : Front S ws s t → Match {A = ℕ} (After S (Any S) ws n) (λ a s'. (current s'.left).kind ≡ k_eof) (R.if_kind k (R.fail number) (R.pure 0) s) (R.if_kind k (R.fail number) (R.pure 0) t)
      go (inside e i) = if_kind_match k _ _ _ _ s t (same_kind S _ _ e) (λ z. fail_match number 0 s _) (λ z. matched (tt, q))
      go (at_end e i z) = if_kind_other k _ _ s _ (at-eof s k e b) (doomed e)

  docs_doomed : {B : Type 0} {P : B → B → State → State → Type 0} {D : B → State → Type 0} (k : ℕ) (g : Run → Rule B) (s : State) (r : Result B) → (current s.left).kind ≡ k_eof → eqb k_eof k ≡ false → Match P D ((R.◌>>=◌ R.take_docs (λ docs. R.◌>>◌ (R.expect k) (g docs))) s) r
  unfolding R.◌>>=◌ R.take_docs R.with_docs R.alloc_slice R.with_arena
  docs_doomed k g s r e b = expect_doomed k (g _) _ r e b

  -- the default of a match so far
  pub data DefaultIs : Option (Token × Run) → Option (Token × Run) → Type 0 where
    no_default : DefaultIs none none
    has_default : {a b : Token × Run} → TokenIs S a.0 b.0 → RunIs S a.1 b.1 → DefaultIs (some a) (some b)

  abbrev pub CasesIs : Cases → Cases → Type 0
  CasesIs c c' = AllLike (by S) case_roles c.cases c'.cases × DefaultIs c.default c'.default

  module _ (d d' : Readers) (deep : ReadersMatch d d') where
    -- ---- types

    typed_name_match : Takes (Like S typed_roles) (Q.typed_name d) (Q.typed_name d')
    unfolding Q.typed_name
    typed_name_match ws n s t q =
        bind_match _ _ _ _ s t (expect_ident_match S s t q) (λ a b s₁ t₁ y.
        then_match _ _ _ _ s₁ t₁ (expect_match S k_colon refl s₁ t₁ y.1.beside) (λ x x' s₂ t₂ z.
        bind_match _ _ _ _ s₂ t₂ (deep.type ws _ s₂ t₂ z.1.beside) (λ i j s₃ t₃ w.
        pure_match _ _ s₃ t₃ (typed_like a b i j y.0 w.0, record { at = w.1.at; less = omega (arith, y.1.less, z.1.less, w.1.less); beside = w.1.beside }))))

    option_type_match : TakesHere (TypeIs S) (Q.option_type d) (Q.option_type d')
    unfolding Q.option_type moved_type held_by_type
    option_type_match ws n s t q k =
        then_match _ _ _ _ s t (open_angle_match 21 ws n s t q k) (λ x x' s₁ t₁ y.
        bind_match _ _ _ _ s₁ t₁ (deep.type ws _ s₁ t₁ y.1.beside) (λ i j s₂ t₂ z.
        then_match _ _ _ _ s₂ t₂ (expect_match S k_greater_than refl s₂ t₂ z.1.beside) (λ b b' s₃ t₃ w.
        took_after (omega (arith, y.1.less, z.1.less, w.1.less)) (push_type_match S [] _ _ s₃ t₃ w.1.beside refl (ap X.Option z.0)))))

    array_type_match : TakesHere (TypeIs S) (Q.array_type d) (Q.array_type d')
    unfolding Q.array_type moved_type held_by_type
    array_type_match ws n s t q k =
        then_match _ _ _ _ s t (open_angle_match 22 ws n s t q k) (λ x x' s₁ t₁ y.
        bind_match _ _ _ _ s₁ t₁ (deep.type ws _ s₁ t₁ y.1.beside) (λ i j s₂ t₂ z.
        then_match _ _ _ _ s₂ t₂ (expect_match S k_greater_than refl s₂ t₂ z.1.beside) (λ b b' s₃ t₃ w.
        took_after (omega (arith, y.1.less, z.1.less, w.1.less)) (push_type_match S [] _ _ s₃ t₃ w.1.beside refl (ap X.Array z.0)))))

    record_type_match : TakesHere (TypeIs S) (Q.record_type d) (Q.record_type d')
    unfolding Q.record_type moved_type held_by_type begins_item R.choose
    record_type_match ws n s t q k =
        bind_match _ _ _ _ s t (advance_match S s t q k) (λ a b s₁ t₁ y.
        then_match _ _ _ _ s₁ t₁ (expect_match S k_less_than refl s₁ t₁ y.1.beside) (λ x x' s₂ t₂ z.
        bind_match _ _ _ _ s₂ t₂ (list_match S typed_roles k_greater_than refl _ _ (typed_name_match ws) s₂ t₂ z.1.beside) (λ r r' s₃ t₃ w.
        took_after (omega (arith, y.1.less, z.1.less, w.1.less)) (push_type_match S (record { member = typed_roles; run = r } ∷ []) _ _ s₃ t₃ w.1.beside refl (λ j. X.Record (y.0 j) (w.0 j))))))

    type-fails : (s : State) → Fails (Q.type_by_kind d k_eof s)
    unfolding Q.type_by_kind R.choose R.fail_expecting
    type-fails s = fails

    pub parse_type_match : Takes (TypeIs S) (Q.parse_type d) (Q.parse_type d')
    unfolding Q.parse_type Q.type_by_kind
    parse_type_match ws n s t q =
        table_beside S _ _ _ _ s t q
        (entry (λ e. atom_type_match ws n s t q (omega arith)) (entry (λ e. atom_type_match ws n s t q (omega arith)) (entry (λ e. atom_type_match ws n s t q (omega arith))
        (entry (λ e. atom_type_match ws n s t q (omega arith)) (entry (λ e. atom_type_match ws n s t q (omega arith)) (entry (λ e. foreign_type_match ws n s t q (omega arith))
        (entry (λ e. option_type_match ws n s t q (omega arith)) (entry (λ e. array_type_match ws n s t q (omega arith)) (entry (λ e. record_type_match ws n s t q (omega arith)) entries[])))))))))
        (λ i. fail_match 23 0 s _) (λ w. type-fails s)

    -- ---- items

    parse_body_match : Takes (RunIs S) (Q.parse_body d) (Q.parse_body d')
    unfolding Q.parse_body begins_item R.choose
    parse_body_match ws n s t q =
        then_match _ _ _ _ s t (expect_match S k_curly_left refl s t q) (λ a b s₁ t₁ y.
        took_more y.1.less (nodes_match S k_curly_right refl _ _ (node_member_match _ _ deep.prefix ws) s₁ t₁ y.1.beside))

    parse_args_match : (ws : List Held) (n : ℕ) (s t : State) → Beside S ws n s t → Matches (λ r r' s' t'. RunIs S r r' × Less S (record { member = typed_roles; run = r } ∷ ws) n s' t') (Q.parse_args d s) (Q.parse_args d' t)
    unfolding Q.parse_args begins_item R.choose
    parse_args_match ws n s t q =
        then_match _ _ _ _ s t (expect_match S k_brace_left refl s t q) (λ a b s₁ t₁ y.
        weaken (list_match S typed_roles k_brace_right refl _ _ (typed_name_match ws) s₁ t₁ y.1.beside) (λ r r' s₂ t₂ z. (z.0, record { at = z.1.at; less = omega (arith, y.1.less, z.1.less); beside = z.1.beside })))

    return_type_match : Takes (TypeIs S) (Q.return_type d) (Q.return_type d')
    unfolding Q.return_type begins_item R.choose
    return_type_match ws n s t q = branch_inner S k_void refl _ _ _ _ s t q (λ e. struck_match (took_free _) _ _ s t (deep.type ws n s t q)) (λ e. deep.type ws n s t q)

    took_kept : {A : Type 0} {Is : A → A → Type 0} {ws : List Held} {n : ℕ} {r q : Result A} → Matches (Took S Is ws n) r q → Matches (After S Is ws n) r q
    took_kept z = weaken z (λ a b s t y. (y.0, raise S y.1.beside (omega (arith, y.1.less))))

    parse_let_match : Takes (NodeIs S) (Q.parse_let d) (Q.parse_let d')
    unfolding Q.parse_let moved_node held_by_node
    parse_let_match ws n s t q =
        bind_match _ _ _ _ s t (take_docs_match S s t q) (λ r r' s₁ t₁ y.
        then_match _ _ _ _ s₁ t₁ (expect_match S k_let refl s₁ t₁ y.0.1) (λ x x' s₂ t₂ z.
        bind_match _ _ _ _ s₂ t₂ (expect_ident_match S s₂ t₂ z.1.beside) (λ a b s₃ t₃ w.
        then_match _ _ _ _ s₃ t₃ (expect_match S k_equal refl s₃ t₃ w.1.beside) (λ c c' s₄ t₄ v.
        bind_match _ _ _ _ s₄ t₄ (deep.prefix _ _ s₄ t₄ v.1.beside) (λ m m' s₅ t₅ f.
        took_after (omega (arith, z.1.less, w.1.less, v.1.less, f.1.less)) (push_node_match S (record { member = token_roles; run = r } ∷ []) 0 0 _ _ s₅ t₅ f.1.beside refl (λ i j. N.Let ((by S).values + i) (y.0.0 j) (w.0 j) (f.0 j)) (λ i cs. refl)))))))

    fn_return_match : Keeps (TypeIs S) (Q.fn_return d) (Q.fn_return d')
    unfolding begins_item R.choose
    fn_return_match ws n s t q = branch_inner S k_curly_left refl _ _ _ _ s t q (λ e. supplied_void_match s t q (omega arith)) (λ e. took_kept (return_type_match ws n s t q))

    parse_fn_match : TakesHere (NodeIs S) (Q.parse_fn d) (Q.parse_fn d')
    unfolding Q.parse_fn moved_node moved_run held_by_node
    parse_fn_match ws n s t q k =
        bind_match _ _ _ _ s t (take_docs_match S s t q) (λ r r' s₁ t₁ y.
        then_match _ _ _ _ s₁ t₁ (advance_match S s₁ t₁ y.0.1 (λ e. k (ap (λ (l : List Token). (current l).kind) (sym y.1) ∙ e))) (λ x x' s₂ t₂ z.
        bind_match _ _ _ _ s₂ t₂ (expect_ident_match S s₂ t₂ z.1.beside) (λ a b s₃ t₃ w.
        bind_match _ _ _ _ s₃ t₃ (parse_args_match _ _ s₃ t₃ w.1.beside) (λ g g' s₄ t₄ v.
        bind_match _ _ _ _ s₄ t₄ (fn_return_match _ _ s₄ t₄ v.1.beside) (λ i i' s₅ t₅ f.
        bind_match _ _ _ _ s₅ t₅ (parse_body_match _ _ s₅ t₅ f.1) (λ o o' s₆ t₆ m.
        took_after (omega (arith, z.1.less, w.1.less, v.1.less, m.1.less))
        (push_node_match S (record { member = typed_roles; run = g } ∷ record { member = token_roles; run = r } ∷ []) _ _ _ _ s₆ t₆ m.1.beside (ap (λ (z : Run). z.len) v.0) (λ c j. N.Fn ((by S).values + c) (y.0.0 j) (w.0 j) (v.0 j) (f.0 j) (m.0 j)) (λ c cs. refl))))))))

    extern_return_match : Keeps (TypeIs S) (Q.extern_return d) (Q.extern_return d')
    unfolding begins_item R.choose
    extern_return_match ws n s t q =
        branch_inner S k_curly_right refl _ _ _ _ s t q (λ e. supplied_void_match s t q (omega arith)) (λ e.
        branch_item S k_fn refl _ _ _ _ s t q (λ e'. supplied_void_match s t q (omega arith)) (λ i. took_kept (return_type_match ws n s t q)) (λ w. fails-at_end (return_type_match ws 0 s t w)))

    extern_fn_match : (ws : List Held) (xs : List (List ℕ)) (n : ℕ) (s t : State) → Beside S (held_by_fns xs ++ ws) n s t → Matches (λ x x' s' t'. Like S fn_roles x x' × Less S (held_by_fns (xs ++ (x ∷ [])) ++ ws) n s' t') (Q.extern_fn d s) (Q.extern_fn d' t)
    unfolding Q.extern_fn
    extern_fn_match ws xs n s t q =
        then_match _ _ _ _ s t (collect_docs_match S s t q) (λ a₀ b₀ s₁ t₁ y.
        then_doom _ _ _ _ s₁ t₁ (reject_kind_match k_extern 17 refl s₁ t₁ y.1) (λ a₁ b₁ s₂ t₂ z.
        bind_match _ _ _ _ s₂ t₂ (take_docs_match S s₂ t₂ z.1) (λ p p' s₃ t₃ w.
        then_match _ _ _ _ s₃ t₃ (expect_match S k_fn refl s₃ t₃ w.0.1) (λ a₂ b₂ s₄ t₄ v.
        bind_match _ _ _ _ s₄ t₄ (expect_ident_match S s₄ t₄ v.1.beside) (λ a b s₅ t₅ f.
        bind_match _ _ _ _ s₅ t₅ (parse_args_match _ _ s₅ t₅ f.1.beside) (λ r r' s₆ t₆ g.
        bind_match _ _ _ _ s₆ t₆ (extern_return_match _ _ s₆ t₆ g.1.beside) (λ i j s₇ t₇ h.
        pure_match _ _ s₇ t₇ (fn_like p p' a b r r' i j w.0.0 f.0 g.0 h.0, record { at = g.1.at; less = omega (arith, v.1.less, f.1.less, g.1.less); beside = waiting _ p a r i s₇ t₇ h.1 })))))))
        (λ a₁ s₂ r e. docs_doomed k_fn _ s₂ r e refl))
      where
        waiting : (m : ℕ) (p : Run) (a : Token) (r : Run) (i : TypeExprId) (s' t' : State) → Beside S (record { member = typed_roles; run = r } ∷ record { member = token_roles; run = p } ∷ (held_by_fns xs ++ ws)) m s' t' → Beside S (held_by_fns (xs ++ ((run_cells p ++ token_cells a ++ run_cells r ++ (i.0 ∷ [])) ∷ [])) ++ ws) m s' t'
        waiting m p a r i s' t' z = subst (λ (l : List Held). Beside S (l ++ ws) m s' t') (sym (fns-snoc xs (run_cells p ++ token_cells a ++ run_cells r ++ (i.0 ∷ [])) ∙ ap (λ (l : List Held). held_by_fns xs ++ l) (fn_holds p a r i))) (rewait S z (turned (record { member = typed_roles; run = r } ∷ record { member = token_roles; run = p } ∷ []) (held_by_fns xs) ws) (turned_back_lem (record { member = typed_roles; run = r } ∷ record { member = token_roles; run = p } ∷ []) (held_by_fns xs) ws))

    extern_name_match : Takes (TokenIs S) Q.extern_name Q.extern_name
    extern_name_match ws n s t q = branch_item S k_s refl _ _ _ _ s t q (λ e. advance_match S s t q (omega arith)) (λ i. fail_match 16 0 s _) (λ w. fail-fails 16 s)

    parse_extern_match : Takes (NodeIs S) (Q.parse_extern d) (Q.parse_extern d')
    unfolding Q.parse_extern moved_node held_by_node held_by_fns flatten begins_item R.choose
    parse_extern_match ws n s t q =
        bind_match _ _ _ _ s t (take_docs_match S s t q) (λ p p' s₁ t₁ y.
        bind_match _ _ _ _ s₁ t₁ (expect_match S k_extern refl s₁ t₁ y.0.1) (λ a a' s₂ t₂ z.
        bind_match _ _ _ _ s₂ t₂ (extern_name_match _ _ s₂ t₂ z.1.beside) (λ b b' s₃ t₃ w.
        then_match _ _ _ _ s₃ t₃ (expect_match S k_curly_left refl s₃ t₃ w.1.beside) (λ c c' s₄ t₄ v.
        bind_match _ _ _ _ s₄ t₄ (list_until_match S (λ xs. held_by_fns xs ++ (record { member = token_roles; run = p } ∷ ws)) fn_roles k_curly_right refl _ _ (extern_fn_match (record { member = token_roles; run = p } ∷ ws)) s₄ t₄ v.1.beside) (λ r r' s₅ t₅ f.
        took_after {m = f.at} (omega (arith, z.1.less, w.1.less, v.1.less, f.less))
        (push_node_match S (record { member = fn_roles; run = r } ∷ (held_by_fns f.xs ++ (record { member = token_roles; run = p } ∷ []))) 0 0 _ _ s₅ t₅
        (subst (λ (l : List Held). Beside S (record { member = fn_roles; run = r } ∷ l) f.at s₅ t₅) (sym (append_assoc (held_by_fns f.xs) (record { member = token_roles; run = p } ∷ []) ws)) f.listed.beside) refl
        (λ i j. N.Extern ((by S).values + i) (z.0 j) (y.0.0 j) (w.0 j) (f.listed.moved j))
        (λ i cs. ap (λ (l : List (List ℕ)). record { member = fn_roles; run = r } ∷ (held_by_fns l ++ (record { member = token_roles; run = p } ∷ []))) (found r f.xs f.xs' f.like f.listed.before s₅.arena.cells cs f.listed.cells f.listed.start f.listed.len))))))))
      where
        found : (r : Run) (xs xs' : List (List ℕ)) → AllLike (by S) fn_roles xs xs' → (before cells cs : List ℕ) → cells ≡ before ++ flatten xs → r.start ≡ length before → r.len ≡ length xs → split 8 r.len (drop r.start (cells ++ cs)) ≡ xs
        found r xs xs' l before cells cs e f g =
            ap₂ (λ (m : ℕ) (z : List ℕ). split 8 m z) g (ap₂ (λ (m : ℕ) (z : List ℕ). drop m z) f (ap (λ (z : List ℕ). z ++ cs) e ∙ append_assoc before (flatten xs) cs) ∙ drop-append_seam before (flatten xs ++ cs)) ∙ split_flatten cs l

    -- ---- matches

    default_case_match : (c c' : Cases) → CasesIs c c' → TakesHere CasesIs (Q.default_case d c) (Q.default_case d' c')
    unfolding Q.default_case
    default_case_match c c' h ws n s t q k =
        cur_match _ _ s t (bind_match _ _ _ _ s t (parse_body_match ws n s t q) (λ r r' s₁ t₁ y.
        pure_match _ _ s₁ t₁ ((h.0, has_default (current_moved q k) y.0), y.1)))

    condition_case_match : (c c' : Cases) → CasesIs c c' → TakesHere CasesIs (Q.condition_case d c) (Q.condition_case d' c')
    unfolding Q.condition_case
    condition_case_match c c' h ws n s t q k =
        cur_match _ _ s t (bind_match _ _ _ _ s t (deep.expr 0 ws n s t q) (λ m m' s₁ t₁ y.
        bind_match _ _ _ _ s₁ t₁ (parse_body_match ws _ s₁ t₁ y.1.beside) (λ r r' s₂ t₂ z.
        let l = case_like (current s.left) (current t.left) m m' r r' (current_moved q k) y.0 z.0 in
        pure_match _ _ s₂ t₂ ((like_snoc _ _ h.0 l.0 l.1, h.1), record { at = z.1.at; less = omega (arith, y.1.less, z.1.less); beside = z.1.beside }))))

    parse_match_match : TakesHere (NodeIs S) (Q.parse_match d) (Q.parse_match d')
    unfolding Q.parse_match Q.next_case R.pure moved_node held_by_node begins_item R.choose
    parse_match_match ws n s t q k =
        then_match _ _ _ _ s t (advance_match S s t q k) (λ x x' s₁ t₁ y.
        cur_match _ _ s₁ t₁ (
        then_match _ _ _ _ s₁ t₁ (expect_match S k_curly_left refl s₁ t₁ y.1.beside) (λ a a' s₂ t₂ z.
        bind_doom _ _ _ _ s₂ t₂ (cases z.1.at s₂ t₂ z.1.beside) (λ c c' s₃ t₃ w.
        then_match _ _ _ _ s₃ t₃ (expect_match S k_curly_right refl s₃ t₃ w.1) (λ b b' s₄ t₄ v.
        bind_match _ _ _ _ s₄ t₄ (alloc_slice_match S case_roles _ _ s₄ t₄ v.1.beside w.0.0) (λ r r' s₅ t₅ f.
        took_after (omega (arith, y.1.less, z.1.less, v.1.less)) (by_default r r' f.moved c.default c'.default w.0.1 _ _ s₅ t₅ f.beside))))
        (λ c s₃ r e. expect_doomed k_curly_right _ s₃ r e refl))))
      where
        cases : (n' : ℕ) (s₂ t₂ : State) → Beside S ws n' s₂ t₂ → Match (After S CasesIs ws n') (λ c s'. (current s'.left).kind ≡ k_eof) (R.loop (Q.next_case d) (record { cases = []; default = none }) s₂) (R.loop (Q.next_case d') (record { cases = []; default = none }) t₂)
        cases n' s₂ t₂ q₂ = loop_match (λ m c c' s₃ t₃. CasesIs c c' × Beside S ws m s₃ t₃ × (m ≤ n')) (After S CasesIs ws n') (λ c s'. (current s'.left).kind ≡ k_eof) _ _
            (λ m c c' s₃ t₃ z. branch-eof S _ _ _ _ s₃ t₃ z.1 (λ e r. doomed (doomed_out e)) (λ i.
            branch_inner S k_curly_right refl _ _ _ _ s₃ t₃ z.1 (λ e. matched (out (z.0, raise S z.1 z.2))) (λ e.
            then_match _ _ _ _ s₃ t₃ (note_after_default_match c c' s₃ t₃ z.1) (λ x x' s₄ t₄ w.
            let here : ¬ ((current s₄.left).kind ≡ k_eof) = λ e₄. i.0 (ap (λ (l : List Token). (current l).kind) (sym w.1) ∙ e₄) in
            bind_match _ _ _ _ s₄ t₄ (branch_inner S k_curly_left refl _ _ _ _ s₄ t₄ w.0 (λ e'. default_case_match c c' z.0 ws m s₄ t₄ w.0 here) (λ e'. condition_case_match c c' z.0 ws m s₄ t₄ w.0 here)) (λ b b' s₅ t₅ v.
            matched (again v.1.at v.1.less (v.0, v.1.beside, omega (arith, v.1.less, z.2))))))))
            (length q₂.tokens) _ _ s₂ t₂ ((like[], no_default), sharp S q₂, q₂.few) (inside-first S q₂) (inside_second S q₂)

        by_default : {m : ℕ} (r r' : Run) → RunIs S r r' → (l l' : Option (Token × Run)) → DefaultIs l l' → (e e' : Diagnostic) (s' t' : State) → Beside S (record { member = case_roles; run = r } ∷ ws) m s' t'
            → Matches (After S (NodeIs S) ws m) ((elim l as (λ z. Rule NodeId) [ none ↦ (λ z. err e z) | some x ↦ R.push_node_and 0 (λ id. N.Match id r x.0 x.1) ]) s') ((elim l' as (λ z. Rule NodeId) [ none ↦ (λ z. err e' z) | some x ↦ R.push_node_and 0 (λ id. N.Match id r' x.0 x.1) ]) t')
        by_default r r' g l l' no_default e e' s' t' w = failed
        by_default r r' g l l' (has_default f h) e e' s' t' w = push_node_match S (record { member = case_roles; run = r } ∷ []) 0 0 _ _ s' t' w refl (λ i j. N.Match ((by S).values + i) (g j) (f j) (h j)) (λ i cs. refl)

    -- ---- items, by their first token

    plain_item_match : Takes (NodeIs S) (Q.plain_item d) (Q.plain_item d')
    plain_item_match ws n s t q = branch_item S k_match refl _ _ _ _ s t q (λ e. parse_match_match ws n s t q (omega arith)) (λ i. deep.expr 0 ws n s t q) (λ w. fails-at_end (deep.expr 0 ws 0 s t w))

    item_fails : {ws : List Held} (s t : State) → Beside S ws 0 s t → Fails (Q.item_by_kind d k_eof s)
    unfolding R.choose
    item_fails {ws} s t q = fails-at_end (require_no_docs_match (Q.plain_item d) (Q.plain_item d') s t q (plain_item_match ws 0 s t q))

    pub parse_prefix_match : Takes (NodeIs S) (Q.parse_prefix d) (Q.parse_prefix d')
    unfolding Q.parse_prefix
    parse_prefix_match ws n s t q =
        then_match _ _ _ _ s t (collect_docs_match S s t q) (λ a b s₁ t₁ y.
        table_beside S _ _ _ _ s₁ t₁ y.1
        (entry (λ e. parse_import_match ws n s₁ t₁ y.1 (omega arith)) (entry (λ e. parse_let_match ws n s₁ t₁ y.1) (entry (λ e. parse_fn_match ws n s₁ t₁ y.1 (omega arith)) (entry (λ e. parse_extern_match ws n s₁ t₁ y.1) entries[]))))
        (λ i. require_no_docs_match _ _ s₁ t₁ y.1 (plain_item_match ws n s₁ t₁ y.1)) (λ w. item_fails s₁ t₁ w))

    -- ---- expressions

    field_match : Takes (Like S field_roles) (Q.field d) (Q.field d')
    unfolding Q.field
    field_match ws n s t q =
        bind_match _ _ _ _ s t (expect_ident_match S s t q) (λ a b s₁ t₁ y.
        then_match _ _ _ _ s₁ t₁ (expect_match S k_colon refl s₁ t₁ y.1.beside) (λ x x' s₂ t₂ z.
        bind_match _ _ _ _ s₂ t₂ (deep.expr 0 ws _ s₂ t₂ z.1.beside) (λ i j s₃ t₃ w.
        pure_match _ _ s₃ t₃ (field_like a b i j y.0 w.0, record { at = w.1.at; less = omega (arith, y.1.less, z.1.less, w.1.less); beside = w.1.beside }))))

    record_literal_match : TakesHere (NodeIs S) (Q.record_literal d) (Q.record_literal d')
    unfolding Q.record_literal moved_node held_by_node begins_item R.choose
    record_literal_match ws n s t q k =
        bind_match _ _ _ _ s t (advance_match S s t q k) (λ a b s₁ t₁ y.
        bind_match _ _ _ _ s₁ t₁ (list_match S field_roles k_curly_right refl _ _ (field_match ws) s₁ t₁ y.1.beside) (λ r r' s₂ t₂ z.
        took_after (omega (arith, y.1.less, z.1.less)) (push_node_match S (record { member = field_roles; run = r } ∷ []) 0 0 _ _ s₂ t₂ z.1.beside refl (λ i j. N.Record ((by S).values + i) (y.0 j) (z.0 j)) (λ i cs. refl))))

    array_literal_match : TakesHere (NodeIs S) (Q.array_literal d) (Q.array_literal d')
    unfolding Q.array_literal moved_node held_by_node begins_item R.choose
    array_literal_match ws n s t q k =
        bind_match _ _ _ _ s t (advance_match S s t q k) (λ a b s₁ t₁ y.
        bind_match _ _ _ _ s₁ t₁ (nodes_match S k_braket_right refl _ _ (node_member_match _ _ (deep.expr 0) ws) s₁ t₁ y.1.beside) (λ r r' s₂ t₂ z.
        took_after (omega (arith, y.1.less, z.1.less)) (push_node_match S [] 0 0 _ _ s₂ t₂ z.1.beside refl (λ i j. N.Array ((by S).values + i) (y.0 j) (z.0 j)) (λ i cs. refl))))

    group_match : TakesHere (NodeIs S) (Q.group d) (Q.group d')
    unfolding Q.group
    group_match ws n s t q k =
        then_match _ _ _ _ s t (struck_match (took_free _) _ _ s t (advance_match S s t q k)) (λ a b s₁ t₁ y.
        bind_match _ _ _ _ s₁ t₁ (deep.expr 0 ws _ s₁ t₁ y.1.beside) (λ m m' s₂ t₂ z.
        then_match _ _ _ _ s₂ t₂ (struck_match (took_free _) _ _ s₂ t₂ (expect_match S k_brace_right refl s₂ t₂ z.1.beside)) (λ c c' s₃ t₃ w.
        pure_match _ _ s₃ t₃ (z.0, record { at = w.1.at; less = omega (arith, y.1.less, z.1.less, w.1.less); beside = w.1.beside }))))

    unary_match : TakesHere (NodeIs S) (Q.unary d) (Q.unary d')
    unfolding Q.unary moved_node held_by_node
    unary_match ws n s t q k =
        bind_match _ _ _ _ s t (advance_match S s t q k) (λ a b s₁ t₁ y.
        bind_match _ _ _ _ s₁ t₁ (deep.expr Q.prefix_power ws _ s₁ t₁ y.1.beside) (λ m m' s₂ t₂ z.
        took_after (omega (arith, y.1.less, z.1.less)) (push_node_match S [] 0 0 _ _ s₂ t₂ z.1.beside refl (λ i j. N.Unary ((by S).values + i) (y.0 j) (z.0 j)) (λ i cs. refl))))

    operand-fails : (s : State) → Fails (Q.operand_by_kind d k_eof s)
    unfolding R.choose R.fail_expecting
    operand-fails s = fails

    operand_match : Takes (NodeIs S) (Q.operand d) (Q.operand d')
    unfolding Q.operand
    operand_match ws n s t q =
        table_beside S _ _ _ _ s t q
        (entry (λ e. record_literal_match ws n s t q (omega arith)) (entry (λ e. array_literal_match ws n s t q (omega arith))
        (entry (λ e. atom_match ws n s t q (omega arith)) (entry (λ e. atom_match ws n s t q (omega arith)) (entry (λ e. atom_match ws n s t q (omega arith)) (entry (λ e. atom_match ws n s t q (omega arith)) (entry (λ e. atom_match ws n s t q (omega arith))
        (entry (λ e. ident_match ws n s t q (omega arith)) (entry (λ e. group_match ws n s t q (omega arith)) (entry (λ e. unary_match ws n s t q (omega arith)) (entry (λ e. unary_match ws n s t q (omega arith)) entries[])))))))))))
        (λ i. fail_match 19 0 s _) (λ w. operand-fails s)

    call_match : {ws : List Held} {n : ℕ} (a b : NodeId) → NodeIs S a b → (s t : State) → Beside S ws n s t → ¬ ((current s.left).kind ≡ k_eof) → Matches (GoesOn ws n) (Q.call d a s) (Q.call d' b t)
    unfolding Q.call moved_node held_by_node begins_item R.choose
    call_match {ws} a b e s t q k =
        then_match _ _ _ _ s t (advance_match S s t q k) (λ x x' s₁ t₁ y.
        bind_match _ _ _ _ s₁ t₁ (nodes_match S k_brace_right refl _ _ (node_member_match _ _ deep.prefix ws) s₁ t₁ y.1.beside) (λ r r' s₂ t₂ z.
        bind_match _ _ _ _ s₂ t₂ (push_node_match S [] 0 0 _ _ s₂ t₂ z.1.beside refl (λ v j. N.Call ((by S).values + v) (e j) (z.0 j)) (λ v cs. refl)) (λ m m' s₃ t₃ w.
        pure_match _ _ s₃ t₃ (goes_on_lem w.0 (record { at = z.1.at; less = omega (arith, y.1.less, z.1.less); beside = w.1 })))))

    cast_match : {ws : List Held} {n : ℕ} (a b : NodeId) → NodeIs S a b → (s t : State) → Beside S ws n s t → ¬ ((current s.left).kind ≡ k_eof) → Matches (GoesOn ws n) (Q.cast d a s) (Q.cast d' b t)
    unfolding Q.cast moved_node held_by_node
    cast_match {ws} a b e s t q k =
        bind_match _ _ _ _ s t (advance_match S s t q k) (λ x x' s₁ t₁ y.
        bind_match _ _ _ _ s₁ t₁ (deep.type ws _ s₁ t₁ y.1.beside) (λ r r' s₂ t₂ z.
        bind_match _ _ _ _ s₂ t₂ (push_node_match S [] 0 0 _ _ s₂ t₂ z.1.beside refl (λ v j. N.Cast ((by S).values + v) (y.0 j) (e j) (z.0 j)) (λ v cs. refl)) (λ m m' s₃ t₃ w.
        pure_match _ _ s₃ t₃ (goes_on_lem w.0 (record { at = z.1.at; less = omega (arith, y.1.less, z.1.less); beside = w.1 })))))

    binary_match : {ws : List Held} {n : ℕ} (p : ℕ) (a b : NodeId) → NodeIs S a b → (s t : State) → Beside S ws n s t → ¬ ((current s.left).kind ≡ k_eof) → Matches (GoesOn ws n) (Q.binary d a p s) (Q.binary d' b p t)
    unfolding Q.binary moved_node held_by_node
    binary_match {ws} p a b e s t q k =
        bind_match _ _ _ _ s t (advance_match S s t q k) (λ x x' s₁ t₁ y.
        bind_match _ _ _ _ s₁ t₁ (deep.expr (Q.right_power p) ws _ s₁ t₁ y.1.beside) (λ r r' s₂ t₂ z.
        bind_match _ _ _ _ s₂ t₂ (push_node_match S [] 0 0 _ _ s₂ t₂ z.1.beside refl (λ v j. N.Bin ((by S).values + v) (y.0 j) (e j) (z.0 j)) (λ v cs. refl)) (λ m m' s₃ t₃ w.
        pure_match _ _ s₃ t₃ (goes_on_lem w.0 (record { at = z.1.at; less = omega (arith, y.1.less, z.1.less); beside = w.1 })))))

    -- ---- loops over a node

    abbrev Node_at : List Held → ℕ → ℕ → NodeId → NodeId → State → State → Type 0
    Node_at ws n m a b s t = NodeIs S a b × Beside S ws m s t × (m ≤ n)

    turns : {ws : List Held} {n m : ℕ} {r q : Result (ControlFlow NodeId)} → m ≤ n → Matches (GoesOn ws m) r q → Match (Turn (Node_at ws n) (After S (NodeIs S) ws n) m) (TurnDoomed Never) r q
    turns {ws} {n} {m} h (matched {s} {t} g) = go s t g
      where
        go : {c c' : ControlFlow NodeId} (s t : State) → GoesOn ws m c c' s t → Match (Turn (Node_at ws n) (After S (NodeIs S) ws n) m) (TurnDoomed Never) (ok c s) (ok c' t)
        go s t (goes_on_lem e l) = matched (again l.at l.less (e, l.beside, omega (arith, l.less)))
    turns h (doomed x) = absurd x
    turns h failed = failed

    postfix_match : {ws : List Held} {n : ℕ} (a b : NodeId) → NodeIs S a b → (s t : State) → Beside S ws n s t → Matches (After S (NodeIs S) ws n) (Q.postfix d a s) (Q.postfix d' b t)
    unfolding Q.postfix begins_item R.choose
    postfix_match {ws} {n} a b e s t q = loop_match (Node_at ws n) (After S (NodeIs S) ws n) Never _ _
        (λ m x x' s₁ t₁ z. branch_inner S k_dot refl _ _ _ _ s₁ t₁ z.1 (λ k. turns z.2 (field_access_match x x' z.0 s₁ t₁ z.1 (omega arith))) (λ k.
        branch_inner S k_brace_left refl _ _ _ _ s₁ t₁ z.1
        (λ k'. bind_match _ _ _ _ s₁ t₁ (callable_match x x' z.0 s₁ t₁ z.1 k') (λ c c' s₂ t₂ w. called m x x' z.0 z.2 c c' w.0 s₂ t₂ w.1 w.2))
        (λ k'. pure_match _ _ s₁ t₁ (out (z.0, raise S z.1 z.2)))))
        (length q.tokens) a b s t (e, sharp S q, q.few) (inside-first S q) (inside_second S q)
      where
        called : (m : ℕ) (x x' : NodeId) → NodeIs S x x' → m ≤ n → (c c' : Bool) → c' ≡ c → (s₂ t₂ : State) → Beside S ws m s₂ t₂ → (current s₂.left).kind ≡ k_brace_left → Match (Turn (Node_at ws n) (After S (NodeIs S) ws n) m) (TurnDoomed Never) (Q.call_step d x c s₂) (Q.call_step d' x' c' t₂)
        called m x x' f h true true g s₂ t₂ w k = turns h (call_match x x' f s₂ t₂ w (omega arith))
        called m x x' f h false false g s₂ t₂ w k = pure_match _ _ s₂ t₂ (out (f, raise S w h))
        called m x x' f h true false g s₂ t₂ w k = false≢true g
        called m x x' f h false true g s₂ t₂ w k = false≢true (sym g)

    -- what begins an item is no infix sign
    module _ (power : ℕ → Option ℕ) (no_sign : (k : ℕ) → begins_item k ≡ true → power k ≡ none) where
      infixes_match : {ws : List Held} {n : ℕ} (least : ℕ) (a b : NodeId) → NodeIs S a b → (s t : State) → Beside S ws n s t → Matches (After S (NodeIs S) ws n) (Q.infixes d power S.σ least a s) (Q.infixes d' power S.τ least b t)
      unfolding Q.infixes begins_item R.choose
      infixes_match {ws} {n} least a b e s t q = loop_match (Node_at ws n) (After S (NodeIs S) ws n) Never _ _
          (λ m x x' s₁ t₁ z. branch_inner S k_as refl _ _ _ _ s₁ t₁ z.1 (λ k. turns z.2 (cast_match x x' z.0 s₁ t₁ z.1 (omega arith))) (λ k.
          cur_match _ _ s₁ t₁ (sign m x x' z.0 z.2 s₁ t₁ z.1 (front S z.1))))
          (length q.tokens) a b s t (e, sharp S q, q.few) (inside-first S q) (inside_second S q)
        where
          by_least : (m : ℕ) (x x' : NodeId) → NodeIs S x x' → m ≤ n → (p : ℕ) (s₁ t₁ : State) → Beside S ws m s₁ t₁ → ¬ ((current s₁.left).kind ≡ k_eof) → (z : Bool)
              → Match (Turn (Node_at ws n) (After S (NodeIs S) ws n) m) (TurnDoomed Never) ((elim z as (λ z'. Rule (ControlFlow NodeId)) [ true ↦ R.pure (break x) | false ↦ Q.binary d x p ]) s₁) ((elim z as (λ z'. Rule (ControlFlow NodeId)) [ true ↦ R.pure (break x') | false ↦ Q.binary d' x' p ]) t₁)
          by_least m x x' f h p s₁ t₁ w k true = pure_match _ _ s₁ t₁ (out (f, raise S w h))
          by_least m x x' f h p s₁ t₁ w k false = turns h (binary_match p x x' f s₁ t₁ w k)

          by_break : (m : ℕ) (x x' : NodeId) → NodeIs S x x' → m ≤ n → (p : ℕ) (s₁ t₁ : State) → Beside S ws m s₁ t₁ → ¬ ((current s₁.left).kind ≡ k_eof) → (z : Bool)
              → Match (Turn (Node_at ws n) (After S (NodeIs S) ws n) m) (TurnDoomed Never)
              ((elim z as (λ z'. Rule (ControlFlow NodeId)) [ true ↦ R.pure (break x) | false ↦ elim (ltb p least) as (λ z'. Rule (ControlFlow NodeId)) [ true ↦ R.pure (break x) | false ↦ Q.binary d x p ] ]) s₁)
              ((elim z as (λ z'. Rule (ControlFlow NodeId)) [ true ↦ R.pure (break x') | false ↦ elim (ltb p least) as (λ z'. Rule (ControlFlow NodeId)) [ true ↦ R.pure (break x') | false ↦ Q.binary d' x' p ] ]) t₁)
          by_break m x x' f h p s₁ t₁ w k true = pure_match _ _ s₁ t₁ (out (f, raise S w h))
          by_break m x x' f h p s₁ t₁ w k false = by_least m x x' f h p s₁ t₁ w k (ltb p least)

          by_power : (m : ℕ) (x x' : NodeId) → NodeIs S x x' → m ≤ n → (s₁ t₁ : State) → Beside S ws m s₁ t₁ → ¬ ((current s₁.left).kind ≡ k_eof) → (z : Bool) (o : Option ℕ)
              → Match (Turn (Node_at ws n) (After S (NodeIs S) ws n) m) (TurnDoomed Never)
              ((elim o as (λ o'. Rule (ControlFlow NodeId)) [ none ↦ R.pure (break x) | some p ↦ elim z as (λ z'. Rule (ControlFlow NodeId)) [ true ↦ R.pure (break x) | false ↦ elim (ltb p least) as (λ z'. Rule (ControlFlow NodeId)) [ true ↦ R.pure (break x) | false ↦ Q.binary d x p ] ] ]) s₁)
              ((elim o as (λ o'. Rule (ControlFlow NodeId)) [ none ↦ R.pure (break x') | some p ↦ elim z as (λ z'. Rule (ControlFlow NodeId)) [ true ↦ R.pure (break x') | false ↦ elim (ltb p least) as (λ z'. Rule (ControlFlow NodeId)) [ true ↦ R.pure (break x') | false ↦ Q.binary d' x' p ] ] ]) t₁)
          by_power m x x' f h s₁ t₁ w k z none = pure_match _ _ s₁ t₁ (out (f, raise S w h))
          by_power m x x' f h s₁ t₁ w k z (some p) = by_break m x x' f h p s₁ t₁ w k z

          neither : (m : ℕ) (x x' : NodeId) → NodeIs S x x' → m ≤ n → (s₁ t₁ : State) → Beside S ws m s₁ t₁ → (z z' : Bool) (o o' : Option ℕ) → o ≡ none → o' ≡ none
              → Match (Turn (Node_at ws n) (After S (NodeIs S) ws n) m) (TurnDoomed Never)
              ((elim o as (λ o'. Rule (ControlFlow NodeId)) [ none ↦ R.pure (break x) | some p ↦ elim z as (λ z'. Rule (ControlFlow NodeId)) [ true ↦ R.pure (break x) | false ↦ elim (ltb p least) as (λ z'. Rule (ControlFlow NodeId)) [ true ↦ R.pure (break x) | false ↦ Q.binary d x p ] ] ]) s₁)
              ((elim o' as (λ o'. Rule (ControlFlow NodeId)) [ none ↦ R.pure (break x') | some p ↦ elim z' as (λ z'. Rule (ControlFlow NodeId)) [ true ↦ R.pure (break x') | false ↦ elim (ltb p least) as (λ z'. Rule (ControlFlow NodeId)) [ true ↦ R.pure (break x') | false ↦ Q.binary d' x' p ] ] ]) t₁)
          neither m x x' f h s₁ t₁ w z z' none none g g' = pure_match _ _ s₁ t₁ (out (f, raise S w h))
          neither m x x' f h s₁ t₁ w z z' none (some p) g g' = none≢some p (sym g')
          neither m x x' f h s₁ t₁ w z z' (some p) o' g g' = none≢some p (sym g)

          sign : (m : ℕ) (x x' : NodeId) → NodeIs S x x' → m ≤ n → (s₁ t₁ : State) → Beside S ws m s₁ t₁ → Front S ws s₁ t₁ → Match (Turn (Node_at ws n) (After S (NodeIs S) ws n) m) (TurnDoomed Never) (Q.sign_step d power S.σ least x (current s₁.left) s₁) (Q.sign_step d' power S.τ least x' (current t₁.left) t₁)
          sign m x x' f h s₁ t₁ w (inside g i) =
              subst (λ (o : Option ℕ). Match (Turn (Node_at ws n) (After S (NodeIs S) ws n) m) (TurnDoomed Never) (Q.sign_step d power S.σ least x (current s₁.left) s₁)
              ((elim o as (λ o'. Rule (ControlFlow NodeId)) [ none ↦ R.pure (break x') | some p ↦ elim (Q.breaks_off S.τ (current t₁.left)) as (λ z'. Rule (ControlFlow NodeId)) [ true ↦ R.pure (break x') | false ↦ elim (ltb p least) as (λ z'. Rule (ControlFlow NodeId)) [ true ↦ R.pure (break x') | false ↦ Q.binary d' x' p ] ] ]) t₁))
              (ap power (sym (same_kind S _ _ g)))
              (subst (λ (z : Bool). Match (Turn (Node_at ws n) (After S (NodeIs S) ws n) m) (TurnDoomed Never) (Q.sign_step d power S.σ least x (current s₁.left) s₁)
              ((elim (power (current s₁.left).kind) as (λ o'. Rule (ControlFlow NodeId)) [ none ↦ R.pure (break x') | some p ↦ elim z as (λ z'. Rule (ControlFlow NodeId)) [ true ↦ R.pure (break x') | false ↦ elim (ltb p least) as (λ z'. Rule (ControlFlow NodeId)) [ true ↦ R.pure (break x') | false ↦ Q.binary d' x' p ] ] ]) t₁))
              (sym (ap (Q.breaks_off S.τ) g ∙ i.1)) (by_power m x x' f h s₁ t₁ w i.0 (Q.breaks_off S.σ (current s₁.left)) (power (current s₁.left).kind)))
          sign m x x' f h s₁ t₁ w (at_end g i z) = neither m x x' f h s₁ t₁ w (Q.breaks_off S.σ (current s₁.left)) (Q.breaks_off S.τ (current t₁.left)) (power (current s₁.left).kind) (power (current t₁.left).kind) (ap power g ∙ no_sign k_eof eof-begins) (ap (λ (c : Token). power c.kind) i ∙ no_sign S.u.kind S.begins)

      pub parse_expr_match : (least : ℕ) → Takes (NodeIs S) (Q.parse_expr d power S.σ least) (Q.parse_expr d' power S.τ least)
      unfolding Q.parse_expr
      parse_expr_match least ws n s t q =
          bind_match _ _ _ _ s t (operand_match ws n s t q) (λ x x' s₁ t₁ y.
          bind_match _ _ _ _ s₁ t₁ (postfix_match x x' y.0 s₁ t₁ y.1.beside) (λ a b s₂ t₂ z.
          took_after y.1.less (infixes_match least a b z.0 s₂ t₂ z.1)))

  -- ---- levels

  pub readers_match : (power : ℕ → Option ℕ) → ((k : ℕ) → begins_item k ≡ true → power k ≡ none) → (l : ℕ) → ReadersMatch (Q.readers power S.σ l) (Q.readers power S.τ l)
  unfolding Q.readers
  readers_match power no_sign zero = record { prefix = λ ws n s t q. fail_match 10 0 s _; expr = λ least ws n s t q. fail_match 10 0 s _; type = λ ws n s t q. fail_match 10 0 s _ }
  readers_match power no_sign (suc l) =
      let deep : ReadersMatch (Q.readers power S.σ l) (Q.readers power S.τ l) = readers_match power no_sign l in
      record { prefix = parse_prefix_match _ _ deep; expr = λ least. parse_expr_match _ _ deep power no_sign least; type = parse_type_match _ _ deep }
