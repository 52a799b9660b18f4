-- Each rule hands out what it makes, and names what was handed to it.
use mathlib.Core.Path.{◌≡◌, refl, sym, ap, subst}
use mathlib.Core.Bool.{Bool, true, false}
use mathlib.Core.Option.{Option, none, some}
use mathlib.Core.List.{List, [], ◌∷◌, ◌++◌}
use Prim.Native.Nat.{ℕ, zero, suc}
use lib.Dec.{eqb, ltb}
use lib.ListN.{length}
use native.Mathlib.Omega.{arith}
use Rattle.lex.specs.Kind.{k_eof, k_brace_left, k_brace_right, k_equal, k_less_than, k_greater_than, k_colon, k_dot, k_braket_right, k_curly_left, k_curly_right, k_s, k_extern, k_let, k_fn, k_match, k_as, k_void}
use Rattle.lex.specs.declared.tok.Token.{Token}
use Rattle.rules.specs.Tree.{Arena, Notes, State, Result, ok, err}
use Rattle.rules.specs.Combinators as R
use Rattle.rules.specs.Combinators.{Rule, current, Readers, ControlFlow, break}
use Rattle.ast.specs.Layout.{token_cells, run_cells}
use Rattle.rules.specs.Rules as Q
use Rattle.rules.specs.Rules.{Cases}
use Rattle.ast.specs.Lists.{map₁, map₂, and_then, decoded, chain, number, token, run}
use Rattle.rules.specs.Law.{Child, a_node, a_type, listed, node_in, type_in, field_in, param_in, case_in, fn_in, children_of, inner_of, times, arguments_of}
use Rattle.ast.specs.declared.Run.{Run}
use Rattle.ast.specs.declared.NodeId.{NodeId}
use Rattle.ast.specs.declared.TypeExprId.{TypeExprId}
use Rattle.ast.specs.declared.TypeExpr.{TypeExpr}
use Rattle.ast.specs.declared.Node.TheVariants as N
use Rattle.ast.specs.declared.TypeExpr.TheVariants as X
use Rattle.rules.proofs.Results.{Ends, holds, fails, weaken_both, if_kind-ok, table_ok, entry-ok, other_ok, bind_ok, then_ok, pure-ok, cur-ok, fail-ok, require_no_docs-ok, flow_value, loop-ok}
use Rattle.rules.proofs.Unique.Step.{All, all[], all_snoc, all_mono, fold}
use Rattle.rules.proofs.Law.Step.{Reader, Steady, Base, Holding, Held, Stays, Gives, ItemsHeld, MemberHeld, RunHeld, joined, less, drop, rebase, onward, times-append, times_snoc, node_steady, field_steady, param_steady, case_steady, fn_steady, listed_mono, advance-holds, expect-holds, expect_ident-holds, reject_kind-holds, collect_docs-holds, alloc_slice-holds, take_docs-holds, push_node-holds, push_type-holds, struck-holds, writes, list_until-holds}

abbrev pub node_child : NodeId → Child
node_child n = a_node n.0

abbrev pub type_child : TypeExprId → Child
type_child t = a_type t.0

abbrev flow_child : ControlFlow NodeId → Child
flow_child t = node_child (flow_value t)

note_after_default-holds : {P : State → Type 0} {E : State → Type 0} (cs : Cases) (s : State) → ((n : Notes) → P (record { left = s.left; docs = s.docs; arena = s.arena; notes = n })) → Ends (λ n s'. P s') E (Q.note_after_default cs s)
unfolding Q.note_after_default
note_after_default-holds {P} {E} cs s q = go _ cs.default
  where
    go : (n : Notes) (o : Option (Token × Run)) → Ends {A = ℕ} (λ n s'. P s') E (elim o as (λ o'. Result ℕ) [ none ↦ ok 0 s | some d ↦ ok 1 (record { left = s.left; docs = s.docs; arena = s.arena; notes = n }) ])
    go n none = holds (q s.notes)
    go n (some d) = holds (q n)

module _ {A B : Type 0} where
  map₁-some : (f : A → B) {o : Option A} {a : A} → o ≡ some a → map₁ f o ≡ some (f a)
  unfolding map₁
  map₁-some f e = ap (map₁ f) e

module _ {A B C : Type 0} where
  map₂-some : (f : A → B → C) {o : Option A} {p : Option B} {a : A} {b : B} → o ≡ some a → p ≡ some b → map₂ f o p ≡ some (f a b)
  unfolding map₂ map₁
  map₂-some f e g = rw (e, g) refl

module _ {r : Child} {b : Base} {hs : List Child} {m : Arena} (q : Holding r b hs m) where
  abbrev here : Base
  here = record { held = b.held; cells = m.cells }

  -- what follows, counted from here
  forward : {A : Type 0} {g : A → List Child} {z : Result A} → Ends (λ a s'. Held r here (g a) s') (Held r here []) z → Ends (λ a s'. Held r b (g a) s') (Held r b []) z
  forward h = weaken_both h (λ a s' x. onward q x) (λ s' x. onward q x)

-- a list that is written stays
module _ {r : Child} {h : ℕ} {cells : List ℕ} {hs : List Child} {m : Arena} (z : Holding r (record { held = h; cells = cells }) hs m) where
  still : (rd : Reader) → Steady rd → (u : Run) {names : List Child} → listed (rd cells) cells u ≡ some names → listed (rd m.cells) m.cells u ≡ some names
  still rd steady u {names} e = subst (λ (l : List ℕ). listed (rd l) l u ≡ some names) (sym z.grown) (listed_mono rd steady cells z.more u names e)

  still_all : (rd : Reader) → Steady rd → {xs : List (List ℕ)} {names : List (List Child)} → All (rd cells) xs names → All (rd m.cells) xs names
  still_all rd steady {xs} {names} e = subst (λ (l : List ℕ). All (rd l) xs names) (sym z.grown) (all_mono _ _ (steady cells z.more) e)

module _ (r : Child) where
  pub record ReadersHold (d : Readers) : Type 0 where
    pub prefix : {b : Base} {hs : List Child} (s : State) → Held r b hs s → Gives r node_child b hs (d.prefix s)
    pub expr : {b : Base} {hs : List Child} (least : ℕ) (s : State) → Held r b hs s → Gives r node_child b hs (d.expr least s)
    pub type : {b : Base} {hs : List Child} (s : State) → Held r b hs s → Gives r type_child b hs (d.type s)

  module _ {b : Base} {hs : List Child} where
    -- ---- rules that read nothing deeper

    open_angle-holds : (n : ℕ) (s : State) → Held r b hs s → Stays r b hs (Q.open_angle n s)
    unfolding Q.open_angle
    open_angle-holds n s q =
        then_ok _ _ s (advance-holds s q) (λ x s₁ q₁.
        then_ok _ _ s₁ (expect-holds k_less_than s₁ q₁) (λ y s₂ q₂.
        reject_kind-holds k_greater_than n s₂ q₂))

    atom_type-holds : (s : State) → Held r b hs s → Gives r type_child b hs (Q.atom_type s)
    unfolding Q.atom_type inner_of times
    atom_type-holds s q = bind_ok _ _ s (advance-holds s q) (λ t s₁ q₁. push_type-holds _ [] s₁ q₁ (omega arith) refl)

    foreign_type-holds : (s : State) → Held r b hs s → Gives r type_child b hs (Q.foreign_type s)
    unfolding Q.foreign_type inner_of times
    foreign_type-holds s q =
        then_ok _ _ s (open_angle-holds 20 s q) (λ x s₁ q₁.
        bind_ok _ _ s₁ (expect_ident-holds s₁ q₁) (λ name s₂ q₂.
        then_ok _ _ s₂ (expect-holds k_greater_than s₂ q₂) (λ y s₃ q₃.
        push_type-holds _ [] s₃ q₃ (omega arith) refl)))

    supplied_void-holds : (s : State) → Held r b hs s → Gives r type_child b hs (Q.supplied_void s)
    unfolding Q.supplied_void inner_of times
    supplied_void-holds s q = cur-ok _ s (push_type-holds _ [] s q (omega arith) refl)

    import_path-holds : (s : State) → Held r b hs s → Stays r b hs (Q.import_path s)
    unfolding Q.import_path
    import_path-holds s q = if_kind-ok k_s _ _ s (λ e. bind_ok _ _ s (advance-holds s q) (λ p s₁ q₁. pure-ok _ s₁ q₁)) (fail-ok 15 0 s (drop q))

    bracketed_paths-holds : (s : State) → Held r b hs s → Stays r b hs (Q.bracketed_paths s)
    unfolding Q.bracketed_paths R.members
    bracketed_paths-holds s q =
        then_ok _ _ s (expect-holds k_brace_left s q) (λ x s₁ q₁.
        bind_ok _ _ s₁ (loop-ok (λ xs s₂. Held r b hs s₂) _ (λ xs s₂ q₂. if_kind-ok k_eof _ _ s₂ (λ e. pure-ok _ s₂ q₂) (if_kind-ok k_brace_right _ _ s₂ (λ e. pure-ok _ s₂ q₂) (bind_ok _ _ s₂ (paths s₂ q₂) (λ p s₃ q₃. pure-ok _ s₃ q₃)))) [] s₁ q₁) (λ ps s₂ q₂.
        then_ok _ _ s₂ (expect-holds k_brace_right s₂ q₂) (λ y s₃ q₃.
        pure-ok ps s₃ q₃)))
      where
        paths : (s : State) → Held r b hs s → Stays r b hs (Q.import_path s)
        paths s q = import_path-holds s q

    strike_single-holds : (x : Rule (List (List ℕ))) (s : State) → Stays r b hs (x s) → Stays r b hs (Q.strike_single x s)
    unfolding Q.strike_single
    strike_single-holds x s h = go _ (x s) h
      where
        by_length : (n : Notes) (ps : List (List ℕ)) (s₁ : State) → Held r b hs s₁ → (z : Bool) → Stays r {A = List (List ℕ)} b hs (elim z as (λ z'. Result (List (List ℕ))) [ true ↦ ok ps (record { left = s₁.left; docs = s₁.docs; arena = s₁.arena; notes = n }) | false ↦ ok ps s₁ ])
        by_length n ps s₁ q true = holds q
        by_length n ps s₁ q false = holds q

        go : (notes : State → Notes) (z : Result (List (List ℕ))) → Stays r b hs z
            → Stays r {A = List (List ℕ)} b hs (elim z as (λ z'. Result (List (List ℕ))) [ ok ps s₁ ↦ elim (eqb (length ps) 1) as (λ z'. Result (List (List ℕ))) [ true ↦ ok ps (record { left = s₁.left; docs = s₁.docs; arena = s₁.arena; notes = notes s₁ }) | false ↦ ok ps s₁ ] | err e s₁ ↦ err e s₁ ])
        go notes z (holds {a = ps} {s = s₁} q) = by_length (notes s₁) ps s₁ q (eqb (length ps) 1)
        go notes z (fails q) = fails q

    parse_import-holds : (s : State) → Held r b hs s → Gives r node_child b hs (Q.parse_import s)
    unfolding Q.parse_import children_of times arguments_of
    parse_import-holds s q =
        bind_ok _ _ s (advance-holds s q) (λ src s₁ q₁.
        bind_ok _ _ s₁ (if_kind-ok k_s _ _ s₁ (λ k. bind_ok _ _ s₁ (advance-holds s₁ q₁) (λ p s₂ q₂. pure-ok _ s₂ q₂)) (strike_single-holds _ s₁ (bracketed_paths-holds s₁ q₁))) (λ ps s₂ q₂.
        bind_ok _ _ s₂ (alloc_slice-holds ps s₂ q₂) (λ pkgs s₃ q₃.
        push_node-holds 0 _ [] s₃ q₃ (omega arith) (λ id. refl) (λ id. refl))))

    atom-holds : (s : State) → Held r b hs s → Gives r node_child b hs (Q.atom s)
    unfolding Q.atom children_of times arguments_of
    atom-holds s q = bind_ok _ _ s (advance-holds s q) (λ t s₁ q₁. push_node-holds 0 _ [] s₁ q₁ (omega arith) (λ id. refl) (λ id. refl))

    ident-holds : (s : State) → Held r b hs s → Gives r node_child b hs (Q.ident s)
    unfolding Q.ident children_of times arguments_of
    ident-holds s q = bind_ok _ _ s (advance-holds s q) (λ t s₁ q₁. push_node-holds 0 _ [] s₁ q₁ (omega arith) (λ id. refl) (λ id. refl))

    field_access-holds : (n : NodeId) (s : State) → Held r b (node_child n ∷ hs) s → Gives r flow_child b hs (Q.field_access n s)
    unfolding Q.field_access children_of times arguments_of
    field_access-holds n s q =
        then_ok _ _ s (advance-holds s q) (λ x s₁ q₁.
        bind_ok _ _ s₁ (expect_ident-holds s₁ q₁) (λ name s₂ q₂.
        bind_ok _ _ s₂ (push_node-holds 0 _ (node_child n ∷ []) s₂ q₂ (omega arith) (λ id. refl) (λ id. refl)) (λ m s₃ q₃.
        pure-ok _ s₃ q₃)))

  -- ---- the rules at one level

  module _ (d : Readers) (deep : ReadersHold d) where
    -- ---- types

    typed_name-holds : MemberHeld r (λ cells. param_in) (Q.typed_name d)
    unfolding Q.typed_name param_in type_in chain token number decoded map₁ and_then token_cells
    typed_name-holds b hs s q =
        bind_ok _ _ s (expect_ident-holds s q) (λ name s₁ q₁.
        then_ok _ _ s₁ (expect-holds k_colon s₁ q₁) (λ x s₂ q₂.
        bind_ok _ _ s₂ (deep.type s₂ q₂) (λ t s₃ q₃.
        pure-ok _ s₃ (record { names = type_child t ∷ []; are = refl; held = q₃ }))))

    module _ {b : Base} {hs : List Child} where
      -- Option and Array
      within-holds : (n : ℕ) (mk : TypeExprId → TypeExpr) → ((cells : List ℕ) (t : TypeExprId) → inner_of cells (mk t) ≡ some (type_child t ∷ [])) → (s : State) → Held r b hs s → Gives r type_child b hs (R.◌>>◌ (Q.open_angle n) (R.◌>>=◌ d.type (λ x. R.◌>>◌ (R.expect k_greater_than) (R.push_type (mk x)))) s)
      unfolding times
      within-holds n mk e s q =
          then_ok _ _ s (open_angle-holds n s q) (λ x s₁ q₁.
          bind_ok _ _ s₁ (deep.type s₁ q₁) (λ y s₂ q₂.
          then_ok _ _ s₂ (expect-holds k_greater_than s₂ q₂) (λ z s₃ q₃.
          push_type-holds _ (type_child y ∷ []) s₃ q₃ (omega arith) (e _ y))))

      record_type-holds : (s : State) → Held r b hs s → Gives r type_child b hs (Q.record_type d s)
      unfolding Q.record_type inner_of
      record_type-holds s q =
          bind_ok _ _ s (advance-holds s q) (λ src s₁ q₁.
          then_ok _ _ s₁ (expect-holds k_less_than s₁ q₁) (λ x s₂ q₂.
          bind_ok _ _ s₂ (list_until-holds (λ cells. param_in) param_steady k_greater_than _ typed_name-holds s₂ q₂) (λ u s₃ q₃.
          push_type-holds _ q₃.names s₃ q₃.held (omega (arith, times-append r q₃.names hs)) q₃.are)))

      parse_type-holds : (s : State) → Held r b hs s → Gives r type_child b hs (Q.parse_type d s)
      unfolding Q.parse_type Q.type_by_kind Q.option_type Q.array_type inner_of
      parse_type-holds s q =
          table_ok _ _ s
          (entry-ok _ _ _ _ s (λ e. atom_type-holds s q)
          (entry-ok _ _ _ _ s (λ e. atom_type-holds s q)
          (entry-ok _ _ _ _ s (λ e. atom_type-holds s q)
          (entry-ok _ _ _ _ s (λ e. atom_type-holds s q)
          (entry-ok _ _ _ _ s (λ e. atom_type-holds s q)
          (entry-ok _ _ _ _ s (λ e. foreign_type-holds s q)
          (entry-ok _ _ _ _ s (λ e. within-holds 21 X.Option (λ cells t. refl) s q)
          (entry-ok _ _ _ _ s (λ e. within-holds 22 X.Array (λ cells t. refl) s q)
          (entry-ok _ _ _ _ s (λ e. record_type-holds s q)
          (other_ok _ _ s (fail-ok 23 0 s (drop q))))))))))))

    -- ---- items

    node_member-holds : (x : Rule NodeId) → ((b : Base) (hs : List Child) (s : State) → Held r b hs s → Gives r node_child b hs (x s)) → MemberHeld r (λ cells. node_in) (Q.node_member x)
    unfolding Q.node_member node_in chain number decoded map₁ and_then
    node_member-holds x h b hs s q = bind_ok _ _ s (h b hs s q) (λ n s₁ q₁. pure-ok _ s₁ (record { names = node_child n ∷ []; are = refl; held = q₁ }))

    prefixes : MemberHeld r (λ cells. node_in) (Q.node_member d.prefix)
    prefixes = node_member-holds _ (λ b hs s q. deep.prefix s q)

    module _ {b : Base} {hs : List Child} where
      parse_body-holds : (s : State) → Held r b hs s → Ends (λ u s'. RunHeld r (λ cells. node_in) b hs u s'.arena) (Held r b []) (Q.parse_body d s)
      unfolding Q.parse_body
      parse_body-holds s q =
          then_ok _ _ s (expect-holds k_curly_left s q) (λ x s₁ q₁.
          list_until-holds (λ cells. node_in) node_steady k_curly_right _ prefixes s₁ q₁)

      parse_args-holds : (s : State) → Held r b hs s → Ends (λ u s'. RunHeld r (λ cells. param_in) b hs u s'.arena) (Held r b []) (Q.parse_args d s)
      unfolding Q.parse_args
      parse_args-holds s q =
          then_ok _ _ s (expect-holds k_brace_left s q) (λ x s₁ q₁.
          list_until-holds (λ cells. param_in) param_steady k_brace_right _ typed_name-holds s₁ q₁)

      return_type-holds : (s : State) → Held r b hs s → Gives r type_child b hs (Q.return_type d s)
      unfolding Q.return_type
      return_type-holds s q = if_kind-ok k_void _ _ s (λ e. struck-holds _ s (deep.type s q) (λ a t n z. z)) (deep.type s q)

    module _ {b : Base} {hs : List Child} where
      parse_let-holds : (s : State) → Held r b hs s → Gives r node_child b hs (Q.parse_let d s)
      unfolding Q.parse_let children_of times arguments_of
      parse_let-holds s q =
          bind_ok _ _ s (take_docs-holds s q) (λ docs s₁ q₁.
          then_ok _ _ s₁ (expect-holds k_let s₁ q₁) (λ x s₂ q₂.
          bind_ok _ _ s₂ (expect_ident-holds s₂ q₂) (λ name s₃ q₃.
          then_ok _ _ s₃ (expect-holds k_equal s₃ q₃) (λ y s₄ q₄.
          bind_ok _ _ s₄ (deep.prefix s₄ q₄) (λ rhs s₅ q₅.
          push_node-holds 0 _ (node_child rhs ∷ []) s₅ q₅ (omega arith) (λ id. refl) (λ id. refl))))))

      parse_fn-holds : (s : State) → Held r b hs s → Gives r node_child b hs (Q.parse_fn d s)
      unfolding Q.parse_fn children_of times arguments_of
      parse_fn-holds s q =
          bind_ok _ _ s (take_docs-holds s q) (λ docs s₁ q₁.
          then_ok _ _ s₁ (advance-holds s₁ q₁) (λ x s₂ q₂.
          bind_ok _ _ s₂ (expect_ident-holds s₂ q₂) (λ name s₃ q₃.
          bind_ok _ _ s₃ (parse_args-holds s₃ q₃) (λ args s₄ q₄. forward q₄.held (
          bind_ok _ _ s₄ (if_kind-ok k_curly_left _ _ s₄ (λ z. supplied_void-holds s₄ (rebase q₄.held)) (return_type-holds s₄ (rebase q₄.held))) (λ ret s₅ q₅.
          bind_ok _ _ s₅ (parse_body-holds s₅ q₅) (λ body s₆ q₆.
          push_node-holds args.len _ (q₄.names ++ (type_child ret ∷ q₆.names)) s₆ q₆.held
          (omega (arith, times-append r q₄.names (type_child ret ∷ q₆.names), times-append r q₆.names (type_child ret ∷ (q₄.names ++ hs)), times-append r q₄.names hs))
          (λ id. map₂-some _ (still q₆.held (λ cells. param_in) param_steady args q₄.are) q₆.are) (λ id. refl))))))))

    extern_fn-holds : MemberHeld r fn_in (Q.extern_fn d)
    unfolding Q.extern_fn fn_in type_in chain token run number decoded map₁ and_then token_cells run_cells times
    extern_fn-holds b hs s q =
        then_ok _ _ s (collect_docs-holds s q) (λ n s₁ q₁.
        then_ok _ _ s₁ (reject_kind-holds k_extern 17 s₁ q₁) (λ m s₂ q₂.
        bind_ok _ _ s₂ (take_docs-holds s₂ q₂) (λ docs s₃ q₃.
        then_ok _ _ s₃ (expect-holds k_fn s₃ q₃) (λ x s₄ q₄.
        bind_ok _ _ s₄ (expect_ident-holds s₄ q₄) (λ name s₅ q₅.
        bind_ok _ _ s₅ (parse_args-holds s₅ q₅) (λ args s₆ q₆.
        bind_ok _ _ s₆ (weaken_both (extern_return-holds s₆ (rebase q₆.held)) (λ ret s₇ q₇. q₇) (λ s₇ q₇. onward q₆.held q₇)) (λ ret s₇ q₇.
        pure-ok _ s₇ (record {
          names = q₆.names ++ (type_child ret ∷ []);
          are = rw (still q₇ (λ cells. param_in) param_steady args q₆.are) refl;
          held = less (onward q₆.held q₇) (omega (arith, times-append r (q₆.names ++ (type_child ret ∷ [])) hs, times-append r q₆.names (type_child ret ∷ []), times-append r q₆.names hs));
        }))))))))
      where
        extern_return-holds : {b₁ : Base} {gs : List Child} (s : State) → Held r b₁ gs s → Gives r type_child b₁ gs (Q.extern_return d s)
        extern_return-holds s q = if_kind-ok k_curly_right _ _ s (λ e. supplied_void-holds s q) (if_kind-ok k_fn _ _ s (λ e. supplied_void-holds s q) (return_type-holds s q))

    module _ {b : Base} {hs : List Child} where
      parse_extern-holds : (s : State) → Held r b hs s → Gives r node_child b hs (Q.parse_extern d s)
      unfolding Q.parse_extern children_of arguments_of
      parse_extern-holds s q =
          bind_ok _ _ s (take_docs-holds s q) (λ docs s₁ q₁.
          bind_ok _ _ s₁ (expect-holds k_extern s₁ q₁) (λ src s₂ q₂.
          bind_ok _ _ s₂ (if_kind-ok k_s _ _ s₂ (λ k. advance-holds s₂ q₂) (fail-ok 16 0 s₂ (drop q₂))) (λ name s₃ q₃.
          then_ok _ _ s₃ (expect-holds k_curly_left s₃ q₃) (λ x s₄ q₄.
          bind_ok _ _ s₄ (list_until-holds fn_in fn_steady k_curly_right _ extern_fn-holds s₄ q₄) (λ fns s₅ q₅.
          push_node-holds 0 _ q₅.names s₅ q₅.held (omega (arith, times-append r q₅.names hs)) (λ id. q₅.are) (λ id. refl))))))

    -- ---- match

    -- what the default so far names
    data DefaultNames (cells : List ℕ) : Option (Token × Run) → List Child → Type 0 where
      no_default : DefaultNames cells none []
      a_default : {t : Token} {u : Run} {names : List Child} → listed node_in cells u ≡ some names → DefaultNames cells (some (t, u)) names

    default_still : {h : ℕ} {cells : List ℕ} {hs : List Child} {m : Arena} → Holding r (record { held = h; cells = cells }) hs m → {o : Option (Token × Run)} {names : List Child} → DefaultNames cells o names → DefaultNames m.cells o names
    default_still z no_default = no_default
    default_still z (a_default {u} e) = a_default (still z (λ l. node_in) node_steady u e)

    record CasesHeld (b : Base) (hs : List Child) (c : Cases) (m : Arena) : Type 0 where
      pub names : List (List Child)
      pub are : All (case_in m.cells) c.cases names
      pub default : List Child
      pub is_default : DefaultNames m.cells c.default default
      pub held : Holding r b (default ++ (joined names ++ hs)) m

    module _ {b : Base} {hs : List Child} where
      -- a default replaces the one before, whose body is named no more
      default_case-holds : (c : Cases) (s : State) → CasesHeld b hs c s.arena → Ends (λ x s'. CasesHeld b hs x s'.arena) (Held r b []) (Q.default_case d c s)
      unfolding Q.default_case
      default_case-holds c s q = cur-ok _ s (
          bind_ok _ _ s (weaken_both (parse_body-holds s (rebase q.held)) (λ u s₁ z. z) (λ s₁ z. onward q.held z)) (λ u s₁ z.
          pure-ok _ s₁ (record {
            names = q.names;
            are = still_all z.held case_in case_steady q.are;
            default = z.names;
            is_default = a_default z.are;
            held = less (onward q.held z.held) (omega (arith, times-append r z.names (joined q.names ++ hs), times-append r z.names (q.default ++ (joined q.names ++ hs)), times-append r q.default (joined q.names ++ hs)));
          })))

      condition_case-holds : (c : Cases) (s : State) → CasesHeld b hs c s.arena → Ends (λ x s'. CasesHeld b hs x s'.arena) (Held r b []) (Q.condition_case d c s)
      unfolding Q.condition_case case_in node_in chain token run number decoded map₁ and_then token_cells run_cells times
      condition_case-holds c s q = cur-ok _ s (
          bind_ok _ _ s (weaken_both (deep.expr 0 s (rebase q.held)) (λ n s₁ z. z) (λ s₁ z. onward q.held z)) (λ n s₁ y.
          bind_ok _ _ s₁ (weaken_both (parse_body-holds s₁ y) (λ u s₂ z. z) (λ s₂ z. onward q.held z)) (λ u s₂ z.
          pure-ok _ s₂ (record {
            names = q.names ++ ((node_child n ∷ z.names) ∷ []);
            are = all_snoc _ (still_all z.held case_in case_steady q.are) (rw z.are refl);
            default = q.default;
            is_default = default_still z.held q.is_default;
            held = less (onward q.held z.held) (omega (arith, times-append r q.default (joined (q.names ++ ((node_child n ∷ z.names) ∷ [])) ++ hs), times-append r (joined (q.names ++ ((node_child n ∷ z.names) ∷ []))) hs, times_snoc r q.names (node_child n ∷ z.names), times-append r z.names (node_child n ∷ (q.default ++ (joined q.names ++ hs))), times-append r q.default (joined q.names ++ hs), times-append r (joined q.names) hs));
          }))))

      next_case-holds : (c : Cases) (s : State) → CasesHeld b hs c s.arena → Ends (λ t s'. CasesHeld b hs (flow_value t) s'.arena) (Held r b []) (Q.next_case d c s)
      unfolding Q.next_case
      next_case-holds c s q =
          if_kind-ok k_eof _ _ s (λ e. pure-ok _ s q) (if_kind-ok k_curly_right _ _ s (λ e. pure-ok _ s q) (
          then_ok _ _ s (note_after_default-holds {P = λ s'. CasesHeld b hs c s'.arena} c s (λ n. q)) (λ n s₁ q₁.
          bind_ok _ _ s₁ (if_kind-ok k_curly_left _ _ s₁ (λ e. default_case-holds c s₁ q₁) (condition_case-holds c s₁ q₁)) (λ x s₂ q₂.
          pure-ok _ s₂ q₂))))

      parse_match-holds : (s : State) → Held r b hs s → Gives r node_child b hs (Q.parse_match d s)
      unfolding Q.parse_match fold R.expect R.advance children_of arguments_of
      parse_match-holds s q =
          then_ok _ _ s (advance-holds s q) (λ x s₁ q₁. cur-ok _ s₁ (
          then_ok _ _ s₁ (expect-holds k_curly_left s₁ q₁) (λ y s₂ q₂.
          bind_ok _ _ s₂ (loop-ok (λ c s₃. CasesHeld b hs c s₃.arena) _ (λ c s₃ q₃. next_case-holds c s₃ q₃) _ s₂ (record { names = []; are = all[]; default = []; is_default = no_default; held = q₂ })) (λ c s₃ q₃.
          then_ok _ _ s₃ (closes c s₃ q₃) (λ z s₄ q₄.
          bind_ok _ _ s₄ (writes case_in case_steady c.cases s₄ (listed-cases q₄)) (λ u s₅ q₅.
          finish (current s₁.left) u c.default q₄.held q₄.default q₅.names s₅ q₅.are (default_still q₅.held q₄.is_default) q₅.held))))))
        where
          closes : (c : Cases) (s : State) → CasesHeld b hs c s.arena → Ends (λ t s'. CasesHeld b hs c s'.arena) (Held r b []) (R.expect k_curly_right s)
          closes c s q = if_kind-ok k_curly_right _ _ s (λ e. holds q) (fail-ok 11 k_curly_right s (drop q.held))

          listed-cases : {c : Cases} {m : Arena} → (q : CasesHeld b hs c m) → ItemsHeld r case_in (record { held = b.held; cells = m.cells }) (q.default ++ hs) c.cases m
          listed-cases q = record { names = q.names; are = q.are; held = less (rebase q.held) (omega (arith, times-append r q.default (joined q.names ++ hs), times-append r (joined q.names) hs, times-append r (joined q.names) (q.default ++ hs), times-append r q.default hs)) }

          finish : (t : Token) (u : Run) (o : Option (Token × Run)) {gs : List Child} {m : Arena} → Holding r b gs m → (default names : List Child) (s : State) → listed (case_in s.arena.cells) s.arena.cells u ≡ some names → DefaultNames s.arena.cells o default → Held r (record { held = b.held; cells = m.cells }) (names ++ (default ++ hs)) s
              → Gives r node_child b hs ((elim o as (λ o'. Rule NodeId) [ none ↦ (λ s'. err (R.at_token 18 0 t) s') | some y ↦ R.push_node (λ id. N.Match id u y.0 y.1) ]) s)
          finish t u none q default names s e f z = fails (drop (onward q z))
          finish t u (some y) q default names s e (a_default f) z = push_node-holds 0 _ (names ++ default) s (onward q z) (omega (arith, times-append r names default, times-append r names (default ++ hs), times-append r default hs)) (λ id. map₂-some ◌++◌ e f) (λ id. refl)

      -- ---- items

      parse_prefix-holds : (s : State) → Held r b hs s → Gives r node_child b hs (Q.parse_prefix d s)
      unfolding Q.parse_prefix
      parse_prefix-holds s q =
          then_ok _ _ s (collect_docs-holds s q) (λ n s₁ q₁.
          table_ok _ _ s₁
          (entry-ok _ _ _ _ s₁ (λ e. parse_import-holds s₁ q₁)
          (entry-ok _ _ _ _ s₁ (λ e. parse_let-holds s₁ q₁)
          (entry-ok _ _ _ _ s₁ (λ e. parse_fn-holds s₁ q₁)
          (entry-ok _ _ _ _ s₁ (λ e. parse_extern-holds s₁ q₁)
          (other_ok _ _ s₁ (require_no_docs-ok _ s₁ (λ z. if_kind-ok k_match _ _ s₁ (λ e. parse_match-holds s₁ q₁) (deep.expr 0 s₁ q₁)) (λ z. drop q₁))))))))

    -- ---- expressions

    field-holds : MemberHeld r (λ cells. field_in) (Q.field d)
    unfolding Q.field field_in node_in chain token number decoded map₁ and_then token_cells
    field-holds b hs s q =
        bind_ok _ _ s (expect_ident-holds s q) (λ key s₁ q₁.
        then_ok _ _ s₁ (expect-holds k_colon s₁ q₁) (λ x s₂ q₂.
        bind_ok _ _ s₂ (deep.expr 0 s₂ q₂) (λ n s₃ q₃.
        pure-ok _ s₃ (record { names = node_child n ∷ []; are = refl; held = q₃ }))))

    exprs : MemberHeld r (λ cells. node_in) (Q.node_member (d.expr 0))
    exprs = node_member-holds _ (λ b hs s q. deep.expr 0 s q)

    module _ {b : Base} {hs : List Child} where
      record_literal-holds : (s : State) → Held r b hs s → Gives r node_child b hs (Q.record_literal d s)
      unfolding Q.record_literal children_of arguments_of
      record_literal-holds s q =
          bind_ok _ _ s (advance-holds s q) (λ src s₁ q₁.
          bind_ok _ _ s₁ (list_until-holds (λ cells. field_in) field_steady k_curly_right _ field-holds s₁ q₁) (λ u s₂ q₂.
          push_node-holds 0 _ q₂.names s₂ q₂.held (omega (arith, times-append r q₂.names hs)) (λ id. q₂.are) (λ id. refl)))

      array_literal-holds : (s : State) → Held r b hs s → Gives r node_child b hs (Q.array_literal d s)
      unfolding Q.array_literal children_of arguments_of
      array_literal-holds s q =
          bind_ok _ _ s (advance-holds s q) (λ src s₁ q₁.
          bind_ok _ _ s₁ (list_until-holds (λ cells. node_in) node_steady k_braket_right _ exprs s₁ q₁) (λ u s₂ q₂.
          push_node-holds 0 _ q₂.names s₂ q₂.held (omega (arith, times-append r q₂.names hs)) (λ id. q₂.are) (λ id. refl)))

      group-holds : (s : State) → Held r b hs s → Gives r node_child b hs (Q.group d s)
      unfolding Q.group
      group-holds s q =
          then_ok _ _ s (struck-holds _ s (advance-holds s q) (λ a t n z. z)) (λ x s₁ q₁.
          bind_ok _ _ s₁ (deep.expr 0 s₁ q₁) (λ e s₂ q₂.
          then_ok _ _ s₂ (struck-holds _ s₂ (expect-holds k_brace_right s₂ q₂) (λ a t n z. z)) (λ y s₃ q₃.
          pure-ok e s₃ q₃)))

      unary-holds : (s : State) → Held r b hs s → Gives r node_child b hs (Q.unary d s)
      unfolding Q.unary children_of times arguments_of
      unary-holds s q =
          bind_ok _ _ s (advance-holds s q) (λ op s₁ q₁.
          bind_ok _ _ s₁ (deep.expr Q.prefix_power s₁ q₁) (λ rhs s₂ q₂.
          push_node-holds 0 _ (node_child rhs ∷ []) s₂ q₂ (omega arith) (λ id. refl) (λ id. refl)))

      operand-holds : (s : State) → Held r b hs s → Gives r node_child b hs (Q.operand d s)
      unfolding Q.operand
      operand-holds s q =
          table_ok _ _ s
          (entry-ok _ _ _ _ s (λ e. record_literal-holds s q)
          (entry-ok _ _ _ _ s (λ e. array_literal-holds s q)
          (entry-ok _ _ _ _ s (λ e. atom-holds s q)
          (entry-ok _ _ _ _ s (λ e. atom-holds s q)
          (entry-ok _ _ _ _ s (λ e. atom-holds s q)
          (entry-ok _ _ _ _ s (λ e. atom-holds s q)
          (entry-ok _ _ _ _ s (λ e. atom-holds s q)
          (entry-ok _ _ _ _ s (λ e. ident-holds s q)
          (entry-ok _ _ _ _ s (λ e. group-holds s q)
          (entry-ok _ _ _ _ s (λ e. unary-holds s q)
          (entry-ok _ _ _ _ s (λ e. unary-holds s q)
          (other_ok _ _ s (fail-ok 19 0 s (drop q))))))))))))))

      call-holds : (n : NodeId) (s : State) → Held r b (node_child n ∷ hs) s → Gives r flow_child b hs (Q.call d n s)
      unfolding Q.call children_of times arguments_of
      call-holds n s q =
          then_ok _ _ s (advance-holds s q) (λ x s₁ q₁.
          bind_ok _ _ s₁ (list_until-holds (λ cells. node_in) node_steady k_brace_right _ prefixes s₁ q₁) (λ u s₂ q₂.
          bind_ok _ _ s₂ (push_node-holds 0 _ (node_child n ∷ q₂.names) s₂ q₂.held (omega (arith, times-append r q₂.names (node_child n ∷ hs))) (λ id. map₁-some _ q₂.are) (λ id. refl)) (λ m s₃ q₃.
          pure-ok _ s₃ q₃)))

      cast-holds : (n : NodeId) (s : State) → Held r b (node_child n ∷ hs) s → Gives r flow_child b hs (Q.cast d n s)
      unfolding Q.cast children_of times arguments_of
      cast-holds n s q =
          bind_ok _ _ s (advance-holds s q) (λ src s₁ q₁.
          bind_ok _ _ s₁ (deep.type s₁ q₁) (λ t s₂ q₂.
          bind_ok _ _ s₂ (push_node-holds 0 _ (node_child n ∷ type_child t ∷ []) s₂ q₂ (omega arith) (λ id. refl) (λ id. refl)) (λ m s₃ q₃.
          pure-ok _ s₃ q₃)))

      binary-holds : (n : NodeId) (p : ℕ) (s : State) → Held r b (node_child n ∷ hs) s → Gives r flow_child b hs (Q.binary d n p s)
      unfolding Q.binary children_of times arguments_of
      binary-holds n p s q =
          bind_ok _ _ s (advance-holds s q) (λ op s₁ q₁.
          bind_ok _ _ s₁ (deep.expr (Q.right_power p) s₁ q₁) (λ rhs s₂ q₂.
          bind_ok _ _ s₂ (push_node-holds 0 _ (node_child n ∷ node_child rhs ∷ []) s₂ q₂ (omega arith) (λ id. refl) (λ id. refl)) (λ m s₃ q₃.
          pure-ok _ s₃ q₃)))

      postfix-holds : (n : NodeId) (s : State) → Held r b (node_child n ∷ hs) s → Gives r node_child b hs (Q.postfix d n s)
      unfolding Q.postfix Q.callable
      postfix-holds n s q = loop-ok (λ m s₁. Held r b (node_child m ∷ hs) s₁) _
          (λ lhs s₁ q₁. if_kind-ok k_dot _ _ s₁ (λ e. field_access-holds lhs s₁ q₁) (if_kind-ok k_brace_left _ _ s₁
          (λ e. bind_ok _ _ s₁ (callable-holds lhs s₁ q₁) (λ z s₂ q₂. called lhs z s₂ q₂))
          (pure-ok _ s₁ q₁)))
          n s q
        where
          callable-holds : (lhs : NodeId) (s₁ : State) → Held r b (node_child lhs ∷ hs) s₁ → Ends (λ z s₂. Held r b (node_child lhs ∷ hs) s₂) (Held r b []) (Q.callable lhs s₁)
          callable-holds lhs s₁ q₁ = holds q₁

          called : (lhs : NodeId) (z : Bool) (s₁ : State) → Held r b (node_child lhs ∷ hs) s₁ → Gives r flow_child b hs (elim z as (λ z'. Rule (ControlFlow NodeId)) [ true ↦ Q.call d lhs | false ↦ R.pure (break lhs) ] s₁)
          called lhs true s₁ q₁ = call-holds lhs s₁ q₁
          called lhs false s₁ q₁ = pure-ok _ s₁ q₁

      module _ (power : ℕ → Option ℕ) (script : List ℕ) where
        infixes-holds : (least : ℕ) (n : NodeId) (s : State) → Held r b (node_child n ∷ hs) s → Gives r node_child b hs (Q.infixes d power script least n s)
        unfolding Q.infixes
        infixes-holds least n s q = loop-ok (λ m s₁. Held r b (node_child m ∷ hs) s₁) _
            (λ lhs s₁ q₁. if_kind-ok k_as _ _ s₁ (λ e. cast-holds lhs s₁ q₁) (cur-ok _ s₁ (by_power lhs s₁ q₁ (power (current s₁.left).kind))))
            n s q
          where
            by_least : (lhs : NodeId) (p : ℕ) (s₁ : State) → Held r b (node_child lhs ∷ hs) s₁ → (z : Bool) → Gives r flow_child b hs (elim z as (λ z'. Rule (ControlFlow NodeId)) [ true ↦ R.pure (break lhs) | false ↦ Q.binary d lhs p ] s₁)
            by_least lhs p s₁ q₁ true = pure-ok _ s₁ q₁
            by_least lhs p s₁ q₁ false = binary-holds lhs p s₁ q₁

            by_sign : (lhs : NodeId) (p : ℕ) (s₁ : State) → Held r b (node_child lhs ∷ hs) s₁ → (z : Bool) → Gives r flow_child b hs (elim z as (λ z'. Rule (ControlFlow NodeId)) [ true ↦ R.pure (break lhs) | false ↦ elim (ltb p least) as (λ z'. Rule (ControlFlow NodeId)) [ true ↦ R.pure (break lhs) | false ↦ Q.binary d lhs p ] ] s₁)
            by_sign lhs p s₁ q₁ true = pure-ok _ s₁ q₁
            by_sign lhs p s₁ q₁ false = by_least lhs p s₁ q₁ (ltb p least)

            by_power : (lhs : NodeId) (s₁ : State) → Held r b (node_child lhs ∷ hs) s₁ → (o : Option ℕ)
                → Gives r flow_child b hs (elim o as (λ o'. Rule (ControlFlow NodeId)) [ none ↦ R.pure (break lhs) | some p ↦ elim (Q.breaks_off script (current s₁.left)) as (λ z'. Rule (ControlFlow NodeId)) [ true ↦ R.pure (break lhs) | false ↦ elim (ltb p least) as (λ z'. Rule (ControlFlow NodeId)) [ true ↦ R.pure (break lhs) | false ↦ Q.binary d lhs p ] ] ] s₁)
            by_power lhs s₁ q₁ none = pure-ok _ s₁ q₁
            by_power lhs s₁ q₁ (some p) = by_sign lhs p s₁ q₁ (Q.breaks_off script (current s₁.left))

        parse_expr-holds : (least : ℕ) (s : State) → Held r b hs s → Gives r node_child b hs (Q.parse_expr d power script least s)
        unfolding Q.parse_expr
        parse_expr-holds least s q =
            bind_ok _ _ s (operand-holds s q) (λ x s₁ q₁.
            bind_ok _ _ s₁ (postfix-holds x s₁ q₁) (λ y s₂ q₂.
            infixes-holds least y s₂ q₂))

  -- ---- levels

  pub readers_hold : (power : ℕ → Option ℕ) (script : List ℕ) (l : ℕ) → ReadersHold (Q.readers power script l)
  unfolding Q.readers
  readers_hold power script zero = record { prefix = λ s q. fail-ok 10 0 s (drop q); expr = λ least s q. fail-ok 10 0 s (drop q); type = λ s q. fail-ok 10 0 s (drop q) }
  readers_hold power script (suc l) =
      let deep : ReadersHold (Q.readers power script l) = readers_hold power script l in
      record { prefix = λ s q. parse_prefix-holds _ deep s q; expr = λ least s q. parse_expr-holds _ deep power script least s q; type = λ s q. parse_type-holds _ deep s q }
