-- The rules of items: bodies, imports, lets, fns, externs and matches.
use mathlib.Core.Path.{◌≡◌, refl, sym, ap, ap₂, ◌∙◌, subst}
use mathlib.Core.Bool.{Bool, true, false}
use mathlib.Core.Option.{Option, none, some}
use mathlib.Core.List.{List, [], ◌∷◌, ◌++◌, map, append_assoc, append-nil, map-append}
use Prim.Native.Nat.{ℕ, suc, ◌+◌}
use lib.Dec.{eqb, eqb-suc-suc, eqb-suc-zero}
use lib.ListN.{length, length-append}
use native.Mathlib.Omega.{arith}
use Rattle.lex.specs.Kind.{k_brace_left, k_brace_right, k_equal, k_curly_left, k_curly_right, k_s, k_doc, k_import, k_extern, k_let, k_fn, k_match, k_void}
use Rattle.rules.specs.Tree.{Arena, State, Result, ok, err}
use Rattle.rules.specs.Combinators as R
use Rattle.rules.specs.Combinators.{Rule, current, rest, Readers, with_docs, ControlFlow, continue}
use Rattle.ast.specs.Layout.{token_cells, run_cells}
use Rattle.rules.specs.Rules as Q
use Rattle.rules.specs.Rules.{Cases}
use Rattle.rules.specs.Strike.{keep}
use Rattle.rules.specs.Shape as S
use Rattle.lex.specs.Spelling.{well_formed}
use Rattle.rules.specs.Shape.{Word, word_of, word, TypeShape, Params, no_param, param, FnShape, Shape, Shapes, no_shape, shape, CaseShapes, no_case, case_s, type_shape_at, type_shape, node_shape}
use Rattle.ast.specs.Lists.{map₁, map₂, map₃, map₄, map₅, and_then, Decoder, decoded, chain, number, token, run, resolve, both}
use Rattle.rules.proofs.Unique.Print.{fixed, print, prints, print_cases, print_t, print_params, print_return, print_fn, print_fns, print_paths, in_round, in_curly}
use Rattle.rules.proofs.Unique.Grow.{env_of, Grows, grows_refl, grows_trans, Le, word_in_grows, case_in_grows, fn_in_grows, words_grows, params_grows, shapes_grows}
use Rattle.rules.proofs.Results.{holds, fails, weaken, if_kind-ok, if_kind_else, table_ok, entry-ok, other_ok, reject_kind-ok, require_no_docs-ok, bind_ok, then_ok, pure-ok, cur-ok, fail-ok, flow_value, loop-ok}
use Rattle.rules.proofs.Unique.Step.{Holds, WellFormed, AllWellFormed, well_formed-snoc, TokensOk, tokens_ok_current, NoDocBeforeImport, Invariant, Consumed, ◌▷◌, consumed_as, consumed_end, consumed_refl, consumed_none, TookToken, took, advance-ok, expect-ok, expect_ident-ok, sign_ok, sign_took, word-fixed, struck-ok, struck_consumed, NodeDone, type-ok, node_end, All, all[], all∷, all_snoc, fold, fold_print, print_all, print_all_snoc, ItemDone, alloc_slice-ok, list_until-ok, still}
use Rattle.rules.proofs.Unique.Types.{ReadersOk, print_param, param_rd, param_rd_mono, typed_name-ok, params_fold}
use Rattle.rules.proofs.Unique.Exprs.{shapes_fold, node_rd, node_rd_mono, node_member-ok}
use Rattle.lex.specs.declared.tok.Token.{Token}
use Rattle.ast.specs.declared.Run.{Run}
use Rattle.ast.specs.declared.NodeId.{NodeId}
use Rattle.ast.specs.declared.TypeExprId.{TypeExprId}
use Rattle.ast.specs.declared.Node.TheVariants as N

module _ (script : List ℕ) where
  abbrev w : Token → Word
  w t = word_of script t

  abbrev word_rd : Arena → Decoder Word
  word_rd m = S.word_in (env_of script m)

  word_rd_mono : (m m' : Arena) → Grows script m m' → Le (word_rd m) (word_rd m')
  word_rd_mono m m' g = word_in_grows script g

  pub record BodyDone (s : State) (r : Run) (s' : State) : Type 0 where
    pub shapes : Shapes
    pub is : S.shapes (env_of script s'.arena) r ≡ some shapes
    pub consumed : Consumed script s s' (in_curly (prints shapes))

  pub record ArgsDone (s : State) (r : Run) (s' : State) : Type 0 where
    pub params : Params
    pub is : S.params (env_of script s'.arena) r ≡ some params
    pub consumed : Consumed script s s' (in_round (print_params params))

  pub record ReturnDone (s : State) (t : TypeExprId) (s' : State) : Type 0 where
    pub shape : TypeShape
    pub is : type_shape_at script s'.arena t.0 ≡ some shape
    pub consumed : Consumed script s s' (print_return shape)

  -- ---- docs

  words-all : (m : Arena) (ts : List Token) → AllWellFormed script ts → All (word_rd m) (map token_cells ts) (map w ts)
  unfolding S.word_in S.w token_cells resolve chain decoded number token and_then map₁
  words-all m [] h = all[]
  words-all m (t ∷ ts) h = all∷ (ap (map₁ (λ x. (x, []))) h.0) (words-all m ts h.1)

  fold_id : {A : Type 0} (vs : List A) → fold [] ◌∷◌ vs ≡ vs
  unfolding fold
  fold_id [] = refl
  fold_id (v ∷ vs) = ap {B = List _} (λ z. v ∷ z) (fold_id vs)

  -- tokens written as a list
  word_list_ok : {s₀ : State} {ws : List Word} (s : State) (ts : List Token) → AllWellFormed script ts → Consumed script s₀ s ws → Holds script (λ r s'. (S.words (env_of script s'.arena) r ≡ some (map w ts)) × Consumed script s₀ s' ws × (s'.left ≡ s.left)) (R.alloc_slice (map token_cells ts) s)
  unfolding S.words
  word_list_ok s ts h d = weaken (alloc_slice-ok script word_rd (λ x. x ∷ []) word_rd_mono [] ◌∷◌ s (map token_cells ts) (map w ts) d (words-all s.arena ts h)) (λ r s' q. (q.0 ∙ ap some (fold_id (map w ts)), q.1, q.2))

  -- docs wait at `s`, and nothing else is done since `s₀`
  pub record Waits (s₀ s : State) : Type 0 where
    pub consumed : Consumed script s₀ (with_docs [] s) (map w s.docs)
    pub docs_well_formed : AllWellFormed script s.docs

  take_docs-ok : (s₀ s : State) → Waits s₀ s → Holds script (λ r s'. (S.words (env_of script s'.arena) r ≡ some (map w s.docs)) × Consumed script s₀ s' (map w s.docs) × (s'.left ≡ s.left)) (R.take_docs s)
  unfolding R.take_docs with_docs
  take_docs-ok s₀ s d = word_list_ok (with_docs [] s) s.docs d.docs_well_formed d.consumed

  pub data Ready (s : State) : Type 0 where
    none_wait : s.docs ≡ [] → Ready s
    no_import : ¬ ((current s.left).kind ≡ k_import) → Ready s

  pub record DocsDone (s₀ : State) (n : ℕ) (s : State) : Type 0 where
    pub waits : Waits s₀ s
    pub ready : NoDocBeforeImport script → Ready s

  tokens_ok_doc : (l : List Token) → TokensOk script (NoDocBeforeImport script) l → NoDocBeforeImport script → (current l).kind ≡ k_doc → ¬ ((current (rest l)).kind ≡ k_import)
  unfolding current rest
  tokens_ok_doc [] g D e = absurd g
  tokens_ok_doc (t ∷ []) g D e = absurd (omega (arith, sym g.0 ∙ e))
  tokens_ok_doc (t ∷ (u ∷ ts)) g D e = g.1 D e

  collect_step_lem : (s : State) (n : ℕ) (s₁ : State) → DocsDone s n s₁ → (current s₁.left).kind ≡ k_doc → Holds script (λ t s'. DocsDone s (flow_value t) s') (R.◌>>=◌ R.advance (λ x s₂. ok (continue n) (with_docs (s₂.docs ++ (x ∷ [])) s₂)) s₁)
  unfolding R.advance R.◌>>=◌ with_docs
  collect_step_lem s n s₁ d e = holds (record {
    waits = record {
      consumed = consumed_as (sym (map-append w s₁.docs (current s₁.left ∷ []))) (d.waits.consumed ▷ (took script k_doc (with_docs [] s₁) d.waits.consumed.invariant e refl _ refl).consumed);
      docs_well_formed = well_formed-snoc script s₁.docs (current s₁.left) d.waits.docs_well_formed (tokens_ok_current script (NoDocBeforeImport script) s₁.left d.waits.consumed.invariant.tokens_ok);
    };
    ready = λ D. no_import (tokens_ok_doc s₁.left d.waits.consumed.invariant.tokens_ok D e);
  })

  -- no docs wait
  quiet : (s : State) → s.docs ≡ [] → with_docs [] s ≡ s
  unfolding with_docs
  quiet s e = λ i. record { left = s.left; docs = sym e i; arena = s.arena; notes = s.notes }

  wait_current : (s : State) → Invariant script s → Waits s s
  unfolding with_docs keep
  wait_current s c = record {
    consumed = record {
      taken = [];
      given = [];
      left = refl;
      marks = sym (append-nil s.notes.marks);
      even = refl;
      kept = λ l D. (l, ap (map w) (sym (c.docs D)));
      grows = grows_refl script s.arena;
      invariant = record { docs = λ D. refl; tokens_ok = c.tokens_ok; docs_well_formed = tt; all_shaped = c.all_shaped };
    };
    docs_well_formed = c.docs_well_formed;
  }

  pub collect_docs-ok : (s : State) → Invariant script s → Holds script (DocsDone s) (R.collect_docs s)
  unfolding R.collect_docs
  collect_docs-ok s c = loop-ok (DocsDone s) _
      (λ n s₁ d. if_kind-ok _ _ _ s₁ (λ e. collect_step_lem s n s₁ d e) (pure-ok _ s₁ d))
      0 s (record { waits = wait_current s c; ready = λ D. none_wait (c.docs D) })

  -- ---- bodies, arguments, return types

  module _ (d : Readers) (deep : ReadersOk script d) where
    pub parse_body-ok : (s : State) → Invariant script s → Holds script (BodyDone s) (Q.parse_body d s)
    unfolding Q.parse_body S.shapes in_curly
    parse_body-ok s c =
        then_ok _ _ s (sign_ok script k_curly_left s c refl refl) (λ t s₁ d₁.
        weaken (list_until-ok script (node_rd script) print (node_rd_mono script) no_shape shape k_curly_right _ refl refl (node_member-ok script d deep d.prefix deep.prefix) s₁ d₁) (λ r s₂ q.
        record { shapes = fold no_shape shape q.values; is = q.is; consumed = consumed_as (ap (λ (ws : List Word). fixed k_curly_left ∷ (ws ++ (fixed k_curly_right ∷ []))) (sym (shapes_fold q.values))) q.consumed }))

    pub parse_args-ok : (s : State) → Invariant script s → Holds script (ArgsDone s) (Q.parse_args d s)
    unfolding Q.parse_args S.params in_round
    parse_args-ok s c =
        then_ok _ _ s (sign_ok script k_brace_left s c refl refl) (λ t s₁ d₁.
        weaken (list_until-ok script (param_rd script) print_param (param_rd_mono script) no_param (λ p. param p.0 p.1) k_brace_right _ refl refl (typed_name-ok script d deep) s₁ d₁) (λ r s₂ q.
        record { params = fold no_param (λ p. param p.0 p.1) q.values; is = q.is; consumed = consumed_as (ap (λ (ws : List Word). fixed k_brace_left ∷ (ws ++ (fixed k_brace_right ∷ []))) (sym (params_fold q.values))) q.consumed }))

    pub supplied_void-ok : (s : State) → Invariant script s → Holds script (ReturnDone s) (Q.supplied_void s)
    unfolding Q.supplied_void type_shape S.w word well_formed Rattle.lex.specs.Bytes.between word_of print_return map₁
    supplied_void-ok s c = cur-ok _ s (weaken (type-ok script s _ _ (consumed_refl script s c) refl) (λ t s₁ q. record { shape = _; is = q.0; consumed = q.1 }))

    pub return_type-ok : (s : State) → Invariant script s → Holds script (ReturnDone s) (Q.return_type d s)
    unfolding Q.return_type
    return_type-ok s c = if_kind_else k_void _ _ s
        (λ e. struck-ok script d.type s (deep.type s c) (λ t s₁ q. record { shape = q.shape; is = q.is; consumed = consumed_as (sym (q.ret ∙ ap (λ (z : ℕ). elim (eqb z k_void) as (λ b. List Word) [ true ↦ [] | false ↦ print_t q.shape ]) e)) (struck_consumed script q.consumed) }))
        (λ e. weaken (deep.type s c) (λ t s₁ q. record { shape = q.shape; is = q.is; consumed = consumed_as (sym (q.ret ∙ ap (λ (z : Bool). elim z as (λ b. List Word) [ true ↦ [] | false ↦ print_t q.shape ]) e)) q.consumed }))

    -- ---- let, fn, extern

    pub parse_let-ok : (s₀ s : State) → Waits s₀ s → Holds script (NodeDone script s₀) (Q.parse_let d s)
    unfolding Q.parse_let node_shape S.w print map₁ map₂ map₃
    parse_let-ok s₀ s dd =
        bind_ok _ _ s (take_docs-ok s₀ s dd) (λ docs s₁ a.
        then_ok _ _ s₁ (sign_ok script k_let s₁ a.1.invariant refl refl) (λ x s₂ d₂.
        bind_ok _ _ s₂ (expect_ident-ok script s₂ d₂.invariant) (λ name s₃ d₃.
        then_ok _ _ s₃ (sign_ok script k_equal s₃ d₃.consumed.invariant refl refl) (λ x₂ s₄ d₄.
        bind_ok _ _ s₄ (deep.prefix s₄ d₄.invariant) (λ rhs s₅ d₅.
        let z : Consumed script s₁ s₅ _ = d₂ ▷ d₃.consumed ▷ d₄ ▷ d₅.consumed in
        node_end script s₅ 0 _ (S.let_s (map w s.docs) (w name) d₅.shape) (a.1 ▷ z) (λ id. rw (words_grows script z.grows docs _ a.0, d₃.is_well_formed, d₅.is)) refl)))))

    pub parse_fn-ok : (s₀ s : State) → Waits s₀ s → (current s.left).kind ≡ k_fn → Holds script (NodeDone script s₀) (Q.parse_fn d s)
    unfolding Q.parse_fn node_shape S.w print map₁ map₂ map₃ map₄ map₅
    parse_fn-ok s₀ s dd e =
        bind_ok _ _ s (take_docs-ok s₀ s dd) (λ docs s₁ a.
        then_ok _ _ s₁ (sign_took script k_fn s₁ a.1.invariant (ap (λ (l : List Token). (current l).kind) a.2 ∙ e) refl refl) (λ x s₂ d₂.
        bind_ok _ _ s₂ (expect_ident-ok script s₂ d₂.invariant) (λ name s₃ d₃.
        bind_ok _ _ s₃ (parse_args-ok s₃ d₃.consumed.invariant) (λ args s₄ d₄.
        bind_ok _ _ s₄ (if_kind-ok _ _ _ s₄ (λ k. supplied_void-ok s₄ d₄.consumed.invariant) (return_type-ok s₄ d₄.consumed.invariant)) (λ ret s₅ d₅.
        bind_ok _ _ s₅ (parse_body-ok s₅ d₅.consumed.invariant) (λ body s₆ d₆.
        let y : Consumed script s₄ s₆ _ = d₅.consumed ▷ d₆.consumed in
        let z : Consumed script s₁ s₆ _ = d₂ ▷ d₃.consumed ▷ (d₄.consumed ▷ y) in
        node_end script s₆ args.len _ (S.fn_s (map w s.docs) (w name) d₄.params d₅.shape d₆.shapes) (a.1 ▷ z)
        (λ id. rw (words_grows script z.grows docs _ a.0, d₃.is_well_formed, params_grows script y.grows args _ d₄.is, d₆.consumed.grows.types _ _ d₅.is, d₆.is)) refl))))))

    abbrev FnCells : Type 0
    FnCells = ((List Word × Word) × Params) × TypeShape

    abbrev fn_rd : Arena → Decoder FnCells
    fn_rd m = S.fn_in (env_of script m)

    fn_rd_mono : (m m' : Arena) → Grows script m m' → Le (fn_rd m) (fn_rd m')
    fn_rd_mono m m' g = fn_in_grows script g

    abbrev fn_of : FnCells → FnShape
    fn_of f = record { docs = f.0.0.0; name = f.0.0.1; args = f.0.1; ret = f.1 }

    extern_fn-ok : (s : State) → Invariant script s → Holds script (ItemDone script fn_rd (λ f. print_fn (fn_of f)) s) (Q.extern_fn d s)
    unfolding Q.extern_fn with_docs print_fn S.fn_in S.word_in S.w token_cells run_cells both resolve chain decoded number token run and_then map₁
    extern_fn-ok s c =
        then_ok _ _ s (collect_docs-ok s c) (λ n s₁ dd.
        then_ok {P = λ z s₂. s₂ ≡ s₁} _ _ s₁ (reject_kind-ok k_extern 17 s₁ refl dd.waits.consumed.invariant.all_shaped) (λ z s₁' same.
        rw same (bind_ok _ _ s₁ (take_docs-ok s s₁ dd.waits) (λ docs s₂ a.
        then_ok _ _ s₂ (sign_ok script k_fn s₂ a.1.invariant refl refl) (λ x s₃ d₃.
        bind_ok _ _ s₃ (expect_ident-ok script s₃ d₃.invariant) (λ name s₄ d₄.
        bind_ok _ _ s₄ (parse_args-ok s₄ d₄.consumed.invariant) (λ args s₅ d₅.
        bind_ok _ _ s₅ (if_kind-ok _ _ _ s₅ (λ k. supplied_void-ok s₅ d₅.consumed.invariant) (if_kind-ok _ _ _ s₅ (λ k. supplied_void-ok s₅ d₅.consumed.invariant) (return_type-ok s₅ d₅.consumed.invariant))) (λ ret s₆ d₆.
        let z : Consumed script s₂ s₆ _ = d₃ ▷ d₄.consumed ▷ (d₅.consumed ▷ d₆.consumed) in
        pure-ok _ s₆ (record {
          value = (((map w s₁.docs, w name), d₅.params), d₆.shape);
          is = rw (words_grows script z.grows docs _ a.0, d₄.is_well_formed, params_grows script d₆.consumed.grows args _ d₅.is, d₆.is);
          consumed = a.1 ▷ z;
        })))))))))

    fns_fold : (vs : List FnCells) → print_fns (fold [] (λ f. ◌∷◌ (fn_of f)) vs) ≡ print_all (λ f. print_fn (fn_of f)) vs
    unfolding print_fns
    fns_fold vs = fold_print [] (λ f. ◌∷◌ (fn_of f)) (λ f. print_fn (fn_of f)) print_fns refl (λ a l. refl) vs

    pub parse_extern-ok : (s₀ s : State) → Waits s₀ s → Holds script (NodeDone script s₀) (Q.parse_extern d s)
    unfolding Q.parse_extern node_shape S.w S.fns print in_curly map₁ map₂ map₃ map₄
    parse_extern-ok s₀ s dd =
        bind_ok _ _ s (take_docs-ok s₀ s dd) (λ docs s₁ a.
        bind_ok _ _ s₁ (expect-ok script k_extern s₁ a.1.invariant refl) (λ src s₂ d₂.
        bind_ok _ _ s₂ (if_kind-ok _ _ _ s₂ (λ e. advance-ok script k_s s₂ d₂.consumed.invariant e refl) (fail-ok 16 0 s₂ d₂.consumed.invariant.all_shaped)) (λ name s₃ d₃.
        then_ok _ _ s₃ (sign_ok script k_curly_left s₃ d₃.consumed.invariant refl refl) (λ x s₄ d₄.
        bind_ok _ _ s₄ (list_until-ok script fn_rd (λ f. print_fn (fn_of f)) fn_rd_mono [] (λ f. ◌∷◌ (fn_of f)) k_curly_right _ refl refl extern_fn-ok s₄ (d₂.consumed ▷ d₃.consumed ▷ d₄)) (λ fns s₅ q.
        node_end script s₅ 0 _ (S.extern_s (w src) (map w s.docs) (w name) (fold [] (λ f. ◌∷◌ (fn_of f)) q.values)) (a.1 ▷ q.consumed)
        (λ id. rw (d₂.is_well_formed, words_grows script q.consumed.grows docs _ a.0, d₃.is_well_formed) (ap (map₁ (S.extern_s (w src) (map w s.docs) (w name))) q.is))
        (ap (λ (ws : List Word). map w s.docs ++ (w src ∷ w name ∷ fixed k_curly_left ∷ (ws ++ (fixed k_curly_right ∷ [])))) (sym (fns_fold q.values))))))))

    -- ---- import

    record PathDone (s : State) (c : List ℕ) (s' : State) : Type 0 where
      pub path : Token
      pub cells : c ≡ token_cells path
      pub took : TookToken script k_s s path s'

    import_path-ok : (s : State) → Invariant script s → Holds script (PathDone s) (Q.import_path s)
    unfolding Q.import_path
    import_path-ok s c = if_kind-ok _ _ _ s (λ e. bind_ok _ _ s (advance-ok script k_s s c e refl) (λ t s₁ q. pure-ok _ s₁ (record { path = t; cells = refl; took = q }))) (fail-ok 15 0 s c.all_shaped)

    -- paths, and the tokens that they are, each taken and kept
    record PathsDone (s : State) (ps : List (List ℕ)) (s' : State) : Type 0 where
      pub tokens : List Token
      pub cells : ps ≡ map token_cells tokens
      pub ws : List Word
      pub consumed : Consumed script s s' ws
      pub words : ws ≡ map w tokens
      pub exact : consumed.taken ≡ tokens
      pub docs_well_formed : AllWellFormed script tokens

    paths_snoc : {s s₁ s₂ : State} {ps : List (List ℕ)} {c : List ℕ} → PathsDone s ps s₁ → PathDone s₁ c s₂ → PathsDone s (ps ++ (c ∷ [])) s₂
    unfolding ◌▷◌
    paths_snoc p q = record {
      tokens = p.tokens ++ (q.path ∷ []);
      cells = ap₂ (λ (x : List (List ℕ)) y. x ++ (y ∷ [])) p.cells q.cells ∙ sym (map-append token_cells p.tokens (q.path ∷ []));
      ws = p.ws ++ (w q.path ∷ []);
      consumed = p.consumed ▷ q.took.consumed;
      words = ap (λ (x : List Word). x ++ (w q.path ∷ [])) p.words ∙ sym (map-append w p.tokens (q.path ∷ []));
      exact = ap₂ ◌++◌ p.exact q.took.one;
      docs_well_formed = well_formed-snoc script p.tokens q.path p.docs_well_formed q.took.is_well_formed;
    }

    paths_ok : (s : State) → Invariant script s → Holds script (PathsDone s) (R.members k_brace_right (Q.import_path) s)
    unfolding R.members consumed_refl consumed_none
    paths_ok s c = loop-ok (PathsDone s) _
        (λ ps s₁ p. if_kind-ok _ _ _ s₁ (λ k. pure-ok _ s₁ p) (if_kind-ok _ _ _ s₁ (λ k. pure-ok _ s₁ p)
        (bind_ok _ _ s₁ (import_path-ok s₁ p.consumed.invariant) (λ x s₂ q. pure-ok _ s₂ (paths_snoc p q)))))
        [] s (record { tokens = []; cells = refl; ws = []; consumed = consumed_refl script s c; words = refl; exact = refl; docs_well_formed = tt })

    record BracketsDone (s : State) (ps : List (List ℕ)) (s' : State) : Type 0 where
      pub tokens : List Token
      pub cells : ps ≡ map token_cells tokens
      pub lb : Token
      pub rb : Token
      pub ws : List Word
      pub consumed : Consumed script s s' ws
      pub words : ws ≡ in_round (map w tokens)
      pub exact : consumed.taken ≡ lb ∷ (tokens ++ (rb ∷ []))
      pub docs_well_formed : AllWellFormed script tokens

    bracketed_paths-ok : (s : State) → Invariant script s → Holds script (BracketsDone s) (Q.bracketed_paths s)
    unfolding Q.bracketed_paths in_round ◌▷◌
    bracketed_paths-ok s c =
        then_ok _ _ s (expect-ok script k_brace_left s c refl) (λ lb s₁ d₁.
        bind_ok _ _ s₁ (paths_ok s₁ d₁.consumed.invariant) (λ ps s₂ d₂.
        then_ok _ _ s₂ (expect-ok script k_brace_right s₂ d₂.consumed.invariant refl) (λ rb s₃ d₃.
        pure-ok ps s₃ (record {
          tokens = d₂.tokens;
          cells = d₂.cells;
          lb = lb;
          rb = rb;
          ws = _;
          consumed = d₁.consumed ▷ (d₂.consumed ▷ d₃.consumed);
          words = λ i. word-fixed script k_brace_left lb d₁.kind refl i ∷ (d₂.words i ++ (word-fixed script k_brace_right rb d₃.kind refl i ∷ []));
          exact = λ i. d₁.one i ++ (d₂.exact i ++ d₃.one i);
          docs_well_formed = d₂.docs_well_formed;
        }))))

    abbrev PathsLeft : State → List (List ℕ) → State → Type 0
    PathsLeft s ps s' = (ts : List Token) × (ps ≡ map token_cells ts) × Consumed script s s' (print_paths (map w ts)) × AllWellFormed script ts

    abbrev one_struck : State → State → State
    one_struck s t = record { left = t.left; docs = t.docs; arena = t.arena; notes = record { marks = s.notes.marks ++ (false ∷ true ∷ false ∷ []); after_default = t.notes.after_default } }

    one_consumed : (s t : State) (ws : List Word) (lb p rb : Token) (b : Consumed script s t ws) → b.taken ≡ lb ∷ p ∷ rb ∷ [] → Consumed script s (one_struck s t) (w p ∷ [])
    unfolding keep
    one_consumed s t ws lb p rb b e = record {
      taken = lb ∷ p ∷ rb ∷ [];
      given = false ∷ true ∷ false ∷ [];
      left = b.left ∙ ap (λ (l : List Token). l ++ t.left) e;
      marks = refl;
      even = refl;
      kept = λ z D. ((b.kept z D).0, refl);
      grows = b.grows;
      invariant = record { docs = b.invariant.docs; tokens_ok = b.invariant.tokens_ok; docs_well_formed = b.invariant.docs_well_formed; all_shaped = b.invariant.all_shaped };
    }

    two≢one : (n : ℕ) → eqb (suc (suc n)) 1 ≡ false
    two≢one n = eqb-suc-suc (suc n) 0 ∙ eqb-suc-zero n

    about_ok : (s t : State) (ps : List (List ℕ)) (ts : List Token) (lb rb : Token) (ws : List Word) (b : Consumed script s t ws) → ps ≡ map token_cells ts → ws ≡ in_round (map w ts) → b.taken ≡ lb ∷ (ts ++ (rb ∷ [])) → AllWellFormed script ts
        → Holds script (PathsLeft s) (elim (eqb (length ps) 1) as (λ x. Result (List (List ℕ))) [ true ↦ ok ps (one_struck s t) | false ↦ ok ps t ])
    unfolding print_paths in_round
    about_ok s t ps [] lb rb ws b e q x h = subst (λ (ps : List (List ℕ)). Holds script (PathsLeft s) (elim (eqb (length ps) 1) as (λ x. Result (List (List ℕ))) [ true ↦ ok ps (one_struck s t) | false ↦ ok ps t ])) (sym e) (holds ([], refl, consumed_as q b, h))
    about_ok s t ps (p ∷ []) lb rb ws b e q x h = subst (λ (ps : List (List ℕ)). Holds script (PathsLeft s) (elim (eqb (length ps) 1) as (λ x. Result (List (List ℕ))) [ true ↦ ok ps (one_struck s t) | false ↦ ok ps t ])) (sym e) (holds (p ∷ [], refl, one_consumed s t ws lb p rb b x, h))
    about_ok s t ps (p ∷ (r ∷ ts)) lb rb ws b e q x h = subst (λ (ps : List (List ℕ)). Holds script (PathsLeft s) (elim (eqb (length ps) 1) as (λ x. Result (List (List ℕ))) [ true ↦ ok ps (one_struck s t) | false ↦ ok ps t ])) (sym e)
        (subst (λ (z : Bool). Holds script (PathsLeft s) (elim z as (λ x. Result (List (List ℕ))) [ true ↦ ok (map token_cells (p ∷ (r ∷ ts))) (one_struck s t) | false ↦ ok (map token_cells (p ∷ (r ∷ ts))) t ])) (sym (two≢one (length (map token_cells ts)))) (holds (p ∷ (r ∷ ts), refl, consumed_as q b, h)))

    strike_single-ok : (s : State) → Invariant script s → Holds script (PathsLeft s) (Q.strike_single (Q.bracketed_paths) s)
    unfolding Q.strike_single
    strike_single-ok s c = go (Q.bracketed_paths s) (bracketed_paths-ok s c)
      where
        go : (r : Result (List (List ℕ))) → Holds script (BracketsDone s) r → Holds script (PathsLeft s) (elim r as (λ r'. Result (List (List ℕ))) [ ok ps t ↦ elim (eqb (length ps) 1) as (λ x. Result (List (List ℕ))) [ true ↦ ok ps (one_struck s t) | false ↦ ok ps t ] | err e t ↦ err e t ])
        go r (holds {a = ps} {s = t} b) = about_ok s t ps b.tokens b.lb b.rb b.ws b.consumed b.cells b.words b.exact b.docs_well_formed
        go r (fails q) = fails q

    pub parse_import-ok : (s : State) → Invariant script s → (current s.left).kind ≡ k_import → Holds script (NodeDone script s) (Q.parse_import s)
    unfolding Q.parse_import node_shape S.w print map₁ map₂ print_paths
    parse_import-ok s c e =
        bind_ok _ _ s (advance-ok script k_import s c e refl) (λ src s₁ d₁.
        bind_ok {P = PathsLeft s₁} _ _ s₁ (if_kind-ok _ _ _ s₁ (λ k. bind_ok _ _ s₁ (advance-ok script k_s s₁ d₁.consumed.invariant k refl) (λ p s₂ q. pure-ok _ s₂ (p ∷ [], refl, q.consumed, (q.is_well_formed, tt)))) (strike_single-ok s₁ d₁.consumed.invariant)) (λ ps s₂ q.
        bind_ok _ _ s₂ (subst (λ (x : List (List ℕ)). Holds script (λ r s'. (S.words (env_of script s'.arena) r ≡ some (map w q.0)) × Consumed script s s' (w src ∷ print_paths (map w q.0)) × (s'.left ≡ s₂.left)) (R.alloc_slice x s₂)) (sym q.1) (word_list_ok s₂ q.0 q.3 (d₁.consumed ▷ q.2))) (λ r s₃ z.
        node_end script s₃ 0 _ (S.import_s (w src) (map w q.0)) z.1 (λ id. ap₂ (map₂ S.import_s) d₁.is_well_formed z.0) refl)))

    -- ---- match

    abbrev CaseCells : Type 0
    CaseCells = (Word × Shape) × Shapes

    abbrev case_rd : Arena → Decoder CaseCells
    case_rd m = S.case_in (env_of script m)

    case_rd_mono : (m m' : Arena) → Grows script m m' → Le (case_rd m) (case_rd m')
    case_rd_mono m m' g = case_in_grows script g

    unfoldable print_case : CaseCells → List Word
    print_case c = print c.0.1 ++ in_curly (prints c.1)

    cases_fold : (vs : List CaseCells) → print_cases (fold no_case (λ c. case_s c.0.1 c.1) vs) ≡ print_all print_case vs
    unfolding print print_case
    cases_fold vs = fold_print no_case (λ c. case_s c.0.1 c.1) print_case print_cases refl (λ a l. refl) vs

    -- the blocks of a match so far: the cases, then the default
    abbrev DefaultDone : State → State → List CaseCells → Option (Token × Run) → Type 0
    DefaultDone s₀ s vs none = Consumed script s₀ s (print_all print_case vs)
    DefaultDone s₀ s vs (some x) = (b : Shapes) × (S.shapes (env_of script s.arena) x.1 ≡ some b) × Consumed script s₀ s (print_all print_case vs ++ in_curly (prints b)) × WellFormed script x.0

    record CasesDone (s₀ : State) (c : Cases) (s : State) : Type 0 where
      pub values : List CaseCells
      pub are : All (case_rd s.arena) c.cases values
      pub default : DefaultDone s₀ s values c.default

    record CaseDone (s : State) (cells : List ℕ) (s' : State) : Type 0 where
      pub value : CaseCells
      pub is : case_rd s'.arena cells ≡ some (value, [])
      pub consumed : Consumed script s s' (print_case value)

    -- a block after the default: what is left of the script then matters no more
    abbrev bumped : State → State
    bumped s = record { left = s.left; docs = s.docs; arena = s.arena; notes = record { marks = s.notes.marks; after_default = s.notes.after_default + 1 } }

    after_default_any : {s₀ s s' : State} {u v : List Word} → Consumed script s₀ s u → Consumed script (bumped s) s' v → (ws : List Word) → Consumed script s₀ s' ws
    after_default_any {s₀} {s} {s'} a b ws = record {
      taken = a.taken ++ b.taken;
      given = a.given ++ b.given;
      left = a.left ∙ ap (λ (l : List Token). a.taken ++ l) b.left ∙ sym (append_assoc a.taken b.taken s'.left);
      marks = b.marks ∙ ap (λ (l : List Bool). l ++ b.given) a.marks ∙ append_assoc s₀.notes.marks a.given b.given;
      even = length-append a.given b.given ∙ ap₂ ◌+◌ a.even b.even ∙ sym (length-append a.taken b.taken);
      kept = λ z D. absurd (omega (arith, (b.kept z D).0));
      grows = grows_trans script a.grows b.grows;
      invariant = b.invariant;
    }

    condition_case-ok : (c : Cases) (s : State) → Invariant script s → Holds script (λ e s'. (cell : List ℕ) × (e ≡ record { cases = c.cases ++ (cell ∷ []); default = c.default }) × CaseDone s cell s') (Q.condition_case d c s)
    unfolding Q.condition_case print_case S.case_in S.word_in S.w token_cells run_cells both resolve chain decoded number token run and_then map₁
    condition_case-ok c s k = cur-ok _ s (
        bind_ok _ _ s (deep.expr 0 s k) (λ n s₁ d₁.
        bind_ok _ _ s₁ (parse_body-ok s₁ d₁.consumed.invariant) (λ b s₂ d₂.
        pure-ok _ s₂ (
          _,
          refl,
          record {
            value = ((w (current s.left), d₁.shape), d₂.shapes);
            is = rw (tokens_ok_current script (NoDocBeforeImport script) s.left k.tokens_ok, d₂.consumed.grows.nodes _ _ d₁.is, d₂.is);
            consumed = d₁.consumed ▷ d₂.consumed;
          },
        ))))

    default_case-ok : (c : Cases) (s : State) → Invariant script s → Holds script (λ e s'. (t : Token) × (b : Run) × (e ≡ record { cases = c.cases; default = some (t, b) }) × BodyDone s b s' × WellFormed script t) (Q.default_case d c s)
    unfolding Q.default_case
    default_case-ok c s k = cur-ok _ s (bind_ok _ _ s (parse_body-ok s k) (λ b s₁ d₁. pure-ok _ s₁ (current s.left, b, refl, d₁, tokens_ok_current script (NoDocBeforeImport script) s.left k.tokens_ok)))

    still_cases : {m m' : Arena} {cs : List (List ℕ)} {vs : List CaseCells} → Grows script m m' → All (case_rd m) cs vs → All (case_rd m') cs vs
    still_cases g l = still script case_rd print_case case_rd_mono g l

    abbrev block : Cases → Rule (ControlFlow Cases)
    block c = R.◌>>◌ (Q.note_after_default c) (R.◌>>=◌ (R.if_kind k_curly_left (Q.default_case d c) (Q.condition_case d c)) (λ e. R.pure (continue e)))

    block_by : (s₀ : State) (cs : List (List ℕ)) (o : Option (Token × Run)) (s : State) → CasesDone s₀ (record { cases = cs; default = o }) s → Holds script (λ t s'. CasesDone s₀ (flow_value t) s') (block (record { cases = cs; default = o }) s)
    unfolding Q.note_after_default R.◌>>◌
    block_by s₀ cs none s q =
        bind_ok {P = CasesDone s₀} _ _ s (if_kind-ok _ _ _ s
        (λ k. weaken (default_case-ok _ s q.default.invariant) (λ e s' r. subst (λ (x : Cases). CasesDone s₀ x s') (sym r.2) (record
        { values = q.values; are = still_cases r.3.consumed.grows q.are; default = (r.3.shapes, r.3.is, q.default ▷ r.3.consumed, r.4) })))
        (weaken (condition_case-ok _ s q.default.invariant) (λ e s' r. subst (λ (x : Cases). CasesDone s₀ x s') (sym r.1) (record {
          values = q.values ++ (r.2.value ∷ []);
          are = all_snoc _ (still_cases r.2.consumed.grows q.are) r.2.is;
          default = consumed_as (sym (print_all_snoc print_case q.values r.2.value)) (q.default ▷ r.2.consumed);
        }))))
        (λ e s' r. pure-ok _ s' r)
    block_by s₀ cs (some x) s q =
        let c : Invariant script (bumped s) = record { docs = q.default.2.invariant.docs; tokens_ok = q.default.2.invariant.tokens_ok; docs_well_formed = q.default.2.invariant.docs_well_formed; all_shaped = q.default.2.invariant.all_shaped } in
        bind_ok {P = CasesDone s₀} _ _ (bumped s) (if_kind-ok _ _ _ (bumped s)
        (λ k. weaken (default_case-ok _ (bumped s) c) (λ e s' r. subst (λ (y : Cases). CasesDone s₀ y s') (sym r.2) (record
        { values = q.values; are = still_cases r.3.consumed.grows q.are; default = (r.3.shapes, r.3.is, after_default_any q.default.2 r.3.consumed _, r.4) })))
        (weaken (condition_case-ok _ (bumped s) c) (λ e s' r. subst (λ (y : Cases). CasesDone s₀ y s') (sym r.1) (record {
          values = q.values ++ (r.2.value ∷ []);
          are = all_snoc _ (still_cases r.2.consumed.grows q.are) r.2.is;
          default = (q.default.0, shapes_grows script r.2.consumed.grows x.1 _ q.default.1, after_default_any q.default.2 r.2.consumed _, q.default.3);
        }))))
        (λ e s' r. pure-ok _ s' r)

    cases-ok : (s : State) → Invariant script s → Holds script (CasesDone s) (R.loop (Q.next_case d) (record { cases = []; default = none }) s)
    unfolding Q.next_case print_all
    cases-ok s k = loop-ok (CasesDone s) _
        (λ c s₁ q. if_kind-ok _ _ _ s₁ (λ e. pure-ok _ s₁ q) (if_kind-ok _ _ _ s₁ (λ e. pure-ok _ s₁ q) (block_by s c.cases c.default s₁ q)))
        _ s (record { values = []; are = all[]; default = consumed_refl script s k })

    abbrev match_end : Token → Run → Option (Token × Run) → Rule NodeId
    match_end t cs o = elim o as (λ o'. Rule NodeId) [ none ↦ (λ s. err (R.at_token 18 0 t) s) | some x ↦ R.push_node (λ id. N.Match id cs x.0 x.1) ]

    abbrev fold_cases : List CaseCells → CaseShapes
    fold_cases vs = fold no_case (λ c. case_s c.0.1 c.1) vs

    match_rest_lem : (s s₂ : State) → Consumed script s s₂ (fixed k_match ∷ fixed k_curly_left ∷ []) → (t : Token) (cs : List (List ℕ)) (o : Option (Token × Run)) (s₃ : State) → CasesDone s₂ (record { cases = cs; default = o }) s₃
        → Holds script (NodeDone script s) (R.◌>>◌ (R.expect k_curly_right) (R.◌>>=◌ (R.alloc_slice cs) (λ r. match_end t r o)) s₃)
    unfolding node_shape S.w S.cases print in_curly map₁ map₂ map₃
    match_rest_lem s s₂ u t cs none s₃ q =
        then_ok _ _ s₃ (sign_ok script k_curly_right s₃ q.default.invariant refl refl) (λ x s₄ d₄.
        bind_ok _ _ s₄ (alloc_slice-ok script case_rd print_case case_rd_mono no_case (λ c. case_s c.0.1 c.1) s₄ cs q.values (q.default ▷ d₄) (still_cases d₄.grows q.are)) (λ r s₅ z. fails z.1.invariant.all_shaped))
    match_rest_lem s s₂ u t cs (some x) s₃ q =
        then_ok _ _ s₃ (sign_ok script k_curly_right s₃ q.default.2.invariant refl refl) (λ y s₄ d₄.
        bind_ok _ _ s₄ (alloc_slice-ok script case_rd print_case case_rd_mono no_case (λ c. case_s c.0.1 c.1) s₄ cs q.values (consumed_refl script s₄ d₄.invariant) (still_cases d₄.grows q.are)) (λ r s₅ z.
        node_end script s₅ 0 _ (S.match_s (fold_cases q.values) (w x.0) q.default.0) (u ▷ (q.default.2 ▷ consumed_end d₄ z.1))
        (λ id. subst (λ (o : Option CaseShapes). map₃ S.match_s o (word script x.0) (S.shapes (env_of script s₅.arena) x.1) ≡ some (S.match_s (fold_cases q.values) (w x.0) q.default.0)) (sym z.0) (ap₂ (map₂ (S.match_s (fold_cases q.values))) q.default.3 (shapes_grows script (consumed_end d₄ z.1).grows x.1 _ q.default.1)))
        (ap (λ (ws : List Word). fixed k_match ∷ fixed k_curly_left ∷ ((ws ++ in_curly (prints q.default.0)) ++ (fixed k_curly_right ∷ []))) (sym (cases_fold q.values)))))

    pub parse_match-ok : (s : State) → Invariant script s → (current s.left).kind ≡ k_match → Holds script (NodeDone script s) (Q.parse_match d s)
    unfolding Q.parse_match
    parse_match-ok s k e =
        then_ok _ _ s (sign_took script k_match s k e refl refl) (λ x s₁ d₁.
        cur-ok _ s₁ (
        then_ok _ _ s₁ (sign_ok script k_curly_left s₁ d₁.invariant refl refl) (λ x₂ s₂ d₂.
        bind_ok _ _ s₂ (cases-ok s₂ d₂.invariant) (λ c s₃ d₃. match_rest_lem s s₂ (d₁ ▷ d₂) (current s₁.left) c.cases c.default s₃ d₃))))

    -- ---- any item

    pub parse_prefix-ok : (s : State) → Invariant script s → Holds script (NodeDone script s) (Q.parse_prefix d s)
    unfolding Q.parse_prefix with_docs
    parse_prefix-ok s k =
        then_ok _ _ s (collect_docs-ok s k) (λ n s₁ q.
        table_ok _ _ s₁
        (entry-ok _ _ _ _ s₁ (λ e. weaken (parse_import-ok s₁ (waited s₁ q e).invariant e) (joined (waited s₁ q e)))
        (entry-ok _ _ _ _ s₁ (λ e. parse_let-ok s s₁ q.waits)
        (entry-ok _ _ _ _ s₁ (λ e. parse_fn-ok s s₁ q.waits e)
        (entry-ok _ _ _ _ s₁ (λ e. parse_extern-ok s s₁ q.waits)
        (other_ok _ _ s₁ (require_no_docs-ok _ s₁ (λ e. free s₁ (idle s₁ q.waits e)) (λ e. q.waits.consumed.invariant.all_shaped))))))))
      where
        -- no docs wait: nothing is done yet
        idle : (s₁ : State) → Waits s s₁ → s₁.docs ≡ [] → Consumed script s s₁ []
        idle s₁ q e = subst (λ (x : State). Consumed script s x []) (quiet s₁ e) (consumed_as (ap (map w) e) q.consumed)

        joined : {s₁ : State} → Consumed script s s₁ [] → (n : NodeId) (s₂ : State) → NodeDone script s₁ n s₂ → NodeDone script s n s₂
        joined a n s₂ z = record { shape = z.shape; is = z.is; consumed = a ▷ z.consumed }

        no-docs : (s₁ : State) → Ready s₁ → (current s₁.left).kind ≡ k_import → s₁.docs ≡ []
        no-docs s₁ (none_wait e) k₁ = e
        no-docs s₁ (no_import f) k₁ = absurd (f k₁)

        -- an import: docs that wait are not plain
        waited : (s₁ : State) {n : ℕ} → DocsDone s n s₁ → (current s₁.left).kind ≡ k_import → Consumed script s s₁ []
        waited s₁ q e = record {
          taken = q.waits.consumed.taken;
          given = q.waits.consumed.given;
          left = q.waits.consumed.left;
          marks = q.waits.consumed.marks;
          even = q.waits.consumed.even;
          kept = λ l D. ((q.waits.consumed.kept l D).0, (q.waits.consumed.kept l D).1 ∙ ap (map w) (no-docs s₁ (q.ready D) e));
          grows = q.waits.consumed.grows;
          invariant = record { docs = λ D. no-docs s₁ (q.ready D) e; tokens_ok = q.waits.consumed.invariant.tokens_ok; docs_well_formed = q.waits.docs_well_formed; all_shaped = q.waits.consumed.invariant.all_shaped };
        }

        free : (s₁ : State) → Consumed script s s₁ [] → Holds script (NodeDone script s) (R.if_kind k_match (Q.parse_match d) (d.expr 0) s₁)
        free s₁ a = if_kind-ok _ _ _ s₁ (λ e. weaken (parse_match-ok s₁ a.invariant e) (joined a)) (weaken (deep.expr 0 s₁ a.invariant) (joined a))
