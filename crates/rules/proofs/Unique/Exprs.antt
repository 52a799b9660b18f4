-- The rules of expressions.
use mathlib.Core.Path.{◌≡◌, refl, sym, ap, ap₂, ◌∙◌, subst}
use mathlib.Core.Bool.{Bool, true, false}
use mathlib.Core.Option.{Option, none, some}
use mathlib.Core.List.{List, [], ◌∷◌, ◌++◌, append_assoc}
use Prim.Native.Nat.{ℕ}
use lib.Dec.{eqb, eqb→eq, ltb}
use Rattle.lex.specs.Kind.{k_eof, k_brace_left, k_brace_right, k_plus, k_minus, k_colon, k_dot, k_braket_left, k_braket_right, k_curly_left, k_curly_right, k_s, k_d, k_i, k_ident, k_as, k_true, k_false}
use Rattle.rules.specs.Tree.{Arena, State}
use Rattle.rules.specs.Combinators as R
use Rattle.rules.specs.Combinators.{Rule, current, Readers, ControlFlow, break}
use Rattle.ast.specs.Layout.{token_cells}
use Rattle.rules.specs.Rules as Q
use Rattle.rules.specs.Shape as S
use Rattle.rules.specs.Shape.{Word, word_of, Shape, no_shape, shape, no_field, field_s, node_shape_at, node_shape}
use Rattle.ast.specs.Lists.{map₁, map₂, map₃, and_then, Decoder, decoded, chain, number, token, resolve, both}
use Rattle.rules.proofs.Unique.Print.{fixed, print, prints, print_fields, in_round}
use Rattle.rules.proofs.Unique.Grow.{none≢some, env_of, Grows, Le, node_grows, field_in_grows}
use Rattle.rules.proofs.Results.{holds, if_kind-ok, table_ok, entry-ok, other_ok, bind_ok, then_ok, pure-ok, cur-ok, fail-ok, flow_value, loop-ok}
use Rattle.rules.proofs.Unique.Step.{Holds, Invariant, ◌▷◌, consumed_end, advance-ok, expect_ident-ok, sign_ok, sign_took, struck-advance-ok, struck-expect-ok, NodeDone, node_end, fold, fold_print, print_all, ItemDone, list_until-ok}
use Rattle.rules.proofs.Unique.Types.{ReadersOk}
use Rattle.lex.specs.declared.tok.Token.{Token}
use Rattle.ast.specs.declared.NodeId.{NodeId}

unfoldable pub print_field : Word × Shape → List Word
print_field p = p.0 ∷ fixed k_colon ∷ print p.1

pub shapes_fold : (vs : List Shape) → prints (fold no_shape shape vs) ≡ print_all print vs
unfolding print
shapes_fold vs = fold_print no_shape shape print prints refl (λ a l. refl) vs

pub fields_fold : (vs : List (Word × Shape)) → print_fields (fold no_field (λ p. field_s p.0 p.1) vs) ≡ print_all print_field vs
unfolding print print_field
fields_fold vs = fold_print no_field (λ p. field_s p.0 p.1) print_field print_fields refl (λ a l. refl) vs

module _ (script : List ℕ) where
  abbrev pub node_rd : Arena → Decoder Shape
  node_rd m = resolve number (node_shape_at script m)

  pub node_rd_mono : (m m' : Arena) → Grows script m m' → Le (node_rd m) (node_rd m')
  node_rd_mono m m' g = node_grows script g

  abbrev pub field_rd : Arena → Decoder (Word × Shape)
  field_rd m = S.field_in (env_of script m)

  pub field_rd_mono : (m m' : Arena) → Grows script m m' → Le (field_rd m) (field_rd m')
  field_rd_mono m m' g = field_in_grows script g

module _ (script : List ℕ) (d : Readers) (deep : ReadersOk script d) where
  abbrev w : Token → Word
  w t = word_of script t

  pub node_member-ok : (x : Rule NodeId) → ((s : State) → Invariant script s → Holds script (NodeDone script s) (x s)) → (s : State) → Invariant script s → Holds script (ItemDone script (node_rd script) print s) (Q.node_member x s)
  unfolding Q.node_member resolve chain decoded number and_then map₁
  node_member-ok x h s c = bind_ok _ _ s (h s c) (λ n s₁ q. pure-ok _ s₁ (record { value = q.shape; is = rw q.is; consumed = q.consumed }))

  pub field-ok : (s : State) → Invariant script s → Holds script (ItemDone script (field_rd script) print_field s) (Q.field d s)
  unfolding Q.field print_field S.field_in S.word_in S.w token_cells both resolve chain decoded number token and_then map₁
  field-ok s c =
      bind_ok _ _ s (expect_ident-ok script s c) (λ name s₁ d₁.
      then_ok _ _ s₁ (sign_ok script k_colon s₁ d₁.consumed.invariant refl refl) (λ x s₂ d₂.
      bind_ok _ _ s₂ (deep.expr 0 s₂ d₂.invariant) (λ t s₃ d₃.
      pure-ok _ s₃ (record { value = (w name, d₃.shape); is = rw (d₁.is_well_formed, d₃.is); consumed = d₁.consumed ▷ d₂ ▷ d₃.consumed }))))

  pub record_literal-ok : (s : State) → Invariant script s → (current s.left).kind ≡ k_curly_left → Holds script (NodeDone script s) (Q.record_literal d s)
  unfolding Q.record_literal node_shape S.w S.fields print map₁ map₂
  record_literal-ok s c e =
      bind_ok _ _ s (advance-ok script k_curly_left s c e refl) (λ src s₁ d₁.
      bind_ok _ _ s₁ (list_until-ok script (field_rd script) print_field (field_rd_mono script) no_field (λ p. field_s p.0 p.1) k_curly_right _ refl refl field-ok s₁ d₁.consumed) (λ r s₂ q.
      node_end script s₂ 0 _ (S.record_s (w src) (fold no_field (λ p. field_s p.0 p.1) q.values)) q.consumed (λ id. ap₂ (map₂ S.record_s) d₁.is_well_formed q.is) (ap (λ (ws : List Word). w src ∷ (ws ++ (fixed k_curly_right ∷ []))) (sym (fields_fold q.values)))))

  pub array_literal-ok : (s : State) → Invariant script s → (current s.left).kind ≡ k_braket_left → Holds script (NodeDone script s) (Q.array_literal d s)
  unfolding Q.array_literal node_shape S.w S.shapes print map₁ map₂
  array_literal-ok s c e =
      bind_ok _ _ s (advance-ok script k_braket_left s c e refl) (λ src s₁ d₁.
      bind_ok _ _ s₁ (list_until-ok script (node_rd script) print (node_rd_mono script) no_shape shape k_braket_right _ refl refl (node_member-ok (d.expr 0) (deep.expr 0)) s₁ d₁.consumed) (λ r s₂ q.
      node_end script s₂ 0 _ (S.array (w src) (fold no_shape shape q.values)) q.consumed (λ id. ap₂ (map₂ S.array) d₁.is_well_formed q.is) (ap (λ (ws : List Word). w src ∷ (ws ++ (fixed k_braket_right ∷ []))) (sym (shapes_fold q.values)))))

  pub atom-ok : (k : ℕ) → eqb k k_eof ≡ false → (s : State) → Invariant script s → (current s.left).kind ≡ k → Holds script (NodeDone script s) (Q.atom s)
  unfolding Q.atom node_shape S.w print map₁
  atom-ok k ne s c e =
      bind_ok _ _ s (advance-ok script k s c e ne) (λ t s₁ d₁.
      node_end script s₁ 0 _ (S.atom (w t)) d₁.consumed (λ id. ap (map₁ S.atom) d₁.is_well_formed) refl)

  pub ident-ok : (s : State) → Invariant script s → (current s.left).kind ≡ k_ident → Holds script (NodeDone script s) (Q.ident s)
  unfolding Q.ident node_shape S.w print map₁
  ident-ok s c e =
      bind_ok _ _ s (advance-ok script k_ident s c e refl) (λ t s₁ d₁.
      node_end script s₁ 0 _ (S.ident (w t)) d₁.consumed (λ id. ap (map₁ S.ident) d₁.is_well_formed) refl)

  -- the brackets about an operand are struck out
  pub group-ok : (s : State) → Invariant script s → (current s.left).kind ≡ k_brace_left → Holds script (NodeDone script s) (Q.group d s)
  unfolding Q.group
  group-ok s c e =
      then_ok _ _ s (struck-advance-ok script k_brace_left s c e refl) (λ t s₁ d₁.
      bind_ok _ _ s₁ (deep.expr 0 s₁ d₁.invariant) (λ n s₂ d₂.
      then_ok _ _ s₂ (struck-expect-ok script k_brace_right s₂ d₂.consumed.invariant refl) (λ t s₃ d₃.
      pure-ok n s₃ (record { shape = d₂.shape; is = d₃.grows.nodes _ _ d₂.is; consumed = consumed_end (d₁ ▷ d₂.consumed) d₃ }))))

  pub unary-ok : (k : ℕ) → eqb k k_eof ≡ false → (s : State) → Invariant script s → (current s.left).kind ≡ k → Holds script (NodeDone script s) (Q.unary d s)
  unfolding Q.unary node_shape S.w print map₁ map₂
  unary-ok k ne s c e =
      bind_ok _ _ s (advance-ok script k s c e ne) (λ op s₁ d₁.
      bind_ok _ _ s₁ (deep.expr Q.prefix_power s₁ d₁.consumed.invariant) (λ rhs s₂ d₂.
      node_end script s₂ 0 _ (S.unary (w op) d₂.shape) (d₁.consumed ▷ d₂.consumed) (λ id. ap₂ (map₂ S.unary) d₁.is_well_formed d₂.is) refl))

  pub operand-ok : (s : State) → Invariant script s → Holds script (NodeDone script s) (Q.operand d s)
  unfolding Q.operand
  operand-ok s c =
      table_ok _ _ s
      (entry-ok _ _ _ _ s (record_literal-ok s c)
      (entry-ok _ _ _ _ s (array_literal-ok s c)
      (entry-ok _ _ _ _ s (atom-ok k_s refl s c)
      (entry-ok _ _ _ _ s (atom-ok k_i refl s c)
      (entry-ok _ _ _ _ s (atom-ok k_d refl s c)
      (entry-ok _ _ _ _ s (atom-ok k_true refl s c)
      (entry-ok _ _ _ _ s (atom-ok k_false refl s c)
      (entry-ok _ _ _ _ s (ident-ok s c)
      (entry-ok _ _ _ _ s (group-ok s c)
      (entry-ok _ _ _ _ s (unary-ok k_plus refl s c)
      (entry-ok _ _ _ _ s (unary-ok k_minus refl s c)
      (other_ok _ _ s (fail-ok 19 0 s c.all_shaped)))))))))))))

  -- ---- what goes on with the left side read so far, which began at `s₀`

  module _ (s₀ : State) where
    abbrev Goes : ControlFlow NodeId → State → Type 0
    Goes t s' = NodeDone script s₀ (flow_value t) s'

    field_access-ok : (n : NodeId) (s : State) → NodeDone script s₀ n s → (current s.left).kind ≡ k_dot → Holds script Goes (Q.field_access n s)
    unfolding Q.field_access node_shape S.w print map₁ map₂
    field_access-ok n s q e =
        then_ok _ _ s (sign_took script k_dot s q.consumed.invariant e refl refl) (λ t s₁ d₁.
        bind_ok _ _ s₁ (expect_ident-ok script s₁ d₁.invariant) (λ name s₂ d₂.
        bind_ok _ _ s₂ (node_end script s₂ 0 _ (S.field q.shape (w name)) (q.consumed ▷ d₁ ▷ d₂.consumed) (λ id. ap₂ (map₂ S.field) ((d₁ ▷ d₂.consumed).grows.nodes _ _ q.is) d₂.is_well_formed) (append_assoc (print q.shape) (fixed k_dot ∷ []) (w name ∷ []))) (λ m s₃ r.
        pure-ok _ s₃ r)))

    call_ok : (n : NodeId) (s : State) → NodeDone script s₀ n s → (current s.left).kind ≡ k_brace_left → Holds script Goes (Q.call d n s)
    unfolding Q.call node_shape S.w S.shapes print in_round map₁ map₂
    call_ok n s q e =
        then_ok _ _ s (sign_took script k_brace_left s q.consumed.invariant e refl refl) (λ t s₁ d₁.
        bind_ok _ _ s₁ (list_until-ok script (node_rd script) print (node_rd_mono script) no_shape shape k_brace_right _ refl refl (node_member-ok d.prefix deep.prefix) s₁ d₁) (λ r s₂ l.
        bind_ok _ _ s₂ (node_end script s₂ 0 _ (S.call q.shape (fold no_shape shape l.values)) (q.consumed ▷ l.consumed) (λ id. rw (l.consumed.grows.nodes _ _ q.is) (ap (map₁ (S.call q.shape)) l.is)) (ap (λ (ws : List Word). print q.shape ++ (fixed k_brace_left ∷ (ws ++ (fixed k_brace_right ∷ [])))) (sym (shapes_fold l.values)))) (λ m s₃ z.
        pure-ok _ s₃ z)))

    cast_ok : (n : NodeId) (s : State) → NodeDone script s₀ n s → (current s.left).kind ≡ k_as → Holds script Goes (Q.cast d n s)
    unfolding Q.cast node_shape S.w print map₁ map₂ map₃
    cast_ok n s q e =
        bind_ok _ _ s (advance-ok script k_as s q.consumed.invariant e refl) (λ src s₁ d₁.
        bind_ok _ _ s₁ (deep.type s₁ d₁.consumed.invariant) (λ t s₂ d₂.
        bind_ok _ _ s₂ (node_end script s₂ 0 _ (S.cast (w src) q.shape d₂.shape) (q.consumed ▷ (d₁.consumed ▷ d₂.consumed)) (λ id. rw (d₁.is_well_formed, (d₁.consumed ▷ d₂.consumed).grows.nodes _ _ q.is, d₂.is)) refl) (λ m s₃ z.
        pure-ok _ s₃ z)))

    binary-ok : (n : NodeId) (left : ℕ) (s : State) → NodeDone script s₀ n s → (k : ℕ) → (current s.left).kind ≡ k → eqb k k_eof ≡ false → Holds script Goes (Q.binary d n left s)
    unfolding Q.binary node_shape S.w print map₁ map₂ map₃
    binary-ok n left s q k e ne =
        bind_ok _ _ s (advance-ok script k s q.consumed.invariant e ne) (λ op s₁ d₁.
        bind_ok _ _ s₁ (deep.expr (Q.right_power left) s₁ d₁.consumed.invariant) (λ rhs s₂ d₂.
        bind_ok _ _ s₂ (node_end script s₂ 0 _ (S.bin (w op) q.shape d₂.shape) (q.consumed ▷ (d₁.consumed ▷ d₂.consumed)) (λ id. rw (d₁.is_well_formed, (d₁.consumed ▷ d₂.consumed).grows.nodes _ _ q.is, d₂.is)) refl) (λ m s₃ z.
        pure-ok _ s₃ z)))

    postfixed_ok : (n : NodeId) (s : State) → NodeDone script s₀ n s → Holds script (NodeDone script s₀) (Q.postfix d n s)
    unfolding Q.postfix Q.callable
    postfixed_ok n s q = loop-ok (NodeDone script s₀) _
        (λ lhs s₁ r. if_kind-ok _ _ _ s₁ (field_access-ok lhs s₁ r) (if_kind-ok _ _ _ s₁
        (λ e. bind_ok {P = λ b s₂. s₂ ≡ s₁} _ _ s₁ (holds refl) (λ b s₂ z. subst (λ (s₃ : State). Holds script Goes (elim b as (λ b'. Rule (ControlFlow NodeId)) [ true ↦ Q.call d lhs | false ↦ R.pure (break lhs) ] s₃)) (sym z) (called lhs s₁ r e b)))
        (pure-ok _ s₁ r)))
        n s q
      where
        called : (lhs : NodeId) (s₁ : State) → NodeDone script s₀ lhs s₁ → (current s₁.left).kind ≡ k_brace_left → (b : Bool) → Holds script Goes (elim b as (λ b'. Rule (ControlFlow NodeId)) [ true ↦ Q.call d lhs | false ↦ R.pure (break lhs) ] s₁)
        called lhs s₁ r e true = call_ok lhs s₁ r e
        called lhs s₁ r e false = pure-ok _ s₁ r

    -- Eof is no infix sign
    module _ (power : ℕ → Option ℕ) (eof : power k_eof ≡ none) where
      not_eof : (k : ℕ) (left : ℕ) → power k ≡ some left → eqb k k_eof ≡ false
      not_eof k left e = go (eqb k k_eof) refl
        where
          go : (b : Bool) → eqb k k_eof ≡ b → b ≡ false
          go true p = none≢some left (sym eof ∙ ap power (sym (eqb→eq k k_eof (rw p tt))) ∙ e)
          go false p = refl

      infixed_ok : (least : ℕ) (n : NodeId) (s : State) → NodeDone script s₀ n s → Holds script (NodeDone script s₀) (Q.infixes d power script least n s)
      unfolding Q.infixes R.cur
      infixed_ok least n s q = loop-ok (NodeDone script s₀) _
          (λ lhs s₁ r. if_kind-ok _ _ _ s₁ (cast_ok lhs s₁ r)
          (cur-ok _ s₁ (go lhs s₁ r (power (current s₁.left).kind) refl)))
          n s q
        where
          go₃ : (lhs : NodeId) (s₁ : State) → NodeDone script s₀ lhs s₁ → (left : ℕ) → power (current s₁.left).kind ≡ some left → (b : Bool) → Holds script Goes (elim b as (λ b'. Rule (ControlFlow NodeId)) [ true ↦ R.pure (break lhs) | false ↦ Q.binary d lhs left ] s₁)
          go₃ lhs s₁ r left e true = pure-ok _ s₁ r
          go₃ lhs s₁ r left e false = binary-ok lhs left s₁ r (current s₁.left).kind refl (not_eof _ left e)

          go₂ : (lhs : NodeId) (s₁ : State) → NodeDone script s₀ lhs s₁ → (left : ℕ) → power (current s₁.left).kind ≡ some left → (b : Bool) → Holds script Goes (elim b as (λ b'. Rule (ControlFlow NodeId)) [ true ↦ R.pure (break lhs) | false ↦ elim (ltb left least) as (λ b'. Rule (ControlFlow NodeId)) [ true ↦ R.pure (break lhs) | false ↦ Q.binary d lhs left ] ] s₁)
          go₂ lhs s₁ r left e true = pure-ok _ s₁ r
          go₂ lhs s₁ r left e false = go₃ lhs s₁ r left e (ltb left least)

          go : (lhs : NodeId) (s₁ : State) → NodeDone script s₀ lhs s₁ → (o : Option ℕ) → power (current s₁.left).kind ≡ o → Holds script Goes (elim o as (λ o'. Rule (ControlFlow NodeId)) [ none ↦ R.pure (break lhs) | some left ↦ elim (Q.breaks_off script (current s₁.left)) as (λ b'. Rule (ControlFlow NodeId)) [ true ↦ R.pure (break lhs) | false ↦ elim (ltb left least) as (λ b'. Rule (ControlFlow NodeId)) [ true ↦ R.pure (break lhs) | false ↦ Q.binary d lhs left ] ] ] s₁)
          go lhs s₁ r none e = pure-ok _ s₁ r
          go lhs s₁ r (some left) e = go₂ lhs s₁ r left e (Q.breaks_off script (current s₁.left))

  pub parse_expr-ok : (power : ℕ → Option ℕ) (eof : power k_eof ≡ none) (least : ℕ) (s : State) → Invariant script s → Holds script (NodeDone script s) (Q.parse_expr d power script least s)
  unfolding Q.parse_expr
  parse_expr-ok power eof least s c =
      bind_ok _ _ s (operand-ok s c) (λ x s₁ q.
      bind_ok _ _ s₁ (postfixed_ok s x s₁ q) (λ y s₂ r.
      infixed_ok s power eof least y s₂ r))
