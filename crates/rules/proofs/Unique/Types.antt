-- The rules of types, and of names with types.
use mathlib.Core.Path.{◌≡◌, refl, sym, ap, ap₂, ◌∙◌}
use mathlib.Core.Bool.{Bool, true, false}
use mathlib.Core.List.{List, [], ◌∷◌, ◌++◌}
use Prim.Native.Nat.{ℕ}
use lib.Dec.{eqb}
use Rattle.lex.specs.Kind.{k_eof, k_colon, k_less_than, k_greater_than, k_str, k_int, k_double, k_bool, k_void, k_option, k_array, k_foreign, k_record}
use Rattle.lex.specs.Spelling.{has_spelling}
use Rattle.rules.specs.Tree.{Arena, State}
use Rattle.rules.specs.Combinators as R
use Rattle.rules.specs.Combinators.{current, Readers}
use Rattle.ast.specs.Layout.{token_cells}
use Rattle.rules.specs.Rules as Q
use Rattle.rules.specs.Shape as S
use Rattle.rules.specs.Shape.{Word, word_of, TypeShape, atom_t, foreign_t, option_t, array_t, record_t, no_param, param, type_shape}
use Rattle.ast.specs.Lists.{map₁, map₂, and_then, Decoder, decoded, chain, number, token, resolve, both}
use Rattle.rules.proofs.Unique.Print.{fixed, print_t, print_params, print_return}
use Rattle.rules.proofs.Unique.Grow.{env_of, Grows, Le, param_in_grows}
use Rattle.rules.proofs.Results.{table_ok, entry-ok, other_ok, bind_ok, then_ok, pure-ok, fail-ok, reject_kind-ok}
use Rattle.rules.proofs.Unique.Step.{Holds, Invariant, Consumed, ◌▷◌, advance-ok, expect_ident-ok, sign_ok, sign_took, NodeDone, TypeDone, type_end, fold, fold_print, print_all, ItemDone, list_until-ok}
use Rattle.lex.specs.declared.tok.Token.{Token}
use Rattle.ast.specs.declared.TypeExprId.{TypeExprId}
use Rattle.ast.specs.declared.TypeExpr.{TypeExpr}
use Rattle.ast.specs.declared.TypeExpr.TheVariants as T

-- the readers one level deeper do as they should
pub record ReadersOk (script : List ℕ) (d : Readers) : Type 0 where
  pub prefix : (s : State) → Invariant script s → Holds script (NodeDone script s) (d.prefix s)
  pub expr : (least : ℕ) (s : State) → Invariant script s → Holds script (NodeDone script s) (d.expr least s)
  pub type : (s : State) → Invariant script s → Holds script (TypeDone script s) (d.type s)

unfoldable pub print_param : Word × TypeShape → List Word
print_param p = p.0 ∷ fixed k_colon ∷ print_t p.1

pub params_fold : (vs : List (Word × TypeShape)) → print_params (fold no_param (λ p. param p.0 p.1) vs) ≡ print_all print_param vs
unfolding print_t print_param
params_fold vs = fold_print no_param (λ p. param p.0 p.1) print_param print_params refl (λ a l. refl) vs

module _ (script : List ℕ) where
  abbrev w : Token → Word
  w t = word_of script t

  abbrev pub param_rd : Arena → Decoder (Word × TypeShape)
  param_rd m = S.param_in (env_of script m)

  pub param_rd_mono : (m m' : Arena) → Grows script m m' → Le (param_rd m) (param_rd m')
  param_rd_mono m m' g = param_in_grows script g

  open_angle-ok : (k n : ℕ) → eqb k k_eof ≡ false → has_spelling k ≡ false → (s : State) → Invariant script s → (current s.left).kind ≡ k → Holds script (λ a s'. Consumed script s s' (fixed k ∷ fixed k_less_than ∷ [])) (Q.open_angle n s)
  unfolding Q.open_angle
  open_angle-ok k n ne ns s c e =
      then_ok _ _ s (sign_took script k s c e ne ns) (λ t s₁ d₁.
      then_ok _ _ s₁ (sign_ok script k_less_than s₁ d₁.invariant refl refl) (λ t₂ s₂ d₂.
      reject_kind-ok k_greater_than n s₂ (d₁ ▷ d₂) d₂.invariant.all_shaped))

  atom_type-ok : (k : ℕ) → eqb k k_eof ≡ false → (s : State) → Invariant script s → (current s.left).kind ≡ k → Holds script (TypeDone script s) (Q.atom_type s)
  unfolding Q.atom_type type_shape S.w print_t word_of print_return map₁
  atom_type-ok k ne s c e =
      bind_ok _ _ s (advance-ok script k s c e ne) (λ t s₁ d₁.
      type_end script s₁ (T.Atom t) (atom_t (w t)) d₁.consumed (ap (map₁ atom_t) d₁.is_well_formed) refl (ap (λ (z : ℕ). elim (eqb z k_void) as (λ b. List Word) [ true ↦ [] | false ↦ w t ∷ [] ]) (d₁.kind ∙ sym e)))

  -- a type that begins with another kind is returned as it is written
  ret_other : (s : State) (k : ℕ) → (current s.left).kind ≡ k → eqb k k_void ≡ false → (ws : List Word) → ws ≡ elim (eqb (current s.left).kind k_void) as (λ b. List Word) [ true ↦ [] | false ↦ ws ]
  ret_other s k e n ws = sym (ap (λ (b : Bool). elim b as (λ b'. List Word) [ true ↦ [] | false ↦ ws ]) (ap (λ (z : ℕ). eqb z k_void) e ∙ n))

  foreign_type-ok : (s : State) → Invariant script s → (current s.left).kind ≡ k_foreign → Holds script (TypeDone script s) (Q.foreign_type s)
  unfolding Q.foreign_type type_shape S.w print_t print_return map₁
  foreign_type-ok s c e =
      then_ok _ _ s (open_angle-ok k_foreign 20 refl refl s c e) (λ a s₁ d₁.
      bind_ok _ _ s₁ (expect_ident-ok script s₁ d₁.invariant) (λ t s₂ d₂.
      then_ok _ _ s₂ (sign_ok script k_greater_than s₂ d₂.consumed.invariant refl refl) (λ x s₃ d₃.
      type_end script s₃ (T.Foreign t) (foreign_t (w t)) (d₁ ▷ d₂.consumed ▷ d₃) (ap (map₁ foreign_t) d₂.is_well_formed) refl (ret_other s k_foreign e refl _))))

module _ (script : List ℕ) (d : Readers) (deep : ReadersOk script d) where
  pub typed_name-ok : (s : State) → Invariant script s → Holds script (ItemDone script (param_rd script) print_param s) (Q.typed_name d s)
  unfolding Q.typed_name print_param S.param_in S.word_in S.w token_cells both resolve chain decoded number token and_then map₁
  typed_name-ok s c =
      bind_ok _ _ s (expect_ident-ok script s c) (λ name s₁ d₁.
      then_ok _ _ s₁ (sign_ok script k_colon s₁ d₁.consumed.invariant refl refl) (λ x s₂ d₂.
      bind_ok _ _ s₂ (deep.type s₂ d₂.invariant) (λ t s₃ d₃.
      pure-ok _ s₃ (record { value = (w script name, d₃.shape); is = rw (d₁.is_well_formed, d₃.is); consumed = d₁.consumed ▷ d₂ ▷ d₃.consumed }))))

  record_type-ok : (s : State) → Invariant script s → (current s.left).kind ≡ k_record → Holds script (TypeDone script s) (Q.record_type d s)
  unfolding Q.record_type type_shape S.w print_t S.params print_return S.param_in S.word_in map₁ map₂
  record_type-ok s c e =
      bind_ok _ _ s (advance-ok script k_record s c e refl) (λ src s₁ d₁.
      then_ok _ _ s₁ (sign_ok script k_less_than s₁ d₁.consumed.invariant refl refl) (λ x s₂ d₂.
      bind_ok _ _ s₂ (list_until-ok script (param_rd script) print_param (param_rd_mono script) no_param (λ p. param p.0 p.1) k_greater_than _ refl refl typed_name-ok s₂ (d₁.consumed ▷ d₂)) (λ r s₃ q.
      type_end script s₃ (T.Record src r) (record_t (w script src) (fold no_param (λ p. param p.0 p.1) q.values)) q.consumed (ap₂ (map₂ record_t) d₁.is_well_formed q.is) (ap (λ (ws : List Word). w script src ∷ fixed k_less_than ∷ (ws ++ (fixed k_greater_than ∷ []))) (sym (params_fold q.values))) (ret_other script s k_record e refl _))))

  -- Option and Array
  within-ok : (k n : ℕ) (mk : TypeExprId → TypeExpr) (sh : TypeShape → TypeShape) → eqb k k_eof ≡ false → has_spelling k ≡ false → eqb k k_void ≡ false
      → ((x : S.Env) (t : TypeExprId) → type_shape x (mk t) ≡ map₁ sh (x.type t.0))
      → ((σ : TypeShape) → print_t (sh σ) ≡ fixed k ∷ fixed k_less_than ∷ (print_t σ ++ (fixed k_greater_than ∷ [])))
      → ((σ : TypeShape) → print_return (sh σ) ≡ print_t (sh σ))
      → (s : State) → Invariant script s → (current s.left).kind ≡ k → Holds script (TypeDone script s) (R.◌>>◌ (Q.open_angle n) (R.◌>>=◌ d.type (λ t. R.◌>>◌ (R.expect k_greater_than) (R.push_type (mk t)))) s)
  unfolding map₁
  within-ok k n mk sh ne ns nv ht hp hr s c e =
      then_ok _ _ s (open_angle-ok script k n ne ns s c e) (λ a s₁ d₁.
      bind_ok _ _ s₁ (deep.type s₁ d₁.invariant) (λ t s₂ d₂.
      then_ok _ _ s₂ (sign_ok script k_greater_than s₂ d₂.consumed.invariant refl refl) (λ x s₃ d₃.
      type_end script s₃ (mk t) (sh d₂.shape) (d₁ ▷ d₂.consumed ▷ d₃) (ht _ t ∙ ap (map₁ sh) (d₃.grows.types _ _ d₂.is)) (sym (hp d₂.shape)) (hr d₂.shape ∙ ret_other script s k e nv _))))

  pub parse_type-ok : (s : State) → Invariant script s → Holds script (TypeDone script s) (Q.parse_type d s)
  unfolding Q.parse_type Q.type_by_kind Q.option_type Q.array_type type_shape print_t print_return
  parse_type-ok s c =
      table_ok _ _ s
      (entry-ok _ _ _ _ s (atom_type-ok script k_str refl s c)
      (entry-ok _ _ _ _ s (atom_type-ok script k_int refl s c)
      (entry-ok _ _ _ _ s (atom_type-ok script k_bool refl s c)
      (entry-ok _ _ _ _ s (atom_type-ok script k_void refl s c)
      (entry-ok _ _ _ _ s (atom_type-ok script k_double refl s c)
      (entry-ok _ _ _ _ s (foreign_type-ok script s c)
      (entry-ok _ _ _ _ s (within-ok k_option 21 T.Option option_t refl refl refl (λ x t. refl) (λ σ. refl) (λ σ. refl) s c)
      (entry-ok _ _ _ _ s (within-ok k_array 22 T.Array array_t refl refl refl (λ x t. refl) (λ σ. refl) (λ σ. refl) s c)
      (entry-ok _ _ _ _ s (record_type-ok s c)
      (other_ok _ _ s (fail-ok 23 0 s c.all_shaped)))))))))))
