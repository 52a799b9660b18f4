-- Which rule reads a type, by the levels that are left and the kind of the token being read.
use Rattle.std.proofs.Common.{◌≡◌, ℕ, suc, ◌-◌, ◌<◌, ◌≤◌, Bool, true, false, eqb, ◌⊎◌, List, [], ◌∷◌, sym, refl, ap, ◌∙◌, subst, ⊎_elim, arith, ne_eqb, eqb-true}
use borrow.Author.Tests.{eqb-false}
use Rattle.lex.specs.Kind.{k_str, k_int, k_double, k_bool, k_void, k_option, k_array, k_foreign, k_record}
use Rattle.rules.specs.Combinators.{choose, fail_expecting, Readers}
use Rattle.rules.specs.Rules.{readers, parse_type, type_by_kind, atom_type}
use Rattle.ast.specs.declared.TypeExprId.{TypeExprId}
use Rattle.parser_state.specs.Represents.{Code, Kept}
use Rattle.parser_state.specs.Refines.{Rules, RefinesBy, RefusesBy, stack_unchanged, deeper}
use Rattle.parser_state.proofs.Steps.{either, at-kind, refused}

deeper-zero : (rules : Rules) (levels : ℕ) → levels ≡ 0 → (deeper rules levels).type ≡ fail_expecting 10 0
unfolding readers
deeper-zero rules levels e = subst (λ (n : ℕ). (deeper rules n).type ≡ fail_expecting 10 0) (sym e) refl

deeper-suc : (rules : Rules) (levels : ℕ) → (levels ≡ 0 → ⊥) → (deeper rules levels).type ≡ parse_type (deeper rules (levels - 1))
unfolding readers
deeper-suc rules levels f =
    let e : suc (levels - 1) ≡ levels = omega arith in
    subst (λ (n : ℕ). (deeper rules n).type ≡ parse_type (deeper rules (levels - 1))) e refl

-- a table has the kind further on
past : {A : Type 0} {k n : ℕ} (x other : A) (xs : List (ℕ × A)) → (k ≡ n → ⊥) → choose ((n, x) ∷ xs) other k ≡ choose xs other k
unfolding choose
past {A} {k} {n} x other xs f = ap (λ (b : Bool). elim b as (λ _. A) [ true ↦ x | false ↦ choose xs other k ]) (ne_eqb k n f)

table_end : {A : Type 0} (k : ℕ) (other : A) → choose [] other k ≡ other
unfolding choose
table_end k other = refl

module _ (below : Readers) (k : ℕ) where
  -- Str, Int, Double, Bool and Void are numbered one after the other
  of_atom : k_str ≤ k → k < k_option → type_by_kind below k ≡ atom_type
  unfolding type_by_kind choose
  of_atom a b =
      either (eqb k k_str) (λ e. at k_str e refl) (λ e₁.
      either (eqb k k_int) (λ e. at k_int e refl) (λ e₂.
      either (eqb k k_double) (λ e. at k_double e refl) (λ e₃.
      either (eqb k k_bool) (λ e. at k_bool e refl) (λ e₄.
      either (eqb k k_void) (λ e. at k_void e refl) (λ e₅.
      absurd (omega (arith, eqb-false k k_str e₁, eqb-false k k_int e₂, eqb-false k k_double e₃, eqb-false k k_bool e₄, eqb-false k k_void e₅)))))))
    where
      at : (n : ℕ) → eqb k n ≡ true → type_by_kind below n ≡ atom_type → type_by_kind below k ≡ atom_type
      at n e h = subst (λ (j : ℕ). type_by_kind below j ≡ atom_type) (sym (eqb-true k n e)) h

  -- a kind that no type begins with
  of_none : (k < k_str) ⊎ (k_void < k) → (k ≡ k_option → ⊥) → (k ≡ k_array → ⊥) → (k ≡ k_foreign → ⊥) → (k ≡ k_record → ⊥) → type_by_kind below k ≡ fail_expecting 23 0
  unfolding type_by_kind
  of_none h a b c d =
      past _ _ _ (break k_str (omega arith) (omega arith)) ∙ past _ _ _ (break k_int (omega arith) (omega arith)) ∙ past _ _ _ (break k_bool (omega arith) (omega arith)) ∙ past _ _ _ (break k_void (omega arith) (omega arith)) ∙ past _ _ _ (break k_double (omega arith) (omega arith))
      ∙ past _ _ _ c ∙ past _ _ _ a ∙ past _ _ _ b ∙ past _ _ _ d ∙ table_end _ _
    where
      break : (n : ℕ) → k_str ≤ n → n ≤ k_void → k ≡ n → ⊥
      break n p q e = ⊎_elim (λ w. omega arith) (λ w. omega arith) h

module _ {kept : Kept} {tokens : List ℕ} {Q : TypeExprId → Type 0} {d r' l' : ℕ} {s s' : Code} (rules : Rules) (levels : ℕ) where
  pub too_deep : levels ≡ 0 → RefusesBy kept tokens 10 0 s s' → RefinesBy kept tokens 0 0 (deeper rules levels).type Q stack_unchanged d r' l' s s'
  too_deep e p = rw (deeper-zero rules levels e) (refused p)

module _ {kept : Kept} {tokens : List ℕ} {Q : TypeExprId → Type 0} {r l d r' l' : ℕ} {s s' : Code} (rules : Rules) (levels : ℕ) where
  pub type_at : (kind : ℕ) → (levels ≡ 0 → ⊥) → RefinesBy kept tokens r l (type_by_kind (deeper rules (levels - 1)) kind) Q stack_unchanged d r' l' s s' → s.parser.cur.kind ≡ kind
      → RefinesBy kept tokens r l (deeper rules levels).type Q stack_unchanged d r' l' s s'
  unfolding parse_type
  type_at kind f p e = rw (deeper-suc rules levels f) (at-kind _ kind p e)

  pub type-atom : {k : ℕ} → (levels ≡ 0 → ⊥) → RefinesBy kept tokens r l atom_type Q stack_unchanged d r' l' s s' → k ≡ s.parser.cur.kind → k_str ≤ k → k < k_option → RefinesBy kept tokens r l (deeper rules levels).type Q stack_unchanged d r' l' s s'
  type-atom {k} f p e a b = type_at k f (rw (of_atom (deeper rules (levels - 1)) k a b) p) (sym e)

module _ {kept : Kept} {tokens : List ℕ} {Q : TypeExprId → Type 0} {d r' l' : ℕ} {s s' : Code} (rules : Rules) (levels : ℕ) where
  pub type-none : {k : ℕ} → (levels ≡ 0 → ⊥) → RefusesBy kept tokens 23 0 s s' → k ≡ s.parser.cur.kind → (k < k_str) ⊎ (k_void < k) → (k ≡ k_option → ⊥) → (k ≡ k_array → ⊥) → (k ≡ k_foreign → ⊥) → (k ≡ k_record → ⊥)
      → RefinesBy kept tokens 0 0 (deeper rules levels).type Q stack_unchanged d r' l' s s'
  type-none {k} f p e h a b c d = type_at rules levels k f (rw (of_none (deeper rules (levels - 1)) k h a b c d) (refused p)) (sym e)
