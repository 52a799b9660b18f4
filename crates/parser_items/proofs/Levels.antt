-- Which rule reads an item or an expression, by the levels that are left and what the code has found out.
use Rattle.std.proofs.Common.{◌≡◌, ℕ, zero, suc, ◌-◌, ◌<◌, true, List, sym, refl, subst, arith, ne_eqb}
use mathlib.Core.Option.{some, none}
use Rattle.lex.specs.Kind.{k_doc, k_import, k_extern, k_let, k_fn, k_match}
use Rattle.rules.specs.Tree.{State, ok}
use Rattle.rules.specs.Combinators.{Rule, ◌>>◌, Readers, ControlFlow, break, fail_expecting, by_kind, choose, collect_docs, pure}
use Rattle.rules.specs.Rules.{stage_one, readers, plain_item, item_by_kind, parse_prefix, parse_expr, operand}
use Rattle.ast.specs.declared.NodeId.{NodeId}
use Rattle.parser_state.specs.Represents.{Code, Kept, going}
use Rattle.parser_state.specs.Refines.{stack_unchanged, RefinesBy, RefusesBy, no_docs_wait, Rules, deeper}
use Rattle.parser_state.proofs.Steps.{either, at-kind, refused, then, enough, current_represents, if_kind-no}
use Rattle.parser_state.proofs.Docs.{docs-none, require_then}
use Rattle.parser_state.proofs.Rounds.{AgainBy, weight, if_kind_is_no, round_out, round_start}
use Rattle.parser_operators.specs.Tests.{begins_expr, operand_class, operand_of}
use Rattle.parser_operators.proofs.Tables.{begins-expr, entry_past, entry_other, operand_class_lem}

-- ---- levels

module _ (rules : Rules) (levels : ℕ) where
  deeper-zero : levels ≡ 0 → ((deeper rules levels).prefix ≡ fail_expecting 10 0) × ((least : ℕ) → (deeper rules levels).expr least ≡ fail_expecting 10 0)
  unfolding readers
  deeper-zero e = subst (λ (n : ℕ). ((deeper rules n).prefix ≡ fail_expecting 10 0) × ((least : ℕ) → (deeper rules n).expr least ≡ fail_expecting 10 0)) (sym e) (refl, λ least. refl)

  deeper-suc : (levels ≡ 0 → ⊥) → ((deeper rules levels).prefix ≡ parse_prefix (deeper rules (levels - 1))) × ((least : ℕ) → (deeper rules levels).expr least ≡ parse_expr (deeper rules (levels - 1)) rules.power rules.script least)
  unfolding readers
  deeper-suc f =
      let e : suc (levels - 1) ≡ levels = omega arith in
      subst (λ (n : ℕ). ((deeper rules n).prefix ≡ parse_prefix (deeper rules (levels - 1))) × ((least : ℕ) → (deeper rules n).expr least ≡ parse_expr (deeper rules (levels - 1)) rules.power rules.script least)) e (refl, λ least. refl)

module _ {kept : Kept} {tokens : List ℕ} {Q : NodeId → Type 0} {d r' l' : ℕ} {s s' : Code} (rules : Rules) (levels : ℕ) where
  pub prefix_deep : levels ≡ 0 → RefusesBy kept tokens 10 0 s s' → RefinesBy kept tokens 0 0 (deeper rules levels).prefix Q stack_unchanged d r' l' s s'
  prefix_deep e p = rw (deeper-zero rules levels e).0 (refused p)

  pub expr_deep : (least : ℕ) → levels ≡ 0 → RefusesBy kept tokens 10 0 s s' → RefinesBy kept tokens 0 0 ((deeper rules levels).expr least) Q stack_unchanged d r' l' s s'
  expr_deep least e p = rw ((deeper-zero rules levels e).1 least) (refused p)

module _ {kept : Kept} {tokens : List ℕ} {Q : NodeId → Type 0} {r l d r' l' : ℕ} {s s' : Code} (rules : Rules) (levels : ℕ) where
  pub prefix_by : (levels ≡ 0 → ⊥) → RefinesBy kept tokens r l (parse_prefix (deeper rules (levels - 1))) Q stack_unchanged d r' l' s s' → RefinesBy kept tokens r l (deeper rules levels).prefix Q stack_unchanged d r' l' s s'
  prefix_by f p = rw (deeper-suc rules levels f).0 p

  pub expr_by : (least : ℕ) → (levels ≡ 0 → ⊥) → RefinesBy kept tokens r l (parse_expr (deeper rules (levels - 1)) rules.power rules.script least) Q stack_unchanged d r' l' s s' → RefinesBy kept tokens r l ((deeper rules levels).expr least) Q stack_unchanged d r' l' s s'
  expr_by least f p = rw ((deeper-suc rules levels f).1 least) p

-- ---- items

-- no doc is read
no-doc : {kept : Kept} {tokens : List ℕ} {s : Code} → (s.parser.cur.kind ≡ k_doc → ⊥) → RefinesBy kept tokens 0 0 collect_docs (λ n. n ≡ 0) stack_unchanged 0 0 0 s s
unfolding collect_docs pure
no-doc f = round_out round_start (λ stack. refl) (λ R L stack n m e h. if_kind_is_no _ _ _ m (rw (current_represents h.related) (ne_eqb _ k_doc f)))

-- an item that begins with none of the four words
module _ {kept : Kept} {tokens : List ℕ} {Q : NodeId → Type 0} {s s' : Code} (d : Readers) where
  pub plain_item_by : {k : ℕ} → s.parser.cur.kind ≡ k → (k ≡ k_import → ⊥) → (k ≡ k_let → ⊥) → (k ≡ k_fn → ⊥) → (k ≡ k_extern → ⊥)
      → RefinesBy kept tokens 0 0 (no_docs_wait >> plain_item d) Q stack_unchanged 1 0 8 s s' → RefinesBy kept tokens 0 0 (by_kind (item_by_kind d)) Q stack_unchanged 1 0 8 s s'
  plain_item_by {k} e a b c x p = at-kind _ k (entry_past _ _ _ a (entry_past _ _ _ b (entry_past _ _ _ c (entry_past _ _ _ x (entry_other _ _ (require_then _ p)))))) e

-- an item that is an expression
pub prefix-expr : {kept : Kept} {tokens : List ℕ} {Q : NodeId → Type 0} {s s' : Code} (d : Readers) → begins_expr s.parser ≡ true → RefinesBy kept tokens 0 0 (d.expr 0) Q stack_unchanged 1 0 8 s s' → RefinesBy kept tokens 0 0 (parse_prefix d) Q stack_unchanged 1 0 8 s s'
unfolding parse_prefix
prefix-expr {kept} {tokens} {Q} {s} {s'} d e p =
    let plain = begins-expr s.parser e in
    let item : RefinesBy kept tokens 0 0 (by_kind (item_by_kind d)) Q stack_unchanged 1 0 8 s s' =
    plain_item_by d refl (plain.1 k_import (omega arith) (omega arith)) (plain.1 k_let (omega arith) (omega arith)) (plain.1 k_fn (omega arith) (omega arith)) (plain.1 k_extern (omega arith) (omega arith))
    (enough (then (docs-none tokens s plain.0) (if_kind-no _ _ p (plain.1 k_match (omega arith) (omega arith)))) tt) in
    enough (then (no-doc (plain.1 k_doc (omega arith) (omega arith))) item) tt

-- ---- tables

module _ {kept : Kept} (d : Readers) {tokens : List ℕ} {Q : NodeId → Type 0} {r l k r' l' n : ℕ} {s s' : Code} where
  pub operand_by : RefinesBy kept tokens r l (operand_of d n) Q stack_unchanged k r' l' s s' → n ≡ operand_class s.parser.cur.kind → RefinesBy kept tokens r l (operand d) Q stack_unchanged k r' l' s s'
  unfolding operand
  operand_by p e = at-kind _ s.parser.cur.kind (rw (operand_class_lem d s.parser.cur.kind) (subst (λ (c : ℕ). RefinesBy kept tokens r l (operand_of d c) Q stack_unchanged k r' l' s s') e p)) refl

-- what begins an operand is no Eof
pub operand-kind : (k : ℕ) {n : ℕ} → n ≡ operand_class k → (n ≡ 0 → ⊥) → 1 < k
unfolding operand_class choose
operand-kind zero e h = absurd (h e)
operand-kind (suc zero) e h = absurd (h e)
operand-kind (suc (suc k)) e h = omega arith

-- an infix sign is no Eof
pub infix_kind : (k : ℕ) {left : ℕ} → some left ≡ stage_one k → 1 < k
unfolding stage_one choose
infix_kind zero {left} e = let f : some left ≡ none = e in absurd (cc)
infix_kind (suc zero) {left} e = let f : some left ≡ none = e in absurd (cc)
infix_kind (suc (suc k)) e = omega arith

-- ---- loops

pub out_at : {A : Type 0} {a x : A} {m : State} (f : A → Rule (ControlFlow A)) → a ≡ x → f x m ≡ ok (break x) m → f a m ≡ ok (break a) m
out_at {A} {m = m} f e h = subst (λ (y : A). f y m ≡ ok (break y) m) (sym e) h

pub again_lighter : {kept : Kept} {A : Type 0} {tokens : List ℕ} {f : A → Rule (ControlFlow A)} {grow : A → List ℕ → List ℕ} {Q Q' : A → Type 0} {s s' : Code} → going s ≡ true → AgainBy kept tokens f grow Q Q' s s' → weight tokens s' < weight tokens s
again_lighter {tokens = tokens} {s = s} {s'} g p = either (going s') (λ g'. rw (g, g') (omega (arith, p.progress g'))) (λ g'. rw (g, g') (omega (arith, p.monotone)))
