-- The laws of the loops over an expression.
use mathlib.Core.Path.{◌≡◌, refl, sym, ap, subst, ◌∙◌}
use mathlib.Core.Bool.{Bool, true, false}
use mathlib.Core.Option.{Option, none, some}
use mathlib.Core.List.{List}
use Prim.Native.Nat.{ℕ}
use lib.Dec.{eqb, ltb}
use borrow.Author.Tests.{eqb-true, not-true, not-false}
use Rattle.lex.specs.Kind.{k_dot, k_brace_left, k_as}
use Rattle.lex.specs.declared.tok.Token.{Token}
use Rattle.tokens.specs.Table.{token_of}
use Rattle.rules.specs.Tree.{State, ok}
use Rattle.rules.specs.Combinators.{Rule, Readers, ◌>>=◌, pure, cur, current, ControlFlow, break}
use Rattle.rules.specs.Rules.{stage_one, breaks_off, callable, call, call_step, postfix_step, binary, sign_step, infix_step}
use Rattle.ast.specs.declared.NodeId.{NodeId}
use Rattle.parser_state.specs.Represents.{Reading, Code, Kept, is_going, Represents}
use Rattle.parser_state.specs.Refines.{Ends, stack_unchanged, RefinesBy}
use Rattle.parser_state.proofs.Steps.{either, true≢false, current_represents, represents_going, seq, looks, if_kind-yes, if_kind-no}
use Rattle.parser_state.proofs.Rounds.{if_kind_is_yes, if_kind_is_no}
use Rattle.parser_operators.specs.Tests.{call_at, postfix_follows, postfix_by, infix_follows, infix_by, sign_follows}
use Rattle.parser_operators.proofs.Calls.{call-at}

-- ---- a postfix

postfix_when : (g dot brace calls : Bool) → postfix_by g dot brace calls ≡ true → dot ≡ false → (g ≡ true) × (brace ≡ true) × (calls ≡ true)
unfolding postfix_by
postfix_when false dot brace calls p q = absurd (true≢false p refl)
postfix_when true true brace calls p q = absurd (true≢false refl q)
postfix_when true false false calls p q = absurd (true≢false p refl)
postfix_when true false true calls p q = (refl, refl, p)

postfix-going : (g dot brace calls : Bool) → postfix_by g dot brace calls ≡ true → g ≡ true
unfolding postfix_by
postfix-going false dot brace calls p = p
postfix-going true dot brace calls p = refl

postfix_not : (dot brace calls : Bool) → postfix_by true dot brace calls ≡ false → (dot ≡ false) × (brace ≡ true → calls ≡ false)
unfolding postfix_by
postfix_not true brace calls p = absurd (true≢false refl p)
postfix_not false false calls p = (refl, λ e. absurd (true≢false e refl))
postfix_not false true calls p = (refl, λ e. p)

module _ (nodes : List ℕ) (p : Reading) (x : NodeId) where
  pub postfix_goes : postfix_follows nodes p x ≡ true → is_going p.error ≡ true
  postfix_goes e = postfix-going (is_going p.error) (eqb p.cur.kind k_dot) (eqb p.cur.kind k_brace_left) (call_at nodes p.used.nodes x) e

  pub postfix_brace : postfix_follows nodes p x ≡ true → (p.cur.kind ≡ k_dot → ⊥) → p.cur.kind ≡ k_brace_left
  postfix_brace e f = eqb-true _ _ (postfix_when (is_going p.error) (eqb p.cur.kind k_dot) (eqb p.cur.kind k_brace_left) (call_at nodes p.used.nodes x) e (borrow.Author.Tests.ne_eqb _ _ f)).1

  postfix_calls : postfix_follows nodes p x ≡ true → (p.cur.kind ≡ k_dot → ⊥) → call_at nodes p.used.nodes x ≡ true
  postfix_calls e f = (postfix_when (is_going p.error) (eqb p.cur.kind k_dot) (eqb p.cur.kind k_brace_left) (call_at nodes p.used.nodes x) e (borrow.Author.Tests.ne_eqb _ _ f)).2

module _ {kept : Kept} (d : Readers) {tokens : List ℕ} {Q : ControlFlow NodeId → Type 0} {r l k r' l' : ℕ} {s s' : Code} (x : NodeId) where
  callable_then : call_at s.nodes s.parser.used.nodes x ≡ true → RefinesBy kept tokens r l (call d x) Q stack_unchanged k r' l' s s' → RefinesBy kept tokens r l (callable x >>= call_step d x) Q stack_unchanged k r' l' s s'
  unfolding callable ◌>>=◌
  callable_then e p = record {
    sticky = p.sticky;
    monotone = p.monotone;
    same = p.same;
    progress = p.progress;
    simulates = λ R L stack m h. subst (λ (b : Bool). Ends tokens Q stack_unchanged s' R L r' l' stack (call_step d x b m)) (sym (sym (call-at x h) ∙ e)) (p.simulates R L stack m h);
  }

  pub post_call : postfix_follows s.nodes s.parser x ≡ true → (s.parser.cur.kind ≡ k_dot → ⊥) → RefinesBy kept tokens r l (call d x) Q stack_unchanged k r' l' s s' → RefinesBy kept tokens r l (postfix_step d x) Q stack_unchanged k r' l' s s'
  post_call e f p = if_kind-no _ _ (if_kind-yes _ _ (callable_then (postfix_calls s.nodes s.parser x e f) p) (postfix_brace s.nodes s.parser x e f)) f

module _ (d : Readers) {tokens : List ℕ} {s : Code} (x : NodeId) where
  pub post_out : postfix_follows s.nodes s.parser x ≡ false → (R L : ℕ) (stack : List ℕ) (m : State) → Represents tokens s R L stack m → postfix_step d x m ≡ ok (break x) m
  unfolding callable ◌>>=◌ pure
  post_out e R L stack m h =
      let cur : current m.left ≡ token_of s.parser.cur = current_represents h.related in
      let w = postfix_not (eqb s.parser.cur.kind k_dot) (eqb s.parser.cur.kind k_brace_left) (call_at s.nodes s.parser.used.nodes x) (subst (λ (b : Bool). postfix_by b (eqb s.parser.cur.kind k_dot) (eqb s.parser.cur.kind k_brace_left) (call_at s.nodes s.parser.used.nodes x) ≡ false) (represents_going h) e) in
      if_kind_is_no k_dot _ _ m (rw cur w.0) ∙ either (eqb s.parser.cur.kind k_brace_left)
      (λ g. if_kind_is_yes k_brace_left _ _ m (rw cur g) ∙ ap (λ (b : Bool). call_step d x b m) (sym (call-at x h) ∙ w.1 g))
      (λ g. if_kind_is_no k_brace_left _ _ m (rw cur g))

-- ---- an infix

-- a step at an infix sign, by what is tested of it
abbrev sign_by : Readers → NodeId → ℕ → Bool → Option ℕ → Rule (ControlFlow NodeId)
sign_by d x least b none = pure (break x)
sign_by d x least b (some p) = elim b [ true ↦ pure (break x) | false ↦ elim (ltb p least) [ true ↦ pure (break x) | false ↦ binary d x p ] ]

sign_by_lem : (d : Readers) (script : List ℕ) (least : ℕ) (x : NodeId) (t : Token) → sign_step d stage_one script least x t ≡ sign_by d x least (breaks_off script t) (stage_one t.kind)
sign_by_lem d script least x t = go (stage_one t.kind)
  where
    go : (o : Option ℕ) → elim o as (λ _. Rule (ControlFlow NodeId)) [ none ↦ pure (break x) | some p ↦ elim (breaks_off script t) [ true ↦ pure (break x) | false ↦ elim (ltb p least) [ true ↦ pure (break x) | false ↦ binary d x p ] ] ] ≡ sign_by d x least (breaks_off script t) o
    go none = refl
    go (some p) = refl

sign_when : (d : Readers) (x : NodeId) (least : ℕ) (b : Bool) (p : ℕ) → sign_follows b least (some p) ≡ true → sign_by d x least b (some p) ≡ binary d x p
unfolding sign_follows
sign_when d x least true p e = absurd (true≢false e refl)
sign_when d x least false p e = ap (λ (c : Bool). elim c as (λ _. Rule (ControlFlow NodeId)) [ true ↦ pure (break x) | false ↦ binary d x p ]) (not-true (ltb p least) e)

sign_not : (d : Readers) (x : NodeId) (least : ℕ) (b : Bool) (o : Option ℕ) → sign_follows b least o ≡ false → sign_by d x least b o ≡ pure (break x)
unfolding sign_follows
sign_not d x least b none e = refl
sign_not d x least true (some p) e = refl
sign_not d x least false (some p) e = ap (λ (c : Bool). elim c as (λ _. Rule (ControlFlow NodeId)) [ true ↦ pure (break x) | false ↦ binary d x p ]) (not-false (ltb p least) e)

infix_going : (g c sign : Bool) → infix_by g c sign ≡ true → g ≡ true
unfolding infix_by
infix_going false c sign p = p
infix_going true c sign p = refl

sign_of : (g c sign : Bool) → infix_by g c sign ≡ true → c ≡ false → sign ≡ true
unfolding infix_by
sign_of false c sign p q = absurd (true≢false p refl)
sign_of true true sign p q = absurd (true≢false refl q)
sign_of true false sign p q = p

infix_not : (c sign : Bool) → infix_by true c sign ≡ false → (c ≡ false) × (sign ≡ false)
unfolding infix_by
infix_not true sign p = absurd (true≢false refl p)
infix_not false sign p = (refl, p)

module _ (script : List ℕ) (p : Reading) (least : ℕ) where
  pub infix_on : infix_follows script p least ≡ true → is_going p.error ≡ true
  infix_on e = infix_going (is_going p.error) (eqb p.cur.kind k_as) (sign_follows (breaks_off script (token_of p.cur)) least (stage_one p.cur.kind)) e

  sign_follows_lem : infix_follows script p least ≡ true → (p.cur.kind ≡ k_as → ⊥) → sign_follows (breaks_off script (token_of p.cur)) least (stage_one p.cur.kind) ≡ true
  sign_follows_lem e f = sign_of (is_going p.error) (eqb p.cur.kind k_as) (sign_follows (breaks_off script (token_of p.cur)) least (stage_one p.cur.kind)) e (borrow.Author.Tests.ne_eqb _ _ f)

  -- a sign that goes on has a power
  no_sign : infix_follows script p least ≡ true → (p.cur.kind ≡ k_as → ⊥) → stage_one p.cur.kind ≡ none → ⊥
  unfolding sign_follows
  no_sign e f n = true≢false (subst (λ (o : Option ℕ). sign_follows (breaks_off script (token_of p.cur)) least o ≡ true) n (sign_follows_lem e f)) refl

  -- so what goes on without one is a cast
  pub is_cast : infix_follows script p least ≡ true → none ≡ stage_one p.cur.kind → p.cur.kind ≡ k_as
  is_cast e n = either (eqb p.cur.kind k_as) (λ b. eqb-true _ _ b) (λ b. absurd (no_sign e (borrow.Author.Tests.eqb-false _ _ b) (sym n)))

module _ {kept : Kept} (d : Readers) (script : List ℕ) {tokens : List ℕ} {Q : ControlFlow NodeId → Type 0} {s s' : Code} (least : ℕ) (x : NodeId) (o : ℕ) where
  pub infix_sign : infix_follows script s.parser least ≡ true → (s.parser.cur.kind ≡ k_as → ⊥) → stage_one s.parser.cur.kind ≡ some o → RefinesBy kept tokens 0 0 (binary d x o) Q stack_unchanged 1 0 0 s s'
      → RefinesBy kept tokens 0 0 (infix_step d stage_one script least x) Q stack_unchanged 1 0 0 s s'
  infix_sign e f w p =
      let same : sign_step d stage_one script least x (token_of s.parser.cur) ≡ binary d x o = sign_by_lem d script least x (token_of s.parser.cur) ∙ ap (sign_by d x least (breaks_off script (token_of s.parser.cur))) w
      ∙ sign_when d x least (breaks_off script (token_of s.parser.cur)) o (subst (λ (q : Option ℕ). sign_follows (breaks_off script (token_of s.parser.cur)) least q ≡ true) w (sign_follows_lem script s.parser least e f)) in
      let q : RefinesBy kept tokens 0 0 (sign_step d stage_one script least x (token_of s.parser.cur)) Q stack_unchanged 1 0 0 s s' = subst (λ (y : Rule (ControlFlow NodeId)). RefinesBy kept tokens 0 0 y Q stack_unchanged 1 0 0 s s') (sym same) p in
      if_kind-no _ _ (seq (sign_step d stage_one script least x) looks q) f

module _ (d : Readers) (script : List ℕ) {tokens : List ℕ} {s : Code} (least : ℕ) (x : NodeId) where
  pub infix_out : infix_follows script s.parser least ≡ false → (R L : ℕ) (stack : List ℕ) (m : State) → Represents tokens s R L stack m → infix_step d stage_one script least x m ≡ ok (break x) m
  unfolding ◌>>=◌ cur pure
  infix_out e R L stack m h =
      let c : current m.left ≡ token_of s.parser.cur = current_represents h.related in
      let w = infix_not (eqb s.parser.cur.kind k_as) (sign_follows (breaks_off script (token_of s.parser.cur)) least (stage_one s.parser.cur.kind)) (subst (λ (b : Bool). infix_by b (eqb s.parser.cur.kind k_as) (sign_follows (breaks_off script (token_of s.parser.cur)) least (stage_one s.parser.cur.kind)) ≡ false) (represents_going h) e) in
      if_kind_is_no k_as _ _ m (rw c w.0) ∙ ap (λ (t : Token). sign_step d stage_one script least x t m) c
      ∙ ap (λ (f : Rule (ControlFlow NodeId)). f m) (sign_by_lem d script least x (token_of s.parser.cur) ∙ sign_not d x least (breaks_off script (token_of s.parser.cur)) (stage_one s.parser.cur.kind) w.1) ∙ stops
    where
      stops : pure (break x) m ≡ ok (break x) m
      stops = refl
