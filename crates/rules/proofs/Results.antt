-- How rules end: a calculus of what holds after `ok` and after `err`, one lemma for each way to put
-- rules together.
use mathlib.Core.Path.{◌≡◌, refl, sym, ap, ◌∙◌, subst}
use mathlib.Core.Bool.{Bool, true, false}
use mathlib.Core.List.{List, [], ◌∷◌}
use Prim.Native.Nat.{ℕ, zero, suc, ◌≤◌, ◌<◌}
use lib.Dec.{eqb, eqb→eq, eqb_refl, T}
use lib.ListN.{length}
use native.Mathlib.Omega.{arith}
use Rattle.lex.specs.Kind.{k_eof}
use Rattle.lex.specs.declared.diagnostic.Diagnostic.{Diagnostic}
use Rattle.lex.specs.declared.tok.Token.{Token}
use Rattle.rules.specs.Tree.{State, Result, ok, err}
use Rattle.rules.specs.Combinators.{Rule, ◌>>=◌, ◌>>◌, pure, current, cur, by_kind, if_kind, choose, fail_expecting, reject_kind, ControlFlow, continue, break, iterate, loop}
use Rattle.rules.specs.Rules.{require_no_docs}

pub not_kind : (j k : ℕ) → eqb j k ≡ false → ¬ (j ≡ k)
not_kind j k e p = subst T (sym (ap (λ (x : ℕ). eqb x k) p) ∙ e) (eqb_refl k)

-- `P` where it ends well, `E` where it fails
pub data Ends {A : Type 0} (P : A → State → Type 0) (E : State → Type 0) : Result A → Type 0 where
  holds : {a : A} {s : State} → P a s → Ends P E (ok a s)
  fails : {e : Diagnostic} {s : State} → E s → Ends P E (err e s)

module _ {A : Type 0} where
  pub weaken_both : {P P' : A → State → Type 0} {E E' : State → Type 0} {r : Result A} → Ends P E r → ((a : A) (s : State) → P a s → P' a s) → ((s : State) → E s → E' s) → Ends P' E' r
  weaken_both (holds {a} {s} p) h k = holds (h a s p)
  weaken_both (fails {s} q) h k = fails (k s q)

  pub weaken : {P P' : A → State → Type 0} {E : State → Type 0} {r : Result A} → Ends P E r → ((a : A) (s : State) → P a s → P' a s) → Ends P' E r
  weaken h k = weaken_both h k (λ s q. q)

  -- both of two things that are known of one result
  pub both : {P P' : A → State → Type 0} {E E' : State → Type 0} {r : Result A} → Ends P E r → Ends P' E' r → Ends (λ a s. P a s × P' a s) (λ s. E s × E' s) r
  both (holds p) (holds p') = holds (p, p')
  both (fails q) (fails q') = fails (q, q')

  module _ {P : A → State → Type 0} {E : State → Type 0} where
    pub ended-ok : (a : A) (s : State) → P a s → Ends P E (ok a s)
    ended-ok a s p = holds p

    pub if_kind_else : (k : ℕ) (x y : Rule A) (s : State) → ((current s.left).kind ≡ k → Ends P E (x s)) → (eqb (current s.left).kind k ≡ false → Ends P E (y s)) → Ends P E (if_kind k x y s)
    unfolding if_kind by_kind
    if_kind_else k x y s f g = go (eqb (current s.left).kind k) refl
      where
        go : (b : Bool) → eqb (current s.left).kind k ≡ b → Ends P E ((elim b as (λ b'. Rule A) [ true ↦ x | false ↦ y ]) s)
        go true e = f (eqb→eq _ _ (rw e tt))
        go false e = g e

    pub if_kind-ok : (k : ℕ) (x y : Rule A) (s : State) → ((current s.left).kind ≡ k → Ends P E (x s)) → Ends P E (y s) → Ends P E (if_kind k x y s)
    if_kind-ok k x y s f g = if_kind_else k x y s f (λ e. g)

    -- a table by kinds, one entry after the other
    pub table_ok : (xs : List (ℕ × Rule A)) (other : Rule A) (s : State) → Ends P E (choose xs other (current s.left).kind s) → Ends P E (by_kind (choose xs other) s)
    unfolding by_kind
    table_ok xs other s h = h

    pub entry_else : (k : ℕ) (x : Rule A) (xs : List (ℕ × Rule A)) (other : Rule A) (s : State) → ((current s.left).kind ≡ k → Ends P E (x s)) → (eqb (current s.left).kind k ≡ false → Ends P E (choose xs other (current s.left).kind s))
        → Ends P E (choose ((k, x) ∷ xs) other (current s.left).kind s)
    unfolding choose
    entry_else k x xs other s f g = go (eqb (current s.left).kind k) refl
      where
        go : (b : Bool) → eqb (current s.left).kind k ≡ b → Ends P E ((elim b as (λ b'. Rule A) [ true ↦ x | false ↦ choose xs other (current s.left).kind ]) s)
        go true e = f (eqb→eq _ _ (rw e tt))
        go false e = g e

    pub entry-ok : (k : ℕ) (x : Rule A) (xs : List (ℕ × Rule A)) (other : Rule A) (s : State) → ((current s.left).kind ≡ k → Ends P E (x s)) → Ends P E (choose xs other (current s.left).kind s)
        → Ends P E (choose ((k, x) ∷ xs) other (current s.left).kind s)
    entry-ok k x xs other s f g = entry_else k x xs other s f (λ e. g)

    pub other_ok : (other : Rule A) (k : ℕ) (s : State) → Ends P E (other s) → Ends P E (choose [] other k s)
    unfolding choose
    other_ok other k s h = h

    pub pure-ok : (a : A) (s : State) → P a s → Ends P E (pure a s)
    unfolding pure
    pure-ok a s p = holds p

    pub cur-ok : (f : Token → Rule A) (s : State) → Ends P E (f (current s.left) s) → Ends P E ((cur >>= f) s)
    unfolding ◌>>=◌ cur
    cur-ok f s h = h

    pub fail-ok : (n wanted : ℕ) (s : State) → E s → Ends P E (fail_expecting n wanted s)
    unfolding fail_expecting
    fail-ok n wanted s q = fails q

module _ {A B : Type 0} {P : A → State → Type 0} {R : B → State → Type 0} {E : State → Type 0} where
  pub bind_ok : (x : Rule A) (f : A → Rule B) (s : State) → Ends P E (x s) → ((a : A) (s' : State) → P a s' → Ends R E (f a s')) → Ends R E ((x >>= f) s)
  unfolding ◌>>=◌
  bind_ok x f s h k = go (x s) h
    where
      go : (r : Result A) → Ends P E r → Ends R E (elim r as (λ r'. Result B) [ ok a s₁ ↦ f a s₁ | err e s₁ ↦ err e s₁ ])
      go r (holds {a} {s = s₁} p) = k a s₁ p
      go r (fails q) = fails q

  pub then_ok : (x : Rule A) (y : Rule B) (s : State) → Ends P E (x s) → ((a : A) (s' : State) → P a s' → Ends R E (y s')) → Ends R E ((x >> y) s)
  unfolding ◌>>◌
  then_ok x y s h k = go (x s) h
    where
      go : (r : Result A) → Ends P E r → Ends R E (elim r as (λ r'. Result B) [ ok a s₁ ↦ y s₁ | err e s₁ ↦ err e s₁ ])
      go r (holds {a} {s = s₁} p) = k a s₁ p
      go r (fails q) = fails q

pub reject_kind-ok : {P : ℕ → State → Type 0} {E : State → Type 0} (k n : ℕ) (s : State) → P 0 s → E s → Ends P E (reject_kind k n s)
unfolding reject_kind
reject_kind-ok k n s p q = if_kind-ok k _ _ s (λ e. fail-ok n 0 s q) (pure-ok 0 s p)

-- where docs wait it fails, and changes nothing
pub require_no_docs-ok : {A : Type 0} {P : A → State → Type 0} {E : State → Type 0} (x : Rule A) (s : State) → (s.docs ≡ [] → Ends P E (x s)) → (¬ (s.docs ≡ []) → E s) → Ends P E (require_no_docs x s)
unfolding require_no_docs
require_no_docs-ok {A} {P} {E} x s h k = by_docs_lem _ _ s.docs h (λ d ds e. if_kind-ok k_eof _ _ s (λ z. fails (k (waits d ds e))) (fails (k (waits d ds e))))
  where
    waits : (d : Token) (ds : List Token) → s.docs ≡ d ∷ ds → ¬ (s.docs ≡ [])
    waits d ds e n = let z : ◌≡◌ {A = ℕ} 0 1 = cc in omega arith

    by_docs_lem : (r : Result A) (f : Token → List Token → Result A) (l : List Token) → (l ≡ [] → Ends P E r) → ((d : Token) (ds : List Token) → l ≡ d ∷ ds → Ends P E (f d ds)) → Ends P E (elim l as (λ l'. Result A) [ [] ↦ r | d ∷ ds ↦ f d ds ])
    by_docs_lem r f [] h k = h refl
    by_docs_lem r f (d ∷ ds) h k = k d ds refl

-- ---- loops

module _ {A : Type 0} where
  abbrev pub flow_value : ControlFlow A → A
  flow_value (continue a) = a
  flow_value (break a) = a

  -- what each turn keeps holds after the loop
  module _ {E : State → Type 0} (Inv : A → State → Type 0) (f : A → Rule (ControlFlow A)) (turn : (a : A) (s : State) → Inv a s → Ends (λ t s'. Inv (flow_value t) s') E (f a s)) where
    pub iterate-ok : (n : ℕ) (a : A) (s : State) → Inv a s → Ends Inv E (iterate n f a s)
    unfolding iterate
    iterate-ok zero a s i = holds i
    iterate-ok (suc n) a s i = go (iterate-ok n) (f a s) (turn a s i)
      where
        go : ((b : A) (s₁ : State) → Inv b s₁ → Ends Inv E (iterate n f b s₁)) → (r : Result (ControlFlow A)) → Ends (λ t s'. Inv (flow_value t) s') E r → Ends Inv E (elim r as (λ r'. Result A) [ ok t s₁ ↦ elim t as (λ t'. Result A) [ continue b ↦ iterate n f b s₁ | break b ↦ ok b s₁ ] | err e s₁ ↦ err e s₁ ])
        go ih r (holds {a = continue b} {s = s₁} p) = ih b s₁ p
        go ih r (holds {a = break b} p) = holds p
        go ih r (fails q) = fails q

    pub loop-ok : (a : A) (s : State) → Inv a s → Ends Inv E (loop f a s)
    unfolding loop
    loop-ok a s i = iterate-ok (length s.left) a s i

  -- where each turn that goes on lowers `measure`, the loop is left by a turn that breaks
  pub data Turned (measure : State → ℕ) (Inv Out : A → State → Type 0) (s : State) : ControlFlow A → State → Type 0 where
    again : {a : A} {s' : State} → Inv a s' → measure s' < measure s → Turned measure Inv Out s (continue a) s'
    out : {a : A} {s' : State} → Out a s' → Turned measure Inv Out s (break a) s'

  module _ {E : State → Type 0} (measure : State → ℕ) (Inv Out : A → State → Type 0) (positive : (a : A) (s : State) → Inv a s → 0 < measure s)
      (f : A → Rule (ControlFlow A)) (turn : (a : A) (s : State) → Inv a s → Ends (Turned measure Inv Out s) E (f a s)) where
    pub iterate_out : (n : ℕ) (a : A) (s : State) → Inv a s → measure s ≤ n → Ends Out E (iterate n f a s)
    unfolding iterate
    iterate_out zero a s i h = let p = positive a s i in absurd (omega arith)
    iterate_out (suc n) a s i h = go (iterate_out n) (f a s) (turn a s i)
      where
        go : ((b : A) (s₁ : State) → Inv b s₁ → measure s₁ ≤ n → Ends Out E (iterate n f b s₁)) → (r : Result (ControlFlow A)) → Ends (Turned measure Inv Out s) E r → Ends Out E (elim r as (λ r'. Result A) [ ok t s₁ ↦ elim t as (λ t'. Result A) [ continue b ↦ iterate n f b s₁ | break b ↦ ok b s₁ ] | err e s₁ ↦ err e s₁ ])
        go ih r (holds {s = s₁} (again {a = b} i₁ l)) = ih b s₁ i₁ (omega arith)
        go ih r (holds (out o)) = holds o
        go ih r (fails q) = fails q

    pub loop_out : (a : A) (s : State) → Inv a s → measure s ≤ length s.left → Ends Out E (loop f a s)
    unfolding loop
    loop_out a s i h = iterate_out (length s.left) a s i h
