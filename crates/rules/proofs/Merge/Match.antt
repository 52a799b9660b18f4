-- Two readings side by side: where the first ends well, so does the second, and both stay related;
-- one lemma for each way to put rules together.
use mathlib.Core.Path.{◌≡◌, refl, sym, subst, subst₂}
use mathlib.Core.Bool.{Bool, true, false}
use mathlib.Core.List.{List, [], ◌∷◌}
use Prim.Native.Nat.{ℕ, zero, suc, ◌<◌}
use lib.Dec.{eqb, eqb→eq}
use lib.ListN.{length}
use native.Mathlib.Omega.{arith}
use Rattle.lex.specs.declared.diagnostic.Diagnostic.{Diagnostic}
use Rattle.rules.specs.Tree.{Notes, State, Result, ok, err}
use Rattle.rules.specs.Combinators.{Rule, ◌>>=◌, ◌>>◌, pure, current, cur, struck, by_kind, if_kind, choose, fail_expecting, ControlFlow, continue, break, iterate, loop}
use Rattle.rules.specs.Rules.{strike_single}

-- nothing is said where the first fails, nor where it ends well with `D`, which leads it to fail
pub data Match {A : Type 0} (P : A → A → State → State → Type 0) (D : A → State → Type 0) : Result A → Result A → Type 0 where
  matched : {a b : A} {s t : State} → P a b s t → Match P D (ok a s) (ok b t)
  doomed : {a : A} {s : State} {r : Result A} → D a s → Match P D (ok a s) r
  failed : {e : Diagnostic} {s : State} {r : Result A} → Match P D (err e s) r

abbrev pub Never : {A : Type 0} → A → State → Type 0
Never a s = ⊥

abbrev pub Matches : {A : Type 0} → (A → A → State → State → Type 0) → Result A → Result A → Type 0
Matches P r q = Match P Never r q

module _ {A : Type 0} where
  pub weaken : {P P' : A → A → State → State → Type 0} {D : A → State → Type 0} {r q : Result A} → Match P D r q → ((a b : A) (s t : State) → P a b s t → P' a b s t) → Match P' D r q
  weaken (matched {a} {b} {s} {t} p) h = matched (h a b s t p)
  weaken (doomed d) h = doomed d
  weaken failed h = failed

  -- the first fails, whatever the second does
  pub data Fails : Result A → Type 0 where
    fails : {e : Diagnostic} {s : State} → Fails (err e s)

  module _ {P : A → A → State → State → Type 0} {D : A → State → Type 0} where
    pub by_failure : {r : Result A} (q : Result A) → Fails r → Match P D r q
    by_failure q fails = failed

    pub pure_match : (a b : A) (s t : State) → P a b s t → Match P D (pure a s) (pure b t)
    unfolding pure
    pure_match a b s t p = matched p

    pub fail_match : (n wanted : ℕ) (s : State) (r : Result A) → Match P D (fail_expecting n wanted s) r
    unfolding fail_expecting
    fail_match n wanted s r = failed

  pub matched_ok : {P : A → A → State → State → Type 0} {a b : A} {s t : State} → Matches P (ok a s) (ok b t) → P a b s t
  matched_ok (matched p) = p
  matched_ok (doomed d) = absurd d

  pub matches-nothing : {P : A → A → State → State → Type 0} {r q : Result A} → Matches P r q → ((a b : A) (s t : State) → P a b s t → ⊥) → Fails r
  matches-nothing (matched {a} {b} {s} {t} p) h = absurd (h a b s t p)
  matches-nothing (doomed d) h = absurd d
  matches-nothing failed h = fails

module _ {A B : Type 0} {P : A → A → State → State → Type 0} {D : A → State → Type 0} {R : B → B → State → State → Type 0} {E : B → State → Type 0} where
  pub bind_doom : (x y : Rule A) (f g : A → Rule B) (s t : State) → Match P D (x s) (y t) → ((a b : A) (s' t' : State) → P a b s' t' → Match R E (f a s') (g b t')) → ((a : A) (s' : State) (r : Result B) → D a s' → Match R E (f a s') r) → Match R E ((x >>= f) s) ((y >>= g) t)
  unfolding ◌>>=◌
  bind_doom x y f g s t h k l = go (x s) (y t) h
    where
      go : (r q : Result A) → Match P D r q → Match R E (elim r as (λ r'. Result B) [ ok a s₁ ↦ f a s₁ | err e s₁ ↦ err e s₁ ]) (elim q as (λ r'. Result B) [ ok a s₁ ↦ g a s₁ | err e s₁ ↦ err e s₁ ])
      go r q (matched {a} {b} {s = s₁} {t = t₁} p) = k a b s₁ t₁ p
      go r q (doomed {a} {s = s₁} d) = l a s₁ _ d
      go r q failed = failed

  pub then_doom : (x y : Rule A) (f g : Rule B) (s t : State) → Match P D (x s) (y t) → ((a b : A) (s' t' : State) → P a b s' t' → Match R E (f s') (g t')) → ((a : A) (s' : State) (r : Result B) → D a s' → Match R E (f s') r) → Match R E ((x >> f) s) ((y >> g) t)
  unfolding ◌>>◌
  then_doom x y f g s t h k l = go (x s) (y t) h
    where
      go : (r q : Result A) → Match P D r q → Match R E (elim r as (λ r'. Result B) [ ok a s₁ ↦ f s₁ | err e s₁ ↦ err e s₁ ]) (elim q as (λ r'. Result B) [ ok a s₁ ↦ g s₁ | err e s₁ ↦ err e s₁ ])
      go r q (matched {a} {b} {s = s₁} {t = t₁} p) = k a b s₁ t₁ p
      go r q (doomed {a} {s = s₁} d) = l a s₁ _ d
      go r q failed = failed

module _ {A B : Type 0} {P : A → A → State → State → Type 0} {R : B → B → State → State → Type 0} {E : B → State → Type 0} where
  pub bind_match : (x y : Rule A) (f g : A → Rule B) (s t : State) → Matches P (x s) (y t) → ((a b : A) (s' t' : State) → P a b s' t' → Match R E (f a s') (g b t')) → Match R E ((x >>= f) s) ((y >>= g) t)
  bind_match x y f g s t h k = bind_doom x y f g s t h k (λ a s' r d. absurd d)

  pub then_match : (x y : Rule A) (f g : Rule B) (s t : State) → Matches P (x s) (y t) → ((a b : A) (s' t' : State) → P a b s' t' → Match R E (f s') (g t')) → Match R E ((x >> f) s) ((y >> g) t)
  then_match x y f g s t h k = then_doom x y f g s t h k (λ a s' r d. absurd d)

module _ {A : Type 0} {P : A → A → State → State → Type 0} {D : A → State → Type 0} where
  -- both readings go the same way where the kinds of their tokens agree
  pub if_kind_match : (k : ℕ) (x y x' y' : Rule A) (s t : State) → (current t.left).kind ≡ (current s.left).kind → ((current s.left).kind ≡ k → Match P D (x s) (x' t)) → (eqb (current s.left).kind k ≡ false → Match P D (y s) (y' t))
      → Match P D (if_kind k x y s) (if_kind k x' y' t)
  unfolding if_kind by_kind
  if_kind_match k x y x' y' s t same f g = subst (λ (n : ℕ). Match P D ((elim (eqb (current s.left).kind k) as (λ b'. Rule A) [ true ↦ x | false ↦ y ]) s) ((elim (eqb n k) as (λ b'. Rule A) [ true ↦ x' | false ↦ y' ]) t)) (sym same) (go (eqb (current s.left).kind k) refl)
    where
      go : (b : Bool) → eqb (current s.left).kind k ≡ b → Match P D ((elim b as (λ b'. Rule A) [ true ↦ x | false ↦ y ]) s) ((elim b as (λ b'. Rule A) [ true ↦ x' | false ↦ y' ]) t)
      go true e = f (eqb→eq _ _ (rw e tt))
      go false e = g e

  -- neither kind is `k`
  pub if_kind_neither : (k : ℕ) (x y x' y' : Rule A) (s t : State) → eqb (current s.left).kind k ≡ false → eqb (current t.left).kind k ≡ false → Match P D (y s) (y' t) → Match P D (if_kind k x y s) (if_kind k x' y' t)
  unfolding if_kind by_kind
  if_kind_neither k x y x' y' s t e f h = subst₂ (λ (b c : Bool). Match P D ((elim b as (λ b'. Rule A) [ true ↦ x | false ↦ y ]) s) ((elim c as (λ b'. Rule A) [ true ↦ x' | false ↦ y' ]) t)) (sym e) (sym f) h

  -- whatever the second does
  pub if_kind_other : (k : ℕ) (x y : Rule A) (s : State) (r : Result A) → eqb (current s.left).kind k ≡ false → Match P D (y s) r → Match P D (if_kind k x y s) r
  unfolding if_kind by_kind
  if_kind_other k x y s r e h = subst (λ (b : Bool). Match P D ((elim b as (λ b'. Rule A) [ true ↦ x | false ↦ y ]) s) r) (sym e) h

  pub if_kind-here : (k : ℕ) (x y : Rule A) (s : State) (r : Result A) → eqb (current s.left).kind k ≡ true → Match P D (x s) r → Match P D (if_kind k x y s) r
  unfolding if_kind by_kind
  if_kind-here k x y s r e h = subst (λ (b : Bool). Match P D ((elim b as (λ b'. Rule A) [ true ↦ x | false ↦ y ]) s) r) (sym e) h

  pub cur_match : (f g : _ → Rule A) (s t : State) → Match P D (f (current s.left) s) (g (current t.left) t) → Match P D ((cur >>= f) s) ((cur >>= g) t)
  unfolding ◌>>=◌ cur
  cur_match f g s t h = h

-- tables by kinds
module _ {A : Type 0} (P : A → A → State → State → Type 0) (D : A → State → Type 0) where
  pub data Entries (s t : State) (k : ℕ) : List (ℕ × Rule A) → List (ℕ × Rule A) → Type 0 where
    entries[] : Entries s t k [] []
    entry : {j : ℕ} {x x' : Rule A} {xs xs' : List (ℕ × Rule A)} → (k ≡ j → Match P D (x s) (x' t)) → Entries s t k xs xs' → Entries s t k ((j, x) ∷ xs) ((j, x') ∷ xs')

  pub chosen : (s t : State) (k : ℕ) {xs xs' : List (ℕ × Rule A)} (other other' : Rule A) → Entries s t k xs xs' → Match P D (other s) (other' t) → Match P D (choose xs other k s) (choose xs' other' k t)
  unfolding choose
  chosen s t k other other' entries[] o = o
  chosen s t k other other' (entry {j} {x} {x'} {xs} {xs'} h hs) o = go (chosen s t k other other' hs o) (eqb k j) refl
    where
      go : Match P D (choose xs other k s) (choose xs' other' k t) → (b : Bool) → eqb k j ≡ b → Match P D ((elim b as (λ b'. Rule A) [ true ↦ x | false ↦ choose xs other k ]) s) ((elim b as (λ b'. Rule A) [ true ↦ x' | false ↦ choose xs' other' k ]) t)
      go others true e = h (eqb→eq _ _ (rw e tt))
      go others false e = others

  pub table_match : (xs xs' : List (ℕ × Rule A)) (other other' : Rule A) (s t : State) → (current t.left).kind ≡ (current s.left).kind → Entries s t (current s.left).kind xs xs' → Match P D (other s) (other' t) → Match P D (by_kind (choose xs other) s) (by_kind (choose xs' other') t)
  unfolding by_kind
  table_match xs xs' other other' s t same h o = subst (λ (n : ℕ). Match P D (choose xs other (current s.left).kind s) (choose xs' other' n t)) (sym same) (chosen s t _ other other' h o)

-- notes play no part
abbrev pub renoted : State → Notes → State
renoted s n = record { left = s.left; docs = s.docs; arena = s.arena; notes = n }

module _ {A : Type 0} {P : A → A → State → State → Type 0} (free : (a b : A) (s t : State) (m n : Notes) → P a b s t → P a b (renoted s m) (renoted t n)) where
  pub struck_match : (x y : Rule A) (s t : State) → Matches P (x s) (y t) → Matches P (struck x s) (struck y t)
  unfolding struck
  struck_match x y s t h = go _ _ (x s) (y t) h
    where
      go : (m n : State → Notes) (r q : Result A) → Matches P r q → Matches {A = A} P (elim r as (λ r'. Result A) [ ok a s₁ ↦ ok a (renoted s₁ (m s₁)) | err e s₁ ↦ err e s₁ ]) (elim q as (λ r'. Result A) [ ok a s₁ ↦ ok a (renoted s₁ (n s₁)) | err e s₁ ↦ err e s₁ ])
      go m n r q (matched p) = matched (free _ _ _ _ _ _ p)
      go m n r q (doomed d) = absurd d
      go m n r q failed = failed

module _ {P : List (List ℕ) → List (List ℕ) → State → State → Type 0} (free : (a b : List (List ℕ)) (s t : State) (m n : Notes) → P a b s t → P a b (renoted s m) (renoted t n)) where
  pub strike_single_match : (x y : Rule (List (List ℕ))) (s t : State) → Matches P (x s) (y t) → Matches P (strike_single x s) (strike_single y t)
  unfolding strike_single
  strike_single_match x y s t h = go _ _ (x s) (y t) h
    where
      by_length : (m n : State → Notes) (a b : List (List ℕ)) (s₁ t₁ : State) → P a b s₁ t₁ → (c d : Bool) → Matches {A = List (List ℕ)} P (elim c as (λ b'. Result (List (List ℕ))) [ true ↦ ok a (renoted s₁ (m s₁)) | false ↦ ok a s₁ ]) (elim d as (λ b'. Result (List (List ℕ))) [ true ↦ ok b (renoted t₁ (n t₁)) | false ↦ ok b t₁ ])
      by_length m n a b s₁ t₁ p true true = matched (free _ _ _ _ _ _ p)
      by_length m n a b s₁ t₁ p true false = matched (free _ _ _ _ _ t₁.notes p)
      by_length m n a b s₁ t₁ p false true = matched (free _ _ _ _ s₁.notes _ p)
      by_length m n a b s₁ t₁ p false false = matched p

      go : (m n : State → Notes) (r q : Result (List (List ℕ))) → Matches P r q
          → Matches {A = List (List ℕ)} P (elim r as (λ r'. Result (List (List ℕ))) [ ok a s₁ ↦ elim (eqb (length a) 1) as (λ b'. Result (List (List ℕ))) [ true ↦ ok a (renoted s₁ (m s₁)) | false ↦ ok a s₁ ] | err e s₁ ↦ err e s₁ ])
          (elim q as (λ r'. Result (List (List ℕ))) [ ok a s₁ ↦ elim (eqb (length a) 1) as (λ b'. Result (List (List ℕ))) [ true ↦ ok a (renoted s₁ (n s₁)) | false ↦ ok a s₁ ] | err e s₁ ↦ err e s₁ ])
      go m n r q (matched {a} {b} {s = s₁} {t = t₁} p) = by_length m n a b s₁ t₁ p (eqb (length a) 1) (eqb (length b) 1)
      go m n r q (doomed d) = absurd d
      go m n r q failed = failed

-- ---- loops

module _ {A : Type 0} where
  -- a turn of both loops: once more, with less left than `n`, or out
  pub data Turn (Inv : ℕ → A → A → State → State → Type 0) (Out : A → A → State → State → Type 0) (n : ℕ) : ControlFlow A → ControlFlow A → State → State → Type 0 where
    again : {a b : A} {s t : State} (m : ℕ) → m < n → Inv m a b s t → Turn Inv Out n (continue a) (continue b) s t
    out : {a b : A} {s t : State} → Out a b s t → Turn Inv Out n (break a) (break b) s t

  -- out, and led to fail
  pub data TurnDoomed (D : A → State → Type 0) : ControlFlow A → State → Type 0 where
    doomed_out : {a : A} {s : State} → D a s → TurnDoomed D (break a) s

  module _ (Inv : ℕ → A → A → State → State → Type 0) (Out : A → A → State → State → Type 0) (D : A → State → Type 0) (f g : A → Rule (ControlFlow A))
      (turn : (n : ℕ) (a b : A) (s t : State) → Inv n a b s t → Match (Turn Inv Out n) (TurnDoomed D) (f a s) (g b t)) where
    pub iterate_match : (i j n : ℕ) (a b : A) (s t : State) → Inv n a b s t → n < i → n < j → Match Out D (iterate i f a s) (iterate j g b t)
    unfolding iterate
    iterate_match zero j n a b s t v h k = absurd (omega arith)
    iterate_match (suc i) zero n a b s t v h k = absurd (omega arith)
    iterate_match (suc i) (suc j) n a b s t v h k = go (iterate_match i j) (f a s) (g b t) (turn n a b s t v)
      where
        go : ((m : ℕ) (c d : A) (s₁ t₁ : State) → Inv m c d s₁ t₁ → m < i → m < j → Match Out D (iterate i f c s₁) (iterate j g d t₁)) → (r q : Result (ControlFlow A)) → Match (Turn Inv Out n) (TurnDoomed D) r q
            → Match {A = A} Out D (elim r as (λ r'. Result A) [ ok c s₁ ↦ elim c as (λ t'. Result A) [ continue d ↦ iterate i f d s₁ | break d ↦ ok d s₁ ] | err e s₁ ↦ err e s₁ ])
            (elim q as (λ r'. Result A) [ ok c s₁ ↦ elim c as (λ t'. Result A) [ continue d ↦ iterate j g d s₁ | break d ↦ ok d s₁ ] | err e s₁ ↦ err e s₁ ])
        go ih r q (matched (again m l w)) = ih m _ _ _ _ w (omega arith) (omega arith)
        go ih r q (matched (out o)) = matched o
        go ih r q (doomed (doomed_out d)) = doomed d
        go ih r q failed = failed

    pub loop_match : (n : ℕ) (a b : A) (s t : State) → Inv n a b s t → n < length s.left → n < length t.left → Match Out D (loop f a s) (loop g b t)
    unfolding loop
    loop_match n a b s t v h k = iterate_match (length s.left) (length t.left) n a b s t v h k
