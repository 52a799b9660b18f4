-- A loop of the code over a value, as `loop` is. (`postfix`, `infixes`, `collect_docs` and the cases of a match are such loops; `Loops.antt` has the lists of members.)
use Rattle.std.proofs.Common.{◌≡◌, ℕ, zero, suc, ◌+◌, ◌-◌, ◌<◌, ◌≤◌, Bool, true, false, ◌&&◌, eqb, List, ◌++◌, length, replicate, sym, refl, ap, ◌∙◌, subst, arith, eqb-true}
use Rattle.std.specs.Prelude as Std
use Rattle.lex.specs.declared.diagnostic.Diagnostic.{Diagnostic}
use Rattle.lex.specs.Kind.{k_doc}
use Rattle.rules.specs.Tree.{State, Result, ok, err}
use Rattle.rules.specs.Combinators.{Rule, current, by_kind, if_kind, ControlFlow, continue, break, iterate, loop, struck}
use Rattle.parser_state.specs.Represents.{Failed, Reading, Code, Kept, AsLent, kept_of, loan, with_error, error_of, going, is_going, ahead, Represents, FailedAt}
use Rattle.parser_state.specs.Refines.{Ends, stack_unchanged, RefinesBy, doc_follows}
use Rattle.parser_state.proofs.Steps.{Passed, passed_on, represents_noted, either, true≢false, and_both, represents_going, represents_less, failed-fails, left-some}

-- after a turn
unfoldable pub after : {A : Type 0} → (A → Rule (ControlFlow A)) → ℕ → Result (ControlFlow A) → Result A
after f n (ok (continue b) m) = iterate n f b m
after f n (ok (break b) m) = ok b m
after f n (err e m) = err e m

pub iterate-suc : {A : Type 0} (f : A → Rule (ControlFlow A)) (n : ℕ) (a : A) (m : State) → iterate (suc n) f a m ≡ after f n (f a m)
unfolding iterate after
iterate-suc {A} f n a m = go (f a m)
  where
    go : (r : Result (ControlFlow A)) → elim r as (λ _. Result A) [ ok t s ↦ elim t [ continue b ↦ iterate n f b s | break b ↦ ok b s ] | err e s ↦ err e s ] ≡ after f n r
    go (ok (continue b) s) = refl
    go (ok (break b) s) = refl
    go (err e s) = refl

module _ {A : Type 0} (tokens : List ℕ) (f : A → Rule (ControlFlow A)) (grow : A → List ℕ → List ℕ) where
  -- the rule has come as far as the code, its value having the property Q
  pub record Live (Q : A → Type 0) (s : Code) (r l : ℕ) (stack : List ℕ) (res : Result A) : Type 0 where
    pub fuel : ℕ
    pub a : A
    pub m : State
    pub comes : res ≡ iterate fuel f a m
    pub fuelled : length m.left ≤ fuel
    pub value : Q a
    pub represents : Represents tokens s r l (grow a stack) m

  pub record Lost (s : Code) (r l : ℕ) (stack : List ℕ) (res : Result A) : Type 0 where
    pub e : Diagnostic
    pub m : State
    pub comes : res ≡ err e m
    pub failed_at : FailedAt tokens s e r l stack m

  pub data Way (Q : A → Type 0) (s : Code) (r l : ℕ) (stack : List ℕ) (res : Result A) : Type 0 where
    simulates : Live Q s r l stack res → Way Q s r l stack res
    lost : Lost s r l stack res → Way Q s r l stack res

  -- a turn that goes on
  abbrev pub Turned : (A → Type 0) → Code → ℕ → ℕ → List ℕ → Result (ControlFlow A) → Type 0
  Turned Q s' r l stack (ok (continue b) m) = Q b × Represents tokens s' r l (grow b stack) m
  Turned Q s' r l stack (ok (break b) m) = ⊥
  Turned Q s' r l stack (err e m) = FailedAt tokens s' e r l stack m

  -- a turn at which the loop is left
  abbrev pub Stopped : (A → Type 0) → Code → ℕ → ℕ → List ℕ → Result (ControlFlow A) → Type 0
  Stopped Q s' r l stack (ok (continue b) m) = ⊥
  Stopped Q s' r l stack (ok (break b) m) = Q b × Represents tokens s' r l (grow b stack) m
  Stopped Q s' r l stack (err e m) = FailedAt tokens s' e r l stack m

module _ {A : Type 0} (kept : Kept) (tokens : List ℕ) (f : A → Rule (ControlFlow A)) (grow : A → List ℕ → List ℕ) where
  -- the loop's invariant
  pub record LoopInvariantBy (a₀ : A) (Q : A → Type 0) (s₀ s : Code) : Type 0 where
    pub sticky : going s₀ ≡ false → s ≡ s₀
    pub same : kept_of kept (loan s) ≡ kept_of kept (loan s₀)
    pub monotone : length (ahead tokens s) ≤ length (ahead tokens s₀)
    pub way : (R L : ℕ) (stack : List ℕ) (m : State) → Represents tokens s₀ R L (grow a₀ stack) m → Way tokens f grow Q s R L stack (loop f a₀ m)

  -- a turn that goes on
  pub record AgainBy (Q Q' : A → Type 0) (s s' : Code) : Type 0 where
    pub same : kept_of kept (loan s') ≡ kept_of kept (loan s)
    pub monotone : length (ahead tokens s') ≤ length (ahead tokens s)
    pub progress : going s' ≡ true → length (ahead tokens s') + 1 ≤ length (ahead tokens s)
    pub flow_value : (R L : ℕ) (stack : List ℕ) (a : A) (m : State) → Q a → Represents tokens s R L (grow a stack) m → Turned tokens f grow Q' s' R L stack (f a m)

  -- a turn at which the loop is left
  pub record LastBy (Q Q' : A → Type 0) (s s' : Code) : Type 0 where
    pub sticky : going s ≡ false → s' ≡ s
    pub same : kept_of kept (loan s') ≡ kept_of kept (loan s)
    pub monotone : length (ahead tokens s') ≤ length (ahead tokens s)
    pub flow_value : (R L : ℕ) (stack : List ℕ) (a : A) (m : State) → Q a → Represents tokens s R L (grow a stack) m → Stopped tokens f grow Q' s' R L stack (f a m)

-- where the arrays stay as long
module _ {A : Type 0} (tokens : List ℕ) (f : A → Rule (ControlFlow A)) (grow : A → List ℕ → List ℕ) where
  abbrev pub LoopInvariant : (a₀ : A) (Q : A → Type 0) (s₀ s : Code) → Type 0
  LoopInvariant a₀ Q s₀ s = LoopInvariantBy AsLent tokens f grow a₀ Q s₀ s

  abbrev pub Again : (Q Q' : A → Type 0) (s s' : Code) → Type 0
  Again Q Q' s s' = AgainBy AsLent tokens f grow Q Q' s s'

  abbrev pub Last : (Q Q' : A → Type 0) (s s' : Code) → Type 0
  Last Q Q' s s' = LastBy AsLent tokens f grow Q Q' s s'

module _ {kept : Kept} {A : Type 0} {tokens : List ℕ} {f : A → Rule (ControlFlow A)} {grow : A → List ℕ → List ℕ} where
  pub round_start : {a₀ : A} {s : Code} → LoopInvariantBy kept tokens f grow a₀ (λ a. a ≡ a₀) s s
  unfolding loop
  round_start {a₀} = record {
    sticky = λ e. refl;
    same = refl;
    monotone = omega arith;
    way = λ R L stack m h. simulates (record { fuel = length m.left; a = a₀; m = m; comes = refl; fuelled = omega arith; value = refl; represents = h });
  }

  -- where what the code holds gives the property
  pub round_start_at : {a₀ : A} {Q : A → Type 0} {s : Code} → ((R L : ℕ) (stack : List ℕ) (m : State) → Represents tokens s R L (grow a₀ stack) m → Q a₀) → LoopInvariantBy kept tokens f grow a₀ Q s s
  unfolding loop
  round_start_at {a₀} q = record {
    sticky = λ e. refl;
    same = refl;
    monotone = omega arith;
    way = λ R L stack m h. simulates (record { fuel = length m.left; a = a₀; m = m; comes = refl; fuelled = omega arith; value = q R L stack m h; represents = h });
  }

  module _ {a₀ : A} {Q Q' : A → Type 0} {s₀ s s' : Code} where
    pub round_again : LoopInvariantBy kept tokens f grow a₀ Q s₀ s → going s ≡ true → AgainBy kept tokens f grow Q Q' s s' → LoopInvariantBy kept tokens f grow a₀ Q' s₀ s'
    unfolding after
    round_again i g p = record {
      sticky = λ e. absurd (true≢false g (ap going (i.sticky e) ∙ e));
      same = p.same ∙ i.same;
      monotone = omega (arith, i.monotone, p.monotone);
      way = λ R L stack m h. go R L stack (loop f a₀ m) (i.way R L stack m h);
    }
      where
        next : (R L : ℕ) (stack : List ℕ) (n : ℕ) (a : A) (m : State) (res : Result A) → Represents tokens s R L (grow a stack) m → length m.left ≤ suc n
            → (r : Result (ControlFlow A)) → res ≡ after f n r → Turned tokens f grow Q' s' R L stack r → Way tokens f grow Q' s' R L stack res
        next R L stack n a m res h u (ok (continue b) m₁) e d =
            let t : length m₁.left + 1 ≤ length m.left = omega (arith, p.progress (represents_going d.1), ap length d.1.related.left, ap length h.related.left) in
            simulates (record { fuel = n; a = b; m = m₁; comes = e; fuelled = omega arith; value = d.0; represents = d.1 })
        next R L stack n a m res h u (ok (break b) m₁) e d = absurd d
        next R L stack n a m res h u (err x m₁) e d = lost (record { e = x; m = m₁; comes = e; failed_at = d })

        one : (R L : ℕ) (stack : List ℕ) (n : ℕ) (a : A) (m : State) (res : Result A) → res ≡ iterate n f a m → length m.left ≤ n → Q a → Represents tokens s R L (grow a stack) m → Way tokens f grow Q' s' R L stack res
        one R L stack zero a m res e u v h = absurd (omega (arith, left-some h.related))
        one R L stack (suc n) a m res e u v h = next R L stack n a m res h u (f a m) (e ∙ iterate-suc f n a m) (p.flow_value R L stack a m v h)

        go : (R L : ℕ) (stack : List ℕ) (res : Result A) → Way tokens f grow Q s R L stack res → Way tokens f grow Q' s' R L stack res
        go R L stack res (simulates w) = one R L stack w.fuel w.a w.m res w.comes w.fuelled w.value w.represents
        go R L stack res (lost w) = absurd (true≢false g (failed-fails w.failed_at))

  module _ {a₀ : A} {Q Q' : A → Type 0} {s₀ s s' : Code} where
    pub round_last : LoopInvariantBy kept tokens f grow a₀ Q s₀ s → ((stack : List ℕ) → grow a₀ stack ≡ stack) → LastBy kept tokens f grow Q Q' s s' → RefinesBy kept tokens 0 0 (loop f a₀) Q' grow 0 0 0 s₀ s'
    unfolding after
    round_last i z p = record {
      sticky = λ e. let e₁ : s ≡ s₀ = i.sticky e in p.sticky (ap going e₁ ∙ e) ∙ e₁;
      same = p.same ∙ i.same;
      monotone = omega (arith, i.monotone, p.monotone);
      progress = λ e. omega (arith, i.monotone, p.monotone);
      simulates = λ R L stack m h. go R L stack (loop f a₀ m) (i.way R L stack m (rw (z stack) (represents_less _ _ (omega arith) (omega arith) h)));
    }
      where
        ends : (R L : ℕ) (stack : List ℕ) (n : ℕ) (r : Result (ControlFlow A)) → Stopped tokens f grow Q' s' R L stack r → Ends tokens Q' grow s' R L 0 0 stack (after f n r)
        ends R L stack n (ok (continue b) m) d = absurd d
        ends R L stack n (ok (break b) m) d = (d.0, represents_less _ _ (omega arith) (omega arith) d.1)
        ends R L stack n (err e m) d = d

        one : (R L : ℕ) (stack : List ℕ) (n : ℕ) (a : A) (m : State) (res : Result A) → res ≡ iterate n f a m → length m.left ≤ n → Q a → Represents tokens s R L (grow a stack) m → Ends tokens Q' grow s' R L 0 0 stack res
        one R L stack zero a m res e u v h = absurd (omega (arith, left-some h.related))
        one R L stack (suc n) a m res e u v h = subst (Ends tokens Q' grow s' R L 0 0 stack) (sym (e ∙ iterate-suc f n a m)) (ends R L stack n (f a m) (p.flow_value R L stack a m v h))

        go : (R L : ℕ) (stack : List ℕ) (res : Result A) → Way tokens f grow Q s R L stack res → Ends tokens Q' grow s' R L 0 0 stack res
        go R L stack res (simulates w) = one R L stack w.fuel w.a w.m res w.comes w.fuelled w.value w.represents
        go R L stack res (lost w) = subst (λ (t : Code). Ends tokens Q' grow t R L 0 0 stack res) (sym (p.sticky (failed-fails w.failed_at))) (subst (Ends tokens Q' grow s R L 0 0 stack) (sym w.comes) w.failed_at)

  -- a last turn that changes nothing
  module _ {a₀ : A} {Q : A → Type 0} {s₀ s : Code} where
    pub round_out : LoopInvariantBy kept tokens f grow a₀ Q s₀ s → ((stack : List ℕ) → grow a₀ stack ≡ stack)
        → ((R L : ℕ) (stack : List ℕ) (a : A) (m : State) → Q a → Represents tokens s R L stack m → f a m ≡ ok (break a) m) → RefinesBy kept tokens 0 0 (loop f a₀) Q grow 0 0 0 s₀ s
    round_out i z p = round_last i z (record {
      sticky = λ e. refl;
      same = refl;
      monotone = omega arith;
      flow_value = λ R L stack a m v h. subst (Stopped tokens f grow Q s R L stack) (sym (p R L (grow a stack) a m v h)) (v, h);
    })

  -- a turn that fails is the last
  module _ {a₀ : A} {Q Q' : A → Type 0} {s₀ s s' : Code} where
    pub again_stops : LoopInvariantBy kept tokens f grow a₀ Q s₀ s → going s ≡ true → AgainBy kept tokens f grow Q Q' s s' → going s' ≡ false → ((stack : List ℕ) → grow a₀ stack ≡ stack) → RefinesBy kept tokens 0 0 (loop f a₀) Q' grow 0 0 0 s₀ s'
    again_stops i g p g' z = round_out (round_again i g p) z (λ R L stack a m q h. absurd (true≢false (represents_going h) g'))

  -- and gives no value: its error is passed on
  module _ {B : Type 0} {Q Q' Q'' : A → Type 0} {s s' : Code} {e : Diagnostic} (res : Std.Result B Diagnostic) where
    pub again_fails : AgainBy kept tokens f grow Q Q' s s' → s'.parser.error ≡ Failed e → Passed e res → AgainBy kept tokens f grow Q Q'' s (with_error s' (error_of res))
    again_fails p t k = subst (AgainBy kept tokens f grow Q Q'' s) (passed_on res t k) (record {
      same = p.same;
      monotone = p.monotone;
      progress = p.progress;
      flow_value = λ R L stack a m q h. go R L stack (f a m) (p.flow_value R L stack a m q h);
    })
      where
        go : (R L : ℕ) (stack : List ℕ) (r : Result (ControlFlow A)) → Turned tokens f grow Q' s' R L stack r → Turned tokens f grow Q'' s' R L stack r
        go R L stack (ok (continue b) m) h = absurd (true≢false (represents_going h.1) (ap is_going t))
        go R L stack (ok (break b) m) h = h
        go R L stack (err e m) h = h

-- a step that fails ends the loop
module _ {kept : Kept} {A : Type 0} {tokens : List ℕ} {a₀ v : A} {P : ControlFlow A → Type 0} {d r' l' : ℕ} {s₀ s s' : Code} (f : A → Rule (ControlFlow A)) where
  pub loop_stops : LoopInvariantBy kept tokens f stack_unchanged a₀ (λ a. a ≡ v) s₀ s → RefinesBy kept tokens 0 0 (f v) P stack_unchanged d r' l' s s' → going s' ≡ false → RefinesBy kept tokens 0 0 (loop f a₀) (λ _. Unit {0}) stack_unchanged 0 0 0 s₀ s'
  loop_stops i p g = round_last i (λ stack. refl) (record {
    sticky = p.sticky;
    same = p.same;
    monotone = p.monotone;
    flow_value = λ R L stack a m e h.
        subst (λ (x : A). Stopped tokens f stack_unchanged (λ _. Unit {0}) s' R L stack (f x m)) (sym e) (go R L stack (f v m) (p.simulates R L stack m (represents_less _ _ (omega arith) (omega arith) h)));
  })
    where
      go : (R L : ℕ) (stack : List ℕ) (r : Result (ControlFlow A)) → Ends tokens P stack_unchanged s' R L r' l' stack r → Stopped tokens f stack_unchanged (λ _. Unit {0}) s' R L stack r
      go R L stack (ok t m) h = absurd (true≢false (represents_going h.1) g)
      go R L stack (err e m) h = h

-- a turn from what a step of the code meets
pub again_of : {kept : Kept} {A : Type 0} {tokens : List ℕ} {v w : A} {r' l' : ℕ} {s s' : Code} (f : A → Rule (ControlFlow A)) → RefinesBy kept tokens 0 0 (f v) (λ t. t ≡ continue w) stack_unchanged 1 r' l' s s'
    → AgainBy kept tokens f stack_unchanged (λ a. a ≡ v) (λ b. b ≡ w) s s'
again_of {kept} {A} {tokens} {v} {w} {r'} {l'} {s} {s'} f p = record {
  same = p.same;
  monotone = p.monotone;
  progress = p.progress;
  flow_value = λ R L stack a m e h.
      subst (λ (x : A). Turned tokens f stack_unchanged (λ b. b ≡ w) s' R L stack (f x m)) (sym e) (go R L stack (f v m) (p.simulates R L stack m (represents_less _ _ (omega arith) (omega arith) h)));
}
  where
    go : (R L : ℕ) (stack : List ℕ) (r : Result (ControlFlow A)) → Ends tokens (λ t. t ≡ continue w) stack_unchanged s' R L r' l' stack r → Turned tokens f stack_unchanged (λ b. b ≡ w) s' R L stack r
    go R L stack (ok (continue b) m) h = (let e : continue b ≡ continue w = h.0 in cc, represents_less _ _ (omega arith) (omega arith) h.1)
    go R L stack (ok (break b) m) h = let e : break b ≡ continue w = h.0 in let z : ◌≡◌ {A = ℕ} 0 1 = cc in omega arith
    go R L stack (err e m) h = h

-- a last turn likewise
pub last_of : {kept : Kept} {A : Type 0} {tokens : List ℕ} {v w : A} {d r' l' : ℕ} {s s' : Code} (f : A → Rule (ControlFlow A)) → RefinesBy kept tokens 0 0 (f v) (λ t. t ≡ break w) stack_unchanged d r' l' s s'
    → LastBy kept tokens f stack_unchanged (λ a. a ≡ v) (λ b. b ≡ w) s s'
last_of {kept} {A} {tokens} {v} {w} {d} {r'} {l'} {s} {s'} f p = record {
  sticky = p.sticky;
  same = p.same;
  monotone = p.monotone;
  flow_value = λ R L stack a m e h.
      subst (λ (x : A). Stopped tokens f stack_unchanged (λ b. b ≡ w) s' R L stack (f x m)) (sym e) (go R L stack (f v m) (p.simulates R L stack m (represents_less _ _ (omega arith) (omega arith) h)));
}
  where
    go : (R L : ℕ) (stack : List ℕ) (r : Result (ControlFlow A)) → Ends tokens (λ t. t ≡ break w) stack_unchanged s' R L r' l' stack r → Stopped tokens f stack_unchanged (λ b. b ≡ w) s' R L stack r
    go R L stack (ok (break b) m) h = (let e : break b ≡ break w = h.0 in cc, represents_less _ _ (omega arith) (omega arith) h.1)
    go R L stack (ok (continue b) m) h = let e : continue b ≡ break w = h.0 in let z : ◌≡◌ {A = ℕ} 0 1 = cc in omega arith
    go R L stack (err e m) h = h

-- what is struck out is in no array
module _ {kept : Kept} {A : Type 0} {tokens : List ℕ} {x : Rule A} {Q : A → Type 0} {grow : A → List ℕ → List ℕ} {r l d r' l' : ℕ} {s s' : Code} where
  pub struck_as : RefinesBy kept tokens r l x Q grow d r' l' s s' → RefinesBy kept tokens r l (struck x) Q grow d r' l' s s'
  unfolding struck
  struck_as p = record { sticky = p.sticky; same = p.same; monotone = p.monotone; progress = p.progress; simulates = λ R L stack m h. go R L stack m (x m) (p.simulates R L stack m h) }
    where
      go : (R L : ℕ) (stack : List ℕ) (m : State) (res : Result A) → Ends tokens Q grow s' R L r' l' stack res
          → Ends tokens Q grow s' R L r' l' stack (elim res [ ok a t ↦ ok a (record { left = t.left; docs = t.docs; arena = t.arena; notes = record { marks = m.notes.marks ++ replicate (length m.left - length t.left) false; after_default = t.notes.after_default } }) | err e t ↦ err e t ])
      go R L stack m (ok a t) h = (h.0, represents_noted _ h.1)
      go R L stack m (err e t) h = h

-- ---- a rule by the token being read, at a state

pub if_kind_is_yes : {A : Type 0} (k : ℕ) (x y : Rule A) (m : State) → eqb (current m.left).kind k ≡ true → if_kind k x y m ≡ x m
unfolding if_kind by_kind
if_kind_is_yes {A} k x y m e = ap (λ (b : Bool). (elim b as (λ _. Rule A) [ true ↦ x | false ↦ y ]) m) e

pub if_kind_is_no : {A : Type 0} (k : ℕ) (x y : Rule A) (m : State) → eqb (current m.left).kind k ≡ false → if_kind k x y m ≡ y m
unfolding if_kind by_kind
if_kind_is_no {A} k x y m e = ap (λ (b : Bool). (elim b as (λ _. Rule A) [ true ↦ x | false ↦ y ]) m) e

-- ---- the measure of such a loop

abbrev pub weight : List ℕ → Code → ℕ
weight tokens s = length (ahead tokens s) + elim (going s) as (λ _. ℕ) [ true ↦ 1 | false ↦ 0 ]

pub lighter : {kept : Kept} {A : Type 0} {tokens : List ℕ} {r l r' l' : ℕ} {x : Rule A} {Q : A → Type 0} {grow : A → List ℕ → List ℕ} {s s' : Code}
    → going s ≡ true → RefinesBy kept tokens r l x Q grow 1 r' l' s s' → weight tokens s' < weight tokens s
lighter {tokens = tokens} {s = s} {s'} g p = either (going s') (λ g'. rw (g, g') (omega (arith, p.progress g'))) (λ g'. rw (g, g') (omega (arith, p.monotone)))

-- ---- the test of such a loop

module _ (p : Reading) where
  pub doc-going : doc_follows p ≡ true → is_going p.error ≡ true
  unfolding doc_follows
  doc-going e = (and_both (is_going p.error) (eqb p.cur.kind k_doc) e).0

  pub doc-kind : doc_follows p ≡ true → p.cur.kind ≡ k_doc
  unfolding doc_follows
  doc-kind e = eqb-true _ _ (and_both (is_going p.error) (eqb p.cur.kind k_doc) e).1

  pub no-doc : is_going p.error ≡ true → doc_follows p ≡ false → eqb p.cur.kind k_doc ≡ false
  unfolding doc_follows
  no-doc g e = subst (λ (b : Bool). (b && eqb p.cur.kind k_doc) ≡ false) g e
