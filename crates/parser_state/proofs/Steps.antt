-- How runs of code are put together as rules are.
use Rattle.std.proofs.Common.{◌≡◌, ℕ, suc, ◌+◌, ◌-◌, ◌≤◌, Bool, true, false, ◌&&◌, T, eqb, leb, List, [], ◌∷◌, ◌++◌, length, sym, refl, ap, ◌∙◌, subst, append_assoc, append-nil, arith, eq-eqb, ne_eqb, eqb-true, leb-true}
use mathlib.Core.List.{flatten}
use Rattle.std.specs.Prelude as Std
use Rattle.std.specs.Prelude.{Ok, Err, IsErr, IsErrAnd}
use borrow.Author.Tests.{eqb-false}
use Rattle.lex.specs.Kind.{k_eof}
use Rattle.tokens.specs.Table.{token_of, token_at, tokens_from}
use Rattle.tokens.specs.declared.Entry.{Entry}
use Rattle.lex.specs.declared.diagnostic.Diagnostic.{Diagnostic}
use Rattle.rules.specs.Tree.{Notes, State, Result, ok, err}
use Rattle.rules.specs.Combinators.{Rule, ◌>>=◌, ◌>>◌, pure, current, cur, by_kind, if_kind, fail_expecting}
use Rattle.lex.specs.declared.tok.Token.{Token}
use Rattle.lex.specs.Answer.{max_bytes}
use Rattle.parser_state.specs.Represents.{Failed, Code, Kept, kept_of, with_error, error_of, going, is_going, from, ahead, Related, Represents, FailedAt}
use Rattle.parser_state.specs.Refines.{Ends, stack_unchanged, all_grown, Collected, Refines, RefinesBy, RefusesBy, PushesBy, Lists, ListsBy}

-- ---- room that is left over

pub related_less : {tokens : List ℕ} {s : Code} {r l : ℕ} {stack : List ℕ} {m : State} (r₀ l₀ : ℕ) → r₀ ≤ r → l₀ ≤ l → Related tokens s r l stack m → Related tokens s r₀ l₀ stack m
related_less r₀ l₀ p q h = record {
  left = h.left;
  here = h.here;
  near = h.near;
  taken = h.taken;
  few = h.few;
  nodes = h.nodes;
  types = h.types;
  lists = h.lists;
  bytes = h.bytes;
  credit = record { records = omega (arith, h.credit.records); numbers = omega (arith, h.credit.numbers); room = omega (arith, h.credit.room) };
  lent = h.lent;
}

pub represents_less : {tokens : List ℕ} {s : Code} {r l : ℕ} {stack : List ℕ} {m : State} (r₀ l₀ : ℕ) → r₀ ≤ r → l₀ ≤ l → Represents tokens s r l stack m → Represents tokens s r₀ l₀ stack m
represents_less r₀ l₀ p q h = record { status = h.status; related = related_less r₀ l₀ p q h.related }

pub failed_less : {tokens : List ℕ} {s : Code} {e : Diagnostic} {r l : ℕ} {stack : List ℕ} {m : State} (r₀ l₀ : ℕ) → r₀ ≤ r → l₀ ≤ l → FailedAt tokens s e r l stack m → FailedAt tokens s e r₀ l₀ stack m
failed_less r₀ l₀ p q h = record { status = h.status; over = h.over; related = related_less r₀ l₀ p q h.related }

pub failed-fails : {tokens : List ℕ} {s : Code} {e : Diagnostic} {r l : ℕ} {stack : List ℕ} {m : State} → FailedAt tokens s e r l stack m → going s ≡ false
failed-fails h = ap is_going h.status

pub represents_going : {tokens : List ℕ} {s : Code} {r l : ℕ} {stack : List ℕ} {m : State} → Represents tokens s r l stack m → going s ≡ true
represents_going h = ap is_going h.status

-- the notes are no part of what the code holds
abbrev pub noted : State → Notes → State
noted m n = record { left = m.left; docs = m.docs; arena = m.arena; notes = n }

pub represents_noted : {tokens : List ℕ} {s : Code} {r l : ℕ} {stack : List ℕ} {m : State} (n : Notes) → Represents tokens s r l stack m → Represents tokens s r l stack (noted m n)
represents_noted n h = record {
  status = h.status;
  related = record { left = h.related.left; here = h.related.here; near = h.related.near; taken = h.related.taken; few = h.related.few; nodes = h.related.nodes; types = h.related.types; lists = h.related.lists; bytes = h.related.bytes; credit = h.related.credit; lent = h.related.lent };
}

-- a Bool is one of the two
pub either : {C : Type 0} (b : Bool) → (b ≡ true → C) → (b ≡ false → C) → C
either true f g = f refl
either false f g = g refl

pub true≢false : {b : Bool} → b ≡ true → b ≡ false → ⊥
true≢false p q = let z : ◌≡◌ {A = ℕ} 0 1 = cc in omega arith

-- both parts of a true `&&` are true
pub and_both : (a b : Bool) → (a && b) ≡ true → (a ≡ true) × (b ≡ true)
and_both true b e = (refl, e)
and_both false b e = absurd (true≢false e refl)

T_true : (b : Bool) → T b → b ≡ true
T_true true t = refl
T_true false t = absurd t

-- ---- one step and then another

module _ {kept : Kept} {A B : Type 0} {tokens : List ℕ} {x : Rule A} {v : A} {Q : B → Type 0} {grow : B → List ℕ → List ℕ} {r l d r₁ l₁ r₂ l₂ d₂ r₃ l₃ : ℕ} {s s₁ s₂ : Code} (f : A → Rule B) where
  pub seq : RefinesBy kept tokens r l x (λ a. a ≡ v) stack_unchanged d r₁ l₁ s s₁ → RefinesBy kept tokens r₂ l₂ (f v) Q grow d₂ r₃ l₃ s₁ s₂
      → RefinesBy kept tokens (r + (r₂ - r₁)) (l + (l₂ - l₁)) (x >>= f) Q grow (d + d₂) (r₃ + (r₁ - r₂)) (l₃ + (l₁ - l₂)) s s₂
  unfolding ◌>>=◌
  seq p q = record {
    sticky = λ e. let e₁ : s₁ ≡ s = p.sticky e in q.sticky (ap going e₁ ∙ e) ∙ e₁;
    same = q.same ∙ p.same;
    monotone = omega (arith, p.monotone, q.monotone);
    progress = λ e. either (going s₁)
        (λ g. omega (arith, p.progress g, q.progress e))
        (λ g. absurd (true≢false e (ap going (q.sticky g) ∙ g)));
    simulates = λ R L stack m h. go R L stack (x m) (p.simulates (R + (r₂ - r₁)) (L + (l₂ - l₁)) stack m (represents_less _ _ (omega arith) (omega arith) h));
  }
    where
      last : (R L : ℕ) (stack : List ℕ) (res : Result B) → Ends tokens Q grow s₂ (R + (r₁ - r₂)) (L + (l₁ - l₂)) r₃ l₃ stack res → Ends tokens Q grow s₂ R L (r₃ + (r₁ - r₂)) (l₃ + (l₁ - l₂)) stack res
      last R L stack (ok b m) h = (h.0, represents_less _ _ (omega arith) (omega arith) h.1)
      last R L stack (err e m) h = failed_less _ _ (omega arith) (omega arith) h

      go : (R L : ℕ) (stack : List ℕ) (res : Result A) → Ends tokens (λ a. a ≡ v) stack_unchanged s₁ (R + (r₂ - r₁)) (L + (l₂ - l₁)) r₁ l₁ stack res
          → Ends tokens Q grow s₂ R L (r₃ + (r₁ - r₂)) (l₃ + (l₁ - l₂)) stack (elim res [ ok a m ↦ f a m | err e m ↦ err e m ])
      go R L stack (ok a m) h = last R L stack (f a m)
          (subst (λ (w : A). Ends tokens Q grow s₂ (R + (r₁ - r₂)) (L + (l₁ - l₂)) r₃ l₃ stack (f w m)) (sym h.0)
          (q.simulates (R + (r₁ - r₂)) (L + (l₁ - l₂)) stack m (represents_less _ _ (omega arith) (omega arith) h.1)))
      go R L stack (err e m) h = subst (λ (t : Code). FailedAt tokens t e R L stack m) (sym (q.sticky (failed-fails h))) (failed_less _ _ (omega arith) (omega arith) h)

module _ {kept : Kept} {A B : Type 0} {tokens : List ℕ} {x : Rule A} {y : Rule B} {v : A} {Q : B → Type 0} {grow : B → List ℕ → List ℕ} {r l d r₁ l₁ r₂ l₂ d₂ r₃ l₃ : ℕ} {s s₁ s₂ : Code} where
  pub then : RefinesBy kept tokens r l x (λ a. a ≡ v) stack_unchanged d r₁ l₁ s s₁ → RefinesBy kept tokens r₂ l₂ y Q grow d₂ r₃ l₃ s₁ s₂
      → RefinesBy kept tokens (r + (r₂ - r₁)) (l + (l₂ - l₁)) (x >> y) Q grow (d + d₂) (r₃ + (r₁ - r₂)) (l₃ + (l₁ - l₂)) s s₂
  unfolding ◌>>◌ ◌>>=◌
  then p q = seq (λ _. y) p q

-- a token is read that the code keeps
module _ {kept : Kept} {B : Type 0} {tokens : List ℕ} {x : Rule Token} {Q : B → Type 0} {grow : B → List ℕ → List ℕ} {r l d r₁ l₁ r₂ l₂ d₂ r₃ l₃ : ℕ} {s s₁ s₂ : Code} (f : Token → Rule B) where
  pub read : {t : Entry} → RefinesBy kept tokens r l x (λ t. t ≡ token_of s.parser.cur) stack_unchanged d r₁ l₁ s s₁ → t ≡ s.parser.cur → RefinesBy kept tokens r₂ l₂ (f (token_of t)) Q grow d₂ r₃ l₃ s₁ s₂
      → RefinesBy kept tokens (r + (r₂ - r₁)) (l + (l₂ - l₁)) (x >>= f) Q grow (d + d₂) (r₃ + (r₁ - r₂)) (l₃ + (l₁ - l₂)) s s₂
  read p e q = seq f p (subst (λ (t : Entry). RefinesBy kept tokens r₂ l₂ (f (token_of t)) Q grow d₂ r₃ l₃ s₁ s₂) e q)

  -- or the number of whose record it keeps
  pub read_at : {i : ℕ} → RefinesBy kept tokens r l x (λ t. t ≡ token_of s.parser.cur) stack_unchanged d r₁ l₁ s s₁ → i ≡ s.parser.at → RefinesBy kept tokens r₂ l₂ (f (token_at tokens i)) Q grow d₂ r₃ l₃ s₁ s₂
      → RefinesBy kept tokens (r + (r₂ - r₁)) (l + (l₂ - l₁)) (x >>= f) Q grow (d + d₂) (r₃ + (r₁ - r₂)) (l₃ + (l₁ - l₂)) s s₂
  read_at {i} p e q =
      let any = seq (λ _. f (token_at tokens i)) p q in
      record {
        sticky = any.sticky;
        same = any.same;
        monotone = any.monotone;
        progress = any.progress;
        simulates = λ R L stack m h.
            (seq f p (subst (λ (t : Token). RefinesBy kept tokens r₂ l₂ (f t) Q grow d₂ r₃ l₃ s₁ s₂) (ap (token_at tokens) e ∙ sym h.related.here) q)).simulates R L stack m h;
      }

-- the numbers of a contract, where those of the steps suffice: less room is asked, and as many tokens are taken and as much room is left
abbrev pub suffices : ℕ → ℕ → ℕ → ℕ → ℕ → ℕ → ℕ → ℕ → ℕ → ℕ → Bool
suffices r l d r' l' r₀ l₀ d₀ r₀' l₀' = leb r r₀ && (leb l l₀ && (leb d₀ d && (leb r₀' r' && leb l₀' l')))

module _ {kept : Kept} {A : Type 0} {tokens : List ℕ} {x : Rule A} {Q : A → Type 0} {grow : A → List ℕ → List ℕ} {r l d r' l' r₀ l₀ d₀ r₀' l₀' : ℕ} {s s' : Code} where
  pub enough : RefinesBy kept tokens r l x Q grow d r' l' s s' → T (suffices r l d r' l' r₀ l₀ d₀ r₀' l₀') → RefinesBy kept tokens r₀ l₀ x Q grow d₀ r₀' l₀' s s'
  enough p w₀ =
      let w₁ = and_both (leb r r₀) (leb l l₀ && (leb d₀ d && (leb r₀' r' && leb l₀' l'))) (T_true _ w₀) in
      let w₂ = and_both (leb l l₀) (leb d₀ d && (leb r₀' r' && leb l₀' l')) w₁.1 in
      let w₃ = and_both (leb d₀ d) (leb r₀' r' && leb l₀' l') w₂.1 in
      let w₄ = and_both (leb r₀' r') (leb l₀' l') w₃.1 in
      let a : r ≤ r₀ = leb-true _ _ w₁.0 in
      let b : l ≤ l₀ = leb-true _ _ w₂.0 in
      let c : d₀ ≤ d = leb-true _ _ w₃.0 in
      let e : r₀' ≤ r' = leb-true _ _ w₄.0 in
      let f : l₀' ≤ l' = leb-true _ _ w₄.1 in
      record {
        sticky = p.sticky;
        same = p.same;
        monotone = p.monotone;
        progress = λ g. omega (arith, p.progress g);
        simulates = λ R L stack m h. go R L stack (x m) e f (p.simulates R L stack m (represents_less _ _ (omega arith) (omega arith) h));
      }
    where
      go : (R L : ℕ) (stack : List ℕ) (res : Result A) → r₀' ≤ r' → l₀' ≤ l' → Ends tokens Q grow s' R L r' l' stack res → Ends tokens Q grow s' R L r₀' l₀' stack res
      go R L stack (ok a m) e f h = (h.0, represents_less _ _ (omega arith) (omega arith) h.1)
      go R L stack (err e m) _ _ h = h

-- where the arrays stay as long, less may be said of them
module _ {A : Type 0} {tokens : List ℕ} {x : Rule A} {Q : A → Type 0} {grow : A → List ℕ → List ℕ} {r l d r' l' : ℕ} {s s' : Code} where
  pub as_kept : (kept : Kept) → Refines tokens r l x Q grow d r' l' s s' → RefinesBy kept tokens r l x Q grow d r' l' s s'
  as_kept kept p = record { sticky = p.sticky; same = ap (kept_of kept) p.same; monotone = p.monotone; progress = p.progress; simulates = p.simulates }

module _ {A : Type 0} {tokens : List ℕ} {x : List (List ℕ) → Rule A} {Q : A → Type 0} {d r' l' mark n : ℕ} {s s' : Code} where
  pub lists_as_kept : (kept : Kept) → Lists tokens x Q d r' l' mark n s s' → ListsBy kept tokens x Q d r' l' mark n s s'
  lists_as_kept kept p = record { sticky = p.sticky; same = ap (kept_of kept) p.same; monotone = p.monotone; progress = p.progress; simulates = p.simulates }

-- ---- no step, and a step that fails

pub done : {kept : Kept} {A : Type 0} {tokens : List ℕ} {v : A} {s : Code} → RefinesBy kept tokens 0 0 (pure v) (λ a. a ≡ v) stack_unchanged 0 0 0 s s
unfolding pure
done = record { sticky = λ e. refl; same = refl; monotone = omega arith; progress = λ e. omega arith; simulates = λ R L stack m h. (refl, h) }

pub refused : {kept : Kept} {A : Type 0} {tokens : List ℕ} {number wanted : ℕ} {Q : A → Type 0} {grow : A → List ℕ → List ℕ} {d r' l' : ℕ} {s s' : Code}
    → RefusesBy kept tokens number wanted s s' → RefinesBy kept tokens 0 0 (fail_expecting {A = A} number wanted) Q grow d r' l' s s'
unfolding fail_expecting
refused p = record {
  sticky = p.sticky;
  same = p.same;
  monotone = p.monotone;
  progress = λ e. absurd (true≢false e p.fails);
  simulates = λ R L stack m h. p.simulates R L stack m (represents_less _ _ (omega arith) (omega arith) h);
}

-- a step that fails ends the rule
module _ {kept : Kept} {A B : Type 0} {tokens : List ℕ} {x : Rule A} {P : A → Type 0} {grow : A → List ℕ → List ℕ} {r l d r' l' : ℕ} {s s' : Code} where
  pub stops : (f : A → Rule B) → RefinesBy kept tokens r l x P grow d r' l' s s' → going s' ≡ false → RefinesBy kept tokens r l (x >>= f) (λ _. Unit {0}) stack_unchanged 0 0 0 s s'
  unfolding ◌>>=◌
  stops f p g = record {
    sticky = p.sticky;
    same = p.same;
    monotone = p.monotone;
    progress = λ e. absurd (true≢false e g);
    simulates = λ R L stack m h. go R L stack (x m) (p.simulates R L stack m h);
  }
    where
      go : (R L : ℕ) (stack : List ℕ) (res : Result A) → Ends tokens P grow s' R L r' l' stack res → Ends tokens (λ _. Unit {0}) stack_unchanged s' R L 0 0 stack (elim res [ ok a m ↦ f a m | err e m ↦ err e m ])
      go R L stack (ok a m) h = absurd (true≢false (represents_going h.1) g)
      go R L stack (err e m) h = h

  pub stops_then : (y : Rule B) → RefinesBy kept tokens r l x P grow d r' l' s s' → going s' ≡ false → RefinesBy kept tokens r l (x >> y) (λ _. Unit {0}) stack_unchanged 0 0 0 s s'
  unfolding ◌>>◌ ◌>>=◌
  stops_then y p g = stops (λ _. y) p g

-- what `?` passes on
abbrev pub Passed : {A : Type 0} → Diagnostic → Std.Result A Diagnostic → Type 0
Passed e res = IsErr res × IsErrAnd res (λ y. y ≡ e)

pub passed : {A : Type 0} {e : Diagnostic} (res : Std.Result A Diagnostic) → IsErrAnd res (λ y. y ≡ e) → res ≡ Err e
passed (Ok a) h = absurd h
passed (Err y) h = ap Err h

pub passed_on : {A : Type 0} {s : Code} {e : Diagnostic} (res : Std.Result A Diagnostic) → s.parser.error ≡ Failed e → Passed e res → s ≡ with_error s (error_of res)
passed_on {s = s} res f k = ap (with_error s) (f ∙ ap error_of (sym (passed res k.1)))

-- where a step fails, it gives no value, and no token need be taken, nor room be left
module _ {kept : Kept} {A : Type 0} {tokens : List ℕ} {x : Rule A} {P Q : A → Type 0} {grow grow' : A → List ℕ → List ℕ} {r l d r' l' d₀ r₀' l₀' : ℕ} {s s' : Code} where
  pub fails_as : RefinesBy kept tokens r l x P grow d r' l' s s' → going s' ≡ false → RefinesBy kept tokens r l x Q grow' d₀ r₀' l₀' s s'
  fails_as q g = record {
    sticky = q.sticky;
    same = q.same;
    monotone = q.monotone;
    progress = λ z. absurd (true≢false z g);
    simulates = λ R L stack m h. go R L stack (x m) (q.simulates R L stack m h);
  }
    where
      go : (R L : ℕ) (stack : List ℕ) (res : Result A) → Ends tokens P grow s' R L r' l' stack res → Ends tokens Q grow' s' R L r₀' l₀' stack res
      go R L stack (ok a m) h = absurd (true≢false (represents_going h.1) g)
      go R L stack (err e m) h = h

-- an error that is passed on
module _ {kept : Kept} {A B : Type 0} {tokens : List ℕ} {x : Rule A} {P Q : A → Type 0} {grow grow' : A → List ℕ → List ℕ} {r l d r' l' r₀ l₀ d₀ r₀' l₀' : ℕ} {s s' : Code} {e : Diagnostic} (res : Std.Result B Diagnostic) where
  pub fails : RefinesBy kept tokens r l x P grow d r' l' s s' → s'.parser.error ≡ Failed e → Passed e res → T (leb r r₀ && leb l l₀) → RefinesBy kept tokens r₀ l₀ x Q grow' d₀ r₀' l₀' s (with_error s' (error_of res))
  fails q f k w₀ =
      let w = and_both (leb r r₀) (leb l l₀) (T_true _ w₀) in
      let a : r ≤ r₀ = leb-true _ _ w.0 in
      let b : l ≤ l₀ = leb-true _ _ w.1 in
      let p : RefinesBy kept tokens r l x Q grow' d₀ r₀' l₀' s s' = fails_as q (ap is_going f) in
      subst (RefinesBy kept tokens r₀ l₀ x Q grow' d₀ r₀' l₀' s) (passed_on res f k) (record {
        sticky = p.sticky;
        same = p.same;
        monotone = p.monotone;
        progress = p.progress;
        simulates = λ R L stack m h. p.simulates R L stack m (represents_less _ _ (omega arith) (omega arith) h);
      })

-- ---- by the token being read

pub current-from : (tokens : List ℕ) (t : Token) (at : ℕ) → current (from tokens t at) ≡ t
unfolding current from
current-from tokens t at = go (eqb t.kind k_eof)
  where
    go : (b : Bool) → current (elim b [ true ↦ t ∷ [] | false ↦ t ∷ tokens_from tokens (suc at) ]) ≡ t
    go true = refl
    go false = refl

pub some-from : (tokens : List ℕ) (t : Token) (at : ℕ) → 1 ≤ length (from tokens t at)
unfolding from
some-from tokens t at = go (eqb t.kind k_eof)
  where
    go : (b : Bool) → 1 ≤ length {A = Token} (elim b as (λ _. List Token) [ true ↦ t ∷ [] | false ↦ t ∷ tokens_from tokens (suc at) ])
    go true = omega arith
    go false = omega arith

-- Eof at least is left
pub left-some : {tokens : List ℕ} {s : Code} {r l : ℕ} {stack : List ℕ} {m : State} → Related tokens s r l stack m → 1 ≤ length m.left
left-some {tokens} {s} h = omega (arith, ap length h.left, some-from tokens (token_of s.parser.cur) s.parser.at)

pub current_represents : {tokens : List ℕ} {s : Code} {r l : ℕ} {stack : List ℕ} {m : State} → Related tokens s r l stack m → current m.left ≡ token_of s.parser.cur
current_represents {tokens} {s} h = ap current h.left ∙ current-from tokens (token_of s.parser.cur) s.parser.at

module _ {kept : Kept} {A : Type 0} {tokens : List ℕ} {Q : A → Type 0} {grow : A → List ℕ → List ℕ} {r l d r' l' : ℕ} {s s' : Code} (f : ℕ → Rule A) where
  pub at-kind : (n : ℕ) → RefinesBy kept tokens r l (f n) Q grow d r' l' s s' → s.parser.cur.kind ≡ n → RefinesBy kept tokens r l (by_kind f) Q grow d r' l' s s'
  unfolding by_kind
  at-kind n p e = record {
    sticky = p.sticky;
    same = p.same;
    monotone = p.monotone;
    progress = p.progress;
    simulates = λ R L stack m h. subst (λ (k : ℕ). Ends tokens Q grow s' R L r' l' stack (f k m)) (sym (ap (λ (t : Token). t.kind) (current_represents h.related) ∙ e)) (p.simulates R L stack m h);
  }

module _ {kept : Kept} {A : Type 0} {tokens : List ℕ} {k : ℕ} {Q : A → Type 0} {grow : A → List ℕ → List ℕ} {r l d r' l' : ℕ} {s s' : Code} (x y : Rule A) where
  pub if_kind-yes : RefinesBy kept tokens r l x Q grow d r' l' s s' → s.parser.cur.kind ≡ k → RefinesBy kept tokens r l (if_kind k x y) Q grow d r' l' s s'
  unfolding if_kind
  if_kind-yes p e = at-kind _ s.parser.cur.kind (rw (eq-eqb s.parser.cur.kind k e) p) refl

  pub if_kind-no : RefinesBy kept tokens r l y Q grow d r' l' s s' → (s.parser.cur.kind ≡ k → ⊥) → RefinesBy kept tokens r l (if_kind k x y) Q grow d r' l' s s'
  unfolding if_kind
  if_kind-no p e = at-kind _ s.parser.cur.kind (rw (ne_eqb s.parser.cur.kind k e) p) refl

-- ---- cells, and lists

module _ {kept : Kept} {A B : Type 0} {tokens : List ℕ} {x : Rule A} {P : A → Type 0} {Q : B → Type 0} {d r₁ l₁ d₂ r₂ l₂ mark n : ℕ} {s s₁ s₂ : Code} (y : List (List ℕ) → Rule B) where
  pub lists_then : RefinesBy kept tokens 0 0 x P stack_unchanged d r₁ l₁ s s₁ → ListsBy kept tokens y Q d₂ r₂ l₂ mark n s₁ s₂ → ListsBy kept tokens (λ xs. x >> y xs) Q (d + d₂) (r₁ + r₂) (l₁ + l₂) mark n s s₂
  unfolding ◌>>◌
  lists_then p q = record {
    sticky = λ e. let e₁ : s₁ ≡ s = p.sticky e in q.sticky (ap going e₁ ∙ e) ∙ e₁;
    same = q.same ∙ p.same;
    monotone = omega (arith, p.monotone, q.monotone);
    progress = λ e. either (going s₁)
        (λ g. omega (arith, p.progress g, q.progress e))
        (λ g. absurd (true≢false e (ap going (q.sticky g) ∙ g)));
    simulates = λ R L stack xs m a b few h. go R L stack xs a b m (ap length h.related.left) few (x m) (p.simulates R L (stack ++ flatten xs) m (represents_less _ _ (omega arith) (omega arith) h));
  }
    where
      last : (R L : ℕ) (stack : List ℕ) (res : Result B) → Ends tokens Q stack_unchanged s₂ (R + r₁) (L + l₁) r₂ l₂ stack res → Ends tokens Q stack_unchanged s₂ R L (r₁ + r₂) (l₁ + l₂) stack res
      last R L stack (ok b m) h = (h.0, represents_less _ _ (omega arith) (omega arith) h.1)
      last R L stack (err e m) h = failed_less _ _ (omega arith) (omega arith) h

      go : (R L : ℕ) (stack : List ℕ) (xs : List (List ℕ)) → length stack ≡ mark → length xs ≡ n → (m₀ : State) → length m₀.left ≡ length (ahead tokens s) → length xs + length m₀.left ≤ max_bytes + 1 → (res : Result A) → Ends tokens P stack_unchanged s₁ R L r₁ l₁ (stack ++ flatten xs) res
          → Ends tokens Q stack_unchanged s₂ R L (r₁ + r₂) (l₁ + l₂) stack (elim res [ ok a m ↦ y xs m | err e m ↦ err e m ])
      go R L stack xs a b m₀ same few (ok w m) h = last R L stack (y xs m) (q.simulates (R + r₁) (L + l₁) stack xs m a b (omega (arith, p.monotone, ap length h.1.related.left)) h.1)
      go R L stack xs a b m₀ same few (err e m) h =
          subst (λ (t : Code). FailedAt tokens t e R L stack m) (sym (q.sticky (failed-fails h)))
          (record { status = h.status; over = flatten xs ++ h.over; related = rw (← append_assoc stack (flatten xs) h.over) h.related })

-- a step that fails ends the list
module _ {kept : Kept} {A B C : Type 0} {tokens : List ℕ} {x : Rule A} {P : A → Type 0} {Q : B → Type 0} {d r₁ l₁ d' r' l' mark n : ℕ} {s s' : Code} {e : Diagnostic} (res : Std.Result C Diagnostic) (y : List (List ℕ) → Rule B) where
  pub lists_stop : RefinesBy kept tokens 0 0 x P stack_unchanged d r₁ l₁ s s' → s'.parser.error ≡ Failed e → Passed e res → ListsBy kept tokens (λ xs. x >> y xs) Q d' r' l' mark n s (with_error s' (error_of res))
  unfolding ◌>>◌
  lists_stop q f k =
      let g : going s' ≡ false = ap is_going f in
      subst (ListsBy kept tokens (λ xs. x >> y xs) Q d' r' l' mark n s) (passed_on res f k) (record {
        sticky = q.sticky;
        same = q.same;
        monotone = q.monotone;
        progress = λ z. absurd (true≢false z g);
        simulates = λ R L stack xs m a b few h. go R L stack xs g (x m) (q.simulates R L (stack ++ flatten xs) m (represents_less _ _ (omega arith) (omega arith) h));
      })
    where
      go : (R L : ℕ) (stack : List ℕ) (xs : List (List ℕ)) → going s' ≡ false → (res : Result A) → Ends tokens P stack_unchanged s' R L r₁ l₁ (stack ++ flatten xs) res
          → Ends tokens Q stack_unchanged s' R L r' l' stack (elim res [ ok a m ↦ y xs m | err e m ↦ err e m ])
      go R L stack xs g (ok a m) h = absurd (true≢false (represents_going h.1) g)
      go R L stack xs g (err e m) h = record { status = h.status; over = flatten xs ++ h.over; related = rw (← append_assoc stack (flatten xs) h.over) h.related }

-- ---- another way to write a rule

module _ {kept : Kept} {A : Type 0} {tokens : List ℕ} {Q : A → Type 0} {grow : A → List ℕ → List ℕ} {r l d r' l' : ℕ} {s s' : Code} {x y : Rule A} where
  pub as_rule : ((m : State) → y m ≡ x m) → RefinesBy kept tokens r l x Q grow d r' l' s s' → RefinesBy kept tokens r l y Q grow d r' l' s s'
  as_rule e p = record {
    sticky = p.sticky;
    same = p.same;
    monotone = p.monotone;
    progress = p.progress;
    simulates = λ R L stack m h. subst (Ends tokens Q grow s' R L r' l' stack) (sym (e m)) (p.simulates R L stack m h);
  }

-- a refusal passes over what would come behind
pub if_kind-bind : {A B : Type 0} (k number wanted : ℕ) (x : Rule A) (f : A → Rule B) (m : State) → if_kind k (x >>= f) (fail_expecting number wanted) m ≡ (if_kind k x (fail_expecting number wanted) >>= f) m
unfolding if_kind by_kind fail_expecting ◌>>=◌
if_kind-bind {A} {B} k number wanted x f m = go (eqb (current m.left).kind k)
  where
    go : (b : Bool) → (elim b as (λ _. Rule B) [ true ↦ x >>= f | false ↦ fail_expecting number wanted ]) m ≡ ((elim b as (λ _. Rule A) [ true ↦ x | false ↦ fail_expecting number wanted ]) >>= f) m
    go true = refl
    go false = refl

bind_assoc : {A B C : Type 0} (x : Rule A) (f : A → Rule B) (g : B → Rule C) (m : State) → (x >>= (λ a. f a >>= g)) m ≡ ((x >>= f) >>= g) m
unfolding ◌>>=◌
bind_assoc {A} {B} {C} x f g m = go (x m)
  where
    go : (res : Result A) → ◌≡◌ {A = Result C} (elim res as (λ _. Result C) [ ok a s ↦ elim (f a s) [ ok b t ↦ g b t | err e t ↦ err e t ] | err e s ↦ err e s ])
        (elim (elim res as (λ _. Result B) [ ok a s ↦ f a s | err e s ↦ err e s ]) as (λ _. Result C) [ ok b t ↦ g b t | err e t ↦ err e t ])
    go (ok a s) = refl
    go (err e s) = refl

module _ {kept : Kept} {A B C : Type 0} {tokens : List ℕ} {Q : C → Type 0} {grow : C → List ℕ → List ℕ} {r l d r' l' : ℕ} {s s' : Code} (x : Rule A) (f : A → Rule B) (g : B → Rule C) where
  pub reassoc : RefinesBy kept tokens r l ((x >>= f) >>= g) Q grow d r' l' s s' → RefinesBy kept tokens r l (x >>= (λ a. f a >>= g)) Q grow d r' l' s s'
  reassoc p = as_rule (bind_assoc x f g) p

-- the token being read is looked at
pub looks : {kept : Kept} {tokens : List ℕ} {s : Code} → RefinesBy kept tokens 0 0 cur (λ t. t ≡ token_of s.parser.cur) stack_unchanged 0 0 0 s s
unfolding cur
looks = record { sticky = λ e. refl; same = refl; monotone = omega arith; progress = λ e. omega arith; simulates = λ R L stack m h. (current_represents h.related, h) }

module _ {kept : Kept} {A : Type 0} {tokens : List ℕ} {Q : A → Type 0} {grow : A → List ℕ → List ℕ} {r l d r' l' : ℕ} {s s' : Code} (k : ℕ) (x y : Rule A) where
  -- the code is the same by either rule
  pub if_kind-both : RefinesBy kept tokens r l x Q grow d r' l' s s' → RefinesBy kept tokens r l y Q grow d r' l' s s' → RefinesBy kept tokens r l (if_kind k x y) Q grow d r' l' s s'
  if_kind-both p q = either (eqb s.parser.cur.kind k) (λ e. if_kind-yes x y p (eqb-true _ _ e)) (λ e. if_kind-no x y q (eqb-false _ _ e))

-- ---- lists of members

-- members, and then their list
module _ {kept : Kept} {A : Type 0} {tokens : List ℕ} {x : Rule (List (List ℕ))} {Q : A → Type 0} {r l d r₁ l₁ d₂ r₂ l₂ mark n : ℕ} {s s₁ s₂ : Code} (y : List (List ℕ) → Rule A) where
  pub lists-after : RefinesBy kept tokens r l x (Collected tokens n s₁) all_grown d r₁ l₁ s s₁ → ListsBy kept tokens y Q d₂ r₂ l₂ mark n s₁ s₂ → mark ≡ s.parser.used.scratch
      → RefinesBy kept tokens r l (x >>= y) Q stack_unchanged (d + d₂) (r₁ + r₂) (l₁ + l₂) s s₂
  unfolding ◌>>=◌
  lists-after p q k = record {
    sticky = λ e. let e₁ : s₁ ≡ s = p.sticky e in q.sticky (ap going e₁ ∙ e) ∙ e₁;
    same = q.same ∙ p.same;
    monotone = omega (arith, p.monotone, q.monotone);
    progress = λ e. either (going s₁)
        (λ g. omega (arith, p.progress g, q.progress e))
        (λ g. absurd (true≢false e (ap going (q.sticky g) ∙ g)));
    simulates = λ R L stack m h. go R L stack (sym (k ∙ h.related.lists.stacked)) (x m) (p.simulates R L stack m h);
  }
    where
      last : (R L : ℕ) (stack : List ℕ) (res : Result A) → Ends tokens Q stack_unchanged s₂ (R + r₁) (L + l₁) r₂ l₂ stack res → Ends tokens Q stack_unchanged s₂ R L (r₁ + r₂) (l₁ + l₂) stack res
      last R L stack (ok b m) h = (h.0, represents_less _ _ (omega arith) (omega arith) h.1)
      last R L stack (err e m) h = failed_less _ _ (omega arith) (omega arith) h

      go : (R L : ℕ) (stack : List ℕ) → length stack ≡ mark → (res : Result (List (List ℕ))) → Ends tokens (Collected tokens n s₁) all_grown s₁ R L r₁ l₁ stack res
          → Ends tokens Q stack_unchanged s₂ R L (r₁ + r₂) (l₁ + l₂) stack (elim res [ ok a m ↦ y a m | err e m ↦ err e m ])
      go R L stack j (ok xs m) h = last R L stack (y xs m) (q.simulates (R + r₁) (L + l₁) stack xs m j h.0.0 (omega (arith, h.0.1, ap length h.1.related.left)) h.1)
      go R L stack j (err e m) h = subst (λ (t : Code). FailedAt tokens t e R L stack m) (sym (q.sticky (failed-fails h))) h

-- a list, and then what goes on with it
module _ {kept : Kept} {A B : Type 0} {tokens : List ℕ} {y : List (List ℕ) → Rule A} {run : A} {Q : B → Type 0} {d r₁ l₁ r₂ l₂ d₂ r₃ l₃ mark n : ℕ} {s s₁ s₂ : Code} (f : A → Rule B) where
  pub lists_seq : ListsBy kept tokens y (λ a. a ≡ run) d r₁ l₁ mark n s s₁ → RefinesBy kept tokens r₂ l₂ (f run) Q stack_unchanged d₂ r₃ l₃ s₁ s₂ → r₂ ≤ r₁ → l₂ ≤ l₁
      → ListsBy kept tokens (λ xs. y xs >>= f) Q (d + d₂) (r₃ + (r₁ - r₂)) (l₃ + (l₁ - l₂)) mark n s s₂
  unfolding ◌>>=◌
  lists_seq p q a b = record {
    sticky = λ e. let e₁ : s₁ ≡ s = p.sticky e in q.sticky (ap going e₁ ∙ e) ∙ e₁;
    same = q.same ∙ p.same;
    monotone = omega (arith, p.monotone, q.monotone);
    progress = λ e. either (going s₁)
        (λ g. omega (arith, p.progress g, q.progress e))
        (λ g. absurd (true≢false e (ap going (q.sticky g) ∙ g)));
    simulates = λ R L stack xs m j k few h. go R L stack a b (y xs m) (p.simulates R L stack xs m j k few h);
  }
    where
      last : (R L : ℕ) (stack : List ℕ) (res : Result B) → Ends tokens Q stack_unchanged s₂ (R + (r₁ - r₂)) (L + (l₁ - l₂)) r₃ l₃ stack res → Ends tokens Q stack_unchanged s₂ R L (r₃ + (r₁ - r₂)) (l₃ + (l₁ - l₂)) stack res
      last R L stack (ok b m) h = (h.0, represents_less _ _ (omega arith) (omega arith) h.1)
      last R L stack (err e m) h = failed_less _ _ (omega arith) (omega arith) h

      go : (R L : ℕ) (stack : List ℕ) → r₂ ≤ r₁ → l₂ ≤ l₁ → (res : Result A) → Ends tokens (λ a. a ≡ run) stack_unchanged s₁ R L r₁ l₁ stack res
          → Ends tokens Q stack_unchanged s₂ R L (r₃ + (r₁ - r₂)) (l₃ + (l₁ - l₂)) stack (elim res [ ok a m ↦ f a m | err e m ↦ err e m ])
      go R L stack a b (ok w m) h = last R L stack (f w m)
          (subst (λ (x : A). Ends tokens Q stack_unchanged s₂ (R + (r₁ - r₂)) (L + (l₁ - l₂)) r₃ l₃ stack (f x m)) (sym h.0)
          (q.simulates (R + (r₁ - r₂)) (L + (l₁ - l₂)) stack m (represents_less _ _ (omega arith) (omega arith) h.1)))
      go R L stack a b (err e m) h = subst (λ (x : Code). FailedAt tokens x e R L stack m) (sym (q.sticky (failed-fails h))) h

-- a list that fails ends what goes on with it
module _ {kept : Kept} {A B : Type 0} {tokens : List ℕ} {y : List (List ℕ) → Rule A} {P : A → Type 0} {d r₁ l₁ mark n : ℕ} {s s' : Code} (f : A → Rule B) where
  pub lists_fail : ListsBy kept tokens y P d r₁ l₁ mark n s s' → going s' ≡ false → ListsBy kept tokens (λ xs. y xs >>= f) (λ _. Unit {0}) 0 0 0 mark n s s'
  unfolding ◌>>=◌
  lists_fail p g = record {
    sticky = p.sticky;
    same = p.same;
    monotone = p.monotone;
    progress = λ z. absurd (true≢false z g);
    simulates = λ R L stack xs m j k few h. go R L stack (y xs m) (p.simulates R L stack xs m j k few h);
  }
    where
      go : (R L : ℕ) (stack : List ℕ) (res : Result A) → Ends tokens P stack_unchanged s' R L r₁ l₁ stack res
          → Ends tokens (λ _. Unit {0}) stack_unchanged s' R L 0 0 stack (elim res [ ok a m ↦ f a m | err e m ↦ err e m ])
      go R L stack (ok a m) h = absurd (true≢false (represents_going h.1) g)
      go R L stack (err e m) h = h

-- members, and then a step that changes none
module _ {kept : Kept} {A : Type 0} {tokens : List ℕ} {x : Rule (List (List ℕ))} {y : Rule A} {v : A} {r l d r₁ l₁ d₂ r₂ l₂ n : ℕ} {s s₁ s₂ : Code} where
  pub collected_then : RefinesBy kept tokens r l x (Collected tokens n s₁) all_grown d r₁ l₁ s s₁ → RefinesBy kept tokens 0 0 y (λ a. a ≡ v) stack_unchanged d₂ r₂ l₂ s₁ s₂
      → RefinesBy kept tokens r l (x >>= (λ xs. y >> pure xs)) (Collected tokens n s₂) all_grown (d + d₂) (r₁ + r₂) (l₁ + l₂) s s₂
  unfolding ◌>>=◌ ◌>>◌ pure
  collected_then p q = record {
    sticky = λ e. let e₁ : s₁ ≡ s = p.sticky e in q.sticky (ap going e₁ ∙ e) ∙ e₁;
    same = q.same ∙ p.same;
    monotone = omega (arith, p.monotone, q.monotone);
    progress = λ e. either (going s₁)
        (λ g. omega (arith, p.progress g, q.progress e))
        (λ g. absurd (true≢false e (ap going (q.sticky g) ∙ g)));
    simulates = λ R L stack m h. go R L stack (x m) (p.simulates R L stack m h);
  }
    where
      last : (R L : ℕ) (stack : List ℕ) (xs : List (List ℕ)) → Collected tokens n s₁ xs → (res : Result A) → Ends tokens (λ a. a ≡ v) stack_unchanged s₂ (R + r₁) (L + l₁) r₂ l₂ (stack ++ flatten xs) res
          → Ends tokens (Collected tokens n s₂) all_grown s₂ R L (r₁ + r₂) (l₁ + l₂) stack (elim res [ ok a m ↦ ok xs m | err e m ↦ err e m ])
      last R L stack xs c (ok b m) h = ((c.0, omega (arith, c.1, q.monotone)), represents_less _ _ (omega arith) (omega arith) h.1)
      last R L stack xs c (err e m) h =
          let f : FailedAt tokens s₂ e (R + r₁) (L + l₁) stack m = record { status = h.status; over = flatten xs ++ h.over; related = rw (← append_assoc stack (flatten xs) h.over) h.related } in
          failed_less _ _ (omega arith) (omega arith) f

      go : (R L : ℕ) (stack : List ℕ) (res : Result (List (List ℕ))) → Ends tokens (Collected tokens n s₁) all_grown s₁ R L r₁ l₁ stack res
          → Ends tokens (Collected tokens n s₂) all_grown s₂ R L (r₁ + r₂) (l₁ + l₂) stack (elim res [ ok xs m ↦ elim (y m) [ ok a t ↦ ok xs t | err e t ↦ err e t ] | err e m ↦ err e m ])
      go R L stack (ok xs m) h = last R L stack xs h.0 (y m) (q.simulates (R + r₁) (L + l₁) (stack ++ flatten xs) m (represents_less _ _ (omega arith) (omega arith) h.1))
      go R L stack (err e m) h = subst (λ (t : Code). FailedAt tokens t e R L stack m) (sym (q.sticky (failed-fails h))) h

-- one member
pub collected_one : {kept : Kept} {tokens : List ℕ} {l : ℕ} {s s' : Code} (cells : List ℕ) → PushesBy kept tokens l cells s s' → RefinesBy kept tokens 1 l (pure (cells ∷ [])) (Collected tokens 1 s') all_grown 0 1 0 s s'
unfolding pure flatten
collected_one {kept} {tokens} {l} {s} {s'} cells p = record {
  sticky = p.sticky;
  same = p.same;
  monotone = p.monotone;
  progress = p.progress;
  simulates = λ R L stack m h.
      let q : Represents tokens s' (R + 1) L (stack ++ cells) m = represents_less _ _ (omega arith) (omega arith) (p.simulates (R + 1) L stack m (represents_less _ _ (omega arith) (omega arith) h)).1 in
      ((refl, omega (arith, q.related.credit.records, ap length q.related.left)), rw (append-nil cells) (represents_less _ _ (omega arith) (omega arith) q));
}
