-- The steps that the code takes itself.
use Rattle.std.proofs.Common.{◌≡◌, ℕ, suc, ◌+◌, ◌%◌, ◌≤◌, Bool, true, false, eqb, List, [], ◌∷◌, ◌++◌, length, sym, refl, ap, ◌∙◌, subst, append-nil, arith, ne_eqb, eqb-true}
use mathlib.Core.List.{flatten}
use borrow.Author.Tests.{eqb-false}
use Rattle.lex.specs.Answer.{max_bytes}
use Rattle.lex.specs.Kind.{k_eof, k_s}
use Rattle.lex.specs.declared.diagnostic.Diagnostic.{Diagnostic}
use Rattle.lex.specs.declared.tok.Token.{Token}
use Rattle.tokens.specs.Table.{token_of, token_at, tokens_from}
use Rattle.tokens.specs.declared.Entry.{Entry}
use Rattle.tokens.proofs.Records.{tokens-last, tokens_more}
use Rattle.rules.specs.Tree.{State}
use Rattle.rules.specs.Combinators.{Rule, rest, advance, at_token}
use Rattle.parser_state.specs.Represents.{Failed, with_token, with_used, Near, Code, Kept, going, from, Related, Represents, FailedAt}
use Rattle.parser_state.specs.Refines.{stack_unchanged, RefinesBy, RefusesBy, TakesBy, ListsBy, fail_at, failed, at_entry}
use Rattle.parser_state.specs.declared.Used.{Used}
use Rattle.parser_state.proofs.Steps.{either, true≢false, some-from, represents_going, represents_less, current_represents}

-- ---- what is used

-- what holds of what was used and of the code, holds of what they are equal to
pub through_used : (s : Code) (f : Used → Used) (P : Used → Code → Type 0) {u : Used} {t : Code} → u ≡ s.parser.used → t ≡ with_used s (f u) → P s.parser.used (with_used s (f s.parser.used)) → P u t
through_used s f P {u} e w h = subst (λ (r : Code). P u r) (sym w) (subst (λ (v : Used). P v (with_used s (f v))) (sym e) h)

-- ---- nothing is done

-- the code has failed before
pub idle : {kept : Kept} {A : Type 0} {tokens : List ℕ} {x : Rule A} {Q : A → Type 0} {grow : A → List ℕ → List ℕ} {r l d r' l' : ℕ} {s : Code} → going s ≡ false → RefinesBy kept tokens r l x Q grow d r' l' s s
idle g = record {
  sticky = λ e. refl;
  same = refl;
  monotone = omega arith;
  progress = λ e. absurd (true≢false e g);
  simulates = λ R L stack m h. absurd (true≢false (represents_going h) g);
}

-- there is no room, which does not happen
pub full : {kept : Kept} {A : Type 0} {tokens : List ℕ} {x : Rule A} {Q : A → Type 0} {grow : A → List ℕ → List ℕ} {r l r' l' : ℕ} {s : Code}
    → ((R L : ℕ) (stack : List ℕ) (m : State) → Related tokens s (R + r) (L + l) stack m → ⊥) → RefinesBy kept tokens r l x Q grow 0 r' l' s s
full f = record {
  sticky = λ e. refl;
  same = refl;
  monotone = omega arith;
  progress = λ e. omega arith;
  simulates = λ R L stack m h. absurd (f R L stack m h.related);
}

-- there is no place, which happens only where the reading has failed
pub no_place : {kept : Kept} {A : Type 0} {tokens : List ℕ} {x : Rule A} {Q : A → Type 0} {grow : A → List ℕ → List ℕ} {r l r' l' : ℕ} {s : Code} {Few Fits : Type 0}
    → (going s ≡ true → Few → Fits → ⊥) → ((R L : ℕ) (stack : List ℕ) (m : State) → Related tokens s (R + r) (L + l) stack m → Few × Fits) → RefinesBy kept tokens r l x Q grow 0 r' l' s s
no_place {s = s} none f = either (going s) (λ g. full (λ R L stack m h. let room = f R L stack m h in none g room.0 room.1)) idle

pub lists_full : {kept : Kept} {A : Type 0} {tokens : List ℕ} {x : List (List ℕ) → Rule A} {Q : A → Type 0} {r' l' mark n : ℕ} {s : Code}
    → ((R L : ℕ) (stack : List ℕ) (xs : List (List ℕ)) (m : State) → length stack ≡ mark → length xs ≡ n → length xs + length m.left ≤ max_bytes + 1 → Related tokens s R L (stack ++ flatten xs) m → ⊥) → ListsBy kept tokens x Q 0 r' l' mark n s s
lists_full f = record {
  sticky = λ e. refl;
  same = refl;
  monotone = omega arith;
  progress = λ e. omega arith;
  simulates = λ R L stack xs m a b few h. absurd (f R L stack xs m a b few h.related);
}

-- ---- tokens

-- what the table holds is the first of the tokens from there on
pub from_at : (tokens : List ℕ) (i : ℕ) → tokens_from tokens i ≡ from tokens (token_at tokens i) i
unfolding from
from_at tokens i = either (eqb (token_at tokens i).kind k_eof)
    (λ b. tokens-last tokens i (eqb-true _ _ b) ∙ rw (b, from) refl)
    (λ b. tokens_more tokens i (eqb-false _ _ b) ∙ rw (b, from) refl)

from_more : (tokens : List ℕ) (t : Token) (at : ℕ) → eqb t.kind k_eof ≡ false → from tokens t at ≡ t ∷ tokens_from tokens (suc at)
unfolding from
from_more tokens t at e = ap (λ (b : Bool). elim b as (λ _. List Token) [ true ↦ t ∷ [] | false ↦ t ∷ tokens_from tokens (suc at) ]) e

rest_from : (tokens : List ℕ) (c t : Token) (at : ℕ) → rest (c ∷ from tokens t at) ≡ from tokens t at
unfolding rest from
rest_from tokens c t at = go (eqb t.kind k_eof)
  where
    go : (b : Bool) → rest (c ∷ elim b [ true ↦ t ∷ [] | false ↦ t ∷ tokens_from tokens (suc at) ]) ≡ elim b [ true ↦ t ∷ [] | false ↦ t ∷ tokens_from tokens (suc at) ]
    go true = refl
    go false = refl

module _ {kept : Kept} (tokens : List ℕ) (s : Code) (t : Entry) where
  -- the token of the next record
  pub taking : going s ≡ true → (s.parser.cur.kind ≡ k_eof → ⊥) → token_of t ≡ token_at tokens (s.parser.at + 1) → TakesBy kept tokens advance s (with_token s t (s.parser.at + 1))
  unfolding advance
  taking g k e = record {
    sticky = λ f. absurd (true≢false g f);
    same = refl;
    monotone = omega (arith, ap length more);
    progress = λ _. omega (arith, ap length more);
    simulates = λ R L stack m h.
        let l : m.left ≡ token_of s.parser.cur ∷ from tokens (token_of t) (s.parser.at + 1) = h.related.left ∙ more in
        let l' : rest m.left ≡ from tokens (token_of t) (s.parser.at + 1) = ap rest l ∙ rest_from tokens (token_of s.parser.cur) (token_of t) (s.parser.at + 1) in (
          current_represents h.related,
          record {
            status = h.status;
            related = record {
              left = l';
              here = e;
              near = h.related.near;
              taken = omega (arith, h.related.taken, ap length l, ap length l');
              few = h.related.few;
              nodes = h.related.nodes;
              types = h.related.types;
              lists = h.related.lists;
              bytes = h.related.bytes;
              credit = record {
                records = omega (arith, h.related.credit.records, ap length l, ap length l');
                numbers = omega (arith, h.related.credit.numbers, ap length l, ap length l');
                room = omega (arith, h.related.credit.room, ap length l, ap length l');
              };
              lent = h.related.lent;
            };
          },
        );
  }
    where
      more : from tokens (token_of s.parser.cur) s.parser.at ≡ token_of s.parser.cur ∷ from tokens (token_of t) (s.parser.at + 1)
      more = from_more tokens (token_of s.parser.cur) s.parser.at (ne_eqb s.parser.cur.kind k_eof k) ∙ ap (λ (ts : List Token). token_of s.parser.cur ∷ ts) (ap (tokens_from tokens) {x = suc s.parser.at} {y = s.parser.at + 1} (omega arith) ∙ from_at tokens (s.parser.at + 1) ∙ ap (λ (u : Token). from tokens u (s.parser.at + 1)) (sym e))

-- no script has so many tokens
pub taking_past : {kept : Kept} (tokens : List ℕ) (s : Code) (start len : ℕ) → going s ≡ true → (s.parser.cur.kind ≡ k_eof → ⊥) → max_bytes ≤ s.parser.at → TakesBy kept tokens advance s (with_token s (record { kind = k_eof; start = start; len = len }) s.parser.at)
unfolding from
taking_past tokens s start len g k z = record {
  sticky = λ f. absurd (true≢false g f);
  same = refl;
  monotone = omega (arith, two);
  progress = λ _. omega (arith, two);
  simulates = λ R L stack m h. absurd (omega (arith, two, h.related.taken, h.related.few, ap length h.related.left));
}
  where
    next : tokens_from tokens (suc s.parser.at) ≡ from tokens (token_at tokens (suc s.parser.at)) (suc s.parser.at)
    next = from_at tokens (suc s.parser.at)

    more : length (from tokens (token_of s.parser.cur) s.parser.at) ≡ suc (length (tokens_from tokens (suc s.parser.at)))
    more = ap length (from_more tokens (token_of s.parser.cur) s.parser.at (ne_eqb s.parser.cur.kind k_eof k))

    two : 2 ≤ length (from tokens (token_of s.parser.cur) s.parser.at)
    two = omega (arith, more, ap length next, some-from tokens (token_at tokens (suc s.parser.at)) (suc s.parser.at))

-- ---- failing

-- a token that starts in a script has the span that it should have
pub at-entry : (number wanted : ℕ) (t : Token) → Near t → at_entry number wanted t ≡ at_token number wanted t
unfolding at_entry at_token
at-entry number wanted t h = either (eqb t.kind k_s)
    (λ b. rw b (let e : (t.start + 1) % 4294967296 ≡ t.start + 1 = omega arith in λ i. record { number = number; start = e i; len = t.len; wanted = wanted; seen = t.kind }))
    (λ b. rw b (let e : (t.start + 0) % 4294967296 ≡ t.start + 0 = omega arith in λ i. record { number = number; start = e i; len = t.len; wanted = wanted; seen = t.kind }))

-- from where the code stands to where it has failed
pub failing_at : {tokens : List ℕ} {s : Code} {R L : ℕ} {stack : List ℕ} {m : State} (e e' : Diagnostic) → e ≡ e' → Represents tokens s R L stack m → FailedAt tokens (failed s e) e' R L stack m
failing_at e e' w h = record {
  status = ap Failed w;
  over = [];
  related = rw append-nil (record { left = h.related.left; here = h.related.here; near = h.related.near; taken = h.related.taken; few = h.related.few; nodes = h.related.nodes; types = h.related.types; lists = h.related.lists; bytes = h.related.bytes; credit = h.related.credit; lent = h.related.lent });
}

module _ {kept : Kept} {tokens : List ℕ} {number wanted : ℕ} {s : Code} {e : Diagnostic} where
  pub failing : going s ≡ true → e ≡ at_entry number wanted (token_of s.parser.cur) → RefusesBy kept tokens number wanted s (failed s e)
  failing g w = record {
    sticky = λ z. absurd (true≢false g z);
    same = refl;
    monotone = omega arith;
    fails = refl;
    simulates = λ R L stack m h.
        let near : Near (token_of s.parser.cur) = subst Near (sym h.related.here) (h.related.near s.parser.at) in
        failing_at _ _ (w ∙ at-entry number wanted (token_of s.parser.cur) near ∙ ap (at_token number wanted) (sym (current_represents h.related))) h;
  }

module _ {kept : Kept} {A : Type 0} {Q : A → Type 0} {d r' l' : ℕ} {tokens : List ℕ} {s : Code} {e : Diagnostic} (number i : ℕ) (t : Entry) (named : token_of t ≡ token_at tokens i) where
  pub failing_before : going s ≡ true → e ≡ at_entry number 0 (token_of t) → RefinesBy {A = A} kept tokens 0 0 (fail_at number (token_at tokens i)) Q stack_unchanged d r' l' s (failed s e)
  unfolding fail_at
  failing_before g w = record {
    sticky = λ z. absurd (true≢false g z);
    same = refl;
    monotone = omega arith;
    progress = λ z. absurd (true≢false z refl);
    simulates = λ R L stack m h.
        let near : Near (token_of t) = subst Near (sym named) (h.related.near i) in
        failing_at _ _ (w ∙ at-entry number 0 (token_of t) near ∙ ap (at_token number 0) named) (represents_less _ _ (omega arith) (omega arith) h);
  }
