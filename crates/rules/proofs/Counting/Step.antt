-- Counting by credit: a token taken earns one; a type, a value number and a doc that waits spend
-- one each.
use mathlib.Core.Path.{◌≡◌, refl, sym, ap, ◌∙◌, subst}
use mathlib.Core.List.{List, [], ◌∷◌, ◌++◌}
use Prim.Native.Nat.{ℕ, suc, ◌+◌, ◌-◌, ◌≤◌, ◌<◌}
use lib.ListN.{length, length-append}
use native.Mathlib.Omega.{arith}
use Rattle.lex.specs.Kind.{k_eof, k_ident, k_doc}
use Rattle.lex.specs.declared.tok.Token.{Token}
use Rattle.rules.specs.Tree.{Notes, State, Result, ok, err}
use Rattle.rules.specs.Combinators.{Rule, current, rest, advance, struck, reject_kind, expect, expect_ident, with_arena, with_docs, push_node_and, push_type, alloc_slice, members, list_until, collect_docs, take_docs}
use Rattle.ast.specs.declared.Node.{Node}
use Rattle.ast.specs.declared.TypeExpr.{TypeExpr}
use Rattle.rules.proofs.Results.{not_kind, Ends, holds, fails, weaken, weaken_both, ended-ok, if_kind_else, if_kind-ok, bind_ok, then_ok, pure-ok, fail-ok, reject_kind-ok, loop-ok}

-- ---- the account

-- Eof last and nowhere else
abbrev pub WellEnded : List Token → Type 0
WellEnded [] = ⊥
WellEnded (t ∷ []) = t.kind ≡ k_eof
WellEnded (t ∷ (u ∷ ts)) = (¬ (t.kind ≡ k_eof)) × WellEnded (u ∷ ts)

pub not_empty : (l : List Token) → WellEnded l → 0 < length l
not_empty [] w = absurd w
not_empty (t ∷ ts) w = omega arith

-- the tokens left and the docs that wait
abbrev pub pending : State → ℕ
pending s = length s.docs + length s.left

-- what is made and what may still be made
abbrev pub potential : State → ℕ
potential s = length s.arena.types + s.arena.values + pending s

-- the state that is counted from
pub record Budget : Type 0 where
  pub tokens : ℕ
  pub pending : ℕ
  pub potential : ℕ

abbrev pub budget : State → Budget
budget s = record { tokens = length s.left; pending = pending s; potential = potential s }

-- of the budget at least `taken` tokens are taken, docs apart, and `credit` is earned and not spent
pub record Accounted (b : Budget) (taken credit : ℕ) (s : State) : Type 0 where
  pub ended : WellEnded s.left
  pub numbered : length s.arena.nodes ≤ s.arena.values
  pub tokens : length s.left + taken ≤ b.tokens
  pub pending : pending s + taken ≤ b.pending
  pub potential : potential s + credit ≤ b.potential

-- the credit that a rule leaves may depend on what it returns; an error too stays within the budget
abbrev pub Counts : {A : Type 0} → Budget → ℕ → (A → ℕ) → Result A → Type 0
Counts b taken credit r = Ends (λ a s. Accounted b taken (credit a) s) (Accounted b 0 0) r

-- counted from `s` itself
pub start : (s : State) → WellEnded s.left → length s.arena.nodes ≤ s.arena.values → Accounted (budget s) 0 0 s
start s w n = record { ended = w; numbered = n; tokens = omega arith; pending = omega arith; potential = omega arith }

module _ {b : Budget} {t c : ℕ} {s : State} (q : Accounted b t c s) where
  pub less : {t' c' : ℕ} → (t' ≤ t) × (c' ≤ c) → Accounted b t' c' s
  less h = record { ended = q.ended; numbered = q.numbered; tokens = omega arith; pending = omega arith; potential = omega arith }

  -- what was taken and earned, left aside
  pub forget : Accounted b 0 0 s
  forget = less (omega arith)

  -- notes count for nothing
  pub renoted : (n : Notes) → Accounted b t c (record { left = s.left; docs = s.docs; arena = s.arena; notes = n })
  renoted n = record { ended = q.ended; numbered = q.numbered; tokens = q.tokens; pending = q.pending; potential = q.potential }

  pub restart : Accounted (budget s) 0 0 s
  restart = start s q.ended q.numbered

  -- and what is counted from here, counted from there
  pub onward : {t' c' : ℕ} {s' : State} → Accounted (budget s) t' c' s' → Accounted b (t + t') (c + c') s'
  onward z = record { ended = z.ended; numbered = z.numbered; tokens = omega (arith, q.tokens, z.tokens); pending = omega (arith, q.pending, z.pending); potential = omega (arith, q.potential, z.potential) }

pub relax : {A : Type 0} {b : Budget} {t t' : ℕ} {credit credit' : A → ℕ} {r : Result A} → Counts b t credit r → ((a : A) → (t' ≤ t) × (credit' a ≤ credit a)) → Counts b t' credit' r
relax h k = weaken h (λ a s q. less q (k a))

-- the budget once so many tokens are taken
abbrev pub spend : ℕ → Budget → Budget
spend t b = record { tokens = b.tokens - t; pending = b.pending - t; potential = b.potential }

module _ {b : Budget} {t c : ℕ} {s : State} where
  pub rebase : Accounted b t c s → Accounted (spend t b) 0 c s
  rebase q = record { ended = q.ended; numbered = q.numbered; tokens = omega arith; pending = omega arith; potential = q.potential }

  -- an error in what follows a token comes after it
  pub after-token : {A : Type 0} {credit : A → ℕ} {r : Result A} → Accounted b (suc t) c s → Counts (spend (suc t) b) 0 credit r → Ends (λ a s'. Accounted b (suc t) (credit a) s') (Accounted b 1 0) r
  after-token q h = weaken_both h (λ a s' z. back z) (λ s' z. less (back z) (omega arith))
    where
      back : {c' : ℕ} {s' : State} → Accounted (spend (suc t) b) 0 c' s' → Accounted b (suc t) c' s'
      back z = record { ended = z.ended; numbered = z.numbered; tokens = omega (arith, q.tokens, z.tokens); pending = omega (arith, q.pending, z.pending); potential = z.potential }

-- ---- tokens

pub shorter : (l : List Token) → WellEnded l → ¬ ((current l).kind ≡ k_eof) → (length (rest l) + 1 ≡ length l) × WellEnded (rest l)
unfolding current rest
shorter [] w n = absurd w
shorter (t ∷ []) w n = absurd (n w)
shorter (t ∷ (u ∷ ts)) w n = (omega arith, w.1)

module _ {E : State → Type 0} {b : Budget} {t c : ℕ} where
  pub advance-counts : (s : State) → Accounted b t c s → ¬ ((current s.left).kind ≡ k_eof) → Ends (λ x s'. Accounted b (suc t) (suc c) s') E (advance s)
  unfolding advance
  advance-counts s q n =
      let z = shorter s.left q.ended n in
      ended-ok _ _ (record { ended = z.1; numbered = q.numbered; tokens = omega arith; pending = omega arith; potential = omega arith })

  pub expect-at : (k : ℕ) (s : State) → Accounted b t c s → (current s.left).kind ≡ k → ¬ (k ≡ k_eof) → Ends (λ x s'. Accounted b (suc t) (suc c) s') E (expect k s)
  unfolding expect
  expect-at k s q e n = if_kind_else k _ _ s (λ z. advance-counts s q (λ y. n (sym e ∙ y))) (λ z. absurd (not_kind _ k z e))

module _ {b : Budget} {t c : ℕ} where
  pub expect-counts : (k : ℕ) (s : State) → Accounted b t c s → ¬ (k ≡ k_eof) → Counts b (suc t) (λ x. suc c) (expect k s)
  unfolding expect
  expect-counts k s q n = if_kind-ok k _ _ s (λ e. advance-counts s q (λ z. n (sym e ∙ z))) (fail-ok 11 k s (forget q))

  pub expect_ident-counts : (s : State) → Accounted b t c s → Counts b (suc t) (λ x. suc c) (expect_ident s)
  unfolding expect_ident
  expect_ident-counts s q = if_kind-ok k_ident _ _ s (λ e. advance-counts s q (omega arith)) (fail-ok 12 0 s (forget q))

  pub reject_kind-counts : (k n : ℕ) (s : State) → Accounted b t c s → Counts b t (λ x. c) (reject_kind k n s)
  reject_kind-counts k n s q = reject_kind-ok k n s q (forget q)

pub struck-counts : {A : Type 0} {b : Budget} {t : ℕ} {credit : A → ℕ} {E : State → Type 0} (x : Rule A) (s : State) → Ends (λ a s'. Accounted b t (credit a) s') E (x s) → Ends (λ a s'. Accounted b t (credit a) s') E (struck x s)
unfolding struck
struck-counts {A} {b} {t} {credit} {E} x s h = go _ (x s) h
  where
    go : (notes : State → Notes) (r : Result A) → Ends (λ a s'. Accounted b t (credit a) s') E r → Ends (λ a s'. Accounted b t (credit a) s') E (elim r as (λ r'. Result A) [ ok a s₁ ↦ ok a (record { left = s₁.left; docs = s₁.docs; arena = s₁.arena; notes = notes s₁ }) | err e s₁ ↦ err e s₁ ])
    go notes r (holds p) = holds (renoted p _)
    go notes r (fails q) = fails q

-- ---- records and lists

module _ {E : State → Type 0} {b : Budget} {t c t' c' : ℕ} where
  pub push_node-counts : (more : ℕ) (f : ℕ → Node) (s : State) → Accounted b t c s → (t' ≤ t) × (c' + 1 + more ≤ c) → Ends (λ x s'. Accounted b t' c' s') E (push_node_and more f s)
  unfolding push_node_and with_arena
  push_node-counts more f s q h = ended-ok _ _ (record { ended = q.ended; numbered = omega (arith, length-append s.arena.nodes (f s.arena.values ∷ [])); tokens = omega arith; pending = omega arith; potential = omega arith })

  pub push_type-counts : (x : TypeExpr) (s : State) → Accounted b t c s → (t' ≤ t) × (c' + 1 ≤ c) → Ends (λ y s'. Accounted b t' c' s') E (push_type x s)
  unfolding push_type with_arena
  push_type-counts x s q h = ended-ok _ _ (record { ended = q.ended; numbered = q.numbered; tokens = omega arith; pending = omega arith; potential = omega (arith, length-append s.arena.types (x ∷ [])) })

pub alloc_slice-counts : {E : State → Type 0} {b : Budget} {t : ℕ} (credit : ℕ → ℕ) (xs : List (List ℕ)) (s : State) → Accounted b t (credit (length xs)) s → Ends (λ r s'. Accounted b t (credit r.len) s') E (alloc_slice xs s)
unfolding alloc_slice with_arena
alloc_slice-counts credit xs s q = ended-ok _ _ (record { ended = q.ended; numbered = q.numbered; tokens = q.tokens; pending = q.pending; potential = q.potential })

-- each member takes a token; `credit` is what so many members leave
module _ {b : Budget} {t : ℕ} (credit : ℕ → ℕ) (stop : ℕ) (item : Rule (List ℕ)) (each : (n : ℕ) (s : State) → Accounted b t (credit n) s → Counts b (suc t) (λ x. credit (suc n)) (item s)) where
  pub members-counts : (s : State) → Accounted b t (credit 0) s → Counts b t (λ xs. credit (length xs)) (members stop item s)
  unfolding members
  members-counts s q = loop-ok (λ xs s'. Accounted b t (credit (length xs)) s') _
      (λ xs s₁ q₁. if_kind-ok k_eof _ _ s₁ (λ e. pure-ok _ s₁ q₁) (if_kind-ok stop _ _ s₁ (λ e. pure-ok _ s₁ q₁)
      (bind_ok item _ s₁ (each (length xs) s₁ q₁) (λ x s₂ q₂.
      let e : suc (length xs) ≡ length (xs ++ (x ∷ [])) = omega (arith, length-append xs (x ∷ [])) in
      pure-ok _ s₂ (subst (λ (n : ℕ). Accounted b t (credit n) s₂) e (less q₂ (omega arith)))))))
      [] s q

  pub list_until-counts : ¬ (stop ≡ k_eof) → (s : State) → Accounted b t (credit 0) s → Counts b (suc t) (λ r. suc (credit r.len)) (list_until stop item s)
  unfolding list_until
  list_until-counts n s q =
      bind_ok _ _ s (members-counts s q) (λ xs s₁ q₁.
      then_ok _ _ s₁ (expect-counts stop s₁ q₁ n) (λ x s₂ q₂.
      alloc_slice-counts (λ m. suc (credit m)) xs s₂ q₂))

-- ---- docs

pub snoc≢nil : (ds : List Token) (d : Token) → ¬ (ds ++ (d ∷ []) ≡ [])
snoc≢nil ds d e = let z = ap length e in omega (arith, length-append ds (d ∷ []))

-- docs collected from `s`: where none wait, or none stood there, nothing is done
pub record Collected (s s' : State) : Type 0 where
  pub empty : s'.docs ≡ [] → s' ≡ s
  pub other : ¬ ((current s.left).kind ≡ k_doc) → s' ≡ s

module _ {E : State → Type 0} {b : Budget} {t c : ℕ} where
  -- a doc that waits has spent what its token earned
  pub collect_docs-counts : (s : State) → Accounted b t c s → Ends (λ n s'. Accounted b t c s' × Collected s s') E (collect_docs s)
  unfolding collect_docs with_docs
  collect_docs-counts s q = loop-ok (λ n s'. Accounted b t c s' × Collected s s') _
      (λ n s₁ q₁. if_kind-ok k_doc _ _ s₁
      (λ e. bind_ok _ _ s₁ (advance-counts s₁ q₁.0 (omega arith)) (λ d s₂ q₂. ended-ok _ _ (
        record { ended = q₂.ended; numbered = q₂.numbered; tokens = omega arith; pending = omega (arith, length-append s₂.docs (d ∷ [])); potential = omega (arith, length-append s₂.docs (d ∷ [])) },
        record { empty = λ z. absurd (snoc≢nil s₂.docs d z); other = λ z. absurd (z (ap (λ (x : State). (current x.left).kind) (sym (q₁.1.other z)) ∙ e)) },
      )))
      (pure-ok _ s₁ q₁))
      0 s (q, record { empty = λ z. refl; other = λ z. refl })

  pub take_docs-counts : (s : State) → Accounted b t c s → Ends (λ r s'. Accounted b t c s' × (s'.left ≡ s.left)) E (take_docs s)
  unfolding take_docs with_docs alloc_slice with_arena
  take_docs-counts s q = ended-ok _ _ (record { ended = q.ended; numbered = q.numbered; tokens = q.tokens; pending = omega arith; potential = omega arith }, refl)
