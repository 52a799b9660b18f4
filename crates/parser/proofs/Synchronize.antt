-- A reading that has failed goes on at the next token that may begin a root.
use mathlib.Core.Path.{◌≡◌, refl, sym, ap, subst, ◌∙◌}
use mathlib.Core.Bool.{Bool, true, false, not, ◌&&◌}
use mathlib.Core.List.{List, [], ◌++◌, reverse, append-nil}
use mathlib.Core.Logic.{◌⊎◌, inl, inr, ⊎_elim}
use Prim.Native.Nat.{ℕ, ◌≤◌, ◌<◌}
use native.Mathlib.Omega.{arith}
use lib.Dec.{eqb}
use lib.ListN.{length}
use borrow.Author.Tests.{not-true, ne_eqb, eqb-true, eqb-false}
use Rattle.lex.specs.Bytes.{or}
use Rattle.lex.specs.Kind.{k_eof, k_import, k_extern, k_let, k_fn, k_match, k_curly_right}
use Rattle.lex.specs.declared.diagnostic.Diagnostic.{Diagnostic}
use Rattle.tokens.specs.Table.{token_of}
use Rattle.rules.specs.Tree.{State, Result, ok, err}
use Rattle.rules.specs.Combinators.{Rule, ◌>>◌, pure, advance, choose, with_docs, ControlFlow, continue, break}
use Rattle.rules.specs.Parse.{synchronize_by_kind, synchronize_step, synchronize_root}
use Rattle.rules.proofs.Results as Results
use Rattle.parser_state.specs.Represents.{Reading, Going, with_used, with_error, Code, Kept, is_going, Represents, FailedAt}
use Rattle.parser_state.specs.Refines.{Ends, stack_unchanged, RefinesBy}
use Rattle.parser_state.specs.declared.Used.{Used}
use Rattle.parser_state.proofs.Steps.{either, true≢false, and_both, at-kind, then, done, enough, represents_less}
use Rattle.parser_state.proofs.Leaves.{idle}
use Rattle.parser_operators.proofs.Tables.{past, past_all}
use Rattle.parser.specs.Whole.{ResumesBy, root_boundary, skips, synchronizing}

-- ---- what was under construction is given up

abbrev pub emptied : Used → Used
emptied u = record { nodes = u.nodes; values = u.values; types = u.types; docs = u.docs; cells = u.cells; scratch = 0 }

pub resuming : {tokens : List ℕ} {s : Code} {e : Diagnostic} {R L : ℕ} {stack : List ℕ} {m : State} → FailedAt tokens s e R L stack m
    → Represents tokens (with_error (with_used s (emptied s.parser.used)) Going) R L [] m
resuming {stack = stack} {m} h =
    let r = h.related in
    let old = r.lists in
    record {
      status = refl;
      related = record {
        left = r.left;
        here = r.here;
        near = r.near;
        taken = r.taken;
        few = r.few;
        nodes = r.nodes;
        types = r.types;
        lists = record { between = old.between ++ reverse (stack ++ h.over); laid = old.laid ∙ simp append-nil; counted = old.counted; stacked = refl };
        bytes = r.bytes;
        credit = record { records = r.credit.records; numbers = r.credit.numbers; room = omega (arith, r.credit.room) };
        lent = r.lent;
      };
    }

-- ---- to the next token that may begin a root

-- the rule by the tests that the code makes: whether the kind is a boundary, and whether it is `}`
abbrev by_tests : ℕ → Bool → Bool → Rule (ControlFlow ℕ)
by_tests n false curly = advance >> pure (continue n)
by_tests n true false = pure (break n)
by_tests n true true = advance >> pure (break n)

boundary_none : (k : ℕ) → (k ≡ k_let → ⊥) → (k ≡ k_fn → ⊥) → (k ≡ k_import → ⊥) → (k ≡ k_extern → ⊥) → (k ≡ k_match → ⊥) → (k ≡ k_eof → ⊥) → (k ≡ k_curly_right → ⊥) → root_boundary k ≡ false
unfolding root_boundary or
boundary_none k a b c d e f g = λ i. or (ne_eqb k k_let a i) (or (ne_eqb k k_fn b i) (or (ne_eqb k k_import c i) (or (ne_eqb k k_extern d i) (or (ne_eqb k k_match e i) (or (ne_eqb k k_eof f i) (ne_eqb k k_curly_right g i))))))

-- Import, Extern, Let, Fn and Match are numbered one after the other
pub boundary_outside : (k : ℕ) → (k < k_import) ⊎ (k_match < k) → ((k ≡ k_eof) ⊎ (k ≡ k_curly_right) → ⊥) → false ≡ root_boundary k
boundary_outside k h f = sym (boundary_none k (out k_let (omega arith) (omega arith)) (out k_fn (omega arith) (omega arith)) (out k_import (omega arith) (omega arith)) (out k_extern (omega arith) (omega arith)) (out k_match (omega arith) (omega arith)) (λ e. f (inl e)) (λ e. f (inr e)))
  where
    out : (n : ℕ) → k_import ≤ n → n ≤ k_match → k ≡ n → ⊥
    out n p q e = ⊎_elim (λ w. omega arith) (λ w. omega arith) h

pub boundary_inside : (k : ℕ) → k_import ≤ k → k ≤ k_match → true ≡ root_boundary k
unfolding root_boundary or
boundary_inside k p q = either (root_boundary k) (λ z. sym z) (λ z. absurd (omega (arith, is k_let refl z, is k_fn refl z, is k_import refl z, is k_extern refl z, is k_match refl z)))
  where
    is : (n : ℕ) → root_boundary n ≡ true → root_boundary k ≡ false → k ≡ n → ⊥
    is n h z e = true≢false (ap root_boundary e ∙ h) z

pub boundary_end : (k : ℕ) → (k ≡ k_eof) ⊎ (k ≡ k_curly_right) → true ≡ root_boundary k
unfolding root_boundary or
boundary_end k h = ⊎_elim (λ e. sym (ap root_boundary e)) (λ e. sym (ap root_boundary e)) h

module _ (n k : ℕ) where
  by_none : (k ≡ k_let → ⊥) → (k ≡ k_fn → ⊥) → (k ≡ k_import → ⊥) → (k ≡ k_extern → ⊥) → (k ≡ k_match → ⊥) → (k ≡ k_eof → ⊥) → (k ≡ k_curly_right → ⊥) → synchronize_by_kind n k ≡ by_tests n (root_boundary k) (eqb k k_curly_right)
  by_none a b c d e f g = past _ _ _ a ∙ past _ _ _ b ∙ past _ _ _ c ∙ past _ _ _ d ∙ past _ _ _ e ∙ past _ _ _ f ∙ past _ _ _ g ∙ past_all k _
      ∙ ap (λ (z : Bool). by_tests n z (eqb k k_curly_right)) (sym (boundary_none k a b c d e f g))

  by_tests_lem : synchronize_by_kind n k ≡ by_tests n (root_boundary k) (eqb k k_curly_right)
  unfolding choose root_boundary or
  by_tests_lem =
      either (eqb k k_let) (λ e. at k_let e refl) (λ e₁.
      either (eqb k k_fn) (λ e. at k_fn e refl) (λ e₂.
      either (eqb k k_import) (λ e. at k_import e refl) (λ e₃.
      either (eqb k k_extern) (λ e. at k_extern e refl) (λ e₄.
      either (eqb k k_match) (λ e. at k_match e refl) (λ e₅.
      either (eqb k k_eof) (λ e. at k_eof e refl) (λ e₆.
      either (eqb k k_curly_right) (λ e. at k_curly_right e refl) (λ e₇.
      by_none (eqb-false k k_let e₁) (eqb-false k k_fn e₂) (eqb-false k k_import e₃) (eqb-false k k_extern e₄) (eqb-false k k_match e₅) (eqb-false k k_eof e₆) (eqb-false k k_curly_right e₇))))))))
    where
      at : (j : ℕ) → eqb k j ≡ true → synchronize_by_kind n j ≡ by_tests n (root_boundary j) (eqb j k_curly_right) → synchronize_by_kind n k ≡ by_tests n (root_boundary k) (eqb k k_curly_right)
      at j e h = subst (λ (i : ℕ). synchronize_by_kind n i ≡ by_tests n (root_boundary i) (eqb i k_curly_right)) (sym (eqb-true k j e)) h

module _ (p : Reading) where
  pub skips-both : skips p ≡ true → (is_going p.error ≡ true) × (root_boundary p.cur.kind ≡ false)
  unfolding skips
  skips-both e =
      let a = and_both (is_going p.error) (not (root_boundary p.cur.kind)) e in
      (a.0, not-true _ a.1)

  skips_not : skips p ≡ false → is_going p.error ≡ true → root_boundary p.cur.kind ≡ true
  unfolding skips
  skips_not e g = go (is_going p.error) (root_boundary p.cur.kind) e g
    where
      go : (a b : Bool) → (a && not b) ≡ false → a ≡ true → b ≡ true
      go true true h g = refl
      go true false h g = sym h
      go false b h g = absurd (true≢false g refl)

  -- what is passed over is not Eof
  pub skips-some : skips p ≡ true → p.cur.kind ≡ k_eof → ⊥
  unfolding root_boundary or
  skips-some e z = true≢false (ap root_boundary z) (skips-both e).1

-- a step of the rule, by where the code stands
module _ {kept : Kept} {tokens : List ℕ} {s s' : Code} where
  pub continues : skips s.parser ≡ true → RefinesBy kept tokens 0 0 advance (λ t. t ≡ token_of s.parser.cur) stack_unchanged 1 1 8 s s' → RefinesBy kept tokens 0 0 (synchronize_step 0) (λ t. t ≡ continue 0) stack_unchanged 1 0 0 s s'
  continues e p = at-kind (synchronize_by_kind 0) s.parser.cur.kind (rw (by_tests_lem 0 s.parser.cur.kind, (skips-both s.parser e).1) (enough (then p done) tt)) refl

  pub breaks_past : RefinesBy kept tokens 0 0 advance (λ t. t ≡ token_of s.parser.cur) stack_unchanged 1 1 8 s s' → s.parser.cur.kind ≡ k_curly_right → RefinesBy kept tokens 0 0 (synchronize_step 0) (λ t. t ≡ break 0) stack_unchanged 0 0 0 s s'
  unfolding choose
  breaks_past p e = at-kind (synchronize_by_kind 0) k_curly_right (enough (then p done) tt) e

pub breaks_before : {kept : Kept} {tokens : List ℕ} (s : Code) → skips s.parser ≡ false → (s.parser.cur.kind ≡ k_curly_right → ⊥) → RefinesBy kept tokens 0 0 (synchronize_step 0) (λ t. t ≡ break 0) stack_unchanged 0 0 0 s s
breaks_before s e f = either (is_going s.parser.error)
    (λ g. at-kind (synchronize_by_kind 0) s.parser.cur.kind (rw (by_tests_lem 0 s.parser.cur.kind, skips_not s.parser e g, ne_eqb s.parser.cur.kind k_curly_right f) done) refl)
    (λ g. idle g)

-- ---- the two together

-- resynchronising never fails
never_fails : (s : State) → Results.Ends (λ n s'. Unit {0}) (λ s'. ⊥) (synchronizing s)
unfolding synchronizing advance
never_fails s = Results.loop-ok (λ n s'. Unit {0}) _ (λ n s₁ _.
    Results.table_ok _ _ s₁
    (Results.entry-ok _ _ _ _ s₁ (λ e. Results.pure-ok _ s₁ tt)
    (Results.entry-ok _ _ _ _ s₁ (λ e. Results.pure-ok _ s₁ tt)
    (Results.entry-ok _ _ _ _ s₁ (λ e. Results.pure-ok _ s₁ tt)
    (Results.entry-ok _ _ _ _ s₁ (λ e. Results.pure-ok _ s₁ tt)
    (Results.entry-ok _ _ _ _ s₁ (λ e. Results.pure-ok _ s₁ tt)
    (Results.entry-ok _ _ _ _ s₁ (λ e. Results.pure-ok _ s₁ tt)
    (Results.entry-ok _ _ _ _ s₁ (λ e. taken s₁ _)
    (Results.other_ok _ _ s₁ (taken s₁ _)))))))))) 0 s tt
  where
    taken : (s₁ : State) (t : ControlFlow ℕ) → Results.Ends (λ n s'. Unit {0}) (λ s'. ⊥) ((advance >> pure t) s₁)
    taken s₁ t = Results.then_ok {P = λ a s'. Unit {0}} _ _ s₁ (Results.ended-ok _ _ tt) (λ a s₂ _. Results.pure-ok t s₂ tt)

-- where the rule goes on after an error, the code does
pub record Recovered (tokens : List ℕ) (s : Code) (R L : ℕ) (m : State) : Type 0 where
  pub after : State
  pub comes : synchronize_root m ≡ ok 0 after
  pub represents : Represents tokens s R L [] after
  pub fewer : length after.left ≤ length m.left

pub recovered : {kept : Kept} {tokens : List ℕ} {s s₁ s₂ : Code} {e : Diagnostic} {R L : ℕ} {stack : List ℕ} {m : State} → FailedAt tokens s e R L stack m → ResumesBy kept tokens s s₁ → RefinesBy kept tokens 0 0 synchronizing (λ n. n ≡ 0) stack_unchanged 0 0 0 s₁ s₂ → Recovered tokens s₂ R L m
unfolding synchronizing synchronize_root
recovered {kept} {tokens} {s} {s₁} {s₂} {e} {R} {L} {stack} {m} h r p = go (synchronizing (with_docs [] m)) refl (never_fails (with_docs [] m)) (p.simulates R L [] (with_docs [] m) (represents_less _ _ (omega arith) (omega arith) (r.resumes e R L stack m h)))
  where
    go : (res : Result ℕ) → synchronizing (with_docs [] m) ≡ res → Results.Ends (λ n s'. Unit {0}) (λ s'. ⊥) res → Ends tokens (λ n. n ≡ 0) stack_unchanged s₂ R L 0 0 [] res → Recovered tokens s₂ R L m
    go (ok n m₂) c w d = record {
      after = m₂;
      comes = c ∙ ap (λ (j : ℕ). ok j m₂) d.0;
      represents = represents_less _ _ (omega arith) (omega arith) d.1;
      fewer = omega (arith, ap length d.1.related.left, p.monotone, ap length r.same, ap length h.related.left);
    }
    go (err x m₂) c (Results.fails z) d = absurd z
