-- The laws of a match.
use Rattle.std.specs.Prelude.{Option as Answer, Some}
use mathlib.Core.Path.{◌≡◌, refl, sym, ap, subst, ◌∙◌}
use mathlib.Core.Bool.{true, false}
use mathlib.Core.Option.{Option, none, some}
use mathlib.Core.List.{List, [], ◌∷◌, ◌++◌, flatten, append_assoc, append-nil}
use Prim.Native.Nat.{ℕ, ◌+◌, ◌≤◌, ◌%◌, ◌^◌}
use native.Mathlib.Omega.{arith}
use lib.Dec.{eqb}
use lib.ListN.{length, length-append}
use borrow.Author.Tests.{ne_eqb}
use Rattle.lex.specs.Kind.{k_eof, k_curly_left, k_curly_right}
use Rattle.lex.specs.declared.tok.Token.{Token}
use Rattle.tokens.specs.Table.{token_of}
use Rattle.tokens.specs.declared.Entry.{Entry}
use Rattle.rules.specs.Tree.{Notes, State, Result, ok, err}
use Rattle.rules.specs.Combinators.{Rule, Readers, ◌>>=◌, ◌>>◌, pure, cur, current, if_kind, loop, ControlFlow, continue, break, alloc_slice, expect}
use Rattle.ast.specs.Layout.{token_cells, run_cells}
use Rattle.rules.specs.Rules.{Cases, note_after_default, default_case, condition_case, next_case, parse_body}
use Rattle.ast.specs.declared.Run.{Run}
use Rattle.ast.specs.declared.NodeId.{NodeId}
use Rattle.parser_state.specs.Represents.{Code, Kept, kept_of, loan, going, ahead, Represents, FailedAt}
use Rattle.parser_state.specs.Refines.{Ends, stack_unchanged, grown, RefinesBy, ReadsMemberBy, ListsBy, fail_at, member_follows, closed}
use Rattle.parser_state.proofs.Steps.{either, represents_less, represents_going, failed-fails, represents_noted, noted, current_represents, seq, read, looks, done, enough, stops, if_kind-yes}
use Rattle.parser_state.proofs.Cells.{flatten_snoc}
use Rattle.parser_state.proofs.Rounds.{AgainBy, Turned, LoopInvariantBy, again_stops, round_out, if_kind_is_yes, if_kind_is_no}
use Rattle.parser_state.proofs.Loops.{member-going, member-eof, member_stop, no_member}
use Rattle.parser_operators.specs.Matches.{default_of, cases_grown, CasesAre, case_cells, match_node, match_end, match_rest}
use Rattle.parser_operators.specs.declared.DefaultBlock.{DefaultBlock}

-- ---- the default

-- what fails gives no value, of whatever type
pub fail_any : {kept : Kept} {A : Type 0} {tokens : List ℕ} {Q : A → Type 0} {s s' : Code} (number : ℕ) (t : Token) → RefinesBy {A = ℕ} kept tokens 0 0 (fail_at number t) (λ n. n ≡ 0) stack_unchanged 0 0 0 s s' → RefinesBy {A = A} kept tokens 0 0 (fail_at number t) Q stack_unchanged 0 0 0 s s'
unfolding fail_at
fail_any number t p = record { sticky = p.sticky; same = p.same; monotone = p.monotone; progress = p.progress; simulates = λ R L stack m h. p.simulates R L stack m h }

-- ---- a block

module _ {B : Type 0} (c : Cases) (y : Rule B) (m : State) (P : Result B → Type 0) where
  -- a note is no part of what the code holds
  note_then : ((n : Notes) → P (y (noted m n))) → P ((note_after_default c >> y) m)
  unfolding ◌>>◌ note_after_default
  note_then f = go c.default
    where
      go : (o : Option (Token × Run)) → P (elim (elim o as (λ _. Result ℕ) [ none ↦ ok 0 m | some d ↦ ok 1 (noted m (record { marks = m.notes.marks; after_default = m.notes.after_default + 1 })) ]) as (λ _. Result B) [ ok a t ↦ y t | err e t ↦ err e t ])
      go none = f m.notes
      go (some d) = f (record { marks = m.notes.marks; after_default = m.notes.after_default + 1 })

module _ (deeper : Readers) where
  -- what a block does after the note
  abbrev block : Cases → Rule (ControlFlow Cases)
  block c = if_kind k_curly_left (default_case deeper c) (condition_case deeper c) >>= (λ e. pure (continue e))

  -- one case more
  abbrev more : Cases → Result (List ℕ) → Result (ControlFlow Cases)
  more c (ok x t) = ok (continue (record { cases = c.cases ++ (x ∷ []); default = c.default })) t
  more c (err e t) = err e t

  block_condition : (c : Cases) (m : State) → eqb (current m.left).kind k_curly_left ≡ false → block c m ≡ more c (case_cells deeper m)
  unfolding ◌>>=◌ case_cells condition_case pure cur
  block_condition c m e =
      ap (λ (r : Result Cases). elim r as (λ _. Result (ControlFlow Cases)) [ ok a t ↦ ok (continue a) t | err e t ↦ err e t ]) (if_kind_is_no k_curly_left _ _ m e)
      ∙ go (current m.left) (deeper.expr 0 m)
    where
      body : (t : Token) (n : NodeId) (r : Result Run)
          → ◌≡◌ {A = Result (ControlFlow Cases)} (elim (elim r as (λ _. Result Cases) [ ok b s ↦ ok (record { cases = c.cases ++ ((token_cells t ++ (n.0 ∷ run_cells b)) ∷ []); default = c.default }) s | err e s ↦ err e s ]) as (λ _. Result (ControlFlow Cases)) [ ok a s ↦ ok (continue a) s | err e s ↦ err e s ])
          (more c (elim r as (λ _. Result (List ℕ)) [ ok b s ↦ ok (token_cells t ++ (n.0 ∷ run_cells b)) s | err e s ↦ err e s ]))
      body t n (ok b s) = refl
      body t n (err e s) = refl

      go : (t : Token) (r : Result NodeId)
          → ◌≡◌ {A = Result (ControlFlow Cases)} (elim (elim r as (λ _. Result Cases) [ ok n s ↦ elim (parse_body deeper s) [ ok b u ↦ ok (record { cases = c.cases ++ ((token_cells t ++ (n.0 ∷ run_cells b)) ∷ []); default = c.default }) u | err e u ↦ err e u ] | err e s ↦ err e s ]) as (λ _. Result (ControlFlow Cases)) [ ok a s ↦ ok (continue a) s | err e s ↦ err e s ])
          (more c (elim r as (λ _. Result (List ℕ)) [ ok n s ↦ elim (parse_body deeper s) [ ok b u ↦ ok (token_cells t ++ (n.0 ∷ run_cells b)) u | err e u ↦ err e u ] | err e s ↦ err e s ]))
      go t (ok n s) = body t n (parse_body deeper s)
      go t (err e s) = refl

  module _ {kept : Kept} {tokens : List ℕ} {n n' : ℕ} {s s' : Code} (d d' : Answer DefaultBlock) where
    case_again : member_follows s.parser k_curly_right ≡ true → kept_of kept (loan s') ≡ kept_of kept (loan s) → length (ahead tokens s') ≤ length (ahead tokens s) → (going s' ≡ true → length (ahead tokens s') + 1 ≤ length (ahead tokens s))
        → ((R L : ℕ) (stack : List ℕ) (c : Cases) (m : State) → CasesAre tokens d n s c → Represents tokens s R L (stack ++ flatten c.cases) m → Turned tokens (next_case deeper) cases_grown (CasesAre tokens d' n' s') s' R L stack (block c m))
        → AgainBy kept tokens (next_case deeper) cases_grown (CasesAre tokens d n s) (CasesAre tokens d' n' s') s s'
    unfolding next_case
    case_again w e a b f = record {
      same = e;
      monotone = a;
      progress = b;
      flow_value = λ R L stack c m q h.
          let cur : current m.left ≡ token_of s.parser.cur = current_represents h.related in
          subst (Turned tokens (next_case deeper) cases_grown (CasesAre tokens d' n' s') s' R L stack)
          (sym (if_kind_is_no k_eof _ _ m (rw cur (member-eof s.parser k_curly_right w)) ∙ if_kind_is_no k_curly_right _ _ m (rw cur (member_stop s.parser k_curly_right w))))
          (note_then c (block c) m (Turned tokens (next_case deeper) cases_grown (CasesAre tokens d' n' s') s' R L stack) (λ u. f R L stack c (noted m u) q (represents_noted u h)));
    }

  -- the default, which replaces an earlier one
  module _ {kept : Kept} {tokens : List ℕ} {n : ℕ} {run : Run} {s s' : Code} (d : Answer DefaultBlock) where
    default-own : member_follows s.parser k_curly_right ≡ true → s.parser.cur.kind ≡ k_curly_left → RefinesBy kept tokens 0 0 (parse_body deeper) (λ a. a ≡ run) stack_unchanged 1 1 8 s s'
        → AgainBy kept tokens (next_case deeper) cases_grown (CasesAre tokens d n s) (CasesAre tokens (Some (record { token = s.parser.cur; run = run })) n s') s s'
    unfolding default_case
    default-own w k p = case_again d (Some (record { token = s.parser.cur; run = run })) w p.same p.monotone p.progress (λ R L stack c m q h.
        let x : RefinesBy kept tokens 0 0 (block c) (λ e. e ≡ continue (record { cases = c.cases; default = some (token_of s.parser.cur, run) })) stack_unchanged 1 0 0 s s' =
        enough (seq (λ e. pure (continue e)) (if_kind-yes (default_case deeper c) (condition_case deeper c) (read _ looks refl (seq _ p done)) k) done) tt in
        go R L stack c q (block c m) (x.simulates R L (stack ++ flatten c.cases) m (represents_less _ _ (omega arith) (omega arith) h)))
      where
        go : (R L : ℕ) (stack : List ℕ) (c : Cases) → CasesAre tokens d n s c → (r : Result (ControlFlow Cases)) → Ends tokens (λ e. e ≡ continue (record { cases = c.cases; default = some (token_of s.parser.cur, run) })) stack_unchanged s' R L 0 0 (stack ++ flatten c.cases) r
            → Turned tokens (next_case deeper) cases_grown (CasesAre tokens (Some (record { token = s.parser.cur; run = run })) n s') s' R L stack r
        go R L stack c q (ok (continue b) m) h =
            let e : continue b ≡ continue (record { cases = c.cases; default = some (token_of s.parser.cur, run) }) = h.0 in
            let f : b ≡ record { cases = c.cases; default = some (token_of s.parser.cur, run) } = cc in
            subst (λ (x : Cases). CasesAre tokens (Some (record { token = s.parser.cur; run = run })) n s' x × Represents tokens s' R L (stack ++ flatten x.cases) m) (sym f)
            ((refl, (q.1.0, omega (arith, q.1.1, p.monotone))), represents_less _ _ (omega arith) (omega arith) h.1)
        go R L stack c q (ok (break b) m) h = let e : break b ≡ continue (record { cases = c.cases; default = some (token_of s.parser.cur, run) }) = h.0 in let z : ◌≡◌ {A = ℕ} 0 1 = cc in omega arith
        go R L stack c q (err e m) h = record { status = h.status; over = flatten c.cases ++ h.over; related = rw (← append_assoc stack (flatten c.cases) h.over) h.related }

    pub default_again : {t : Entry} → member_follows s.parser k_curly_right ≡ true → t ≡ s.parser.cur → s.parser.cur.kind ≡ k_curly_left → RefinesBy kept tokens 0 0 (parse_body deeper) (λ a. a ≡ run) stack_unchanged 1 1 8 s s'
        → AgainBy kept tokens (next_case deeper) cases_grown (CasesAre tokens d n s) (CasesAre tokens (Some (record { token = t; run = run })) n s') s s'
    default_again w e k p = subst (λ (t : Entry). AgainBy kept tokens (next_case deeper) cases_grown (CasesAre tokens d n s) (CasesAre tokens (Some (record { token = t; run = run })) n s') s s') (sym e) (default-own w k p)

  -- a case
  module _ {kept : Kept} {tokens : List ℕ} {n n' : ℕ} {s s' : Code} (d : Answer DefaultBlock) where
    pub condition_again : member_follows s.parser k_curly_right ≡ true → (s.parser.cur.kind ≡ k_curly_left → ⊥) → ReadsMemberBy kept tokens (case_cells deeper) s s' → n' ≡ (n + 1) % 2 ^ 32
        → AgainBy kept tokens (next_case deeper) cases_grown (CasesAre tokens d n s) (CasesAre tokens d n' s') s s'
    condition_again w k p count = case_again d d w p.same p.monotone p.progress (λ R L stack c m q h.
        let cur : current m.left ≡ token_of s.parser.cur = current_represents h.related in
        subst (Turned tokens (next_case deeper) cases_grown (CasesAre tokens d n' s') s' R L stack) (sym (block_condition c m (rw cur (ne_eqb s.parser.cur.kind k_curly_left k))))
        (go R L stack c q (case_cells deeper m) (p.simulates R L (stack ++ flatten c.cases) m (represents_less _ _ (omega arith) (omega arith) h))))
      where
        go : (R L : ℕ) (stack : List ℕ) (c : Cases) → CasesAre tokens d n s c → (r : Result (List ℕ)) → Ends tokens (λ _. Unit {0}) grown s' R L 0 0 (stack ++ flatten c.cases) r
            → Turned tokens (next_case deeper) cases_grown (CasesAre tokens d n' s') s' R L stack (more c r)
        go R L stack c q (ok x m) h =
            let t : length (ahead tokens s') + 1 ≤ length (ahead tokens s) = p.progress (represents_going h.1) in
            let y : length (c.cases ++ (x ∷ [])) ≡ length c.cases + 1 = length-append c.cases (x ∷ []) in
            ((q.0, (omega (arith, q.1.0, q.1.1), omega (arith, q.1.1))), rw (flatten_snoc c.cases x, ← append_assoc stack (flatten c.cases) x) (represents_less _ _ (omega arith) (omega arith) h.1))
        go R L stack c q (err e m) h = record { status = h.status; over = flatten c.cases ++ h.over; related = rw (← append_assoc stack (flatten c.cases) h.over) h.related }

  -- ---- the end

  module _ {kept : Kept} {tokens : List ℕ} {n mark d₂ r₂ l₂ : ℕ} {Q : NodeId → Type 0} {s₀ s s₂ : Code} (t : Token) (d : Answer DefaultBlock) where
    pub match_end_lem : LoopInvariantBy kept tokens (next_case deeper) cases_grown (record { cases = []; default = none }) (CasesAre tokens d n s) s₀ s → member_follows s.parser k_curly_right ≡ false → mark ≡ s₀.parser.used.scratch
        → ListsBy kept tokens (match_end t (default_of d)) Q d₂ r₂ l₂ mark n s s₂ → RefinesBy kept tokens 0 0 (match_rest deeper t) Q stack_unchanged d₂ r₂ l₂ s₀ s₂
    unfolding match_rest ◌>>=◌ next_case pure flatten
    match_end_lem i w k q = record {
      sticky = λ e. let e₁ : s ≡ s₀ = p.sticky e in q.sticky (ap going e₁ ∙ e) ∙ e₁;
      same = q.same ∙ p.same;
      monotone = omega (arith, p.monotone, q.monotone);
      progress = λ e. omega (arith, p.monotone, q.progress e);
      simulates = λ R L stack m h. go R L stack (sym (k ∙ h.related.lists.stacked)) (loop (next_case deeper) (record { cases = []; default = none }) m) (p.simulates R L stack m h);
    }
      where
        out : (R L : ℕ) (stack : List ℕ) (c : Cases) (m : State) → CasesAre tokens d n s c → Represents tokens s R L stack m → next_case deeper c m ≡ ok (break c) m
        out R L stack c m q h =
            let cur : current m.left ≡ token_of s.parser.cur = current_represents h.related in
            either (eqb s.parser.cur.kind k_eof)
            (λ g. if_kind_is_yes k_eof _ _ m (rw cur g))
            (λ g. if_kind_is_no k_eof _ _ m (rw cur g) ∙ if_kind_is_yes k_curly_right _ _ m (rw cur (no_member s.parser k_curly_right (represents_going h) w g)))

        p : RefinesBy kept tokens 0 0 (loop (next_case deeper) (record { cases = []; default = none })) (CasesAre tokens d n s) cases_grown 0 0 0 s₀ s
        p = round_out i (λ stack. append-nil stack) out

        go : (R L : ℕ) (stack : List ℕ) → length stack ≡ mark → (r : Result Cases) → Ends tokens (CasesAre tokens d n s) cases_grown s R L 0 0 stack r
            → Ends tokens Q stack_unchanged s₂ R L r₂ l₂ stack (elim r as (λ _. Result NodeId) [ ok c m ↦ match_end t c.default c.cases m | err e m ↦ err e m ])
        go R L stack j (ok c m) h =
            subst (λ (o : Option (Token × Run)). Ends tokens Q stack_unchanged s₂ R L r₂ l₂ stack (match_end t o c.cases m)) (sym h.0.0)
            (q.simulates R L stack c.cases m j h.0.1.0 (omega (arith, h.0.1.1, ap length h.1.related.left)) (represents_less _ _ (omega arith) (omega arith) h.1))
        go R L stack j (err e m) h = subst (λ (x : Code). FailedAt tokens x e R L stack m) (sym (q.sticky (failed-fails h))) h

  -- a block that fails ends it
  module _ {kept : Kept} {tokens : List ℕ} {n : ℕ} {Q : Cases → Type 0} {s₀ s s' : Code} (t : Token) (d : Answer DefaultBlock) where
    pub match_stops : LoopInvariantBy kept tokens (next_case deeper) cases_grown (record { cases = []; default = none }) (CasesAre tokens d n s) s₀ s → member_follows s.parser k_curly_right ≡ true
        → AgainBy kept tokens (next_case deeper) cases_grown (CasesAre tokens d n s) Q s s' → going s' ≡ false → RefinesBy kept tokens 0 0 (match_rest deeper t) (λ _. Unit {0}) stack_unchanged 0 0 0 s₀ s'
    unfolding match_rest flatten
    match_stops i w p g = stops _ (again_stops i (member-going s.parser k_curly_right w) p g (λ stack. append-nil stack)) g

  -- the rule as the code takes it apart
  pub match_rest_lem : (t : Token) (m : State)
      → (loop (next_case deeper) (record { cases = []; default = none }) >>= (λ c. expect k_curly_right >> (alloc_slice c.cases >>= (λ cases. match_node t c.default cases)))) m ≡ match_rest deeper t m
  unfolding match_rest match_end closed ◌>>=◌ ◌>>◌
  match_rest_lem t m = go (loop (next_case deeper) (record { cases = []; default = none }) m)
    where
      end : (c : Cases) (r : Result Token)
          → ◌≡◌ {A = Result NodeId} (elim r as (λ _. Result NodeId) [ ok a u ↦ elim (alloc_slice c.cases u) [ ok b v ↦ match_node t c.default b v | err e v ↦ err e v ] | err e u ↦ err e u ])
          (elim (elim r as (λ _. Result Run) [ ok a u ↦ alloc_slice c.cases u | err e u ↦ err e u ]) as (λ _. Result NodeId) [ ok b v ↦ match_node t c.default b v | err e v ↦ err e v ])
      end c (ok a u) = refl
      end c (err e u) = refl

      go : (r : Result Cases)
          → ◌≡◌ {A = Result NodeId} (elim r as (λ _. Result NodeId) [ ok c s ↦ elim (expect k_curly_right s) [ ok a u ↦ elim (alloc_slice c.cases u) [ ok b v ↦ match_node t c.default b v | err e v ↦ err e v ] | err e u ↦ err e u ] | err e s ↦ err e s ])
          (elim r as (λ _. Result NodeId) [ ok c s ↦ elim (elim (expect k_curly_right s) as (λ _. Result Run) [ ok a u ↦ alloc_slice c.cases u | err e u ↦ err e u ]) [ ok b v ↦ match_node t c.default b v | err e v ↦ err e v ] | err e s ↦ err e s ])
      go (ok c s) = end c (expect k_curly_right s)
      go (err e s) = refl
