-- A loop of the code that reads members up to a closing token.
use Rattle.std.proofs.Common.{◌≡◌, ℕ, zero, suc, ◌+◌, ◌%◌, ◌^◌, ◌<◌, ◌≤◌, Bool, true, false, eqb, List, [], ◌∷◌, ◌++◌, length, sym, refl, ap, ◌∙◌, subst, append_assoc, append-nil, arith, length-append}
use mathlib.Core.List.{flatten}
use borrow.Author.Tests.{not-true, not-false}
use Rattle.lex.specs.Kind.{k_eof}
use Rattle.lex.specs.Answer.{max_bytes}
use Rattle.lex.specs.declared.diagnostic.Diagnostic.{Diagnostic}
use Rattle.lex.specs.declared.tok.Token.{Token}
use Rattle.tokens.specs.Table.{token_of}
use Rattle.rules.specs.Tree.{State, Result, ok, err}
use Rattle.rules.specs.Combinators.{Rule, ◌>>=◌, ◌>>◌, pure, current, expect, alloc_slice, if_kind, ControlFlow, continue, break, iterate, loop, members, list_until}
use Rattle.ast.specs.declared.Run.{Run}
use Rattle.parser_state.specs.Represents.{Reading, Code, Kept, AsNamed, AsLent, kept_of, loan, going, is_going, ahead, Represents, FailedAt}
use Rattle.parser_state.specs.Refines.{Ends, stack_unchanged, grown, all_grown, Collected, RefinesBy, ReadsMemberBy, ListsBy, member_follows, follows_by, closed}
use Rattle.parser_state.specs.Members.{members_until, Calls, ReadsEachBy, ReadsEach}
use Rattle.parser_state.proofs.Steps.{as_kept, lists-after, either, true≢false, represents_going, represents_less, failed-fails, current_represents, left-some}
use Rattle.parser_state.proofs.Cells.{flatten_snoc}
use Rattle.parser_state.proofs.Rounds.{weight, lighter, if_kind_is_yes, if_kind_is_no}

-- one turn
abbrev body : ℕ → Rule (List ℕ) → List (List ℕ) → Rule (ControlFlow (List (List ℕ)))
body stop item xs = if_kind k_eof (pure (break xs)) (if_kind stop (pure (break xs)) (item >>= (λ x. pure (continue (xs ++ (x ∷ []))))))

-- a turn that goes on, after its member
more : ℕ → Rule (List ℕ) → ℕ → List (List ℕ) → Result (List ℕ) → Result (List (List ℕ))
more stop item f xs (ok x m) = iterate f (body stop item) (xs ++ (x ∷ [])) m
more stop item f xs (err e m) = err e m

turn_more : (stop : ℕ) (item : Rule (List ℕ)) (f : ℕ) (xs : List (List ℕ)) (m : State) → eqb (current m.left).kind k_eof ≡ false → eqb (current m.left).kind stop ≡ false
    → iterate (suc f) (body stop item) xs m ≡ more stop item f xs (item m)
unfolding iterate more ◌>>=◌ pure
turn_more stop item f xs m p q =
    ap (λ (t : Result (ControlFlow (List (List ℕ)))). elim t as (λ _. Result (List (List ℕ))) [ ok t s ↦ elim t [ continue b ↦ iterate f (body stop item) b s | break b ↦ ok b s ] | err e s ↦ err e s ])
    (if_kind_is_no k_eof _ _ m p ∙ if_kind_is_no stop _ _ m q)
    ∙ go (item m)
  where
    go : (r : Result (List ℕ)) → elim (elim r as (λ _. Result (ControlFlow (List (List ℕ)))) [ ok x s ↦ ok (continue (xs ++ (x ∷ []))) s | err e s ↦ err e s ]) as (λ _. Result (List (List ℕ))) [ ok t s ↦ elim t [ continue b ↦ iterate f (body stop item) b s | break b ↦ ok b s ] | err e s ↦ err e s ] ≡ more stop item f xs r
    go (ok x s) = refl
    go (err e s) = refl

turn_out : (stop : ℕ) (item : Rule (List ℕ)) (f : ℕ) (xs : List (List ℕ)) (m : State) → body stop item xs m ≡ ok (break xs) m → iterate (suc f) (body stop item) xs m ≡ ok xs m
unfolding iterate
turn_out stop item f xs m e = ap (λ (t : Result (ControlFlow (List (List ℕ)))). elim t as (λ _. Result (List (List ℕ))) [ ok t s ↦ elim t [ continue b ↦ iterate f (body stop item) b s | break b ↦ ok b s ] | err e s ↦ err e s ]) e

-- where a loop stands, `n` members being read: the rule has come as far, or has failed
pub record Live (tokens : List ℕ) (stop : ℕ) (item : Rule (List ℕ)) (s : Code) (n r l : ℕ) (stack : List ℕ) (res : Result (List (List ℕ))) : Type 0 where
  pub fuel : ℕ
  pub xs : List (List ℕ)
  pub m : State
  pub comes : res ≡ iterate fuel (body stop item) xs m
  pub fuelled : length m.left ≤ fuel
  pub count : n ≡ length xs
  pub few : length xs + length m.left ≤ max_bytes + 1
  pub represents : Represents tokens s r l (stack ++ flatten xs) m

pub record Lost (tokens : List ℕ) (s : Code) (r l : ℕ) (stack : List ℕ) (res : Result (List (List ℕ))) : Type 0 where
  pub e : Diagnostic
  pub m : State
  pub comes : res ≡ err e m
  pub failed_at : FailedAt tokens s e r l stack m

pub data Way (tokens : List ℕ) (stop : ℕ) (item : Rule (List ℕ)) (s : Code) (n r l : ℕ) (stack : List ℕ) (res : Result (List (List ℕ))) : Type 0 where
  simulates : Live tokens stop item s n r l stack res → Way tokens stop item s n r l stack res
  lost : Lost tokens s r l stack res → Way tokens stop item s n r l stack res

-- the loop's invariant
pub record MembersInvariant (kept : Kept) (tokens : List ℕ) (stop : ℕ) (item : Rule (List ℕ)) (s₀ s : Code) (n : ℕ) : Type 0 where
  pub sticky : going s₀ ≡ false → s ≡ s₀
  pub same : kept_of kept (loan s) ≡ kept_of kept (loan s₀)
  pub monotone : length (ahead tokens s) ≤ length (ahead tokens s₀)
  pub way : (R L : ℕ) (stack : List ℕ) (m : State) → Represents tokens s₀ R L stack m → Way tokens stop item s n R L stack (members stop item m)

pub midway_start : {kept : Kept} {tokens : List ℕ} {stop : ℕ} {item : Rule (List ℕ)} {s : Code} → MembersInvariant kept tokens stop item s s 0
unfolding members loop flatten
midway_start = record {
  sticky = λ e. refl;
  same = refl;
  monotone = omega arith;
  way = λ R L stack m h. simulates (record { fuel = length m.left; xs = []; m = m; comes = refl; fuelled = omega arith; count = refl; few = omega (arith, h.related.credit.records); represents = rw append-nil h });
}

-- what the loop's test says
member_when : (g e f : Bool) → follows_by g e f ≡ true → (g ≡ true) × (e ≡ false) × (f ≡ false)
member_when true true f p = absurd (true≢false p refl)
member_when true false f p = (refl, refl, not-true f p)
member_when false e f p = absurd (true≢false p refl)

no-member_when : (e f : Bool) → follows_by true e f ≡ false → e ≡ false → f ≡ true
no-member_when true f p q = absurd (true≢false refl q)
no-member_when false f p q = not-false f p

module _ (p : Reading) (stop : ℕ) where
  pub member-going : member_follows p stop ≡ true → is_going p.error ≡ true
  member-going e = (member_when (is_going p.error) (eqb p.cur.kind k_eof) (eqb p.cur.kind stop) e).0

  pub member-eof : member_follows p stop ≡ true → eqb p.cur.kind k_eof ≡ false
  member-eof e = (member_when (is_going p.error) (eqb p.cur.kind k_eof) (eqb p.cur.kind stop) e).1

  pub member_stop : member_follows p stop ≡ true → eqb p.cur.kind stop ≡ false
  member_stop e = (member_when (is_going p.error) (eqb p.cur.kind k_eof) (eqb p.cur.kind stop) e).2

  pub no_member : is_going p.error ≡ true → member_follows p stop ≡ false → eqb p.cur.kind k_eof ≡ false → eqb p.cur.kind stop ≡ true
  no_member g e f = no-member_when (eqb p.cur.kind k_eof) (eqb p.cur.kind stop) (subst (λ (b : Bool). follows_by b (eqb p.cur.kind k_eof) (eqb p.cur.kind stop) ≡ false) g e) f

-- a turn lowers the measure
pub falls : {kept : Kept} {tokens : List ℕ} (stop : ℕ) {item : Rule (List ℕ)} {s s' : Code} → member_follows s.parser stop ≡ true → ReadsMemberBy kept tokens item s s' → weight tokens s' < weight tokens s
falls stop {s = s} w p = lighter (member-going s.parser stop w) p

module _ {kept : Kept} {tokens : List ℕ} {stop : ℕ} {item : Rule (List ℕ)} {s₀ s s' : Code} {n n' : ℕ} where
  pub midway_turn : MembersInvariant kept tokens stop item s₀ s n → member_follows s.parser stop ≡ true → ReadsMemberBy kept tokens item s s' → n' ≡ (n + 1) % 2 ^ 32 → MembersInvariant kept tokens stop item s₀ s' n'
  unfolding more
  midway_turn i w p k = record {
    sticky = λ e. absurd (true≢false (member-going s.parser stop w) (ap going (i.sticky e) ∙ e));
    same = p.same ∙ i.same;
    monotone = omega (arith, i.monotone, p.monotone);
    way = λ R L stack m h. go R L stack (members stop item m) (i.way R L stack m h);
  }
    where
      next : (R L : ℕ) (stack : List ℕ) (f : ℕ) (xs : List (List ℕ)) (m : State) (res : Result (List (List ℕ))) → Represents tokens s R L (stack ++ flatten xs) m → length m.left ≤ suc f → n ≡ length xs → length xs + length m.left ≤ max_bytes + 1
          → (r : Result (List ℕ)) → res ≡ more stop item f xs r → Ends tokens (λ _. Unit {0}) grown s' R L 0 0 (stack ++ flatten xs) r → Way tokens stop item s' n' R L stack res
      next R L stack f xs m res h u c q (ok x m₁) e d =
          let t : length m₁.left + 1 ≤ length m.left = omega (arith, p.progress (represents_going d.1), ap length d.1.related.left, ap length h.related.left) in
          let y : length (xs ++ (x ∷ [])) ≡ length xs + 1 = length-append xs (x ∷ []) in
          simulates (record {
            fuel = f;
            xs = xs ++ (x ∷ []);
            m = m₁;
            comes = e;
            fuelled = omega arith;
            count = omega arith;
            few = omega arith;
            represents = rw (flatten_snoc xs x, ← append_assoc stack (flatten xs) x) (represents_less _ _ (omega arith) (omega arith) d.1);
          })
      next R L stack f xs m res h u c q (err x m₁) e d =
          lost (record { e = x; m = m₁; comes = e; failed_at = record { status = d.status; over = flatten xs ++ d.over; related = rw (← append_assoc stack (flatten xs) d.over) d.related } })

      one : (R L : ℕ) (stack : List ℕ) (f : ℕ) (xs : List (List ℕ)) (m : State) (res : Result (List (List ℕ))) → res ≡ iterate f (body stop item) xs m → length m.left ≤ f → n ≡ length xs
          → length xs + length m.left ≤ max_bytes + 1 → Represents tokens s R L (stack ++ flatten xs) m → Way tokens stop item s' n' R L stack res
      one R L stack zero xs m res e u c q h = absurd (omega (arith, left-some h.related))
      one R L stack (suc f) xs m res e u c q h =
          let cur : current m.left ≡ token_of s.parser.cur = current_represents h.related in
          next R L stack f xs m res h u c q (item m)
          (e ∙ turn_more stop item f xs m (rw cur (member-eof s.parser stop w)) (rw cur (member_stop s.parser stop w)))
          (p.simulates R L (stack ++ flatten xs) m (represents_less _ _ (omega arith) (omega arith) h))

      go : (R L : ℕ) (stack : List ℕ) (res : Result (List (List ℕ))) → Way tokens stop item s n R L stack res → Way tokens stop item s' n' R L stack res
      go R L stack res (simulates v) = one R L stack v.fuel v.xs v.m res v.comes v.fuelled v.count v.few v.represents
      go R L stack res (lost v) = absurd (true≢false (member-going s.parser stop w) (failed-fails v.failed_at))

module _ {kept : Kept} {tokens : List ℕ} {stop : ℕ} {item : Rule (List ℕ)} {s₀ s : Code} {n : ℕ} where
  pub members_end : MembersInvariant kept tokens stop item s₀ s n → member_follows s.parser stop ≡ false → RefinesBy kept tokens 0 0 (members stop item) (Collected tokens n s) all_grown 0 0 0 s₀ s
  unfolding pure
  members_end i w = record {
    sticky = i.sticky;
    same = i.same;
    monotone = i.monotone;
    progress = λ e. omega (arith, i.monotone);
    simulates = λ R L stack m h. go R L stack (members stop item m) (i.way R L stack m (represents_less _ _ (omega arith) (omega arith) h));
  }
    where
      one : (R L : ℕ) (stack : List ℕ) (f : ℕ) (xs : List (List ℕ)) (m : State) (res : Result (List (List ℕ))) → res ≡ iterate f (body stop item) xs m → length m.left ≤ f → n ≡ length xs → length xs + length m.left ≤ max_bytes + 1
          → Represents tokens s R L (stack ++ flatten xs) m → Ends tokens (Collected tokens n s) all_grown s R L 0 0 stack res
      one R L stack zero xs m res e u c q h = absurd (omega (arith, left-some h.related))
      one R L stack (suc f) xs m res e u c q h =
          let cur : current m.left ≡ token_of s.parser.cur = current_represents h.related in
          let stops : body stop item xs m ≡ ok (break xs) m = either (eqb s.parser.cur.kind k_eof)
          (λ g. if_kind_is_yes k_eof _ _ m (rw cur g))
          (λ g. if_kind_is_no k_eof _ _ m (rw cur g) ∙ if_kind_is_yes stop _ _ m (rw cur (no_member s.parser stop (represents_going h) w g))) in
          subst (Ends tokens (Collected tokens n s) all_grown s R L 0 0 stack) (sym (e ∙ turn_out stop item f xs m stops))
          ((sym c, omega (arith, q, ap length h.related.left)), represents_less _ _ (omega arith) (omega arith) h)

      go : (R L : ℕ) (stack : List ℕ) (res : Result (List (List ℕ))) → Way tokens stop item s n R L stack res → Ends tokens (Collected tokens n s) all_grown s R L 0 0 stack res
      go R L stack res (simulates v) = one R L stack v.fuel v.xs v.m res v.comes v.fuelled v.count v.few v.represents
      go R L stack res (lost v) = subst (Ends tokens (Collected tokens n s) all_grown s R L 0 0 stack) (sym v.comes) v.failed_at

module _ {kept : Kept} {tokens : List ℕ} {stop : ℕ} {item : Rule (List ℕ)} {Q : Run → Type 0} {s₀ s s' : Code} {mark n : ℕ} where
  pub midway_end : MembersInvariant kept tokens stop item s₀ s n → member_follows s.parser stop ≡ false → mark ≡ s₀.parser.used.scratch → ListsBy kept tokens (closed stop) Q 1 1 8 mark n s s' → RefinesBy kept tokens 0 0 (list_until stop item) Q stack_unchanged 1 1 8 s₀ s'
  unfolding list_until closed
  midway_end i w k p = lists-after (closed stop) (members_end i w) p k

-- what is asked of a closure, whatever it says of lengths
module _ {tokens : List ℕ} {item : Rule (List ℕ)} {post : Calls} where
  pub each-asked : (kept : Kept) → ReadsEachBy kept tokens item post → ReadsEach tokens item post
  each-asked AsNamed each = each
  each-asked AsLent each = λ u r v h. as_kept AsNamed (each u r v h)

-- a list is its members, and then the cells of a list
pub list_as_members : (stop : ℕ) (item : Rule (List ℕ)) (m : State) → list_until stop item m ≡ (members_until stop item >>= alloc_slice) m
unfolding list_until members_until ◌>>=◌ ◌>>◌ pure
list_as_members stop item m = go (members stop item m)
  where
    ends : (xs : List (List ℕ)) (res : Result Token) → ◌≡◌ {A = Result Run} (elim res as (λ _. Result Run) [ ok t s ↦ alloc_slice xs s | err e s ↦ err e s ])
        (elim (elim res as (λ _. Result (List (List ℕ))) [ ok t s ↦ ok xs s | err e s ↦ err e s ]) as (λ _. Result Run) [ ok ys s ↦ alloc_slice ys s | err e s ↦ err e s ])
    ends xs (ok t s) = refl
    ends xs (err e s) = refl

    go : (res : Result (List (List ℕ))) → ◌≡◌ {A = Result Run} (elim res as (λ _. Result Run) [ ok xs s ↦ elim (expect stop s) [ ok t r ↦ alloc_slice xs r | err e r ↦ err e r ] | err e s ↦ err e s ])
        (elim (elim res as (λ _. Result (List (List ℕ))) [ ok xs s ↦ elim (expect stop s) [ ok t r ↦ ok xs r | err e r ↦ err e r ] | err e s ↦ err e s ]) as (λ _. Result Run) [ ok ys s ↦ alloc_slice ys s | err e s ↦ err e s ])
    go (ok xs s) = ends xs (expect stop s)
    go (err e s) = refl

-- a member that fails ends the loop
module _ {kept : Kept} {tokens : List ℕ} {stop : ℕ} {item : Rule (List ℕ)} {s₀ s s' : Code} {n : ℕ} where
  pub members_stop : MembersInvariant kept tokens stop item s₀ s n → member_follows s.parser stop ≡ true → ReadsMemberBy kept tokens item s s' → going s' ≡ false → RefinesBy kept tokens 0 0 (members stop item) (Collected tokens ((n + 1) % 2 ^ 32) s') all_grown 0 0 0 s₀ s'
  members_stop i w p g = members_end (midway_turn i w p refl) (subst (λ (b : Bool). follows_by b (eqb s'.parser.cur.kind k_eof) (eqb s'.parser.cur.kind stop) ≡ false) (sym g) refl)
