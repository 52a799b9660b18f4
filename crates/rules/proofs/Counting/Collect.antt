-- The collecting mode: what it makes, that it goes to the end, and that each error is met after
-- more tokens than the one before.
use mathlib.Core.Path.{◌≡◌, refl, sym, ap, ◌∙◌, subst}
use mathlib.Core.Bool.{Bool, true, false}
use mathlib.Core.Option.{Option, none}
use mathlib.Core.List.{List, [], ◌∷◌, ◌++◌}
use Prim.Native.Nat.{ℕ, zero, suc, ◌+◌, ◌-◌, ◌≤◌, ◌<◌}
use lib.Dec.{eqb, leb}
use lib.ListN.{length, length-append}
use native.Mathlib.Omega.{arith}
use Rattle.lex.specs.Kind.{k_eof, k_doc}
use Rattle.lex.specs.Lex.{Occurrence, cut, tokens_of, faults_of}
use Rattle.lex.proofs.Steps.{cut_le}
use Rattle.lex.specs.declared.diagnostic.Diagnostic.{Diagnostic}
use Rattle.lex.specs.declared.tok.Token.{Token}
use Rattle.rules.specs.Tree.{State, Result, ok, err, Tree}
use Rattle.rules.specs.Combinators as R
use Rattle.rules.specs.Combinators.{current, with_docs, ControlFlow, continue}
use Rattle.rules.specs.Rules.{readers, max_levels}
use Rattle.rules.specs.Parse.{Reading, read, ended, begin, synchronize_root, Gathered, merged, recover, parse_collect, parse_roots_collect}
use Rattle.ast.specs.declared.NodeId.{NodeId}
use Rattle.rules.proofs.Results.{not_kind, Ends, holds, fails, weaken, if_kind_else, table_ok, entry-ok, entry_else, other_ok, then_ok, pure-ok, Turned, again, out, loop_out}
use Rattle.rules.proofs.Counting.Step.{not_empty, pending, Budget, budget, Accounted, Collected, start, less, forget, restart, onward, advance-counts}
use Rattle.rules.proofs.Counting.Rules.{RootKind, an_import, a_let, a_fn, an_extern, a_match, readers-take, parse_prefix-ends}
use Rattle.rules.proofs.Counting.Whole.{begin_accounted, begin-left, begin_pending, Bounded, bounded, read-tree, ended≢read, Reached, Finished}

-- ---- resynchronising

-- the kinds that it stops before
pub data Stops : ℕ → Type 0 where
  at_root : {k : ℕ} → RootKind k → Stops k
  at_eof : Stops k_eof

a_root : {k : ℕ} → Stops k → ¬ (k ≡ k_eof) → RootKind k
a_root (at_root r) n = r
a_root at_eof n = absurd (n refl)

-- from `s`, a token taken or nothing done
data Moves (s : State) : State → Type 0 where
  still : Moves s s
  moved : {s' : State} → Accounted (budget s) 1 0 s' → Moves s s'

data Synchronized (s : State) : State → Type 0 where
  stopped : Stops (current s.left).kind → Synchronized s s
  passed : {s' : State} → Accounted (budget s) 1 0 s' → Synchronized s s'

module _ {s : State} where
  stop : {s' : State} {k : ℕ} → Moves s s' → Stops k → (current s'.left).kind ≡ k → Synchronized s s'
  stop still h e = stopped (subst Stops (sym e) h)
  stop (moved z) h e = passed z

  moves_account : {s' : State} → Accounted (budget s) 0 0 s → Moves s s' → Accounted (budget s) 0 0 s'
  moves_account q still = q
  moves_account q (moved z) = forget z

-- it drops the docs that wait, and then takes a token or stands before one that it stops at
synchronize_root-ends : {E : State → Type 0} {b : Budget} {t c : ℕ} (s : State) → Accounted b t c s → Ends (λ n s'. Synchronized (with_docs [] s) s') E (synchronize_root s)
unfolding synchronize_root with_docs
synchronize_root-ends s q = loop_out (λ s'. length s'.left) (λ n s'. Moves (with_docs [] s) s') _ (λ n s₁ m. not_empty s₁.left (moves_account dropped m).ended) _
    (λ n s₁ m. table_ok _ _ s₁
    (entry-ok _ _ _ _ s₁ (λ e. pure-ok _ s₁ (out (stop m (at_root a_let) e)))
    (entry-ok _ _ _ _ s₁ (λ e. pure-ok _ s₁ (out (stop m (at_root a_fn) e)))
    (entry-ok _ _ _ _ s₁ (λ e. pure-ok _ s₁ (out (stop m (at_root an_import) e)))
    (entry-ok _ _ _ _ s₁ (λ e. pure-ok _ s₁ (out (stop m (at_root an_extern) e)))
    (entry-ok _ _ _ _ s₁ (λ e. pure-ok _ s₁ (out (stop m (at_root a_match) e)))
    (entry_else _ _ _ _ s₁ (λ e. pure-ok _ s₁ (out (stop m at_eof e))) (λ n₁.
    (entry-ok _ _ _ _ s₁ (λ e. then_ok _ _ s₁ (taken s₁ m n₁) (λ x s₂ z. pure-ok _ s₂ (out (passed z.0))))
    (other_ok _ _ s₁ (then_ok _ _ s₁ (taken s₁ m n₁) (λ x s₂ z. pure-ok _ s₂ (again (moved z.0) z.1)))))))))))))
    0 (with_docs [] s) still (omega arith)
  where
    dropped : Accounted (budget (with_docs [] s)) 0 0 (with_docs [] s)
    dropped = start (with_docs [] s) q.ended q.numbered

    taken : {E : State → Type 0} (s₁ : State) → Moves (with_docs [] s) s₁ → eqb (current s₁.left).kind k_eof ≡ false → Ends (λ x s₂. Accounted (budget (with_docs [] s)) 1 0 s₂ × (length s₂.left < length s₁.left)) E (R.advance s₁)
    taken s₁ m n = weaken (advance-counts s₁ (restart (moves_account dropped m)) (not_kind _ _ n)) (λ x s₂ z. (less (onward (moves_account dropped m) z) (omega arith), omega (arith, z.tokens)))

-- ---- errors

-- each error, where resynchronising begins, comes after more tokens than the one before it, and all
-- after fewer than `n`
pub data Ascending : ℕ → List Occurrence → Type 0 where
  asc[] : {n : ℕ} → Ascending n []
  asc_snoc : {n : ℕ} {es : List Occurrence} (e : Occurrence) → Ascending e.after es → e.after < n → Ascending n (es ++ (e ∷ []))

asc_mono : {m n : ℕ} {es : List Occurrence} → Ascending m es → m ≤ n → Ascending n es
asc_mono asc[] h = asc[]
asc_mono {n} (asc_snoc e a l) h = asc_snoc {n = n} e a (omega arith)

no-doc : {k : ℕ} → RootKind k → ¬ (k ≡ k_doc)
no-doc an_import = omega arith
no-doc a_let = omega arith
no-doc a_fn = omega arith
no-doc an_extern = omega arith
no-doc a_match = omega arith

merged-length : (n : ℕ) (fs es : List Occurrence) → length (merged n fs es) ≤ n
unfolding merged
merged-length zero fs es = omega arith
merged-length (suc n) [] [] = omega arith
merged-length (suc n) (f ∷ fs) [] = let h = merged-length n fs [] in omega arith
merged-length (suc n) [] (e ∷ es) = let h = merged-length n [] es in omega arith
merged-length (suc n) (f ∷ fs) (e ∷ es) = go (leb f.after e.after) (merged-length n fs (e ∷ es)) (merged-length n (f ∷ fs) es)
  where
    go : (b : Bool) → length (merged n fs (e ∷ es)) ≤ n → length (merged n (f ∷ fs) es) ≤ n → length {A = Diagnostic} (elim b as (λ b'. List Diagnostic) [ true ↦ f.diagnostic ∷ merged n fs (e ∷ es) | false ↦ e.diagnostic ∷ merged n (f ∷ fs) es ]) ≤ suc n
    go true h k = omega arith
    go false h k = omega arith

read-errors : (t u : Tree) (es fs : List Diagnostic) → read t es ≡ read u fs → es ≡ fs
read-errors t u es fs e = cc

-- how a root fails that begins at `s`
data Fails (s : State) : State → Type 0 where
  later : {s' : State} → Accounted (budget s) 1 0 s' → Fails s s'
  waits : {s' : State} → Accounted (budget s) 0 0 s' → ¬ (s'.docs ≡ []) → Collected s s' → Fails s s'
  stays : s.docs ≡ [] → ¬ (RootKind (current s.left).kind) → Fails s s

module _ {s : State} (q : Accounted (budget s) 0 0 s) where
  failed : {s' : State} → Fails s s' → Accounted (budget s) 0 0 s'
  failed (later z) = forget z
  failed (waits z d k) = z
  failed (stays d n) = q

  -- a root that begins after resynchronising fails after a token
  root-moves : {s' : State} → s.docs ≡ [] → RootKind (current s.left).kind → Fails s s' → length s'.left < length s.left
  root-moves e r (later z) = omega (arith, z.tokens)
  root-moves e r (waits z d k) = absurd (d (ap (λ (x : State). x.docs) (k.other (no-doc r)) ∙ e))
  root-moves e r (stays d n) = absurd (n r)

-- ---- an error and what follows it

synchronized_account : {s₁ s₂ : State} → Accounted (budget s₁) 0 0 s₁ → Synchronized (with_docs [] s₁) s₂ → Accounted (budget s₁) 0 0 s₂
unfolding with_docs
synchronized_account q (stopped h) = record { ended = q.ended; numbered = q.numbered; tokens = omega arith; pending = omega arith; potential = omega arith }
synchronized_account q (passed z) = record { ended = z.ended; numbered = z.numbered; tokens = omega (arith, z.tokens); pending = omega (arith, z.pending); potential = omega (arith, z.potential) }

some_wait : (l : List Token) → ¬ (l ≡ []) → 0 < length l
some_wait [] n = absurd (n refl)
some_wait (t ∷ ts) n = omega arith

-- a turn that ends in an error lowers what is pending
fewer : (s s₁ s₂ : State) → ¬ ((current s.left).kind ≡ k_eof) → Fails s s₁ → Synchronized (with_docs [] s₁) s₂ → pending s₂ < pending s
unfolding with_docs
fewer s s₁ s₂ n (later z) (stopped h) = omega (arith, z.pending)
fewer s s₁ s₂ n (later z) (passed y) = omega (arith, z.pending, y.pending)
fewer s s₁ s₂ n (waits z d k) (stopped h) = omega (arith, z.pending, some_wait s₁.docs d)
fewer s s₁ s₂ n (waits z d k) (passed y) = omega (arith, z.pending, y.pending)
fewer s s₁ s₂ n (stays d r) (stopped h) = absurd (r (a_root h n))
fewer s s₁ s₂ n (stays d r) (passed y) = omega (arith, y.pending)

module _ (script : List ℕ) where
  -- the tokens taken before `s`
  abbrev pub before : State → ℕ
  before s = length (begin script).left - length s.left

  -- either a token is taken since the last error, or the next root will take one before it fails
  pub data Since (es : List Occurrence) (s : State) : Type 0 where
    token_taken : Ascending (before s) es → Since es s
    synchronized : s.docs ≡ [] → Stops (current s.left).kind → Since es s

  -- what every turn of the loop over roots keeps
  pub record Gathers (g : Gathered) (s : State) : Type 0 where
    pub reached : Reached script s
    pub ascending : Ascending (suc (before s)) g.errors
    pub few_errors : length g.errors + pending s ≤ length (begin script).left
    pub few_roots : length g.roots + length s.left ≤ length (begin script).left
    pub since : Since g.errors s

  -- what is gathered when the roots are read
  pub record Complete (g : Gathered) (s : State) : Type 0 where
    pub finished : Finished script g.roots s
    pub ascending : Ascending (suc (before s)) g.errors
    pub few_errors : length g.errors < length (begin script).left

  -- a new error comes after the errors so far
  error-after : {es : List Occurrence} (s s₁ : State) → Reached script s → ¬ ((current s.left).kind ≡ k_eof) → Ascending (suc (before s)) es → Since es s → Fails s s₁ → Ascending (before s₁) es
  error-after s s₁ q n a (token_taken z) f = let w = failed (restart q) f in asc_mono z (omega (arith, w.tokens, q.tokens))
  error-after s s₁ q n a (synchronized d h) f = let w = root-moves (restart q) d (a_root h n) f in asc_mono a (omega (arith, q.tokens))

  -- after resynchronising from an error at `s₁`
  since-error : {es : List Occurrence} (s₁ s₂ : State) → Reached script s₁ → Ascending (suc (before s₁)) es → Synchronized (with_docs [] s₁) s₂ → Since es s₂
  unfolding with_docs
  since-error s₁ s₂ q a (stopped h) = synchronized refl h
  since-error s₁ s₂ q a (passed z) = token_taken (asc_mono a (omega (arith, q.tokens, z.tokens)))

-- ---- the roots

module _ (power : ℕ → Option ℕ) (eof : power k_eof ≡ none) (script : List ℕ) where
  root_ends : (l : ℕ) {b : Budget} {t c : ℕ} (s : State) → Accounted b t c s → Ends (λ n s'. Accounted (budget s) 1 0 s') (Fails s) ((readers power script (suc l)).prefix s)
  unfolding readers
  root_ends l s q = parse_prefix-ends _ (readers-take power eof script l) s (restart q) (λ s' z. later z) (λ s' z d k. waits z d k) (λ d n. stays d n)

  abbrev pub Turn : State → ControlFlow Gathered → State → Type 0
  Turn s = Turned pending (Gathers script) (Complete script) s

  recover-ends : (g : Gathered) (e : Diagnostic) (s s₁ : State) → Gathers script g s → ¬ ((current s.left).kind ≡ k_eof) → Fails s s₁ → Ends (Turn s) (Reached script) (recover power script g e s₁)
  unfolding recover
  recover-ends g e s s₁ q n f = go (eqb e.number 10)
    where
      q₁ : Reached script s₁
      q₁ = onward q.reached (failed (restart q.reached) f)

      x : Occurrence
      x = record { after = before script s₁; diagnostic = e }

      a : Ascending (suc (before script s₁)) (g.errors ++ (x ∷ []))
      a = asc_snoc {n = suc (before script s₁)} x (error-after script s s₁ q.reached n q.ascending q.since f) (omega arith)

      go : (z : Bool) → Ends (Turn s) (Reached script) (elim z as (λ z'. Result (ControlFlow Gathered)) [ true ↦ err e s₁ | false ↦ (R.◌>>◌ synchronize_root (R.pure (continue (record { roots = g.roots; errors = g.errors ++ (x ∷ []) })))) s₁ ])
      go true = fails q₁
      go false = then_ok _ _ s₁ (synchronize_root-ends s₁ q₁) (λ m s₂ y.
          let w : Accounted (budget s₁) 0 0 s₂ = synchronized_account (restart q₁) y in
          let l : pending s₂ < pending s = fewer s s₁ s₂ n f y in
          let h : Gathers script (record { roots = g.roots; errors = g.errors ++ (x ∷ []) }) s₂ = record {
            reached = onward q₁ w;
            ascending = asc_mono a (omega (arith, w.tokens));
            few_errors = omega (arith, q.few_errors, length-append g.errors (x ∷ []));
            few_roots = omega (arith, q.few_roots, (failed (restart q.reached) f).tokens, w.tokens);
            since = since-error script s₁ s₂ q₁ a y;
          } in
          pure-ok _ s₂ (again h l))

  -- a turn of the loop over roots
  abbrev pub turn : Gathered → R.Rule (ControlFlow Gathered)
  turn g = R.if_kind k_eof (R.pure (R.break g)) (λ s. elim ((readers power script max_levels).prefix s) as (λ r'. Result (ControlFlow Gathered)) [
    | ok m s₁ ↦ ok (continue (record { roots = g.roots ++ (m.0 ∷ []); errors = g.errors })) s₁
    | err e s₁ ↦ recover power script g e s₁
  ])

  pub some_pending : {s : State} → Reached script s → 0 < pending s
  some_pending {s} q = omega (arith, not_empty s.left q.ended)

  pub turn_ends : (g : Gathered) (s : State) → Gathers script g s → Ends (Turn s) (Reached script) (turn g s)
  turn_ends g s q = if_kind_else k_eof _ _ s
      (λ e. pure-ok _ s (out (record { finished = record { reached = q.reached; at_eof = e; few_roots = q.few_roots }; ascending = q.ascending; few_errors = omega (arith, q.few_errors, some_pending q.reached) })))
      (λ n. go (not_kind _ _ n) ((readers power script max_levels).prefix s) (root_ends 127 s q.reached))
    where
      go : ¬ ((current s.left).kind ≡ k_eof) → (r : Result NodeId) → Ends (λ n s'. Accounted (budget s) 1 0 s') (Fails s) r
          → Ends (Turn s) (Reached script) (elim r as (λ r'. Result (ControlFlow Gathered)) [ ok m s₁ ↦ ok (continue (record { roots = g.roots ++ (m.0 ∷ []); errors = g.errors })) s₁ | err e s₁ ↦ recover power script g e s₁ ])
      go n r (holds {a = m} {s = s₁} z) =
          let h : Gathers script (record { roots = g.roots ++ (m.0 ∷ []); errors = g.errors }) s₁ = record {
            reached = forget (onward q.reached z);
            ascending = asc_mono q.ascending (omega (arith, z.tokens));
            few_errors = omega (arith, q.few_errors, z.pending);
            few_roots = omega (arith, q.few_roots, z.tokens, length-append g.roots (m.0 ∷ []));
            since = token_taken (asc_mono q.ascending (omega (arith, z.tokens, q.reached.tokens)));
          } in
          holds (again h (omega (arith, z.pending)))
      go n r (fails {e} {s = s₁} f) = recover-ends g e s s₁ q n f

  pub begin_gathers : Gathers script (record { roots = []; errors = [] }) (begin script)
  begin_gathers = record { reached = begin_accounted script; ascending = asc[]; few_errors = omega (arith, begin_pending script); few_roots = omega arith; since = token_taken asc[] }

  -- where it is not ended by 10, collecting goes to the end, and meets each error after more tokens
  -- than the one before
  pub parse_roots_collect-ends : Ends (Complete script) (Reached script) (parse_roots_collect power script (begin script))
  unfolding parse_roots_collect
  parse_roots_collect-ends = loop_out pending (Gathers script) (Complete script) (λ g s q. some_pending q.reached) turn turn_ends (record { roots = []; errors = [] }) (begin script) begin_gathers (begin_pending script)

  module _ (tree : Tree) (es : List Diagnostic) where
    abbrev Collects : Type 0
    Collects = Bounded script tree × (length es < length (tokens_of (cut script)) + length (faults_of 0 (cut script)))

    collects : parse_collect power script ≡ read tree es → Collects
    unfolding parse_collect
    collects e = go (parse_roots_collect power script (begin script)) parse_roots_collect-ends e
      where
        fs : List Occurrence
        fs = faults_of 0 (cut script)

        go : (r : Result Gathered) → Ends (Complete script) (Reached script) r
            → elim r as (λ r'. Reading) [ ok g s ↦ read (record { arena = s.arena; roots = g.roots }) (merged (length fs + length g.errors) fs g.errors) | err x s ↦ ended x ] ≡ read tree es → Collects
        go r (holds {a = g} {s} q) e = (
          subst (Bounded script) (read-tree _ tree _ es e) (bounded script g.roots s q.finished),
          omega (arith, ap length (read-errors _ tree _ es e), merged-length (length fs + length g.errors) fs g.errors, q.few_errors, begin-left script),
        )
        go r (fails {e = x} q) e = ended≢read x tree es e

    pub parse_collect_bounded : parse_collect power script ≡ read tree es → Bounded script tree
    parse_collect_bounded e = (collects e).0

    -- no more errors than bytes: a token but Eof, or a fault of the lexer, for each
    pub parse_collect-errors : parse_collect power script ≡ read tree es → length es ≤ length script
    parse_collect-errors e = omega (arith, (collects e).1, cut_le script)
