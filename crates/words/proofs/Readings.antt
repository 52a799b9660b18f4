-- Every error that a reading returns has words: the one that ends it, in both modes, and each that
-- collecting mode gathers.
-- Assumes nothing.
use mathlib.Core.Path.{◌≡◌, refl, sym, subst}
use mathlib.Core.Bool.{Bool, true, false}
use mathlib.Core.Option.{Option}
use mathlib.Core.List.{List, [], ◌∷◌, ◌++◌, map, flatten}
use Prim.Native.Nat.{ℕ, zero, suc, ◌+◌, ◌-◌, ◌<◌, ◌≤◌}
use native.Mathlib.Nat.{le_of_suc-le-suc, not-suc-le-zero}
use native.Mathlib.Omega.{arith}
use lib.Dec.{eqb, leb, ltb}
use lib.ListN.{length, drop}
use borrow.Author.Tests.{le-ltb}
use Rattle.lex.specs.Kind.{k_eof}
use Rattle.lex.specs.Lex.{Occurrence, cut, faults_of}
use Rattle.lex.specs.declared.diagnostic.Diagnostic.{Diagnostic}
use Rattle.rules.specs.Tree.{State, Result, ok, err, Tree}
use Rattle.rules.specs.Combinators as R
use Rattle.rules.specs.Combinators.{Rule, with_docs, ControlFlow, continue, break}
use Rattle.rules.specs.Rules.{readers, max_levels}
use Rattle.rules.specs.Parse.{Reading, read, ended, begin, synchronize_root, Gathered, merged, parse, parse_roots, recover, parse_collect, parse_roots_collect}
use Rattle.ast.specs.Layout.{diagnostic_cells, zeros}
use Rattle.lex.specs.Answer.{max_bytes}
use Rattle.rules.specs.Promise.{Arrays, Outcome, outcome, holding, too_short, promised}
use Rattle.ast.specs.declared.Counts.{Counts}
use Rattle.ast.specs.declared.NodeId.{NodeId}
use Rattle.rules.specs.Parsed as P
use Rattle.rules.proofs.Counting.Whole.{ended≢read}
use Rattle.text.specs.Emit.{plain}
use Rattle.text.specs.Answer.{in_front}
use Rattle.words.specs.Words.{line, has_words, error_of, words, described}
use Rattle.words.proofs.Errors.{Known, Ends, holds, fails, Worded, bind, sequence, branch, value, repeat, entries[], entry, table, advance_worded, readers_worded}
use Rattle.words.proofs.Faults.{tokens-known, AllWorded, faults_worded}

-- each has words
abbrev pub AllDescribed : List Diagnostic → Type 0
AllDescribed [] = Unit {0}
AllDescribed (e ∷ es) = (has_words e ≡ true) × AllDescribed es

begin-known : (script : List ℕ) → Known (begin script)
unfolding begin
begin-known script = record { left = tokens-known script; docs = tt }

-- ---- strict

module _ (power : ℕ → Option ℕ) (script : List ℕ) where
  roots_worded : Worded (parse_roots power script)
  unfolding parse_roots
  roots_worded = repeat (λ roots. branch _ (value _) (bind (readers_worded power script max_levels).prefix (λ n. value _))) []

  pub parse-words : (e : Diagnostic) → parse power script ≡ ended e → has_words e ≡ true
  unfolding parse
  parse-words e p = go (parse_roots power script (begin script)) (roots_worded (begin script) (begin-known script)) p
    where
      go : (r : Result (List ℕ)) → Ends r → elim r as (λ r'. Reading) [ ok roots s ↦ read (record { arena = s.arena; roots = roots }) [] | err x s ↦ ended x ] ≡ ended e → has_words e ≡ true
      go r (holds q) p = ended≢read e _ [] (sym p)
      go r (fails {e = x} w q) p = let same : x ≡ e = cc in subst (λ (d : Diagnostic). has_words d ≡ true) same w

  -- strict mode gathers nothing
  pub parse_gathers : (t : Tree) (es : List Diagnostic) → parse power script ≡ read t es → AllDescribed es
  unfolding parse
  parse_gathers t es p = go (parse_roots power script (begin script)) p
    where
      go : (r : Result (List ℕ)) → elim r as (λ r'. Reading) [ ok roots s ↦ read (record { arena = s.arena; roots = roots }) [] | err x s ↦ ended x ] ≡ read t es → AllDescribed es
      go (ok roots s) p = let same : [] ≡ es = cc in subst AllDescribed same tt
      go (err x s) p = ended≢read x t es p

-- ---- collecting

synchronize_root_worded : Worded synchronize_root
unfolding synchronize_root with_docs
synchronize_root_worded s p =
    repeat (λ n. table (entry (value _) (entry (value _) (entry (value _) (entry (value _) (entry (value _) (entry (value _) (entry (sequence advance_worded (value _)) entries[]))))))) (sequence advance_worded (value _))) 0
    (with_docs [] s) (record { left = p.left; docs = tt })

snoc_worded : (os : List Occurrence) (o : Occurrence) → AllWorded os → has_words o.diagnostic ≡ true → AllWorded (os ++ (o ∷ []))
snoc_worded [] o k h = (h, tt)
snoc_worded (x ∷ os) o k h = (k.0, snoc_worded os o k.1 h)

merged_worded : (n : ℕ) (fs es : List Occurrence) → AllWorded fs → AllWorded es → AllDescribed (merged n fs es)
unfolding merged
merged_worded zero fs es h k = tt
merged_worded (suc n) [] [] h k = tt
merged_worded (suc n) (f ∷ fs) [] h k = (h.0, merged_worded n fs [] h.1 tt)
merged_worded (suc n) [] (e ∷ es) h k = (k.0, merged_worded n [] es tt k.1)
merged_worded (suc n) (f ∷ fs) (e ∷ es) h k = go (leb f.after e.after) (merged_worded n fs (e ∷ es) h.1 k) (merged_worded n (f ∷ fs) es h k.1)
  where
    go : (b : Bool) → AllDescribed (merged n fs (e ∷ es)) → AllDescribed (merged n (f ∷ fs) es)
        → AllDescribed (elim b as (λ b'. List Diagnostic) [ true ↦ f.diagnostic ∷ merged n fs (e ∷ es) | false ↦ e.diagnostic ∷ merged n (f ∷ fs) es ])
    go true a b = (h.0, a)
    go false a b = (k.0, b)

-- how a turn of the loop over roots ends
data Turns : Result (ControlFlow Gathered) → Type 0 where
  again : {g : Gathered} {s : State} → AllWorded g.errors → Known s → Turns (ok (continue g) s)
  out : {g : Gathered} {s : State} → AllWorded g.errors → Turns (ok (break g) s)
  stop : {e : Diagnostic} {s : State} → has_words e ≡ true → Turns (err e s)

-- and the loop
data GathersWorded : Result Gathered → Type 0 where
  gathered : {g : Gathered} {s : State} → AllWorded g.errors → GathersWorded (ok g s)
  stopped : {e : Diagnostic} {s : State} → has_words e ≡ true → GathersWorded (err e s)

module _ (power : ℕ → Option ℕ) (script : List ℕ) where
  recover_turns : (g : Gathered) (e : Diagnostic) (s : State) → AllWorded g.errors → has_words e ≡ true → Known s → Turns (recover power script g e s)
  unfolding recover R.◌>>◌ R.pure
  recover_turns g e s h w q = go (eqb e.number 10)
    where
      more : Occurrence
      more = record { after = length (begin script).left - length s.left; diagnostic = e }

      resume : (r : Result ℕ) → Ends r
          → Turns (elim r as (λ r'. Result (ControlFlow Gathered)) [ ok a s₁ ↦ ok (continue (record { roots = g.roots; errors = g.errors ++ (more ∷ []) })) s₁ | err x s₁ ↦ err x s₁ ])
      resume r (holds q₁) = again (snoc_worded g.errors more h w) q₁
      resume r (fails w₁ q₁) = stop w₁

      go : (b : Bool)
          → Turns (elim b as (λ b'. Result (ControlFlow Gathered)) [ true ↦ err e s | false ↦ (R.◌>>◌ synchronize_root (R.pure (continue (record { roots = g.roots; errors = g.errors ++ (more ∷ []) })))) s ])
      go true = stop w
      go false = resume (synchronize_root s) (synchronize_root_worded s q)

  -- a turn of the loop over roots
  abbrev turn : Gathered → Rule (ControlFlow Gathered)
  turn g = R.if_kind k_eof (R.pure (break g)) (λ s. elim ((readers power script max_levels).prefix s) as (λ r'. Result (ControlFlow Gathered)) [
    | ok m s₁ ↦ ok (continue (record { roots = g.roots ++ (m.0 ∷ []); errors = g.errors })) s₁
    | err e s₁ ↦ recover power script g e s₁
  ])

  turn_turns : (g : Gathered) (s : State) → AllWorded g.errors → Known s → Turns (turn g s)
  unfolding R.if_kind R.by_kind R.pure
  turn_turns g s h q = by_kind_lem (eqb (R.current s.left).kind k_eof)
    where
      root : (r : Result NodeId) → Ends r
          → Turns (elim r as (λ r'. Result (ControlFlow Gathered)) [ ok m s₁ ↦ ok (continue (record { roots = g.roots ++ (m.0 ∷ []); errors = g.errors })) s₁ | err e s₁ ↦ recover power script g e s₁ ])
      root r (holds q₁) = again h q₁
      root r (fails {e} {s = s₁} w q₁) = recover_turns g e s₁ h w q₁

      by_kind_lem : (b : Bool)
          → Turns ((elim b as (λ b'. Rule (ControlFlow Gathered)) [
            | true ↦ R.pure (break g)
            | false ↦ (λ s₀. elim ((readers power script max_levels).prefix s₀) as (λ r'. Result (ControlFlow Gathered)) [
              | ok m s₁ ↦ ok (continue (record { roots = g.roots ++ (m.0 ∷ []); errors = g.errors })) s₁
              | err e s₁ ↦ recover power script g e s₁
            ])
          ]) s)
      by_kind_lem true = out h
      by_kind_lem false = root ((readers power script max_levels).prefix s) ((readers_worded power script max_levels).prefix s q)

  turns_gather : (n : ℕ) (g : Gathered) (s : State) → AllWorded g.errors → Known s → GathersWorded (R.iterate n turn g s)
  unfolding R.iterate
  turns_gather zero g s h q = gathered h
  turns_gather (suc n) g s h q = go (turns_gather n) (turn g s) (turn_turns g s h q)
    where
      go : ((g₁ : Gathered) (s₁ : State) → AllWorded g₁.errors → Known s₁ → GathersWorded (R.iterate n turn g₁ s₁)) → (r : Result (ControlFlow Gathered)) → Turns r
          → GathersWorded (elim r as (λ r'. Result Gathered) [ ok t s₁ ↦ elim t as (λ t'. Result Gathered) [ continue g₁ ↦ R.iterate n turn g₁ s₁ | break g₁ ↦ ok g₁ s₁ ] | err e s₁ ↦ err e s₁ ])
      go next r (again {g = g₁} {s = s₁} h₁ q₁) = next g₁ s₁ h₁ q₁
      go next r (out h₁) = gathered h₁
      go next r (stop w) = stopped w

  collect_gathers : GathersWorded (parse_roots_collect power script (begin script))
  unfolding parse_roots_collect R.loop
  collect_gathers = turns_gather (length (begin script).left) (record { roots = []; errors = [] }) (begin script) tt (begin-known script)

  abbrev finish : Result Gathered → Reading
  finish r = elim r as (λ r'. Reading) [
    | ok g s ↦ (let fs = faults_of 0 (cut script) in read (record { arena = s.arena; roots = g.roots }) (merged (length fs + length g.errors) fs g.errors))
    | err e s ↦ ended e
  ]

  -- the error that ends collecting mode, 10
  pub parse_collect-words : (e : Diagnostic) → parse_collect power script ≡ ended e → has_words e ≡ true
  unfolding parse_collect
  parse_collect-words e p = go (parse_roots_collect power script (begin script)) collect_gathers p
    where
      go : (r : Result Gathered) → GathersWorded r → finish r ≡ ended e → has_words e ≡ true
      go r (gathered h) p = ended≢read e _ _ (sym p)
      go r (stopped {e = x} w) p = let same : x ≡ e = cc in subst (λ (d : Diagnostic). has_words d ≡ true) same w

  -- and all that it gathers, where the script is made of bytes
  pub parse_collect_gathers : plain script ≡ true → (t : Tree) (es : List Diagnostic) → parse_collect power script ≡ read t es → AllDescribed es
  unfolding parse_collect
  parse_collect_gathers bytes t es p = go (parse_roots_collect power script (begin script)) collect_gathers p
    where
      fs : List Occurrence
      fs = faults_of 0 (cut script)

      go : (r : Result Gathered) → GathersWorded r → finish r ≡ read t es → AllDescribed es
      go r (gathered {g} h) p =
          let same : merged (length fs + length g.errors) fs g.errors ≡ es = cc in
          subst AllDescribed same (merged_worded (length fs + length g.errors) fs g.errors (faults_worded script bytes) h)
      go r (stopped {e = x} w) p = ended≢read x t es p

-- ---- what the calls answer

-- the error with a number, of cells that hold five numbers for each
abbrev pub error_in : ℕ → List ℕ → Diagnostic
error_in zero cells = error_of cells
error_in (suc i) cells = error_in i (drop 5 cells)

-- the error that ends a reading has words, and so has each that the diagnostics array holds
pub record Described (o : Outcome) : Type 0 where
  pub error : (e : Diagnostic) → o.answer ≡ P.Error e → has_words e ≡ true
  pub gathered : (c : Counts) → o.answer ≡ P.Tree c → (i : ℕ) → i < c.diagnostics → has_words (error_in i o.arrays.diagnostics) ≡ true

record_words : (es : List Diagnostic) (behind : List ℕ) (i : ℕ) → i < length es → AllDescribed es → has_words (error_in i (flatten (map diagnostic_cells es) ++ behind)) ≡ true
unfolding flatten diagnostic_cells
record_words [] behind i h k = absurd (not-suc-le-zero h)
record_words (e ∷ es) behind zero h k = k.0
record_words (e ∷ es) behind (suc i) h k = record_words es behind i (le_of_suc-le-suc h) k.1

module _ (how : List ℕ → Reading) (script : List ℕ) (l : Arrays)
    (ends : (e : Diagnostic) → how script ≡ ended e → has_words e ≡ true) (gathers : (t : Tree) (es : List Diagnostic) → how script ≡ read t es → AllDescribed es) where
  refused-described : (n : ℕ) → Described (record { answer = P.Refused n; arrays = l })
  refused-described n = record {
    error = λ e p. absurd (let z : ◌≡◌ {A = ℕ} 0 1 = cc in omega arith);
    gathered = λ c p i h. absurd (let z : ◌≡◌ {A = ℕ} 0 1 = cc in omega arith);
  }

  outcome-described : (r : Reading) → how script ≡ r → Described (outcome r l)
  unfolding outcome holding
  outcome-described (read t es) q = record {
    error = λ e p. absurd (let z : ◌≡◌ {A = ℕ} 0 1 = cc in omega arith);
    gathered = λ c p i h.
        let size : c.diagnostics ≡ length es = cc in
        record_words es (zeros (length l.diagnostics - length (flatten (map diagnostic_cells es)))) i (omega arith) (gathers t es q);
  }
  outcome-described (ended x) q = record {
    error = λ e p. let same : x ≡ e = cc in subst (λ (d : Diagnostic). has_words d ≡ true) same (ends x q);
    gathered = λ c p i h. absurd (let z : ◌≡◌ {A = ℕ} 0 1 = cc in omega arith);
  }

  promised-described : Described (promised how script l)
  unfolding promised
  promised-described = by_length (ltb max_bytes (length script))
    where
      by_arrays : (b : Bool) → Described (elim b as (λ b'. Outcome) [ true ↦ record { answer = P.Refused 2; arrays = l } | false ↦ outcome (how script) l ])
      by_arrays true = refused-described 2
      by_arrays false = outcome-described (how script) refl

      by_length : (b : Bool)
          → Described (elim b as (λ b'. Outcome) [ true ↦ record { answer = P.Refused 1; arrays = l } | false ↦ elim (too_short script l) as (λ b'. Outcome) [ true ↦ record { answer = P.Refused 2; arrays = l } | false ↦ outcome (how script) l ] ])
      by_length true = refused-described 1
      by_length false = by_arrays (too_short script l)

module _ (power : ℕ → Option ℕ) (script : List ℕ) (l : Arrays) where
  pub strict-described : Described (promised (parse power) script l)
  strict-described = promised-described (parse power) script l (parse-words power script) (parse_gathers power script)

  pub collecting-described : plain script ≡ true → Described (promised (parse_collect power) script l)
  collecting-described bytes = promised-described (parse_collect power) script l (parse_collect-words power script) (parse_collect_gathers power script bytes)

-- so it is never refused where there is room for a line
pub told : (e : Diagnostic) (buffer : List ℕ) → has_words e ≡ true → 160 ≤ length buffer → described e buffer ≡ in_front (line e) buffer
unfolding described words
told e buffer q h = rw (le-ltb (length buffer) 160 h, described, q)
