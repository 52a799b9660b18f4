-- What cutting leaves is what is promised.
-- Assumes nothing.
use mathlib.Core.Path.{◌≡◌, refl, ◌∙◌, sym, ap}
use mathlib.Core.Bool.{Bool, true, false}
use mathlib.Core.List.{List, ◌++◌, flatten, append-nil}
use Prim.Native.Nat.{ℕ, ◌+◌, ◌*◌, ◌-◌, ◌≤◌, ◌<◌}
use native.Mathlib.Omega.{arith}
use lib.ListN.{length, take}
use lib.Dec.{ltb}
use borrow.Author.Tests.{lt-ltb, le-ltb, ltb-false}
use Rattle.lex.specs.Bytes.{or}
use Rattle.lex.specs.Lex.{cut_at, cut, tokens_of, faults_of}
use Rattle.lex.proofs.Laws.{false-true}
use Rattle.lex.proofs.Steps.{cut_le}
use Rattle.tokens.specs.declared.Stop.{Stop}
use Rattle.tokens.specs.declared.TableCounts.{TableCounts}
use Rattle.std.specs.Prelude.{Option, None}
use Rattle.tokens.specs.Filling.{tokens_left, errors_left, Stops}
use Rattle.lex.specs.Answer as A
use Rattle.lex.specs.Cells.{zeros}
use Rattle.tokens.specs.Tables.{token_records, error_records, token_table, error_table, counts_of, tabled, too_short, limits, Outcome, promised, is_cut}
use Rattle.tokens.proofs.Progress.{token-records-length, error-records-length, some-token, made-left, met-left}

module _ (script ts es : List ℕ) where
  pub too_long : 65536 < length script → promised script ts es ≡ record { answer = A.refused 1; tokens = ts; errors = es }
  unfolding promised
  too_long h = rw (lt-ltb 65536 (length script) h, promised)

  pub wide : too_short script ts es ≡ false → (4 * length script + 4 ≤ length ts) × (6 * length script ≤ length es)
  unfolding too_short or
  wide = go (ltb (length ts) (4 * length script + 4)) refl
    where
      go : (t : Bool) → ltb (length ts) (4 * length script + 4) ≡ t → or t (ltb (length es) (6 * length script)) ≡ false → (4 * length script + 4 ≤ length ts) × (6 * length script ≤ length es)
      go true q e = false-true (sym e)
      go false q e = (ltb-false (length ts) (4 * length script + 4) q, ltb-false (length es) (6 * length script) e)

  pub long_enough : 4 * length script + 4 ≤ length ts → 6 * length script ≤ length es → too_short script ts es ≡ false
  unfolding too_short or
  long_enough k h = rw (le-ltb (length ts) (4 * length script + 4) k, or) (le-ltb (length es) (6 * length script) h)

  -- no limit is passed
  pub record Room : Type 0 where
    pub short : length script ≤ 65536
    pub tokens : 4 * length script + 4 ≤ length ts
    pub errors : 6 * length script ≤ length es

  pub too_short_lem : length script ≤ 65536 → too_short script ts es ≡ true → promised script ts es ≡ record { answer = A.refused 2; tokens = ts; errors = es }
  unfolding promised
  too_short_lem h e = rw (le-ltb 65536 (length script) h, promised) (rw (e, promised))

  -- and no limit is passed where nothing is refused
  pub has_room : {u : Unit {0}} → A.answer u ≡ limits script ts es → Room
  unfolding limits
  has_room {u} = go (ltb 65536 (length script)) refl (too_short script ts es) refl
    where
      no : {n : ℕ} {X : Type 0} → ◌≡◌ {A = A.Answer (Unit {0})} (A.answer u) (A.refused n) → X
      no e = let z : ◌≡◌ {A = ℕ} 0 1 = cc in absurd (omega arith)

      go : (l : Bool) → ltb 65536 (length script) ≡ l → (s : Bool) → too_short script ts es ≡ s
          → A.answer u ≡ elim l as (λ (_ : Bool). A.Answer (Unit {0})) [ true ↦ A.refused 1 | false ↦ elim s as (λ (_ : Bool). A.Answer (Unit {0})) [ true ↦ A.refused 2 | false ↦ A.answer tt ] ] → Room
      go true p s q e = no e
      go false p true q e = no e
      go false p false q e =
          let w = wide q in
          record { short = ltb-false 65536 (length script) p; tokens = w.0; errors = w.1 }

  -- what is refused leaves both arrays
  pub refused_left : {n : ℕ} → A.refused n ≡ limits script ts es → promised script ts es ≡ record { answer = A.refused n; tokens = ts; errors = es }
  unfolding limits promised
  refused_left {n} = go (ltb 65536 (length script)) (too_short script ts es)
    where
      go : (l s : Bool) → A.refused n ≡ elim l as (λ (_ : Bool). A.Answer (Unit {0})) [ true ↦ A.refused 1 | false ↦ elim s as (λ (_ : Bool). A.Answer (Unit {0})) [ true ↦ A.refused 2 | false ↦ A.answer tt ] ]
          → elim l as (λ (_ : Bool). Outcome) [ true ↦ record { answer = A.refused 1; tokens = ts; errors = es } | false ↦ elim s as (λ (_ : Bool). Outcome) [ true ↦ record { answer = A.refused 2; tokens = ts; errors = es } | false ↦ tabled script ts es ] ]
          ≡ record { answer = A.refused n; tokens = ts; errors = es }
      go true s e = let z : 1 ≡ n = cc in λ i. record { answer = A.refused (z i); tokens = ts; errors = es }
      go false true e = let z : 2 ≡ n = cc in λ i. record { answer = A.refused (z i); tokens = ts; errors = es }
      go false false e = let z : ◌≡◌ {A = ℕ} 0 1 = cc in absurd (omega arith)

  pub refused_uncut : {n : ℕ} → A.refused n ≡ limits script ts es → is_cut script ts es ≡ false
  unfolding limits is_cut
  refused_uncut {n} = go _ (ltb 65536 (length script)) (too_short script ts es)
    where
      go : (w l s : Bool) → A.refused n ≡ elim l as (λ (_ : Bool). A.Answer (Unit {0})) [ true ↦ A.refused 1 | false ↦ elim s as (λ (_ : Bool). A.Answer (Unit {0})) [ true ↦ A.refused 2 | false ↦ A.answer tt ] ]
          → elim l as (λ (_ : Bool). Bool) [ true ↦ false | false ↦ elim s as (λ (_ : Bool). Bool) [ true ↦ false | false ↦ w ] ] ≡ false
      go w true s e = refl
      go w false true e = refl
      go w false false e = let z : ◌≡◌ {A = ℕ} 0 1 = cc in absurd (omega arith)

  pub taken : length script ≤ 65536 → too_short script ts es ≡ false → promised script ts es ≡ tabled script ts es
  unfolding promised
  taken h e = rw (le-ltb 65536 (length script) h, promised) (rw (e, promised))

-- how many records there are
pub record Fits (script : List ℕ) (t : TableCounts) : Type 0 where
  pub some : 0 < t.tokens
  pub all : t.tokens + t.errors ≤ length script + 1
  pub tokens : length (token_table script) ≡ 4 * t.tokens
  pub errors : length (error_table script) ≡ 6 * t.errors

pub counts_fit : (script : List ℕ) {t : TableCounts} → t ≡ counts_of script → Fits script t
unfolding counts_of token_table error_table
counts_fit script e = rw e (record {
  some = some-token (cut script);
  all = cut_le script;
  tokens = token-records-length script (tokens_of (cut script));
  errors = error-records-length (faults_of 0 (cut script));
})

-- with room for all, a filling from the beginning has made both tables
pub record Full (script ts es : List ℕ) (s : Stop) : Type 0 where
  pub counts : record { tokens = s.tokens; errors = s.errors } ≡ counts_of script
  pub tokens : take (4 * s.tokens) ts ≡ token_table script
  pub errors : take (6 * s.errors) es ≡ error_table script

full : {script ts es : List ℕ} {s : Stop} → Stops script 0 0 ts es s → s.next ≡ None → Full script ts es s
unfolding cut counts_of token_table error_table token_records error_records flatten
full {script} {ts} {es} {s} p e =
    let n : s.tokens + 0 ≡ length (tokens_of (cut_at script 0)) = ap (λ (b : Option ℕ). s.tokens + length (tokens_left script b)) (sym e) ∙ made-left p in
    let m : s.errors + 0 ≡ length (faults_of 0 (cut_at script 0)) = ap (λ (b : Option ℕ). s.errors + length (errors_left script b (0 + s.tokens))) (sym e) ∙ met-left p in
    let n' : s.tokens ≡ length (tokens_of (cut_at script 0)) = omega arith in
    let m' : s.errors ≡ length (faults_of 0 (cut_at script 0)) = omega arith in
    record {
      counts = λ i. record { tokens = n' i; errors = m' i };
      tokens = sym (append-nil (take (4 * s.tokens) ts)) ∙ ap (λ (b : Option ℕ). take (4 * s.tokens) ts ++ token_records script (tokens_left script b)) (sym e) ∙ p.made;
      errors = sym (append-nil (take (6 * s.errors) es)) ∙ ap (λ (b : Option ℕ). take (6 * s.errors) es ++ error_records (errors_left script b (0 + s.tokens))) (sym e) ∙ p.met;
    }

-- there is room for all
pub room : (script : List ℕ) → (length (tokens_of (cut_at script 0)) ≤ length script + 1) × (length (faults_of 0 (cut_at script 0)) ≤ length script)
unfolding cut
room script = (omega (arith, cut_le script), omega (arith, cut_le script, some-token (cut script)))

pub fulls : {script ts es : List ℕ} {s : Stop} → Stops script 0 0 ts es s → 4 * length script + 4 ≤ length ts → 6 * length script ≤ length es → Full script ts es s
fulls {script} p h k = let r = room script in full p (p.whole (omega arith) (omega arith))

-- a table with zeros behind it
padded_by : (table : List ℕ) {front back : List ℕ} {k n l : ℕ} → front ≡ table → length table ≡ k → n ≡ l → back ≡ front ++ zeros (n - k) → table ++ zeros (l - length table) ≡ back
padded_by table {front} {back} {k} {n} {l} f e s b = rw (f, s, ← e) at (sym b)

pub done : (script ts es ts₁ es₁ ts₂ es₂ : List ℕ) {s : Stop} → length script ≤ 65536 → 4 * length script + 4 ≤ length ts → 6 * length script ≤ length es
    → Stops script 0 0 ts₁ es₁ s → length ts₁ ≡ length ts → length es₁ ≡ length es
    → ts₂ ≡ take (4 * s.tokens) ts₁ ++ zeros (length ts₁ - 4 * s.tokens) → es₂ ≡ take (6 * s.errors) es₁ ++ zeros (length es₁ - 6 * s.errors)
    → promised script ts es ≡ record { answer = A.answer (record { tokens = s.tokens; errors = s.errors }); tokens = ts₂; errors = es₂ }
unfolding tabled
done script ts es ts₁ es₁ ts₂ es₂ {s} h k l p m n v w =
    let u = fulls p (omega arith) (omega arith) in
    let f = counts_fit script u.counts in
    let x = padded_by (token_table script) u.tokens f.tokens m v in
    let y = padded_by (error_table script) u.errors f.errors n w in
    taken script ts es h (long_enough script ts es k l) ∙ (λ i. record { answer = A.answer (sym u.counts i); tokens = x i; errors = y i })
