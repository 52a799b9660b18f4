-- Where filling stands: the records made and those that the rest of the script gives are the
-- tables.
-- Assumes nothing.
use mathlib.Core.Path.{◌≡◌, refl, ◌∙◌, sym, ap}
use mathlib.Core.List.{List, [], ◌∷◌, ◌++◌, flatten, append_assoc, append-nil}
use Prim.Native.Nat.{ℕ, suc, ◌+◌, ◌*◌, ◌-◌, ◌≤◌, ◌<◌}
use native.Mathlib.Omega.{arith}
use native.Mathlib.Nat.{add-zero}
use lib.ListN.{length, take, drop, length-append, length-take}
use lib.Dec.{eqb}
use Rattle.lex.specs.Answer.{max_bytes}
use Rattle.lex.specs.Kind.{k_s, k_doc}
use Rattle.lex.specs.Spelling.{spelling_offset}
use Rattle.lex.specs.Lex.{Cut, eof, cut_token, cut_fault, extend_cut, cut_at, step_at, eof_token, tokens_of, Occurrence, faults_of, diagnostic_of}
use Rattle.lex.specs.declared.tok.Token.{Token}
use Rattle.lex.specs.declared.tok.Fault.{Fault}
use Rattle.lex.specs.declared.tok.Step.{Step}
use Rattle.lex.proofs.Laws.{cases, leading_le_one}
use Rattle.lex.proofs.Steps.{Forward, step_forward, cut_step}
use Rattle.tokens.specs.declared.Stop.{Stop}
use Rattle.std.specs.Prelude.{Some, None}
use Rattle.tokens.specs.Filling.{tokens_left, errors_left, Stops}
use Rattle.tokens.specs.Tables.{token_record, error_record, token_records, error_records}
use Rattle.tokens.proofs.Arrays.{stored}

-- ---- how long the tables are

pub token-records-length : (script : List ℕ) (ts : List Token) → length (token_records script ts) ≡ 4 * length ts
unfolding token_records token_record flatten
token-records-length script [] = refl
token-records-length script (t ∷ ts) = omega (arith, token-records-length script ts)

pub error-records-length : (es : List Occurrence) → length (error_records es) ≡ 6 * length es
unfolding error_records error_record flatten
error-records-length [] = refl
error-records-length (e ∷ es) = omega (arith, error-records-length es)

-- there is a token, Eof
pub some-token : (c : Cut) → 0 < length (tokens_of c)
unfolding tokens_of
some-token (eof at) = omega arith
some-token (cut_token t next c) = omega arith
some-token (cut_fault e c) = some-token c

-- ---- a step

module _ (script : List ℕ) (pos : ℕ) where
  pub cut_by_step : {s : Step} → step_at script pos ≡ s → cut_at script pos ≡ extend_cut (cut_at script) s
  cut_by_step e = cut_step script pos ∙ ap (extend_cut (cut_at script)) e

  forward : {s : Step} → step_at script pos ≡ s → Forward script pos s
  forward e = rw e at (step_forward script pos)

-- what stands at a position lies in a script of so many bytes
pub step_bounds : (script : List ℕ) (pos : ℕ) → length script ≤ max_bytes → {t : Token} {next : ℕ} → step_at script pos ≡ Step.Token t next
    → (t.start ≤ length script) × (t.len ≤ max_bytes)
step_bounds script pos h e = let f = forward script pos e in (omega arith, omega arith)

pub fault_bounds : (script : List ℕ) (pos : ℕ) → length script ≤ max_bytes → {e : Fault} {next : ℕ} → step_at script pos ≡ Step.Fault e next
    → (e.start ≤ max_bytes) × (e.len ≤ max_bytes)
fault_bounds script pos h s = let f = forward script pos s in (omega arith, omega arith)

pub end_bounds : (script : List ℕ) (pos : ℕ) → pos ≤ length script → {at : ℕ} → step_at script pos ≡ Step.End at → at ≤ length script
end_bounds script pos k s = omega (arith, (forward script pos s).1 k)

-- a step moves on
pub less_token : (script : List ℕ) (pos : ℕ) {t : Token} {next : ℕ} → step_at script pos ≡ Step.Token t next → length script - next < length script - pos
less_token script pos s = let f = forward script pos s in omega arith

pub less_fault : (script : List ℕ) (pos : ℕ) {e : Fault} {next : ℕ} → step_at script pos ≡ Step.Fault e next → length script - next < length script - pos
less_fault script pos s = let f = forward script pos s in omega arith

-- ---- filling both arrays

-- the records made from `from` on and those that the rest gives
pub record Filled (script : List ℕ) (from before : ℕ) (ts es : List ℕ) (n m pos : ℕ) : Type 0 where
  pub made : take (4 * n) ts ++ token_records script (tokens_of (cut_at script pos)) ≡ token_records script (tokens_of (cut_at script from))
  pub met : take (6 * m) es ++ error_records (faults_of (before + n) (cut_at script pos)) ≡ error_records (faults_of before (cut_at script from))
  pub tokens_fit : 4 * n ≤ length ts
  pub errors_fit : 6 * m ≤ length es
  pub inside : pos ≤ length script
  pub steps : n + m + from ≤ pos

pub filled-start : (script ts es : List ℕ) (from before : ℕ) → from ≤ length script → Filled script from before ts es 0 0 from
filled-start script ts es from before h = record {
  made = refl;
  met = ap (λ (k : ℕ). error_records (faults_of k (cut_at script from))) (add-zero before);
  tokens_fit = omega arith;
  errors_fit = omega arith;
  inside = h;
  steps = omega arith;
}

-- how many records are made and left
made-count : (script ts : List ℕ) (n : ℕ) (left all : List Token) → 4 * n ≤ length ts → take (4 * n) ts ++ token_records script left ≡ token_records script all → n + length left ≡ length all
made-count script ts n left all h e =
    omega (arith, ap length e, length-append (take (4 * n) ts) (token_records script left), length-take (4 * n) ts, token-records-length script left, token-records-length script all)

met-count : (es : List ℕ) (m : ℕ) (left all : List Occurrence) → 6 * m ≤ length es → take (6 * m) es ++ error_records left ≡ error_records all → m + length left ≡ length all
met-count es m left all h e =
    omega (arith, ap length e, length-append (take (6 * m) es) (error_records left), length-take (6 * m) es, error-records-length left, error-records-length all)

module _ {script ts es : List ℕ} {from before n m pos : ℕ} (d : Filled script from before ts es n m pos) where
  tokens-count : n + length (tokens_of (cut_at script pos)) ≡ length (tokens_of (cut_at script from))
  tokens-count = made-count script ts n _ _ d.tokens_fit d.made

  errors-count : m + length (faults_of (before + n) (cut_at script pos)) ≡ length (faults_of before (cut_at script from))
  errors-count = met-count es m _ _ d.errors_fit d.met

  -- a token is left
  pub tokens-left : n < length (tokens_of (cut_at script from))
  tokens-left = omega (arith, tokens-count, some-token (cut_at script pos))

  errors-left : {e : Fault} {next : ℕ} → step_at script pos ≡ Step.Fault e next → m < length (faults_of before (cut_at script from))
  unfolding faults_of
  errors-left s = omega (arith, errors-count, ap (λ (x : Cut). length (faults_of (before + n) x)) (cut_by_step script pos s))

  pub filled-token : {ts' : List ℕ} {t : Token} {next : ℕ} → step_at script pos ≡ Step.Token t next → 4 * n + 4 ≤ length ts
      → ts' ≡ take (4 * n) ts ++ token_record script t ++ drop (4 * n + 4) ts → Filled script from before ts' es (n + 1) m next
  unfolding tokens_of faults_of token_records token_record flatten
  filled-token {ts'} {t} {next} s h w =
      let c = cut_by_step script pos s in
      let f = forward script pos s in
      let k = stored ts (token_record script t) (4 * n) 4 (4 * (n + 1)) w refl (omega arith) (omega arith) in
      let one : before + (n + 1) ≡ suc (before + n) = omega arith in
      record {
        made = ap (λ (l : List ℕ). l ++ token_records script (tokens_of (cut_at script next))) k.front
            ∙ append_assoc (take (4 * n) ts) (token_record script t) (token_records script (tokens_of (cut_at script next)))
            ∙ ap (λ (x : Cut). take (4 * n) ts ++ token_records script (tokens_of x)) (sym c) ∙ d.made;
        met = ap (λ (i : ℕ). take (6 * m) es ++ error_records (faults_of i (cut_at script next))) one
            ∙ ap (λ (x : Cut). take (6 * m) es ++ error_records (faults_of (before + n) x)) (sym c) ∙ d.met;
        tokens_fit = omega (arith, k.same);
        errors_fit = d.errors_fit;
        inside = omega arith;
        steps = omega (arith, d.steps);
      }

  pub filled_fault : {es' : List ℕ} {e : Fault} {next : ℕ} → step_at script pos ≡ Step.Fault e next → 6 * m + 6 ≤ length es
      → es' ≡ take (6 * m) es ++ error_record (record { after = before + n; diagnostic = diagnostic_of e }) ++ drop (6 * m + 6) es → Filled script from before ts es' n (m + 1) next
  unfolding tokens_of faults_of error_records error_record flatten
  filled_fault {es'} {e} {next} s h w =
      let c = cut_by_step script pos s in
      let f = forward script pos s in
      let o : Occurrence = record { after = before + n; diagnostic = diagnostic_of e } in
      let k = stored es (error_record o) (6 * m) 6 (6 * (m + 1)) w refl (omega arith) (omega arith) in
      record {
        made = ap (λ (x : Cut). take (4 * n) ts ++ token_records script (tokens_of x)) (sym c) ∙ d.made;
        met = ap (λ (l : List ℕ). l ++ error_records (faults_of (before + n) (cut_at script next))) k.front
            ∙ append_assoc (take (6 * m) es) (error_record o) (error_records (faults_of (before + n) (cut_at script next)))
            ∙ ap (λ (x : Cut). take (6 * m) es ++ error_records (faults_of (before + n) x)) (sym c) ∙ d.met;
        tokens_fit = d.tokens_fit;
        errors_fit = omega (arith, k.same);
        inside = omega arith;
        steps = omega (arith, d.steps);
      }

  -- no room for a token
  pub stops_tokens : length ts < 4 * n + 4 → Stops script from before ts es (record { tokens = n; errors = m; next = Some pos })
  stops_tokens h = record {
    made = d.made;
    met = d.met;
    tokens_fit = d.tokens_fit;
    errors_fit = d.errors_fit;
    inside = λ to e. let same : pos ≡ to = cc in omega (arith, d.inside);
    moves = λ to e p q. let same : pos ≡ to = cc in omega (arith, d.steps);
    whole = λ p q. absurd (omega (arith, tokens-left));
  }

  -- no room for an error
  pub stops_errors : {e : Fault} {next : ℕ} → step_at script pos ≡ Step.Fault e next → length es < 6 * m + 6 → Stops script from before ts es (record { tokens = n; errors = m; next = Some pos })
  stops_errors s h = record {
    made = d.made;
    met = d.met;
    tokens_fit = d.tokens_fit;
    errors_fit = d.errors_fit;
    inside = λ to e. let same : pos ≡ to = cc in omega (arith, d.inside);
    moves = λ to e p q. let same : pos ≡ to = cc in omega (arith, d.steps);
    whole = λ p q. absurd (omega (arith, errors-left s));
  }

  -- the script's end
  pub stops_end : {ts' : List ℕ} {at : ℕ} → step_at script pos ≡ Step.End at → 4 * n + 4 ≤ length ts
      → ts' ≡ take (4 * n) ts ++ token_record script (eof_token at) ++ drop (4 * n + 4) ts → Stops script from before ts' es (record { tokens = n + 1; errors = m; next = None })
  unfolding tokens_of faults_of token_records token_record error_records flatten
  stops_end {ts'} {at} s h w =
      let c = cut_by_step script pos s in
      let k = stored ts (token_record script (eof_token at)) (4 * n) 4 (4 * (n + 1)) w refl (omega arith) (omega arith) in
      record {
        made = append-nil (take (4 * (n + 1)) ts') ∙ k.front ∙ ap (λ (x : Cut). take (4 * n) ts ++ token_records script (tokens_of x)) (sym c) ∙ d.made;
        met = ap (λ (x : Cut). take (6 * m) es ++ error_records (faults_of (before + n) x)) (sym c) ∙ d.met;
        tokens_fit = omega (arith, k.same);
        errors_fit = d.errors_fit;
        inside = λ to e. let z : ◌≡◌ {A = ℕ} 0 1 = cc in absurd (omega arith);
        moves = λ to e p q. let z : ◌≡◌ {A = ℕ} 0 1 = cc in absurd (omega arith);
        whole = λ p q. refl;
      }

-- how many records a filling that stopped has made and left
pub made-left : {script ts es : List ℕ} {from before : ℕ} {s : Stop} → Stops script from before ts es s → s.tokens + length (tokens_left script s.next) ≡ length (tokens_of (cut_at script from))
made-left {script} {ts} {s = s} p = made-count script ts s.tokens _ _ p.tokens_fit p.made

pub met-left : {script ts es : List ℕ} {from before : ℕ} {s : Stop} → Stops script from before ts es s → s.errors + length (errors_left script s.next (before + s.tokens)) ≡ length (faults_of before (cut_at script from))
met-left {es = es} {s = s} p = met-count es s.errors _ _ p.errors_fit p.met

-- ---- where a spelling begins

-- few bytes of a token stand before its spelling
pub offset_le : (kind : ℕ) (bs : List ℕ) → spelling_offset kind bs ≤ 3
unfolding spelling_offset
offset_le kind bs =
    cases (λ (n : ℕ). n ≤ 3) (eqb kind k_s) (λ e. omega arith) (λ e.
    cases (λ (n : ℕ). n ≤ 3) (eqb kind k_doc) (λ f. omega (arith, leading_le_one (drop 2 bs))) (λ f. omega arith))
