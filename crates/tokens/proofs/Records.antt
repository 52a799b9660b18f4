-- The records of a table are the tokens and the errors that it was made of.
-- Assumes no_error.
use mathlib.Core.Path.{◌≡◌, refl, ◌∙◌, sym, ap}
use mathlib.Core.Bool.{Bool, true, false}
use mathlib.Core.List.{List, [], ◌∷◌, ◌++◌, flatten}
use Prim.Native.Nat.{ℕ, zero, suc, ◌+◌, ◌*◌, ◌/◌, ◌-◌, ◌≤◌, ◌<◌}
use native.Mathlib.Omega.{arith}
use lib.Dec.{ltb, eqb}
use lib.ListN.{length, get_or, drop, length-append, length-drop, drop_of_length-le}
use lib.Seq.{drop-cons, get_or-append-add}
use borrow.Author.Tests.{lt-ltb, le-ltb, eq-eqb, ne_eqb, ltb-true, ltb-false}
use Rattle.lex.specs.Cells.{zeros, padded}
use Rattle.lex.specs.Kind.{k_eof}
use Rattle.lex.specs.Lex.{Cut, eof, cut_token, cut_fault, extend_cut, cut_at, cut, skipped, piece, placed, stands_at, step_at, eof_token, tokens_of, Occurrence, faults_of, diagnostic_of}
use Rattle.lex.specs.declared.tok.Token.{Token}
use Rattle.lex.specs.declared.tok.Piece.{Piece}
use Rattle.lex.specs.declared.tok.Step.{Step}
use Rattle.lex.proofs.Laws.{cases}
use Rattle.lex.proofs.Pieces.{Within, piece-within}
use Rattle.lex.proofs.Spellings.{Ended, Spelled, cut-ended}
use Rattle.lex.proofs.Steps.{Forward, step_forward, cut_by, cut_ind}
use Rattle.tokens.specs.Tables.{token_width, error_width, token_record, error_record, token_records, error_records, token_table, error_table}
use Rattle.tokens.specs.Table.{token_at, tokens_up_to, tokens_from, InRange, no_error, error_at, errors_up_to, errors_from, NeverFalls}
use Rattle.tokens.proofs.Progress.{some-token, token-records-length, error-records-length}

-- ---- the tokens from a record on, of any table

module _ (table : List ℕ) where
  past : (i : ℕ) → length table / token_width ≤ i → token_at table i ≡ eof_token 0
  unfolding token_at
  past i h = rw (le-ltb i (length table / token_width) h, token_at)

  -- more than the records that are left is enough
  enough : (n m i : ℕ) → length table / token_width - i < n → length table / token_width - i < m → tokens_up_to n table i ≡ tokens_up_to m table i
  unfolding tokens_up_to
  enough zero m i h k = absurd (omega arith)
  enough (suc n) zero i h k = absurd (omega arith)
  enough (suc n) (suc m) i h k = go (ltb i (length table / token_width)) refl (λ l. enough n m (suc i) (omega arith) (omega arith))
    where
      go : (t : Bool) → ltb i (length table / token_width) ≡ t → (i < length table / token_width → tokens_up_to n table (suc i) ≡ tokens_up_to m table (suc i))
          → tokens_up_to (suc n) table i ≡ tokens_up_to (suc m) table i
      go true q r =
          let l = ltb-true i (length table / token_width) q in
          ap (λ (ts : List Token). token_at table i ∷ elim (eqb (token_at table i).kind k_eof) as (λ (_ : Bool). List Token) [ true ↦ [] | false ↦ ts ]) (r l)
      go false q r =
          let e = past i (ltb-false i (length table / token_width) q) in
          rw (e, tokens_up_to) refl

  few : length table / token_width ≤ length table
  few = omega arith

  -- the first of them, and those behind it
  pub tokens-from : (i : ℕ) → tokens_from table i ≡ token_at table i ∷ elim (eqb (token_at table i).kind k_eof) as (λ (_ : Bool). List Token) [ true ↦ [] | false ↦ tokens_from table (suc i) ]
  unfolding tokens_from tokens_up_to
  tokens-from i = go (ltb i (length table / token_width)) refl
    where
      go : (t : Bool) → ltb i (length table / token_width) ≡ t
          → tokens_up_to (suc (length table)) table i ≡ token_at table i ∷ elim (eqb (token_at table i).kind k_eof) as (λ (_ : Bool). List Token) [ true ↦ [] | false ↦ tokens_up_to (suc (length table)) table (suc i) ]
      go true q =
          let l = ltb-true i (length table / token_width) q in
          ap (λ (ts : List Token). token_at table i ∷ elim (eqb (token_at table i).kind k_eof) as (λ (_ : Bool). List Token) [ true ↦ [] | false ↦ ts ]) (enough (length table) (suc (length table)) (suc i) (omega (arith, few)) (omega (arith, few)))
      go false q = rw (past i (ltb-false i (length table / token_width) q), tokens_up_to) refl

  pub tokens-last : (i : ℕ) → (token_at table i).kind ≡ k_eof → tokens_from table i ≡ token_at table i ∷ []
  tokens-last i e = tokens-from i ∙ ap (λ (b : Bool). token_at table i ∷ elim b as (λ (_ : Bool). List Token) [ true ↦ [] | false ↦ tokens_from table (suc i) ]) (eq-eqb _ k_eof e)

  pub tokens_more : (i : ℕ) → ((token_at table i).kind ≡ k_eof → ⊥) → tokens_from table i ≡ token_at table i ∷ tokens_from table (suc i)
  tokens_more i e = tokens-from i ∙ ap (λ (b : Bool). token_at table i ∷ elim b as (λ (_ : Bool). List Token) [ true ↦ [] | false ↦ tokens_from table (suc i) ]) (ne_eqb _ k_eof e)

-- ---- records of tokens, whatever lies behind them

-- the token whose cells begin at a place
abbrev token_cells : List ℕ → ℕ → Token
token_cells xs at = record { kind = get_or xs at 0; start = get_or xs (at + 1) 0; len = get_or xs (at + 2) 0 }

token_in : (table : List ℕ) (i : ℕ) → i < length table / token_width → token_at table i ≡ token_cells table (token_width * i)
unfolding token_at
token_in table i h = rw (lt-ltb i (length table / token_width) h, token_at)

token-behind : (a b c d : ℕ) (xs : List ℕ) (i : ℕ) → i < length xs / token_width → token_at (a ∷ b ∷ c ∷ d ∷ xs) (suc i) ≡ token_at xs i
token-behind a b c d xs i h =
    let all : List ℕ = a ∷ b ∷ c ∷ d ∷ xs in
    let one : 4 * suc i ≡ suc (suc (suc (suc (4 * i)))) = omega arith in
    let two : 4 * suc i + 1 ≡ suc (suc (suc (suc (4 * i + 1)))) = omega arith in
    let three : 4 * suc i + 2 ≡ suc (suc (suc (suc (4 * i + 2)))) = omega arith in
    token_in all (suc i) (omega arith)
    ∙ (λ j. record { kind = get_or all (one j) 0; start = get_or all (two j) 0; len = get_or all (three j) 0 })
    ∙ sym (token_in xs i h)

-- Eof is the last of the tokens and no other
record Known (script : List ℕ) (n i : ℕ) (t : Token) : Type 0 where
  last : suc i ≡ n → t.kind ≡ k_eof
  other : suc i < n → t.kind ≡ k_eof → ⊥
  spelled : Spelled script t

known : (script : List ℕ) (ts : List Token) → Ended script ts → (i : ℕ) → i < length ts → Known script (length ts) i (get_or ts i (eof_token 0))
known script [] e i h = absurd e
known script (t ∷ []) e zero h = record { last = λ q. e.0; other = λ q. absurd (omega arith); spelled = e.1 }
known script (t ∷ []) e (suc i) h = absurd (omega arith)
known script (t ∷ (u ∷ ts)) e zero h = record { last = λ q. absurd (omega arith); other = λ q. e.0; spelled = e.2 }
known script (t ∷ (u ∷ ts)) e (suc i) h =
    let k = known script (u ∷ ts) e.1 i (omega arith) in
    record { last = λ q. k.last (omega arith); other = λ q. k.other (omega arith); spelled = k.spelled }

module _ (script behind : List ℕ) where
  records_fit : (ts : List Token) (i : ℕ) → i < length ts → i < length (token_records script ts ++ behind) / token_width
  records_fit ts i h = omega (arith, length-append (token_records script ts) behind, token-records-length script ts)

  pub record_at_lem : (ts : List Token) (i : ℕ) → i < length ts → token_at (token_records script ts ++ behind) i ≡ get_or ts i (eof_token 0)
  unfolding token_records token_record flatten
  record_at_lem [] i h = absurd (omega arith)
  record_at_lem (t ∷ ts) zero h = token_in _ 0 (omega arith)
  record_at_lem (t ∷ ts) (suc i) h = token-behind _ _ _ _ _ i (records_fit ts i (omega arith)) ∙ record_at_lem ts i (omega arith)

  -- the tokens of a list that Eof ends
  from : (ts : List Token) → Ended script ts → (n i : ℕ) → i + n ≡ length ts → 0 < n → tokens_from (token_records script ts ++ behind) i ≡ drop i ts
  from ts e zero i q h = absurd (omega arith)
  from ts e (suc zero) i q h =
      let table : List ℕ = token_records script ts ++ behind in
      let here = record_at_lem ts i (omega arith) in
      let k = known script ts e i (omega arith) in
      tokens-last table i (ap (λ (t : Token). t.kind) here ∙ k.last (omega arith))
      ∙ ap (λ (t : Token). t ∷ []) here
      ∙ sym (drop-cons ts i (eof_token 0) (omega arith) ∙ ap (λ (l : List Token). get_or ts i (eof_token 0) ∷ l) (drop_of_length-le ts {i = suc i} (omega arith)))
  from ts e (suc (suc n)) i q h =
      let table : List ℕ = token_records script ts ++ behind in
      let here = record_at_lem ts i (omega arith) in
      let k = known script ts e i (omega arith) in
      let rest = from ts e (suc n) (suc i) (omega arith) (omega arith) in
      tokens_more table i (λ f. k.other (omega arith) (sym (ap (λ (t : Token). t.kind) here) ∙ f))
      ∙ (λ j. here j ∷ rest j)
      ∙ sym (drop-cons ts i (eof_token 0) (omega arith))

  pub records-from : (ts : List Token) → Ended script ts → (i : ℕ) → i < length ts → tokens_from (token_records script ts ++ behind) i ≡ drop i ts
  records-from ts e i h = from ts e (length ts - i) i (omega arith) (omega arith)

-- ---- the tokens of a script

module _ (script : List ℕ) where
  -- a token of the cut that begins within the script
  abbrev Ranges : ℕ → Cut → Type 0
  Ranges pos c = pos ≤ length script → (i : ℕ) → i < length (tokens_of c) → ((get_or (tokens_of c) i (eof_token 0)).start ≤ length script) × ((get_or (tokens_of c) i (eof_token 0)).len ≤ length script + 3)

  ranges_step : (pos : ℕ) (s : Step) → Forward script pos s → ((n : ℕ) → pos < n → n ≤ length script → Ranges n (cut_at script n)) → Ranges pos (extend_cut (cut_at script) s)
  unfolding tokens_of
  ranges_step pos (Step.Token t n) f r p zero h = omega arith
  ranges_step pos (Step.Token t n) f r p (suc i) h = r n (omega arith) (omega arith) (omega arith) i (omega arith)
  ranges_step pos (Step.Fault e n) f r p i h = r n (omega arith) (omega arith) (omega arith) i h
  ranges_step pos (Step.End at) f r p zero h = omega (arith, f.1 p)
  ranges_step pos (Step.End at) f r p (suc i) h = absurd (omega arith)

  -- the numbers of token `i`
  pub token_in_range : (i : ℕ) → i < length (tokens_of (cut script)) → InRange script (get_or (tokens_of (cut script)) i (eof_token 0))
  unfolding cut
  token_in_range i h =
      let k = (known script (tokens_of (cut script)) (cut-ended script) i h).spelled in
      let r = cut_ind script Ranges ranges_step (suc (length script)) 0 (omega arith) (omega arith) i h in
      record { least = k.least; greatest = k.greatest; start = r.0; len = r.1 }

  module _ (n : ℕ) (i : ℕ) (h : i < length (tokens_of (cut script))) where
    -- record `i` of the table, with zeros behind it
    pub table_token : token_at (padded n (token_table script)) i ≡ get_or (tokens_of (cut script)) i (eof_token 0)
    unfolding token_table
    table_token = record_at_lem script _ (tokens_of (cut script)) i h

    -- the tokens from record `i` on
    pub table_tokens : tokens_from (padded n (token_table script)) i ≡ drop i (tokens_of (cut script))
    unfolding token_table
    table_tokens = records-from script _ (tokens_of (cut script)) (cut-ended script) i h

  pub table_all : (n : ℕ) → tokens_from (padded n (token_table script)) 0 ≡ tokens_of (cut script)
  table_all n = table_tokens n 0 (some-token (cut script))

-- behind them records start at 0
zeros-behind : (n i : ℕ) → get_or (zeros n) i 0 ≡ 0
zeros-behind zero i = refl
zeros-behind (suc n) zero = refl
zeros-behind (suc n) (suc i) = zeros-behind n i

cell_behind : (xs : List ℕ) (z i : ℕ) → length xs ≤ i → get_or (xs ++ zeros z) i 0 ≡ 0
cell_behind xs z i h = let e : i ≡ length xs + (i - length xs) = omega arith in ap (λ (k : ℕ). get_or (xs ++ zeros z) k 0) e ∙ get_or-append-add xs (zeros z) (i - length xs) 0 ∙ zeros-behind z (i - length xs)

pub past_start : (script : List ℕ) (n i : ℕ) → length (tokens_of (cut script)) ≤ i → (token_at (padded n (token_table script)) i).start ≡ 0
unfolding token_table token_at
past_start script n i h = go (ltb i (length (padded n (token_table script)) / token_width)) refl
  where
    go : (t : Bool) → ltb i (length (padded n (token_table script)) / token_width) ≡ t → (token_at (padded n (token_table script)) i).start ≡ 0
    go true q = ap (λ (t : Token). t.start) (token_in (padded n (token_table script)) i (ltb-true i _ q)) ∙ cell_behind (token_table script) (n - length (token_table script)) (token_width * i + 1) (omega (arith, token-records-length script (tokens_of (cut script))))
    go false q = ap (λ (t : Token). t.start) (past (padded n (token_table script)) i (ltb-false i _ q))

-- ---- the errors from a record on, of any table

module _ (table : List ℕ) where
  pub error_past : (i : ℕ) → length table / error_width ≤ i → (error_at table i).diagnostic.number ≡ 0
  unfolding error_at
  error_past i h = rw (le-ltb i (length table / error_width) h, error_at)

  errors_enough : (n m i : ℕ) → length table / error_width - i < n → length table / error_width - i < m → errors_up_to n table i ≡ errors_up_to m table i
  unfolding errors_up_to
  errors_enough zero m i h k = absurd (omega arith)
  errors_enough (suc n) zero i h k = absurd (omega arith)
  errors_enough (suc n) (suc m) i h k =
      go (ltb i (length table / error_width)) refl (λ l. errors_enough n m (suc i) (omega arith) (omega arith))
    where
      go : (t : Bool) → ltb i (length table / error_width) ≡ t → (i < length table / error_width → errors_up_to n table (suc i) ≡ errors_up_to m table (suc i))
          → errors_up_to (suc n) table i ≡ errors_up_to (suc m) table i
      go true q r =
          ap (λ (es : List Occurrence). elim (eqb (error_at table i).diagnostic.number 0) as (λ (_ : Bool). List Occurrence) [ true ↦ [] | false ↦ error_at table i ∷ es ])
          (r (ltb-true i (length table / error_width) q))
      go false q r = rw (eq-eqb _ 0 (error_past i (ltb-false i (length table / error_width) q)), errors_up_to) refl

  -- the first of them, and those behind it
  pub errors-from : (i : ℕ) → errors_from table i ≡ elim (eqb (error_at table i).diagnostic.number 0) as (λ (_ : Bool). List Occurrence) [ true ↦ [] | false ↦ error_at table i ∷ errors_from table (suc i) ]
  unfolding errors_from errors_up_to
  errors-from i = go (ltb i (length table / error_width)) refl
    where
      go : (t : Bool) → ltb i (length table / error_width) ≡ t
          → errors_up_to (suc (length table)) table i ≡ elim (eqb (error_at table i).diagnostic.number 0) as (λ (_ : Bool). List Occurrence) [ true ↦ [] | false ↦ error_at table i ∷ errors_up_to (suc (length table)) table (suc i) ]
      go true q =
          let l = ltb-true i (length table / error_width) q in
          ap (λ (es : List Occurrence). elim (eqb (error_at table i).diagnostic.number 0) as (λ (_ : Bool). List Occurrence) [ true ↦ [] | false ↦ error_at table i ∷ es ])
          (errors_enough (length table) (suc (length table)) (suc i) (omega arith) (omega arith))
      go false q = rw (eq-eqb _ 0 (error_past i (ltb-false i (length table / error_width) q)), errors_up_to) refl

  pub errors-none : (i : ℕ) → (error_at table i).diagnostic.number ≡ 0 → errors_from table i ≡ []
  errors-none i e = errors-from i ∙ ap (λ (b : Bool). elim b as (λ (_ : Bool). List Occurrence) [ true ↦ [] | false ↦ error_at table i ∷ errors_from table (suc i) ]) (eq-eqb _ 0 e)

  pub errors_more : (i : ℕ) → ((error_at table i).diagnostic.number ≡ 0 → ⊥) → errors_from table i ≡ error_at table i ∷ errors_from table (suc i)
  errors_more i e = errors-from i ∙ ap (λ (b : Bool). elim b as (λ (_ : Bool). List Occurrence) [ true ↦ [] | false ↦ error_at table i ∷ errors_from table (suc i) ]) (ne_eqb _ 0 e)

-- ---- records of errors, whatever lies behind them

-- the error whose cells begin at a place
abbrev error_cells : List ℕ → ℕ → Occurrence
error_cells xs at = record {
  after = get_or xs (at + 5) 0;
  diagnostic = record { number = get_or xs at 0; start = get_or xs (at + 1) 0; len = get_or xs (at + 2) 0; wanted = get_or xs (at + 3) 0; seen = get_or xs (at + 4) 0 };
}

error_in_lem : (table : List ℕ) (i : ℕ) → i < length table / error_width → error_at table i ≡ error_cells table (error_width * i)
unfolding error_at
error_in_lem table i h = rw (lt-ltb i (length table / error_width) h, error_at)

error-behind : (a b c d e f : ℕ) (xs : List ℕ) (i : ℕ) → i < length xs / error_width → error_at (a ∷ b ∷ c ∷ d ∷ e ∷ f ∷ xs) (suc i) ≡ error_at xs i
error-behind a b c d e f xs i h =
    let all : List ℕ = a ∷ b ∷ c ∷ d ∷ e ∷ f ∷ xs in
    let moved : (k : ℕ) → 6 * suc i + k ≡ suc (suc (suc (suc (suc (suc (6 * i + k)))))) = λ k. omega arith in
    let first : 6 * suc i ≡ suc (suc (suc (suc (suc (suc (6 * i)))))) = omega arith in
    error_in_lem all (suc i) (omega arith)
    ∙ (λ j. record {
      after = get_or all (moved 5 j) 0;
      diagnostic = record { number = get_or all (first j) 0; start = get_or all (moved 1 j) 0; len = get_or all (moved 2 j) 0; wanted = get_or all (moved 3 j) 0; seen = get_or all (moved 4 j) 0 };
    })
    ∙ sym (error_in_lem xs i h)

module _ (behind : List ℕ) where
  error-records_fit : (es : List Occurrence) (i : ℕ) → i < length es → i < length (error_records es ++ behind) / error_width
  error-records_fit es i h = omega (arith, length-append (error_records es) behind, error-records-length es)

  pub error_record-at : (es : List Occurrence) (i : ℕ) → i < length es → error_at (error_records es ++ behind) i ≡ get_or es i no_error
  unfolding error_records error_record flatten
  error_record-at [] i h = absurd (omega arith)
  error_record-at (e ∷ es) zero h = error_in_lem _ 0 (omega arith)
  error_record-at (e ∷ es) (suc i) h = error-behind _ _ _ _ _ _ _ i (error-records_fit es i (omega arith)) ∙ error_record-at es i (omega arith)

-- behind the errors stands 0
zeros-read : (n i : ℕ) → get_or (zeros n) i 0 ≡ 0
zeros-read zero i = refl
zeros-read (suc n) zero = refl
zeros-read (suc n) (suc i) = zeros-read n i

zero-at : (n i : ℕ) → (error_at (zeros n) i).diagnostic.number ≡ 0
unfolding error_at
zero-at n i = go (ltb i (length (zeros n) / error_width)) refl
  where
    go : (t : Bool) → ltb i (length (zeros n) / error_width) ≡ t → (error_at (zeros n) i).diagnostic.number ≡ 0
    go true q = ap (λ (o : Occurrence). o.diagnostic.number) (error_in_lem (zeros n) i (ltb-true i _ q)) ∙ zeros-read n (error_width * i)
    go false q = error_past (zeros n) i (ltb-false i _ q)

errors_end : (es : List Occurrence) (n : ℕ) → (error_at (error_records es ++ zeros n) (length es)).diagnostic.number ≡ 0
unfolding error_records error_record flatten
errors_end [] n = zero-at n 0
errors_end (e ∷ es) n = go (ltb (length es) (length xs / error_width)) refl (errors_end es n)
  where
    xs : List ℕ
    xs = error_records es ++ zeros n

    go : (t : Bool) → ltb (length es) (length xs / error_width) ≡ t → (error_at xs (length es)).diagnostic.number ≡ 0 → (error_at (error_record e ++ xs) (suc (length es))).diagnostic.number ≡ 0
    go true q r = ap (λ (o : Occurrence). o.diagnostic.number) (error-behind _ _ _ _ _ _ xs (length es) (ltb-true (length es) _ q)) ∙ r
    go false q r = error_past (error_record e ++ xs) (suc (length es)) (let h = ltb-false (length es) (length xs / error_width) q in omega arith)

-- ---- the errors of a script

abbrev Numbered : Step → Type 0
Numbered (Step.Token t n) = Unit {0}
Numbered (Step.Fault e n) = 31 ≤ e.number
Numbered (Step.End at) = Unit {0}

placed_numbered : (n at : ℕ) (p : Piece) → Within n p → Numbered (placed at p)
placed_numbered n at (Piece.Token k len taken) w = tt
placed_numbered n at (Piece.Fault number len seen taken) w = omega arith

step_numbered : (script : List ℕ) (pos : ℕ) → Numbered (step_at script pos)
unfolding step_at stands_at
step_numbered script pos =
    let at = pos + skipped false (drop pos script) in
    cases Numbered (ltb at (length script))
    (λ e. placed_numbered _ at (piece (drop at script)) (piece-within (drop at script) (let h = ltb-true at (length script) e in omega (arith, length-drop at script))))
    (λ e. tt)

-- error `i` of those behind `k` tokens, with so many tokens left
pub record Met (k left : ℕ) (o : Occurrence) : Type 0 where
  pub number : 31 ≤ o.diagnostic.number
  pub least : k ≤ o.after
  pub below : o.after < k + left

module _ (script : List ℕ) where
  abbrev Meets : ℕ → Cut → Type 0
  Meets pos c = (k i : ℕ) → i < length (faults_of k c) → Met k (length (tokens_of c)) (get_or (faults_of k c) i no_error)

  abbrev Seen : ℕ → Step → Type 0
  Seen pos s = Forward script pos s × Numbered s

  met_step : (pos : ℕ) (s : Step) → Seen pos s → ((n : ℕ) → pos < n → n ≤ length script → Meets n (cut_at script n)) → Meets pos (extend_cut (cut_at script) s)
  unfolding tokens_of faults_of diagnostic_of
  met_step pos (Step.Token t n) f r k i h =
      let m = r n (omega arith) (omega arith) (suc k) i h in
      record { number = m.number; least = omega (arith, m.least); below = omega (arith, m.below) }
  met_step pos (Step.Fault e n) f r k zero h = record { number = f.1; least = omega arith; below = omega (arith, some-token (cut_at script n)) }
  met_step pos (Step.Fault e n) f r k (suc i) h = r n (omega arith) (omega arith) k i (omega arith)
  met_step pos (Step.End at) f r k i h = absurd (omega arith)

  -- error `i` is one of the lexer's, and a token is left behind it
  pub error-met : (i : ℕ) → i < length (faults_of 0 (cut script)) → Met 0 (length (tokens_of (cut script))) (get_or (faults_of 0 (cut script)) i no_error)
  unfolding cut
  error-met i h = cut_by script Seen (λ pos. (step_forward script pos, step_numbered script pos)) Meets met_step (suc (length script)) 0 (omega arith) 0 i h

  errors_of : (es : List Occurrence) (z : ℕ) → ((i : ℕ) → i < length es → 31 ≤ (get_or es i no_error).diagnostic.number) → (n i : ℕ) → i + n ≡ length es
      → errors_from (error_records es ++ zeros z) i ≡ drop i es
  errors_of es z m zero i q =
      let end : i ≡ length es = omega arith in
      errors-none (error_records es ++ zeros z) i (rw end (errors_end es z)) ∙ sym (drop_of_length-le es {i = i} (omega arith))
  errors_of es z m (suc n) i q =
      let table : List ℕ = error_records es ++ zeros z in
      let here = error_record-at (zeros z) es i (omega arith) in
      let rest = errors_of es z m n (suc i) (omega arith) in
      errors_more table i (λ f. omega (arith, m i (omega arith), sym (ap (λ (o : Occurrence). o.diagnostic.number) here) ∙ f))
      ∙ (λ j. here j ∷ rest j)
      ∙ sym (drop-cons es i no_error (omega arith))

  -- record `i` of the table
  pub table_error : (n i : ℕ) → i < length (faults_of 0 (cut script)) → error_at (padded n (error_table script)) i ≡ get_or (faults_of 0 (cut script)) i no_error
  unfolding error_table
  table_error n i h = error_record-at _ (faults_of 0 (cut script)) i h

  -- the errors from record `i` on
  pub table_errors : (n i : ℕ) → i ≤ length (faults_of 0 (cut script)) → errors_from (padded n (error_table script)) i ≡ drop i (faults_of 0 (cut script))
  unfolding error_table
  table_errors n i h = errors_of (faults_of 0 (cut script)) (n - length (error_records (faults_of 0 (cut script)))) (λ j k. (error-met j k).number) (length (faults_of 0 (cut script)) - i) i (omega arith)

-- no error has fewer tokens before it than the one before
pub never_falls : (n : ℕ) (c : Cut) → NeverFalls n (faults_of n c)
unfolding faults_of
never_falls n (eof at) = tt
never_falls n (cut_token t next c) = weaken (faults_of (suc n) c) (never_falls (suc n) c)
  where
    weaken : (os : List Occurrence) → NeverFalls (suc n) os → NeverFalls n os
    weaken [] f = tt
    weaken (o ∷ os) f = (omega arith, f.1)
never_falls n (cut_fault e c) = (omega arith, never_falls n c)
