-- Two arrays compared with the tables.
-- Assumes nothing.
use mathlib.Core.Path.{◌≡◌, refl, ◌∙◌, sym, ap}
use mathlib.Core.Bool.{Bool, true, false, not, ◌&&◌}
use mathlib.Core.List.{List, [], ◌∷◌, ◌++◌, flatten, append_assoc}
use Prim.Native.Nat.{ℕ, ◌+◌, ◌*◌, ◌-◌, ◌≤◌, ◌<◌}
use native.Mathlib.Omega.{arith}
use lib.Dec.{eqb}
use lib.ListN.{length, take, drop, length-take, length-drop, take-append-drop}
use lib.Seq.{drop-drop}
use borrow.Author.Tests.{lt-ltb, le-ltb}
use Rattle.std.specs.List.{fold}
use Rattle.lex.specs.Kind.{same_bytes}
use Rattle.lex.specs.Lex.{cut_at, cut, tokens_of, Occurrence, faults_of}
use Rattle.lex.specs.declared.tok.Token.{Token}
use Rattle.lex.proofs.Steps.{cut_le}
use Rattle.tokens.specs.declared.Stop.{Stop}
use Rattle.std.specs.Prelude.{Some, None}
use Rattle.tokens.specs.Filling.{tokens_left, errors_left, Stops}
use Rattle.lex.specs.Cells.{zeros, padded}
use Rattle.tokens.specs.Tables.{token_records, error_records, token_table, error_table, too_short, is_cut}
use Rattle.tokens.proofs.Progress.{token-records-length, error-records-length, some-token, made-left, met-left}

-- ---- lists that are compared in parts

pub same-append : (a b xs ys : List ℕ) → length a ≡ length b → same_bytes (a ++ xs) (b ++ ys) ≡ same_bytes a b && same_bytes xs ys
unfolding same_bytes
same-append [] [] xs ys h = refl
same-append [] (y ∷ b) xs ys h = absurd (omega arith)
same-append (x ∷ a) [] xs ys h = absurd (omega arith)
same-append (x ∷ a) (y ∷ b) xs ys h = go (eqb x y) (same-append a b xs ys (omega arith))
  where
    go : (t : Bool) → same_bytes (a ++ xs) (b ++ ys) ≡ same_bytes a b && same_bytes xs ys
        → elim t as (λ (_ : Bool). Bool) [ true ↦ same_bytes (a ++ xs) (b ++ ys) | false ↦ false ] ≡ elim t as (λ (_ : Bool). Bool) [ true ↦ same_bytes a b | false ↦ false ] && same_bytes xs ys
    go true e = e
    go false e = refl

-- a record in front, and what is behind it
record_split : (w : ℕ) (xs cells rest : List ℕ) (at to : ℕ) → at + w ≡ to → to ≤ length xs → length cells ≡ w
    → same_bytes (drop at xs) (cells ++ rest) ≡ same_bytes (take w (drop at xs)) cells && same_bytes (drop to xs) rest
record_split w xs cells rest at to e h k =
    ap (λ (l : List ℕ). same_bytes l (cells ++ rest)) (sym (take-append-drop w (drop at xs)))
    ∙ same-append (take w (drop at xs)) cells (drop w (drop at xs)) rest (omega (arith, length-take w (drop at xs), length-drop at xs))
    ∙ ap (λ (l : List ℕ). same_bytes (take w (drop at xs)) cells && same_bytes l rest) (drop-drop w at xs ∙ ap (λ (i : ℕ). drop i xs) e)

-- ---- zeros behind

and_true : (t : Bool) → t && true ≡ t
and_true true = refl
and_true false = refl

and_false : (t : Bool) → t && false ≡ false
and_false true = refl
and_false false = refl

-- the cells are zero where each is
fold_zeros : (xs : List ℕ) (all : Bool) → fold (λ (all : Bool) (cell : ℕ). all && eqb cell 0) all xs ≡ all && same_bytes xs (zeros (length xs))
unfolding same_bytes
fold_zeros [] all = sym (and_true all)
fold_zeros (x ∷ xs) all = fold_zeros xs (all && eqb x 0) ∙ go all (eqb x 0) (same_bytes xs (zeros (length xs)))
  where
    go : (all t r : Bool) → (all && t) && r ≡ all && elim t as (λ (_ : Bool). Bool) [ true ↦ r | false ↦ false ]
    go false t r = refl
    go true false r = refl
    go true true r = refl

pub zeros_fold : (a : List ℕ) (from : ℕ) → fold (λ (all : Bool) (cell : ℕ). all && eqb cell 0) true (drop from a) ≡ same_bytes (drop from a) (zeros (length a - from))
zeros_fold a from = fold_zeros (drop from a) true ∙ ap (λ (n : ℕ). same_bytes (drop from a) (zeros n)) (length-drop from a)

no : (t : Bool) → not t ≡ true → t ≡ false
no true e = sym e
no false e = refl

yes : (t : Bool) → not t ≡ false → t ≡ true
yes true e = refl
yes false e = sym e

table_length : (script : List ℕ) → length (token_table script) ≡ 4 * length (tokens_of (cut script))
unfolding token_table
table_length script = token-records-length script (tokens_of (cut script))

errors-length : (script : List ℕ) → length (error_table script) ≡ 6 * length (faults_of 0 (cut script))
unfolding error_table
errors-length script = error-records-length (faults_of 0 (cut script))

-- ---- both tables

-- whether both arrays are the tables with zeros behind them
abbrev pub wholly : List ℕ → List ℕ → List ℕ → Bool
wholly script ts es = same_bytes ts (padded (length ts) (token_table script)) && same_bytes es (padded (length es) (error_table script))

-- so many records of both agree, and what is left to compare comes to the same
pub record Agreeing (script ts es : List ℕ) (n m pos : ℕ) : Type 0 where
  pub tokens : n + length (tokens_of (cut_at script pos)) ≡ length (tokens_of (cut script))
  pub errors : m + length (faults_of n (cut_at script pos)) ≡ length (faults_of 0 (cut script))
  pub inside : pos ≤ length script
  pub same : same_bytes (drop (4 * n) ts) (token_records script (tokens_of (cut_at script pos)) ++ zeros (length ts - length (token_table script)))
      && same_bytes (drop (6 * m) es) (error_records (faults_of n (cut_at script pos)) ++ zeros (length es - length (error_table script))) ≡ wholly script ts es

pub agreeing_start : (script ts es : List ℕ) → Agreeing script ts es 0 0 0
unfolding cut token_table error_table
agreeing_start script ts es = record { tokens = omega arith; errors = omega arith; inside = omega arith; same = refl }

pair_up : (a b c d : Bool) → a ≡ true → c ≡ true → a && b && (c && d) ≡ b && d
pair_up a b c d e f = rw (e, f)

module _ {script ts es : List ℕ} {n m pos : ℕ} (g : Agreeing script ts es n m pos) {t e : List ℕ} {s : Stop} (p : Stops script pos n t e s) where
  abbrev tz : List ℕ
  tz = zeros (length ts - length (token_table script))

  abbrev ez : List ℕ
  ez = zeros (length es - length (error_table script))

  abbrev tl : List Token
  tl = tokens_left script s.next

  abbrev el : List Occurrence
  el = errors_left script s.next (n + s.tokens)

  -- there is room in both
  pub part_fits : (n + s.tokens + length tl ≡ length (tokens_of (cut script))) × (m + s.errors + length el ≡ length (faults_of 0 (cut script)))
  part_fits = (omega (arith, g.tokens, made-left p), omega (arith, g.errors, met-left p))

  pub part_room : (n + s.tokens ≤ length script + 1) × (m + s.errors ≤ length script)
  part_room = (omega (arith, part_fits.0, cut_le script), omega (arith, part_fits.1, cut_le script, some-token (cut script)))

  part_same : 4 * (n + s.tokens) ≤ length ts → 6 * (m + s.errors) ≤ length es
      → same_bytes (take (4 * s.tokens) (drop (4 * n) ts)) (take (4 * s.tokens) t) && same_bytes (drop (4 * (n + s.tokens)) ts) (token_records script tl ++ tz)
      && (same_bytes (take (6 * s.errors) (drop (6 * m) es)) (take (6 * s.errors) e) && same_bytes (drop (6 * (m + s.errors)) es) (error_records el ++ ez)) ≡ wholly script ts es
  part_same h k =
      let tw : length (take (4 * s.tokens) t) ≡ 4 * s.tokens = omega (arith, length-take (4 * s.tokens) t, p.tokens_fit) in
      let ew : length (take (6 * s.errors) e) ≡ 6 * s.errors = omega (arith, length-take (6 * s.errors) e, p.errors_fit) in
      let x = record_split (4 * s.tokens) ts (take (4 * s.tokens) t) (token_records script tl ++ tz) (4 * n) (4 * (n + s.tokens)) (omega arith) h tw in
      let y = record_split (6 * s.errors) es (take (6 * s.errors) e) (error_records el ++ ez) (6 * m) (6 * (m + s.errors)) (omega arith) k ew in
      let u : take (4 * s.tokens) t ++ (token_records script tl ++ tz) ≡ token_records script (tokens_of (cut_at script pos)) ++ tz =
      sym (append_assoc (take (4 * s.tokens) t) (token_records script tl) tz) ∙ ap (λ (l : List ℕ). l ++ tz) p.made in
      let v : take (6 * s.errors) e ++ (error_records el ++ ez) ≡ error_records (faults_of n (cut_at script pos)) ++ ez =
      sym (append_assoc (take (6 * s.errors) e) (error_records el) ez) ∙ ap (λ (l : List ℕ). l ++ ez) p.met in
      (λ i. sym x i && sym y i) ∙ (λ i. same_bytes (drop (4 * n) ts) (u i) && same_bytes (drop (6 * m) es) (v i)) ∙ g.same

  pub differs_tokens : {q : Bool} → 4 * (n + s.tokens) ≤ length ts → 6 * (m + s.errors) ≤ length es
      → q ≡ same_bytes (take (4 * s.tokens) (drop (4 * n) ts)) (take (4 * s.tokens) t) → not q ≡ true → false ≡ wholly script ts es
  differs_tokens {q} h k a b = rw (sym a ∙ no q b) at (part_same h k)

  pub differs_errors : {q : Bool} → 4 * (n + s.tokens) ≤ length ts → 6 * (m + s.errors) ≤ length es
      → q ≡ same_bytes (take (6 * s.errors) (drop (6 * m) es)) (take (6 * s.errors) e) → not q ≡ true → false ≡ wholly script ts es
  differs_errors {q} h k a b =
      sym (and_false (same_bytes (take (4 * s.tokens) (drop (4 * n) ts)) (take (4 * s.tokens) t) && same_bytes (drop (4 * (n + s.tokens)) ts) (token_records script tl ++ tz)))
      ∙ (rw (sym a ∙ no q b) at (part_same h k))

  module _ {q r : Bool} (h : 4 * (n + s.tokens) ≤ length ts) (k : 6 * (m + s.errors) ≤ length es)
      (a : q ≡ same_bytes (take (4 * s.tokens) (drop (4 * n) ts)) (take (4 * s.tokens) t)) (b : not q ≡ false)
      (c : r ≡ same_bytes (take (6 * s.errors) (drop (6 * m) es)) (take (6 * s.errors) e)) (d : not r ≡ false) where
    rest-same : same_bytes (drop (4 * (n + s.tokens)) ts) (token_records script tl ++ tz) && same_bytes (drop (6 * (m + s.errors)) es) (error_records el ++ ez) ≡ wholly script ts es
    rest-same = sym (pair_up _ _ _ _ (sym a ∙ yes q b) (sym c ∙ yes r d)) ∙ part_same h k

    pub agreeing_part : (to : ℕ) → s.next ≡ Some to → Agreeing script ts es (n + s.tokens) (m + s.errors) to
    agreeing_part to f = record {
      tokens = rw f at part_fits.0;
      errors = rw f at part_fits.1;
      inside = p.inside to f;
      same = rw f at rest-same;
    }

    end_same : s.next ≡ None → same_bytes (drop (4 * (n + s.tokens)) ts) (zeros (length ts - 4 * (n + s.tokens))) && same_bytes (drop (6 * (m + s.errors)) es) (zeros (length es - 6 * (m + s.errors))) ≡ wholly script ts es
    unfolding token_records error_records flatten
    end_same f =
        let i : n + s.tokens + 0 ≡ length (tokens_of (cut script)) = rw f at part_fits.0 in
        let j : m + s.errors + 0 ≡ length (faults_of 0 (cut script)) = rw f at part_fits.1 in
        let u : length ts - 4 * (n + s.tokens) ≡ length ts - length (token_table script) = omega (arith, table_length script) in
        let v : length es - 6 * (m + s.errors) ≡ length es - length (error_table script) = omega (arith, errors-length script) in
        rw (u, v) (rw f at rest-same)

    pub differs_behind : {o : Bool} → s.next ≡ None → o ≡ same_bytes (drop (4 * (n + s.tokens)) ts) (zeros (length ts - 4 * (n + s.tokens))) → not o ≡ true → false ≡ wholly script ts es
    differs_behind {o} f x y = rw (sym x ∙ no o y) at (end_same f)

    pub agrees_end : {o w : Bool} → s.next ≡ None → o ≡ same_bytes (drop (4 * (n + s.tokens)) ts) (zeros (length ts - 4 * (n + s.tokens))) → not o ≡ false
        → w ≡ same_bytes (drop (6 * (m + s.errors)) es) (zeros (length es - 6 * (m + s.errors))) → w ≡ wholly script ts es
    agrees_end {o} f x y z = z ∙ (rw (sym x ∙ yes o y) at (end_same f))

-- ---- the answer

module _ (script ts es : List ℕ) where
  -- no where cutting refuses: over the most bytes, and with a short array
  pub not_cut_long : 65536 < length script → false ≡ is_cut script ts es
  unfolding is_cut
  not_cut_long h = rw (lt-ltb 65536 (length script) h, is_cut)

  pub not_cut_short : length script ≤ 65536 → too_short script ts es ≡ true → false ≡ is_cut script ts es
  unfolding is_cut
  not_cut_short h e = rw (le-ltb 65536 (length script) h, is_cut) (rw (e, is_cut))

  pub cut_wholly : {r : Bool} → length script ≤ 65536 → too_short script ts es ≡ false → r ≡ wholly script ts es → r ≡ is_cut script ts es
  unfolding is_cut
  cut_wholly h e f = f ∙ rw (le-ltb 65536 (length script) h, is_cut) (rw (e, is_cut))
