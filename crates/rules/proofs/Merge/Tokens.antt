-- The tokens of two scripts with a line feed between them: those of the first but Eof, and behind
-- them those of the second, moved.
use mathlib.Core.Path.{◌≡◌, refl, sym, ap, ap₂, ◌∙◌, subst}
use mathlib.Core.Bool.{Bool, true, false, not}
use mathlib.Core.Logic.{◌⊎◌, inl, inr}
use mathlib.Core.List.{List, [], ◌∷◌, ◌++◌, map}
use Prim.Native.Nat.{ℕ, zero, suc, ◌+◌, ◌-◌, ◌≤◌, ◌<◌}
use native.Mathlib.Nat.{zero-add}
use native.Mathlib.Omega.{arith}
use lib.Dec.{ltb, eqb}
use borrow.Author.Tests.{ltb-true, ltb-false, lt-ltb, le-ltb}
use lib.ListN.{length, length-append, get_or, take, drop, length-drop}
use lib.Seq.{take-append-le, drop-append-le, drop-append-add}
use Rattle.std.specs.Prelude.{Option, Some, None}
use Rattle.lex.specs.declared.tok.Token.{Token}
use Rattle.lex.specs.declared.tok.Piece.{Piece}
use Rattle.lex.specs.declared.tok.Step.{Step}
use Rattle.lex.specs.Bytes.{or, between, is_ws, is_digit, is_ident_start, is_ident_cont, is_num_cont, count_while, differs_from, before, find_byte}
use Rattle.lex.specs.Kind.{keywords, name_kind, k_eof, k_s, k_i, k_d, k_doc}
use Rattle.lex.specs.Utf8.{utf8}
use Rattle.lex.specs.Lex.{begins_comment, skipped, punctuator, punctuation, leading_space, doc_in, doc, string, double_in, number_in, number, name, symbol, piece, placed, stands_at, step_at, Cut, eof, cut_token, cut_fault, extend_cut, cut_at, cut, tokens_of, faults_of, eof_token}
use Rattle.lex.proofs.Laws.{run_le, found, found_part, find_hit, before_le}
use Rattle.lex.proofs.Steps.{Forward, step_forward, cut_step, cut_by}

-- ---- runs before a line feed

module _ (p : ℕ → Bool) where
  run_join : (bs r : List ℕ) → p 10 ≡ false → count_while p (bs ++ (10 ∷ r)) ≡ count_while p bs
  unfolding count_while
  run_join [] r e = rw (e, count_while)
  run_join (b ∷ bs) r e = ap (λ (n : ℕ). elim (p b) as (λ z. ℕ) [ true ↦ suc n | false ↦ 0 ]) (run_join bs r e)

  run_inside : (bs l : List ℕ) → count_while p bs < length bs → count_while p (bs ++ l) ≡ count_while p bs
  unfolding count_while
  run_inside [] l h = absurd (omega arith)
  run_inside (b ∷ bs) l h = go (p b) (run_inside bs l) h
    where
      go : (t : Bool) → (count_while p bs < length bs → count_while p (bs ++ l) ≡ count_while p bs) → elim t as (λ z. ℕ) [ true ↦ suc (count_while p bs) | false ↦ 0 ] < suc (length bs)
          → ◌≡◌ {A = ℕ} (elim t as (λ z. ℕ) [ true ↦ suc (count_while p (bs ++ l)) | false ↦ 0 ]) (elim t as (λ z. ℕ) [ true ↦ suc (count_while p bs) | false ↦ 0 ])
      go true f k = ap suc (f (omega arith))
      go false f k = refl

-- a byte that is looked at, also the one behind the last
peek_join : (f : ℕ → Bool) → f 10 ≡ f 0 → (bs r : List ℕ) (i : ℕ) → i ≤ length bs → f (get_or (bs ++ (10 ∷ r)) i 0) ≡ f (get_or bs i 0)
peek_join f e [] r zero h = e
peek_join f e [] r (suc i) h = absurd (omega arith)
peek_join f e (b ∷ bs) r zero h = refl
peek_join f e (b ∷ bs) r (suc i) h = peek_join f e bs r i (omega arith)

no_name_lem : is_ident_start 10 ≡ is_ident_start 0
unfolding is_ident_start or between
no_name_lem = refl

-- ---- pieces

-- a string that its line does not close
abbrev IsOpen : Piece → Type 0
IsOpen (Piece.Token kind len taken) = ⊥
IsOpen (Piece.Fault number len seen taken) = number ≡ 31

-- the same piece, unless it is such a string
abbrev Same : Piece → Piece → Type 0
Same p q = (q ≡ p) ⊎ IsOpen p

same_cases : (t : Bool) {p p' q q' : Piece} → (t ≡ true → Same p p') → (t ≡ false → Same q q') → Same (elim t as (λ z. Piece) [ true ↦ p | false ↦ q ]) (elim t as (λ z. Piece) [ true ↦ p' | false ↦ q' ])
same_cases true f g = f refl
same_cases false f g = g refl

same_test : (t t' : Bool) (p q : Piece) → t' ≡ t → ◌≡◌ {A = Piece} (elim t' as (λ z. Piece) [ true ↦ p | false ↦ q ]) (elim t as (λ z. Piece) [ true ↦ p | false ↦ q ])
same_test t t' p q e = ap (λ (z : Bool). elim z as (λ z'. Piece) [ true ↦ p | false ↦ q ]) e

module _ (r : List ℕ) where
  abbrev on : List ℕ → List ℕ
  on bs = bs ++ (10 ∷ r)

  name_join : (bs : List ℕ) → name (on bs) ≡ name bs
  unfolding name is_ident_cont is_ident_start is_digit or between
  name_join bs =
      let n = count_while is_ident_cont bs in
      let e = run_join is_ident_cont bs r refl in
      ap (λ (m : ℕ). Piece.Token (name_kind keywords (take m (on bs))) m m) e ∙ ap (λ (l : List ℕ). Piece.Token (name_kind keywords l) n n) (take-append-le n bs (10 ∷ r) (run_le is_ident_cont bs))

  double_in_join : (n from : ℕ) (bs : List ℕ) → n ≤ length bs → from ≤ n → double_in n from (on bs) ≡ double_in n from bs
  unfolding double_in
  double_in_join n from bs h k =
      ap (λ (l : List ℕ). elim (find_byte 46 l) as (λ z. Piece) [ None ↦ Piece.Token k_d n n | Some more ↦ elim (is_ident_start (get_or (on bs) (from + more + 1) 0)) as (λ z. Piece) [ true ↦ Piece.Token k_d (from + more) (from + more) | false ↦ Piece.Fault 34 n 0 n ] ]) same
      ∙ go (find_byte 46 (take (n - from) (drop from bs))) refl
    where
      same : take (n - from) (drop from (on bs)) ≡ take (n - from) (drop from bs)
      same = ap (take (n - from)) (drop-append-le from bs (10 ∷ r) (omega arith)) ∙ take-append-le (n - from) (drop from bs) (10 ∷ r) (omega (arith, length-drop from bs))

      go : (f : Option ℕ) → find_byte 46 (take (n - from) (drop from bs)) ≡ f
          → ◌≡◌ {A = Piece} (elim f as (λ z. Piece) [ None ↦ Piece.Token k_d n n | Some more ↦ elim (is_ident_start (get_or (on bs) (from + more + 1) 0)) as (λ z. Piece) [ true ↦ Piece.Token k_d (from + more) (from + more) | false ↦ Piece.Fault 34 n 0 n ] ])
          (elim f as (λ z. Piece) [ None ↦ Piece.Token k_d n n | Some more ↦ elim (is_ident_start (get_or bs (from + more + 1) 0)) as (λ z. Piece) [ true ↦ Piece.Token k_d (from + more) (from + more) | false ↦ Piece.Fault 34 n 0 n ] ])
      go None e = refl
      go (Some i) e = let z = found_part 46 (n - from) from bs i e in same_test _ _ _ _ (peek_join is_ident_start no_name_lem bs r (from + i + 1) (omega arith))

  number_in_join : (n : ℕ) (bs : List ℕ) → n ≤ length bs → number_in n (on bs) ≡ number_in n bs
  unfolding number_in
  number_in_join n bs h =
      ap (λ (l : List ℕ). elim (find_byte 46 l) as (λ z. Piece) [ None ↦ Piece.Token k_i n n | Some first ↦ elim (is_ident_start (get_or (on bs) (first + 1) 0)) as (λ z. Piece) [ true ↦ Piece.Token k_i first first | false ↦ double_in n (first + 1) (on bs) ] ]) (take-append-le n bs (10 ∷ r) h)
      ∙ go (find_byte 46 (take n bs)) refl
    where
      go : (f : Option ℕ) → find_byte 46 (take n bs) ≡ f
          → ◌≡◌ {A = Piece} (elim f as (λ z. Piece) [ None ↦ Piece.Token k_i n n | Some first ↦ elim (is_ident_start (get_or (on bs) (first + 1) 0)) as (λ z. Piece) [ true ↦ Piece.Token k_i first first | false ↦ double_in n (first + 1) (on bs) ] ])
          (elim f as (λ z. Piece) [ None ↦ Piece.Token k_i n n | Some first ↦ elim (is_ident_start (get_or bs (first + 1) 0)) as (λ z. Piece) [ true ↦ Piece.Token k_i first first | false ↦ double_in n (first + 1) bs ] ])
      go None e = refl
      go (Some i) e =
          let z = found_part 46 n 0 bs i e in
          ap₂ (λ (t : Bool) (p : Piece). elim t as (λ z. Piece) [ true ↦ Piece.Token k_i i i | false ↦ p ]) (peek_join is_ident_start no_name_lem bs r (i + 1) (omega arith)) (double_in_join n (i + 1) bs h (omega arith))

  number_join : (bs : List ℕ) → number (on bs) ≡ number bs
  unfolding number is_num_cont is_digit or between
  number_join bs = ap (λ (n : ℕ). number_in n (on bs)) (run_join is_num_cont bs r refl) ∙ number_in_join (count_while is_num_cont bs) bs (run_le is_num_cont bs)

  string_join : (bs : List ℕ) → Same (string bs) (string (on bs))
  unfolding string before
  string_join bs = go (find_byte 34 bs) refl
    where
      go : (f : Option ℕ) → find_byte 34 bs ≡ f → Same (elim f as (λ z. Piece) [ Some n ↦ elim (utf8 (take n bs)) as (λ z. Piece) [ true ↦ Piece.Token k_s n (n + 2) | false ↦ Piece.Fault 32 (n + 1) 0 (n + 2) ] | None ↦ Piece.Fault 31 (before 10 bs + 1) 0 (before 10 bs + 1) ]) (string (on bs))
      go None e = inr refl
      go (Some n) e =
          let z = found 34 bs n e in
          let same : find_byte 34 (on bs) ≡ Some n = sym (find_hit 34 (on bs) n (z.0 ∙ sym (run_inside (differs_from 34) bs (10 ∷ r) (omega (arith, z.0)))) (omega (arith, length-append bs (10 ∷ r)))) in
          inl (ap (λ (f : Option ℕ). elim f as (λ z. Piece) [ Some n ↦ elim (utf8 (take n (on bs))) as (λ z. Piece) [ true ↦ Piece.Token k_s n (n + 2) | false ↦ Piece.Fault 32 (n + 1) 0 (n + 2) ] | None ↦ Piece.Fault 31 (before 10 (on bs) + 1) 0 (before 10 (on bs) + 1) ]) same
          ∙ ap (λ (l : List ℕ). elim (utf8 l) as (λ z. Piece) [ true ↦ Piece.Token k_s n (n + 2) | false ↦ Piece.Fault 32 (n + 1) 0 (n + 2) ]) (take-append-le n bs (10 ∷ r) (omega arith)))

  doc_join : (bs : List ℕ) → doc (on bs) ≡ doc bs
  unfolding doc doc_in before differs_from
  doc_join bs = ap (λ (n : ℕ). doc_in n (on bs)) (run_join (differs_from 10) bs r refl) ∙ ap (λ (l : List ℕ). elim (utf8 (drop (leading_space l) l)) as (λ z. Piece) [ true ↦ Piece.Token k_doc (before 10 bs - leading_space l) (before 10 bs + 2) | false ↦ Piece.Fault 32 (before 10 bs + 1) 0 (before 10 bs + 1) ]) (take-append-le (before 10 bs) bs (10 ∷ r) (before_le 10 bs))

  punctuation_join : (b : ℕ) (bs : List ℕ) → punctuation b (get_or (on bs) 0 0) ≡ punctuation b (get_or bs 0 0)
  unfolding punctuation
  punctuation_join b bs = same_test _ _ _ _ (peek_join (λ n. eqb n 61) refl bs r 0 (omega arith))

  symbol_join : (b : ℕ) (bs : List ℕ) → symbol (b ∷ on bs) ≡ symbol (b ∷ bs)
  unfolding symbol
  symbol_join b bs = go (eqb b 35) bs
    where
      go : (t : Bool) (cs : List ℕ) → ◌≡◌ {A = Piece} (elim t as (λ z. Piece) [ true ↦ elim (eqb (get_or (on cs) 0 0) 33) as (λ z. Piece) [ true ↦ doc (drop 1 (on cs)) | false ↦ punctuator b ] | false ↦ punctuation b (get_or (on cs) 0 0) ])
          (elim t as (λ z. Piece) [ true ↦ elim (eqb (get_or cs 0 0) 33) as (λ z. Piece) [ true ↦ doc (drop 1 cs) | false ↦ punctuator b ] | false ↦ punctuation b (get_or cs 0 0) ])
      go false cs = punctuation_join b cs
      go true [] = refl
      go true (c ∷ cs) = ap (λ (p : Piece). elim (eqb c 33) as (λ z. Piece) [ true ↦ p | false ↦ punctuator b ]) (doc_join cs)

  piece_join : (b : ℕ) (bs : List ℕ) → Same (piece (b ∷ bs)) (piece (b ∷ on bs))
  unfolding piece
  piece_join b bs =
      same_cases (is_ident_start b) (λ e. inl (name_join (b ∷ bs))) (λ e.
      same_cases (is_digit b) (λ f. inl (number_join (b ∷ bs))) (λ f.
      same_cases (eqb b 34) (λ g. string_join bs) (λ g. inl (symbol_join b bs))))

  -- ---- blanks and comments

  comment_join : (b : ℕ) (bs : List ℕ) → begins_comment b (get_or (on bs) 0 0) ≡ begins_comment b (get_or bs 0 0)
  unfolding begins_comment
  comment_join b bs = ap (λ (t : Bool). elim (eqb b 35) as (λ z. Bool) [ true ↦ not t | false ↦ false ]) (peek_join (λ n. eqb n 33) refl bs r 0 (omega arith))

  -- they end within the script, or they go on behind the line feed
  skip_inside : (c : Bool) (bs : List ℕ) → skipped c bs < length bs → skipped c (on bs) ≡ skipped c bs
  unfolding skipped
  skip_inside c [] h = absurd (omega arith)
  skip_inside true (b ∷ bs) h = go (eqb b 10) (skip_inside false bs) (skip_inside true bs) h
    where
      go : (t : Bool) → (skipped false bs < length bs → skipped false (on bs) ≡ skipped false bs) → (skipped true bs < length bs → skipped true (on bs) ≡ skipped true bs) → elim t as (λ z. ℕ) [ true ↦ suc (skipped false bs) | false ↦ suc (skipped true bs) ] < suc (length bs)
          → ◌≡◌ {A = ℕ} (elim t as (λ z. ℕ) [ true ↦ suc (skipped false (on bs)) | false ↦ suc (skipped true (on bs)) ]) (elim t as (λ z. ℕ) [ true ↦ suc (skipped false bs) | false ↦ suc (skipped true bs) ])
      go true f g k = ap suc (f (omega arith))
      go false f g k = ap suc (g (omega arith))
  skip_inside false (b ∷ bs) h = go (is_ws b) (begins_comment b (get_or bs 0 0)) (comment_join b bs) (skip_inside false bs) (skip_inside true bs) h
    where
      go : (t u : Bool) → begins_comment b (get_or (on bs) 0 0) ≡ u → (skipped false bs < length bs → skipped false (on bs) ≡ skipped false bs) → (skipped true bs < length bs → skipped true (on bs) ≡ skipped true bs) → elim t as (λ z. ℕ) [ true ↦ suc (skipped false bs) | false ↦ elim u as (λ z. ℕ) [ true ↦ suc (skipped true bs) | false ↦ 0 ] ] < suc (length bs)
          → ◌≡◌ {A = ℕ} (elim t as (λ z. ℕ) [ true ↦ suc (skipped false (on bs)) | false ↦ elim (begins_comment b (get_or (on bs) 0 0)) as (λ z. ℕ) [ true ↦ suc (skipped true (on bs)) | false ↦ 0 ] ]) (elim t as (λ z. ℕ) [ true ↦ suc (skipped false bs) | false ↦ elim u as (λ z. ℕ) [ true ↦ suc (skipped true bs) | false ↦ 0 ] ])
      go true u e f g k = ap suc (f (omega arith))
      go false true e f g k = rw e (ap suc (g (omega arith)))
      go false false e f g k = rw e refl

  skip_over : (c : Bool) (bs : List ℕ) → length bs ≤ skipped c bs → skipped c (on bs) ≡ length bs + suc (skipped false r)
  unfolding skipped is_ws or
  skip_over true [] h = sym (zero-add _)
  skip_over false [] h = sym (zero-add _)
  skip_over true (b ∷ bs) h = go (eqb b 10) (skip_over false bs) (skip_over true bs) h
    where
      go : (t : Bool) → (length bs ≤ skipped false bs → skipped false (on bs) ≡ length bs + suc (skipped false r)) → (length bs ≤ skipped true bs → skipped true (on bs) ≡ length bs + suc (skipped false r)) → suc (length bs) ≤ elim t as (λ z. ℕ) [ true ↦ suc (skipped false bs) | false ↦ suc (skipped true bs) ]
          → ◌≡◌ {A = ℕ} (elim t as (λ z. ℕ) [ true ↦ suc (skipped false (on bs)) | false ↦ suc (skipped true (on bs)) ]) (suc (length bs) + suc (skipped false r))
      go true f g k = let z = f (omega arith) in omega arith
      go false f g k = let z = g (omega arith) in omega arith
  skip_over false (b ∷ bs) h = go (is_ws b) (begins_comment b (get_or bs 0 0)) (comment_join b bs) (skip_over false bs) (skip_over true bs) h
    where
      go : (t u : Bool) → begins_comment b (get_or (on bs) 0 0) ≡ u → (length bs ≤ skipped false bs → skipped false (on bs) ≡ length bs + suc (skipped false r)) → (length bs ≤ skipped true bs → skipped true (on bs) ≡ length bs + suc (skipped false r)) → suc (length bs) ≤ elim t as (λ z. ℕ) [ true ↦ suc (skipped false bs) | false ↦ elim u as (λ z. ℕ) [ true ↦ suc (skipped true bs) | false ↦ 0 ] ]
          → ◌≡◌ {A = ℕ} (elim t as (λ z. ℕ) [ true ↦ suc (skipped false (on bs)) | false ↦ elim (begins_comment b (get_or (on bs) 0 0)) as (λ z. ℕ) [ true ↦ suc (skipped true (on bs)) | false ↦ 0 ] ]) (suc (length bs) + suc (skipped false r))
      go true u e f g k = let z = f (omega arith) in omega arith
      go false true e f g k = rw e (let z = g (omega arith) in omega arith)
      go false false e f g k = absurd (omega arith)

-- ---- steps

-- a step moved
abbrev moved_step : ℕ → Step → Step
moved_step k (Step.Token t next) = Step.Token (record { kind = t.kind; start = k + t.start; len = t.len }) (k + next)
moved_step k (Step.Fault e next) = Step.Fault (record { number = e.number; start = k + e.start; len = e.len; seen = e.seen }) (k + next)
moved_step k (Step.End at) = Step.End (k + at)

placed_moved : (k at : ℕ) (p : Piece) → placed (k + at) p ≡ moved_step k (placed at p)
placed_moved k at (Piece.Token kind len taken) = let e : k + at + taken ≡ k + (at + taken) = omega arith in ap (Step.Token (record { kind = kind; start = k + at; len = len })) e
placed_moved k at (Piece.Fault n len seen taken) = let e : k + at + taken ≡ k + (at + taken) = omega arith in ap (Step.Fault (record { number = n; start = k + at; len = len; seen = seen })) e

-- a token that stands so many bytes later
abbrev pub later : ℕ → Token → Token
later k t = record { kind = t.kind; start = k + t.start; len = t.len }

abbrev moved_cut : ℕ → Cut → Cut
moved_cut k (eof at) = eof (k + at)
moved_cut k (cut_token t next c) = cut_token (later k t) (k + next) (moved_cut k c)
moved_cut k (cut_fault e c) = cut_fault (record { number = e.number; start = k + e.start; len = e.len; seen = e.seen }) (moved_cut k c)

tokens_moved : (k : ℕ) (c : Cut) → tokens_of (moved_cut k c) ≡ map (later k) (tokens_of c)
unfolding tokens_of
tokens_moved k (eof at) = refl
tokens_moved k (cut_token t next c) = ap {B = List Token} (λ l. later k t ∷ l) (tokens_moved k c)
tokens_moved k (cut_fault e c) = tokens_moved k c

-- every fault is another than 31
abbrev pub Closed : Cut → Type 0
Closed (eof at) = Unit {0}
Closed (cut_token t next c) = Closed c
Closed (cut_fault e c) = (¬ (e.number ≡ 31)) × Closed c

cons≢nil : {A : Type 0} {X : Type 0} (x : A) (l : List A) → x ∷ l ≡ [] → X
cons≢nil x l e = let z = ap length e in absurd (omega arith)

pub faultless-closed : (m : ℕ) (c : Cut) → faults_of m c ≡ [] → Closed c
unfolding faults_of
faultless-closed m (eof at) h = tt
faultless-closed m (cut_token t next c) h = faultless-closed (suc m) c h
faultless-closed m (cut_fault e c) h = cons≢nil _ _ h

faults_moved : (k m n : ℕ) (c : Cut) → faults_of m c ≡ [] → faults_of n (moved_cut k c) ≡ []
unfolding faults_of
faults_moved k m n (eof at) h = refl
faults_moved k m n (cut_token t next c) h = faults_moved k (suc m) (suc n) c h
faults_moved k m n (cut_fault e c) h = cons≢nil _ _ h

module _ (s₁ s₂ : List ℕ) where
  abbrev pub both : List ℕ
  both = s₁ ++ (10 ∷ s₂)

  -- where the second script begins
  abbrev pub seam : ℕ
  seam = length s₁ + 1

  pub both-length : length both ≡ seam + length s₂
  both-length = length-append s₁ (10 ∷ s₂) ∙ omega arith

  drop_second : (pos : ℕ) → drop (seam + pos) both ≡ drop pos s₂
  drop_second pos = let e : seam + pos ≡ length s₁ + suc pos = omega arith in ap (λ (n : ℕ). drop n both) e ∙ drop-append-add s₁ (10 ∷ s₂) (suc pos)

  drop-first : (pos : ℕ) → pos ≤ length s₁ → drop pos both ≡ drop pos s₁ ++ (10 ∷ s₂)
  drop-first pos h = drop-append-le pos s₁ (10 ∷ s₂) h

  -- ---- in the second script

  stands_second : (at : ℕ) → stands_at both (seam + at) ≡ moved_step seam (stands_at s₂ at)
  unfolding stands_at
  stands_second at = go (ltb at (length s₂)) refl
    where
      go : (b : Bool) → ltb at (length s₂) ≡ b → elim (ltb (seam + at) (length both)) as (λ z. Step) [ true ↦ placed (seam + at) (piece (drop (seam + at) both)) | false ↦ Step.End (seam + at) ] ≡ moved_step seam (elim b as (λ z. Step) [ true ↦ placed at (piece (drop at s₂)) | false ↦ Step.End at ])
      go true e = rw (lt-ltb (seam + at) (length both) (omega (arith, ltb-true at (length s₂) e, both-length))) (ap (λ (l : List ℕ). placed (seam + at) (piece l)) (drop_second at) ∙ placed_moved seam at (piece (drop at s₂)))
      go false e = rw (le-ltb (seam + at) (length both) (omega (arith, ltb-false at (length s₂) e, both-length))) refl

  step_second : (pos : ℕ) → step_at both (seam + pos) ≡ moved_step seam (step_at s₂ pos)
  unfolding step_at
  step_second pos =
      let e : seam + pos + skipped false (drop pos s₂) ≡ seam + (pos + skipped false (drop pos s₂)) = omega arith in
      ap (stands_at both) (ap (λ (l : List ℕ). seam + pos + skipped false l) (drop_second pos) ∙ e) ∙ stands_second (pos + skipped false (drop pos s₂))

  -- ---- in the first script

  -- what the step of both scripts is, by the first's
  abbrev Follows : ℕ → Step → Type 0
  Follows pos (Step.Token t next) = step_at both pos ≡ Step.Token t next
  Follows pos (Step.Fault e next) = ¬ (e.number ≡ 31) → step_at both pos ≡ Step.Fault e next
  Follows pos (Step.End at) = step_at both pos ≡ step_at both seam

  placed_first : (pos at : ℕ) (p q : Piece) → step_at both pos ≡ placed at q → Same p q → Follows pos (placed at p)
  placed_first pos at (Piece.Token kind len taken) q e (inl h) = e ∙ ap (placed at) h
  placed_first pos at (Piece.Token kind len taken) q e (inr h) = absurd h
  placed_first pos at (Piece.Fault number len seen taken) q e (inl h) = λ n. e ∙ ap (placed at) h
  placed_first pos at (Piece.Fault number len seen taken) q e (inr h) = λ n. absurd (n h)

  piece-first : (at : ℕ) → at < length s₁ → Same (piece (drop at s₁)) (piece (drop at both))
  piece-first at h = subst (λ (l : List ℕ). Same (piece (drop at s₁)) (piece l)) (sym (drop-first at (omega arith))) (go (drop at s₁) (omega (arith, length-drop at s₁)))
    where
      go : (l : List ℕ) → 0 < length l → Same (piece l) (piece (l ++ (10 ∷ s₂)))
      go [] k = absurd (omega arith)
      go (b ∷ bs) k = piece_join s₂ b bs

  step_first : (pos : ℕ) → pos ≤ length s₁ → Follows pos (step_at s₁ pos)
  unfolding step_at stands_at
  step_first pos h = go (ltb (pos + n) (length s₁)) refl
    where
      n : ℕ
      n = skipped false (drop pos s₁)

      go : (b : Bool) → ltb (pos + skipped false (drop pos s₁)) (length s₁) ≡ b → Follows pos (elim b as (λ z. Step) [ true ↦ placed (pos + skipped false (drop pos s₁)) (piece (drop (pos + skipped false (drop pos s₁)) s₁)) | false ↦ Step.End (pos + skipped false (drop pos s₁)) ])
      go true e =
          let m = skipped false (drop pos s₁) in
          let l : pos + m < length s₁ = ltb-true (pos + m) (length s₁) e in
          let same : skipped false (drop pos both) ≡ m = ap (skipped false) (drop-first pos h) ∙ skip_inside s₂ false (drop pos s₁) (omega (arith, length-drop pos s₁)) in
          placed_first pos (pos + m) (piece (drop (pos + m) s₁)) (piece (drop (pos + m) both)) (ap (λ (k : ℕ). stands_at both (pos + k)) same ∙ here m l) (piece-first (pos + m) l)
        where
          here : (m : ℕ) → pos + m < length s₁ → stands_at both (pos + m) ≡ placed (pos + m) (piece (drop (pos + m) both))
          here m l = rw (lt-ltb (pos + m) (length both) (omega (arith, both-length)), stands_at) refl
      go false e =
          let m = skipped false (drop pos s₁) in
          let over : skipped false (drop pos both) ≡ length (drop pos s₁) + suc (skipped false s₂) = ap (skipped false) (drop-first pos h) ∙ skip_over s₂ false (drop pos s₁) (omega (arith, ltb-false (pos + m) (length s₁) e, length-drop pos s₁)) in
          let zero_more : seam ≡ seam + 0 = omega arith in
          let there : drop seam both ≡ s₂ = ap (λ (k : ℕ). drop k both) zero_more ∙ drop_second 0 in
          let sum : pos + (length (drop pos s₁) + suc (skipped false s₂)) ≡ seam + skipped false s₂ = omega (arith, length-drop pos s₁) in
          ap (stands_at both) (ap (λ (k : ℕ). pos + k) over ∙ sum ∙ ap (λ (l : List ℕ). seam + skipped false l) (sym there))

  -- ---- cuts

  abbrev Known : ℕ → Step → Type 0
  Known pos s = Forward s₂ pos s × (step_at both (seam + pos) ≡ moved_step seam s)

  cut_extends : (pos : ℕ) (s : Step) → Known pos s → ((n : ℕ) → pos < n → n ≤ length s₂ → cut_at both (seam + n) ≡ moved_cut seam (cut_at s₂ n)) → cut_at both (seam + pos) ≡ moved_cut seam (extend_cut (cut_at s₂) s)
  cut_extends pos (Step.Token t n) k h = cut_step both (seam + pos) ∙ ap (extend_cut (cut_at both)) k.1 ∙ ap (cut_token (later seam t) (seam + n)) (h n (omega arith) (omega arith))
  cut_extends pos (Step.Fault e n) k h = cut_step both (seam + pos) ∙ ap (extend_cut (cut_at both)) k.1 ∙ ap (cut_fault (record { number = e.number; start = seam + e.start; len = e.len; seen = e.seen })) (h n (omega arith) (omega arith))
  cut_extends pos (Step.End at) k h = cut_step both (seam + pos) ∙ ap (extend_cut (cut_at both)) k.1

  cut_second : cut_at both seam ≡ moved_cut seam (cut s₂)
  unfolding cut
  cut_second = let e : seam ≡ seam + 0 = omega arith in ap (cut_at both) e ∙ cut_by s₂ Known (λ pos. (step_forward s₂ pos, step_second pos)) (λ pos c. cut_at both (seam + pos) ≡ moved_cut seam c) cut_extends (suc (length s₂)) 0 (omega arith)

  pub tokens_second : tokens_of (cut_at both seam) ≡ map (later seam) (tokens_of (cut s₂))
  tokens_second = ap tokens_of cut_second ∙ tokens_moved seam (cut s₂)

  -- tokens of the first script, Eof apart
  abbrev pub AllInside : List Token → Type 0
  AllInside [] = Unit {0}
  AllInside (t ∷ ts) = (1 < t.kind) × (t.start < length s₁) × AllInside ts

  pub record Cuts (pos : ℕ) (c : Cut) : Type 0 where
    pub tokens : List Token
    pub last : Token
    pub eof : last.kind ≡ k_eof
    pub own : tokens_of c ≡ tokens ++ (last ∷ [])
    pub whole : tokens_of (cut_at both pos) ≡ tokens ++ tokens_of (cut_at both seam)
    pub inside : AllInside tokens
    pub faults : (m n : ℕ) → faults_of m c ≡ [] → faults_of 0 (cut s₂) ≡ [] → faults_of n (cut_at both pos) ≡ []

  cuts_extend : (pos : ℕ) (s : Step) → Forward s₁ pos s × (pos ≤ length s₁ → Follows pos s) → ((n : ℕ) → pos < n → n ≤ length s₁ → n ≤ length s₁ → Closed (cut_at s₁ n) → Cuts n (cut_at s₁ n)) → pos ≤ length s₁ → Closed (extend_cut (cut_at s₁) s) → Cuts pos (extend_cut (cut_at s₁) s)
  unfolding tokens_of faults_of
  cuts_extend pos (Step.Token t n) k h l z =
      let i = h n (omega arith) (omega arith) (omega arith) z in
      let e = cut_step both pos ∙ ap (extend_cut (cut_at both)) (k.1 l) in
      record {
        tokens = t ∷ i.tokens;
        last = i.last;
        eof = i.eof;
        own = ap {B = List Token} (λ a. t ∷ a) i.own;
        whole = ap tokens_of e ∙ ap {B = List Token} (λ a. t ∷ a) i.whole;
        inside = (k.0.0, omega arith, i.inside);
        faults = λ m m' f g. ap (faults_of m') e ∙ i.faults (suc m) (suc m') f g;
      }
  cuts_extend pos (Step.Fault x n) k h l z =
      let i = h n (omega arith) (omega arith) (omega arith) z.1 in
      let e = cut_step both pos ∙ ap (extend_cut (cut_at both)) (k.1 l z.0) in
      record {
        tokens = i.tokens;
        last = i.last;
        eof = i.eof;
        own = i.own;
        whole = ap tokens_of e ∙ i.whole;
        inside = i.inside;
        faults = λ m m' f g. cons≢nil _ _ f;
      }
  cuts_extend pos (Step.End at) k h l z =
      let e = cut_step both pos ∙ ap (extend_cut (cut_at both)) (k.1 l) ∙ sym (cut_step both seam) in
      record {
        tokens = [];
        last = eof_token at;
        eof = refl;
        own = refl;
        whole = ap tokens_of e;
        inside = tt;
        faults = λ m m' f g. ap (faults_of m') (e ∙ cut_second) ∙ faults_moved seam 0 m' (cut s₂) g;
      }

  pub cuts : Closed (cut s₁) → Cuts 0 (cut s₁)
  unfolding cut
  cuts z = cut_by s₁ (λ pos s. Forward s₁ pos s × (pos ≤ length s₁ → Follows pos s)) (λ pos. (step_forward s₁ pos, step_first pos)) (λ pos c. pos ≤ length s₁ → Closed c → Cuts pos c) cuts_extend (suc (length s₁)) 0 (omega arith) (omega arith) z
