-- The laws of the cut: every step moves forward and stays within the script, the cut from a
-- position on begins with what the step there gives, and `next_at` gives the first token of
-- `tokens_from` and where the others begin.
-- Assumes nothing.
use mathlib.Core.Path.{◌≡◌, refl, ap}
use mathlib.Core.Bool.{Bool, true, false}
use mathlib.Core.List.{List, [], ◌∷◌}
use Prim.Native.Nat.{ℕ, zero, suc, ◌+◌, ◌-◌, ◌<◌, ◌≤◌, zero-le, suc-le-suc}
use native.Mathlib.Nat.{add-zero}
use native.Mathlib.Omega.{arith}
use lib.Dec.{ltb, eqb}
use lib.ListN.{length, get_or, drop, length-drop, drop_of_length-le}
use borrow.Author.Tests.{ltb-true, ltb-false, le-ltb}
use Rattle.lex.specs.declared.tok.Token.{Token}
use Rattle.lex.specs.declared.tok.Piece.{Piece}
use Rattle.lex.specs.declared.tok.Step.{Step}
use Rattle.lex.specs.declared.tok.Next.{Next}
use Rattle.lex.specs.Bytes.{is_ws}
use Rattle.lex.specs.Kind.{k_eof}
use Rattle.lex.specs.Lex.{begins_comment, skipped, piece, placed, stands_at, step_at}
use Rattle.lex.specs.Lex.{Cut, eof, cut_token, cut_fault, extend_cut, cut_from, cut_at, cut, tokens_of, next_of, tokens_from, next_at, faults_of}
use Rattle.lex.proofs.Laws.{cases}
use Rattle.lex.proofs.Pieces.{Within, piece-within}

skipped_le : (comment : Bool) (bs : List ℕ) → skipped comment bs ≤ length bs
unfolding skipped
skipped_le comment [] = zero-le
skipped_le true (b ∷ bs) = cases (λ (k : ℕ). k ≤ suc (length bs)) (eqb b 10) (λ e. suc-le-suc (skipped_le false bs)) (λ e. suc-le-suc (skipped_le true bs))
skipped_le false (b ∷ bs) =
    cases (λ (k : ℕ). k ≤ suc (length bs)) (is_ws b) (λ e. suc-le-suc (skipped_le false bs)) (λ e.
    cases (λ (k : ℕ). k ≤ suc (length bs)) (begins_comment b (get_or bs 0 0)) (λ f. suc-le-suc (skipped_le true bs)) (λ f. zero-le))

-- ---- a step moves forward, within the script

-- a span that starts at `pos` or after it and ends before or at `next`, which lies after its start
-- and within the script
pub record Moves (script : List ℕ) (pos start len next : ℕ) : Type 0 where
  pub begins : pos ≤ start
  pub moves : start < next
  pub spans : start + len ≤ next
  pub ends : next ≤ length script

abbrev pub Forward : List ℕ → ℕ → Step → Type 0
Forward script pos (Step.Token t next) = (1 < t.kind) × Moves script pos t.start t.len next
Forward script pos (Step.Fault e next) = Moves script pos e.start e.len next
Forward script pos (Step.End at) = (length script ≤ at) × (pos ≤ length script → at ≡ length script)

placed_forward : (script : List ℕ) (pos at : ℕ) → pos ≤ at → at < length script → (p : Piece) → Within (length (drop at script)) p → Forward script pos (placed at p)
placed_forward script pos at h k (Piece.Token kind len taken) w = omega (arith, length-drop at script)
placed_forward script pos at h k (Piece.Fault number len seen taken) w = omega (arith, length-drop at script)

pub step_forward : (script : List ℕ) (pos : ℕ) → Forward script pos (step_at script pos)
unfolding step_at stands_at
step_forward script pos =
    let n = skipped false (drop pos script) in
    cases (Forward script pos) (ltb (pos + n) (length script))
    (λ e. let h = ltb-true (pos + n) (length script) e in
    placed_forward script pos (pos + n) (omega arith) h (piece (drop (pos + n) script)) (piece-within _ (omega (arith, length-drop (pos + n) script))))
    (λ e. let h = ltb-false (pos + n) (length script) e in omega (arith, skipped_le false (drop pos script), length-drop pos script))

-- at the end or past it nothing stands
pub step_end : (script : List ℕ) (pos : ℕ) → length script ≤ pos → step_at script pos ≡ Step.End pos
unfolding step_at stands_at skipped
step_end script pos h = rw (drop_of_length-le script h, add-zero pos) (rw (le-ltb pos (length script) h, stands_at))

-- ---- the cut from a position on

module _ (script : List ℕ) where
  same_step : (f g : ℕ → Cut) (pos : ℕ) (s : Step) → Forward script pos s → ((n : ℕ) → pos < n → n ≤ length script → f n ≡ g n) → extend_cut f s ≡ extend_cut g s
  same_step f g pos (Step.Token t n) h r = ap (cut_token t n) (r n (omega arith) (omega arith))
  same_step f g pos (Step.Fault e n) h r = ap (cut_fault e) (r n (omega arith) (omega arith))
  same_step f g pos (Step.End at) h r = refl

  -- a fuel above the number of bytes left is enough
  enough : (f g pos : ℕ) → length script - pos < f → length script - pos < g → cut_from f script pos ≡ cut_from g script pos
  unfolding cut_from
  enough zero g pos h k = absurd (omega arith)
  enough (suc f) zero pos h k = absurd (omega arith)
  enough (suc f) (suc g) pos h k =
      same_step (cut_from f script) (cut_from g script) pos (step_at script pos) (step_forward script pos)
      (λ n p q. enough f g n (omega arith) (omega arith))

  pub cut_step : (pos : ℕ) → cut_at script pos ≡ extend_cut (cut_at script) (step_at script pos)
  unfolding cut_at cut_from
  cut_step pos =
      same_step (cut_from (length script) script) (cut_at script) pos (step_at script pos) (step_forward script pos)
      (λ n p q. enough (length script) (suc (length script)) n (omega arith) (omega arith))

  -- what holds of the cut from every position on, if it holds of the cut that each step begins
  -- where it holds of what follows; of the step itself `Q` is known
  pub cut_by : (Q : ℕ → Step → Type 0) → ((pos : ℕ) → Q pos (step_at script pos)) → (P : ℕ → Cut → Type 0)
      → ((pos : ℕ) (s : Step) → Q pos s → ((n : ℕ) → pos < n → n ≤ length script → P n (cut_at script n)) → P pos (extend_cut (cut_at script) s))
      → (f pos : ℕ) → length script - pos < f → P pos (cut_at script pos)
  cut_by Q known P step zero pos h = absurd (omega arith)
  cut_by Q known P step (suc f) pos h = rw (cut_step pos) (step pos (step_at script pos) (known pos) (λ n p q. cut_by Q known P step f n (omega arith)))

  -- the same, of steps that move forward
  pub cut_ind : (P : ℕ → Cut → Type 0)
      → ((pos : ℕ) (s : Step) → Forward script pos s → ((n : ℕ) → pos < n → n ≤ length script → P n (cut_at script n)) → P pos (extend_cut (cut_at script) s))
      → (f pos : ℕ) → length script - pos < f → P pos (cut_at script pos)
  cut_ind = cut_by (Forward script) (step_forward script)

-- ---- the first token, and the tokens after it

pub next_step : (script : List ℕ) (pos : ℕ) {s : Step} → step_at script pos ≡ s → next_at script pos ≡ next_of (extend_cut (cut_at script) s)
unfolding next_at
next_step script pos e = rw (← e) (ap next_of (cut_step script pos))

-- of the first token `x` of `ts`, the tokens from `pos` on
pub record First (script : List ℕ) (pos : ℕ) (x : Next) (ts : List Token) : Type 0 where
  pub more : (x.token.kind ≡ k_eof → ⊥) → ts ≡ x.token ∷ tokens_from script x.next
  pub last : x.token.kind ≡ k_eof → ts ≡ x.token ∷ []
  pub moves : (x.token.kind ≡ k_eof → ⊥) → Moves script pos x.token.start x.token.len x.next
  pub ends : x.token.kind ≡ k_eof → pos ≤ length script → (x.token.start ≡ length script) × (x.next ≡ length script)

first_step : (script : List ℕ) (pos : ℕ) (s : Step) → Forward script pos s
    → ((n : ℕ) → pos < n → n ≤ length script → First script n (next_at script n) (tokens_from script n))
    → First script pos (next_of (extend_cut (cut_at script) s)) (tokens_of (extend_cut (cut_at script) s))
unfolding next_at next_of tokens_from tokens_of
first_step script pos (Step.Token t n) h r =
    record { more = λ e. refl; last = λ e. absurd (omega arith); moves = λ e. h.1; ends = λ e p. absurd (omega arith) }
first_step script pos (Step.Fault e n) h r =
    let f = r n (omega arith) (omega arith) in
    record { more = f.more; last = f.last; moves = λ k. let m = f.moves k in omega arith; ends = λ k p. f.ends k (omega arith) }
first_step script pos (Step.End at) h r =
    record { more = λ e. absurd (e refl); last = λ e. refl; moves = λ e. absurd (e refl); ends = λ e p. (h.1 p, h.1 p) }

-- what `next_token` answers is the first of the tokens from there on
pub next-first : (script : List ℕ) (pos : ℕ) {x : Next} → x ≡ next_at script pos → First script pos x (tokens_from script pos)
unfolding next_at tokens_from
next-first script pos e =
    rw e
    (cut_ind script (λ (n : ℕ) (c : Cut). First script n (next_of c) (tokens_of c)) (first_step script) (suc (length script)) pos (omega arith))

-- ---- there are no more tokens and faults than bytes

-- the tokens before Eof and the faults of a cut
abbrev pub pieces : Cut → ℕ
pieces (eof at) = 0
pieces (cut_token t n c) = suc (pieces c)
pieces (cut_fault e c) = suc (pieces c)

pieces_step : (script : List ℕ) (pos : ℕ) (s : Step) → Forward script pos s → ((n : ℕ) → pos < n → n ≤ length script → pieces (cut_at script n) ≤ length script - n)
    → pieces (extend_cut (cut_at script) s) ≤ length script - pos
pieces_step script pos (Step.Token t n) h r = omega (arith, r n (omega arith) (omega arith))
pieces_step script pos (Step.Fault e n) h r = omega (arith, r n (omega arith) (omega arith))
pieces_step script pos (Step.End at) h r = zero-le

pub pieces_le : (script : List ℕ) (pos : ℕ) → pieces (cut_at script pos) ≤ length script - pos
pieces_le script pos =
    cut_ind script (λ (n : ℕ) (c : Cut). pieces c ≤ length script - n) (pieces_step script) (suc (length script)) pos (omega arith)

-- the tokens, Eof among them, and the faults are one more than the pieces
pub pieces_are : (k : ℕ) (c : Cut) → length (tokens_of c) + length (faults_of k c) ≡ suc (pieces c)
unfolding tokens_of faults_of
pieces_are k (eof at) = refl
pieces_are k (cut_token t n c) = omega (arith, pieces_are (suc k) c)
pieces_are k (cut_fault e c) = omega (arith, pieces_are k c)

pub tokens_le : (script : List ℕ) (pos k : ℕ) → length (tokens_from script pos) + length (faults_of k (cut_at script pos)) ≤ suc (length script - pos)
unfolding tokens_from
tokens_le script pos k = omega (arith, pieces_are k (cut_at script pos), pieces_le script pos)

pub cut_le : (script : List ℕ) → length (tokens_of (cut script)) + length (faults_of 0 (cut script)) ≤ length script + 1
unfolding cut tokens_from
cut_le script = omega (arith, tokens_le script 0 0)
