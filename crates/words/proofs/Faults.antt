-- The tokens of a script are of kinds of `Type`, and every fault of the lexer has words.
-- Assumes nothing.
use mathlib.Core.Path.{◌≡◌, refl}
use mathlib.Core.Bool.{true, false, ◌&&◌}
use mathlib.Core.List.{List, [], ◌∷◌}
use Prim.Native.Nat.{ℕ, zero, suc, ◌+◌, ◌-◌, ◌<◌, ◌≤◌}
use native.Mathlib.Omega.{arith}
use lib.Dec.{ltb, eqb}
use lib.ListN.{length, get_or, take, drop}
use borrow.Author.Tests.{ltb-true, le-leb}
use Rattle.lex.specs.declared.tok.Token.{Token}
use Rattle.lex.specs.declared.tok.Piece.{Piece}
use Rattle.lex.specs.declared.tok.Step.{Step}
use Rattle.lex.specs.Bytes.{is_digit, is_ident_start, is_num_cont, count_while, before, find_byte}
use Rattle.lex.specs.Kind.{punctuator_kind}
use Rattle.lex.specs.Utf8.{utf8}
use Rattle.lex.specs.Lex.{skipped, punctuator, punctuation, leading_space, doc_in, doc, string, double_in, number_in, number, name, symbol, piece, placed, stands_at, step_at}
use Rattle.lex.specs.Lex.{Cut, extend_cut, cut_at, cut, tokens_of, diagnostic_of, Occurrence, faults_of}
use Rattle.lex.proofs.Laws.{cases, found-cases}
use Rattle.lex.proofs.Steps.{Forward, step_forward, cut_by}
use Rattle.lex.proofs.Spellings.{Spelled, Ended, cut-ended}
use Rattle.text.specs.Emit.{plain}
use Rattle.text.proofs.EmitLaws.{and_left, and_right}
use Rattle.words.specs.Words.{is_kind, is_script_error, is_wanted, is_seen, has_words}
use Rattle.words.proofs.Errors.{AllKnown}

-- ---- tokens

spelled-known : (script : List ℕ) (t : Token) → Spelled script t → is_kind t.kind ≡ true
unfolding is_kind
spelled-known script t h = rw (le-leb 1 t.kind h.least, le-leb t.kind 43 h.greatest, is_kind)

ended-known : (script : List ℕ) (l : List Token) → Ended script l → AllKnown l
ended-known script [] e = absurd e
ended-known script (t ∷ []) e = (spelled-known script t e.1, tt)
ended-known script (t ∷ (u ∷ ts)) e = (spelled-known script t e.2, ended-known script (u ∷ ts) e.1)

pub tokens-known : (script : List ℕ) → AllKnown (tokens_of (cut script))
tokens-known script = ended-known script (tokens_of (cut script)) (cut-ended script)

-- ---- pieces

-- what `has_words` asks of a fault
abbrev Describable : Piece → Type 0
Describable (Piece.Token kind len taken) = Unit {0}
Describable (Piece.Fault number len seen taken) = (is_script_error number && is_wanted number 0) && is_seen number seen ≡ true

punctuator-words : (b : ℕ) → b < 256 → Describable (punctuator b)
unfolding punctuator is_script_error is_wanted is_seen
punctuator-words b h = cases Describable (ltb 0 (punctuator_kind b)) (λ e. tt) (λ e. le-leb b 255 (omega arith))

punctuation-words : (b next : ℕ) → b < 256 → Describable (punctuation b next)
unfolding punctuation
punctuation-words b next h =
    cases Describable (eqb next 61)
    (λ e. cases Describable (eqb b 61) (λ f. tt) (λ f. cases Describable (eqb b 33) (λ g. tt) (λ g. punctuator-words b h)))
    (λ e. punctuator-words b h)

module _ (bs : List ℕ) where
  doc-words : Describable (doc bs)
  unfolding doc doc_in is_script_error is_wanted is_seen
  doc-words = cases Describable (utf8 (drop (leading_space (take (before 10 bs) bs)) (take (before 10 bs) bs))) (λ u. tt) (λ u. refl)

  string-words : Describable (string bs)
  unfolding string is_script_error is_wanted is_seen
  string-words = found-cases Describable (find_byte 34 bs) (λ n e. cases Describable (utf8 (take n bs)) (λ u. tt) (λ u. refl)) (λ e. refl)

  number-words : Describable (number bs)
  unfolding number number_in double_in is_script_error is_wanted is_seen
  number-words =
      let n = count_while is_num_cont bs in
      found-cases Describable (find_byte 46 (take n bs))
      (λ first e. cases Describable (is_ident_start (get_or bs (first + 1) 0)) (λ f. tt) (λ f.
      found-cases Describable (find_byte 46 (take (n - (first + 1)) (drop (first + 1) bs)))
      (λ more g. cases Describable (is_ident_start (get_or bs (first + 1 + more + 1) 0)) (λ i. tt) (λ i. refl))
      (λ g. tt)))
      (λ e. tt)

  name-words : Describable (name bs)
  unfolding name
  name-words = tt

symbol-words : (bs : List ℕ) → get_or bs 0 0 < 256 → Describable (symbol bs)
unfolding symbol
symbol-words bs h =
    cases Describable (eqb (get_or bs 0 0) 35)
    (λ e. cases Describable (eqb (get_or bs 1 0) 33) (λ f. doc-words (drop 2 bs)) (λ f. punctuator-words (get_or bs 0 0) h))
    (λ e. punctuation-words (get_or bs 0 0) (get_or bs 1 0) h)

piece-words : (bs : List ℕ) → get_or bs 0 0 < 256 → Describable (piece bs)
unfolding piece
piece-words bs h =
    cases Describable (is_ident_start (get_or bs 0 0)) (λ e. name-words bs) (λ e.
    cases Describable (is_digit (get_or bs 0 0)) (λ f. number-words bs) (λ f.
    cases Describable (eqb (get_or bs 0 0) 34) (λ g. string-words (drop 1 bs)) (λ g. symbol-words bs h)))

-- ---- faults

-- a byte of a script, or 0 behind its end
byte_at : (script : List ℕ) (at : ℕ) → plain script ≡ true → get_or (drop at script) 0 0 < 256
unfolding plain
byte_at [] zero p = omega arith
byte_at [] (suc at) p = omega arith
byte_at (b ∷ bs) zero p = ltb-true b 256 (and_left (ltb b 256) (plain bs) p)
byte_at (b ∷ bs) (suc at) p = byte_at bs at (and_right (ltb b 256) (plain bs) p)

abbrev FaultWords : Step → Type 0
FaultWords (Step.Token t next) = Unit {0}
FaultWords (Step.Fault e next) = has_words (diagnostic_of e) ≡ true
FaultWords (Step.End at) = Unit {0}

placed-words : (at : ℕ) (p : Piece) → Describable p → FaultWords (placed at p)
unfolding has_words diagnostic_of
placed-words at (Piece.Token kind len taken) h = tt
placed-words at (Piece.Fault number len seen taken) h = h

-- each has words
abbrev pub AllWorded : List Occurrence → Type 0
AllWorded [] = Unit {0}
AllWorded (o ∷ os) = (has_words o.diagnostic ≡ true) × AllWorded os

module _ (script : List ℕ) (bytes : plain script ≡ true) where
  step_words : (pos : ℕ) → FaultWords (step_at script pos)
  unfolding step_at stands_at
  step_words pos =
      let at = pos + skipped false (drop pos script) in
      cases FaultWords (ltb at (length script)) (λ e. placed-words at (piece (drop at script)) (piece-words (drop at script) (byte_at script at bytes))) (λ e. tt)

  abbrev Understood : ℕ → Step → Type 0
  Understood pos s = Forward script pos s × FaultWords s

  faults_step : (pos : ℕ) (s : Step) → Understood pos s → ((n : ℕ) → pos < n → n ≤ length script → (k : ℕ) → AllWorded (faults_of k (cut_at script n)))
      → (k : ℕ) → AllWorded (faults_of k (extend_cut (cut_at script) s))
  unfolding faults_of
  faults_step pos (Step.Token t n) h r k = r n (omega arith) (omega arith) (suc k)
  faults_step pos (Step.Fault e n) h r k = (h.1, r n (omega arith) (omega arith) k)
  faults_step pos (Step.End at) h r k = tt

  pub faults_worded : AllWorded (faults_of 0 (cut script))
  unfolding cut
  faults_worded =
      cut_by script Understood (λ pos. (step_forward script pos, step_words pos)) (λ (n : ℕ) (c : Cut). (k : ℕ) → AllWorded (faults_of k c)) faults_step
      (suc (length script)) 0 (omega arith) 0
