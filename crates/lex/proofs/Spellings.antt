-- Spellings: what `spelling` answers, and that of every token that the lexer yields the kind is
-- known and the spelling lies in the script.
-- Assumes nothing.
use mathlib.Core.Path.{◌≡◌, refl, sym}
use mathlib.Core.Bool.{Bool, true, false}
use mathlib.Core.List.{List, [], ◌∷◌}
use Prim.Native.Nat.{ℕ, suc, ◌+◌, ◌-◌, ◌<◌, ◌≤◌}
use native.Mathlib.Omega.{arith}
use lib.Dec.{ltb, leb, eqb}
use lib.ListN.{length, get_or, take, drop, length-take, length-drop}
use borrow.Author.Tests.{ltb-true, eqb-true, leb-true, le-leb, lt-leb, ne_eqb}
use Rattle.std.specs.Prelude.{Option, Some, None}
use Rattle.lex.specs.declared.tok.Token.{Token}
use Rattle.lex.specs.declared.tok.Piece.{Piece}
use Rattle.lex.specs.declared.tok.Step.{Step}
use Rattle.lex.specs.Bytes.{is_digit, is_ident_start, is_num_cont, count_while, differs_from, before, find_byte}
use Rattle.lex.specs.Kind.{Keyword, k_eof, k_s, k_doc, keywords, name_kind, same_bytes, punctuators, punctuator_kinds, punctuator_kind}
use Rattle.lex.specs.Utf8.{utf8}
use Rattle.lex.specs.Lex.{skipped, punctuator, punctuation, leading_space, doc_in, doc, string, double_in, number_in, number, name, symbol, piece, placed, stands_at, step_at}
use Rattle.lex.specs.Lex.{Cut, extend_cut, cut_at, cut, eof_token, tokens_of, next_of, tokens_from, next_at}
use Rattle.lex.specs.Spelling.{has_spelling, spelling_offset, spelling_start, spelling}
use Rattle.lex.proofs.Laws.{cases, found-cases, agree, found, leading_le}
use Rattle.lex.proofs.Pieces.{Within, piece-within}
use Rattle.lex.proofs.Steps.{Forward, step_forward, cut_by}

-- ---- what `spelling` answers

pub no-spelling-below : (k : ℕ) → k < k_s → has_spelling k ≡ false
no-spelling-below k h = rw (lt-leb k_s k h, has_spelling)

pub no-spelling_above : (k : ℕ) → k_doc < k → has_spelling k ≡ false
no-spelling_above k h = rw (le-leb k_s k (omega arith), lt-leb k k_doc h, has_spelling)

pub has_spelling_lem : (k : ℕ) → k_s ≤ k → k ≤ k_doc → has_spelling k ≡ true
has_spelling_lem k h l = rw (le-leb k_s k h, le-leb k k_doc l, has_spelling)

module _ (script : List ℕ) (t : Token) where
  pub spelling_other : has_spelling t.kind ≡ false → spelling script t ≡ None
  unfolding spelling
  spelling_other e = rw (e, spelling)

  pub spelling_outside : length script < spelling_start script t + t.len → spelling script t ≡ None
  unfolding spelling
  spelling_outside h =
      cases (λ (f : Option ℕ). f ≡ None) (has_spelling t.kind) (λ e. rw (lt-leb (spelling_start script t + t.len) (length script) h)) (λ e. refl)

  pub spelling-inside : has_spelling t.kind ≡ true → spelling_start script t + t.len ≤ length script → spelling script t ≡ Some (spelling_start script t)
  unfolding spelling
  spelling-inside e h = rw (e, le-leb (spelling_start script t + t.len) (length script) h, spelling)

  -- what `spelling` finds lies in the script
  pub spelling-found : (i : ℕ) → spelling script t ≡ Some i → (i ≡ spelling_start script t) × (i + t.len ≤ length script)
  unfolding spelling
  spelling-found i =
      cases (λ (f : Option ℕ). f ≡ Some i → (i ≡ spelling_start script t) × (i + t.len ≤ length script)) (has_spelling t.kind)
      (λ e. cases (λ (f : Option ℕ). f ≡ Some i → (i ≡ spelling_start script t) × (i + t.len ≤ length script)) (leb (spelling_start script t + t.len) (length script))
      (λ l q. let n : spelling_start script t ≡ i = cc in (sym n, rw n at (leb-true (spelling_start script t + t.len) (length script) l)))
      (λ l q. let z : ◌≡◌ {A = ℕ} 0 1 = cc in absurd (omega arith)))
      (λ e q. let z : ◌≡◌ {A = ℕ} 0 1 = cc in absurd (omega arith))

-- ---- pieces

plain_offset : (k : ℕ) (bs : List ℕ) → (k ≡ k_s → ⊥) → (k ≡ k_doc → ⊥) → spelling_offset k bs ≡ 0
unfolding spelling_offset
plain_offset k bs p q = rw (ne_eqb k k_s p, ne_eqb k k_doc q, spelling_offset)

-- the kind of a token that begins `bs` is known, and the token's spelling lies in what it takes
abbrev Inside : List ℕ → Piece → Type 0
Inside bs (Piece.Token k len taken) = (k ≤ 43) × (spelling_offset k bs + len ≤ taken)
Inside bs (Piece.Fault number len seen taken) = Unit {0}

-- such a kind has no spelling, or one that begins with the token
plain : (k : ℕ) (bs : List ℕ) (n : ℕ) → k ≤ 43 → (k ≡ k_s → ⊥) → (k ≡ k_doc → ⊥) → Inside bs (Piece.Token k n n)
plain k bs n h p q = (h, rw (plain_offset k bs p q) (omega arith))

abbrev AllAbove : List Keyword → Type 0
AllAbove [] = Unit {0}
AllAbove (w ∷ ws) = (k_doc < w.kind) × (w.kind ≤ 43) × AllAbove ws

name-plain : (ws : List Keyword) (name bs : List ℕ) (n : ℕ) → AllAbove ws → Inside bs (Piece.Token (name_kind ws name) n n)
unfolding name_kind
name-plain [] name bs n h = plain _ bs n (omega arith) (λ e. omega arith) (λ e. omega arith)
name-plain (w ∷ ws) name bs n h =
    cases (λ (k : ℕ). Inside bs (Piece.Token k n n)) (same_bytes w.spelling name)
    (λ e. plain w.kind bs n h.1 (λ q. omega arith) (λ q. omega arith))
    (λ e. name-plain ws name bs n h.2)

punctuator-below : (b : ℕ) → 0 < punctuator_kind b → punctuator_kind b < k_s
unfolding punctuator_kind punctuators punctuator_kinds
punctuator-below b =
    found-cases (λ (k : ℕ). 0 < k → k < k_s) (find_byte b punctuators)
    (λ i e h. ltb-true _ _ (agree (λ (n : ℕ). ltb (get_or punctuator_kinds n 0) k_s) (λ (n : ℕ). true) true 18 i refl (found b punctuators i e).1))
    (λ e h. absurd (omega arith))

-- a line begins with a space where what it begins does
leading_line : (ds : List ℕ) → leading_space (take (before 10 ds) ds) ≡ leading_space ds
unfolding leading_space before count_while differs_from
leading_line [] = refl
leading_line (d ∷ ds) = go (eqb d 10) refl
  where
    go : (t : Bool) → eqb d 10 ≡ t → leading_space (take (before 10 (d ∷ ds)) (d ∷ ds)) ≡ leading_space (d ∷ ds)
    go true q = rw (eqb-true d 10 q)
    go false q = simp (q, count_while, differs_from)

module _ (bs : List ℕ) where
  punctuator-inside : (b : ℕ) → Inside bs (punctuator b)
  unfolding punctuator
  punctuator-inside b =
      cases (Inside bs) (ltb 0 (punctuator_kind b))
      (λ e. let h = punctuator-below b (ltb-true _ _ e) in plain (punctuator_kind b) bs 1 (omega arith) (λ q. omega arith) (λ q. omega arith))
      (λ e. tt)

  punctuation-inside : (b next : ℕ) → Inside bs (punctuation b next)
  unfolding punctuation spelling_offset
  punctuation-inside b next =
      cases (Inside bs) (eqb next 61)
      (λ e. cases (Inside bs) (eqb b 61) (λ f. omega arith) (λ f. cases (Inside bs) (eqb b 33) (λ g. omega arith) (λ g. punctuator-inside b)))
      (λ e. punctuator-inside b)

  name-inside : Inside bs (name bs)
  unfolding name keywords
  name-inside = name-plain keywords _ bs _ (omega arith)

  number-inside : Inside bs (number bs)
  unfolding number number_in double_in spelling_offset
  number-inside =
      let n = count_while is_num_cont bs in
      found-cases (Inside bs) (find_byte 46 (take n bs))
      (λ first e. cases (Inside bs) (is_ident_start (get_or bs (first + 1) 0)) (λ f. omega arith) (λ f.
      found-cases (Inside bs) (find_byte 46 (take (n - (first + 1)) (drop (first + 1) bs)))
      (λ more e₂. cases (Inside bs) (is_ident_start (get_or bs (first + 1 + more + 1) 0)) (λ g. omega arith) (λ g. tt))
      (λ e₂. omega arith)))
      (λ e. omega arith)

  string-inside : Inside bs (string (drop 1 bs))
  unfolding string spelling_offset
  string-inside =
      found-cases (Inside bs) (find_byte 34 (drop 1 bs)) (λ n e. cases (Inside bs) (utf8 (take n (drop 1 bs))) (λ u. omega arith) (λ u. tt)) (λ e. tt)

  doc-inside : Inside bs (doc (drop 2 bs))
  unfolding doc doc_in spelling_offset
  doc-inside =
      let ds = drop 2 bs in
      let line = take (before 10 ds) ds in
      cases (Inside bs) (utf8 (drop (leading_space line) line))
      (λ u. omega (arith, leading_line ds, leading_le line, length-take (before 10 ds) ds))
      (λ u. tt)

  symbol-inside : Inside bs (symbol bs)
  unfolding symbol
  symbol-inside =
      cases (Inside bs) (eqb (get_or bs 0 0) 35)
      (λ e. cases (Inside bs) (eqb (get_or bs 1 0) 33) (λ f. doc-inside) (λ f. punctuator-inside (get_or bs 0 0)))
      (λ e. punctuation-inside (get_or bs 0 0) (get_or bs 1 0))

  piece_inside : Inside bs (piece bs)
  unfolding piece
  piece_inside =
      cases (Inside bs) (is_ident_start (get_or bs 0 0)) (λ e. name-inside) (λ e.
      cases (Inside bs) (is_digit (get_or bs 0 0)) (λ f. number-inside) (λ f.
      cases (Inside bs) (eqb (get_or bs 0 0) 34) (λ g. string-inside) (λ g. symbol-inside)))

-- ---- tokens

-- the token's kind is one of `Type`, and its spelling, if it has one, lies in the script
pub record Spelled (script : List ℕ) (t : Token) : Type 0 where
  pub least : 1 ≤ t.kind
  pub greatest : t.kind ≤ 43
  pub within : has_spelling t.kind ≡ true → spelling script t ≡ Some (spelling_start script t)

abbrev pub Spells : List ℕ → Step → Type 0
Spells script (Step.Token t next) = Spelled script t
Spells script (Step.Fault e next) = Unit {0}
Spells script (Step.End at) = Unit {0}

placed_spells : (script : List ℕ) (at : ℕ) → at < length script → (p : Piece) → Inside (drop at script) p → Within (length (drop at script)) p → Spells script (placed at p)
unfolding spelling_start
placed_spells script at h (Piece.Token k len taken) i w =
    record { least = omega arith; greatest = i.0; within = λ e. spelling-inside script (record { kind = k; start = at; len = len }) e (omega (arith, length-drop at script)) }
placed_spells script at h (Piece.Fault number len seen taken) i w = tt

pub step_spells : (script : List ℕ) (pos : ℕ) → Spells script (step_at script pos)
unfolding step_at stands_at
step_spells script pos =
    let at = pos + skipped false (drop pos script) in
    cases (Spells script) (ltb at (length script))
    (λ e. let h = ltb-true at (length script) e in
    placed_spells script at h (piece (drop at script)) (piece_inside (drop at script)) (piece-within (drop at script) (omega (arith, length-drop at script))))
    (λ e. tt)

eof-spelled : (script : List ℕ) (at : ℕ) → Spelled script (eof_token at)
eof-spelled script at = record { least = omega arith; greatest = omega arith; within = λ e. let z : ◌≡◌ {A = ℕ} 0 1 = cc in absurd (omega arith) }

-- Eof stands last and nowhere else, and each token is spelled in the script
abbrev pub Ended : List ℕ → List Token → Type 0
Ended script [] = ⊥
Ended script (t ∷ []) = (t.kind ≡ k_eof) × Spelled script t
Ended script (t ∷ (u ∷ ts)) = (¬ (t.kind ≡ k_eof)) × Ended script (u ∷ ts) × Spelled script t

ended-cons : (script : List ℕ) (t : Token) (l : List Token) → ¬ (t.kind ≡ k_eof) → Spelled script t → Ended script l → Ended script (t ∷ l)
ended-cons script t [] n s e = absurd e
ended-cons script t (u ∷ l) n s e = (n, e, s)

module _ (script : List ℕ) where
  abbrev Known : ℕ → Step → Type 0
  Known pos s = Forward script pos s × Spells script s

  known_step : (pos : ℕ) → Known pos (step_at script pos)
  known_step pos = (step_forward script pos, step_spells script pos)

  ended_step : (pos : ℕ) (s : Step) → Known pos s → ((n : ℕ) → pos < n → n ≤ length script → Ended script (tokens_of (cut_at script n)))
      → Ended script (tokens_of (extend_cut (cut_at script) s))
  unfolding tokens_of
  ended_step pos (Step.Token t n) k r = ended-cons script t (tokens_of (cut_at script n)) (λ e. omega arith) k.1 (r n (omega arith) (omega arith))
  ended_step pos (Step.Fault e n) k r = r n (omega arith) (omega arith)
  ended_step pos (Step.End at) k r = (refl, eof-spelled script at)

  pub tokens-ended : (pos : ℕ) → Ended script (tokens_from script pos)
  unfolding tokens_from
  tokens-ended pos = cut_by script Known known_step (λ (n : ℕ) (c : Cut). Ended script (tokens_of c)) ended_step (suc (length script)) pos (omega arith)

  pub cut-ended : Ended script (tokens_of (cut script))
  unfolding cut tokens_from
  cut-ended = tokens-ended 0

  next_step : (pos : ℕ) (s : Step) → Known pos s → ((n : ℕ) → pos < n → n ≤ length script → Spelled script (next_of (cut_at script n)).token)
      → Spelled script (next_of (extend_cut (cut_at script) s)).token
  unfolding next_of
  next_step pos (Step.Token t n) k r = k.1
  next_step pos (Step.Fault e n) k r = r n (omega arith) (omega arith)
  next_step pos (Step.End at) k r = eof-spelled script at

  pub next-spelled : (pos : ℕ) → Spelled script (next_at script pos).token
  unfolding next_at
  next-spelled pos = cut_by script Known known_step (λ (n : ℕ) (c : Cut). Spelled script (next_of c).token) next_step (suc (length script)) pos (omega arith)
