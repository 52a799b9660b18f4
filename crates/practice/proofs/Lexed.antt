-- How a sheet is cut: the text of an expression, with no byte of a name or number behind it, gives
-- the expression's tokens.
use Rattle.std.proofs.Common.{◌≡◌, ℕ, zero, suc, ◌+◌, ◌/◌, ◌%◌, ◌<◌, ◌≤◌, Bool, true, false, eqb, ltb, List, [], ◌∷◌, ◌++◌, length, get_or, drop, sym, refl, ap, ◌∙◌, subst, append_assoc, add-zero, arith, length-append, length-drop, get_or-drop, drop-drop, get_or-append-add, lt-ltb, le-leb}
use lib.Seq.{take-append_seam, drop-append_seam}
use Rattle.lex.specs.Bytes.{or, between, is_ws, is_digit, is_ident_start, is_ident_cont, count_while, differs_from, before, find_byte}
use Rattle.lex.specs.Kind.{k_brace_left, k_brace_right, k_plus, k_minus, k_equal, k_i, k_ident, k_let, same_bytes, keywords, name_kind, punctuators, punctuator_kinds, punctuator_kind}
use Rattle.lex.specs.Lex.{skipped, punctuator, punctuation, name, symbol, piece, placed, stands_at, step_at, extend_cut, cut_at, tokens_of, tokens_from, is_prefix_sign}
use Rattle.lex.specs.declared.tok.Piece.{Piece}
use Rattle.lex.specs.declared.tok.Step.{Step}
use Rattle.lex.specs.declared.tok.Token.{Token}
use Rattle.lex.proofs.Laws.{cases}
use Rattle.lex.proofs.Runs.{number-whole}
use Rattle.lex.proofs.Signs.{sign_piece, sign, digit_no_name}
use Rattle.lex.proofs.Skips.{stands}
use Rattle.lex.proofs.Steps.{cut_step, step_end}
use Rattle.text.specs.Text.{bytes, digits, number as decimal}
use Rattle.practice.specs.Practice.{Expr, number, sum, negated, name_text, text, lines_from}
use Rattle.practice.specs.Practice as P
use Rattle.practice.proofs.Spelled.{Spelled, numeral, ident, bracketed, signed, Lines, end, line}

-- ---- runs

abbrev All : (ℕ → Bool) → List ℕ → Type 0
All p [] = Unit {0}
All p (x ∷ xs) = (p x ≡ true) × All p xs

or-true : (t : Bool) → or t true ≡ true
unfolding or
or-true true = refl
or-true false = refl

-- a run ends where the property does
run_ends : (p : ℕ → Bool) (xs after : List ℕ) → All p xs → p (get_or after 0 0) ≡ false
    → count_while p (xs ++ after) ≡ length xs
unfolding count_while
run_ends p [] [] a e = refl
run_ends p [] (b ∷ bs) a e = rw (e, count_while)
run_ends p (x ∷ xs) after a e = rw (a.0, count_while) (ap suc (run_ends p xs after a.1 e))

-- ---- digits

abbrev Digits : List ℕ → Type 0
Digits [] = Unit {0}
Digits (x ∷ xs) = (48 ≤ x) × (x ≤ 57) × Digits xs

digit : (x : ℕ) → 48 ≤ x → x ≤ 57 → is_digit x ≡ true
unfolding is_digit between
digit x h k = rw (le-leb 48 x h, between) (le-leb x 57 k)

all_digits : (xs : List ℕ) → Digits xs → All is_digit xs
all_digits [] d = tt
all_digits (x ∷ xs) d = (digit x d.0 d.1, all_digits xs d.2)

all_cont : (xs : List ℕ) → Digits xs → All is_ident_cont xs
unfolding is_ident_cont
all_cont [] d = tt
all_cont (x ∷ xs) d = (rw (digit x d.0 d.1) (or-true (is_ident_start x)), all_cont xs d.2)

append-digits : (xs ys : List ℕ) → Digits xs → Digits ys → Digits (xs ++ ys)
append-digits [] ys d e = e
append-digits (x ∷ xs) ys d e = (d.0, d.1, append-digits xs ys d.2 e)

-- the digits before the last
abbrev front : ℕ → ℕ → List ℕ
front fuel n = elim (ltb n 10) [ true ↦ [] | false ↦ digits fuel (n / 10) ]

digits_are : (fuel n : ℕ) → Digits (digits fuel n)
unfolding digits
digits_are zero n = (omega arith, omega arith, tt)
digits_are (suc fuel) n =
    append-digits (front fuel n) _ (cases Digits (ltb n 10) (λ e. tt) (λ e. digits_are fuel (n / 10))) (omega arith, omega arith, tt)

digits-some : (fuel n : ℕ) → 0 < length (digits fuel n)
unfolding digits
digits-some zero n = omega arith
digits-some (suc fuel) n = omega (arith, length-append (front fuel n) ((48 + n % 10) ∷ []))

-- ---- pieces

-- what stands behind ends a name and a number
pub record Boundary (after : List ℕ) : Type 0 where
  pub no_digit : is_digit (get_or after 0 0) ≡ false
  pub no_name : is_ident_cont (get_or after 0 0) ≡ false
  pub no_dot : get_or after 0 0 ≡ 46 → ⊥

module _ (l : List ℕ) where
  before-blank : Boundary (32 ∷ l)
  unfolding is_digit is_ident_cont is_ident_start or between
  before-blank = record { no_digit = refl; no_name = refl; no_dot = λ e. omega arith }

  before-close : Boundary (41 ∷ l)
  unfolding is_digit is_ident_cont is_ident_start or between
  before-close = record { no_digit = refl; no_name = refl; no_dot = λ e. omega arith }

  before_feed : Boundary (10 ∷ l)
  unfolding is_digit is_ident_cont is_ident_start or between
  before_feed = record { no_digit = refl; no_name = refl; no_dot = λ e. omega arith }

v_cont : is_ident_cont 118 ≡ true
unfolding is_ident_cont is_ident_start is_digit between or
v_cont = refl

-- no keyword begins with `v`
v_ident : (xs : List ℕ) → name_kind keywords (118 ∷ xs) ≡ k_ident
unfolding name_kind keywords same_bytes
v_ident xs = refl

module _ (after : List ℕ) (b : Boundary after) where
  number-piece : (x : ℕ) (xs : List ℕ) → Digits (x ∷ xs)
      → piece ((x ∷ xs) ++ after) ≡ Piece.Token k_i (suc (length xs)) (suc (length xs))
  unfolding piece
  number-piece x xs d =
      let e = digit x d.0 d.1 in
      rw (digit_no_name x (omega arith) e, piece) (rw (e, piece)
      (sym (number-whole ((x ∷ xs) ++ after) (suc (length xs))
      (sym (run_ends is_digit (x ∷ xs) after (all_digits (x ∷ xs) d) b.no_digit))
      (λ z. b.no_dot (sym (rw add-zero at (get_or-append-add (x ∷ xs) after 0 0)) ∙ z)))))

  name-piece : (xs : List ℕ) → Digits xs
      → piece (118 ∷ (xs ++ after)) ≡ Piece.Token k_ident (suc (length xs)) (suc (length xs))
  unfolding piece name is_ident_start is_digit between or
  name-piece xs d = rw (run_ends is_ident_cont (118 ∷ xs) after (v_cont, all_cont xs d) b.no_name)
      (rw (take-append_seam (118 ∷ xs) after) (ap (λ (k : ℕ). Piece.Token k (suc (length xs)) (suc (length xs)))
      (v_ident xs)))

module _ (l : List ℕ) where
  let_piece : piece (108 ∷ 101 ∷ 116 ∷ 32 ∷ l) ≡ Piece.Token k_let 3 3
  unfolding piece name is_ident_start is_ident_cont is_digit between or count_while name_kind keywords same_bytes
  let_piece = refl

  equal_piece : piece (61 ∷ 32 ∷ l) ≡ Piece.Token k_equal 1 1
  unfolding
      piece symbol punctuation punctuator punctuator_kind punctuators punctuator_kinds find_byte before count_while
      differs_from is_ident_start is_digit between or
  equal_piece = refl

  -- a sign that begins no sign of two bytes
  one_byte : (b kind : ℕ) → eqb b 61 ≡ false → eqb b 33 ≡ false → b < 256 → kind ≡ punctuator_kind b → 0 < kind
      → piece (b ∷ l) ≡ Piece.Token kind 1 1
  unfolding punctuation
  one_byte b kind e f h k n =
      sign_piece (b ∷ l) h (omega (arith, k)) ∙ cases (λ (p : Piece). p ≡ punctuator b) (eqb (get_or l 0 0) 61)
      (λ z. rw (e, f)) (λ z. refl) ∙ sym (sign b kind k n)

  open_piece : piece (40 ∷ l) ≡ Piece.Token k_brace_left 1 1
  unfolding punctuator_kind punctuators punctuator_kinds find_byte before count_while differs_from
  open_piece = one_byte 40 k_brace_left refl refl (omega arith) refl (omega arith)

  close-piece : piece (41 ∷ l) ≡ Piece.Token k_brace_right 1 1
  unfolding punctuator_kind punctuators punctuator_kinds find_byte before count_while differs_from
  close-piece = one_byte 41 k_brace_right refl refl (omega arith) refl (omega arith)

  plus-piece : piece (43 ∷ l) ≡ Piece.Token k_plus 1 1
  unfolding punctuator_kind punctuators punctuator_kinds find_byte before count_while differs_from
  plus-piece = one_byte 43 k_plus refl refl (omega arith) refl (omega arith)

  minus_piece : piece (45 ∷ l) ≡ Piece.Token k_minus 1 1
  unfolding punctuator_kind punctuators punctuator_kinds find_byte before count_while differs_from
  minus_piece = one_byte 45 k_minus refl refl (omega arith) refl (omega arith)

-- ---- steps

module _ (script : List ℕ) where
  -- what stands behind the first bytes
  stands_behind : (p n : ℕ) (xs after : List ℕ) → drop p script ≡ xs ++ after → length xs ≡ n
      → drop (p + n) script ≡ after
  stands_behind p n xs after e f = sym (drop-drop n p script) ∙ ap (drop n) e
      ∙ ap (λ (k : ℕ). drop k (xs ++ after)) (sym f) ∙ drop-append_seam xs after

  step_of : (p : ℕ) (s : Step) → step_at script p ≡ s → tokens_from script p ≡ tokens_of (extend_cut (cut_at script) s)
  unfolding tokens_from
  step_of p s e = ap tokens_of (cut_step script p ∙ ap (extend_cut (cut_at script)) e)

  -- a blank is passed over
  blank : (p b : ℕ) (after : List ℕ) → drop p script ≡ b ∷ after → is_ws b ≡ true
      → tokens_from script p ≡ tokens_from script (p + 1)
  unfolding step_at skipped
  blank p b after e w =
      let behind = stands_behind p 1 (b ∷ []) after e refl in
      let same : p + skipped false (drop p script) ≡ p + 1 + skipped false (drop (p + 1) script) = rw (e, behind)
      (rw (w, skipped) (omega arith)) in
      step_of p (step_at script (p + 1)) (ap (stands_at script) same) ∙ sym (step_of (p + 1) (step_at script (p + 1)) refl)

  -- a token at a place, and what stands behind it
  record One (p kind : ℕ) (after : List ℕ) : Type 0 where
    next : ℕ
    token : Token
    is_kind : token.kind ≡ kind
    is_start : token.start ≡ p
    tokens : tokens_from script p ≡ token ∷ tokens_from script next
    stands : drop next script ≡ after

  module _ (p kind x : ℕ) (xs after : List ℕ) (at : drop p script ≡ (x ∷ xs) ++ after) (above : 32 < x) (noHash : x ≡ 35 → ⊥)
      (is : piece ((x ∷ xs) ++ after) ≡ Piece.Token kind (suc (length xs)) (suc (length xs))) where
    none-skipped : p + skipped false (drop p script) ≡ p
    unfolding skipped
    none-skipped = let z = stands x (get_or (xs ++ after) 0 0) above noHash in
        rw at (rw (z.0, skipped) (rw z.1 (omega arith)))

    inside : p < length script
    inside = omega (arith, length-drop p script, ap {B = ℕ} length at)

    step_is : step_at script p ≡ Step.Token (record { kind = kind; start = p; len = suc (length xs) }) (p + suc (length xs))
    unfolding step_at stands_at
    step_is = rw none-skipped (rw (lt-ltb p (length script) inside, stands_at) (ap (placed p) (ap piece at ∙ is)))

    one : One p kind after
    unfolding tokens_of tokens_from
    one = record {
      next = p + suc (length xs);
      token = record { kind = kind; start = p; len = suc (length xs) };
      is_kind = refl;
      is_start = refl;
      tokens = step_of p _ step_is;
      stands = stands_behind p (suc (length xs)) (x ∷ xs) after at refl;
    }

  number_at : (p : ℕ) (xs after : List ℕ) → Digits xs → 0 < length xs → drop p script ≡ xs ++ after → Boundary after
      → One p k_i after
  number_at p [] after d n e b = absurd (omega arith)
  number_at p (x ∷ xs) after d n e b = one p k_i x xs after e (omega arith) (λ z. omega arith)
      (number-piece after b x xs d)

  name-at : (p n : ℕ) (after : List ℕ) → drop p script ≡ name_text n ++ after → Boundary after → One p k_ident after
  unfolding name_text bytes decimal
  name-at p n after e b = one p k_ident 118 (decimal n) after e (omega arith) (λ z. omega arith)
      (name-piece after b (decimal n) (digits_are n n))

  -- ---- expressions

  -- the tokens of an expression from a place on, and what stands behind them
  pub record Lexed (e : Expr) (p : ℕ) (after : List ℕ) : Type 0 where
    pub next : ℕ
    pub spelled : Spelled script e (tokens_from script p) (tokens_from script next)
    pub stands : drop next script ≡ after

  spelled_as : {e : Expr} {k k' l l' : List Token} → Spelled script e k l → k ≡ k' → l ≡ l' → Spelled script e k' l'
  spelled_as {e} {k} {k'} {l} {l'} s f g = subst (λ x. Spelled script e k' x) g (subst (λ x. Spelled script e x l) f s)

  -- a sign before a blank is infix
  infix_sign : (p : ℕ) (l : List ℕ) → drop p script ≡ 43 ∷ 32 ∷ l → is_prefix_sign script p ≡ false
  unfolding is_prefix_sign is_ws or
  infix_sign p l e =
      let is : get_or script (p + 1) 0 ≡ 32 = sym (get_or-drop p script 1 0) ∙ ap (λ (x : List ℕ). get_or x 1 0) e in
      cases (λ (t : Bool). t ≡ false) (ltb (p + 1) (length script)) (λ z. rw is) (λ z. refl)

  sum-text : (a b : Expr) (after : List ℕ)
      → text (sum a b) ++ after ≡ 40 ∷ (text a ++ (32 ∷ 43 ∷ 32 ∷ (text b ++ (41 ∷ after))))
  unfolding text bytes
  sum-text a b after =
      ap {B = List ℕ} (λ l. 40 ∷ l) (append_assoc (text a) (32 ∷ 43 ∷ 32 ∷ (text b ++ (41 ∷ []))) after
      ∙ ap {B = List ℕ} (λ l. text a ++ (32 ∷ 43 ∷ 32 ∷ l)) (append_assoc (text b) (41 ∷ []) after))

  space : is_ws 32 ≡ true
  unfolding is_ws or
  space = refl

  feed : is_ws 10 ≡ true
  unfolding is_ws or
  feed = refl

  -- the parts of a sum, one behind the other
  module _ {a b : Expr} {p : ℕ} {after behind l m : List ℕ} (o : One p k_brace_left l)
      (x : Lexed a o.next (32 ∷ 43 ∷ 32 ∷ behind)) (plus : One (x.next + 1) k_plus (32 ∷ behind))
      (y : Lexed b (plus.next + 1) m) (c : One y.next k_brace_right after) where
    first_part : Spelled script a (tokens_from script o.next) (plus.token ∷ tokens_from script (plus.next + 1))
    first_part = spelled_as x.spelled refl (blank x.next 32 _ x.stands space ∙ plus.tokens
        ∙ ap {B = List Token} (λ k. plus.token ∷ k) (blank plus.next 32 _ plus.stands space))

    second_part : Spelled script b (tokens_from script (plus.next + 1)) (c.token ∷ tokens_from script c.next)
    second_part = spelled_as y.spelled refl c.tokens

    is_infix : is_prefix_sign script plus.token.start ≡ false
    is_infix = rw plus.is_start (infix_sign (x.next + 1) behind
        (stands_behind x.next 1 (32 ∷ []) (43 ∷ 32 ∷ behind) x.stands refl))

    sum_spelled : Lexed (sum a b) p after
    sum_spelled = record {
      next = c.next;
      spelled = spelled_as (bracketed o.is_kind first_part plus.is_kind is_infix second_part c.is_kind)
          (sym o.tokens) refl;
      stands = c.stands;
    }

  sum_lexed : (a b : Expr) (p : ℕ) (after : List ℕ)
      → drop p script ≡ 40 ∷ (text a ++ (32 ∷ 43 ∷ 32 ∷ (text b ++ (41 ∷ after))))
      → ((q : ℕ) (l : List ℕ) → drop q script ≡ text a ++ l → Boundary l → Lexed a q l)
      → ((q : ℕ) (l : List ℕ) → drop q script ≡ text b ++ l → Boundary l → Lexed b q l)
      → Lexed (sum a b) p after
  sum_lexed a b p after at first second =
      let behind : List ℕ = text b ++ (41 ∷ after) in
      let o = one p k_brace_left 40 [] (text a ++ (32 ∷ 43 ∷ 32 ∷ behind)) at (omega arith) (λ z. omega arith)
      (open_piece _) in
      let x = first o.next (32 ∷ 43 ∷ 32 ∷ behind) o.stands (before-blank _) in
      let here = stands_behind x.next 1 (32 ∷ []) (43 ∷ 32 ∷ behind) x.stands refl in
      let plus = one (x.next + 1) k_plus 43 [] (32 ∷ behind) here (omega arith) (λ z. omega arith) (plus-piece _) in
      let y = second (plus.next + 1) (41 ∷ after) (stands_behind plus.next 1 (32 ∷ []) behind plus.stands refl)
      (before-close _) in
      sum_spelled o x plus y (one y.next k_brace_right 41 [] after y.stands (omega arith) (λ z. omega arith)
      (close-piece _))

  pub lexed : (e : Expr) (p : ℕ) (after : List ℕ) → drop p script ≡ text e ++ after → Boundary after → Lexed e p after
  unfolding text bytes decimal
  lexed (number n) p after at b =
      let t = number_at p (decimal n) after (digits_are n n) (digits-some n n) at b in
      record { next = t.next; spelled = spelled_as (numeral t.is_kind) (sym t.tokens) refl; stands = t.stands }
  lexed (P.name n) p after at b =
      let t = name-at p n after at b in
      record { next = t.next; spelled = spelled_as (ident t.is_kind) (sym t.tokens) refl; stands = t.stands }
  lexed (sum x y) p after at b = sum_lexed x y p after (at ∙ sum-text x y after) (lexed x) (lexed y)
  lexed (negated x) p after at b =
      let t = one p k_minus 45 [] (text x ++ after) at (omega arith) (λ z. omega arith) (minus_piece _) in
      let a = lexed x t.next after t.stands b in
      record {
        next = a.next;
        spelled = spelled_as (signed t.is_kind a.spelled) (sym t.tokens) refl;
        stands = a.stands;
      }

  -- ---- lines

  line-text : (i : ℕ) (e : Expr) (after : List ℕ)
      → P.line i e ++ after ≡ 108 ∷ 101 ∷ 116 ∷ 32 ∷ (name_text i ++ (32 ∷ 61 ∷ 32 ∷ (text e ++ (10 ∷ after))))
  unfolding P.line bytes
  line-text i e after =
      ap {B = List ℕ} (λ l. 108 ∷ 101 ∷ 116 ∷ 32 ∷ l) (append_assoc (name_text i) (32 ∷ 61 ∷ 32 ∷ (text e ++ (10 ∷ [])))
      after
      ∙ ap {B = List ℕ} (λ l. name_text i ++ (32 ∷ 61 ∷ 32 ∷ l)) (append_assoc (text e) (10 ∷ []) after))

  lines_as : {es : List Expr} {k l : List Token} → Lines script es k → k ≡ l → Lines script es l
  lines_as {es} s f = subst (λ x. Lines script es x) f s

  end_at : (p : ℕ) → drop p script ≡ [] → Lines script [] (tokens_from script p)
  unfolding tokens_of
  end_at p e = lines_as (end refl) (sym (step_of p (Step.End p)
      (step_end script p (omega (arith, length-drop p script, ap {B = ℕ} length e)))))

  -- the parts of a line, one behind the other
  module _ {e : Expr} {p : ℕ} {es : List Expr} {l m n after : List ℕ}
      (t : One p k_let (32 ∷ l)) (v : One (t.next + 1) k_ident (32 ∷ m)) (q : One (v.next + 1) k_equal (32 ∷ n))
      (x : Lexed e (q.next + 1) (10 ∷ after)) (more : Lines script es (tokens_from script (x.next + 1))) where
    value_part : Spelled script e (tokens_from script (q.next + 1)) (tokens_from script (x.next + 1))
    value_part = spelled_as x.spelled refl (blank x.next 10 after x.stands feed)

    name_part : tokens_from script t.next ≡ v.token ∷ tokens_from script v.next
    name_part = blank t.next 32 l t.stands space ∙ v.tokens

    equal_part : tokens_from script v.next ≡ q.token ∷ tokens_from script (q.next + 1)
    equal_part = blank v.next 32 m v.stands space ∙ q.tokens
        ∙ ap {B = List Token} (λ k. q.token ∷ k) (blank q.next 32 n q.stands space)

    line-spelled : Lines script (e ∷ es) (tokens_from script p)
    line-spelled =
        lines_as (line t.is_kind v.is_kind q.is_kind value_part more)
        (sym (t.tokens ∙ ap {B = List Token} (λ k. t.token ∷ k)
        (name_part ∙ ap {B = List Token} (λ k. v.token ∷ k) equal_part)))

  line_lexed : (i : ℕ) (e : Expr) (es : List Expr) (p : ℕ) (after : List ℕ)
      → drop p script ≡ 108 ∷ 101 ∷ 116 ∷ 32 ∷ (name_text i ++ (32 ∷ 61 ∷ 32 ∷ (text e ++ (10 ∷ after))))
      → ((q : ℕ) → drop q script ≡ after → Lines script es (tokens_from script q))
      → Lines script (e ∷ es) (tokens_from script p)
  line_lexed i e es p after at others =
      let value : List ℕ = text e ++ (10 ∷ after) in
      let names : List ℕ = name_text i ++ (32 ∷ 61 ∷ 32 ∷ value) in
      let t = one p k_let 108 (101 ∷ 116 ∷ []) (32 ∷ names) at (omega arith) (λ z. omega arith) (let_piece _) in
      let v = name-at (t.next + 1) i (32 ∷ 61 ∷ 32 ∷ value)
      (stands_behind t.next 1 (32 ∷ []) names t.stands refl) (before-blank _) in
      let here = stands_behind v.next 1 (32 ∷ []) (61 ∷ 32 ∷ value) v.stands refl in
      let q = one (v.next + 1) k_equal 61 [] (32 ∷ value) here (omega arith) (λ z. omega arith) (equal_piece _) in
      let x = lexed e (q.next + 1) (10 ∷ after) (stands_behind q.next 1 (32 ∷ []) value q.stands refl)
      (before_feed _) in
      line-spelled t v q x (others (x.next + 1) (stands_behind x.next 1 (10 ∷ []) after x.stands refl))

  pub lines_lexed : (i : ℕ) (es : List Expr) (p : ℕ) → drop p script ≡ lines_from i es
      → Lines script es (tokens_from script p)
  unfolding lines_from
  lines_lexed i [] p at = end_at p at
  lines_lexed i (e ∷ es) p at = line_lexed i e es p (lines_from (suc i) es) (at ∙ line-text i e (lines_from (suc i) es))
      (lines_lexed (suc i) es)
