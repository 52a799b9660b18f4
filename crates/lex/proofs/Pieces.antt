-- A piece takes at least one byte and no more than there are, its span lies within what it takes,
-- and no token of it is Eof.
-- Assumes nothing.
use mathlib.Core.Path.{◌≡◌, refl}
use mathlib.Core.Bool.{true, false}
use mathlib.Core.List.{List, [], ◌∷◌}
use Prim.Native.Nat.{ℕ, ◌+◌, ◌-◌, ◌<◌, ◌≤◌}
use native.Mathlib.Nat.{le_refl}
use native.Mathlib.Omega.{arith}
use lib.Dec.{ltb, eqb}
use lib.ListN.{length, get_or, take, drop, length-drop}
use lib.Seq.{get_or-take, length-take-le}
use borrow.Author.Tests.{ltb-true, eqb-true, ne_eqb}
use Rattle.lex.specs.declared.tok.Piece.{Piece}
use Rattle.lex.specs.Bytes.{or, between, is_digit, is_ident_start, is_ident_cont, is_num_cont, count_while, differs_from, before, find_byte}
use Rattle.lex.specs.Kind.{Keyword, keywords, name_kind, same_bytes, punctuators, punctuator_kinds, punctuator_kind}
use Rattle.lex.specs.Utf8.{utf8}
use Rattle.lex.specs.Lex.{punctuator, punctuation, leading_space, doc_in, doc, string, double_in, number_in, number, name, symbol, piece}
use Rattle.lex.proofs.Laws.{cases, found-cases, agree, run_pos, run_le, before_le, found, found_part, nonzero_inside}

-- ---- the kinds of signs and names are above Eof

punctuation_above : (i : ℕ) → i < 18 → 1 < get_or punctuator_kinds i 0
unfolding punctuator_kinds
punctuation_above i h = ltb-true _ _ (agree (λ (n : ℕ). ltb 1 (get_or punctuator_kinds n 0)) (λ (n : ℕ). true) true 18 i refl h)

punctuation-kind : (b : ℕ) → 0 < punctuator_kind b → 1 < punctuator_kind b
unfolding punctuator_kind punctuators
punctuation-kind b = found-cases (λ (k : ℕ). 0 < k → 1 < k) (find_byte b punctuators) (λ i e h. punctuation_above i (found b punctuators i e).1) (λ e h. absurd (omega arith))

abbrev Above : List Keyword → Type 0
Above [] = Unit {0}
Above (w ∷ ws) = (1 < w.kind) × Above ws

name_above : (ws : List Keyword) (name : List ℕ) → Above ws → 1 < name_kind ws name
unfolding name_kind
name_above [] name h = omega arith
name_above (w ∷ ws) name h = cases (λ (k : ℕ). 1 < k) (same_bytes w.spelling name) (λ e. h.0) (λ e. name_above ws name h.1)

name-kind : (name : List ℕ) → 1 < name_kind keywords name
unfolding keywords
name-kind name = name_above keywords name (omega arith)

-- ---- what each piece takes of `n` bytes

abbrev pub Within : ℕ → Piece → Type 0
Within n (Piece.Token kind len taken) = (1 < kind) × (0 < taken) × (len ≤ taken) × (taken ≤ n)
Within n (Piece.Fault number len seen taken) = (0 < taken) × (len ≤ taken) × (taken ≤ n) × (31 ≤ number)

punctuator-within : (b n : ℕ) → 0 < n → Within n (punctuator b)
unfolding punctuator
punctuator-within b n h =
    cases (Within n) (ltb 0 (punctuator_kind b)) (λ e. (punctuation-kind b (ltb-true _ _ e), omega arith, omega arith, omega arith)) (λ e. omega arith)

punctuation-within : (b next n : ℕ) → 0 < n → (next ≡ 61 → 1 < n) → Within n (punctuation b next)
unfolding punctuation
punctuation-within b next n h p =
    cases (Within n) (eqb next 61)
    (λ e. let two = p (eqb-true _ _ e) in
    cases (Within n) (eqb b 61) (λ f. omega arith) (λ f. cases (Within n) (eqb b 33) (λ g. omega arith) (λ g. punctuator-within b n h)))
    (λ e. punctuator-within b n h)

doc-within : (bs : List ℕ) → Within (length bs + 2) (doc bs)
unfolding doc doc_in
doc-within bs =
    let n = before_le 10 bs in
    cases (Within (length bs + 2)) (utf8 (drop (leading_space (take (before 10 bs) bs)) (take (before 10 bs) bs))) (λ e. omega arith) (λ e. omega arith)

string-within : (bs : List ℕ) → Within (length bs + 1) (string bs)
unfolding string
string-within bs =
    found-cases (Within (length bs + 1)) (find_byte 34 bs)
    (λ n e. let h = (found 34 bs n e).1 in cases (Within (length bs + 1)) (utf8 (take n bs)) (λ u. omega arith) (λ u. omega arith))
    (λ e. omega (arith, before_le 10 bs))

name-within : (bs : List ℕ) → 0 < length bs → is_ident_start (get_or bs 0 0) ≡ true → Within (length bs) (name bs)
unfolding name is_ident_cont or
name-within bs h e = (name-kind _, run_pos is_ident_cont bs h (rw (e, is_ident_cont)), le_refl _, run_le is_ident_cont bs)

-- the first byte of a number is no dot
no_dot_lem : (b : ℕ) → is_digit b ≡ true → differs_from 46 b ≡ true
unfolding differs_from is_digit between
no_dot_lem b e = rw (ne_eqb b 46 (λ z. let f : false ≡ true = rw z at e in let o : ◌≡◌ {A = ℕ} 0 1 = cc in omega arith))

double_within : (n from : ℕ) (bs : List ℕ) → 0 < from → from ≤ n → n ≤ length bs → Within (length bs) (double_in n from bs)
unfolding double_in
double_within n from bs h k l =
    found-cases (Within (length bs)) (find_byte 46 (take (n - from) (drop from bs)))
    (λ more e. let m = found_part 46 (n - from) from bs more e in
    cases (Within (length bs)) (is_ident_start (get_or bs (from + more + 1) 0)) (λ f. omega arith) (λ f. omega arith))
    (λ e. omega arith)

number-within : (bs : List ℕ) → 0 < length bs → is_digit (get_or bs 0 0) ≡ true → Within (length bs) (number bs)
unfolding number number_in is_num_cont or before
number-within bs h e =
    let n = count_while is_num_cont bs in
    let le = run_le is_num_cont bs in
    let pos = run_pos is_num_cont bs h (rw (e, is_num_cont)) in
    found-cases (Within (length bs)) (find_byte 46 (take n bs))
    (λ first f. let a = found_part 46 n 0 bs first f in
    let one = run_pos (differs_from 46) (take n bs) (rw (length-take-le n bs le) pos) (rw (get_or-take n bs 0 0 pos) (no_dot_lem _ e)) in
    cases (Within (length bs)) (is_ident_start (get_or bs (first + 1) 0))
    (λ g. omega (arith, (found 46 (take n bs) first f).0))
    (λ g. double_within n (first + 1) bs (omega arith) (omega arith) le))
    (λ f. omega arith)

-- what is within the rest behind `k` bytes is within the whole
behind : (k : ℕ) (bs : List ℕ) (p : Piece) → k ≤ length bs → Within (length (drop k bs) + k) p → Within (length bs) p
behind k bs p h w = let e : length (drop k bs) + k ≡ length bs = omega (arith, length-drop k bs) in rw e at w

symbol-within : (bs : List ℕ) → 0 < length bs → Within (length bs) (symbol bs)
unfolding symbol
symbol-within bs h =
    cases (Within (length bs)) (eqb (get_or bs 0 0) 35)
    (λ e. cases (Within (length bs)) (eqb (get_or bs 1 0) 33)
    (λ f. behind 2 bs (doc (drop 2 bs)) (nonzero_inside bs 1 (omega (arith, eqb-true (get_or bs 1 0) 33 f))) (doc-within (drop 2 bs)))
    (λ f. punctuator-within (get_or bs 0 0) (length bs) h))
    (λ e. punctuation-within (get_or bs 0 0) (get_or bs 1 0) (length bs) h (λ f. nonzero_inside bs 1 (omega (arith, f))))

pub piece-within : (bs : List ℕ) → 0 < length bs → Within (length bs) (piece bs)
unfolding piece
piece-within bs h =
    cases (Within (length bs)) (is_ident_start (get_or bs 0 0)) (λ e. name-within bs h e) (λ e.
    cases (Within (length bs)) (is_digit (get_or bs 0 0)) (λ f. number-within bs h f) (λ f.
    cases (Within (length bs)) (eqb (get_or bs 0 0) 34) (λ g. behind 1 bs (string (drop 1 bs)) h (string-within (drop 1 bs))) (λ g.
    symbol-within bs h)))
