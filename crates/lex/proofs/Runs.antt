-- Numbers by the digits in front of them.
-- Assumes nothing.
use mathlib.Core.Path.{◌≡◌, refl, ◌∙◌, sym, ap}
use mathlib.Core.Bool.{Bool, true, false, not}
use mathlib.Core.List.{List, [], ◌∷◌}
use Prim.Native.Nat.{ℕ, suc, ◌+◌, ◌-◌, ◌<◌, zero-le, suc-le-suc}
use native.Mathlib.Omega.{arith}
use lib.Dec.{eqb}
use lib.ListN.{get_or, take, drop, length-take}
use lib.Seq.{length-take-le, drop-drop, get_or-drop}
use borrow.Author.Tests.{eq-eqb, ne_eqb}
use Rattle.std.specs.Prelude.{Some, None}
use Rattle.lex.specs.declared.tok.Piece.{Piece}
use Rattle.lex.specs.Bytes.{or, between, is_digit, is_ident_start, is_num_cont, count_while, differs_from, before, find_byte}
use Rattle.lex.specs.Kind.{k_i, k_d}
use Rattle.lex.specs.Errors.{e_invalid_number}
use Rattle.lex.specs.Lex.{double_in, number_in, number}
use Rattle.lex.proofs.Laws.{run_le, run_more, run-split, find_hit, find_miss, nonzero_inside}

-- ---- a number: digits, and what of the run of digits and dots follows them

digit_in_number : (b : ℕ) → is_digit b ≡ true → is_num_cont b ≡ true
unfolding is_num_cont or
digit_in_number b e = rw (e, or)

in_number : (b : ℕ) (t : Bool) → is_digit b ≡ false → eqb b 46 ≡ t → is_num_cont b ≡ t
unfolding is_num_cont or
in_number b t e f = rw (e, or) f

digit_no_dot : (b : ℕ) → is_digit b ≡ true → eqb b 46 ≡ false
unfolding is_digit between
digit_no_dot b e = ne_eqb b 46 (λ z. let f : false ≡ true = rw z at e in let n : ◌≡◌ {A = ℕ} 0 1 = cc in omega arith)

dot_differs : (b : ℕ) (t : Bool) → eqb b 46 ≡ t → differs_from 46 b ≡ not t
unfolding differs_from
dot_differs b t e = rw e

-- the first dot stands behind the digits
dot_behind : (s : List ℕ) → count_while is_digit s ≡ before 46 (take (count_while is_num_cont s) s)
unfolding before count_while
dot_behind [] = refl
dot_behind (b ∷ bs) = go (is_digit b) refl (eqb b 46) refl (dot_behind bs)
  where
    go : (t : Bool) → is_digit b ≡ t → (u : Bool) → eqb b 46 ≡ u → count_while is_digit bs ≡ before 46 (take (count_while is_num_cont bs) bs)
        → count_while is_digit (b ∷ bs) ≡ before 46 (take (count_while is_num_cont (b ∷ bs)) (b ∷ bs))
    go true e u f h = simp (e, digit_in_number b e, count_while) (rw (dot_differs b false (digit_no_dot b e), count_while) (ap suc h))
    go false e true f h = simp (e, in_number b true e f, count_while) (rw (dot_differs b true f, count_while))
    go false e false f h = simp (e, in_number b false e f, count_while) refl

-- without one behind them the digits are all of it
digits-all : (s : List ℕ) → (get_or s (count_while is_digit s) 0 ≡ 46 → ⊥) → count_while is_num_cont s ≡ count_while is_digit s
unfolding count_while
digits-all [] h = refl
digits-all (b ∷ bs) h = go (is_digit b) refl (digits-all bs)
  where
    go : (t : Bool) → is_digit b ≡ t → ((get_or bs (count_while is_digit bs) 0 ≡ 46 → ⊥) → count_while is_num_cont bs ≡ count_while is_digit bs)
        → count_while is_num_cont (b ∷ bs) ≡ count_while is_digit (b ∷ bs)
    go true e more = simp (e, digit_in_number b e, count_while) (ap suc (more (simp (e, count_while) at h)))
    go false e more = simp (e, in_number b false e (ne_eqb b 46 (simp (e, count_while) at h)), count_while)

dot_inside : (s : List ℕ) → get_or s (count_while is_digit s) 0 ≡ 46 → count_while is_digit s < count_while is_num_cont s
unfolding count_while
dot_inside [] h = absurd (omega arith)
dot_inside (b ∷ bs) h = go (is_digit b) refl (dot_inside bs)
  where
    go : (t : Bool) → is_digit b ≡ t → (get_or bs (count_while is_digit bs) 0 ≡ 46 → count_while is_digit bs < count_while is_num_cont bs)
        → count_while is_digit (b ∷ bs) < count_while is_num_cont (b ∷ bs)
    go true e more = simp (e, digit_in_number b e, count_while) (suc-le-suc (more (simp (e, count_while) at h)))
    go false e more = simp (e, in_number b true e (eq-eqb b 46 (simp (e, count_while) at h)), count_while) (suc-le-suc zero-le)

module _ (s : List ℕ) (d : ℕ) (front : d ≡ count_while is_digit s) where
  run_on : d + count_while is_num_cont (drop d s) ≡ count_while is_num_cont s
  run_on = rw front (run-split is_digit is_num_cont digit_in_number s)

  -- without a dot behind them the digits are all of the run
  module _ (h : get_or s d 0 ≡ 46 → ⊥) where
    run-whole : count_while is_num_cont s ≡ d
    run-whole = digits-all s (rw front at h) ∙ sym front

    dot_none : find_byte 46 (take (count_while is_num_cont s) s) ≡ None
    dot_none =
        let n = count_while is_num_cont s in
        sym (find_miss 46 (take n s) d (front ∙ dot_behind s) (omega (arith, run-whole, length-take n s)))

  module _ (dot : get_or s d 0 ≡ 46) where
    dot_before : d < count_while is_num_cont s
    dot_before = rw front (dot_inside s (rw front at dot))

    dot_found : find_byte 46 (take (count_while is_num_cont s) s) ≡ Some d
    dot_found =
        let n = count_while is_num_cont s in
        sym (find_hit 46 (take n s) d (front ∙ dot_behind s) (omega (arith, dot_before, length-take-le n s (run_le is_num_cont s))))

    run-behind : d + 1 + count_while is_num_cont (drop (d + 1) s) ≡ count_while is_num_cont s
    unfolding is_num_cont is_digit between or
    run-behind = run_more is_num_cont s d _ run_on (nonzero_inside s d (omega arith)) (rw dot)

-- ---- a number, by the digits in front and what stands behind them

module _ (s : List ℕ) (d : ℕ) (front : d ≡ count_while is_digit s) where
  -- without a dot the digits are the number
  pub number-whole : (get_or s d 0 ≡ 46 → ⊥) → Piece.Token k_i d d ≡ number s
  unfolding number number_in
  number-whole h = rw (dot_none s d front h, number_in) (ap (λ (k : ℕ). Piece.Token k_i k k) (sym (run-whole s d front h)))

  module _ (dot : get_or s d 0 ≡ 46) where
    -- with a name behind the dot they are too
    pub number-field : is_ident_start (get_or s (d + 1) 0) ≡ true → Piece.Token k_i d d ≡ number s
    unfolding number number_in
    number-field e = rw (dot_found s d front dot, e, number_in)

    pub number_double : is_ident_start (get_or s (d + 1) 0) ≡ false → double_in (d + 1 + count_while is_num_cont (drop (d + 1) s)) (d + 1) s ≡ number s
    unfolding number number_in
    number_double e = rw (run-behind s d front dot, dot_found s d front dot, e, number_in)

-- ---- behind the first dot

module _ (s : List ℕ) (from m : ℕ) (more : m ≡ count_while is_digit (drop from s)) where
  abbrev rest : List ℕ
  rest = drop from s

  abbrev all : ℕ
  all = from + count_while is_num_cont rest

  behind : get_or rest m 0 ≡ get_or s (from + m) 0
  behind = get_or-drop from s m 0

  left : all - from ≡ count_while is_num_cont rest
  left = omega arith

  pub double_whole : (get_or s (from + m) 0 ≡ 46 → ⊥) → Piece.Token k_d (from + m) (from + m) ≡ double_in all from s
  unfolding double_in
  double_whole h =
      let none : get_or rest m 0 ≡ 46 → ⊥ = λ z. h (sym behind ∙ z) in
      rw (left, dot_none rest m more none, double_in) (ap (λ (k : ℕ). Piece.Token k_d (from + k) (from + k)) (sym (run-whole rest m more none)))

  module _ (dot : get_or s (from + m) 0 ≡ 46) where
    pub double_field : is_ident_start (get_or s (from + m + 1) 0) ≡ true → Piece.Token k_d (from + m) (from + m) ≡ double_in all from s
    unfolding double_in
    double_field e = rw (left, dot_found rest m more (behind ∙ dot), e, double_in)

    pub double_fault : is_ident_start (get_or s (from + m + 1) 0) ≡ false → (n : ℕ) → n ≡ from + m + count_while is_num_cont (drop (from + m) s) → Piece.Fault e_invalid_number n 0 n ≡ double_in all from s
    unfolding double_in
    double_fault e n run =
        let whole : n ≡ all = omega (arith, rw (drop-drop m from s) at (run_on rest m more)) in
        rw (left, dot_found rest m more (behind ∙ dot), e, double_in) (ap (λ (k : ℕ). Piece.Fault e_invalid_number k 0 k) whole)
