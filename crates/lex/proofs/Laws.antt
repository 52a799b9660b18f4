-- Laws on tables, lists and runs that the functions' proofs cite.
-- Assumes nothing.
use mathlib.Core.Path.{◌≡◌, refl, ◌∙◌, sym, ap}
use mathlib.Core.Bool.{Bool, true, false, not, ◌&&◌}
use mathlib.Core.List.{List, [], ◌∷◌}
use Prim.Native.Nat.{ℕ, zero, suc, ◌+◌, ◌<◌, ◌≤◌, zero-le, suc-le-suc}
use native.Mathlib.Nat.{add-zero, zero-add, le_of_suc-le-suc, not-suc-le-zero}
use native.Mathlib.Numerals.{add-one}
use native.Mathlib.Omega.{arith}
use lib.ListN.{length, get_or, take, drop, length-take, length-drop, drop_of_length-le}
use lib.Seq.{drop-cons, drop-drop}
use lib.Dec.{leb, ltb, eqb, leb-zero, leb-suc-zero, leb-suc-suc}
use borrow.Author.Tests.{lt-ltb, le-ltb, ltb-true, leb-true, eq-eqb, ne_eqb, eqb-false}
use Rattle.std.specs.Prelude.{Option, Some, None, MatchOption}
use Rattle.std.specs.Borrow.{Bor}
use Rattle.std.specs.Cmp.Lexicographic.{pointwise}
use Rattle.lex.specs.declared.utf8.Utf8State.{Utf8State}
use Rattle.lex.specs.Bytes.{Computes, count_while, differs_from, is_plain, before, find_byte}
use Rattle.lex.specs.Kind.{Keyword, k_ident, same_bytes, name_kind, text_at}
use Rattle.lex.specs.Utf8.{next_state, state_after}
use Rattle.lex.specs.Lex.{leading_space}

pub false-true : {A : Type 0} → false ≡ true → A
false-true e = let z : ◌≡◌ {A = ℕ} 0 1 = cc in absurd (omega arith)

-- ---- a property of a choice holds if it holds of each case

pub cases : {A : Type 0} (P : A → Type 0) {a b : A} (t : Bool) → (t ≡ true → P a) → (t ≡ false → P b) → P (elim t as (λ (_ : Bool). A) [ true ↦ a | false ↦ b ])
cases P true f g = f refl
cases P false f g = g refl

pub found-cases : {A : Type 0} (P : A → Type 0) {a : ℕ → A} {b : A} (f : Option ℕ) → ((i : ℕ) → f ≡ Some i → P (a i)) → (f ≡ None → P b)
    → P (elim f as (λ (_ : Option ℕ). A) [ Some i ↦ a i | None ↦ b ])
found-cases P (Some i) f g = f i refl
found-cases P None f g = g refl

-- ---- tables that antt computes

-- the values of `f` at `n` numbers from `i` on
abbrev pub table : {A : Type 0} → (ℕ → A) → ℕ → ℕ → List A
table f i zero = []
table f i (suc n) = f i ∷ table f (suc i) n

table_from : {A : Type 0} (f : ℕ → A) (d : A) (i n k : ℕ) → k < n → get_or (table f i n) k d ≡ f (i + k)
table_from f d i zero k h = absurd (not-suc-le-zero h)
table_from f d i (suc n) zero h = ap f (sym (add-zero i))
table_from f d i (suc n) (suc k) h = table_from f d (suc i) n k (le_of_suc-le-suc h) ∙ ap f (omega arith)

pub table_at : {A : Type 0} (f : ℕ → A) (d : A) (n k : ℕ) → k < n → get_or (table f 0 n) k d ≡ f k
table_at f d n k h = table_from f d 0 n k h ∙ ap f (zero-add k)

-- functions whose tables are equal agree at each entry
pub agree : {A : Type 0} (f g : ℕ → A) (d : A) (n k : ℕ) → table f 0 n ≡ table g 0 n → k < n → f k ≡ g k
agree f g d n k e h = sym (table_at f d n k h) ∙ ap (λ (l : List _). get_or l k d) e ∙ table_at g d n k h

-- a function has one value at all bytes with a property
pub at_each : {A : Type 0} (p : ℕ → Bool) (f : ℕ → A) (v : A) (b : ℕ) → table (λ (x : ℕ). elim (p x) as (λ (_ : Bool). A) [ true ↦ f x | false ↦ v ]) 0 256 ≡ table (λ (x : ℕ). v) 0 256
    → b < 256 → p b ≡ true → f b ≡ v
at_each {A} p f v b e h q = rw q at (agree (λ (x : ℕ). elim (p x) as (λ (_ : Bool). A) [ true ↦ f x | false ↦ v ]) (λ (x : ℕ). v) v 256 b e h)

-- ---- a run, scanned one byte at a time: `i + count_while p (drop i s)` stays what it is

module _ (p : ℕ → Bool) (s : List ℕ) (i n : ℕ) (scanned : i + count_while p (drop i s) ≡ n) where
  pub run_more : i < length s → p (get_or s i 0) ≡ true → i + 1 + count_while p (drop (i + 1) s) ≡ n
  unfolding count_while
  run_more h e = rw add-one (omega (arith, rw (drop-cons s i 0 h, e, count_while) at scanned))

  pub run_stop : i < length s → p (get_or s i 0) ≡ false → i ≡ n
  unfolding count_while
  run_stop h e = omega (arith, rw (drop-cons s i 0 h, e, count_while) at scanned)

-- a run, by what a test answers of each of its bytes and of the one behind it
run_is : (p : ℕ → Bool) (s : List ℕ) (n : ℕ) → n ≤ length s → ((k : ℕ) → k < n → p (get_or s k 0) ≡ true) → (n < length s → p (get_or s n 0) ≡ false) → n ≡ count_while p s
unfolding count_while
run_is p [] n within front behind = omega arith
run_is p (b ∷ bs) zero within front behind = rw (behind (omega arith), count_while)
run_is p (b ∷ bs) (suc n) within front behind =
    rw (front 0 (omega arith), count_while) (ap suc (run_is p bs n (le_of_suc-le-suc within) (λ k h. front (suc k) (suc-le-suc h)) (λ h. behind (suc-le-suc h))))

pub run_counted : (post : ℕ → Bool → Type 0) (p : ℕ → Bool) → Computes post p → (s : List ℕ) (n : ℕ) → n ≤ length s
    → ((k : ℕ) → k < n → post (get_or s k 0) true) → (n < length s → post (get_or s n 0) false) → n ≡ count_while p s
run_counted post p computes s n within front behind =
    run_is p s n within (λ k h. sym (computes (get_or s k 0) true (front k h))) (λ h. sym (computes (get_or s n 0) false (behind h)))

pub run_pos : (p : ℕ → Bool) (s : List ℕ) → 0 < length s → p (get_or s 0 0) ≡ true → 0 < count_while p s
unfolding count_while
run_pos p [] h e = absurd (not-suc-le-zero h)
run_pos p (b ∷ bs) h e = rw (e, count_while) (omega arith)

pub run_le : (p : ℕ → Bool) (s : List ℕ) → count_while p s ≤ length s
unfolding count_while
run_le p [] = zero-le
run_le p (b ∷ bs) = cases (λ (n : ℕ). n ≤ suc (length bs)) (p b) (λ e. suc-le-suc (run_le p bs)) (λ e. zero-le)

pub run_fits : (p : ℕ → Bool) (s : List ℕ) (a k : ℕ) → a ≤ length s → k ≡ count_while p (drop a s) → a + k ≤ length s
run_fits p s a k h e = omega (arith, run_le p (drop a s), length-drop a s)

-- ---- a run, scanned by windows

-- a run is as long as the bytes tested so far, and one more
window_more : (p : ℕ → Bool) (k : ℕ) (s : List ℕ) → k < length s → leb k (count_while p s) && p (get_or s k 0) ≡ leb (suc k) (count_while p s)
unfolding count_while
window_more p k [] h = absurd (not-suc-le-zero h)
window_more p zero (b ∷ bs) h = go (p b) refl
  where
    go : (t : Bool) → p b ≡ t → leb zero (count_while p (b ∷ bs)) && t ≡ leb 1 (count_while p (b ∷ bs))
    go true e = simp (e, count_while) (rw (leb-zero, leb-suc-suc, leb-zero))
    go false e = simp (e, count_while)
window_more p (suc k) (b ∷ bs) h = go (p b) refl (window_more p k bs (le_of_suc-le-suc h))
  where
    go : (t : Bool) → p b ≡ t → leb k (count_while p bs) && p (get_or bs k 0) ≡ leb (suc k) (count_while p bs)
        → leb (suc k) (count_while p (b ∷ bs)) && p (get_or bs k 0) ≡ leb (suc (suc k)) (count_while p (b ∷ bs))
    go true e more = simp (e, count_while) (rw (leb-suc-suc, leb-suc-suc) more)
    go false e more = simp (e, count_while) (rw (leb-suc-zero, leb-suc-zero))

pub window_next : (p : ℕ → Bool) (s : List ℕ) (k : ℕ) (t u : Bool) → k < length s → t ≡ leb k (count_while p s) → u ≡ p (get_or s k 0) → t && u ≡ leb (k + 1) (count_while p s)
window_next p s k t u h e f = rw (e, f, add-one) (window_more p k s h)

-- a run goes on behind its first `k` bytes
run-over : (p : ℕ → Bool) (k : ℕ) (s : List ℕ) → k ≤ count_while p s → k + count_while p (drop k s) ≡ count_while p s
unfolding count_while
run-over p zero s h = zero-add _
run-over p (suc k) [] h = absurd (not-suc-le-zero h)
run-over p (suc k) (b ∷ bs) h = go (p b) refl (run-over p k bs)
  where
    go : (t : Bool) → p b ≡ t → (k ≤ count_while p bs → k + count_while p (drop k bs) ≡ count_while p bs)
        → suc k + count_while p (drop k bs) ≡ count_while p (b ∷ bs)
    go true e more = simp (e, count_while) (omega (arith, more (omega (arith, simp (e, count_while) at h))))
    go false e more = absurd (omega (arith, simp (e, count_while) at h))

-- the run in front of a list is no longer than that of all of it
run-front : (p : ℕ → Bool) (k : ℕ) (s : List ℕ) → count_while p (take k s) ≤ count_while p s
unfolding count_while
run-front p zero s = zero-le
run-front p (suc k) [] = zero-le
run-front p (suc k) (b ∷ bs) = go (p b) (run-front p k bs)
  where
    go : (t : Bool) → count_while p (take k bs) ≤ count_while p bs
        → elim t as (λ (_ : Bool). ℕ) [ true ↦ suc (count_while p (take k bs)) | false ↦ 0 ] ≤ elim t as (λ (_ : Bool). ℕ) [ true ↦ suc (count_while p bs) | false ↦ 0 ]
    go true h = suc-le-suc h
    go false h = zero-le

-- a run that is counted from a place on is the same behind `k` of its bytes
pub run_window : (p : ℕ → Bool) (s : List ℕ) (i n : ℕ) → i + count_while p (drop i s) ≡ n → (k : ℕ) → k ≤ count_while p (drop i s) → i + k + count_while p (drop (i + k) s) ≡ n
run_window p s i n scanned k h = rw (← drop-drop k i s) (omega (arith, run-over p k (drop i s) h))

-- what of the run follows stays what it is over a window that has the property
pub run_rest : (p : ℕ → Bool) (all rest window after : List ℕ) (k : ℕ) → length rest + count_while p all ≡ length all + count_while p rest
    → window ≡ take k rest → after ≡ drop k rest → k ≤ count_while p window → length after + count_while p all ≡ length all + count_while p after
run_rest p all rest window after k passed front behind all_have =
    let over : k ≤ count_while p rest = omega (arith, rw front at all_have, run-front p k rest) in
    let same = rw (zero-add k) at (run_window p rest 0 _ refl k over) in
    rw behind (omega (arith, passed, length-drop k rest, same, run_le p rest))

-- a run that ends in the first `k` bytes is that of all of them
run-part : (p : ℕ → Bool) (k : ℕ) (s : List ℕ) → count_while p (take k s) < k → count_while p (take k s) ≡ count_while p s
unfolding count_while
run-part p zero s h = absurd (not-suc-le-zero h)
run-part p (suc k) [] h = refl
run-part p (suc k) (b ∷ bs) h = go (p b) (run-part p k bs) h
  where
    go : (t : Bool) → (count_while p (take k bs) < k → count_while p (take k bs) ≡ count_while p bs)
        → elim t as (λ (_ : Bool). ℕ) [ true ↦ suc (count_while p (take k bs)) | false ↦ 0 ] < suc k
        → elim t as (λ (_ : Bool). ℕ) [ true ↦ suc (count_while p (take k bs)) | false ↦ 0 ] ≡ elim t as (λ (_ : Bool). ℕ) [ true ↦ suc (count_while p bs) | false ↦ 0 ]
    go true more h = ap suc (more (le_of_suc-le-suc h))
    go false more h = refl

-- a run, by what is counted of the first `k` bytes and of those behind them
module _ (p : ℕ → Bool) (s front : List ℕ) (k n : ℕ) (first : front ≡ take k s) (counted : n ≡ count_while p front) where
  pub run_near : n < k → n ≡ count_while p s
  run_near h = let e : n ≡ count_while p (take k s) = rw first at counted in e ∙ run-part p k s (omega arith)

  pub run_far : k ≤ n → (m : ℕ) → m ≡ count_while p (drop k s) → k + m ≡ count_while p s
  run_far h m e =
      let c : n ≡ count_while p (take k s) = rw first at counted in
      ap (λ (x : ℕ). k + x) e ∙ run-over p k s (omega (arith, run-front p k s))

-- a run of a weaker property goes on behind that of a stronger one
pub run-split : (p q : ℕ → Bool) → ((b : ℕ) → p b ≡ true → q b ≡ true) → (s : List ℕ) → count_while p s + count_while q (drop (count_while p s) s) ≡ count_while q s
unfolding count_while
run-split p q weaker [] = refl
run-split p q weaker (b ∷ bs) = go (p b) refl (run-split p q weaker bs)
  where
    go : (t : Bool) → p b ≡ t → count_while p bs + count_while q (drop (count_while p bs) bs) ≡ count_while q bs
        → count_while p (b ∷ bs) + count_while q (drop (count_while p (b ∷ bs)) (b ∷ bs)) ≡ count_while q (b ∷ bs)
    go true e h = simp (e, weaker b e, count_while) (omega arith)
    go false e h = simp (e, count_while) (zero-add _)

plain_differs : (b x : ℕ) → is_plain b x ≡ true → differs_from b x ≡ true
unfolding is_plain
plain_differs b x = go (ltb x 0x80)
  where
    go : (t : Bool) → t && differs_from b x ≡ true → differs_from b x ≡ true
    go true e = e
    go false e = false-true e

-- ---- what `find_byte` answers, by where the first `b` stands

module _ (b : ℕ) (s : List ℕ) (i : ℕ) where
  pub find_hit : i ≡ before b s → i < length s → Some i ≡ find_byte b s
  unfolding find_byte
  find_hit e h = rw (← e, lt-ltb i (length s) h, find_byte) (ap Some e)

  pub find_miss : i ≡ before b s → length s ≤ i → None ≡ find_byte b s
  unfolding find_byte
  find_miss e h = rw (← e, le-ltb i (length s) h, find_byte)

  pub found : find_byte b s ≡ Some i → (i ≡ before b s) × (i < length s)
  unfolding find_byte
  found =
      cases (λ (f : Option ℕ). f ≡ Some i → (i ≡ before b s) × (i < length s)) (ltb (before b s) (length s))
      (λ q e. let n : before b s ≡ i = cc in (sym n, rw n at (ltb-true (before b s) (length s) q)))
      (λ q e. let z : ◌≡◌ {A = ℕ} 0 1 = cc in absurd (omega arith))

pub before_le : (b : ℕ) (s : List ℕ) → before b s ≤ length s
unfolding before
before_le b s = run_le (differs_from b) s

-- a byte that is found in a part of a list
pub found_part : (b m a : ℕ) (s : List ℕ) (i : ℕ) → find_byte b (take m (drop a s)) ≡ Some i → (i < m) × (a + i < length s)
found_part b m a s i e =
    let h = simp (length-take, length-drop) at (found b (take m (drop a s)) i e).1 in
    (omega arith, omega arith)

-- a byte that is not 0 stands within the list
pub nonzero_inside : (s : List ℕ) (i : ℕ) → 0 < get_or s i 0 → i < length s
nonzero_inside [] i h = absurd (omega arith)
nonzero_inside (x ∷ xs) zero h = omega arith
nonzero_inside (x ∷ xs) (suc i) h = suc-le-suc (nonzero_inside xs i h)

-- behind plain bytes it is the first of its kind
pub plain-before : (b : ℕ) (s : List ℕ) (n : ℕ) → n ≡ count_while (is_plain b) s → get_or s n 0 ≡ b → 0 < b → n ≡ before b s
unfolding before is_plain differs_from
plain-before b s n e f h =
    run_stop (differs_from b) s n _ (rw e (run-split (is_plain b) (differs_from b) (λ x. plain_differs b x) s)) (nonzero_inside s n (omega arith)) (rw f (ap not (eq-eqb b b refl)))

-- ---- UTF-8, read one byte at a time

module _ (p : Utf8State) (s : List ℕ) (i : ℕ) (q : Utf8State) (reached : state_after p (drop i s) ≡ q) where
  pub place_more : i < length s → state_after (next_state p (get_or s i 0)) (drop (i + 1) s) ≡ q
  unfolding state_after
  place_more h = rw add-one (rw (drop-cons s i 0 h) at reached)

  pub place_end : length s ≤ i → p ≡ q
  unfolding state_after
  place_end h = rw (drop_of_length-le s h) at reached

-- ---- tables of texts

pub text_inside : (xs : List (Bor (List ℕ))) (k : ℕ) (t d : Bor (List ℕ)) → k < length xs → t ≡ get_or xs k d → t.now ≡ text_at xs k
text_inside [] k t d h e = absurd (not-suc-le-zero h)
text_inside (x ∷ xs) zero t d h e = ap (λ (b : Bor (List ℕ)). b.now) e
text_inside (x ∷ xs) (suc k) t d h e = text_inside xs k t d (le_of_suc-le-suc h) e

-- what each case says is weakened
pub match_weaker : {A : Type 0} {P P' : Type 0} {Q Q' : A → Type 0} (o : Option A) → (P → P') → ((a : A) → Q a → Q' a) → MatchOption o P Q → MatchOption o P' Q'
match_weaker None f g h = f h
match_weaker (Some a) f g h = g a h

-- ---- two spellings

-- the library's `==` compares them as `same_bytes` does
pub same-pointwise : (a b : List ℕ) → pointwise eqb a b ≡ same_bytes a b
unfolding same_bytes
same-pointwise [] [] = refl
same-pointwise [] (y ∷ ys) = refl
same-pointwise (x ∷ xs) [] = refl
same-pointwise (x ∷ xs) (y ∷ ys) = go (eqb x y) (same-pointwise xs ys)
  where
    go : (t : Bool) → pointwise eqb xs ys ≡ same_bytes xs ys → t && pointwise eqb xs ys ≡ elim t as (λ (_ : Bool). Bool) [ true ↦ same_bytes xs ys | false ↦ false ]
    go true e = e
    go false e = refl

pub same_length : (a b : List ℕ) → (length a ≡ length b → ⊥) → same_bytes a b ≡ false
unfolding same_bytes
same_length [] [] h = absurd (h refl)
same_length [] (y ∷ ys) h = refl
same_length (x ∷ xs) [] h = refl
same_length (x ∷ xs) (y ∷ ys) h = cases (λ (t : Bool). t ≡ false) (eqb x y) (λ e. same_length xs ys (λ q. h (ap suc q))) (λ e. refl)

first_differs : (a b : List ℕ) → (get_or a 0 0 ≡ get_or b 0 0 → ⊥) → same_bytes a b ≡ false
unfolding same_bytes
first_differs [] [] h = absurd (h refl)
first_differs [] (y ∷ ys) h = refl
first_differs (x ∷ xs) [] h = refl
first_differs (x ∷ xs) (y ∷ ys) h = rw (ne_eqb x y h, same_bytes)

-- ---- what the last arm of a `match` on a number knows

-- the number is none of the arms' numbers: the pairs nest to the left, as they do where the arm is
-- proved
abbrev pub NoneOf : (A : Type 0) → ℕ → List ℕ → Type 0
NoneOf A b [] = A
NoneOf A b (x ∷ xs) = NoneOf (A × (b ≡ x → ⊥)) b xs

none_before : (A : Type 0) (b : ℕ) (xs : List ℕ) → NoneOf A b xs → A × (before b xs ≡ length xs)
unfolding before count_while differs_from
none_before A b [] n = (n, refl)
none_before A b (x ∷ xs) n =
    let r = none_before (A × (b ≡ x → ⊥)) b xs n in
    (r.0.0, rw (ne_eqb x b (λ e. r.0.1 (sym e)), count_while) (ap suc r.1))

pub none_found : (b : ℕ) (xs : List ℕ) → NoneOf (Unit {0}) b xs → find_byte b xs ≡ None
none_found b xs n = sym (find_miss b xs (length xs) (sym (none_before (Unit {0}) b xs n).1) (omega arith))

-- ---- a name, looked up by its first byte

-- every keyword has the property
abbrev pub every : (Keyword → Bool) → List Keyword → Bool
every p [] = true
every p (w ∷ ws) = elim (p w) [ true ↦ every p ws | false ↦ false ]

every_cons : (p : Keyword → Bool) (w : Keyword) (ws : List Keyword) → every p (w ∷ ws) ≡ true → (p w ≡ true) × (every p ws ≡ true)
every_cons p w ws = cases (λ (t : Bool). t ≡ true → (p w ≡ true) × (every p ws ≡ true)) (p w) (λ q e. (q, e)) (λ q e. let z : ◌≡◌ {A = ℕ} 0 1 = cc in absurd (omega arith))

module _ (w : Keyword) (ws : List Keyword) (name : List ℕ) where
  pub name_hit : same_bytes w.spelling name ≡ true → w.kind ≡ name_kind (w ∷ ws) name
  unfolding name_kind
  name_hit e = rw (e, name_kind)

  pub name_more : same_bytes w.spelling name ≡ false → name_kind ws name ≡ name_kind (w ∷ ws) name
  unfolding name_kind
  name_more e = rw (e, name_kind)

-- no keyword has the name's spelling
no_keyword : (p : Keyword → Bool) (name : List ℕ) → ((w : Keyword) → p w ≡ true → same_bytes w.spelling name ≡ false)
    → (ws : List Keyword) → every p ws ≡ true → name_kind ws name ≡ k_ident
unfolding name_kind
no_keyword p name differs [] e = refl
no_keyword p name differs (w ∷ ws) e =
    let both = every_cons p w ws e in
    sym (name_more w ws name (differs w both.0)) ∙ no_keyword p name differs ws both.1

-- where every keyword has `n` bytes or more, a shorter name is none
pub shorter : (n : ℕ) (ws : List Keyword) (name : List ℕ) → every (λ (w : Keyword). leb n (length w.spelling)) ws ≡ true → length name < n → name_kind ws name ≡ k_ident
shorter n ws name e h =
    no_keyword (λ (w : Keyword). leb n (length w.spelling)) name
    (λ w q. let k = leb-true n (length w.spelling) q in same_length w.spelling name (λ z. omega arith)) ws e

-- where every keyword begins with one of some bytes, a name that begins with another is none
pub another_first : (firsts : List ℕ) (ws : List Keyword) (name : List ℕ) → every (λ (w : Keyword). ltb (before (get_or w.spelling 0 0) firsts) (length firsts)) ws ≡ true
    → NoneOf (Unit {0}) (get_or name 0 0) firsts → name_kind ws name ≡ k_ident
another_first firsts ws name e n =
    let b = get_or name 0 0 in
    let outside = (none_before (Unit {0}) b firsts n).1 in
    no_keyword (λ (w : Keyword). ltb (before (get_or w.spelling 0 0) firsts) (length firsts)) name
    (λ w q. first_differs w.spelling name (λ z. omega (arith, ap (λ (x : ℕ). before x firsts) z, outside, ltb-true (before (get_or w.spelling 0 0) firsts) (length firsts) q))) ws e

-- the keywords with this first byte
abbrev pub beginning : ℕ → List Keyword → List Keyword
beginning b [] = []
beginning b (w ∷ ws) = elim (eqb (get_or w.spelling 0 0) b) [ true ↦ w ∷ beginning b ws | false ↦ beginning b ws ]

-- no other has to be asked about
pub by_first : (ws : List Keyword) (name : List ℕ) {b : ℕ} → get_or name 0 0 ≡ b → name_kind (beginning b ws) name ≡ name_kind ws name
unfolding name_kind
by_first [] name e = refl
by_first (w ∷ ws) name {b} e =
    cases (λ (us : List Keyword). name_kind us name ≡ name_kind (w ∷ ws) name) (eqb (get_or w.spelling 0 0) b)
    (λ q. ap (λ (n : ℕ). elim (same_bytes w.spelling name) as (λ (_ : Bool). ℕ) [ true ↦ w.kind | false ↦ n ]) (by_first ws name e))
    (λ q. by_first ws name e ∙ name_more w ws name (first_differs w.spelling name (λ z. eqb-false (get_or w.spelling 0 0) b q (z ∙ e))))

-- ---- a leading space is of its line
pub leading_le : (line : List ℕ) → leading_space line ≤ length line
unfolding leading_space
leading_le [] = zero-le
leading_le (b ∷ bs) = cases (λ (n : ℕ). n ≤ suc (length bs)) (eqb b 32) (λ e. suc-le-suc zero-le) (λ e. zero-le)

pub leading_le_one : (line : List ℕ) → leading_space line ≤ 1
unfolding leading_space
leading_le_one line = cases (λ (n : ℕ). n ≤ 1) (eqb (get_or line 0 0) 32) (λ e. suc-le-suc zero-le) (λ e. zero-le)
