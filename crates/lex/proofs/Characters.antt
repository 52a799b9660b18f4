-- Characters of more than one byte, read whole: what the state machine of UTF-8 does with them.
-- Assumes nothing.
use mathlib.Core.Path.{◌≡◌, refl, ◌∙◌, sym, ap}
use mathlib.Core.Bool.{Bool, true, false, ◌&&◌}
use mathlib.Core.List.{List, [], ◌∷◌}
use Prim.Native.Nat.{ℕ, zero, suc, ◌+◌, ◌<◌, ◌≤◌}
use native.Mathlib.Nat.{add-zero, not-suc-le-zero}
use native.Mathlib.Omega.{arith}
use lib.Dec.{leb, ltb, eqb}
use lib.ListN.{length, get_or, take, drop}
use lib.Seq.{get_or-drop, drop-drop}
use borrow.Author.Tests.{eqb-true, eqb-false, le-ltb, lt-ltb}
use Rattle.lex.specs.declared.utf8.Utf8State.{Utf8State}
use Rattle.lex.specs.declared.utf8.Utf8State.TheVariants.{Boundary, Expecting, Invalid}
use Rattle.lex.specs.Bytes.{between, is_plain, differs_from, count_while}
use Rattle.lex.specs.Lex.{leading_space}
use Rattle.lex.specs.Utf8.{least_second, greatest_second, after_lead, after_continuation, next_state, is_boundary, state_after, utf8}
use Rattle.lex.proofs.Bits.{below, from_low, to_high}
use Rattle.lex.proofs.Laws.{cases, run_le, place_more, place_end}

-- ---- one byte

step : (m l h b : ℕ) → next_state (Expecting m l h) b ≡ elim (between l h b) as (λ (_ : Bool). Utf8State) [ true ↦ after_continuation m | false ↦ Invalid ]
unfolding next_state between
step m l h b = go (leb l b)
  where
    go : (t : Bool) →
        ◌≡◌ {A = Utf8State} (elim t as (λ (_ : Bool). Utf8State) [ true ↦ elim (leb b h) as (λ (_ : Bool). Utf8State) [ true ↦ after_continuation m | false ↦ Invalid ] | false ↦ Invalid ])
        (elim (elim t as (λ (_ : Bool). Bool) [ true ↦ leb b h | false ↦ false ]) as (λ (_ : Bool). Utf8State) [ true ↦ after_continuation m | false ↦ Invalid ])
    go true = refl
    go false = refl

step_in : (m l h b : ℕ) → between l h b ≡ true → next_state (Expecting m l h) b ≡ after_continuation m
step_in m l h b e = rw e at (step m l h b)

step_out : (m l h b : ℕ) → between l h b ≡ false → next_state (Expecting m l h) b ≡ Invalid
step_out m l h b e = rw e at (step m l h b)

stays_invalid : (s : List ℕ) → state_after Invalid s ≡ Invalid
unfolding state_after next_state
stays_invalid [] = refl
stays_invalid (b ∷ bs) = stays_invalid bs

-- ---- the bytes that complete a character

-- the state behind the `m` bytes in front
abbrev ended : ℕ → ℕ → ℕ → List ℕ → Bool
ended m l h s = is_boundary (state_after (Expecting m l h) (take m s))

ended_out : (m l h : ℕ) (s : List ℕ) → 0 < m → between l h (get_or s 0 0) ≡ false → ended m l h s ≡ false
unfolding state_after
ended_out zero l h s p e = absurd (not-suc-le-zero p)
ended_out (suc m) l h [] p e = refl
ended_out (suc m) l h (b ∷ bs) p e = ap (λ (q : Utf8State). is_boundary (state_after q (take m bs))) (step_out (suc m) l h b e) ∙ ap is_boundary (stays_invalid (take m bs))

ended_in : (m l h : ℕ) (s : List ℕ) → 0 < l → between l h (get_or s 0 0) ≡ true → ended (suc m) l h s ≡ is_boundary (state_after (after_continuation (suc m)) (take m (drop 1 s)))
unfolding state_after
ended_in m l h [] p e = let z : true ≡ false = sym e ∙ below l h 0 p in let y : ◌≡◌ {A = ℕ} 0 1 = cc in absurd (omega arith)
ended_in m l h (b ∷ bs) p e = ap (λ (q : Utf8State). is_boundary (state_after q (take m bs))) (step_in (suc m) l h b e)

-- by its last byte
ended_one : (l h : ℕ) (s : List ℕ) → 0 < l → between l h (get_or s 0 0) ≡ ended 1 l h s
unfolding state_after after_continuation
ended_one l h s p = go (between l h (get_or s 0 0)) refl
  where
    go : (t : Bool) → between l h (get_or s 0 0) ≡ t → t ≡ ended 1 l h s
    go true e = sym (ended_in 0 l h s p e)
    go false e = sym (ended_out 1 l h s (omega arith) e)

ended_two : (l h : ℕ) (s : List ℕ) → 0 < l → between l h (get_or s 0 0) ≡ true → between 0x80 0xbf (get_or (drop 1 s) 0 0) ≡ ended 2 l h s
unfolding after_continuation
ended_two l h s p e = ended_one 0x80 0xbf (drop 1 s) (omega arith) ∙ sym (ended_in 1 l h s p e)

-- the same at a place of a script
module _ (s : List ℕ) (at m l h : ℕ) (low : 0 < l) where
  first : get_or (drop at s) 0 0 ≡ get_or s at 0
  first = get_or-drop at s 0 0 ∙ ap (λ (k : ℕ). get_or s k 0) (add-zero at)

  second : get_or (drop 1 (drop at s)) 0 0 ≡ get_or s (at + 1) 0
  second = get_or-drop 1 (drop at s) 0 0 ∙ get_or-drop at s 1 0

  third : get_or (drop 1 (drop 1 (drop at s))) 0 0 ≡ get_or s (at + 2) 0
  third = get_or-drop 1 (drop 1 (drop at s)) 0 0 ∙ get_or-drop 1 (drop at s) 1 0 ∙ get_or-drop at s 2 0

  pub first_out : 0 < m → between l h (get_or s at 0) ≡ false → false ≡ ended m l h (drop at s)
  first_out p e = sym (ended_out m l h (drop at s) p (ap (between l h) first ∙ e))

  module _ (in-first : between l h (get_or s at 0) ≡ true) where
    pub first-last : m ≡ 1 → true ≡ ended m l h (drop at s)
    first-last e = rw e (sym in-first ∙ ap (between l h) (sym first) ∙ ended_one l h (drop at s) low)

    pub second_last : m ≡ 2 → between 0x80 0xbf (get_or s (at + 1) 0) ≡ ended m l h (drop at s)
    second_last e = rw e (ap (between 0x80 0xbf) (sym second) ∙ ended_two l h (drop at s) low (ap (between l h) first ∙ in-first))

    after_first : ended 3 l h (drop at s) ≡ ended 2 0x80 0xbf (drop 1 (drop at s))
    unfolding after_continuation
    after_first = ended_in 2 l h (drop at s) low (ap (between l h) first ∙ in-first)

    pub second_out : 1 < m → m ≤ 3 → between 0x80 0xbf (get_or s (at + 1) 0) ≡ false → false ≡ ended m l h (drop at s)
    second_out p q e = go (eqb m 2) refl
      where
        go : (t : Bool) → eqb m 2 ≡ t → false ≡ ended m l h (drop at s)
        go true f = sym e ∙ second_last (eqb-true m 2 f)
        go false f =
            let three : m ≡ 3 = omega (arith, eqb-false m 2 f) in
            rw three (sym (after_first ∙ ended_out 2 0x80 0xbf (drop 1 (drop at s)) (omega arith) (ap (between 0x80 0xbf) second ∙ e)))

    pub third_last : m ≡ 3 → between 0x80 0xbf (get_or s (at + 1) 0) ≡ true → between 0x80 0xbf (get_or s (at + 2) 0) ≡ ended m l h (drop at s)
    third_last e f =
        rw e
        (ap (between 0x80 0xbf) (sym third) ∙ ended_two 0x80 0xbf (drop 1 (drop at s)) (omega arith) (ap (between 0x80 0xbf) second ∙ f) ∙ sym after_first)

pub three : (m : ℕ) → 0 < m → m ≤ 3 → (m ≡ 1 → ⊥) → (m ≡ 2 → ⊥) → m ≡ 3
three m p q e f = omega arith

-- ---- a character and what follows it

split : (q : Utf8State) (m : ℕ) (s : List ℕ) → state_after q s ≡ state_after (state_after q (take m s)) (drop m s)
unfolding state_after
split q zero s = refl
split q (suc m) [] = refl
split q (suc m) (b ∷ bs) = split (next_state q b) m bs

at_boundary : (q : Utf8State) → is_boundary q ≡ true → q ≡ Boundary
at_boundary Boundary e = refl
at_boundary (Expecting m l h) e = let z : ◌≡◌ {A = ℕ} 0 1 = cc in absurd (omega arith)
at_boundary Invalid e = let z : ◌≡◌ {A = ℕ} 0 1 = cc in absurd (omega arith)

-- where the bytes do not complete it, no others do
cut_more : (m l h : ℕ) (s : List ℕ)
    → ((r : List ℕ) → is_boundary (state_after (after_continuation (suc m)) (take m r)) ≡ false → is_boundary (state_after (after_continuation (suc m)) r) ≡ false)
    → ended (suc m) l h s ≡ false → is_boundary (state_after (Expecting (suc m) l h) s) ≡ false
unfolding state_after
cut_more m l h [] more e = refl
cut_more m l h (b ∷ bs) more e = go (between l h b) refl
  where
    go : (t : Bool) → between l h b ≡ t → is_boundary (state_after (next_state (Expecting (suc m) l h) b) bs) ≡ false
    go true f = rw (step_in (suc m) l h b f) (more bs (sym (ap (λ (q : Utf8State). is_boundary (state_after q (take m bs))) (step_in (suc m) l h b f)) ∙ e))
    go false f = rw (step_out (suc m) l h b f) (ap is_boundary (stays_invalid bs))

cut_one : (l h : ℕ) (s : List ℕ) → ended 1 l h s ≡ false → is_boundary (state_after (Expecting 1 l h) s) ≡ false
unfolding state_after after_continuation
cut_one l h s = cut_more 0 l h s (λ r e. let z : ◌≡◌ {A = ℕ} 0 1 = cc in absurd (omega arith))

cut_two : (l h : ℕ) (s : List ℕ) → ended 2 l h s ≡ false → is_boundary (state_after (Expecting 2 l h) s) ≡ false
unfolding after_continuation
cut_two l h s = cut_more 1 l h s (cut_one 0x80 0xbf)

cut_three : (l h : ℕ) (s : List ℕ) → ended 3 l h s ≡ false → is_boundary (state_after (Expecting 3 l h) s) ≡ false
unfolding after_continuation
cut_three l h s = cut_more 2 l h s (cut_two 0x80 0xbf)

cut_short : (m l h : ℕ) (s : List ℕ) → 0 < m → m ≤ 3 → ended m l h s ≡ false → is_boundary (state_after (Expecting m l h) s) ≡ false
cut_short zero l h s p q e = absurd (not-suc-le-zero p)
cut_short (suc zero) l h s p q e = cut_one l h s e
cut_short (suc (suc zero)) l h s p q e = cut_two l h s e
cut_short (suc (suc (suc zero))) l h s p q e = cut_three l h s e
cut_short (suc (suc (suc (suc m)))) l h s p q e = absurd (omega arith)

-- ---- what a first byte asks for

least_pos : (b : ℕ) → 0 < least_second b
unfolding least_second
least_pos b = cases (λ (n : ℕ). 0 < n) (eqb b 0xe0) (λ e. omega arith) (λ e. cases (λ (n : ℕ). 0 < n) (eqb b 0xf0) (λ f. omega arith) (λ f. omega arith))

some : (k low high m l h : ℕ) → 0 < k → k ≤ 3 → 0 < low → Expecting k low high ≡ Expecting m l h → (0 < m) × (m ≤ 3) × (0 < l)
some k low high m l h p q r e = let x : k ≡ m = cc in let y : low ≡ l = cc in (omega arith, omega arith, omega arith)

pub lead_asks : (b m l h : ℕ) → after_lead b ≡ Expecting m l h → (0 < m) × (m ≤ 3) × (0 < l)
unfolding after_lead
lead_asks b m l h =
    let P : Utf8State → Type 0 = λ q. q ≡ Expecting m l h → (0 < m) × (m ≤ 3) × (0 < l) in
    let never : P Invalid = λ e. let z : ◌≡◌ {A = ℕ} 0 1 = cc in absurd (omega arith) in
    cases P (ltb b 0x80) (λ t e. let z : ◌≡◌ {A = ℕ} 0 1 = cc in absurd (omega arith))
    (λ t. cases P (ltb b 0xc2) (λ t. never)
    (λ t. cases P (ltb b 0xe0) (λ t e. some 1 0x80 0xbf m l h (omega arith) (omega arith) (omega arith) e)
    (λ t. cases P (ltb b 0xf0) (λ t e. some 2 (least_second b) (greatest_second b) m l h (omega arith) (omega arith) (least_pos b) e)
    (λ t. cases P (ltb b 0xf5) (λ t e. some 3 (least_second b) (greatest_second b) m l h (omega arith) (omega arith) (least_pos b) e) (λ t. never)))))

-- those of two bytes
pub lead_two : (b : ℕ) → between 0xc2 0xdf b ≡ true → after_lead b ≡ Expecting 1 0x80 0xbf
unfolding after_lead
lead_two b e =
    let low = from_low 0xc2 0xdf b e in
    let high = to_high 0xc2 0xdf b e in
    rw (le-ltb b 0x80 (omega arith), le-ltb b 0xc2 low, lt-ltb b 0xe0 (omega arith), after_lead)

-- ---- a script, read from place to place: `is_boundary (state_after Boundary (drop i s))` stays what it is

lead : (b : ℕ) → ltb b 0x80 ≡ true → (s : List ℕ) → state_after Boundary s ≡ Boundary → state_after Boundary (b ∷ s) ≡ Boundary
unfolding state_after next_state after_lead
lead b e s h = rw (e, after_lead) h

-- bytes of ASCII are whole characters
ascii-run : (p : ℕ → Bool) → ((b : ℕ) → p b ≡ true → ltb b 0x80 ≡ true) → (s : List ℕ) → state_after Boundary (take (count_while p s) s) ≡ Boundary
unfolding count_while state_after next_state after_lead
ascii-run p ascii [] = refl
ascii-run p ascii (b ∷ bs) = go (p b) refl (ascii-run p ascii bs)
  where
    go : (t : Bool) → p b ≡ t → state_after Boundary (take (count_while p bs) bs) ≡ Boundary → state_after Boundary (take (count_while p (b ∷ bs)) (b ∷ bs)) ≡ Boundary
    go true e h = simp (e, count_while) (lead b (ascii b e) (take (count_while p bs) bs) h)
    go false e h = simp (e, count_while)

plain_ascii : (except b : ℕ) → is_plain except b ≡ true → ltb b 0x80 ≡ true
unfolding is_plain
plain_ascii except b = go (ltb b 0x80)
  where
    go : (t : Bool) → t && differs_from except b ≡ true → t ≡ true
    go true e = refl
    go false e = e

pub plain-utf8 : (except : ℕ) (s : List ℕ) (n : ℕ) → n ≡ count_while (is_plain except) s → utf8 (take n s) ≡ true
unfolding utf8
plain-utf8 except s n e = rw e (ap is_boundary (ascii-run (is_plain except) (λ b. plain_ascii except b) s))

-- a line is as well-formed without the space in front of it
pub leading_utf8 : (line : List ℕ) → utf8 (drop (leading_space line) line) ≡ utf8 line
unfolding utf8 leading_space state_after next_state after_lead
leading_utf8 [] = refl
leading_utf8 (b ∷ bs) = go (eqb b 32) refl
  where
    go : (t : Bool) → eqb b 32 ≡ t → is_boundary (state_after Boundary (drop (elim t as (λ (_ : Bool). ℕ) [ true ↦ 1 | false ↦ 0 ]) (b ∷ bs))) ≡ is_boundary (state_after Boundary (b ∷ bs))
    go true e = rw (eqb-true b 32 e)
    go false e = refl

abbrev pub is_ascii : ℕ → Bool
is_ascii b = ltb b 0x80

pub ascii-front : (s : List ℕ) (n : ℕ) → n ≡ count_while is_ascii s → (n ≤ length s) × (is_boundary (state_after Boundary (drop n s)) ≡ utf8 s)
unfolding utf8
ascii-front s n run =
    let whole : state_after Boundary (take n s) ≡ Boundary = rw run (ascii-run is_ascii (λ b e. e) s) in
    (rw run (run_le is_ascii s), ap is_boundary (sym (split Boundary n s ∙ ap (λ (q : Utf8State). state_after q (drop n s)) whole)))

module _ (s : List ℕ) (i : ℕ) (t : Bool) (reached : is_boundary (state_after Boundary (drop i s)) ≡ t) (h : i < length s) where
  behind : is_boundary (state_after (after_lead (get_or s i 0)) (drop (i + 1) s)) ≡ t
  unfolding next_state
  behind = ap is_boundary (place_more Boundary s i _ refl h) ∙ reached

  pub char_single : after_lead (get_or s i 0) ≡ Boundary → is_boundary (state_after Boundary (drop (i + 1) s)) ≡ t
  char_single e = rw e at behind

  pub char_invalid : after_lead (get_or s i 0) ≡ Invalid → false ≡ t
  char_invalid e = sym (ap is_boundary (stays_invalid (drop (i + 1) s))) ∙ (rw e at behind)

  module _ (m l g : ℕ) (e : after_lead (get_or s i 0) ≡ Expecting m l g) where
    pub char_whole : true ≡ ended m l g (drop (i + 1) s) → is_boundary (state_after Boundary (drop (i + (1 + m)) s)) ≡ t
    char_whole f =
        let r = drop (i + 1) s in
        let sum : i + (1 + m) ≡ i + 1 + m = omega arith in
        let to : drop (i + (1 + m)) s ≡ drop m r = ap (λ (x : ℕ). drop x s) sum ∙ sym (drop-drop m (i + 1) s) in
        let whole : state_after (Expecting m l g) r ≡ state_after Boundary (drop m r)
        = split (Expecting m l g) m r ∙ ap (λ (q : Utf8State). state_after q (drop m r)) (at_boundary (state_after (Expecting m l g) (take m r)) (sym f)) in
        rw to (ap is_boundary (sym whole) ∙ (rw e at behind))

    pub char_cut : false ≡ ended m l g (drop (i + 1) s) → false ≡ t
    char_cut f =
        let bounds = lead_asks (get_or s i 0) m l g e in
        sym (cut_short m l g (drop (i + 1) s) bounds.0 bounds.1 (sym f)) ∙ (rw e at behind)

pub char_end : (s : List ℕ) (i : ℕ) (t : Bool) → is_boundary (state_after Boundary (drop i s)) ≡ t → length s ≤ i → true ≡ t
char_end s i t reached h = ap is_boundary (place_end Boundary s i _ refl h) ∙ reached
