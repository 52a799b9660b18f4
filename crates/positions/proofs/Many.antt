-- Laws of the lines and columns of many positions.
use mathlib.Core.Path.{◌≡◌, refl, sym, ◌∙◌, ap}
use mathlib.Core.Bool.{Bool, true, false, not}
use mathlib.Core.List.{List, [], ◌∷◌, ◌++◌, append_assoc}
use Prim.Native.Nat.{ℕ, zero, suc, ◌+◌, ◌-◌, ◌*◌, ◌<◌, ◌≤◌}
use native.Mathlib.Omega.{arith}
use native.Mathlib.Numerals.{add-one}
use lib.Dec.{leb, ltb}
use lib.ListN.{length, get_or, set, take, drop, length-append, length-set}
use lib.Seq.{drop-cons, take-suc, set_at, length-take-le}
use borrow.Author.Tests.{lt-ltb, le-ltb, ltb-true, ltb-false, lt-leb, le-leb, leb-true, leb-false}
use Rattle.std.specs.Bool.{MatchBool}
use Rattle.std.specs.List.Sorted.{IsNonDecreasing}
use Rattle.lex.specs.Answer.{max_bytes, Answer, refused, answer}
use Rattle.positions.specs.Position.{feeds, since, place_of, onward}
use Rattle.positions.specs.LineColumns.{falls_from, falls, pair_before, pairs, outcome, line_columns, all_inside, cells_of, Fillable}
use Rattle.positions.specs.declared.Place.{Place}
use Rattle.positions.proofs.Places.{place_outside, place_inside, onward-between, Near, near}

-- ---- position `i` of a list

module _ (ps : List ℕ) (i : ℕ) (h : i < length ps) where
  next : drop i ps ≡ get_or ps i 0 ∷ drop (i + 1) ps
  next = rw add-one (drop-cons ps i 0 h)

  module _ (last : ℕ) where
    pub falls-here : get_or ps i 0 < last → true ≡ falls_from last (drop i ps)
    unfolding falls_from
    falls-here l = rw (next, lt-ltb (get_or ps i 0) last l)

    pub falls_on : last ≤ get_or ps i 0 → falls_from (get_or ps i 0) (drop (i + 1) ps) ≡ falls_from last (drop i ps)
    unfolding falls_from
    falls_on l = rw (next, le-ltb (get_or ps i 0) last l)

  module _ (n : ℕ) where
    pub inside_not : n < get_or ps i 0 → false ≡ all_inside n (drop i ps)
    unfolding all_inside
    inside_not l = rw (next, lt-leb (get_or ps i 0) n l)

    pub inside_on : get_or ps i 0 ≤ n → all_inside n (drop (i + 1) ps) ≡ all_inside n (drop i ps)
    unfolding all_inside
    inside_on l = rw (next, le-leb (get_or ps i 0) n l)

-- a position that is below the one before it
falls-behind : (ps : List ℕ) (k last : ℕ) → suc k < length ps → get_or ps (suc k) 0 < get_or ps k 0 → falls_from last ps ≡ true
unfolding falls_from
falls-behind [] k last h l = absurd (omega arith)
falls-behind (p ∷ []) k last h l = absurd (omega arith)
falls-behind (p ∷ q ∷ ps) zero last h l = go (ltb p last) refl
  where
    go : (t : Bool) → ltb p last ≡ t → falls_from last (p ∷ q ∷ ps) ≡ true
    go true e = rw e
    go false e = rw (e, falls_from, lt-ltb q p l)
falls-behind (p ∷ q ∷ ps) (suc k) last h l = go (ltb p last) refl (falls-behind (q ∷ ps) k p (omega arith) l)
  where
    go : (t : Bool) → ltb p last ≡ t → falls_from p (q ∷ ps) ≡ true → falls_from last (p ∷ q ∷ ps) ≡ true
    go true e more = rw e
    go false e more = rw (e, falls_from) more

-- none is
rises : (ps : List ℕ) (last : ℕ) → (0 < length ps → last ≤ get_or ps 0 0) → ((k : ℕ) → suc k < length ps → get_or ps k 0 ≤ get_or ps (suc k) 0) → falls_from last ps ≡ false
unfolding falls_from
rises [] last first h = refl
rises (p ∷ ps) last first h =
    let e : ltb p last ≡ false = le-ltb p last (first (omega arith)) in
    rw e (rises ps p (λ l. h 0 (omega arith)) (λ k l. h (suc k) (omega arith)))

-- what `is_sorted` answers
pub falls-sorted : (ps : List ℕ) (r : Bool) → MatchBool r (IsNonDecreasing ps) ((k : ℕ) × (k + 1 < length ps) × ((d : ℕ) → get_or ps (k + 1) d < get_or ps k d)) → not r ≡ falls ps
falls-sorted ps true h = sym (rises ps 0 (λ l. omega arith) (λ k l. h k (suc k) 0 (omega arith) l))
falls-sorted ps false (k, l, h) = sym (falls-behind ps k 0 (rw add-one at l) (rw add-one at (h 0)))

-- ---- the pairs

pub cells-length : (script ps : List ℕ) → length (cells_of script ps) ≡ 2 * length ps
unfolding cells_of
cells-length script [] = refl
cells-length script (p ∷ ps) = let h = cells-length script ps in omega arith

cells-snoc : (script ps : List ℕ) (p : ℕ) → cells_of script (ps ++ (p ∷ [])) ≡ cells_of script ps ++ ((place_of (take p script)).line ∷ (place_of (take p script)).column ∷ [])
unfolding cells_of
cells-snoc script [] p = refl
cells-snoc script (x ∷ ps) p = ap (λ (l : List ℕ). (place_of (take x script)).line ∷ (place_of (take x script)).column ∷ l) (cells-snoc script ps p)

never : false ≡ true → ⊥
never e = let z : ◌≡◌ {A = ℕ} 0 1 = cc in omega arith

module _ (script : List ℕ) (short : length script ≤ max_bytes) where
  pairs-inside : (ps : List ℕ) → all_inside (length script) ps ≡ true → pairs script ps ≡ answer (cells_of script ps)
  unfolding pairs all_inside cells_of
  pairs-inside [] e = refl
  pairs-inside (p ∷ ps) e = go (leb p (length script)) refl (pairs-inside ps)
    where
      go : (t : Bool) → leb p (length script) ≡ t → (all_inside (length script) ps ≡ true → pairs script ps ≡ answer (cells_of script ps)) → pairs script (p ∷ ps) ≡ answer (cells_of script (p ∷ ps))
      go false l more = absurd (never (rw (l, all_inside) at e))
      go true l more =
          ap (λ (a : Answer Place). pair_before a (pairs script ps)) (sym (place_inside script p short (leb-true p (length script) l)))
          ∙ ap (λ (a : Answer (List ℕ)). pair_before (answer (place_of (take p script))) a) (more (rw (l, all_inside) at e))

  pairs_outside : (ps : List ℕ) → all_inside (length script) ps ≡ false → pairs script ps ≡ refused 3
  unfolding pairs all_inside
  pairs_outside [] e = absurd (never (sym e))
  pairs_outside (p ∷ ps) e = go (leb p (length script)) refl (pairs_outside ps)
    where
      go : (t : Bool) → leb p (length script) ≡ t → (all_inside (length script) ps ≡ false → pairs script ps ≡ refused 3) → pairs script (p ∷ ps) ≡ refused 3
      go false l more = ap (λ (a : Answer Place). pair_before a (pairs script ps)) (sym (place_outside script p short (leb-false p (length script) l)))
      go true l more =
          ap (λ (a : Answer Place). pair_before a (pairs script ps)) (sym (place_inside script p short (leb-true p (length script) l)))
          ∙ ap (λ (a : Answer (List ℕ)). pair_before (answer (place_of (take p script))) a) (more (rw (l, all_inside) at e))

-- ---- how the call ends

module _ (script ps places : List ℕ) where
  pub ends_long : max_bytes < length script → outcome (refused 1) places ≡ line_columns script ps places
  unfolding line_columns
  ends_long h = rw (lt-ltb max_bytes (length script) h)

  module _ (short : length script ≤ max_bytes) where
    pub ends_cramped : length places < 2 * length ps → outcome (refused 50) places ≡ line_columns script ps places
    unfolding line_columns
    ends_cramped l = rw (le-ltb max_bytes (length script) short, lt-ltb (length places) (2 * length ps) l)

    module _ (room : 2 * length ps ≤ length places) where
      pub ends_falling : falls ps ≡ true → outcome (refused 49) places ≡ line_columns script ps places
      unfolding line_columns
      ends_falling f = rw (le-ltb max_bytes (length script) short, le-ltb (length places) (2 * length ps) room, f)

      module _ (rising : falls ps ≡ false) where
        pub ends_outside : all_inside (length script) ps ≡ false → outcome (refused 3) places ≡ line_columns script ps places
        unfolding line_columns
        ends_outside o = rw (le-ltb max_bytes (length script) short, le-ltb (length places) (2 * length ps) room, rising, pairs_outside script short ps o)

        pub ends-filled : all_inside (length script) ps ≡ true → outcome (answer tt) (cells_of script ps ++ drop (length (cells_of script ps)) places) ≡ line_columns script ps places
        unfolding line_columns
        ends-filled i = rw (le-ltb max_bytes (length script) short, le-ltb (length places) (2 * length ps) room, rising, pairs-inside script short ps i)

-- ---- going through the script once

-- the pairs of `i` positions stand in front, and `place` is that of `at`, the last of them
pub record Reached (script ps places : List ℕ) (places' : List ℕ) (at : ℕ) (place : Place) (i : ℕ) : Type 0 where
  pub within : i ≤ length ps
  pub behind : at ≤ length script
  pub known : place ≡ place_of (take at script)
  pub rising : falls_from at (drop i ps) ≡ false
  pub inside : all_inside (length script) (drop i ps) ≡ true
  pub cells : places' ≡ cells_of script (take i ps) ++ drop (2 * i) places
  pub size : length places' ≡ length places

pub reached-none : (script ps places : List ℕ) → Fillable script ps places → Reached script ps places places 0 (record { line = 1; column = 1 }) 0
unfolding place_of feeds since cells_of
reached-none script ps places f =
    record { within = omega arith; behind = omega arith; known = refl; rising = f.rising; inside = f.inside; cells = refl; size = refl }

-- two cells behind others
set_two : (a b : List ℕ) (n x y : ℕ) → length a ≡ n → n + 1 < length b → set (set (a ++ drop n b) n x) (n + 1) y ≡ (a ++ (x ∷ y ∷ [])) ++ drop (n + 2) b
set_two a b n x y h l =
    let d : drop n b ≡ get_or b n 0 ∷ drop (n + 1) b = rw add-one (drop-cons b n 0 (omega arith)) in
    let two : suc (n + 1) ≡ n + 2 = omega arith in
    let e : drop (n + 1) b ≡ get_or b (n + 1) 0 ∷ drop (n + 2) b = drop-cons b (n + 1) 0 l ∙ ap (λ (k : ℕ). get_or b (n + 1) 0 ∷ drop k b) two in
    let first : set (a ++ drop n b) n x ≡ a ++ (x ∷ drop (n + 1) b) = ap (λ (t : List ℕ). set (a ++ t) n x) d ∙ set_at a (get_or b n 0) (drop (n + 1) b) x n h in
    let split : a ++ (x ∷ drop (n + 1) b) ≡ (a ++ (x ∷ [])) ++ (get_or b (n + 1) 0 ∷ drop (n + 2) b) =
    ap (λ (t : List ℕ). a ++ (x ∷ t)) e ∙ sym (append_assoc a (x ∷ []) (get_or b (n + 1) 0 ∷ drop (n + 2) b)) in
    let size : length (a ++ (x ∷ [])) ≡ n + 1 = let s = length-append a (x ∷ []) in omega arith in
    let second : set ((a ++ (x ∷ [])) ++ (get_or b (n + 1) 0 ∷ drop (n + 2) b)) (n + 1) y ≡ (a ++ (x ∷ [])) ++ (y ∷ drop (n + 2) b) =
    set_at (a ++ (x ∷ [])) (get_or b (n + 1) 0) (drop (n + 2) b) y (n + 1) size in
    ap (λ (t : List ℕ). set t (n + 1) y) (first ∙ split)
    ∙ second
    ∙ append_assoc a (x ∷ []) (y ∷ drop (n + 2) b)
    ∙ sym (append_assoc a (x ∷ y ∷ []) (drop (n + 2) b))

module _ (script ps places places' : List ℕ) (at : ℕ) (place : Place) (i : ℕ) (f : Fillable script ps places) (r : Reached script ps places places' at place i) (h : i < length ps) where
  -- the next position is not below the last
  pub step_ahead : at ≤ get_or ps i 0
  step_ahead = go (ltb (get_or ps i 0) at) refl
    where
      go : (t : Bool) → ltb (get_or ps i 0) at ≡ t → at ≤ get_or ps i 0
      go true e = absurd (never (sym r.rising ∙ sym (falls-here ps i h at (ltb-true (get_or ps i 0) at e))))
      go false e = ltb-false (get_or ps i 0) at e

  pub step_inside : get_or ps i 0 ≤ length script
  step_inside = go (ltb (length script) (get_or ps i 0)) refl
    where
      go : (t : Bool) → ltb (length script) (get_or ps i 0) ≡ t → get_or ps i 0 ≤ length script
      go true e = absurd (never (inside_not ps i h (length script) (ltb-true (length script) (get_or ps i 0) e) ∙ r.inside))
      go false e = ltb-false (length script) (get_or ps i 0) e

  pub step_near : Near place
  step_near = rw r.known (near script at f.short)

  pub step_next : (p : Place) → p ≡ onward place (take (get_or ps i 0 - at) (drop at script)) → Reached script ps places (set (set places' (2 * i) p.line) (2 * i + 1) p.column) (get_or ps i 0) p (i + 1)
  step_next p e =
      let to = get_or ps i 0 in
      let known : p ≡ place_of (take to script) = e ∙ ap (λ (q : Place). onward q (take (to - at) (drop at script))) r.known ∙ onward-between script at to step_ahead in
      let one : take (i + 1) ps ≡ take i ps ++ (to ∷ []) = rw add-one (take-suc ps i 0 h) in
      let before : length (cells_of script (take i ps)) ≡ 2 * i = cells-length script (take i ps) ∙ ap (λ (n : ℕ). 2 * n) (length-take-le i ps r.within) in
      let more : cells_of script (take i ps) ++ ((place_of (take to script)).line ∷ (place_of (take to script)).column ∷ []) ≡ cells_of script (take (i + 1) ps) =
      sym (cells-snoc script (take i ps) to) ∙ ap (cells_of script) (sym one) in
      let two : 2 * i + 2 ≡ 2 * (i + 1) = omega arith in
      let room : 2 * i + 1 < length places = omega (arith, f.room) in
      let cells : set (set places' (2 * i) p.line) (2 * i + 1) p.column ≡ cells_of script (take (i + 1) ps) ++ drop (2 * (i + 1)) places =
      ap (λ (q : Place). set (set places' (2 * i) q.line) (2 * i + 1) q.column) known
      ∙ ap (λ (t : List ℕ). set (set t (2 * i) (place_of (take to script)).line) (2 * i + 1) (place_of (take to script)).column) r.cells
      ∙ set_two (cells_of script (take i ps)) places (2 * i) (place_of (take to script)).line (place_of (take to script)).column before room
      ∙ ap (λ (t : List ℕ). t ++ drop (2 * i + 2) places) more
      ∙ ap (λ (n : ℕ). cells_of script (take (i + 1) ps) ++ drop n places) two in
      record {
        within = omega arith;
        behind = step_inside;
        known = known;
        rising = falls_on ps i h at step_ahead ∙ r.rising;
        inside = inside_on ps i h (length script) step_inside ∙ r.inside;
        cells = cells;
        size = length-set (set places' (2 * i) p.line) (2 * i + 1) p.column ∙ length-set places' (2 * i) p.line ∙ r.size;
      }
