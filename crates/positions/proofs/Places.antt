-- Laws of line and column.
use mathlib.Core.Path.{◌≡◌, refl, sym, ◌∙◌, ap}
use mathlib.Core.Bool.{Bool, true, false}
use mathlib.Core.List.{List, [], ◌∷◌, ◌++◌}
use Prim.Native.Nat.{ℕ, suc, ◌+◌, ◌-◌, ◌<◌, ◌≤◌}
use native.Mathlib.Omega.{arith}
use native.Mathlib.Nat.{add-zero, zero-add}
use native.Mathlib.Numerals.{add-one}
use lib.Dec.{eqb, ltb}
use lib.ListN.{length, get_or, take, drop, drop_of_length-le, length-take}
use lib.Seq.{drop-cons, take-add}
use borrow.Author.Tests.{lt-ltb, le-ltb, ltb-true, ltb-false, lt-leb, le-leb, eq-eqb, ne_eqb}
use Rattle.std.proofs.lemmas.Grind.{common_steps}
use Rattle.lex.specs.Answer.{max_bytes, refused, answer}
use Rattle.lex.specs.Bytes.{if, between}
use Rattle.positions.specs.Position.{feeds, columns_of, since, place_of, place_at, onward, max_place, goes_on, advanced}
use Rattle.positions.specs.declared.Place.{Place}

module _ (script : List ℕ) (at : ℕ) where
  pub place_long : max_bytes < length script → refused 1 ≡ place_at script at
  unfolding place_at
  place_long h = rw (lt-ltb max_bytes (length script) h)

  pub place_outside : length script ≤ max_bytes → length script < at → refused 3 ≡ place_at script at
  unfolding place_at
  place_outside h l = rw (le-ltb max_bytes (length script) h, lt-ltb (length script) at l)

  pub place_inside : length script ≤ max_bytes → at ≤ length script → answer (place_of (take at script)) ≡ place_at script at
  unfolding place_at
  place_inside h l = rw (le-ltb max_bytes (length script) h, le-ltb (length script) at l)

-- an answer is the place of the bytes before the position
pub place_is : (script : List ℕ) (at : ℕ) (p : Place) → place_at script at ≡ answer p → p ≡ place_of (take at script)
place_is script at p e = go (ltb max_bytes (length script)) (ltb (length script) at) refl refl
  where
    never : (n : ℕ) → refused n ≡ answer p → ⊥
    never n h = let z : ◌≡◌ {A = ℕ} 0 1 = cc in omega arith

    go : (t u : Bool) → ltb max_bytes (length script) ≡ t → ltb (length script) at ≡ u → p ≡ place_of (take at script)
    go true u a b = absurd (never 1 (place_long script at (ltb-true max_bytes (length script) a) ∙ e))
    go false true a b = absurd (never 3 (place_outside script at (ltb-false max_bytes (length script) a) (ltb-true (length script) at b) ∙ e))
    go false false a b =
        let h : answer (place_of (take at script)) ≡ answer p = place_inside script at (ltb-false max_bytes (length script) a) (ltb-false (length script) at b) ∙ e in
        cc

-- the columns of a byte
module _ (b : ℕ) where
  columns_is : (t : Bool) → between 128 191 b ≡ t → if t 0 1 ≡ columns_of b
  unfolding columns_of
  columns_is t e = ap (λ (u : Bool). if u 0 1) (sym e)

  pub columns_below : b < 128 → 1 ≡ columns_of b
  unfolding between
  columns_below h = columns_is false (rw (lt-leb 128 b h, between))

  pub columns_above : 128 ≤ b → 191 < b → 1 ≡ columns_of b
  unfolding between
  columns_above h l = columns_is false (rw (le-leb 128 b h, lt-leb b 191 l, between))

  pub columns_none : 128 ≤ b → b ≤ 191 → 0 ≡ columns_of b
  unfolding between
  columns_none h l = columns_is true (rw (le-leb 128 b h, le-leb b 191 l, between))

  pub columns_le : columns_of b ≤ 1
  unfolding columns_of
  columns_le = go (between 128 191 b) refl
    where
      go : (t : Bool) → between 128 191 b ≡ t → columns_of b ≤ 1
      go true e = rw (e, columns_of) (omega arith)
      go false e = rw (e, columns_of) (omega arith)

-- a byte more
module _ (b : ℕ) (bs : List ℕ) where
  pub feeds_feed : b ≡ 10 → feeds (b ∷ bs) ≡ suc (feeds bs)
  unfolding feeds
  feeds_feed e = rw (eq-eqb b 10 e)

  pub feeds_other : (b ≡ 10 → ⊥) → feeds (b ∷ bs) ≡ feeds bs
  unfolding feeds
  feeds_other n = rw (ne_eqb b 10 n)

  pub since_feed : (n : ℕ) → b ≡ 10 → since n (b ∷ bs) ≡ since 0 bs
  unfolding since
  since_feed n e = rw (eq-eqb b 10 e)

  pub since_other : (n : ℕ) → (b ≡ 10 → ⊥) → since n (b ∷ bs) ≡ since (n + columns_of b) bs
  unfolding since
  since_other n e = rw (ne_eqb b 10 e)

-- what is counted after `i` bytes, `n` having been passed since the last line feed before them
pub record Counted (n : ℕ) (bs : List ℕ) (i f s : ℕ) : Type 0 where
  pub at : i ≤ length bs
  pub lines : f ≤ i
  pub columns : s ≤ n + i
  pub fed : f + feeds (drop i bs) ≡ feeds bs
  pub passed : since s (drop i bs) ≡ since n bs

-- nothing is counted yet
pub counted_none : (n : ℕ) (bs : List ℕ) → Counted n bs 0 0 n
counted_none n bs = record { at = omega arith; lines = omega arith; columns = omega arith; fed = zero-add (feeds bs); passed = refl }

module _ (n : ℕ) (bs : List ℕ) (i f s : ℕ) (h : i < length bs) (c : Counted n bs i f s) where
  next : drop i bs ≡ get_or bs i 0 ∷ drop (i + 1) bs
  next = rw add-one (drop-cons bs i 0 h)

  pub counted_feed : get_or bs i 0 ≡ 10 → Counted n bs (i + 1) (f + 1) 0
  counted_feed e =
      let g : feeds (drop i bs) ≡ suc (feeds (drop (i + 1) bs)) = ap feeds next ∙ feeds_feed (get_or bs i 0) (drop (i + 1) bs) e in
      let k : f + feeds (drop i bs) ≡ feeds bs = c.fed in
      record {
        at = omega arith;
        lines = omega (arith, c.lines);
        columns = omega arith;
        fed = omega arith;
        passed = sym (since_feed (get_or bs i 0) (drop (i + 1) bs) s e) ∙ ap (since s) (sym next) ∙ c.passed;
      }

  pub counted_other : (get_or bs i 0 ≡ 10 → ⊥) → Counted n bs (i + 1) f (s + columns_of (get_or bs i 0))
  counted_other e =
      let g : feeds (drop i bs) ≡ feeds (drop (i + 1) bs) = ap feeds next ∙ feeds_other (get_or bs i 0) (drop (i + 1) bs) e in
      let k : f + feeds (drop i bs) ≡ feeds bs = c.fed in
      record {
        at = omega arith;
        lines = omega (arith, c.lines);
        columns = omega (arith, c.columns, columns_le (get_or bs i 0));
        fed = omega arith;
        passed = sym (since_other (get_or bs i 0) (drop (i + 1) bs) s e) ∙ ap (since s) (sym next) ∙ c.passed;
      }

pub counted-all : (p : Place) (bs : List ℕ) (i f s : ℕ) → length bs ≤ i → Counted (p.column - 1) bs i f s → record { line = p.line + f; column = 1 + s } ≡ onward p bs
unfolding onward feeds since
counted-all p bs i f s h c =
    let d : drop i bs ≡ [] = drop_of_length-le bs h in
    let k : f ≡ feeds bs = sym (add-zero f) ∙ ap (λ (l : List ℕ). f + feeds l) (sym d) ∙ c.fed in
    let q : s ≡ since (p.column - 1) bs = ap (since s) (sym d) ∙ c.passed in
    rw (← k, ← q)

-- behind `i` bytes the place is `q`
pub record Walked (p : Place) (bs : List ℕ) (i : ℕ) (q : Place) : Type 0 where
  pub feeds : ℕ
  pub since : ℕ
  pub line : q.line ≡ p.line + feeds
  pub column : q.column ≡ 1 + since
  pub counted : Counted (p.column - 1) bs i feeds since

module _ (p : Place) (bs : List ℕ) (i : ℕ) (q : Place) (h : i < length bs) (w : Walked p bs i q) where
  pub walked_feed : get_or bs i 0 ≡ 10 → Walked p bs (i + 1) (record { line = q.line + 1; column = 1 })
  walked_feed e = record {
    feeds = w.feeds + 1;
    since = 0;
    line = omega (arith, w.line);
    column = refl;
    counted = counted_feed _ bs i _ _ h w.counted e;
  }

  pub walked_other : (get_or bs i 0 ≡ 10 → ⊥) → Walked p bs (i + 1) (record { line = q.line; column = q.column + columns_of (get_or bs i 0) })
  walked_other n = record {
    feeds = w.feeds;
    since = w.since + columns_of (get_or bs i 0);
    line = w.line;
    column = omega (arith, w.column);
    counted = counted_other _ bs i _ _ h w.counted n;
  }

pub walked-all : (p : Place) (bs : List ℕ) (i : ℕ) (q : Place) → length bs ≤ i → Walked p bs i q → q ≡ onward p bs
walked-all p bs i q h w = (λ j. record { line = w.line j; column = w.column j }) ∙ counted-all p bs i _ _ h w.counted

-- ---- a place in a script that is not too long

feeds_le : (bs : List ℕ) → feeds bs ≤ length bs
unfolding feeds
feeds_le [] = omega arith
feeds_le (b ∷ bs) = go (eqb b 10) refl (feeds_le bs)
  where
    go : (t : Bool) → eqb b 10 ≡ t → feeds bs ≤ length bs → feeds (b ∷ bs) ≤ suc (length bs)
    go true e h = rw (e, feeds) (omega arith)
    go false e h = rw (e, feeds) (omega arith)

since_le : (n : ℕ) (bs : List ℕ) → since n bs ≤ n + length bs
unfolding since
since_le n [] = omega arith
since_le n (b ∷ bs) = go (eqb b 10) refl (columns_le b) (since_le 0 bs) (since_le (n + columns_of b) bs)
  where
    go : (t : Bool) → eqb b 10 ≡ t → columns_of b ≤ 1 → since 0 bs ≤ 0 + length bs → since (n + columns_of b) bs ≤ n + columns_of b + length bs → since n (b ∷ bs) ≤ n + suc (length bs)
    go true e o h k = rw (e, since) (omega arith)
    go false e o h k = rw (e, since) (omega arith)

pub record Near (p : Place) : Type 0 where
  pub one : 1 ≤ p.column
  pub column : p.column ≤ max_place
  pub line : p.line ≤ max_place

pub near : (script : List ℕ) (at : ℕ) → length script ≤ max_bytes → Near (place_of (take at script))
unfolding place_of
near script at h =
    let l : length (take at script) ≤ length script = let k = length-take at script in omega arith in
    let f = feeds_le (take at script) in
    let s = since_le 0 (take at script) in
    record { one = omega arith; column = omega arith; line = omega arith }

-- ---- from a place that is known

feeds-append : (a b : List ℕ) → feeds (a ++ b) ≡ feeds a + feeds b
unfolding feeds
feeds-append [] b = sym (zero-add (feeds b))
feeds-append (x ∷ a) b = go (eqb x 10) refl (feeds-append a b)
  where
    go : (t : Bool) → eqb x 10 ≡ t → feeds (a ++ b) ≡ feeds a + feeds b → feeds (x ∷ (a ++ b)) ≡ feeds (x ∷ a) + feeds b
    go true e h = rw (e, feeds) (omega arith)
    go false e h = rw (e, feeds) h

since-append : (n : ℕ) (a b : List ℕ) → since n (a ++ b) ≡ since (since n a) b
unfolding since
since-append n [] b = refl
since-append n (x ∷ a) b = go (eqb x 10) refl (since-append 0 a b) (since-append (n + columns_of x) a b)
  where
    go : (t : Bool) → eqb x 10 ≡ t → since 0 (a ++ b) ≡ since (since 0 a) b → since (n + columns_of x) (a ++ b) ≡ since (since (n + columns_of x) a) b → since n (x ∷ (a ++ b)) ≡ since (since n (x ∷ a)) b
    go true e h k = rw (e, since) h
    go false e h k = rw (e, since) k

-- behind `a` and then `b`
onward-append : (a b : List ℕ) → onward (place_of a) b ≡ place_of (a ++ b)
unfolding onward place_of
onward-append a b =
    let l : 1 + feeds a + feeds b ≡ 1 + feeds (a ++ b) = let f = feeds-append a b in omega arith in
    let k : 1 + since 0 a - 1 ≡ since 0 a = omega arith in
    let s : since (1 + since 0 a - 1) b ≡ since 0 (a ++ b) = ap (λ (n : ℕ). since n b) k ∙ sym (since-append 0 a b) in
    rw (l, s)

-- from the place of an earlier position
pub onward-between : (script : List ℕ) (from to : ℕ) → from ≤ to → onward (place_of (take from script)) (take (to - from) (drop from script)) ≡ place_of (take to script)
onward-between script from to h =
    let sum : from + (to - from) ≡ to = omega arith in
    onward-append (take from script) (take (to - from) (drop from script))
    ∙ ap place_of (sym (take-add from (to - from) script) ∙ ap (λ (n : ℕ). take n script) sum)

pub onward_start : (before : List ℕ) → onward (record { line = 1; column = 1 }) before ≡ place_of before
unfolding onward place_of
onward_start before = refl

-- when the walk goes on
pub record Ahead (from : ℕ) (known : Place) (to : ℕ) : Type 0 where
  pub ahead : from ≤ to
  pub one : 1 ≤ known.column
  pub column : known.column ≤ max_place
  pub line : known.line ≤ max_place

pub ahead : (from : ℕ) (known : Place) (to : ℕ) → goes_on from known to ≡ true → Ahead from known to
unfolding goes_on
ahead from known to h = record { ahead = grind (arith, common_steps); one = grind (arith, common_steps); column = grind (arith, common_steps); line = grind (arith, common_steps) }

module _ (script : List ℕ) (from : ℕ) (known : Place) (to : ℕ) where
  pub advanced_long : max_bytes < length script → refused 1 ≡ advanced script from known to
  unfolding advanced
  advanced_long h = rw (lt-ltb max_bytes (length script) h)

  module _ (small : length script ≤ max_bytes) where
    pub advanced_outside : length script < to → refused 3 ≡ advanced script from known to
    unfolding advanced
    advanced_outside l = rw (le-ltb max_bytes (length script) small, lt-ltb (length script) to l)

    module _ (inside : to ≤ length script) where
      pub advanced_on : goes_on from known to ≡ true → answer (onward known (take (to - from) (drop from script))) ≡ advanced script from known to
      unfolding advanced
      advanced_on g = rw (le-ltb max_bytes (length script) small, le-ltb (length script) to inside, g)

      pub advanced_anew : goes_on from known to ≡ false → answer (place_of (take to script)) ≡ advanced script from known to
      unfolding advanced
      advanced_anew g = rw (le-ltb max_bytes (length script) small, le-ltb (length script) to inside, g)

-- from the place of an earlier position
pub advanced-known : (script : List ℕ) (from : ℕ) (known : Place) (to : ℕ) → known ≡ place_of (take from script) → advanced script from known to ≡ place_at script to
advanced-known script from known to is = go (ltb max_bytes (length script)) (ltb (length script) to) (goes_on from known to) refl refl refl
  where
    go : (t u v : Bool) → ltb max_bytes (length script) ≡ t → ltb (length script) to ≡ u → goes_on from known to ≡ v → advanced script from known to ≡ place_at script to
    go true u v a b d = let h = ltb-true max_bytes (length script) a in sym (advanced_long script from known to h) ∙ place_long script to h
    go false true v a b d =
        let h = ltb-false max_bytes (length script) a in
        let l = ltb-true (length script) to b in
        sym (advanced_outside script from known to h l) ∙ place_outside script to h l
    go false false false a b d =
        let h = ltb-false max_bytes (length script) a in
        let l = ltb-false (length script) to b in
        sym (advanced_anew script from known to h l d) ∙ place_inside script to h l
    go false false true a b d =
        let h = ltb-false max_bytes (length script) a in
        let l = ltb-false (length script) to b in
        let place : onward known (take (to - from) (drop from script)) ≡ place_of (take to script) =
        ap (λ (p : Place). onward p (take (to - from) (drop from script))) is
        ∙ onward-between script from to (ahead from known to d).ahead in
        sym (advanced_on script from known to h l d) ∙ ap answer place ∙ place_inside script to h l

pub advanced-start : (script : List ℕ) (to : ℕ) → advanced script 0 (record { line = 1; column = 1 }) to ≡ place_at script to
unfolding place_of feeds since
advanced-start script to = advanced-known script 0 (record { line = 1; column = 1 }) to refl
