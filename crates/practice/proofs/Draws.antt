-- What is drawn, by the draw that picks: laws that the writing functions' proofs cite.
use Rattle.std.proofs.Common.{◌≡◌, ℕ, suc, ◌+◌, ◌-◌, ◌<◌, ◌≤◌, List, [], ◌∷◌, ◌++◌, length, sym, refl, ap, ◌∙◌, subst, append_assoc, append-nil, add-one, arith, le-ltb, lt-ltb, eq-eqb, ne_eqb}
use Rattle.text.specs.declared.Writer.{Writer}
use Rattle.text.specs.Text.{bytes, number as decimal}
use Rattle.text.specs.Emit.{last, Emits, Writes}
use Rattle.text.specs.Answer.{written, result, refuse}
use Rattle.text.proofs.EmitLaws.{and_then, writes_by, writes_nothing, same_size, whole}
use Rattle.text.proofs.Plain.{kept, counted}
use Rattle.practice.specs.Practice.{Drawn, draw, map_drawn, Expr, sum, leaf, sum_of, picked, expression, top_level, expressions, name_text, text, line, lines_from, sheet, promised}
use Rattle.practice.specs.Drawing.{WritesDrawn}
use Rattle.practice.proofs.Sheets.{lines_short, sheet-plain}

-- ---- a leaf

module _ (pick seed : ℕ) {u w : Writer} {s n : ℕ} where
  pub leaf-number : pick ≡ 0 → n ≡ (draw 100 seed).value → s ≡ (draw 100 seed).seed → Writes (decimal n) u w
      → WritesDrawn text (leaf pick seed) u w s
  unfolding leaf map_drawn text
  leaf-number e value next f = rw (eq-eqb pick 0 e, leaf) (record { writes = writes_by (ap decimal value) f; seed = next })

  pub leaf-name : {v : Writer} → (pick ≡ 0 → ⊥) → n ≡ (draw 10 seed).value → s ≡ (draw 10 seed).seed
      → Writes (118 ∷ []) u v → Writes (decimal n) v w → WritesDrawn text (leaf pick seed) u w s
  unfolding leaf map_drawn text name_text bytes
  leaf-name e value next f g =
      rw (ne_eqb pick 0 e, leaf) (record { writes = writes_by (ap (λ (m : ℕ). 118 ∷ decimal m) value) (and_then f g); seed = next })

-- ---- an expression

up : (level seed : ℕ)
    → expression (suc level) seed ≡ picked (expression level) (draw 4 seed).value (draw 4 seed).seed
unfolding expression
up level seed = refl

unpicked : (level seed p s : ℕ) → (level ≡ 0 → ⊥) → p ≡ (draw 4 seed).value → s ≡ (draw 4 seed).seed
    → picked (expression (level - 1)) p s ≡ expression level seed
unpicked level seed p s some value next =
    let e : suc (level - 1) ≡ level = omega (arith, some) in
    rw (value, next) (sym (up (level - 1) seed) ∙ ap (λ (l : ℕ). expression l seed) e)

as_drawn : {d d' : Drawn Expr} {u v : Writer} {s : ℕ} → d ≡ d' → WritesDrawn text d u v s → WritesDrawn text d' u v s
as_drawn {u = u} {v} {s} e f = subst (λ d. WritesDrawn text d u v s) e f

sum-text : (a b : Expr) → (40 ∷ []) ++ (text a ++ ((32 ∷ 43 ∷ 32 ∷ []) ++ (text b ++ (41 ∷ [])))) ≡ text (sum a b)
unfolding text bytes
sum-text a b = refl

module _ (level seed : ℕ) {p s t : ℕ} {u v : Writer} where
  pub lowest : level ≡ 0 → p ≡ (draw 2 seed).value → s ≡ (draw 2 seed).seed → WritesDrawn text (leaf p s) u v t
      → WritesDrawn text (expression level seed) u v t
  unfolding expression
  lowest e value next f = rw e (as_drawn (rw (value, next) refl) f)

  module _ (some : level ≡ 0 → ⊥) (value : p ≡ (draw 4 seed).value) (next : s ≡ (draw 4 seed).seed) where
    pub a_leaf : p < 2 → WritesDrawn text (leaf p s) u v t → WritesDrawn text (expression level seed) u v t
    unfolding picked
    a_leaf h f = as_drawn (unpicked level seed p s some value next) (rw (lt-ltb p 2 h, picked) f)

    pub a_sum : {a b c d : Writer} {r : ℕ} → p ≡ 2 → Writes (40 ∷ []) u a
        → WritesDrawn text (expression (level - 1) s) a b r → Writes (32 ∷ 43 ∷ 32 ∷ []) b c
        → WritesDrawn text (expression (level - 1) r) c d t → Writes (41 ∷ []) d v
        → WritesDrawn text (expression level seed) u v t
    unfolding picked sum_of map_drawn
    a_sum {c = c} {d} two opening first plus second closing =
        let part = expression (level - 1) in
        let second' = subst (λ (n : ℕ). WritesDrawn text (part n) c d t) first.seed second in
        as_drawn (unpicked level seed p s some value next) (rw (
          le-ltb p 2 (omega (arith, two)),
          eq-eqb p 2 two,
          picked,
        )
        (record {
          writes = writes_by (sum-text (part s).value (part (part s).seed).value)
              (and_then opening (and_then first.writes (and_then plus (and_then second'.writes closing))));
          seed = second'.seed;
        }))

    pub a_negated : {a : Writer} → 2 ≤ p → (p ≡ 2 → ⊥) → Writes (45 ∷ []) u a
        → WritesDrawn text (expression (level - 1) s) a v t → WritesDrawn text (expression level seed) u v t
    unfolding picked map_drawn text bytes
    a_negated above other minus f =
        as_drawn (unpicked level seed p s some value next) (rw (
          le-ltb p 2 above,
          ne_eqb p 2 other,
          picked,
        )
        (record { writes = and_then minus f.writes; seed = f.seed }))

-- ---- lines

pub a_line : (i seed : ℕ) {u v a b c e : Writer} {s : ℕ} → Writes (108 ∷ 101 ∷ 116 ∷ 32 ∷ 118 ∷ []) u a
    → Writes (decimal i) a b → Writes (32 ∷ 61 ∷ 32 ∷ []) b c → WritesDrawn text (expression top_level seed) c e s
    → Writes (10 ∷ []) e v → WritesDrawn (line i) (expression top_level seed) u v s
unfolding line name_text bytes
a_line i seed a b c d f = record { writes = and_then a (and_then b (and_then c (and_then d.writes f))); seed = d.seed }

-- of a sheet the lines before `i` are written from the buffer's start, and `s` is the next seed
pub record Begun (seed lines : ℕ) (before after : Writer) (s i : ℕ) : Type 0 where
  pub bound : i ≤ lines
  pub start : before.at ≡ 0
  pub done : List ℕ
  pub writes : Writes done before after
  pub left : done ++ lines_from i (expressions (lines - i) s) ≡ sheet seed lines

line_and : (i n m s : ℕ) → n ≡ suc m
    → lines_from i (expressions n s)
    ≡ line i (expression top_level s).value ++ lines_from (suc i) (expressions m (expression top_level s).seed)
unfolding lines_from expressions
line_and i n m s e = rw e

pub lines_none : {seed lines : ℕ} {u : Writer} → u.at ≡ 0 → Begun seed lines u u seed 0
unfolding sheet
lines_none {seed} e = record {
  bound = omega arith;
  start = e;
  done = [];
  writes = writes_nothing;
  left = ap (λ (n : ℕ). lines_from 0 (expressions n seed)) (omega arith);
}

module _ {seed lines s i : ℕ} {u v : Writer} (b : Begun seed lines u v s i) where
  pub lines_next : {w : Writer} {r : ℕ} → i < lines → WritesDrawn (line i) (expression top_level s) v w r
      → Begun seed lines u w r (i + 1)
  lines_next {w} {r} h f =
      let e = expression top_level s in
      let more : lines_from (i + 1) (expressions (lines - (i + 1)) r)
      ≡ lines_from (suc i) (expressions (lines - (i + 1)) e.seed) = rw (f.seed, add-one) refl in
      record {
        bound = omega arith;
        start = b.start;
        done = b.done ++ line i e.value;
        writes = and_then b.writes f.writes;
        left = append_assoc b.done (line i e.value) _ ∙ ap (λ l. b.done ++ (line i e.value ++ l)) more
            ∙ ap (λ l. b.done ++ l) (sym (line_and i (lines - i) (lines - (i + 1)) s (omega arith))) ∙ b.left;
      }

  -- `x` is lent to the writer, and `y` is what it leaves
  pub lines_all : {x y : List ℕ} → lines ≤ i → u.out.now ≡ x → y ≡ v.out.now → Emits (sheet seed lines) x 0 y v.at
  unfolding lines_from expressions
  lines_all h lent left =
      let none : lines - i ≡ 0 = omega arith in
      let all = sym (append-nil b.done) ∙ ap (λ (n : ℕ). b.done ++ lines_from i (expressions n s)) (sym none) ∙ b.left in
      rw (left, ← lent, ← b.start) (writes_by all b.writes).emits

  pub begun_size : length v.out.now ≡ length u.out.now
  begun_size = same_size b.writes.emits

-- ---- answers

module _ (seed lines : ℕ) (x : List ℕ) where
  pub too_many : 16 < lines → refuse 47 x ≡ promised seed lines x
  unfolding promised
  too_many h = rw (lt-ltb 16 lines h, promised)

  module _ (few : lines ≤ 16) {y : List ℕ} {n : ℕ} (measured : Emits (sheet seed lines) [] 0 y n) where
    short-sheet : length (sheet seed lines) ≤ last
    unfolding sheet
    short-sheet = omega (arith, lines_short 0 lines seed (omega arith))

    length_is : n ≡ length (sheet seed lines)
    length_is = counted measured (sheet-plain seed lines) short-sheet

    pub too_short_lem : length x < n → refuse 48 (y ++ x) ≡ promised seed lines x
    unfolding promised
    too_short_lem h =
        let e : length x < length (sheet seed lines) = omega (arith, length_is) in
        rw (kept measured x, le-ltb 16 lines few, lt-ltb (length x) (length (sheet seed lines)) e, promised)

    pub all-written : {z : List ℕ} {m : ℕ} → n ≤ length x → Emits (sheet seed lines) (y ++ x) 0 z m
        → result (written m) z ≡ promised seed lines x
    unfolding promised
    all-written h f =
        let e : length (sheet seed lines) ≤ length x = omega (arith, length_is) in
        rw (le-ltb 16 lines few, le-ltb (length x) (length (sheet seed lines)) e, promised)
        (whole (sheet-plain seed lines) e short-sheet (rw (kept measured x) at f))
