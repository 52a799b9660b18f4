-- The lists of runs, of every sort: when two of them agree, and what is known while they are walked.
use mathlib.Core.Path.{◌≡◌, refl, sym, ◌∙◌, ap}
use mathlib.Core.Bool.{Bool, true, false}
use mathlib.Core.Option.{Option}
use mathlib.Core.List.{List, [], ◌∷◌}
use Prim.Native.Nat.{ℕ, ◌+◌, ◌*◌, ◌-◌, ◌<◌, ◌≤◌}
use native.Mathlib.Omega.{arith}
use native.Mathlib.Nat.{add-mul}
use lib.Dec.{leb, eqb}
use lib.ListN.{length}
use borrow.Author.Tests.{leb-true, leb-false, eqb-true, eqb-false}
use Rattle.std.specs.Prelude as R
use Rattle.std.specs.Prelude.{None, Some}
use Rattle.std.specs.Fn.{Called}
use Rattle.std.specs.Iterator.{Yields, ChecksAll}
use Rattle.std.specs.List.{FoldsTo}
use Rattle.std.specs.Option.{MatchOption}
use denote.Param.Members.{Mut}
use Rattle.rules.specs.Shape as S
use Rattle.rules.specs.Shape.{Word, TypeShape, Params, FnShape, Shape, Shapes, FieldShapes, CaseShapes, Env}
use Rattle.ast.specs.declared.Run.{Run}
use Rattle.compare.specs.Agree.{Agree, Decides}
use Rattle.compare.proofs.Agree.{decides_yes, decides_no, decides_not, decides_by}
use Rattle.compare.specs.Pairs.{InStep, ArePairs, Room, GivesPlaces, TakesLast}
use Rattle.compare.specs.declared.pairs.Pairs.{Pairs}
use Rattle.compare.proofs.Walk as W
use Rattle.compare.proofs.Walk.{Sort, IsList, Walk, run_of, as_runs, FnParts}

-- a sort of list, what stands at a place, and the list of a run
pub record Listing (A L : Type 0) : Type 0 where
  pub sort : Sort A L
  pub place : Env → ℕ → Option A
  pub list : Env → Run → Option L
  pub are : (e : Env) (r : Run) → IsList sort (place e) e.cells r (list e r)

abbrev pub word_lists : Listing Word (List Word)
word_lists = record { sort = W.word_sort; place = W.word_at; list = S.words; are = W.words_are }

abbrev pub param_lists : Listing (Word × TypeShape) Params
param_lists = record { sort = W.param_sort; place = W.param_at; list = S.params; are = W.params_are }

abbrev pub fn_lists : Listing FnParts (List FnShape)
fn_lists = record { sort = W.fn_sort; place = W.fn_at; list = S.fns; are = W.fns_are }

abbrev pub node_lists : Listing Shape Shapes
node_lists = record { sort = W.node_sort; place = W.child_at; list = S.shapes; are = W.nodes_are }

abbrev pub field_lists : Listing (Word × Shape) FieldShapes
field_lists = record { sort = W.field_sort; place = W.field_at; list = S.fields; are = W.fields_are }

abbrev pub case_lists : Listing (Shape × Shapes) CaseShapes
case_lists = record { sort = W.case_sort; place = W.case_at; list = S.cases; are = W.cases_are }

-- `len` members from `start` and `start'` on are walked: `left` of them are left, from `at` and `at'` on
abbrev pub Walking : {A L : Type 0} → Listing A L → Env → Env → (start start' len at at' left : ℕ) → Type 0
Walking k e e' start start' len at at' left = Walk k.sort (k.place e) (k.place e') e.cells e'.cells (Agree (k.list e (run_of start len)) (k.list e' (run_of start' len))) at at' left

module _ {A L : Type 0} (k : Listing A L) {e e' : Env} where
  pub begin : {start start' len : ℕ} → start + len * k.sort.size ≤ length e.cells → start' + len * k.sort.size ≤ length e'.cells
      → start + len * k.sort.size < 18446744073709551616 → start' + len * k.sort.size < 18446744073709551616 → Walking k e e' start start' len start start' len
  begin {start} {start'} {len} h h' b b' = W.begin k.sort _ _ _ _ (k.are e (run_of start len)) (k.are e' (run_of start' len)) h h' b b'

  module _ {r r' : Run} where
    -- lists that agree are in step
    steps : Agree (k.list e r) (k.list e' r') → InStep k.sort.size e.cells r e'.cells r'
    steps b = (same (eqb r.len r'.len) refl, inside (leb (r.start + r.len * k.sort.size) (length e.cells)) refl, inside' (leb (r'.start + r'.len * k.sort.size) (length e'.cells)) refl)
      where
        same : (c : Bool) → eqb r.len r'.len ≡ c → r.len ≡ r'.len
        same true q = eqb-true _ _ q
        same false q = absurd (W.other_length k.sort (k.place e) (k.place e') e.cells e'.cells r r' (k.are e r) (k.are e' r') (eqb-false _ _ q) b)

        inside : (c : Bool) → leb (r.start + r.len * k.sort.size) (length e.cells) ≡ c → r.start + r.len * k.sort.size ≤ length e.cells
        inside true q = leb-true _ _ q
        inside false q = absurd (W.outside_left k.sort (k.place e) (k.place e') e.cells e'.cells r r' (k.are e r) (k.are e' r') (leb-false _ _ q) b)

        inside' : (c : Bool) → leb (r'.start + r'.len * k.sort.size) (length e'.cells) ≡ c → r'.start + r'.len * k.sort.size ≤ length e'.cells
        inside' true q = leb-true _ _ q
        inside' false q = absurd (W.outside_right k.sort (k.place e) (k.place e') e.cells e'.cells r r' (k.are e r) (k.are e' r') (leb-false _ _ q) b)

    pub not-in_step : {width : ℕ} → width ≡ k.sort.size → (InStep width e.cells r e'.cells r' → ⊥) → Decides false (Agree (k.list e r) (k.list e' r'))
    not-in_step z f = decides_no (λ b. f (rw z (steps b)))

    module _ (m : r.len ≡ r'.len) {at at' left : ℕ} (w : Walking k e e' r.start r'.start r.len at at' left) where
      pub step : 0 < left → Agree (k.place e at) (k.place e' at') → Walking k e e' r.start r'.start r.len (at + k.sort.size) (at' + k.sort.size) (left - 1)
      step h b = W.step k.sort _ _ _ _ w h b

      pub stop : 0 < left → (Agree (k.place e at) (k.place e' at') → ⊥) → Decides false (Agree (k.list e r) (k.list e' r'))
      stop h f = as_runs (k.list e) (k.list e') r r' m (decides_no (W.stop k.sort _ _ _ _ w h f))

      pub done : left ≡ 0 → Decides true (Agree (k.list e r) (k.list e' r'))
      done z = as_runs (k.list e) (k.list e') r r' m (decides_yes (W.done k.sort _ _ _ _ w z))

      -- the last member decides
      pub last : {b : Bool} → left ≡ 1 → Decides b (Agree (k.place e at) (k.place e' at')) → Decides b (Agree (k.list e r) (k.list e' r'))
      last z d = as_runs (k.list e) (k.list e') r r' m (decides_by (λ a. W.done k.sort _ _ _ _ (W.step k.sort _ _ _ _ w (omega arith) a) (omega arith)) (W.first k.sort _ _ _ _ w (omega arith)) d)

-- ---- the walk over pairs of places

-- the places `p` of two lists are left to walk
pub record Paired {A L : Type 0} (k : Listing A L) (e e' : Env) (r r' : Run) (p : Pairs) : Type 0 where
  pub lengths : r.len ≡ r'.len
  pub width : p.width ≡ k.sort.size
  pub walk : Walking k e e' r.start r'.start r.len p.at p.at2 p.left

-- and the last pair, which was taken off
pub record Before {A L : Type 0} (k : Listing A L) (e e' : Env) (r r' : Run) (at at' : ℕ) (p : Pairs) : Type 0 where
  pub lengths : r.len ≡ r'.len
  pub width : p.width ≡ k.sort.size
  pub walk : Walking k e e' r.start r'.start r.len p.at p.at2 (p.left + 1)
  pub there : at ≡ p.at + p.left * k.sort.size
  pub there' : at' ≡ p.at2 + p.left * k.sort.size

module _ {p : Pairs} {at at' : ℕ} (q : Pairs) (g : GivesPlaces p (Some (at, at')) q) where
  here : at ≡ p.at
  here = ap (λ (x : ℕ × ℕ). x.0) g.1

  here' : at' ≡ p.at2
  here' = ap (λ (x : ℕ × ℕ). x.1) g.1

module _ {A L : Type 0} (k : Listing A L) {e e' : Env} {r r' : Run} where
  pub paired : {width : ℕ} {p q : Pairs} → width ≡ k.sort.size → ArePairs width e.cells r e'.cells r' p → q ≡ p → Paired k e e' r r' q
  paired {width} {p} {q} z a i = rw i made
    where
      made : Paired k e e' r r' p
      made = record {
        lengths = a.0.0;
        width = a.5 ∙ z;
        walk = rw (a.2, a.3, a.4) (begin k (rw z at a.0.1) (rw (z, ← a.0.0) at a.0.2) (rw (a.2, a.4, a.5, z) at a.1.0) (rw (a.3, a.4, a.5, z) at a.1.1));
      }

  module _ {p : Pairs} (at at' : ℕ) (q : Pairs) (g : GivesPlaces p (Some (at, at')) q) where
    -- a pair more agrees
    pub next : Paired k e e' r r' p → Agree (k.place e at) (k.place e' at') → Paired k e e' r r' q
    next w b =
        let z : q.left ≡ p.left - 1 = omega arith in
        record {
          lengths = w.lengths;
          width = g.5 ∙ w.width;
          walk = rw (g.2, g.3, w.width, z) (step k w.lengths w.walk g.0 (rw (here q g, here' q g) at b));
        }

    -- a pair more does not
    pub differs : Paired k e e' r r' p → (Agree (k.place e at) (k.place e' at') → ⊥) → Decides false (Agree (k.list e r) (k.list e' r'))
    differs w f = stop k w.lengths w.walk g.0 (rw (here q g, here' q g) at f)

    -- it is the last, and decides
    pub decides-last : {b : Bool} → Paired k e e' r r' p → q.left ≡ 0 → Decides b (Agree (k.place e at) (k.place e' at')) → Decides b (Agree (k.list e r) (k.list e' r'))
    decides-last w z d = last k w.lengths w.walk (omega (arith, g.4)) (rw (here q g, here' q g) at d)

    module _ {last last' : ℕ} (w : Before k e e' r r' last last' p) where
      pub next-before : Agree (k.place e at) (k.place e' at') → Before k e e' r r' last last' q
      next-before b =
          let z : q.left + 1 ≡ p.left + 1 - 1 = omega arith in
          let m : p.left * k.sort.size ≡ k.sort.size + q.left * k.sort.size = ap (λ (n : ℕ). n * k.sort.size) (sym g.4) ∙ add-mul q.left 1 k.sort.size ∙ omega arith in
          record {
            lengths = w.lengths;
            width = g.5 ∙ w.width;
            walk = rw (g.2, g.3, w.width, z) (step k w.lengths w.walk (omega arith) (rw (here q g, here' q g) at b));
            there = w.there ∙ rw (g.2, w.width, m) (omega arith);
            there' = w.there' ∙ rw (g.3, w.width, m) (omega arith);
          }

      pub differs-before : (Agree (k.place e at) (k.place e' at') → ⊥) → Decides false (Agree (k.list e r) (k.list e' r'))
      differs-before f = stop k w.lengths w.walk (omega arith) (rw (here q g, here' q g) at f)

  -- the places that are left fit a word
  pub room : {p : Pairs} → Paired k e e' r r' p → Room p
  room w = rw w.width (w.walk.small, w.walk.small')

  -- none is left
  pub over : {p : Pairs} → Paired k e e' r r' p → p.left ≡ 0 → Decides true (Agree (k.list e r) (k.list e' r'))
  over w z = done k w.lengths w.walk z

  -- the last pair is taken off
  pub taken : {p : Pairs} (at at' : ℕ) (q : Pairs) → Paired k e e' r r' p → TakesLast p (Some (at, at')) q → Before k e e' r r' at at' q
  taken {p} at at' q w t = record {
    lengths = w.lengths;
    width = t.4 ∙ w.width;
    walk = rw (t.2, t.3, ← t.0) w.walk;
    there = ap (λ (x : ℕ × ℕ). x.0) t.1 ∙ rw (t.2, w.width);
    there' = ap (λ (x : ℕ × ℕ). x.1) t.1 ∙ rw (t.3, w.width);
  }

  module _ {at at' : ℕ} {p : Pairs} (w : Before k e e' r r' at at' p) where
    -- the last pair decides
    pub last-pair : {b : Bool} → p.left ≡ 0 → Decides b (Agree (k.place e at) (k.place e' at')) → Decides b (Agree (k.list e r) (k.list e' r'))
    last-pair z d =
        let h : at ≡ p.at = w.there ∙ rw z (omega arith) in
        let h' : at' ≡ p.at2 = w.there' ∙ rw z (omega arith) in
        last k w.lengths w.walk (omega arith) (rw (h, h') at d)

  -- a test of each pair, which stops at the first that does not agree
  module _ {F : Type 0} (g : Mut F ((ℕ × ℕ) × Unit {0}) Bool) (f : F)
      (test : (x : ℕ × ℕ) (b : Bool) (q : F) → Called g f (x, tt) b q → (q ≡ f) × Decides b (Agree (k.place e x.0) (k.place e' x.1))) where
    tested : (b : Bool) (u : Pairs) (xs : List (ℕ × ℕ)) (o : R.Option (ℕ × ℕ)) (s t : Pairs) (h j : F) → h ≡ f → Paired k e e' r r' s → Yields GivesPlaces s xs t → GivesPlaces t o u
        → FoldsTo (λ p x q. Called g p (x, tt) true q) h xs j → MatchOption o (b ≡ true) (λ x. (b ≡ false) × ((q : F) × Called g j (x, tt) false q)) → Decides b (Agree (k.list e r) (k.list e' r'))
    tested b u [] None s t h j z w y l c m = rw m (over (rw y at w) l.0)
    tested b u [] (Some x) s t h j z w y l c m =
        let a = test x false m.1.0 (rw (← c, z) at m.1.1) in
        rw m.0 (differs x.0 x.1 u l (rw y at w) (decides_not false refl a.1))
    tested b u (x ∷ xs) o s t h j z w y l c m =
        let a = test x true c.0 (rw z at c.1) in
        tested b u xs o y.0 t c.0 j a.0 (next x.0 x.1 y.0 y.1 w (a.1.holds refl)) y.2 l c.2 m

    pub all-tested : {b : Bool} {s u : Pairs} → Paired k e e' r r' s → ChecksAll GivesPlaces g s f b u → Decides b (Agree (k.list e r) (k.list e' r'))
    all-tested w c = tested _ _ c.0 c.1 _ c.3.0 f c.2 refl w c.3.1 c.3.2 c.4 c.5
