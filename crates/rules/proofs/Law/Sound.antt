-- What is not turned away: a tree that passes 4 has all its children found and below; one that
-- passes 45 too has parents; and a tree that a reading returns passes both.
use mathlib.Core.Path.{◌≡◌, refl, sym, ap, ◌∙◌, subst}
use mathlib.Core.Bool.{Bool, true, false}
use mathlib.Core.Option.{Option, none, some}
use mathlib.Core.List.{List, [], ◌∷◌, ◌++◌, map}
use Prim.Native.Nat.{ℕ, zero, suc, ◌+◌, ◌*◌, ◌<◌}
use lib.Dec.{eqb, leb, eqb→eq, leb→le, le→leb, T}
use lib.ListN.{length, length-append}
use native.Mathlib.Omega.{arith}
use Rattle.lex.specs.Kind.{k_eof}
use Rattle.lex.specs.declared.diagnostic.Diagnostic.{Diagnostic}
use Rattle.rules.specs.Tree.{Arena, Tree}
use Rattle.rules.specs.Parse.{read, parse, parse_collect}
use Rattle.ast.specs.Layout.{node_width}
use Rattle.rules.specs.Shape.{TypeShape, Shape, type_in, node_in, type_shape_at, node_shape_at, shape_of}
use Rattle.ast.specs.Lists.{map₁, map₂, and_then}
use Rattle.ast.specs.Tabulate.{lookup, tabulate}
use Rattle.rules.specs.Law.{Child, a_node, a_type, children_of, inner_of, same, times, all_of, occurrences, nth, children_at, Once}
use Rattle.rules.specs.Parents.{parent_of, wide_width, widened, narrowed, all_below, is_some, sound, once_each, parents_right, turned_away, turned_back}
use Rattle.ast.specs.declared.Node.{Node}
use Rattle.ast.specs.declared.TypeExpr.{TypeExpr}
use Rattle.rules.proofs.Unique.Grow.{none≢some, some_inj, env, look_end}
use Rattle.rules.proofs.Unique.Step.{AllShaped}
use Rattle.rules.proofs.Unique.Whole.{shaped, all_shaped}
use Rattle.rules.proofs.Unique.Collect.{shaped_collect, all_shaped_collect}
use Rattle.rules.proofs.Law.Whole.{parse_law, parse_collect_law}
use Rattle.rules.proofs.Law.Shaped.{Is, Shaped, Children, shaped_children, shaped_inner}
use Rattle.rules.proofs.Law.Parents.{yes_true, all-below, below_all, Sole, ParentsRight, parents_right_lem, right_parents, there_and_back, back_and_there, widened-right}

-- ---- tables

module _ {A : Type 0} where
  -- what is in a table stays as it grows
  pub look_before : (d e : List (Option A)) (i : ℕ) → i < length d → lookup (d ++ e) i ≡ lookup d i
  unfolding lookup
  look_before [] e i h = absurd (omega arith)
  look_before (x ∷ d) e zero h = refl
  look_before (x ∷ d) e (suc i) h = look_before d e i (omega arith)

  -- what is found lies inside
  pub look_inside : (d : List (Option A)) (i : ℕ) → Is (lookup d i) → i < length d
  unfolding lookup
  look_inside [] i h = none≢some h.0 h.1
  look_inside (x ∷ d) zero h = omega arith
  look_inside (x ∷ d) (suc i) h = let z = look_inside d i h in omega arith

module _ {R A : Type 0} (f : (ℕ → Option A) → R → Option A) where
  pub table_keeps : (xs : List R) (d : List (Option A)) (i : ℕ) → i < length d → lookup (tabulate f d xs) i ≡ lookup d i
  unfolding tabulate
  table_keeps [] d i h = refl
  table_keeps (x ∷ xs) d i h = table_keeps xs (d ++ (f (lookup d) x ∷ [])) i (omega (arith, length-append d (f (lookup d) x ∷ []))) ∙ look_before d _ i h

  -- an entry is made from those before it
  pub record Entry (k : ℕ) (x : R) : Type 0 where
    pub before : List (Option A)
    pub many : length before ≡ k
    pub made : Is (f (lookup before) x)

  pub table_entry : (xs : List R) (d : List (Option A)) (j : ℕ) (x : R) → nth xs j ≡ some x → Is (lookup (tabulate f d xs) (length d + j)) → Entry (length d + j) x
  unfolding tabulate nth
  table_entry [] d j x e h = none≢some x e
  table_entry (y ∷ xs) d zero x e h =
      let d' : List (Option A) = d ++ (f (lookup d) y ∷ []) in
      let z : lookup (tabulate f d' xs) (length d + 0) ≡ f (lookup d) y = table_keeps xs d' (length d + 0) (omega (arith, length-append d (f (lookup d) y ∷ []))) ∙ ap (lookup d') (omega arith) ∙ look_end d (f (lookup d) y) in
      record { before = d; many = omega arith; made = subst (λ (w : R). Is (f (lookup d) w)) (some_inj y x e) (h.0, sym z ∙ h.1) }
  table_entry (y ∷ xs) d (suc j) x e h =
      let d' : List (Option A) = d ++ (f (lookup d) y ∷ []) in
      let g : length d + suc j ≡ length d' + j = omega (arith, length-append d (f (lookup d) y ∷ [])) in
      let z = table_entry xs d' j x e (subst (λ (k : ℕ). Is (lookup (tabulate f d' xs) k)) g h) in
      record { before = z.before; many = z.many ∙ sym g; made = z.made }

-- ---- what 4 leaves

module _ (script : List ℕ) (m : Arena) where
  node_children : (k : ℕ) (x : Node) → nth m.nodes k ≡ some x → Is (node_shape_at script m k) → (before : List (Option Shape)) × (length before ≡ k) × Children (env script m.cells (type_shape_at script m) (lookup before)) (children_of m.cells x)
  unfolding node_shape_at node_in
  node_children k x e h =
      let z = table_entry (node_in script m) m.nodes [] k x e (subst (λ (i : ℕ). Is (lookup (tabulate (node_in script m) [] m.nodes) i)) (zero-plus k) h) in
      (z.before, z.many ∙ omega arith, shaped_children (env script m.cells (type_shape_at script m) (lookup z.before)) x z.made)
    where
      zero-plus : (n : ℕ) → n ≡ 0 + n
      zero-plus n = omega arith

  type_children : (k : ℕ) (x : TypeExpr) → nth m.types k ≡ some x → Is (type_shape_at script m k) → (before : List (Option TypeShape)) × (length before ≡ k) × Children (env script m.cells (lookup before) (λ i. none)) (inner_of m.cells x)
  unfolding type_shape_at type_in
  type_children k x e h =
      let z = table_entry (type_in script m) m.types [] k x e (subst (λ (i : ℕ). Is (lookup (tabulate (type_in script m) [] m.types) i)) (zero-plus k) h) in
      (z.before, z.many ∙ omega arith, shaped_inner (env script m.cells (lookup z.before) (λ i. none)) x z.made)
    where
      zero-plus : (n : ℕ) → n ≡ 0 + n
      zero-plus n = omega arith

-- ---- all children are found

all_of-found : {R : Type 0} (f : R → Option (List Child)) (xs : List R) → ((k : ℕ) (x : R) → nth xs k ≡ some x → Is (f x)) → Is (all_of f xs)
unfolding all_of nth map₂ map₁
all_of-found f [] h = ([], refl)
all_of-found f (x ∷ xs) h =
    let a = h 0 x refl in
    let b = all_of-found f xs (λ k y e. h (suc k) y e) in
    (a.0 ++ b.0, rw (a.1, b.1) refl)

pub nth-below : {R : Type 0} (xs : List R) (k : ℕ) (x : R) → nth xs k ≡ some x → k < length xs
unfolding nth
nth-below [] k x e = none≢some x e
nth-below (y ∷ xs) zero x e = omega arith
nth-below (y ∷ xs) (suc k) x e = let z = nth-below xs k x e in omega arith

-- a child among those that have shapes has one
module _ (script cells : List ℕ) (ty : ℕ → Option TypeShape) (nd : ℕ → Option Shape) where
  among : (i : ℕ) (cs : List Child) → Shaped (env script cells ty nd) cs → 0 < times (a_node i) cs → Is (nd i)
  unfolding times same
  among i [] h l = absurd (omega arith)
  among i (a_type j ∷ cs) h l = among i cs h.1 (omega arith)
  among i (a_node k ∷ cs) h l = go (among i cs h.1) (eqb i k) refl l
    where
      go : (0 < times (a_node i) cs → Is (nd i)) → (b : Bool) → eqb i k ≡ b → 0 < elim b as (λ b'. ℕ) [ true ↦ 1 | false ↦ 0 ] + times (a_node i) cs → Is (nd i)
      go ih true p q = subst (λ (n : ℕ). Is (nd n)) (sym (eqb→eq i k (rw p tt))) h.0
      go ih false p q = ih (omega (arith, q))

module _ (script : List ℕ) (t : Tree) (a : AllShaped script t.arena) where
  abbrev arena : Arena
  arena = t.arena

  found_all : Is (occurrences t)
  unfolding occurrences map₁ map₂
  found_all =
      let n = all_of-found (children_of arena.cells) arena.nodes (λ k x e. let z = (node_children script arena k x e (a.nodes k (nth-below arena.nodes k x e))).2 in (z.names, z.are)) in
      let y = all_of-found (inner_of arena.cells) arena.types (λ k x e. let z = (type_children script arena k x e (a.types k (nth-below arena.types k x e))).2 in (z.names, z.are)) in
      (map a_node t.roots ++ (n.0 ++ y.0), rw (n.1, y.1) refl)

  falls : (k i : ℕ) (cs : List Child) → children_at arena k ≡ some cs → 0 < times (a_node i) cs → i < k
  unfolding children_at and_then
  falls k i cs e l = go (nth arena.nodes k) refl e
    where
      go : (o : Option Node) → nth arena.nodes k ≡ o → and_then o (children_of arena.cells) ≡ some cs → i < k
      go none p q = none≢some cs q
      go (some x) p q =
          let z = node_children script arena k x p (a.nodes k (nth-below arena.nodes k x p)) in
          let s : Shaped (env script arena.cells (type_shape_at script arena) (lookup z.0)) cs = subst (Shaped (env script arena.cells (type_shape_at script arena) (lookup z.0))) (some_inj z.2.names cs (sym z.2.are ∙ q)) z.2.shaped in
          let b = look_inside z.0 i (among script arena.cells (type_shape_at script arena) (lookup z.0) i cs s l) in
          omega (arith, z.1, b)

-- ---- the tests

some_is : {A : Type 0} (o : Option A) → is_some o ≡ true → Is o
unfolding is_some
some_is none e = absurd (subst T (sym e) tt)
some_is (some a) e = (a, refl)

is_some_lem : {A : Type 0} (o : Option A) → Is o → is_some o ≡ true
unfolding is_some
is_some_lem none h = none≢some h.0 h.1
is_some_lem (some a) h = refl

if-true : {A : Type 0} (b : Bool) (x y : A) → b ≡ true → elim b as (λ b'. A) [ true ↦ x | false ↦ y ] ≡ x
if-true true x y e = refl
if-true false x y e = absurd (subst T (sym e) tt)

module _ (script : List ℕ) (t : Tree) where
  pub sound_shaped : sound script t ≡ true → AllShaped script t.arena
  unfolding sound
  sound_shaped e = by_types_lem (all_below (length t.arena.types) (λ j. is_some (type_shape_at script t.arena j))) refl e
    where
      by_nodes_lem : (b : Bool) → all_below (length t.arena.nodes) (λ i. is_some (node_shape_at script t.arena i)) ≡ b → all_below (length t.arena.types) (λ j. is_some (type_shape_at script t.arena j)) ≡ true → elim b as (λ b'. Bool) [ true ↦ is_some (shape_of script t) | false ↦ false ] ≡ true → AllShaped script t.arena
      by_nodes_lem true p q r = record {
        nodes = λ i h. some_is (node_shape_at script t.arena i) (all-below (length t.arena.nodes) (λ i. is_some (node_shape_at script t.arena i)) p i h);
        types = λ j h. some_is (type_shape_at script t.arena j) (all-below (length t.arena.types) (λ j. is_some (type_shape_at script t.arena j)) q j h);
      }
      by_nodes_lem false p q r = absurd (subst T (sym r) tt)

      by_types_lem : (b : Bool) → all_below (length t.arena.types) (λ j. is_some (type_shape_at script t.arena j)) ≡ b → elim b as (λ b'. Bool) [ true ↦ elim (all_below (length t.arena.nodes) (λ i. is_some (node_shape_at script t.arena i))) as (λ b'. Bool) [ true ↦ is_some (shape_of script t) | false ↦ false ] | false ↦ false ] ≡ true → AllShaped script t.arena
      by_types_lem true p r = by_nodes_lem (all_below (length t.arena.nodes) (λ i. is_some (node_shape_at script t.arena i))) refl p r
      by_types_lem false p r = absurd (subst T (sym r) tt)

  pub shaped_sound : AllShaped script t.arena → Is (shape_of script t) → sound script t ≡ true
  unfolding sound
  shaped_sound a h =
      if-true _ _ false (below_all (length t.arena.types) (λ j. is_some (type_shape_at script t.arena j)) (λ j l. is_some_lem _ (a.types j l)))
      ∙ if-true _ _ false (below_all (length t.arena.nodes) (λ i. is_some (node_shape_at script t.arena i)) (λ i l. is_some_lem _ (a.nodes i l)))
      ∙ is_some_lem (shape_of script t) h

  -- what passes both tests
  pub sole : sound script t ≡ true → once_each t ≡ true → Sole t
  unfolding once_each
  sole s o =
      let a = sound_shaped s in
      let f = found_all script t a in
      record {
        all = f.0;
        found = f.1;
        nodes_fall = falls script t a;
        once = λ i h. leb→le _ _ (to_T (all-below (length t.arena.nodes) (λ i. leb (times (a_node i) f.0) 1) (once_in (occurrences t) f.0 f.1 o) i h));
      }
    where
      to_T : {b : Bool} → b ≡ true → T b
      to_T e = subst T (sym e) tt

      once_in : (x : Option (List Child)) (all : List Child) → x ≡ some all → elim x as (λ x'. Bool) [ none ↦ false | some cs ↦ all_below (length t.arena.nodes) (λ i. leb (times (a_node i) cs) 1) ] ≡ true → all_below (length t.arena.nodes) (λ i. leb (times (a_node i) all) 1) ≡ true
      once_in x all e h = subst (λ (y : Option (List Child)). elim y as (λ x'. Bool) [ none ↦ false | some cs ↦ all_below (length t.arena.nodes) (λ i. leb (times (a_node i) cs) 1) ] ≡ true) e h

  -- a tree that a reading returns is not turned away
  pub not_turned_away : Once t → AllShaped script t.arena → Is (shape_of script t) → turned_away script t ≡ 0
  unfolding turned_away once_each
  not_turned_away l a h = if-true _ _ 4 (shaped_sound a h) ∙ if-true _ 0 45 (once_in (occurrences t) l.found)
    where
      once_in : (x : Option (List Child)) → x ≡ some l.all → elim x as (λ x'. Bool) [ none ↦ false | some cs ↦ all_below (length t.arena.nodes) (λ i. leb (times (a_node i) cs) 1) ] ≡ true
      once_in x e = subst (λ (y : Option (List Child)). elim y as (λ x'. Bool) [ none ↦ false | some cs ↦ all_below (length t.arena.nodes) (λ i. leb (times (a_node i) cs) 1) ] ≡ true) (sym e) (below_all (length t.arena.nodes) _ (λ i b. yes_true (leb (times (a_node i) l.all) 1) (le→leb (times (a_node i) l.all) 1 (l.nodes i))))

  -- nor is it on the way back, once it is moved to the wide form
  pub not_turned_back : (xs : List ℕ) → length xs ≡ node_width * length t.arena.nodes → turned_away script t ≡ 0 → turned_back script t (widened (parent_of t.arena) 0 (length t.arena.nodes) xs) ≡ 0
  unfolding turned_back
  not_turned_back xs e z = go (turned_away script t) z (right_parents (parent_of t.arena) 0 (length t.arena.nodes) _ (widened-right (parent_of t.arena) 0 (length t.arena.nodes) xs e))
    where
      go : {b : Bool} (n : ℕ) → n ≡ 0 → b ≡ true → ◌≡◌ {A = ℕ} (elim n as (λ n'. ℕ) [ zero ↦ elim b as (λ b'. ℕ) [ true ↦ 0 | false ↦ 45 ] | suc k ↦ suc k ]) 0
      go {b} zero h p = if-true b 0 45 p
      go (suc k) h p = h

  -- what is not turned away on the way back
  pub right-back : (ys : List ℕ) → turned_back script t ys ≡ 0 → (turned_away script t ≡ 0) × ParentsRight (parent_of t.arena) 0 (length t.arena.nodes) ys
  unfolding turned_back
  right-back ys e = go (turned_away script t) (parents_right (parent_of t.arena) 0 (length t.arena.nodes) ys) refl e
    where
      go : (n : ℕ) (b : Bool) → parents_right (parent_of t.arena) 0 (length t.arena.nodes) ys ≡ b → ◌≡◌ {A = ℕ} (elim n as (λ n'. ℕ) [ zero ↦ elim b as (λ b'. ℕ) [ true ↦ 0 | false ↦ 45 ] | suc k ↦ suc k ]) 0 → (n ≡ 0) × ParentsRight (parent_of t.arena) 0 (length t.arena.nodes) ys
      go zero true p h = (refl, parents_right_lem (parent_of t.arena) 0 (length t.arena.nodes) ys p)
      go zero false p h = absurd (omega (arith, h))
      go (suc k) b p h = absurd (omega (arith, h))

  -- either journey followed by the other restores every used cell
  pub there_back : (xs : List ℕ) → length xs ≡ node_width * length t.arena.nodes → turned_away script t ≡ 0
      → (turned_back script t (widened (parent_of t.arena) 0 (length t.arena.nodes) xs) ≡ 0) × (narrowed (length t.arena.nodes) (widened (parent_of t.arena) 0 (length t.arena.nodes) xs) ≡ xs)
  there_back xs e z = (not_turned_back xs e z, there_and_back (parent_of t.arena) 0 (length t.arena.nodes) xs e)

  pub back_there : (ys : List ℕ) → length ys ≡ wide_width * length t.arena.nodes → turned_back script t ys ≡ 0
      → (turned_away script t ≡ 0) × (widened (parent_of t.arena) 0 (length t.arena.nodes) (narrowed (length t.arena.nodes) ys) ≡ ys)
  back_there ys e z = let r = right-back ys z in (r.0, back_and_there (parent_of t.arena) 0 (length t.arena.nodes) ys e r.1)

-- both modes
module _ (power : ℕ → Option ℕ) (eof : power k_eof ≡ none) (script : List ℕ) (tree : Tree) where
  pub strict-moves : parse power script ≡ read tree [] → turned_away script tree ≡ 0
  strict-moves e = not_turned_away script tree (parse_law power eof script tree e).once (all_shaped power eof script tree e) (shaped power eof script tree e)

  pub collecting-moves : (es : List Diagnostic) → parse_collect power script ≡ read tree es → turned_away script tree ≡ 0
  collecting-moves es e = not_turned_away script tree (parse_collect_law power eof script tree es e).once (all_shaped_collect power eof script tree es e) (shaped_collect power eof script tree es e)
