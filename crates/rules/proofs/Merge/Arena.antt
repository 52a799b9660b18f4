-- An arena and what it becomes behind another one: how the two stay related while records and lists
-- are added to both.
use mathlib.Core.Path.{◌≡◌, refl, sym, ap, ap₂, ◌∙◌, subst}
use mathlib.Core.Bool.{Bool, true, false}
use mathlib.Core.Logic.{◌⊎◌, inl, inr, ⊎_elim}
use mathlib.Core.List.Memᴰ
use mathlib.Core.List.{List, [], ◌∷◌, ◌++◌, map, flatten, append_assoc, append-nil, map-append, Memᴰ}
use Prim.Native.Nat.{ℕ, suc, ◌+◌, ◌-◌, ◌≤◌, ◌<◌}
use native.Mathlib.Nat.{zero-add}
use native.Mathlib.Omega.{arith}
use lib.Dec.{leb, ltb}
use borrow.Author.Tests.{ltb-true, ltb-false, leb-true, leb-false}
use lib.ListN.{length, length-append, get_or, replicate, get_or-append}
use lib.Seq.{get_or-append-add}
use Rattle.rules.specs.Tree.{Arena}
use Rattle.rules.specs.Merge.{Offsets, behind, moved_node, moved_type, Role, node_number, added, moved_by, Held, roles_of, held_by_node, held_by_type, held_in, covers, role_in, moved_cells}
use Rattle.ast.specs.declared.Node.{Node}
use Rattle.ast.specs.declared.TypeExpr.{TypeExpr}

-- ---- lists of cells

pub moved_by-append : (o : Offsets) (rs rs' : List Role) (cs cs' : List ℕ) → length rs ≡ length cs → moved_by o (rs ++ rs') (cs ++ cs') ≡ moved_by o rs cs ++ moved_by o rs' cs'
unfolding moved_by
moved_by-append o [] rs' [] cs' h = refl
moved_by-append o [] rs' (c ∷ cs) cs' h = absurd (omega arith)
moved_by-append o (r ∷ rs) rs' [] cs' h = absurd (omega arith)
moved_by-append o (r ∷ rs) rs' (c ∷ cs) cs' h = ap {B = List ℕ} (λ z. (added o r + c) ∷ z) (moved_by-append o rs rs' cs cs' (omega arith))

-- the members of two lists, the cells of each as `form` has them, the second's moved
pub data AllLike (o : Offsets) (form : List Role) : List (List ℕ) → List (List ℕ) → Type 0 where
  like[] : AllLike o form [] []
  like∷ : {x x' : List ℕ} {xs xs' : List (List ℕ)} → length form ≡ length x → x' ≡ moved_by o form x → AllLike o form xs xs' → AllLike o form (x ∷ xs) (x' ∷ xs')

pub like_snoc : {o : Offsets} {form : List Role} {xs xs' : List (List ℕ)} (x x' : List ℕ) → AllLike o form xs xs' → length form ≡ length x → x' ≡ moved_by o form x → AllLike o form (xs ++ (x ∷ [])) (xs' ++ (x' ∷ []))
like_snoc x x' like[] h e = like∷ h e like[]
like_snoc x x' (like∷ k d l) h e = like∷ k d (like_snoc x x' l h e)

pub like_length : {o : Offsets} {form : List Role} {xs xs' : List (List ℕ)} → AllLike o form xs xs' → length xs' ≡ length xs
like_length like[] = refl
like_length (like∷ k d l) = ap suc (like_length l)

pub like_even : {o : Offsets} {form : List Role} {xs xs' : List (List ℕ)} → AllLike o form xs xs' → length (flatten (replicate (length xs) form)) ≡ length (flatten xs)
unfolding flatten
like_even like[] = refl
like_even {form} (like∷ {x} {xs} k d l) = length-append form (flatten (replicate (length xs) form)) ∙ ap₂ ◌+◌ k (like_even l) ∙ sym (length-append x (flatten xs))

pub like_moved : {o : Offsets} {form : List Role} {xs xs' : List (List ℕ)} → AllLike o form xs xs' → flatten xs' ≡ moved_by o (flatten (replicate (length xs) form)) (flatten xs)
unfolding flatten moved_by
like_moved like[] = refl
like_moved {o} {form} (like∷ {x} {xs} k d l) = ap₂ {C = List ℕ} ◌++◌ d (like_moved l) ∙ sym (moved_by-append o form (flatten (replicate (length xs) form)) x (flatten xs) k)

pub flatten_snoc : {A : Type 0} (xs : List (List A)) (x : List A) → flatten (xs ++ (x ∷ [])) ≡ flatten xs ++ x
unfolding flatten
flatten_snoc [] x = append-nil x
flatten_snoc (y ∷ ys) x = ap (λ (z : List _). y ++ z) (flatten_snoc ys x) ∙ sym (append_assoc y (flatten ys) x)

-- ---- what lists the records hold, and what the cells say

-- a list whose cells are as it says
pub record Fits (roles : List Role) (h : Held) : Type 0 where
  pub within : h.run.start + length (roles_of h) ≤ length roles
  pub same : (k : ℕ) → k < length (roles_of h) → get_or roles (h.run.start + k) node_number ≡ get_or (roles_of h) k node_number

-- held by a node, by a type, or waiting for its record
pub data Among (ns ts ws : List Held) (h : Held) : Type 0 where
  by_node : Memᴰ h ns → Among ns ts ws h
  by_type : Memᴰ h ts → Among ns ts ws h
  waits : Memᴰ h ws → Among ns ts ws h

-- a cell that is a node number, or one of a list's
pub data Known (roles : List Role) (ns ts ws : List Held) (i : ℕ) : Type 0 where
  is_node : get_or roles i node_number ≡ node_number → Known roles ns ts ws i
  held : (h : Held) → Among ns ts ws h → h.run.start ≤ i → i < h.run.start + length (roles_of h) → Known roles ns ts ws i

pub known_map : {roles : List Role} {ns ts ws ns' ts' ws' : List Held} {i : ℕ} → ((h : Held) → Among ns ts ws h → Among ns' ts' ws' h) → Known roles ns ts ws i → Known roles ns' ts' ws' i
known_map f (is_node e) = is_node e
known_map f (held h a l u) = held h (f h a) l u

abbrev pub types_hold : List TypeExpr → List Held
types_hold ts = flatten (map held_by_type ts)

abbrev pub nodes_hold : List ℕ → List Node → List Held
nodes_hold cells ns = flatten (map (held_by_node cells) ns)

nodes_hold_snoc : (cells : List ℕ) (ns : List Node) (x : Node) → nodes_hold cells (ns ++ (x ∷ [])) ≡ nodes_hold cells ns ++ held_by_node cells x
nodes_hold_snoc cells ns x = ap flatten (map-append (held_by_node cells) ns (x ∷ [])) ∙ flatten_snoc (map (held_by_node cells) ns) (held_by_node cells x)

types_hold_snoc : (ts : List TypeExpr) (x : TypeExpr) → types_hold (ts ++ (x ∷ [])) ≡ types_hold ts ++ held_by_type x
types_hold_snoc ts x = ap flatten (map-append held_by_type ts (x ∷ [])) ∙ flatten_snoc (map held_by_type ts) (held_by_type x)

-- ---- the relation

-- a list that goes behind the cells that are there, and what its cells say
abbrev pub list_at : List Role → List ℕ → List (List ℕ) → Held
list_at form cells xs = record { member = form; run = record { start = length cells; len = length xs } }

abbrev pub new_roles : List Role → List (List ℕ) → List Role
new_roles form xs = flatten (replicate (length xs) form)

module _ (n : ℕ) (pre : Arena) where
  abbrev pub off : Offsets
  off = behind n pre

  -- `m'` is `m` behind `pre`; the lists `ws` wait for their records
  pub record Moved (ws : List Held) (m m' : Arena) : Type 0 where
    pub nodes : m'.nodes ≡ pre.nodes ++ map (moved_node off) m.nodes
    pub types : m'.types ≡ pre.types ++ map (moved_type off) m.types
    pub values : m'.values ≡ pre.values + m.values
    pub roles : List Role
    pub even : length roles ≡ length m.cells
    pub cells : m'.cells ≡ pre.cells ++ moved_by off roles m.cells
    pub node_held : List Held
    pub stable : (more : List ℕ) → nodes_hold (m.cells ++ more) m.nodes ≡ node_held
    pub fits : (h : Held) → Among node_held (types_hold m.types) ws h → Fits roles h
    pub known : (i : ℕ) → i < length roles → Known roles node_held (types_hold m.types) ws i

  module _ {m m' : Arena} where
    -- the order in which lists wait plays no part
    pub reorder : {ws ws' : List Held} → Moved ws m m' → ((h : Held) → Memᴰ h ws → Memᴰ h ws') → ((h : Held) → Memᴰ h ws' → Memᴰ h ws) → Moved ws' m m'
    reorder {ws} {ws'} q to back = record {
      nodes = q.nodes;
      types = q.types;
      values = q.values;
      roles = q.roles;
      even = q.even;
      cells = q.cells;
      node_held = q.node_held;
      stable = q.stable;
      fits = λ h a. q.fits h (from h a);
      known = λ i l. known_map onto (q.known i l);
    }
      where
        from : (h : Held) → Among q.node_held (types_hold m.types) ws' h → Among q.node_held (types_hold m.types) ws h
        from h (by_node x) = by_node x
        from h (by_type x) = by_type x
        from h (waits x) = waits (back h x)

        onto : (h : Held) → Among q.node_held (types_hold m.types) ws h → Among q.node_held (types_hold m.types) ws' h
        onto h (by_node x) = by_node x
        onto h (by_type x) = by_type x
        onto h (waits x) = waits (to h x)

    -- a list of nodes need not wait
    pub release : {w : Held} {ws : List Held} → Moved (w ∷ ws) m m' → ((k : ℕ) → get_or (roles_of w) k node_number ≡ node_number) → Moved ws m m'
    release {w} {ws} q plain = record {
      nodes = q.nodes;
      types = q.types;
      values = q.values;
      roles = q.roles;
      even = q.even;
      cells = q.cells;
      node_held = q.node_held;
      stable = q.stable;
      fits = λ h a. q.fits h (from h a);
      known = λ i l. again i (q.known i l);
    }
      where
        from : (h : Held) → Among q.node_held (types_hold m.types) ws h → Among q.node_held (types_hold m.types) (w ∷ ws) h
        from h (by_node x) = by_node x
        from h (by_type x) = by_type x
        from h (waits x) = waits (Memᴰ.tail x)

        number : (i : ℕ) (h : Held) → h ≡ w → h.run.start ≤ i → i < h.run.start + length (roles_of h) → get_or q.roles i node_number ≡ node_number
        number i h e l u =
            let f = q.fits h (waits (Memᴰ.head e)) in
            ap (λ (k : ℕ). get_or q.roles k node_number) (omega arith) ∙ f.same (i - h.run.start) (omega arith) ∙ ap (λ (x : Held). get_or (roles_of x) (i - h.run.start) node_number) e ∙ plain (i - h.run.start)

        again : (i : ℕ) → Known q.roles q.node_held (types_hold m.types) (w ∷ ws) i → Known q.roles q.node_held (types_hold m.types) ws i
        again i (is_node e) = is_node e
        again i (held h (by_node x) l u) = held h (by_node x) l u
        again i (held h (by_type x) l u) = held h (by_type x) l u
        again i (held h (waits x) l u) = ⊎_elim (λ e. is_node (number i h e l u)) (λ y. held h (waits y) l u) (Memᴰ.cases_cons x)

    -- a node takes the lists that it holds
    pub push_node_lem : {hs ws : List Held} → Moved (hs ++ ws) m m' → (x x' : Node) → ((more : List ℕ) → held_by_node (m.cells ++ more) x ≡ hs) → x' ≡ moved_node off x → (v v' : ℕ) → v' ≡ pre.values + v
        → Moved ws (record { nodes = m.nodes ++ (x ∷ []); types = m.types; cells = m.cells; values = v }) (record { nodes = m'.nodes ++ (x' ∷ []); types = m'.types; cells = m'.cells; values = v' })
    push_node_lem {hs} {ws} q x x' holds e v v' w = record {
      nodes = ap₂ (λ (a : List Node) (b : Node). a ++ (b ∷ [])) q.nodes e ∙ append_assoc pre.nodes (map (moved_node off) m.nodes) (moved_node off x ∷ []) ∙ ap (λ (a : List Node). pre.nodes ++ a) (sym (map-append (moved_node off) m.nodes (x ∷ [])));
      types = q.types;
      values = w;
      roles = q.roles;
      even = q.even;
      cells = q.cells;
      node_held = q.node_held ++ hs;
      stable = λ more. nodes_hold_snoc (m.cells ++ more) m.nodes x ∙ ap₂ {C = List Held} ◌++◌ (q.stable more) (holds more);
      fits = λ h a. q.fits h (from h a);
      known = λ i l. known_map onto (q.known i l);
    }
      where
        from : (h : Held) → Among (q.node_held ++ hs) (types_hold m.types) ws h → Among q.node_held (types_hold m.types) (hs ++ ws) h
        from h (by_node z) = ⊎_elim (λ y. by_node y) (λ y. waits (Memᴰ.append_left ws y)) (Memᴰ.append_cases q.node_held z)
        from h (by_type z) = by_type z
        from h (waits z) = waits (Memᴰ.append_right hs z)

        onto : (h : Held) → Among q.node_held (types_hold m.types) (hs ++ ws) h → Among (q.node_held ++ hs) (types_hold m.types) ws h
        onto h (by_node z) = by_node (Memᴰ.append_left hs z)
        onto h (by_type z) = by_type z
        onto h (waits z) = ⊎_elim (λ y. by_node (Memᴰ.append_right q.node_held y)) (λ y. waits y) (Memᴰ.append_cases hs z)

    pub push_type_lem : {hs ws : List Held} → Moved (hs ++ ws) m m' → (x x' : TypeExpr) → held_by_type x ≡ hs → x' ≡ moved_type off x
        → Moved ws (record { nodes = m.nodes; types = m.types ++ (x ∷ []); cells = m.cells; values = m.values }) (record { nodes = m'.nodes; types = m'.types ++ (x' ∷ []); cells = m'.cells; values = m'.values })
    push_type_lem {hs} {ws} q x x' holds e = record {
      nodes = q.nodes;
      types = ap₂ (λ (a : List TypeExpr) (b : TypeExpr). a ++ (b ∷ [])) q.types e ∙ append_assoc pre.types (map (moved_type off) m.types) (moved_type off x ∷ []) ∙ ap (λ (a : List TypeExpr). pre.types ++ a) (sym (map-append (moved_type off) m.types (x ∷ [])));
      values = q.values;
      roles = q.roles;
      even = q.even;
      cells = q.cells;
      node_held = q.node_held;
      stable = q.stable;
      fits = λ h a. q.fits h (from h (subst (λ (z : List Held). Among q.node_held z ws h) all a));
      known = λ i l. subst (λ (z : List Held). Known q.roles q.node_held z ws i) (sym all) (known_map onto (q.known i l));
    }
      where
        all : types_hold (m.types ++ (x ∷ [])) ≡ types_hold m.types ++ hs
        all = types_hold_snoc m.types x ∙ ap (λ (z : List Held). types_hold m.types ++ z) holds

        from : (h : Held) → Among q.node_held (types_hold m.types ++ hs) ws h → Among q.node_held (types_hold m.types) (hs ++ ws) h
        from h (by_node z) = by_node z
        from h (by_type z) = ⊎_elim (λ y. by_type y) (λ y. waits (Memᴰ.append_left ws y)) (Memᴰ.append_cases (types_hold m.types) z)
        from h (waits z) = waits (Memᴰ.append_right hs z)

        onto : (h : Held) → Among q.node_held (types_hold m.types) (hs ++ ws) h → Among q.node_held (types_hold m.types ++ hs) ws h
        onto h (by_node z) = by_node z
        onto h (by_type z) = by_type (Memᴰ.append_left hs z)
        onto h (waits z) = ⊎_elim (λ y. by_type (Memᴰ.append_right (types_hold m.types) y)) (λ y. waits y) (Memᴰ.append_cases hs z)

    -- a finished list waits for its record
    pub push_list : {ws : List Held} → Moved ws m m' → (form : List Role) (xs xs' : List (List ℕ)) → AllLike off form xs xs'
        → Moved (list_at form m.cells xs ∷ ws) (record { nodes = m.nodes; types = m.types; cells = m.cells ++ flatten xs; values = m.values }) (record { nodes = m'.nodes; types = m'.types; cells = m'.cells ++ flatten xs'; values = m'.values })
    unfolding roles_of
    push_list {ws} q form xs xs' l = record {
      nodes = q.nodes;
      types = q.types;
      values = q.values;
      roles = q.roles ++ (new_roles form xs);
      even = length-append q.roles (new_roles form xs) ∙ ap₂ ◌+◌ q.even (like_even l) ∙ sym (length-append m.cells (flatten xs));
      cells = ap₂ {C = List ℕ} ◌++◌ q.cells (like_moved l) ∙ append_assoc pre.cells (moved_by off q.roles m.cells) (moved_by off (new_roles form xs) (flatten xs)) ∙ ap (λ (z : List ℕ). pre.cells ++ z) (sym (moved_by-append off q.roles (new_roles form xs) m.cells (flatten xs) q.even));
      node_held = q.node_held;
      stable = λ more. ap (λ (z : List ℕ). nodes_hold z m.nodes) (append_assoc m.cells (flatten xs) more) ∙ q.stable (flatten xs ++ more);
      fits = λ h a. fit h a;
      known = λ i u. found i u;
    }
      where
        old_fits : (h : Held) → Fits q.roles h → Fits (q.roles ++ (new_roles form xs)) h
        old_fits h f = record { within = omega (arith, f.within, length-append q.roles (new_roles form xs)); same = λ k u. get_or-append q.roles (new_roles form xs) node_number (h.run.start + k) (omega (arith, f.within)) ∙ f.same k u }

        own-fits : Fits (q.roles ++ (new_roles form xs)) (list_at form m.cells xs)
        own-fits = record { within = omega (arith, length-append q.roles (new_roles form xs), q.even); same = λ k u. ap (λ (z : ℕ). get_or (q.roles ++ (new_roles form xs)) (z + k) node_number) (sym q.even) ∙ get_or-append-add q.roles (new_roles form xs) k node_number }

        fit : (h : Held) → Among q.node_held (types_hold m.types) ((list_at form m.cells xs) ∷ ws) h → Fits (q.roles ++ (new_roles form xs)) h
        fit h (by_node z) = old_fits h (q.fits h (by_node z))
        fit h (by_type z) = old_fits h (q.fits h (by_type z))
        fit h (waits z) = ⊎_elim (λ e. subst (Fits (q.roles ++ (new_roles form xs))) (sym e) own-fits) (λ y. old_fits h (q.fits h (waits y))) (Memᴰ.cases_cons z)

        more_known : (i : ℕ) → i < length q.roles → Known q.roles q.node_held (types_hold m.types) ws i → Known (q.roles ++ (new_roles form xs)) q.node_held (types_hold m.types) ((list_at form m.cells xs) ∷ ws) i
        more_known i u (is_node e) = is_node (get_or-append q.roles (new_roles form xs) node_number i u ∙ e)
        more_known i u (held h (by_node z) a b) = held h (by_node z) a b
        more_known i u (held h (by_type z) a b) = held h (by_type z) a b
        more_known i u (held h (waits z) a b) = held h (waits (Memᴰ.tail z)) a b

        found : (i : ℕ) → i < length (q.roles ++ (new_roles form xs)) → Known (q.roles ++ (new_roles form xs)) q.node_held (types_hold m.types) ((list_at form m.cells xs) ∷ ws) i
        found i u = by (ltb i (length q.roles)) refl
          where
            by : (b : Bool) → ltb i (length q.roles) ≡ b → Known (q.roles ++ (new_roles form xs)) q.node_held (types_hold m.types) ((list_at form m.cells xs) ∷ ws) i
            by true e = more_known i (ltb-true i (length q.roles) e) (q.known i (ltb-true i (length q.roles) e))
            by false e = held (list_at form m.cells xs) (waits (Memᴰ.head refl)) (omega (arith, ltb-false i (length q.roles) e, q.even)) (omega (arith, u, length-append q.roles (new_roles form xs), q.even))

-- ---- what the cells say is what the records tell

module _ (roles : List Role) (i : ℕ) where
  fit_role : (h : Held) → Fits roles h → h.run.start ≤ i → i - h.run.start < length (roles_of h) → get_or (roles_of h) (i - h.run.start) node_number ≡ get_or roles i node_number
  fit_role h f l u = sym (f.same (i - h.run.start) u) ∙ ap (λ (k : ℕ). get_or roles k node_number) (omega arith)

  -- node numbers apart, some list has the cell
  abbrev pub Covered : List Held → Type 0
  Covered hs = (get_or roles i node_number ≡ node_number) ⊎ ((x : Held) × Memᴰ x hs × (x.run.start ≤ i) × (i < x.run.start + length (roles_of x)))

  pub role_known : (hs : List Held) → ((h : Held) → Memᴰ h hs → Fits roles h) → Covered hs → role_in hs i ≡ get_or roles i node_number
  unfolding role_in covers
  role_known [] f (inl e) = sym e
  role_known [] f (inr z) = absurd (Memᴰ.not-nil z.1)
  role_known (h ∷ hs) f z = by_start (role_known hs (λ x y. f x (Memᴰ.tail y))) (leb h.run.start i) refl
    where
      here : (h.run.start ≤ i → i - h.run.start < length (roles_of h) → ⊥) → (w : (x : Held) × Memᴰ x (h ∷ hs) × (x.run.start ≤ i) × (i < x.run.start + length (roles_of x))) → w.0 ≡ h → ⊥
      here no' w e = let a = subst (λ (x : Held). x.run.start ≤ i) e w.2 in let b = subst (λ (x : Held). i < x.run.start + length (roles_of x)) e w.3 in no' a (omega arith)

      others : (h.run.start ≤ i → i - h.run.start < length (roles_of h) → ⊥) → Covered hs
      others no' = ⊎_elim inl (λ w. ⊎_elim (λ e. absurd (here no' w e)) (λ y. inr (w.0, y, w.2, w.3)) (Memᴰ.cases_cons w.1)) z

      by_end : (Covered hs → role_in hs i ≡ get_or roles i node_number) → h.run.start ≤ i → (b : Bool) → ltb (i - h.run.start) (length (roles_of h)) ≡ b
          → elim b as (λ b'. Role) [ true ↦ get_or (roles_of h) (i - h.run.start) node_number | false ↦ role_in hs i ] ≡ get_or roles i node_number
      by_end ih l true e = fit_role h (f h (Memᴰ.head refl)) l (ltb-true _ _ e)
      by_end ih l false e = ih (others (λ a b. omega (arith, ltb-false (i - h.run.start) (length (roles_of h)) e)))

      by_start : (Covered hs → role_in hs i ≡ get_or roles i node_number) → (b : Bool) → leb h.run.start i ≡ b
          → elim (elim b as (λ b'. Bool) [ true ↦ ltb (i - h.run.start) (length (roles_of h)) | false ↦ false ]) as (λ b'. Role) [ true ↦ get_or (roles_of h) (i - h.run.start) node_number | false ↦ role_in hs i ] ≡ get_or roles i node_number
      by_start ih true e = by_end ih (leb-true _ _ e) (ltb (i - h.run.start) (length (roles_of h))) refl
      by_start ih false e = ih (others (λ a b. omega (arith, leb-false h.run.start i e)))

-- cells from `i` on, moved by what all lists say
cells_by : (o : Offsets) (hs : List Held) (roles : List Role) (cs : List ℕ) (i : ℕ) → length roles ≡ length cs → ((k : ℕ) → k < length roles → role_in hs (i + k) ≡ get_or roles k node_number) → moved_cells o hs i cs ≡ moved_by o roles cs
unfolding moved_cells moved_by
cells_by o hs [] [] i h f = refl
cells_by o hs [] (c ∷ cs) i h f = absurd (omega arith)
cells_by o hs (r ∷ rs) [] i h f = absurd (omega arith)
cells_by o hs (r ∷ rs) (c ∷ cs) i h f =
    ap₂ {C = List ℕ} (λ (x : Role) (z : List ℕ). (added o x + c) ∷ z) (ap (role_in hs) (omega arith) ∙ f 0 (omega arith))
    (cells_by o hs rs cs (suc i) (omega arith) (λ k u. ap (role_in hs) (omega arith) ∙ f (suc k) (omega arith)))

-- what every cell says: each list that a record holds lies among the cells and has its own there,
-- and all other cells are node numbers
pub record CellsKnown (m : Arena) : Type 0 where
  pub roles : List Role
  pub even : length roles ≡ length m.cells
  pub fits : (h : Held) → Memᴰ h (held_in m) → Fits roles h
  pub known : (i : ℕ) → i < length roles → Covered roles i (held_in m)

-- the cells moved by any list of these lists, in whatever order
pub cells_moved : (m : Arena) (k : CellsKnown m) (o : Offsets) (hs : List Held) → ((h : Held) → Memᴰ h hs → Memᴰ h (held_in m)) → ((h : Held) → Memᴰ h (held_in m) → Memᴰ h hs) → moved_cells o hs 0 m.cells ≡ moved_by o k.roles m.cells
cells_moved m k o hs to back = cells_by o hs k.roles m.cells 0 k.even (λ i u. ap (role_in hs) (zero-add i) ∙ role_known k.roles i hs (λ h z. k.fits h (to h z)) (⊎_elim inl (λ w. inr (w.0, back w.0 w.1, w.2, w.3)) (k.known i u)))

-- so the order in which the lists are gone through plays no part
pub any_order : (m : Arena) → CellsKnown m → (o : Offsets) (hs : List Held) → ((h : Held) → Memᴰ h hs → Memᴰ h (held_in m)) → ((h : Held) → Memᴰ h (held_in m) → Memᴰ h hs) → moved_cells o hs 0 m.cells ≡ moved_cells o (held_in m) 0 m.cells
any_order m k o hs to back = cells_moved m k o hs to back ∙ sym (cells_moved m k o (held_in m) (λ h z. z) (λ h z. z))

module _ (n : ℕ) (pre : Arena) where
  -- no list waits
  pub moved_known : (m m' : Arena) → Moved n pre [] m m' → CellsKnown m
  unfolding held_in
  moved_known m m' q = record { roles = q.roles; even = q.even; fits = λ h z. q.fits h (among h z); known = λ i u. reach i (q.known i u) }
    where
      holds : nodes_hold m.cells m.nodes ≡ q.node_held
      holds = ap (λ (z : List ℕ). nodes_hold z m.nodes) (sym (append-nil m.cells)) ∙ q.stable []

      among : (h : Held) → Memᴰ h (held_in m) → Among q.node_held (types_hold m.types) [] h
      among h z = ⊎_elim (λ y. by_node (subst (Memᴰ h) holds y)) (λ y. by_type y) (Memᴰ.append_cases (nodes_hold m.cells m.nodes) z)

      back : (h : Held) → Among q.node_held (types_hold m.types) [] h → Memᴰ h (held_in m)
      back h (by_node z) = Memᴰ.append_left (types_hold m.types) (subst (Memᴰ h) (sym holds) z)
      back h (by_type z) = Memᴰ.append_right (nodes_hold m.cells m.nodes) z
      back h (waits z) = absurd (Memᴰ.not-nil z)

      reach : (i : ℕ) → Known q.roles q.node_held (types_hold m.types) [] i → Covered q.roles i (held_in m)
      reach i (is_node e) = inl e
      reach i (held h a l u) = inr (h, back h a, l, u)

  -- the cells are those of the merged arena
  pub moved_cells_lem : (m m' : Arena) → Moved n pre [] m m' → m'.cells ≡ pre.cells ++ moved_cells (behind n pre) (held_in m) 0 m.cells
  unfolding moved_known
  moved_cells_lem m m' q = q.cells ∙ ap (λ (z : List ℕ). pre.cells ++ z) (sym (cells_moved m (moved_known m m' q) (behind n pre) (held_in m) (λ h z. z) (λ h z. z)))
