-- The law for every tree that a reading returns.
use mathlib.Core.Path.{◌≡◌, refl, sym, ap, ◌∙◌, subst}
use mathlib.Core.Bool.{Bool, true, false}
use mathlib.Core.Option.{Option, none, some}
use mathlib.Core.List.{List, [], ◌∷◌, ◌++◌, map, map-append, append_assoc, append-nil}
use Prim.Native.Nat.{ℕ, zero, suc, ◌+◌, ◌≤◌, ◌<◌}
use lib.Dec.{eqb, ltb}
use lib.ListN.{length}
use native.Mathlib.Omega.{arith}
use Rattle.lex.specs.Kind.{k_eof}
use Rattle.lex.specs.Lex.{Occurrence, cut, faults_of}
use Rattle.lex.specs.declared.diagnostic.Diagnostic.{Diagnostic}
use Rattle.rules.specs.Tree.{Arena, State, Result, ok, err, Tree}
use Rattle.rules.specs.Combinators as R
use Rattle.rules.specs.Combinators.{with_docs, ControlFlow, continue}
use Rattle.rules.specs.Rules.{readers, max_levels, stage_one}
use Rattle.rules.specs.Parse.{Reading, read, ended, begin, synchronize_root, Gathered, merged, recover, parse, parse_roots, parse_collect, parse_roots_collect}
use Rattle.lex.specs.Answer.{max_bytes}
use Rattle.rules.specs.Promise.{Arrays, too_short, holding, Outcome, outcome, promised, numbers_of}
use Rattle.rules.specs.Parsed as P
use Rattle.ast.specs.Lists.{map₁, map₂, and_then}
use Rattle.rules.specs.Law.{Child, a_node, a_type, children_of, inner_of, times, all_of, occurrences, nth, children_at, inner_at, all_arguments, resynchronisings, Rising, Below, Law, TreeLaw}
use Rattle.ast.specs.declared.NodeId.{NodeId}
use Rattle.rules.proofs.Results.{Ends, holds, fails, weaken_both, ended-ok, if_kind-ok, table_ok, entry-ok, other_ok, bind_ok, then_ok, pure-ok, flow_value, loop-ok}
use Rattle.rules.proofs.Unique.Grow.{none≢some, some_inj}
use Rattle.rules.proofs.Counting.Whole.{Bounded, in_bytes, read-tree, ended≢read, parse_bounded}
use Rattle.rules.proofs.Counting.Collect.{Ascending, asc[], asc_snoc, Complete, parse_roots_collect-ends, parse_collect_bounded}
use Rattle.rules.proofs.Numbers.{IsError, parse-error, parse_collect-error}
use Rattle.rules.proofs.Law.Step.{Base, Named, named[], named_snoc, Holding, Held, below_lt, made, made_one, times-append, less, freeze, thaw, advance-holds}
use Rattle.rules.proofs.Law.Rules.{node_child, readers_hold}
use Rattle.rules.proofs.Law.Parents.{split}

-- ---- the roots

-- counted from nothing
abbrev pub nothing : Base
nothing = record { held = 0; cells = [] }

-- the roots are held at the end
abbrev pub RootsHeld : Child → List ℕ → Arena → Type 0
RootsHeld r roots m = Holding r nothing (map a_node roots) m

module _ (r : Child) where
  times-root : (roots : List ℕ) (n : ℕ) → times r (map a_node (roots ++ (n ∷ []))) ≡ times r (a_node n ∷ map a_node roots)
  unfolding times
  times-root roots n = ap (times r) (map-append a_node roots (n ∷ [])) ∙ omega (arith, times-append r (map a_node roots) (a_node n ∷ []))

  begin-held : (script : List ℕ) → RootsHeld r [] (begin script).arena
  unfolding begin times all_arguments
  begin-held script = record { by_nodes = 0; by_types = 0; nodes = named[]; types = named[]; owned = omega arith; values = refl; more = []; grown = refl }

  module _ (power : ℕ → Option ℕ) (script : List ℕ) where
    parse_roots-holds : Ends (λ roots s. RootsHeld r roots s.arena) (λ s. Unit {0}) (parse_roots power script (begin script))
    unfolding parse_roots
    parse_roots-holds = loop-ok (λ roots s. RootsHeld r roots s.arena) _
        (λ roots s q. if_kind-ok k_eof _ _ s (λ e. pure-ok _ s q)
        (bind_ok _ _ s (weaken_both ((readers_hold r power script max_levels).prefix s q) (λ n s₁ z. z) (λ s₁ z. tt)) (λ n s₁ z.
        pure-ok _ s₁ (less z (omega (arith, times-root roots n.0))))))
        [] (begin script) (begin-held script)

    -- ---- collecting

    synchronize_root-holds : {b : Base} {hs : List Child} (s : State) → Held r b hs s → Ends (λ n s'. Held r b hs s') (λ s'. Unit {0}) (synchronize_root s)
    unfolding synchronize_root with_docs
    synchronize_root-holds {b} {hs} s q = loop-ok (λ n s₁. Held r b hs s₁) _
        (λ n s₁ q₁. table_ok _ _ s₁
        (entry-ok _ _ _ _ s₁ (λ e. pure-ok _ s₁ q₁)
        (entry-ok _ _ _ _ s₁ (λ e. pure-ok _ s₁ q₁)
        (entry-ok _ _ _ _ s₁ (λ e. pure-ok _ s₁ q₁)
        (entry-ok _ _ _ _ s₁ (λ e. pure-ok _ s₁ q₁)
        (entry-ok _ _ _ _ s₁ (λ e. pure-ok _ s₁ q₁)
        (entry-ok _ _ _ _ s₁ (λ e. pure-ok _ s₁ q₁)
        (entry-ok _ _ _ _ s₁ (λ e. passes _ s₁ q₁)
        (other_ok _ _ s₁ (passes _ s₁ q₁))))))))))
        0 (with_docs [] s) q
      where
        passes : (t : ControlFlow ℕ) (s₁ : State) → Held r b hs s₁ → Ends (λ x s₂. Held r b hs s₂) (λ s'. Unit {0}) (R.◌>>◌ R.advance (R.pure t) s₁)
        passes t s₁ q₁ = then_ok _ _ s₁ (advance-holds s₁ q₁) (λ x s₂ z. pure-ok _ s₂ z)

    abbrev GatheredHeld : Gathered → State → Type 0
    GatheredHeld g s = RootsHeld r g.roots s.arena

    recover-holds : (g : Gathered) (e : Diagnostic) (s : State) → GatheredHeld g s → Ends (λ t s'. GatheredHeld (flow_value t) s') (λ s'. Unit {0}) (recover power script g e s)
    unfolding recover
    recover-holds g e s q = go _ (eqb e.number 10)
      where
        go : (x : Occurrence) (b : Bool) → Ends (λ t s'. GatheredHeld (flow_value t) s') (λ s'. Unit {0}) (elim b as (λ b'. Result (ControlFlow Gathered)) [ true ↦ err e s | false ↦ (R.◌>>◌ synchronize_root (R.pure (continue (record { roots = g.roots; errors = g.errors ++ (x ∷ []) })))) s ])
        go x true = fails tt
        go x false = then_ok _ _ s (synchronize_root-holds s q) (λ n s₁ z. pure-ok _ s₁ z)

    -- a root that fails leaves orphans, and drops nothing of the roots before it
    parse_roots_collect-holds : Ends GatheredHeld (λ s. Unit {0}) (parse_roots_collect power script (begin script))
    unfolding parse_roots_collect
    parse_roots_collect-holds = loop-ok GatheredHeld _
        (λ g s q. if_kind-ok k_eof _ _ s (λ e. pure-ok _ s q) (go g ((readers power script max_levels).prefix s) ((readers_hold r power script max_levels).prefix s (freeze q))))
        (record { roots = []; errors = [] }) (begin script) (begin-held script)
      where
        go : (g : Gathered) (z : Result NodeId) → Ends (λ n s'. Held r (record { held = 0 + times r (map a_node g.roots); cells = [] }) (node_child n ∷ []) s') (Held r (record { held = 0 + times r (map a_node g.roots); cells = [] }) []) z
            → Ends (λ t s'. GatheredHeld (flow_value t) s') (λ s'. Unit {0}) (elim z as (λ z'. Result (ControlFlow Gathered)) [ ok m s₁ ↦ ok (continue (record { roots = g.roots ++ (m.0 ∷ []); errors = g.errors })) s₁ | err e s₁ ↦ recover power script g e s₁ ])
        go g z (holds {a = n} {s = s₁} q) = ended-ok _ s₁ (less (thaw nothing (map a_node g.roots) q) (omega (arith, ap (times r) (map-append a_node g.roots (n.0 ∷ [])))))
        go g z (fails {e} {s = s₁} q) = recover-holds g e s₁ (less (thaw nothing (map a_node g.roots) q) (omega (arith, ap (times r) (append-nil (map a_node g.roots)))))

-- ---- all children

module _ {R : Type 0} (f : R → Option (List Child)) where
  pub all_of-snoc : (xs : List R) (x : R) (cs ds : List Child) → all_of f xs ≡ some cs → f x ≡ some ds → all_of f (xs ++ (x ∷ [])) ≡ some (cs ++ ds)
  unfolding all_of map₂ map₁
  all_of-snoc [] x cs ds e g = rw g (ap some (append-nil ds ∙ ap (λ (l : List Child). l ++ ds) (some_inj [] cs e)))
  all_of-snoc (y ∷ xs) x cs ds e g = go (λ vs k. all_of-snoc xs x vs ds k g) (f y) (all_of f xs) refl e
    where
      go : ((vs : List Child) → all_of f xs ≡ some vs → all_of f (xs ++ (x ∷ [])) ≡ some (vs ++ ds)) → (o p : Option (List Child)) → all_of f xs ≡ p → map₂ ◌++◌ o p ≡ some cs → map₂ ◌++◌ o (all_of f (xs ++ (x ∷ []))) ≡ some (cs ++ ds)
      go ih none p k h = none≢some cs h
      go ih (some us) none k h = none≢some cs h
      go ih (some us) (some vs) k h = rw (ih vs k) (ap some (sym (append_assoc us vs ds) ∙ ap (λ (l : List Child). l ++ ds) (some_inj (us ++ vs) cs h)))

  -- the children of each are found
  nth-found : (xs : List R) (all : List Child) → all_of f xs ≡ some all → (k : ℕ) → k < length xs → (cs : List Child) × (and_then (nth xs k) f ≡ some cs)
  unfolding nth and_then
  nth-found [] all e k h = absurd (omega arith)
  nth-found (x ∷ xs) all e zero h = let z = split f x xs all e in (z.first, z.is_first)
  nth-found (x ∷ xs) all e (suc k) h = let z = split f x xs all e in nth-found xs z.others z.are_others k (omega arith)

module _ {R : Type 0} where
  -- the last of a list, or one before it
  data Place (xs : List R) (x : R) (k : ℕ) : Type 0 where
    before : nth (xs ++ (x ∷ [])) k ≡ nth xs k → Place xs x k
    last : k ≡ length xs → nth (xs ++ (x ∷ [])) k ≡ some x → Place xs x k

  place : (xs : List R) (x : R) (k : ℕ) → Place xs x k
  unfolding nth
  place [] x zero = last refl refl
  place [] x (suc k) = before refl
  place (y ∷ xs) x zero = before refl
  place (y ∷ xs) x (suc k) = go (place xs x k)
    where
      go : Place xs x k → Place (y ∷ xs) x (suc k)
      go (before e) = before e
      go (last h e) = last (omega arith) e

-- they are all found, and name it so often
pub record Counted {R : Type 0} (r : Child) (f : R → Option (List Child)) (xs : List R) (n : ℕ) : Type 0 where
  pub all : List Child
  pub found : all_of f xs ≡ some all
  pub often : times r all ≡ n

module _ {r : Child} {R : Type 0} {f : List ℕ → R → Option (List Child)} {limit : ℕ → ℕ → ℕ} {cells : List ℕ} where
  pub counted : {xs : List R} {n : ℕ} → Named r f limit cells xs n → Counted r (f cells) xs n
  unfolding all_of times
  counted named[] = record { all = []; found = refl; often = refl }
  counted (named_snoc {xs} x cs others q e l) =
      let z = counted q in
      record { all = z.all ++ cs; found = all_of-snoc (f cells) xs x z.all cs z.found e; often = times-append r z.all cs ∙ ap (λ (k : ℕ). k + times r cs) z.often }

  -- each only what was made before it
  pub limited : {xs : List R} {n : ℕ} → Named r f limit cells xs n → (k : ℕ) (cs : List Child) → and_then (nth xs k) (f cells) ≡ some cs → (others : ℕ) × (times r cs ≤ limit k others)
  unfolding nth and_then
  limited named[] k cs h = none≢some cs h
  limited (named_snoc {xs} x ds others q e l) k cs h = go (λ g. limited q k cs g) (place xs x k)
    where
      go : (and_then (nth xs k) (f cells) ≡ some cs → (o : ℕ) × (times r cs ≤ limit k o)) → Place xs x k → (o : ℕ) × (times r cs ≤ limit k o)
      go ih (before p) = ih (ap (λ (o : Option R). and_then o (f cells)) (sym p) ∙ h)
      go ih (last i p) =
          let g : ds ≡ cs = some_inj ds cs (sym e ∙ ap (λ (o : Option R). and_then o (f cells)) (sym p) ∙ h) in
          (others, subst (λ (j : ℕ). times r cs ≤ limit j others) (sym i) (subst (λ (l : List Child). times r l ≤ limit (length xs) others) g l))

-- ---- resynchronising

-- the last is below
abbrev LastBelow : List ℕ → ℕ → Type 0
LastBelow [] n = Unit {0}
LastBelow (m ∷ []) n = m < n
LastBelow (m ∷ (k ∷ ks)) n = LastBelow (k ∷ ks) n

rising_snoc : (ns : List ℕ) (n : ℕ) → Rising ns → LastBelow ns n → Rising (ns ++ (n ∷ []))
rising_snoc [] n h l = tt
rising_snoc (m ∷ []) n h l = (l, tt)
rising_snoc (m ∷ (k ∷ ks)) n h l = (h.0, rising_snoc (k ∷ ks) n h.1 l)

last_snoc : (ns : List ℕ) (m n : ℕ) → m < n → LastBelow (ns ++ (m ∷ [])) n
last_snoc [] m n h = h
last_snoc (k ∷ []) m n h = h
last_snoc (k ∷ (j ∷ js)) m n h = last_snoc (j ∷ js) m n h

abbrev afters : List Occurrence → List ℕ
afters es = map (λ (e : Occurrence). e.after) es

ascending_rises : {n : ℕ} {es : List Occurrence} → Ascending n es → Rising (afters es) × LastBelow (afters es) n
ascending_rises asc[] = (tt, tt)
ascending_rises {n} (asc_snoc {es} e a l) =
    let z = ascending_rises a in
    let p : afters es ++ (e.after ∷ []) ≡ afters (es ++ (e ∷ [])) = sym (map-append (λ (x : Occurrence). x.after) es (e ∷ [])) in
    (subst Rising p (rising_snoc (afters es) e.after z.0 z.1), subst (λ (ns : List ℕ). LastBelow ns n) p (last_snoc (afters es) e.after n l))

-- from the beginning of one resynchronising to the beginning of the next at least one token is
-- taken
pub resynchronisings_rise : (power : ℕ → Option ℕ) → power k_eof ≡ none → (script : List ℕ) → Rising (resynchronisings power script)
unfolding resynchronisings
resynchronisings_rise power eof script = go (parse_roots_collect power script (begin script)) (parse_roots_collect-ends power eof script)
  where
    go : {E : State → Type 0} (z : Result Gathered) → Ends (Complete script) E z → Rising (elim z as (λ z'. List ℕ) [ ok g s ↦ afters g.errors | err e s ↦ [] ])
    go z (holds q) = (ascending_rises q.ascending).0
    go z (fails q) = tt

-- ---- the law

module _ (tree : Tree) (q : (r : Child) → RootsHeld r tree.roots tree.arena) where
  pub record Total (r : Child) : Type 0 where
    pub all : List Child
    pub found : occurrences tree ≡ some all
    pub often : times r all ≤ made r (length tree.arena.nodes) (length tree.arena.types)

  total : (r : Child) → Total r
  unfolding occurrences map₂ map₁
  total r =
      let c : Counted r (children_of tree.arena.cells) tree.arena.nodes (q r).by_nodes = counted (q r).nodes in
      let d : Counted r (inner_of tree.arena.cells) tree.arena.types (q r).by_types = counted (q r).types in
      record {
        all = map a_node tree.roots ++ (c.all ++ d.all);
        found = rw (c.found, d.found) refl;
        often = omega (arith, (q r).owned, c.often, d.often, times-append r (map a_node tree.roots) (c.all ++ d.all), times-append r c.all d.all);
      }

  below : Below tree.arena
  unfolding children_at inner_at made
  below = record {
    nodes = λ k h.
        let z = nth-found (children_of tree.arena.cells) tree.arena.nodes _ (counted (q (a_node 0)).nodes).found k h in
        (z.0, z.1, λ i l. below_lt i k (omega (arith, (limited (q (a_node i)).nodes k z.0 z.1).1, l)));
    types = λ k h.
        let z = nth-found (inner_of tree.arena.cells) tree.arena.types _ (counted (q (a_type 0)).types).found k h in
        (z.0, z.1, λ j l. below_lt j k (omega (arith, (limited (q (a_type j)).types k z.0 z.1).1, l)));
  }

  pub law : (script begun : List ℕ) → Bounded script tree → Rising begun → Law script tree begun
  unfolding made
  law script begun b rising = record {
    below = below;
    once = record {
      all = (total (a_node 0)).all;
      found = (total (a_node 0)).found;
      nodes = λ i. omega (arith, often (a_node i), made_one (a_node i) (length tree.arena.nodes) (length tree.arena.types));
      types = λ j. omega (arith, often (a_type j), made_one (a_type j) (length tree.arena.nodes) (length tree.arena.types));
      nodes_inside = λ i h. below_lt i _ (omega (arith, often (a_node i), h));
      types_inside = λ j h. below_lt j _ (omega (arith, often (a_type j), h));
    };
    values = (q (a_node 0)).values;
    few = record {
      nodes = (in_bytes script tree b).nodes;
      types = omega (arith, (in_bytes script tree b).made);
      values = omega (arith, (in_bytes script tree b).made);
    };
    takes = rising;
  }
    where
      often : (c : Child) → times c (total (a_node 0)).all ≤ made c (length tree.arena.nodes) (length tree.arena.types)
      often c = subst (λ (l : List Child). times c l ≤ made c (length tree.arena.nodes) (length tree.arena.types)) (some_inj _ _ (sym (total c).found ∙ (total (a_node 0)).found)) (total c).often

module _ (power : ℕ → Option ℕ) (eof : power k_eof ≡ none) (script : List ℕ) (tree : Tree) where
  pub parse_law : parse power script ≡ read tree [] → Law script tree []
  unfolding parse
  parse_law e = law tree (λ r. go r (parse_roots power script (begin script)) (parse_roots-holds r power script) e) script [] (parse_bounded power eof script tree e) tt
    where
      go : (r : Child) (z : Result (List ℕ)) → Ends (λ roots s. RootsHeld r roots s.arena) (λ s. Unit {0}) z → elim z as (λ z'. Reading) [ ok roots s ↦ read (record { arena = s.arena; roots = roots }) [] | err x s ↦ ended x ] ≡ read tree [] → RootsHeld r tree.roots tree.arena
      go r z (holds {a = roots} {s} q) e = subst (λ (t : Tree). RootsHeld r t.roots t.arena) (read-tree _ tree [] [] e) q
      go r z (fails {e = x} q) e = ended≢read x tree [] e

  pub parse_collect_law : (es : List Diagnostic) → parse_collect power script ≡ read tree es → Law script tree (resynchronisings power script)
  unfolding parse_collect
  parse_collect_law es e = law tree (λ r. go r (parse_roots_collect power script (begin script)) (parse_roots_collect-holds r power script) e) script (resynchronisings power script) (parse_collect_bounded power eof script tree es e) (resynchronisings_rise power eof script)
    where
      fs : List Occurrence
      fs = faults_of 0 (cut script)

      go : (r : Child) (z : Result Gathered) → Ends (λ g s. RootsHeld r g.roots s.arena) (λ s. Unit {0}) z
          → elim z as (λ z'. Reading) [ ok g s ↦ read (record { arena = s.arena; roots = g.roots }) (merged (length fs + length g.errors) fs g.errors) | err x s ↦ ended x ] ≡ read tree es → RootsHeld r tree.roots tree.arena
      go r z (holds {a = g} {s} q) e = subst (λ (t : Tree). RootsHeld r t.roots t.arena) (read-tree _ tree _ es e) q
      go r z (fails {e = x} q) e = ended≢read x tree es e

-- ---- what is delivered

-- strict mode gathers nothing
pub parse-errors : (power : ℕ → Option ℕ) (script : List ℕ) (tree : Tree) (es : List Diagnostic) → parse power script ≡ read tree es → es ≡ []
unfolding parse
parse-errors power script tree es e = go (parse_roots power script (begin script)) e
  where
    go : (z : Result (List ℕ)) → elim z as (λ z'. Reading) [ ok roots s ↦ read (record { arena = s.arena; roots = roots }) [] | err x s ↦ ended x ] ≡ read tree es → es ≡ []
    go (ok roots s) h = let k : read (record { arena = s.arena; roots = roots }) [] ≡ read tree es = h in cc
    go (err x s) h = ended≢read x tree es h

-- Eof is no infix sign
pub tree_law : (power : ℕ → Option ℕ) → power k_eof ≡ none → TreeLaw power
tree_law power eof = record {
  strict = λ script tree es e. parse_law power eof script tree (e ∙ ap (read tree) (parse-errors power script tree es e));
  collecting = λ script tree es e. parse_collect_law power eof script tree es e;
}

pub tree_law_stage_one : TreeLaw stage_one
unfolding stage_one R.choose
tree_law_stage_one = tree_law stage_one refl

-- a tree that the arrays hold, with the counts that are returned, and its law
pub record Delivered (script begun : List ℕ) (lent : Arrays) (o : Outcome) : Type 0 where
  pub tree : Tree
  pub errors : List Diagnostic
  pub answer : o.answer ≡ P.Tree (record { nodes = length tree.arena.nodes; types = length tree.arena.types; cells = length tree.arena.cells; roots = length tree.roots; values = tree.arena.values; diagnostics = length errors })
  pub arrays : o.arrays ≡ holding tree errors lent
  pub law : Law script tree begun

module _ (how : List ℕ → Reading) (script begun : List ℕ) (lawful : (tree : Tree) (es : List Diagnostic) → how script ≡ read tree es → Law script tree begun) (known : (e : Diagnostic) → how script ≡ ended e → IsError e) (l : Arrays) where
  -- whatever is lent: where the number is 0, a tree is delivered
  delivered : (numbers_of (promised how script l).answer).number ≡ 0 → Delivered script begun l (promised how script l)
  unfolding promised outcome numbers_of
  delivered = by_length (ltb max_bytes (length script))
    where
      of : Outcome → Type 0
      of o = (numbers_of o.answer).number ≡ 0 → Delivered script begun l o

      by_reading : (r : Reading) → how script ≡ r → of (outcome r l)
      by_reading (read t es) p e = record { tree = t; errors = es; answer = refl; arrays = refl; law = lawful t es p }
      by_reading (ended d) p e = absurd (omega (arith, e, (known d p).0))

      by_room : (b : Bool) → of (elim b as (λ b'. Outcome) [ true ↦ record { answer = P.Refused 2; arrays = l } | false ↦ outcome (how script) l ])
      by_room true e = absurd (omega (arith, e))
      by_room false e = by_reading (how script) refl e

      by_length : (b : Bool) → of (elim b as (λ b'. Outcome) [ true ↦ record { answer = P.Refused 1; arrays = l } | false ↦ elim (too_short script l) as (λ b'. Outcome) [ true ↦ record { answer = P.Refused 2; arrays = l } | false ↦ outcome (how script) l ] ])
      by_length true e = absurd (omega (arith, e))
      by_length false e = by_room (too_short script l) e

-- both modes, whatever is lent
module _ {power : ℕ → Option ℕ} (laws : TreeLaw power) (script : List ℕ) (l : Arrays) where
  pub strict_delivered : (numbers_of (promised (parse power) script l).answer).number ≡ 0 → Delivered script [] l (promised (parse power) script l)
  strict_delivered = delivered (parse power) script [] (laws.strict script) (parse-error power script) l

  pub collecting_delivered : (numbers_of (promised (parse_collect power) script l).answer).number ≡ 0 → Delivered script (resynchronisings power script) l (promised (parse_collect power) script l)
  collecting_delivered = delivered (parse_collect power) script (resynchronisings power script) (laws.collecting script) (parse_collect-error power script) l
