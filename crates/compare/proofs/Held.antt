-- The arrays that hold a tree of the rules have its shape; so two trees that readings return, each in either mode, compare as equal or not, and never as malformed.
use mathlib.Core.Path.{◌≡◌, refl, sym, ◌∙◌, ap, ap₂, subst}
use mathlib.Core.Bool.{Bool, true, false}
use mathlib.Core.Option.{Option, none, some}
use mathlib.Core.List.{List, [], ◌∷◌, ◌++◌, map, flatten, append_assoc}
use Prim.Native.Nat.{ℕ, zero, suc, ◌+◌, ◌*◌, ◌-◌, ◌≤◌}
use native.Mathlib.Omega.{arith}
use native.Mathlib.Nat.{mul-suc, mul-zero}
use lib.Dec.{leb, ltb}
use lib.ListN.{length, take, drop, length-append, length-replicate}
use lib.Seq.{take_at, drop-append-add}
use borrow.Author.Tests.{le-leb, lt-leb, leb-true, leb-false, ltb-false, le-ltb}
use Rattle.lex.specs.Bytes.{or, if}
use Rattle.lex.specs.declared.diagnostic.Diagnostic.{Diagnostic}
use Rattle.rules.specs.Tree.{Result, ok, err, Tree}
use Rattle.rules.specs.Rules.{stage_one}
use Rattle.rules.specs.Parse.{Reading, read, ended, begin, parse, parse_roots}
use Rattle.lex.specs.Kind.{k_eof}
use Rattle.rules.specs.Combinators.{choose}
use Rattle.ast.specs.Layout.{node_width, type_width, zeros, padded, node_cells, type_cells}
use Rattle.lex.specs.Answer.{max_bytes, answer}
use Rattle.rules.specs.Promise.{Arrays, too_short, holding, Outcome, outcome, promised}
use Rattle.rules.specs.Shape as R
use Rattle.rules.specs.Shape.{Shapes, shape_of}
use Rattle.ast.specs.Lists.{and_then}
use Rattle.ast.specs.Tabulate.{tabulate, lookup, rows, entries_below}
use Rattle.ast.specs.declared.Counts.{Counts}
use Rattle.rules.specs.Parsed as P
use Rattle.rules.proofs.Unique.Whole.{shaped}
use Rattle.rules.proofs.Unique.Collect.{shaped_collect}
use Rattle.ast.specs.Decode.{fits, node_of, type_of, node_at, type_at}
use Rattle.ast.specs.Answer.{Lent, lent, refusal, cells_of}
use Rattle.ast.proofs.LayoutLaws.{node-length, type-length, node_trip, type_trip}
use Rattle.compare.specs.Agree.{Decides}
use Rattle.compare.specs.Same.{same_shapes}
use Rattle.compare.specs.Compare.{compare_shapes, compare}
use Rattle.compare.proofs.Agree.{decides_not}
use Rattle.compare.proofs.Compare.{none-refused, compare_is, same_decides}
use Rattle.compare.specs.Returned.{Mode, strict, collecting, reading, returned, Returns, YesOrNo, yes, no}
use Rattle.compare.specs.Shapes.{types_below, nodes_below, view_of, types_in, root_shapes, shape_in}

-- ---- records one after the other

module _ {R : Type 0} where
  rows_cong : (g h : ℕ → R) → ((i : ℕ) → g i ≡ h i) → (n : ℕ) → rows g n ≡ rows h n
  unfolding rows
  rows_cong g h e zero = refl
  rows_cong g h e (suc n) = ap₂ (λ (x : List R) (y : R). x ++ (y ∷ [])) (rows_cong g h e n) (e n)

  rows-cons : (g : ℕ → R) (n : ℕ) → rows g (suc n) ≡ g 0 ∷ rows (λ i. g (suc i)) n
  unfolding rows
  rows-cons g zero = refl
  rows-cons g (suc n) = ap (λ (x : List R). x ++ (g (suc n) ∷ [])) (rows-cons g n)

module _ {R : Type 0} (width : ℕ) (dec : List ℕ → Option R) (enc : R → List ℕ) (size : (r : R) → length (enc r) ≡ width) (trip : (r : R) → dec (enc r) ≡ some r) where
  record_at : List ℕ → ℕ → Option R
  record_at xs i = if (fits width xs i) (dec (take width (drop (width * i) xs))) none

  first : (r : R) (rest : List ℕ) → record_at (enc r ++ rest) 0 ≡ some r
  unfolding record_at
  first r rest =
      let l : length (enc r ++ rest) ≡ width + length rest = length-append (enc r) rest ∙ ap (λ (n : ℕ). n + length rest) (size r) in
      rw (mul-zero width, le-leb (0 + width) (length (enc r ++ rest)) (omega arith)) (ap dec (take_at (enc r) rest width (size r)) ∙ trip r)

  later : (r : R) (rest : List ℕ) (i : ℕ) → record_at (enc r ++ rest) (suc i) ≡ record_at rest i
  unfolding record_at
  later r rest i =
      let l : length (enc r ++ rest) ≡ width + length rest = length-append (enc r) rest ∙ ap (λ (n : ℕ). n + length rest) (size r) in
      let m : width * suc i ≡ width + width * i = mul-suc width i ∙ (let z : width * i + width ≡ width + width * i = omega arith in z) in
      let d : drop (width * suc i) (enc r ++ rest) ≡ drop (width * i) rest = ap (λ (n : ℕ). drop n (enc r ++ rest)) m ∙ ap (λ (n : ℕ). drop (n + width * i) (enc r ++ rest)) (sym (size r)) ∙ drop-append-add (enc r) rest (width * i) in
      ap₂ (λ (b : Bool) (xs : List ℕ). if b (dec (take width xs)) none) (test (leb (width * i + width) (length rest)) refl l m) d
    where
      test : (b : Bool) → leb (width * i + width) (length rest) ≡ b → length (enc r ++ rest) ≡ width + length rest → width * suc i ≡ width + width * i → leb (width * suc i + width) (length (enc r ++ rest)) ≡ b
      test true e l m = le-leb (width * suc i + width) (length (enc r ++ rest)) (let h = leb-true (width * i + width) (length rest) e in omega arith)
      test false e l m = lt-leb (width * suc i + width) (length (enc r ++ rest)) (let h = leb-false (width * i + width) (length rest) e in omega arith)

  rows-held : (rs : List R) (rest : List ℕ) → rows (record_at (flatten (map enc rs) ++ rest)) (length rs) ≡ map some rs
  unfolding rows flatten
  rows-held [] rest = refl
  rows-held (r ∷ rs) rest =
      let xs = flatten (map enc rs) ++ rest in
      let a : flatten (map enc (r ∷ rs)) ++ rest ≡ enc r ++ xs = append_assoc (enc r) (flatten (map enc rs)) rest in
      ap (λ (ys : List ℕ). rows (record_at ys) (suc (length rs))) a ∙ rows-cons (record_at (enc r ++ xs)) (length rs)
      ∙ ap₂ (λ (x : Option R) (ys : List (Option R)). x ∷ ys) (first r xs) (rows_cong (λ i. record_at (enc r ++ xs) (suc i)) (record_at xs) (later r xs) (length rs) ∙ rows-held rs rest)

-- ---- the tables are those of the rules

tabulate-some : {R A : Type 0} (f : (ℕ → Option A) → R → Option A) (done : List (Option A)) (xs : List R) → tabulate (λ k o. and_then o (f k)) done (map some xs) ≡ tabulate f done xs
unfolding tabulate and_then
tabulate-some f done [] = refl
tabulate-some f done (x ∷ xs) = tabulate-some f (done ++ (f (lookup done) x ∷ [])) xs

-- what is lent to a comparison holds a tree
pub record Holds (l : Lent) (t : Tree) : Type 0 where
  pub nodes : rows (node_at l.nodes) l.counts.nodes ≡ map some t.arena.nodes
  pub types : rows (type_at l.types) l.counts.types ≡ map some t.arena.types
  pub cells : cells_of l ≡ t.arena.cells
  pub count : leb l.counts.roots (length l.roots) ≡ true
  pub roots : take l.counts.roots l.roots ≡ t.roots

module _ (l : Lent) (t : Tree) (h : Holds l t) where
  types_hold_lem : types_in (view_of l) ≡ R.type_shape_at l.script t.arena
  unfolding types_below entries_below R.type_shape_at R.type_in
  types_hold_lem = rw (h.types, h.cells) (ap lookup (tabulate-some (R.type_in l.script t.arena) [] t.arena.types))

  nodes_hold_lem : nodes_below (view_of l) l.counts.nodes ≡ R.node_shape_at l.script t.arena
  unfolding nodes_below entries_below R.node_shape_at R.node_in
  nodes_hold_lem = rw (types_hold_lem, h.nodes, h.cells) (ap lookup (tabulate-some (R.node_in l.script t.arena) [] t.arena.nodes))

  pub shape-held : shape_in l ≡ shape_of l.script t
  unfolding root_shapes shape_of
  shape-held = rw (h.count, h.roots, nodes_hold_lem)

-- ---- what a reading returns holds its tree

counts_of : Tree → List Diagnostic → Counts
counts_of t es = record { nodes = length t.arena.nodes; types = length t.arena.types; cells = length t.arena.cells; roots = length t.roots; values = t.arena.values; diagnostics = length es }

module _ (script : List ℕ) (t : Tree) (es : List Diagnostic) (l : Arrays) where
  held_in : Lent
  held_in = let o = holding t es l in lent script o.nodes o.types o.lists o.roots (counts_of t es)

  holds : Holds held_in t
  unfolding held_in counts_of holding node_at type_at record_at
  holds = record {
    nodes = rows-held node_width node_of node_cells node-length node_trip t.arena.nodes (zeros (length l.nodes - length (flatten (map node_cells t.arena.nodes))));
    types = rows-held type_width type_of type_cells type-length type_trip t.arena.types (zeros (length l.types - length (flatten (map type_cells t.arena.types))));
    cells = take_at t.arena.cells _ (length t.arena.cells) refl;
    count = le-leb (length t.roots) (length (padded (length l.roots) t.roots)) (let e = length-append t.roots (zeros (length l.roots - length t.roots)) in omega arith);
    roots = take_at t.roots _ (length t.roots) refl;
  }

-- a lent array does not shrink
padded-length : (n : ℕ) (xs : List ℕ) → n ≤ length (padded n xs)
padded-length n xs = let e = length-append xs (zeros (n - length xs)) in let f : length (zeros (n - length xs)) ≡ n - length xs = length-replicate (n - length xs) 0 in omega arith

pub or-false : (a b : Bool) → or a b ≡ false → (a ≡ false) × (b ≡ false)
unfolding or
or-false true b e = absurd (let z : ◌≡◌ {A = ℕ} 1 0 = ap (λ (c : Bool). if c 1 0) e in omega arith)
or-false false b e = (refl, e)

enough : (n k : ℕ) (xs : List ℕ) → ltb n k ≡ false → ltb (length (padded n xs)) k ≡ false
enough n k xs h = le-ltb (length (padded n xs)) k (let a = ltb-false n k h in let b = padded-length n xs in omega arith)

not_refused : (script : List ℕ) (t : Tree) (es : List Diagnostic) (l : Arrays) → ltb max_bytes (length script) ≡ false → too_short script l ≡ false → refusal (held_in script t es l) ≡ 0
unfolding refusal too_short held_in holding
not_refused script t es l h k =
    let n = length script in
    let p = or-false _ _ k in
    let q = or-false _ _ p.1 in
    let r = or-false _ _ q.1 in
    let u = or-false _ _ r.1 in
    rw (
      h,
      enough (length l.nodes) (node_width * n) (flatten (map node_cells t.arena.nodes)) p.0,
      enough (length l.types) (type_width * n) (flatten (map type_cells t.arena.types)) q.0,
      enough (length l.lists) (8 * n) t.arena.cells r.0,
      enough (length l.roots) n t.roots u.0,
    )

-- ---- what a reading returns

-- strict mode gathers nothing
no-errors : (x : Result (List ℕ)) (t : Tree) (es : List Diagnostic) → elim x as (λ r. Reading) [ ok roots s ↦ read (record { arena = s.arena; roots = roots }) [] | err e s ↦ ended e ] ≡ read t es → es ≡ []
no-errors (ok roots s) t es e = let z : [] ≡ es = cc in sym z
no-errors (err d s) t es e = absurd (let z : ◌≡◌ {A = ℕ} 0 1 = cc in omega arith)

pub strict-errors : (script : List ℕ) (t : Tree) (es : List Diagnostic) → parse stage_one script ≡ read t es → es ≡ []
unfolding parse
strict-errors script t es e = no-errors (parse_roots stage_one script (begin script)) t es e

pub strict-read : (script : List ℕ) (t : Tree) (es : List Diagnostic) → parse stage_one script ≡ read t es → parse stage_one script ≡ read t []
strict-read script t es e = e ∙ ap (read t) (strict-errors script t es e)

-- Eof is no infix sign
pub no-eof : stage_one k_eof ≡ none
unfolding stage_one choose
no-eof = refl

has_shape : (mode : Mode) (script : List ℕ) (t : Tree) (es : List Diagnostic) → reading mode script ≡ read t es → (σs : Shapes) × (shape_of script t ≡ some σs)
has_shape strict script t es e = shaped stage_one no-eof script t (strict-read script t es e)
has_shape collecting script t es e = shaped_collect stage_one no-eof script t es e

record Returned (mode : Mode) (script : List ℕ) (l : Arrays) (c : Counts) : Type 0 where
  pub tree : Tree
  pub errors : List Diagnostic
  pub accepted : reading mode script ≡ read tree errors
  pub shape : shape_in (returned mode script l c) ≡ shape_of script tree
  pub lent_enough : refusal (returned mode script l c) ≡ 0

module _ (mode : Mode) (script : List ℕ) (l : Arrays) where
  -- how a promise comes out
  long_is : ltb max_bytes (length script) ≡ true → (promised (reading mode) script l).answer ≡ P.Refused 1
  unfolding promised
  long_is h = rw (h, promised)

  short_is : ltb max_bytes (length script) ≡ false → too_short script l ≡ true → (promised (reading mode) script l).answer ≡ P.Refused 2
  unfolding promised
  short_is h k = rw (h, k, promised)

  read_is : (r : Reading) → ltb max_bytes (length script) ≡ false → too_short script l ≡ false → reading mode script ≡ r → promised (reading mode) script l ≡ outcome r l
  unfolding promised
  read_is r h k p = rw (h, k, promised) (ap (λ (x : Reading). outcome x l) p)

  module _ (c : Counts) (e : Returns mode script l c) where
    tree_is : (t : Tree) (es : List Diagnostic) → ltb max_bytes (length script) ≡ false → too_short script l ≡ false → reading mode script ≡ read t es → Returned mode script l c
    unfolding outcome counts_of held_in
    tree_is t es h k p =
        let o : promised (reading mode) script l ≡ outcome (read t es) l = read_is (read t es) h k p in
        let a : P.Tree c ≡ P.Tree (counts_of t es) = sym e ∙ ap (λ (x : Outcome). x.answer) o in
        let z : counts_of t es ≡ c = cc in
        let q : held_in script t es l ≡ returned mode script l c = ap (λ (x : Outcome). lent script x.arrays.nodes x.arrays.types x.arrays.lists x.arrays.roots (counts_of t es)) (sym o) ∙ ap (returned mode script l) z in
        record {
          tree = t;
          errors = es;
          accepted = p;
          shape = ap shape_in (sym q) ∙ shape-held (held_in script t es l) t (holds script t es l);
          lent_enough = ap refusal (sym q) ∙ not_refused script t es l h k;
        }

    returned-tree : Returned mode script l c
    unfolding outcome
    returned-tree = go (ltb max_bytes (length script)) (too_short script l) (reading mode script) refl refl refl
      where
        go : (b d : Bool) (r : Reading) → ltb max_bytes (length script) ≡ b → too_short script l ≡ d → reading mode script ≡ r → Returned mode script l c
        go true d r h k p = absurd (let a : P.Refused 1 ≡ P.Tree c = sym (long_is h) ∙ e in let z : ◌≡◌ {A = ℕ} 0 1 = cc in omega arith)
        go false true r h k p = absurd (let a : P.Refused 2 ≡ P.Tree c = sym (short_is h k) ∙ e in let z : ◌≡◌ {A = ℕ} 0 1 = cc in omega arith)
        go false false (ended x) h k p = absurd (let a : P.Error x ≡ P.Tree c = sym (ap (λ (y : Outcome). y.answer) (read_is (ended x) h k p)) ∙ e in let z : ◌≡◌ {A = ℕ} 0 1 = cc in omega arith)
        go false false (read t es) h k p = tree_is t es h k p

-- ---- the comparison of what two readings return, each in either mode, in whatever arrays: yes where the shapes are the same, else no, and never 4

module _ (m₁ m₂ : Mode) (s₁ s₂ : List ℕ) (l₁ l₂ : Arrays) (c₁ c₂ : Counts) where
  abbrev left : Lent
  left = returned m₁ s₁ l₁ c₁

  abbrev right : Lent
  right = returned m₂ s₂ l₂ c₂

  pub compared : Returns m₁ s₁ l₁ c₁ → Returns m₂ s₂ l₂ c₂
      → (t₁ : Tree) × (t₂ : Tree) × (es₁ : List Diagnostic) × (es₂ : List Diagnostic) × (reading m₁ s₁ ≡ read t₁ es₁) × (reading m₂ s₂ ≡ read t₂ es₂) × YesOrNo s₁ t₁ s₂ t₂ (compare left right)
  unfolding compare_shapes
  compared e₁ e₂ =
      let r₁ = returned-tree m₁ s₁ l₁ c₁ e₁ in
      let r₂ = returned-tree m₂ s₂ l₂ c₂ e₂ in
      (r₁.tree, r₂.tree, r₁.errors, r₂.errors, r₁.accepted, r₂.accepted, go r₁ r₂ (has_shape m₁ s₁ r₁.tree r₁.errors r₁.accepted) (has_shape m₂ s₂ r₂.tree r₂.errors r₂.accepted))
    where
      tell : (t₁ t₂ : Tree) (σ τ : Shapes) → shape_of s₁ t₁ ≡ some σ → shape_of s₂ t₂ ≡ some τ → (b : Bool) → Decides b (σ ≡ τ) → YesOrNo s₁ t₁ s₂ t₂ (answer b)
      tell t₁ t₂ σ τ p q true d = yes (p ∙ ap some (d.holds refl) ∙ sym q)
      tell t₁ t₂ σ τ p q false d = no (λ e. decides_not false refl d (let z : σ ≡ τ = cc in z))

      go : (r₁ : Returned m₁ s₁ l₁ c₁) (r₂ : Returned m₂ s₂ l₂ c₂) → (σs : Shapes) × (shape_of s₁ r₁.tree ≡ some σs) → (σs : Shapes) × (shape_of s₂ r₂.tree ≡ some σs) → YesOrNo s₁ r₁.tree s₂ r₂.tree (compare left right)
      go r₁ r₂ u v = subst (YesOrNo s₁ r₁.tree s₂ r₂.tree) (compare_is left right (none-refused left right r₁.lent_enough r₂.lent_enough) (r₁.shape ∙ u.1) (r₂.shape ∙ v.1)) (tell r₁.tree r₂.tree u.0 v.0 u.1 v.1 (same_shapes u.0 v.0) (same_decides u.0 v.0))
