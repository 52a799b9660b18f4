-- Whether a record has a shape depends only on which records have: so each can be tested by itself,
-- its children by their numbers alone.
use mathlib.Core.Path.{◌≡◌, refl, sym, ap, ◌∙◌, subst}
use mathlib.Core.Bool.{Bool, true, false}
use mathlib.Core.Option.{Option, none, some}
use mathlib.Core.List.{List, [], ◌∷◌, ◌++◌}
use Prim.Native.Nat.{ℕ, zero, suc, ◌+◌, ◌<◌}
use lib.Dec.{eqb, ltb, eqb→eq, ltb→lt, lt→ltb, T}
use lib.ListN.{length, length-append}
use native.Mathlib.Omega.{arith}
use Rattle.rules.specs.Tree.{Arena}
use Rattle.rules.specs.Shape as S
use Rattle.rules.specs.Shape.{TypeShape, Shape, type_in, node_in, type_shape_at, node_shape_at, type_shape, node_shape}
use Rattle.ast.specs.Lists.{map₁, map₂, map₃, map₄, map₅, and_then, Decoder, number, run, resolve, both, items, from, list_at}
use Rattle.ast.specs.Tabulate.{lookup, tabulate}
use Rattle.rules.specs.Law.{nth}
use Rattle.ast.specs.declared.Run.{Run}
use Rattle.ast.specs.declared.Node.{Node}
use Rattle.ast.specs.declared.Node.TheVariants as N
use Rattle.ast.specs.declared.TypeExpr.{TypeExpr}
use Rattle.ast.specs.declared.TypeExpr.TheVariants as X
use Rattle.rules.proofs.Unique.Grow.{none≢some, env, look_end, table_length}
use Rattle.rules.proofs.Unique.Step.{AllShaped}
use Rattle.rules.proofs.Results.{not_kind}
use Rattle.rules.proofs.Law.Sound.{look_before, look_inside, table_entry, nth-below}
use Rattle.rules.proofs.Law.Shaped.{Is, map₁_is, map₂_is, map₃_is, map₄_is, map₅_is, chain-between, chain-some, decoded_is, decoded-some, both_is}

-- ---- what is there stays there

module _ {A B : Type 0} where
  is₁ : (f : A → B) {o : Option A} → Is o → Is (map₁ f o)
  unfolding map₁
  is₁ f h = (f h.0, ap (map₁ f) h.1)

module _ {A B C : Type 0} where
  is₂ : (f : A → B → C) {o : Option A} {p : Option B} → Is o → Is p → Is (map₂ f o p)
  unfolding map₁ map₂
  is₂ f h k = (f h.0 k.0, rw (h.1, k.1) refl)

module _ {A B C D : Type 0} where
  is₃ : (f : A → B → C → D) {o : Option A} {p : Option B} {q : Option C} → Is o → Is p → Is q → Is (map₃ f o p q)
  unfolding map₁ map₂ map₃
  is₃ f h k l = (f h.0 k.0 l.0, rw (h.1, k.1, l.1) refl)

module _ {A B C D E : Type 0} where
  is₄ : (f : A → B → C → D → E) {o : Option A} {p : Option B} {q : Option C} {r : Option D} → Is o → Is p → Is q → Is r → Is (map₄ f o p q r)
  unfolding map₁ map₂ map₃ map₄
  is₄ f h k l m = (f h.0 k.0 l.0 m.0, rw (h.1, k.1, l.1, m.1) refl)

module _ {A B C D E F : Type 0} where
  is₅ : (f : A → B → C → D → E → F) {o : Option A} {p : Option B} {q : Option C} {r : Option D} {s : Option E} → Is o → Is p → Is q → Is r → Is s → Is (map₅ f o p q r s)
  unfolding map₁ map₂ map₃ map₄ map₅
  is₅ f h k l m n = (f h.0 k.0 l.0 m.0 n.0, rw (h.1, k.1, l.1, m.1, n.1) refl)

-- where the one decoder reads something, the other does, and as far
abbrev Defined : {A B : Type 0} → Decoder A → Decoder B → Type 0
Defined {A} {B} x y = (cs : List ℕ) (a : A) (rest : List ℕ) → x cs ≡ some (a, rest) → (b : B) × (y cs ≡ some (b, rest))

same_defined : {A : Type 0} (x : Decoder A) → Defined x x
same_defined x cs a rest h = (a, h)

resolve_defined : {A B C : Type 0} (x : Decoder A) (f : A → Option B) (g : A → Option C) → ((a : A) → Is (f a) → Is (g a)) → Defined (resolve x f) (resolve x g)
unfolding resolve
resolve_defined x f g k cs b rest h =
    let z = chain-between x _ cs b rest h in
    let d = decoded_is _ z.middle b rest z.second in
    let w = k z.value (b, d.0) in
    (w.0, chain-some x _ z.first ∙ decoded-some w.1 d.1)

both_defined : {A B C D : Type 0} (x : Decoder A) (y : Decoder B) (x' : Decoder C) (y' : Decoder D) → Defined x x' → Defined y y' → Defined (both x y) (both x' y')
unfolding both
both_defined x y x' y' h k cs p rest e =
    let z = both_is x y cs p rest e in
    let u = h cs z.left z.middle z.first in
    let v = k z.middle z.right rest z.second in
    ((u.0, v.0), chain-some x' _ u.1 ∙ chain-some y' _ v.1 ∙ decoded-some refl refl)

items_defined : {A B X Y : Type 0} (x : Decoder A) (y : Decoder B) (nil : X) (cons : A → X → X) (nil' : Y) (cons' : B → Y → Y) → Defined x y → (n : ℕ) → Defined (items x nil cons n) (items y nil' cons' n)
unfolding items
items_defined x y nil cons nil' cons' h zero cs a rest e = (nil', decoded-some refl (decoded_is _ cs a rest e).1)
items_defined x y nil cons nil' cons' h (suc n) cs a rest e =
    let p = chain-between x _ cs a rest e in
    let q = chain-between (items x nil cons n) _ p.middle a rest p.second in
    let d = decoded_is _ q.middle a rest q.second in
    let u = h cs p.value p.middle p.first in
    let v = items_defined x y nil cons nil' cons' h n p.middle q.value q.middle q.first in
    (cons' u.0 v.0, chain-some y _ u.1 ∙ chain-some (items y nil' cons' n) _ v.1 ∙ decoded-some refl d.1)

list_defined : {A B X Y : Type 0} (x : Decoder A) (y : Decoder B) (nil : X) (cons : A → X → X) (nil' : Y) (cons' : B → Y → Y) → Defined x y → (cells : List ℕ) (r : Run) → Is (list_at x nil cons cells r) → Is (list_at y nil' cons' cells r)
unfolding list_at and_then map₁
list_defined {A} {B} {X} {Y} x y nil cons nil' cons' h cells r g = go (from r.start cells) g.1
  where
    inner : (cs : List ℕ) (o : Option (X × List ℕ)) → items x nil cons r.len cs ≡ o → map₁ (λ q. q.0) o ≡ some g.0 → Is (map₁ (λ q. q.0) (items y nil' cons' r.len cs))
    inner cs none p q = none≢some g.0 q
    inner cs (some z) p q = let v = items_defined x y nil cons nil' cons' h r.len cs z.0 z.1 p in (v.0, ap (map₁ (λ (w : Y × List ℕ). w.0)) v.1)

    go : (o : Option (List ℕ)) → and_then o (λ cs. map₁ (λ q. q.0) (items x nil cons r.len cs)) ≡ some g.0 → Is (and_then o (λ cs. map₁ (λ q. q.0) (items y nil' cons' r.len cs)))
    go none q = none≢some g.0 q
    go (some cs) q = inner cs (items x nil cons r.len cs) refl q

-- ---- records

module _ (script cells : List ℕ) (ty ty' : ℕ → Option TypeShape) (nd nd' : ℕ → Option Shape) (ht : (j : ℕ) → Is (ty j) → Is (ty' j)) (hn : (i : ℕ) → Is (nd i) → Is (nd' i)) where
  abbrev e₁ : S.Env
  e₁ = env script cells ty nd

  abbrev e₂ : S.Env
  e₂ = env script cells ty' nd'

  word_defined : Defined (S.word_in e₁) (S.word_in e₂)
  unfolding S.word_in S.w
  word_defined = same_defined _

  type_defined : Defined (resolve number ty) (resolve number ty')
  type_defined = resolve_defined number ty ty' ht

  node_defined : Defined (resolve number nd) (resolve number nd')
  node_defined = resolve_defined number nd nd' hn

  words_defined : (r : Run) → Is (S.words e₁ r) → Is (S.words e₂ r)
  unfolding S.words
  words_defined r h = list_defined _ _ _ _ _ _ word_defined cells r h

  params_defined : (r : Run) → Is (S.params e₁ r) → Is (S.params e₂ r)
  unfolding S.params S.param_in
  params_defined r h = list_defined _ _ _ _ _ _ (both_defined _ _ _ _ word_defined type_defined) cells r h

  shapes_defined : (r : Run) → Is (S.shapes e₁ r) → Is (S.shapes e₂ r)
  unfolding S.shapes
  shapes_defined r h = list_defined _ _ _ _ _ _ node_defined cells r h

  fields_defined : (r : Run) → Is (S.fields e₁ r) → Is (S.fields e₂ r)
  unfolding S.fields S.field_in
  fields_defined r h = list_defined _ _ _ _ _ _ (both_defined _ _ _ _ word_defined node_defined) cells r h

  cases_defined : (r : Run) → Is (S.cases e₁ r) → Is (S.cases e₂ r)
  unfolding S.cases S.case_in
  cases_defined r h = list_defined _ _ _ _ _ _ (both_defined _ _ _ _ (both_defined _ _ _ _ word_defined node_defined) (resolve_defined run _ _ shapes_defined)) cells r h

  fns_defined : (r : Run) → Is (S.fns e₁ r) → Is (S.fns e₂ r)
  unfolding S.fns S.fn_in
  fns_defined r h = list_defined _ _ _ _ _ _ (both_defined _ _ _ _ (both_defined _ _ _ _ (both_defined _ _ _ _ (resolve_defined run _ _ words_defined) word_defined) (resolve_defined run _ _ params_defined)) type_defined) cells r h

  pub type_shape_defined : (x : TypeExpr) → Is (type_shape e₁ x) → Is (type_shape e₂ x)
  unfolding type_shape S.w
  type_shape_defined (X.Atom t) h = h
  type_shape_defined (X.Foreign t) h = h
  type_shape_defined (X.Option t) h = is₁ _ (ht t.0 (map₁_is _ _ h))
  type_shape_defined (X.Array t) h = is₁ _ (ht t.0 (map₁_is _ _ h))
  type_shape_defined (X.Record src fs) h = let z = map₂_is _ _ _ h in is₂ _ z.0 (params_defined fs z.1)

  pub node_shape_defined : (x : Node) → Is (node_shape e₁ x) → Is (node_shape e₂ x)
  unfolding node_shape S.w
  node_shape_defined (N.Atom id raw) h = h
  node_shape_defined (N.Ident id name) h = h
  node_shape_defined (N.Bin id op lhs rhs) h = let z = map₃_is _ _ _ _ h in is₃ _ z.0 (hn lhs.0 z.1) (hn rhs.0 z.2)
  node_shape_defined (N.Unary id op rhs) h = let z = map₂_is _ _ _ h in is₂ _ z.0 (hn rhs.0 z.1)
  node_shape_defined (N.Let id docs name rhs) h = let z = map₃_is _ _ _ _ h in is₃ _ (words_defined docs z.0) z.1 (hn rhs.0 z.2)
  node_shape_defined (N.Fn id docs name args ret body) h = let z = map₅_is _ _ _ _ _ _ h in is₅ _ (words_defined docs z.0) z.1 (params_defined args z.2) (ht ret.0 z.3) (shapes_defined body z.4)
  node_shape_defined (N.Match id cs t b) h = let z = map₃_is _ _ _ _ h in is₃ _ (cases_defined cs z.0) z.1 (shapes_defined b z.2)
  node_shape_defined (N.Call id target args) h = let z = map₂_is _ _ _ h in is₂ _ (hn target.0 z.0) (shapes_defined args z.1)
  node_shape_defined (N.Field id target name) h = let z = map₂_is _ _ _ h in is₂ _ (hn target.0 z.0) z.1
  node_shape_defined (N.Cast id src lhs rhs) h = let z = map₃_is _ _ _ _ h in is₃ _ z.0 (hn lhs.0 z.1) (ht rhs.0 z.2)
  node_shape_defined (N.Import id src pkgs) h = let z = map₂_is _ _ _ h in is₂ _ z.0 (words_defined pkgs z.1)
  node_shape_defined (N.Extern id src docs name fs) h = let z = map₄_is _ _ _ _ _ h in is₄ _ z.0 (words_defined docs z.1) z.2 (fns_defined fs z.3)
  node_shape_defined (N.Record id src fs) h = let z = map₂_is _ _ _ h in is₂ _ z.0 (fields_defined fs z.1)
  node_shape_defined (N.Array id src ms) h = let z = map₂_is _ _ _ h in is₂ _ z.0 (shapes_defined ms z.1)

-- ---- each record by itself

-- something at each number below `n`
unfoldable pub known : {A : Type 0} → A → ℕ → ℕ → Option A
known a n i = elim (ltb i n) [ true ↦ some a | false ↦ none ]

known-below : {A : Type 0} (a : A) (n i : ℕ) → Is (known a n i) → i < n
unfolding known
known-below {A} a n i h = go (ltb i n) refl h.1
  where
    go : (b : Bool) → ltb i n ≡ b → elim b as (λ b'. Option A) [ true ↦ some a | false ↦ none ] ≡ some h.0 → i < n
    go true e q = ltb→lt i n (rw e tt)
    go false e q = none≢some h.0 q

below-known : {A : Type 0} (a : A) (n i : ℕ) → i < n → Is (known a n i)
unfolding known
below-known {A} a n i h = go (ltb i n) (lt→ltb i n h)
  where
    go : (b : Bool) → T b → Is {A = A} (elim b as (λ b'. Option A) [ true ↦ some a | false ↦ none ])
    go true t = (a, refl)
    go false t = absurd t

abbrev blank : S.Word
blank = record { kind = 0; spelling = [] }

module _ {A : Type 0} where
  abbrev Full : List (Option A) → Type 0
  Full d = (i : ℕ) → i < length d → Is (lookup d i)

  full_snoc : (d : List (Option A)) (x : Option A) → Full d → Is x → Full (d ++ (x ∷ []))
  full_snoc d x h k i l = go (eqb i (length d)) refl
    where
      go : (b : Bool) → eqb i (length d) ≡ b → Is (lookup (d ++ (x ∷ [])) i)
      go true e = subst (λ (n : ℕ). Is (lookup (d ++ (x ∷ [])) n)) (sym (eqb→eq i (length d) (rw e tt))) (k.0, look_end d x ∙ k.1)
      go false e =
          let b : i < length d = omega (arith, not_kind i (length d) e, l, length-append d (x ∷ [])) in
          let z = h i b in
          (z.0, look_before d (x ∷ []) i b ∙ z.1)

module _ {R A : Type 0} (f : (ℕ → Option A) → R → Option A) where
  -- where each entry is made as soon as those before it are there
  table_full : (xs : List R) (d : List (Option A)) → Full d → ((j : ℕ) (x : R) → nth xs j ≡ some x → (p : ℕ → Option A) → ((i : ℕ) → i < length d + j → Is (p i)) → Is (f p x)) → Full (tabulate f d xs)
  unfolding tabulate nth
  table_full [] d h k = h
  table_full (x ∷ xs) d h k =
      table_full xs (d ++ (f (lookup d) x ∷ [])) (full_snoc d (f (lookup d) x) h (k 0 x refl (lookup d) (λ i l. h i (omega arith))))
      (λ j y e p l. k (suc j) y e p (λ i b. l i (omega (arith, length-append d (f (lookup d) x ∷ []), b))))

module _ (script : List ℕ) (m : Arena) where
  -- a type by the types before it, a node by the nodes before it and all types
  pub record Locally : Type 0 where
    pub types : (k : ℕ) (x : TypeExpr) → nth m.types k ≡ some x → Is (type_shape (env script m.cells (known (S.atom_t blank) k) (λ i. none)) x)
    pub nodes : (k : ℕ) (x : Node) → nth m.nodes k ≡ some x → Is (node_shape (env script m.cells (known (S.atom_t blank) (length m.types)) (known (S.atom blank) k)) x)

  pub locally_shaped : Locally → AllShaped script m
  unfolding type_shape_at node_shape_at type_in node_in
  locally_shaped q =
      let tys : Full (tabulate (type_in script m) [] m.types) = table_full (type_in script m) m.types [] (λ i l. absurd (omega arith)) (λ k x e p h. type_shape_defined script m.cells _ p _ _ (λ j z. h j (omega (arith, known-below _ k j z))) (λ i z. z) x (q.types k x e)) in
      let nds : Full (tabulate (node_in script m) [] m.nodes) = table_full (node_in script m) m.nodes [] (λ i l. absurd (omega arith)) (λ k x e p h. node_shape_defined script m.cells _ (type_shape_at script m) _ p (λ j z. tys j (omega (arith, known-below _ (length m.types) j z, table_length (type_in script m) m.types []))) (λ i z. h i (omega (arith, known-below _ k i z))) x (q.nodes k x e)) in
      record { nodes = λ i l. nds i (omega (arith, table_length (node_in script m) m.nodes [], l)); types = λ j l. tys j (omega (arith, table_length (type_in script m) m.types [], l)) }

  pub shaped_locally : AllShaped script m → Locally
  unfolding type_shape_at node_shape_at type_in node_in
  shaped_locally a = record {
    types = λ k x e.
        let z = table_entry (type_in script m) m.types [] k x e (subst (λ (i : ℕ). Is (lookup (tabulate (type_in script m) [] m.types) i)) (zero-plus k) (a.types k (nth-below m.types k x e))) in
        type_shape_defined script m.cells (lookup z.before) _ _ _ (λ j w. below-known _ k j (omega (arith, look_inside z.before j w, z.many))) (λ i w. w) x z.made;
    nodes = λ k x e.
        let z = table_entry (node_in script m) m.nodes [] k x e (subst (λ (i : ℕ). Is (lookup (tabulate (node_in script m) [] m.nodes) i)) (zero-plus k) (a.nodes k (nth-below m.nodes k x e))) in
        node_shape_defined script m.cells (type_shape_at script m) _ (lookup z.before) _ (λ j w. below-known _ (length m.types) j (omega (arith, look_inside (tabulate (type_in script m) [] m.types) j w, table_length (type_in script m) m.types []))) (λ i w. below-known _ k i (omega (arith, look_inside z.before i w, z.many))) x z.made;
  }
    where
      zero-plus : (n : ℕ) → n ≡ 0 + n
      zero-plus n = omega arith
