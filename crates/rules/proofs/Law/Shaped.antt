-- Where a record has a shape, its lists of children are found, and each child has a shape: so what
-- a comparison calls well formed has all its children below it.
use mathlib.Core.Path.{◌≡◌, refl, ap, ◌∙◌}
use mathlib.Core.Option.{Option, none, some}
use mathlib.Core.List.{List, [], ◌∷◌, ◌++◌}
use Prim.Native.Nat.{ℕ, zero, suc}
use Rattle.lex.specs.declared.tok.Token.{Token}
use Rattle.rules.specs.Shape as S
use Rattle.rules.specs.Shape.{Env, type_shape, node_shape}
use Rattle.ast.specs.Lists.{map₁, map₂, map₃, map₄, map₅, and_then, Decoder, decoded, chain, number, token, run, resolve, both, items, from, list_at}
use Rattle.rules.specs.Law as L
use Rattle.rules.specs.Law.{Child, a_node, a_type, listed, children_of, inner_of}
use Rattle.ast.specs.declared.Run.{Run}
use Rattle.ast.specs.declared.Node.{Node}
use Rattle.ast.specs.declared.Node.TheVariants as N
use Rattle.ast.specs.declared.TypeExpr.{TypeExpr}
use Rattle.ast.specs.declared.TypeExpr.TheVariants as T
use Rattle.rules.proofs.Unique.Grow.{none≢some, some_inj}

-- ---- what is there

abbrev pub Is : {A : Type 0} → Option A → Type 0
Is {A} o = (a : A) × (o ≡ some a)

module _ {A B : Type 0} where
  pub map₁_is : (f : A → B) (o : Option A) → Is (map₁ f o) → Is o
  unfolding map₁
  map₁_is f none h = none≢some h.0 h.1
  map₁_is f (some a) h = (a, refl)

module _ {A B C : Type 0} where
  pub map₂_is : (f : A → B → C) (o : Option A) (p : Option B) → Is (map₂ f o p) → Is o × Is p
  unfolding map₂
  map₂_is f none p h = none≢some h.0 h.1
  map₂_is f (some a) p h = ((a, refl), map₁_is (f a) p h)

module _ {A B C D : Type 0} where
  pub map₃_is : (f : A → B → C → D) (o : Option A) (p : Option B) (q : Option C) → Is (map₃ f o p q) → Is o × Is p × Is q
  unfolding map₃
  map₃_is f none p q h = none≢some h.0 h.1
  map₃_is f (some a) p q h = let z = map₂_is (f a) p q h in ((a, refl), z.0, z.1)

module _ {A B C D E : Type 0} where
  pub map₄_is : (f : A → B → C → D → E) (o : Option A) (p : Option B) (q : Option C) (r : Option D) → Is (map₄ f o p q r) → Is o × Is p × Is q × Is r
  unfolding map₄
  map₄_is f none p q r h = none≢some h.0 h.1
  map₄_is f (some a) p q r h = let z = map₃_is (f a) p q r h in ((a, refl), z.0, z.1, z.2)

module _ {A B C D E F : Type 0} where
  pub map₅_is : (f : A → B → C → D → E → F) (o : Option A) (p : Option B) (q : Option C) (r : Option D) (s : Option E) → Is (map₅ f o p q r s) → Is o × Is p × Is q × Is r × Is s
  unfolding map₅
  map₅_is f none p q r s h = none≢some h.0 h.1
  map₅_is f (some a) p q r s h = let z = map₄_is (f a) p q r s h in ((a, refl), z.0, z.1, z.2, z.3)

-- ---- decoders

module _ {A B : Type 0} where
  -- what stands between
  pub record Between (x : Decoder A) (f : A → Decoder B) (cs : List ℕ) (b : B) (rest : List ℕ) : Type 0 where
    pub value : A
    pub middle : List ℕ
    pub first : x cs ≡ some (value, middle)
    pub second : f value middle ≡ some (b, rest)

  pub chain-between : (x : Decoder A) (f : A → Decoder B) (cs : List ℕ) (b : B) (rest : List ℕ) → chain x f cs ≡ some (b, rest) → Between x f cs b rest
  unfolding chain and_then
  chain-between x f cs b rest e = go (x cs) refl e
    where
      go : (o : Option (A × List ℕ)) → x cs ≡ o → and_then o (λ r. f r.0 r.1) ≡ some (b, rest) → Between x f cs b rest
      go none p q = none≢some (b, rest) q
      go (some r) p q = record { value = r.0; middle = r.1; first = p; second = q }

  pub chain-some : (x : Decoder A) (f : A → Decoder B) {cs : List ℕ} {a : A} {middle : List ℕ} → x cs ≡ some (a, middle) → chain x f cs ≡ f a middle
  unfolding chain and_then
  chain-some x f {cs} {a} {middle} e = ap (λ (o : Option (A × List ℕ)). and_then o (λ r. f r.0 r.1)) e

module _ {A : Type 0} where
  pub decoded_is : (o : Option A) (cs : List ℕ) (a : A) (rest : List ℕ) → decoded o cs ≡ some (a, rest) → (o ≡ some a) × (cs ≡ rest)
  unfolding decoded map₁
  decoded_is none cs a rest e = none≢some (a, rest) e
  decoded_is (some b) cs a rest e = let z = some_inj (b, cs) (a, rest) e in (ap (λ (p : A × List ℕ). some p.0) z, ap (λ (p : A × List ℕ). p.1) z)

  pub decoded-some : {o : Option A} {cs : List ℕ} {a : A} {rest : List ℕ} → o ≡ some a → cs ≡ rest → decoded o cs ≡ some (a, rest)
  unfolding decoded map₁
  decoded-some {o} {cs} {a} {rest} e g = rw (e, g) refl

module _ {A B : Type 0} where
  -- one after the other
  pub record Both (x : Decoder A) (y : Decoder B) (cs rest : List ℕ) : Type 0 where
    pub left : A
    pub right : B
    pub middle : List ℕ
    pub first : x cs ≡ some (left, middle)
    pub second : y middle ≡ some (right, rest)

  pub both_is : (x : Decoder A) (y : Decoder B) (cs : List ℕ) (p : A × B) (rest : List ℕ) → both x y cs ≡ some (p, rest) → Both x y cs rest
  unfolding both
  both_is x y cs p rest e =
      let u = chain-between x _ cs p rest e in
      let v = chain-between y _ u.middle p rest u.second in
      let d = decoded_is _ v.middle p rest v.second in
      record { left = u.value; right = v.value; middle = u.middle; first = u.first; second = v.first ∙ ap (λ (l : List ℕ). some (v.value, l)) d.1 }

  -- and what it stands for
  pub resolve_is : (x : Decoder A) (f : A → Option B) (cs : List ℕ) (b : B) (rest : List ℕ) → resolve x f cs ≡ some (b, rest) → (a : A) × (x cs ≡ some (a, rest)) × (f a ≡ some b)
  unfolding resolve
  resolve_is x f cs b rest e =
      let u = chain-between x _ cs b rest e in
      let d = decoded_is _ u.middle b rest u.second in
      (u.value, u.first ∙ ap (λ (l : List ℕ). some (u.value, l)) d.1, d.0)

module _ (e : Env) where
  -- each of these children has a shape
  abbrev pub Shaped : List Child → Type 0
  Shaped [] = Unit {0}
  Shaped (a_node i ∷ cs) = Is (e.node i) × Shaped cs
  Shaped (a_type j ∷ cs) = Is (e.type j) × Shaped cs

  shaped_append : (cs ds : List Child) → Shaped cs → Shaped ds → Shaped (cs ++ ds)
  shaped_append [] ds h k = k
  shaped_append (a_node i ∷ cs) ds h k = (h.0, shaped_append cs ds h.1 k)
  shaped_append (a_type j ∷ cs) ds h k = (h.0, shaped_append cs ds h.1 k)

  -- children that are found, and have shapes
  pub record Children (o : Option (List Child)) : Type 0 where
    pub names : List Child
    pub are : o ≡ some names
    pub shaped : Shaped names

  -- what the one decoder reads, the other finds the children of
  pub record Read (y : Decoder (List Child)) (cs rest : List ℕ) : Type 0 where
    pub names : List Child
    pub are : y cs ≡ some (names, rest)
    pub shaped : Shaped names

  abbrev Reads : {A : Type 0} → Decoder A → Decoder (List Child) → Type 0
  Reads {A} x y = (cs : List ℕ) (a : A) (rest : List ℕ) → x cs ≡ some (a, rest) → Read y cs rest

  node_reads : Reads (resolve number e.node) L.node_in
  unfolding L.node_in
  node_reads cs a rest h = let z = resolve_is number e.node cs a rest h in record { names = a_node z.0 ∷ []; are = chain-some number _ z.1 ∙ decoded-some refl refl; shaped = ((a, z.2), tt) }

  type_reads : Reads (resolve number e.type) L.type_in
  unfolding L.type_in
  type_reads cs a rest h = let z = resolve_is number e.type cs a rest h in record { names = a_type z.0 ∷ []; are = chain-some number _ z.1 ∙ decoded-some refl refl; shaped = ((a, z.2), tt) }

  word_reads : (cs : List ℕ) (a : S.Word) (rest : List ℕ) → S.word_in e cs ≡ some (a, rest) → (t : Token) × (token cs ≡ some (t, rest))
  unfolding S.word_in
  word_reads cs a rest h = let z = resolve_is token _ cs a rest h in (z.0, z.1)

  -- a name, and what follows it
  named_reads : {B : Type 0} (y : Decoder B) (z : Decoder (List Child)) → Reads y z → Reads (both (S.word_in e) y) (chain token (λ t. z))
  named_reads y z k cs a rest g =
      let p = both_is (S.word_in e) y cs a rest g in
      let v = k p.middle p.right rest p.second in
      record { names = v.names; are = chain-some token (λ t. z) (word_reads cs p.left p.middle p.first).1 ∙ v.are; shaped = v.shaped }

  param_reads : Reads (S.param_in e) L.param_in
  unfolding S.param_in L.param_in
  param_reads = named_reads _ L.type_in type_reads

  field_reads : Reads (S.field_in e) L.field_in
  unfolding S.field_in L.field_in
  field_reads = named_reads _ L.node_in node_reads

  -- ---- lists

  items-read : {A X : Type 0} (x : Decoder A) (nil : X) (cons : A → X → X) (y : Decoder (List Child)) → Reads x y → (n : ℕ) → Reads (items x nil cons n) (items y [] ◌++◌ n)
  unfolding items
  items-read x nil cons y h zero cs a rest g = record { names = []; are = decoded-some refl (decoded_is _ cs a rest g).1; shaped = tt }
  items-read x nil cons y h (suc n) cs a rest g =
      let p = chain-between x _ cs a rest g in
      let q = chain-between (items x nil cons n) _ p.middle a rest p.second in
      let d = decoded_is _ q.middle a rest q.second in
      let u = h cs p.value p.middle p.first in
      let v = items-read x nil cons y h n p.middle q.value q.middle q.first in
      record {
        names = u.names ++ v.names;
        are = chain-some y _ u.are ∙ chain-some (items y [] ◌++◌ n) _ v.are ∙ decoded-some refl d.1;
        shaped = shaped_append u.names v.names u.shaped v.shaped;
      }

  list_read : {A X : Type 0} (x : Decoder A) (nil : X) (cons : A → X → X) (y : Decoder (List Child)) → Reads x y → (cells : List ℕ) (r : Run) → Is (list_at x nil cons cells r) → Children (listed y cells r)
  unfolding listed list_at and_then map₁
  list_read {A} {X} x nil cons y h cells r g = go (from r.start cells) g.1
    where
      inner : (cs : List ℕ) (o : Option (X × List ℕ)) → items x nil cons r.len cs ≡ o → map₁ (λ q. q.0) o ≡ some g.0 → Children (map₁ (λ q. q.0) (items y [] ◌++◌ r.len cs))
      inner cs none p q = none≢some g.0 q
      inner cs (some z) p q = let v = items-read x nil cons y h r.len cs z.0 z.1 p in record { names = v.names; are = ap (map₁ (λ (w : List Child × List ℕ). w.0)) v.are; shaped = v.shaped }

      go : (o : Option (List ℕ)) → and_then o (λ cs. map₁ (λ q. q.0) (items x nil cons r.len cs)) ≡ some g.0 → Children (and_then o (λ cs. map₁ (λ q. q.0) (items y [] ◌++◌ r.len cs)))
      go none q = none≢some g.0 q
      go (some cs) q = inner cs (items x nil cons r.len cs) refl q

  nodes-read : (r : Run) → Is (S.shapes e r) → Children (listed L.node_in e.cells r)
  unfolding S.shapes
  nodes-read r h = list_read _ _ _ L.node_in node_reads e.cells r h

  params-read : (r : Run) → Is (S.params e r) → Children (listed L.param_in e.cells r)
  unfolding S.params
  params-read r h = list_read _ _ _ L.param_in param_reads e.cells r h

  fields_read : (r : Run) → Is (S.fields e r) → Children (listed L.field_in e.cells r)
  unfolding S.fields
  fields_read r h = list_read _ _ _ L.field_in field_reads e.cells r h

  case_from : {cs c₁ c₂ rest : List ℕ} {t : Token} {r : Run} → token cs ≡ some (t, c₁) → Read L.node_in c₁ c₂ → run c₂ ≡ some (r, rest) → Children (listed L.node_in e.cells r) → Read (L.case_in e.cells) cs rest
  unfolding L.case_in map₁
  case_from h u g v = record {
    names = u.names ++ v.names;
    are = chain-some token _ h ∙ chain-some L.node_in _ u.are ∙ chain-some run _ g ∙ decoded-some (ap (map₁ (λ b. u.names ++ b)) v.are) refl;
    shaped = shaped_append u.names v.names u.shaped v.shaped;
  }

  case_reads : Reads (S.case_in e) (L.case_in e.cells)
  unfolding S.case_in
  case_reads cs a rest h =
      let p = both_is (both (S.word_in e) (resolve number e.node)) (resolve run (S.shapes e)) cs a rest h in
      let q = both_is (S.word_in e) (resolve number e.node) cs p.left p.middle p.first in
      let t = word_reads cs q.left q.middle q.first in
      let r = resolve_is run (S.shapes e) p.middle p.right rest p.second in
      case_from t.1 (node_reads q.middle q.right p.middle q.second) r.1 (nodes-read r.0 (p.right, r.2))

  fn_from : {cs c₁ c₂ c₃ rest : List ℕ} {docs r : Run} {t : Token} → run cs ≡ some (docs, c₁) → token c₁ ≡ some (t, c₂) → run c₂ ≡ some (r, c₃) → Children (listed L.param_in e.cells r) → Read L.type_in c₃ rest → Read (L.fn_in e.cells) cs rest
  unfolding L.fn_in map₁
  fn_from d h g v u = record {
    names = v.names ++ u.names;
    are = chain-some run _ d ∙ chain-some token _ h ∙ chain-some run _ g ∙ chain-some L.type_in _ u.are ∙ decoded-some (ap (map₁ (λ b. b ++ u.names)) v.are) refl;
    shaped = shaped_append v.names u.names v.shaped u.shaped;
  }

  abbrev fn_head : Decoder (List S.Word × S.Word)
  fn_head = both (resolve run (S.words e)) (S.word_in e)

  abbrev fn_args : Decoder ((List S.Word × S.Word) × S.Params)
  fn_args = both fn_head (resolve run (S.params e))

  fn_parts_lem : {cs rest : List ℕ} (p : Both fn_args (resolve number e.type) cs rest) (q : Both fn_head (resolve run (S.params e)) cs p.middle) (o : Both (resolve run (S.words e)) (S.word_in e) cs q.middle) (docs args : Run) (t : Token)
      → run cs ≡ some (docs, o.middle) → token o.middle ≡ some (t, q.middle) → (run q.middle ≡ some (args, p.middle)) × (S.params e args ≡ some q.right) → Read (L.fn_in e.cells) cs rest
  fn_parts_lem {rest} p q o docs args t d h g = fn_from d h g.0 (params-read args (q.right, g.1)) (type_reads p.middle p.right rest p.second)

  fn_reads : Reads (S.fn_in e) (L.fn_in e.cells)
  unfolding S.fn_in
  fn_reads cs a rest h =
      let p = both_is fn_args (resolve number e.type) cs a rest h in
      let q = both_is fn_head (resolve run (S.params e)) cs p.left p.middle p.first in
      let o = both_is (resolve run (S.words e)) (S.word_in e) cs q.left q.middle q.first in
      let docs = resolve_is run (S.words e) cs o.left o.middle o.first in
      let args = resolve_is run (S.params e) q.middle q.right p.middle q.second in
      let name = word_reads o.middle o.right q.middle o.second in
      fn_parts_lem p q o docs.0 args.0 name.0 docs.1 name.1 (args.1, args.2)

  cases-read : (r : Run) → Is (S.cases e r) → Children (listed (L.case_in e.cells) e.cells r)
  unfolding S.cases
  cases-read r h = list_read _ _ _ (L.case_in e.cells) case_reads e.cells r h

  fns-read : (r : Run) → Is (S.fns e r) → Children (listed (L.fn_in e.cells) e.cells r)
  unfolding S.fns
  fns-read r h = list_read _ _ _ (L.fn_in e.cells) fn_reads e.cells r h

  -- ---- records

  children₁ : (f : List Child → List Child) {o : Option (List Child)} → (z : Children o) → Shaped (f z.names) → Children (map₁ f o)
  unfolding map₁
  children₁ f z h = record { names = f z.names; are = ap (map₁ f) z.are; shaped = h }

  children₂ : (f : List Child → List Child → List Child) {o p : Option (List Child)} → (y : Children o) (z : Children p) → Shaped (f y.names z.names) → Children (map₂ f o p)
  unfolding map₁ map₂
  children₂ f y z h = record { names = f y.names z.names; are = rw (y.are, z.are) refl; shaped = h }

  -- a node that has a shape
  pub shaped_children : (x : Node) → Is (node_shape e x) → Children (children_of e.cells x)
  unfolding node_shape children_of
  shaped_children (N.Atom id raw) h = record { names = []; are = refl; shaped = tt }
  shaped_children (N.Ident id name) h = record { names = []; are = refl; shaped = tt }
  shaped_children (N.Bin id op lhs rhs) h = let z = map₃_is _ _ _ _ h in record { names = a_node lhs.0 ∷ a_node rhs.0 ∷ []; are = refl; shaped = (z.1, (z.2, tt)) }
  shaped_children (N.Unary id op rhs) h = let z = map₂_is _ _ _ h in record { names = a_node rhs.0 ∷ []; are = refl; shaped = (z.1, tt) }
  shaped_children (N.Let id docs name rhs) h = let z = map₃_is _ _ _ _ h in record { names = a_node rhs.0 ∷ []; are = refl; shaped = (z.2, tt) }
  shaped_children (N.Fn id docs name args ret body) h =
      let z = map₅_is _ _ _ _ _ _ h in
      let a = params-read args z.2 in
      let b = nodes-read body z.4 in
      children₂ _ a b (shaped_append a.names (a_type ret.0 ∷ b.names) a.shaped (z.3, b.shaped))
  shaped_children (N.Match id cs t body) h =
      let z = map₃_is _ _ _ _ h in
      let a = cases-read cs z.0 in
      let b = nodes-read body z.2 in
      children₂ _ a b (shaped_append a.names b.names a.shaped b.shaped)
  shaped_children (N.Call id target args) h = let z = map₂_is _ _ _ h in let a = nodes-read args z.1 in children₁ _ a (z.0, a.shaped)
  shaped_children (N.Field id target name) h = let z = map₂_is _ _ _ h in record { names = a_node target.0 ∷ []; are = refl; shaped = (z.0, tt) }
  shaped_children (N.Cast id src lhs rhs) h = let z = map₃_is _ _ _ _ h in record { names = a_node lhs.0 ∷ a_type rhs.0 ∷ []; are = refl; shaped = (z.1, (z.2, tt)) }
  shaped_children (N.Import id src pkgs) h = record { names = []; are = refl; shaped = tt }
  shaped_children (N.Extern id src docs name fs) h = fns-read fs (map₄_is _ _ _ _ _ h).3
  shaped_children (N.Record id src fs) h = fields_read fs (map₂_is _ _ _ h).1
  shaped_children (N.Array id src ms) h = nodes-read ms (map₂_is _ _ _ h).1

  -- and a type
  pub shaped_inner : (x : TypeExpr) → Is (type_shape e x) → Children (inner_of e.cells x)
  unfolding type_shape inner_of
  shaped_inner (T.Atom t) h = record { names = []; are = refl; shaped = tt }
  shaped_inner (T.Foreign t) h = record { names = []; are = refl; shaped = tt }
  shaped_inner (T.Option t) h = record { names = a_type t.0 ∷ []; are = refl; shaped = (map₁_is _ _ h, tt) }
  shaped_inner (T.Array t) h = record { names = a_type t.0 ∷ []; are = refl; shaped = (map₁_is _ _ h, tt) }
  shaped_inner (T.Record src fs) h = params-read fs (map₂_is _ _ _ h).1
