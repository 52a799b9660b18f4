-- A look-up that succeeds goes on succeeding while a tree grows.
use mathlib.Core.Path.{◌≡◌, refl, sym, ap, ◌∙◌, subst, subst₂, subst₃}
use mathlib.Core.Option.{Option, none, some}
use mathlib.Core.List.{List, [], ◌∷◌, ◌++◌, append_assoc, append-nil}
use Prim.Native.Nat.{ℕ, zero, suc, ◌+◌}
use lib.ListN.{length, length-append}
use native.Mathlib.Nat.{zero-add}
use native.Mathlib.Omega.{arith}
use Rattle.rules.specs.Tree.{Arena}
use Rattle.rules.specs.Shape as S
use Rattle.rules.specs.Shape.{TypeShape, Shape, Env, type_shape_at, node_shape_at, type_in, node_in, type_shape, node_shape}
use Rattle.ast.specs.Lists.{map₁, map₂, map₃, map₄, map₅, and_then, Decoder, decoded, chain, number, token, run, resolve, both, items, from, list_at}
use Rattle.ast.specs.Tabulate.{lookup, tabulate}
use Rattle.ast.specs.declared.Run.{Run}
use Rattle.ast.specs.declared.Node.{Node}
use Rattle.ast.specs.declared.Node.TheVariants as N
use Rattle.ast.specs.declared.TypeExpr.{TypeExpr}
use Rattle.ast.specs.declared.TypeExpr.TheVariants as T

module _ {A : Type 0} where
  -- what the one finds the other finds
  abbrev pub ◌⊑◌ : Option A → Option A → Type 0
  ◌⊑◌ o p = (a : A) → o ≡ some a → p ≡ some a

  pub none≢some : {P : Type 0} (a : A) → ◌≡◌ {A = Option A} none (some a) → P
  none≢some a e = let z : ◌≡◌ {A = ℕ} 0 1 = cc in absurd (omega arith)

  pub some_inj : (a b : A) → some a ≡ some b → a ≡ b
  some_inj a b e = cc

infix 20 ◌⊑◌
pub map₁_mono : {A B : Type 0} (f : A → B) (o p : Option A) → o ⊑ p → map₁ f o ⊑ map₁ f p
unfolding map₁
map₁_mono f none p h b e = none≢some b e
map₁_mono f (some a) p h b e = rw (h a refl) e

pub map₂_mono : {A B C : Type 0} (f : A → B → C) (o o' : Option A) (p p' : Option B) → o ⊑ o' → p ⊑ p' → map₂ f o p ⊑ map₂ f o' p'
unfolding map₂
map₂_mono f none o' p p' h k c e = none≢some c e
map₂_mono f (some a) o' p p' h k c e = rw (h a refl) (map₁_mono (f a) p p' k c e)

pub map₃_mono : {A B C D : Type 0} (f : A → B → C → D) (o o' : Option A) (p p' : Option B) (q q' : Option C) → o ⊑ o' → p ⊑ p' → q ⊑ q' → map₃ f o p q ⊑ map₃ f o' p' q'
unfolding map₃
map₃_mono f none o' p p' q q' h k l d e = none≢some d e
map₃_mono f (some a) o' p p' q q' h k l d e = rw (h a refl) (map₂_mono (f a) p p' q q' k l d e)

pub map₄_mono : {A B C D E : Type 0} (f : A → B → C → D → E) (o o' : Option A) (p p' : Option B) (q q' : Option C) (r r' : Option D) → o ⊑ o' → p ⊑ p' → q ⊑ q' → r ⊑ r' → map₄ f o p q r ⊑ map₄ f o' p' q' r'
unfolding map₄
map₄_mono f none o' p p' q q' r r' h k l m d e = none≢some d e
map₄_mono f (some a) o' p p' q q' r r' h k l m d e = rw (h a refl) (map₃_mono (f a) p p' q q' r r' k l m d e)

pub map₅_mono : {A B C D E F : Type 0} (f : A → B → C → D → E → F) (o o' : Option A) (p p' : Option B) (q q' : Option C) (r r' : Option D) (s s' : Option E) → o ⊑ o' → p ⊑ p' → q ⊑ q' → r ⊑ r' → s ⊑ s' → map₅ f o p q r s ⊑ map₅ f o' p' q' r' s'
unfolding map₅
map₅_mono f none o' p p' q q' r r' s s' h k l m n d e = none≢some d e
map₅_mono f (some a) o' p p' q q' r r' s s' h k l m n d e = rw (h a refl) (map₄_mono (f a) p p' q q' r r' s s' k l m n d e)

-- ---- looking at cells, with more cells behind them

abbrev pub Le : {A : Type 0} → Decoder A → Decoder A → Type 0
Le {A} x y = (cs : List ℕ) (a : A) (rest more : List ℕ) → x cs ≡ some (a, rest) → y (cs ++ more) ≡ some (a, rest ++ more)

module _ {A : Type 0} where
  pub found_mono : (o p : Option A) → o ⊑ p → Le (decoded o) (decoded p)
  unfolding decoded map₁
  found_mono none p h cs a rest more e = none≢some (a, rest) e
  found_mono (some b) p h cs a rest more e = let z = some_inj (b, cs) (a, rest) e in rw (h b refl) (λ j. some ((z j).0, (z j).1 ++ more))

pub number_mono : Le number number
unfolding number
number_mono [] a rest more e = none≢some (a, rest) e
number_mono (k ∷ cs) a rest more e = let z = some_inj (k, cs) (a, rest) e in λ j. some ((z j).0, (z j).1 ++ more)

module _ {A B : Type 0} where
  pub chain_mono : (x y : Decoder A) (f g : A → Decoder B) → Le x y → ((a : A) → Le (f a) (g a)) → Le (chain x f) (chain y g)
  unfolding chain and_then
  chain_mono x y f g h k cs b rest more e = go (x cs) refl e
    where
      go : (o : Option (A × List ℕ)) → x cs ≡ o → and_then o (λ r. f r.0 r.1) ≡ some (b, rest) → chain y g (cs ++ more) ≡ some (b, rest ++ more)
      go none p q = none≢some (b, rest) q
      go (some r) p q = rw (h cs r.0 r.1 more p, chain) (k r.0 r.1 b rest more q)

  pub to_mono : (x y : Decoder A) (f g : A → Option B) → Le x y → ((a : A) → f a ⊑ g a) → Le (resolve x f) (resolve y g)
  unfolding resolve
  to_mono x y f g h k = chain_mono x y (λ a. decoded (f a)) (λ a. decoded (g a)) h (λ a. found_mono (f a) (g a) (k a))

module _ {A B : Type 0} where
  pub both_mono : (x x' : Decoder A) (y y' : Decoder B) → Le x x' → Le y y' → Le (both x y) (both x' y')
  unfolding both
  both_mono x x' y y' h k = chain_mono x x' _ _ h (λ a. chain_mono y y' _ _ k (λ b. found_mono _ _ (λ c e. e)))

module _ {A B : Type 0} where
  pub items_mono : (x y : Decoder A) (nil : B) (cons : A → B → B) → Le x y → (n : ℕ) → Le (items x nil cons n) (items y nil cons n)
  unfolding items
  items_mono x y nil cons h zero = found_mono _ _ (λ c e. e)
  items_mono x y nil cons h (suc n) = chain_mono x y _ _ h (λ a. chain_mono _ _ _ _ (items_mono x y nil cons h n) (λ b. found_mono _ _ (λ c e. e)))

pub token_mono : Le token token
unfolding token
token_mono = chain_mono _ _ _ _ number_mono (λ a. chain_mono _ _ _ _ number_mono (λ b. chain_mono _ _ _ _ number_mono (λ c. found_mono _ _ (λ c e. e))))

pub run_mono : Le run run
unfolding run
run_mono = chain_mono _ _ _ _ number_mono (λ a. chain_mono _ _ _ _ number_mono (λ b. found_mono _ _ (λ c e. e)))

pub from_mono : (n : ℕ) (cs more rest : List ℕ) → from n cs ≡ some rest → from n (cs ++ more) ≡ some (rest ++ more)
unfolding from
from_mono zero cs more rest e = ap (λ (r : List ℕ). some (r ++ more)) (some_inj cs rest e)
from_mono (suc n) [] more rest e = none≢some rest e
from_mono (suc n) (c ∷ cs) more rest e = from_mono n cs more rest e

pub from_end : (cs more : List ℕ) → from (length cs) (cs ++ more) ≡ some more
unfolding from
from_end [] more = refl
from_end (c ∷ cs) more = from_end cs more

module _ {A L : Type 0} where
  pub list_at_mono : (x y : Decoder A) (nil : L) (cons : A → L → L) → Le x y → (cs more : List ℕ) (r : Run) → list_at x nil cons cs r ⊑ list_at y nil cons (cs ++ more) r
  unfolding list_at and_then map₁
  list_at_mono x y nil cons h cs more r l e = go (from r.start cs) refl e
    where
      go₂ : (c : List ℕ) (o : Option (L × List ℕ)) → items x nil cons r.len c ≡ o → map₁ (λ q. q.0) o ≡ some l → map₁ (λ q. q.0) (items y nil cons r.len (c ++ more)) ≡ some l
      go₂ c none p q = none≢some l q
      go₂ c (some z) p q = rw (items_mono x y nil cons h r.len c z.0 z.1 more p) q

      go : (o : Option (List ℕ)) → from r.start cs ≡ o → and_then o (λ c. map₁ (λ q. q.0) (items x nil cons r.len c)) ≡ some l → list_at y nil cons (cs ++ more) r ≡ some l
      go none p q = none≢some l q
      go (some c) p q = rw (from_mono r.start cs more c p, list_at) (go₂ c (items x nil cons r.len c) refl q)

-- ---- a record's shape, with more cells behind, and more found among the types and nodes

abbrev pub env : List ℕ → List ℕ → (ℕ → Option TypeShape) → (ℕ → Option Shape) → Env
env script cells type node = record { script = script; cells = cells; type = type; node = node }

module _ (script cells more : List ℕ) (ty ty' : ℕ → Option TypeShape) (nd nd' : ℕ → Option Shape) (ht : (i : ℕ) → ty i ⊑ ty' i) (hn : (i : ℕ) → nd i ⊑ nd' i) where
  same : {A : Type 0} {o : Option A} → o ⊑ o
  same a e = e

  abbrev e₁ : Env
  e₁ = env script cells ty nd

  abbrev e₂ : Env
  e₂ = env script (cells ++ more) ty' nd'

  pub word_in_mono : Le (S.word_in e₁) (S.word_in e₂)
  unfolding S.word_in S.w
  word_in_mono = to_mono _ _ _ _ token_mono (λ a b e. e)

  pub type_mono : Le (resolve number ty) (resolve number ty')
  type_mono = to_mono _ _ _ _ number_mono ht

  pub node_mono : Le (resolve number nd) (resolve number nd')
  node_mono = to_mono _ _ _ _ number_mono hn

  pub param_in_mono : Le (S.param_in e₁) (S.param_in e₂)
  unfolding S.param_in
  param_in_mono = both_mono _ _ _ _ word_in_mono type_mono

  pub field_in_mono : Le (S.field_in e₁) (S.field_in e₂)
  unfolding S.field_in
  field_in_mono = both_mono _ _ _ _ word_in_mono node_mono

  pub words_mono : (r : Run) → S.words e₁ r ⊑ S.words e₂ r
  unfolding S.words
  words_mono r = list_at_mono _ _ _ _ word_in_mono cells more r

  pub params_mono : (r : Run) → S.params e₁ r ⊑ S.params e₂ r
  unfolding S.params
  params_mono r = list_at_mono _ _ _ _ param_in_mono cells more r

  pub shapes_mono : (r : Run) → S.shapes e₁ r ⊑ S.shapes e₂ r
  unfolding S.shapes
  shapes_mono r = list_at_mono _ _ _ _ node_mono cells more r

  pub fields_mono : (r : Run) → S.fields e₁ r ⊑ S.fields e₂ r
  unfolding S.fields
  fields_mono r = list_at_mono _ _ _ _ field_in_mono cells more r

  pub case_in_mono : Le (S.case_in e₁) (S.case_in e₂)
  unfolding S.case_in
  case_in_mono = both_mono _ _ _ _ (both_mono _ _ _ _ word_in_mono node_mono) (to_mono _ _ _ _ run_mono shapes_mono)

  pub cases_mono : (r : Run) → S.cases e₁ r ⊑ S.cases e₂ r
  unfolding S.cases
  cases_mono r = list_at_mono _ _ _ _ case_in_mono cells more r

  pub fn_in_mono : Le (S.fn_in e₁) (S.fn_in e₂)
  unfolding S.fn_in
  fn_in_mono = both_mono _ _ _ _ (both_mono _ _ _ _ (both_mono _ _ _ _ (to_mono _ _ _ _ run_mono words_mono) word_in_mono) (to_mono _ _ _ _ run_mono params_mono)) type_mono

  pub fns_mono : (r : Run) → S.fns e₁ r ⊑ S.fns e₂ r
  unfolding S.fns
  fns_mono r = list_at_mono _ _ _ _ fn_in_mono cells more r

  pub type_shape_mono : (x : TypeExpr) → type_shape e₁ x ⊑ type_shape e₂ x
  unfolding type_shape S.w
  type_shape_mono (T.Atom t) = λ a e. e
  type_shape_mono (T.Foreign t) = λ a e. e
  type_shape_mono (T.Option t) = map₁_mono _ _ _ (ht t.0)
  type_shape_mono (T.Array t) = map₁_mono _ _ _ (ht t.0)
  type_shape_mono (T.Record src fs) = map₂_mono _ _ _ _ _ same (params_mono fs)

  pub node_shape_mono : (x : Node) → node_shape e₁ x ⊑ node_shape e₂ x
  unfolding node_shape S.w
  node_shape_mono (N.Atom id raw) = λ a e. e
  node_shape_mono (N.Ident id name) = λ a e. e
  node_shape_mono (N.Bin id op lhs rhs) = map₃_mono _ _ _ _ _ _ _ same (hn lhs.0) (hn rhs.0)
  node_shape_mono (N.Unary id op rhs) = map₂_mono _ _ _ _ _ same (hn rhs.0)
  node_shape_mono (N.Let id docs name rhs) = map₃_mono _ _ _ _ _ _ _ (words_mono docs) same (hn rhs.0)
  node_shape_mono (N.Fn id docs name args ret body) = map₅_mono _ _ _ _ _ _ _ _ _ _ _ (words_mono docs) same (params_mono args) (ht ret.0) (shapes_mono body)
  node_shape_mono (N.Match id cs t b) = map₃_mono _ _ _ _ _ _ _ (cases_mono cs) same (shapes_mono b)
  node_shape_mono (N.Call id target args) = map₂_mono _ _ _ _ _ (hn target.0) (shapes_mono args)
  node_shape_mono (N.Field id target name) = map₂_mono _ _ _ _ _ (hn target.0) same
  node_shape_mono (N.Cast id src lhs rhs) = map₃_mono _ _ _ _ _ _ _ same (hn lhs.0) (ht rhs.0)
  node_shape_mono (N.Import id src pkgs) = map₂_mono _ _ _ _ _ same (words_mono pkgs)
  node_shape_mono (N.Extern id src docs name fs) = map₄_mono _ _ _ _ _ _ _ _ _ same (words_mono docs) same (fns_mono fs)
  node_shape_mono (N.Record id src fs) = map₂_mono _ _ _ _ _ same (fields_mono fs)
  node_shape_mono (N.Array id src ms) = map₂_mono _ _ _ _ _ same (shapes_mono ms)

-- ---- tables

module _ {A : Type 0} where
  -- place by place
  pub data Pw : List (Option A) → List (Option A) → Type 0 where
    pw[] : Pw [] []
    pw∷ : {x y : Option A} {xs ys : List (Option A)} → x ⊑ y → Pw xs ys → Pw (x ∷ xs) (y ∷ ys)

  pub pw_snoc : {xs ys : List (Option A)} (x y : Option A) → Pw xs ys → x ⊑ y → Pw (xs ++ (x ∷ [])) (ys ++ (y ∷ []))
  pw_snoc x y pw[] h = pw∷ h pw[]
  pw_snoc x y (pw∷ k p) h = pw∷ k (pw_snoc x y p h)

  pub pw_look : {xs ys : List (Option A)} → Pw xs ys → (i : ℕ) → lookup xs i ⊑ lookup ys i
  unfolding lookup
  pw_look pw[] i = λ a e. e
  pw_look (pw∷ k p) zero = k
  pw_look (pw∷ k p) (suc i) = pw_look p i

  pub look_append : (xs ys : List (Option A)) (i : ℕ) → lookup xs i ⊑ lookup (xs ++ ys) i
  unfolding lookup
  look_append [] ys i a e = none≢some a e
  look_append (x ∷ xs) ys zero a e = e
  look_append (x ∷ xs) ys (suc i) a e = look_append xs ys i a e

  pub look_end : (xs : List (Option A)) (x : Option A) → lookup (xs ++ (x ∷ [])) (length xs) ≡ x
  unfolding lookup
  look_end [] x = refl
  look_end (y ∷ xs) x = look_end xs x

module _ {R A : Type 0} where
  pub table_mono : (f g : (ℕ → Option A) → R → Option A) → ((p q : ℕ → Option A) → ((i : ℕ) → p i ⊑ q i) → (x : R) → f p x ⊑ g q x) → (xs : List R) (d e : List (Option A)) → Pw d e → Pw (tabulate f d xs) (tabulate g e xs)
  unfolding tabulate
  table_mono f g h [] d e p = p
  table_mono f g h (x ∷ xs) d e p = table_mono f g h xs _ _ (pw_snoc _ _ p (h (lookup d) (lookup e) (pw_look p) x))

  pub table_append : (f : (ℕ → Option A) → R → Option A) (xs ys : List R) (d : List (Option A)) → tabulate f d (xs ++ ys) ≡ tabulate f (tabulate f d xs) ys
  unfolding tabulate
  table_append f [] ys d = refl
  table_append f (x ∷ xs) ys d = table_append f xs ys _

  pub table_grows : (f : (ℕ → Option A) → R → Option A) (xs : List R) (d : List (Option A)) (i : ℕ) → lookup d i ⊑ lookup (tabulate f d xs) i
  unfolding tabulate
  table_grows f [] d i a e = e
  table_grows f (x ∷ xs) d i a e = table_grows f xs _ i a (look_append d _ i a e)

  pub table_length : (f : (ℕ → Option A) → R → Option A) (xs : List R) (d : List (Option A)) → length (tabulate f d xs) ≡ length d + length xs
  unfolding tabulate
  table_length f [] d = omega arith
  table_length f (x ∷ xs) d = table_length f xs _ ∙ simp length-append (omega arith)

-- ---- trees

module _ (script : List ℕ) where
  abbrev pub env_of : Arena → Env
  env_of m = env script m.cells (type_shape_at script m) (node_shape_at script m)

  abbrev type_tab : List ℕ → (ℕ → Option TypeShape) → TypeExpr → Option TypeShape
  type_tab cells ty x = type_shape (env script cells ty (λ i. none)) x

  abbrev node_tab : List ℕ → (ℕ → Option TypeShape) → (ℕ → Option Shape) → Node → Option Shape
  node_tab cells ty nd x = node_shape (env script cells ty nd) x

  -- a tree has grown to another: what is found stays found
  pub record Grows (m m' : Arena) : Type 0 where
    pub more : List ℕ
    pub cells : m'.cells ≡ m.cells ++ more
    pub types : (i : ℕ) → type_shape_at script m i ⊑ type_shape_at script m' i
    pub nodes : (i : ℕ) → node_shape_at script m i ⊑ node_shape_at script m' i

  types_grow : (cs more : List ℕ) (ts us : List TypeExpr) (i : ℕ) → lookup (tabulate (type_tab cs) [] ts) i ⊑ lookup (tabulate (type_tab (cs ++ more)) [] (ts ++ us)) i
  types_grow cs more ts us i a e = rw table_append (table_grows (type_tab (cs ++ more)) us _ i a
      (pw_look (table_mono (type_tab cs) (type_tab (cs ++ more)) (λ p q h x. type_shape_mono script cs more p q (λ j. none) (λ j. none) h (λ j b f. f) x) ts [] [] pw[]) i a e))

  nodes_grow : (cs more : List ℕ) (p q : ℕ → Option TypeShape) → ((i : ℕ) → p i ⊑ q i) → (ns us : List Node) (i : ℕ) → lookup (tabulate (node_tab cs p) [] ns) i ⊑ lookup (tabulate (node_tab (cs ++ more) q) [] (ns ++ us)) i
  nodes_grow cs more p q h ns us i a e = rw table_append (table_grows (node_tab (cs ++ more) q) us _ i a
      (pw_look (table_mono (node_tab cs p) (node_tab (cs ++ more) q) (λ n n' k x. node_shape_mono script cs more p q n n' h k x) ns [] [] pw[]) i a e))

  pub extend : (m m' : Arena) (more : List ℕ) (ts : List TypeExpr) (ns : List Node) → m'.cells ≡ m.cells ++ more → m'.types ≡ m.types ++ ts → m'.nodes ≡ m.nodes ++ ns → Grows m m'
  unfolding type_shape_at node_shape_at type_in node_in
  extend m m' more ts ns ec et en =
      let tys : (i : ℕ) → type_shape_at script m i ⊑ type_shape_at script m' i = λ i a e. subst₂ (λ c t. lookup (tabulate (type_tab c) [] t) i ≡ some a) (sym ec) (sym et) (types_grow m.cells more m.types ts i a e) in
      record {
        more = more;
        cells = ec;
        types = tys;
        nodes = λ i a e. subst₂ (λ c n. lookup (tabulate (node_tab c (type_shape_at script m')) [] n) i ≡ some a) (sym ec) (sym en) (nodes_grow m.cells more (type_shape_at script m) (type_shape_at script m') tys m.nodes ns i a e);
      }

  pub grows_refl : (m : Arena) → Grows m m
  grows_refl m = record { more = []; cells = sym (append-nil _); types = λ i a e. e; nodes = λ i a e. e }

  pub grows_trans : {m₁ m₂ m₃ : Arena} → Grows m₁ m₂ → Grows m₂ m₃ → Grows m₁ m₃
  grows_trans {m₁} {m₂} {m₃} g h = record {
    more = g.more ++ h.more;
    cells = h.cells ∙ ap (λ (c : List ℕ). c ++ h.more) g.cells ∙ append_assoc m₁.cells g.more h.more;
    types = λ i a e. h.types i a (g.types i a e);
    nodes = λ i a e. h.nodes i a (g.nodes i a e);
  }

  -- the record just made
  pub arena-type : (m m' : Arena) (x : TypeExpr) → m'.cells ≡ m.cells → m'.types ≡ m.types ++ (x ∷ []) → type_shape_at script m' (length m.types) ≡ type_shape (env script m.cells (type_shape_at script m) (λ i. none)) x
  unfolding type_shape_at type_in tabulate
  arena-type m m' x ec et =
      subst₂ (λ c t. lookup (tabulate (type_tab c) [] t) (length m.types) ≡ type_shape (env script m.cells (type_shape_at script m) (λ i. none)) x) (sym ec) (sym et)
      (rw (table_append, ← (table_length (type_tab m.cells) m.types [] ∙ zero-add _)) (look_end (tabulate (type_tab m.cells) [] m.types) _))

  pub arena-node : (m m' : Arena) (x : Node) → m'.cells ≡ m.cells → m'.types ≡ m.types → m'.nodes ≡ m.nodes ++ (x ∷ []) → node_shape_at script m' (length m.nodes) ≡ node_shape (env_of m) x
  unfolding type_shape_at type_in node_shape_at node_in tabulate
  arena-node m m' x ec et en =
      subst₃ (λ c t n. lookup (tabulate (node_tab c (lookup (tabulate (type_tab c) [] t))) [] n) (length m.nodes) ≡ node_shape (env_of m) x) (sym ec) (sym et) (sym en)
      (rw (table_append, ← (table_length (node_tab m.cells (type_shape_at script m)) m.nodes [] ∙ zero-add _)) (look_end (tabulate (node_tab m.cells (type_shape_at script m)) [] m.nodes) _))

  module _ {m m' : Arena} (g : Grows m m') where
    pub node_grows : Le (resolve number (node_shape_at script m)) (resolve number (node_shape_at script m'))
    node_grows = to_mono _ _ _ _ number_mono g.nodes

    pub word_in_grows : Le (S.word_in (env_of m)) (S.word_in (env_of m'))
    word_in_grows = subst (λ (c : List ℕ). Le (S.word_in (env_of m)) (S.word_in (env script c (type_shape_at script m') (node_shape_at script m')))) (sym g.cells) (word_in_mono script m.cells g.more _ _ _ _ g.types g.nodes)

    pub param_in_grows : Le (S.param_in (env_of m)) (S.param_in (env_of m'))
    param_in_grows = subst (λ (c : List ℕ). Le (S.param_in (env_of m)) (S.param_in (env script c (type_shape_at script m') (node_shape_at script m')))) (sym g.cells) (param_in_mono script m.cells g.more _ _ _ _ g.types g.nodes)

    pub field_in_grows : Le (S.field_in (env_of m)) (S.field_in (env_of m'))
    field_in_grows = subst (λ (c : List ℕ). Le (S.field_in (env_of m)) (S.field_in (env script c (type_shape_at script m') (node_shape_at script m')))) (sym g.cells) (field_in_mono script m.cells g.more _ _ _ _ g.types g.nodes)

    pub case_in_grows : Le (S.case_in (env_of m)) (S.case_in (env_of m'))
    case_in_grows = subst (λ (c : List ℕ). Le (S.case_in (env_of m)) (S.case_in (env script c (type_shape_at script m') (node_shape_at script m')))) (sym g.cells) (case_in_mono script m.cells g.more _ _ _ _ g.types g.nodes)

    pub fn_in_grows : Le (S.fn_in (env_of m)) (S.fn_in (env_of m'))
    fn_in_grows = subst (λ (c : List ℕ). Le (S.fn_in (env_of m)) (S.fn_in (env script c (type_shape_at script m') (node_shape_at script m')))) (sym g.cells) (fn_in_mono script m.cells g.more _ _ _ _ g.types g.nodes)

    pub words_grows : (r : Run) → S.words (env_of m) r ⊑ S.words (env_of m') r
    words_grows r = subst (λ (c : List ℕ). S.words (env_of m) r ⊑ S.words (env script c (type_shape_at script m') (node_shape_at script m')) r) (sym g.cells) (words_mono script m.cells g.more _ _ _ _ g.types g.nodes r)

    pub params_grows : (r : Run) → S.params (env_of m) r ⊑ S.params (env_of m') r
    params_grows r = subst (λ (c : List ℕ). S.params (env_of m) r ⊑ S.params (env script c (type_shape_at script m') (node_shape_at script m')) r) (sym g.cells) (params_mono script m.cells g.more _ _ _ _ g.types g.nodes r)

    pub shapes_grows : (r : Run) → S.shapes (env_of m) r ⊑ S.shapes (env_of m') r
    shapes_grows r = subst (λ (c : List ℕ). S.shapes (env_of m) r ⊑ S.shapes (env script c (type_shape_at script m') (node_shape_at script m')) r) (sym g.cells) (shapes_mono script m.cells g.more _ _ _ _ g.types g.nodes r)
