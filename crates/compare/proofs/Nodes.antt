-- When two nodes agree: their kinds are the same, and their parts agree.
use mathlib.Core.Path.{◌≡◌, refl, sym, ◌∙◌, ap, ap₂, subst}
use mathlib.Core.Logic.{⊎_elim}
use mathlib.Core.Bool.{Bool, true, false}
use mathlib.Core.Option.{Option, none, some}
use mathlib.Core.List.{List, [], ◌∷◌}
use Prim.Native.Nat.{ℕ, zero, suc, ◌+◌, ◌*◌, ◌<◌, ◌≤◌}
use native.Mathlib.Omega.{arith}
use native.Mathlib.Nat.{add-zero, zero-add, eq-or-lt_of_le}
use lib.Dec.{ltb, leb}
use lib.ListN.{length, get_or, get_or-eq_default}
use borrow.Author.Tests.{leb-true, leb-false, ltb-true, ltb-false, ne_eqb}
use Rattle.lex.proofs.Laws.{agree}
use Rattle.ast.specs.Layout.{node_width}
use Rattle.ast.specs.Schema.{node_schema}
use Rattle.rules.specs.Shape as S
use Rattle.rules.specs.Shape.{Shape, Env, w, node_shape}
use Rattle.ast.specs.Lists.{map₁, map₂, map₃, map₄, map₅, and_then}
use Rattle.ast.specs.declared.Run.{Run}
use Rattle.lex.specs.Bytes.{if}
use Rattle.ast.specs.Decode.{fits, run_at, node_of, nodes_by_kind, node_at}
use Rattle.ast.specs.Tabulate.{entry_at}
use Rattle.ast.proofs.Tabulate.{entries_below_lem, entries_past}
use Rattle.ast.proofs.LayoutLaws.{node-inside, node_outside, node_unknown}
use Rattle.compare.specs.Agree.{Agree, Decides}
use Rattle.compare.specs.Shapes.{node_row, View, types_in, nodes_below, env_below, kind_at, node_kind}
use Rattle.compare.specs.Parts.{Part, nothing, a_word, some_words, some_params, a_type, some_fns, some_nodes, some_fields, some_cases, a_node, read, PartAgrees, part_of, parts, Ordered, own, right_last, arguments_last, sort_at, cell_at, PartsAgree}
use Rattle.compare.proofs.Agree.{agree₁, part₁, agree₂, parts₂, decides_yes, decides_no, decides_by}
use Rattle.compare.proofs.RecordCells.{record_cells, number_in, run_in, token_in}
use Rattle.compare.proofs.Types.{made₁, made₂, kind_bound}

-- ---- constructors of three, four and five

module _ {A B C D : Type 0} (f : A → B → C → D) (inj : (a a' : A) (b b' : B) (c c' : C) → f a b c ≡ f a' b' c' → ((a ≡ a') × (b ≡ b')) × (c ≡ c')) where
  agree₃ : {x x' : Option A} {y y' : Option B} {z z' : Option C} → Agree x x' → Agree y y' → Agree z z' → Agree (map₃ f x y z) (map₃ f x' y' z')
  unfolding map₃ map₂ map₁
  agree₃ p q r = record { it = f p.it q.it r.it; left = rw (p.left, q.left, r.left); right = rw (p.right, q.right, r.right) }

  parts₃ : (x x' : Option A) (y y' : Option B) (z z' : Option C) → Agree (map₃ f x y z) (map₃ f x' y' z') → (Agree x x' × Agree y y') × Agree z z'
  unfolding map₃ map₂ map₁
  parts₃ none x' y y' z z' b = absurd (let u : ◌≡◌ {A = ℕ} 0 1 = cc b.left in omega arith)
  parts₃ (some a) none y y' z z' b = absurd (let u : ◌≡◌ {A = ℕ} 0 1 = cc b.right in omega arith)
  parts₃ (some a) (some a') none y' z z' b = absurd (let u : ◌≡◌ {A = ℕ} 0 1 = cc b.left in omega arith)
  parts₃ (some a) (some a') (some c) none z z' b = absurd (let u : ◌≡◌ {A = ℕ} 0 1 = cc b.right in omega arith)
  parts₃ (some a) (some a') (some c) (some c') none z' b = absurd (let u : ◌≡◌ {A = ℕ} 0 1 = cc b.left in omega arith)
  parts₃ (some a) (some a') (some c) (some c') (some d) none b = absurd (let u : ◌≡◌ {A = ℕ} 0 1 = cc b.right in omega arith)
  parts₃ (some a) (some a') (some c) (some c') (some d) (some d') b =
      let e : f a c d ≡ f a' c' d' = cc (b.left, b.right) in
      let i = inj a a' c c' d d' e in
      ((record { it = a; left = refl; right = ap some (sym i.0.0) }, record { it = c; left = refl; right = ap some (sym i.0.1) }), record { it = d; left = refl; right = ap some (sym i.1) })

-- one of four, as one of three whose last makes the rest
pair : {A B : Type 0} → A → B → A × B
pair a b = (a, b)

pair_inj : {A B : Type 0} (a a' : A) (b b' : B) → pair a b ≡ pair a' b' → (a ≡ a') × (b ≡ b')
unfolding pair
pair_inj {A} {B} a a' b b' e = (ap (λ (p : A × B). p.0) e, ap (λ (p : A × B). p.1) e)

pair_eq : {A B : Type 0} (p q : A × B) → p.0 ≡ q.0 → p.1 ≡ q.1 → p ≡ q
unfolding pair
pair_eq p q e f = ap₂ pair e f

map₄_as : {A B C D E : Type 0} (f : A → B → C → D → E) (x : Option A) (y : Option B) (z : Option C) (u : Option D) → map₄ f x y z u ≡ map₃ (λ a b p. f a b p.0 p.1) x y (map₂ pair z u)
unfolding map₄ map₃ map₂ map₁ pair
map₄_as f none y z u = refl
map₄_as f (some a) none z u = refl
map₄_as f (some a) (some b) none u = refl
map₄_as f (some a) (some b) (some c) none = refl
map₄_as f (some a) (some b) (some c) (some d) = refl

map₅_as : {A B C D E F : Type 0} (f : A → B → C → D → E → F) (x : Option A) (y : Option B) (z : Option C) (u : Option D) (v : Option E) → map₅ f x y z u v ≡ map₄ (λ a b c p. f a b c p.0 p.1) x y z (map₂ pair u v)
unfolding map₅ map₄ map₃ map₂ map₁ pair
map₅_as f none y z u v = refl
map₅_as f (some a) none z u v = refl
map₅_as f (some a) (some b) none u v = refl
map₅_as f (some a) (some b) (some c) none v = refl
map₅_as f (some a) (some b) (some c) (some d) none = refl
map₅_as f (some a) (some b) (some c) (some d) (some e) = refl

module _ {A B C D E : Type 0} (f : A → B → C → D → E) (inj : (a a' : A) (b b' : B) (c c' : C) (d d' : D) → f a b c d ≡ f a' b' c' d' → (((a ≡ a') × (b ≡ b')) × (c ≡ c')) × (d ≡ d')) where
  inj₄ : (a a' : A) (b b' : B) (p p' : C × D) → f a b p.0 p.1 ≡ f a' b' p'.0 p'.1 → ((a ≡ a') × (b ≡ b')) × (p ≡ p')
  inj₄ a a' b b' p p' e = let i = inj a a' b b' p.0 p'.0 p.1 p'.1 e in (i.0.0, pair_eq p p' i.0.1 i.1)

  agree₄ : {x x' : Option A} {y y' : Option B} {z z' : Option C} {u u' : Option D} → Agree x x' → Agree y y' → Agree z z' → Agree u u' → Agree (map₄ f x y z u) (map₄ f x' y' z' u')
  agree₄ p q r t = rw (map₄_as f, map₄_as f) (agree₃ (λ a b p. f a b p.0 p.1) inj₄ p q (agree₂ pair pair_inj r t))

  parts₄ : (x x' : Option A) (y y' : Option B) (z z' : Option C) (u u' : Option D) → Agree (map₄ f x y z u) (map₄ f x' y' z' u') → ((Agree x x' × Agree y y') × Agree z z') × Agree u u'
  parts₄ x x' y y' z z' u u' b =
      let k = parts₃ (λ a b p. f a b p.0 p.1) inj₄ x x' y y' (map₂ pair z u) (map₂ pair z' u') (rw (map₄_as f x y z u, map₄_as f x' y' z' u') at b) in
      let l = parts₂ pair pair_inj z z' u u' k.1 in
      ((k.0, l.0), l.1)

module _ {A B C D E F : Type 0} (f : A → B → C → D → E → F) (inj : (a a' : A) (b b' : B) (c c' : C) (d d' : D) (e e' : E) → f a b c d e ≡ f a' b' c' d' e' → ((((a ≡ a') × (b ≡ b')) × (c ≡ c')) × (d ≡ d')) × (e ≡ e')) where
  inj₅ : (a a' : A) (b b' : B) (c c' : C) (p p' : D × E) → f a b c p.0 p.1 ≡ f a' b' c' p'.0 p'.1 → (((a ≡ a') × (b ≡ b')) × (c ≡ c')) × (p ≡ p')
  inj₅ a a' b b' c c' p p' e = let i = inj a a' b b' c c' p.0 p'.0 p.1 p'.1 e in (i.0.0, pair_eq p p' i.0.1 i.1)

  agree₅ : {x x' : Option A} {y y' : Option B} {z z' : Option C} {u u' : Option D} {v v' : Option E} → Agree x x' → Agree y y' → Agree z z' → Agree u u' → Agree v v' → Agree (map₅ f x y z u v) (map₅ f x' y' z' u' v')
  agree₅ p q r t o = rw (map₅_as f, map₅_as f) (agree₄ (λ a b c p. f a b c p.0 p.1) inj₅ p q r (agree₂ pair pair_inj t o))

  parts₅ : (x x' : Option A) (y y' : Option B) (z z' : Option C) (u u' : Option D) (v v' : Option E) → Agree (map₅ f x y z u v) (map₅ f x' y' z' u' v') → (((Agree x x' × Agree y y') × Agree z z') × Agree u u') × Agree v v'
  parts₅ x x' y y' z z' u u' v v' b =
      let k = parts₄ (λ a b c p. f a b c p.0 p.1) inj₅ x x' y y' z z' (map₂ pair u v) (map₂ pair u' v') (rw (map₅_as f x y z u v, map₅_as f x' y' z' u' v') at b) in
      let l = parts₂ pair pair_inj u u' v v' k.1 in
      ((k.0, l.0), l.1)

-- ---- a node's record by its parts

-- what a record of each kind from 0 on says
nodes_by_parts : Env → List ℕ → List (Option Shape)
nodes_by_parts e cs =
    none ∷
    map₁ S.atom (read e a_word cs 2) ∷
    map₁ S.ident (read e a_word cs 2) ∷
    map₃ S.bin (read e a_word cs 2) (read e a_node cs 5) (read e a_node cs 6) ∷
    map₂ S.unary (read e a_word cs 2) (read e a_node cs 5) ∷
    map₃ S.let_s (read e some_words cs 2) (read e a_word cs 4) (read e a_node cs 7) ∷
    map₅ S.fn_s (read e some_words cs 2) (read e a_word cs 4) (read e some_params cs 7) (read e a_type cs 9) (read e some_nodes cs 10) ∷
    map₃ S.match_s (read e some_cases cs 2) (read e a_word cs 4) (read e some_nodes cs 7) ∷
    map₂ S.call (read e a_node cs 2) (read e some_nodes cs 3) ∷
    map₂ S.field (read e a_node cs 2) (read e a_word cs 3) ∷
    map₃ S.cast (read e a_word cs 2) (read e a_node cs 5) (read e a_type cs 6) ∷
    map₂ S.import_s (read e a_word cs 2) (read e some_words cs 5) ∷
    map₄ S.extern_s (read e a_word cs 2) (read e some_words cs 5) (read e a_word cs 7) (read e some_fns cs 10) ∷
    map₂ S.record_s (read e a_word cs 2) (read e some_fields cs 5) ∷
    map₂ S.array (read e a_word cs 2) (read e some_nodes cs 5) ∷
    []

node_by_parts : Env → List ℕ → ℕ → Option Shape
node_by_parts e cs kind = get_or (nodes_by_parts e cs) kind none

-- a claim of every kind from 0 on
up_to14 : (P : ℕ → Type 0) → P 0 → P 1 → P 2 → P 3 → P 4 → P 5 → P 6 → P 7 → P 8 → P 9 → P 10 → P 11 → P 12 → P 13 → P 14 → (g : ℕ) → g ≤ 14 → P g
up_to14 P p₀ p₁ p₂ p₃ p₄ p₅ p₆ p₇ p₈ p₉ p₁₀ p₁₁ p₁₂ p₁₃ p₁₄ zero l = p₀
up_to14 P p₀ p₁ p₂ p₃ p₄ p₅ p₆ p₇ p₈ p₉ p₁₀ p₁₁ p₁₂ p₁₃ p₁₄ (suc zero) l = p₁
up_to14 P p₀ p₁ p₂ p₃ p₄ p₅ p₆ p₇ p₈ p₉ p₁₀ p₁₁ p₁₂ p₁₃ p₁₄ (suc (suc zero)) l = p₂
up_to14 P p₀ p₁ p₂ p₃ p₄ p₅ p₆ p₇ p₈ p₉ p₁₀ p₁₁ p₁₂ p₁₃ p₁₄ (suc (suc (suc zero))) l = p₃
up_to14 P p₀ p₁ p₂ p₃ p₄ p₅ p₆ p₇ p₈ p₉ p₁₀ p₁₁ p₁₂ p₁₃ p₁₄ (suc (suc (suc (suc zero)))) l = p₄
up_to14 P p₀ p₁ p₂ p₃ p₄ p₅ p₆ p₇ p₈ p₉ p₁₀ p₁₁ p₁₂ p₁₃ p₁₄ (suc (suc (suc (suc (suc zero))))) l = p₅
up_to14 P p₀ p₁ p₂ p₃ p₄ p₅ p₆ p₇ p₈ p₉ p₁₀ p₁₁ p₁₂ p₁₃ p₁₄ (suc (suc (suc (suc (suc (suc zero)))))) l = p₆
up_to14 P p₀ p₁ p₂ p₃ p₄ p₅ p₆ p₇ p₈ p₉ p₁₀ p₁₁ p₁₂ p₁₃ p₁₄ (suc (suc (suc (suc (suc (suc (suc zero))))))) l = p₇
up_to14 P p₀ p₁ p₂ p₃ p₄ p₅ p₆ p₇ p₈ p₉ p₁₀ p₁₁ p₁₂ p₁₃ p₁₄ (suc (suc (suc (suc (suc (suc (suc (suc zero)))))))) l = p₈
up_to14 P p₀ p₁ p₂ p₃ p₄ p₅ p₆ p₇ p₈ p₉ p₁₀ p₁₁ p₁₂ p₁₃ p₁₄ (suc (suc (suc (suc (suc (suc (suc (suc (suc zero))))))))) l = p₉
up_to14 P p₀ p₁ p₂ p₃ p₄ p₅ p₆ p₇ p₈ p₉ p₁₀ p₁₁ p₁₂ p₁₃ p₁₄ (suc (suc (suc (suc (suc (suc (suc (suc (suc (suc zero)))))))))) l = p₁₀
up_to14 P p₀ p₁ p₂ p₃ p₄ p₅ p₆ p₇ p₈ p₉ p₁₀ p₁₁ p₁₂ p₁₃ p₁₄ (suc (suc (suc (suc (suc (suc (suc (suc (suc (suc (suc zero))))))))))) l = p₁₁
up_to14 P p₀ p₁ p₂ p₃ p₄ p₅ p₆ p₇ p₈ p₉ p₁₀ p₁₁ p₁₂ p₁₃ p₁₄ (suc (suc (suc (suc (suc (suc (suc (suc (suc (suc (suc (suc zero)))))))))))) l = p₁₂
up_to14 P p₀ p₁ p₂ p₃ p₄ p₅ p₆ p₇ p₈ p₉ p₁₀ p₁₁ p₁₂ p₁₃ p₁₄ (suc (suc (suc (suc (suc (suc (suc (suc (suc (suc (suc (suc (suc zero))))))))))))) l = p₁₃
up_to14 P p₀ p₁ p₂ p₃ p₄ p₅ p₆ p₇ p₈ p₉ p₁₀ p₁₁ p₁₂ p₁₃ p₁₄ (suc (suc (suc (suc (suc (suc (suc (suc (suc (suc (suc (suc (suc (suc zero)))))))))))))) l = p₁₄
up_to14 P p₀ p₁ p₂ p₃ p₄ p₅ p₆ p₇ p₈ p₉ p₁₀ p₁₁ p₁₂ p₁₃ p₁₄ (suc (suc (suc (suc (suc (suc (suc (suc (suc (suc (suc (suc (suc (suc (suc g))))))))))))))) l = absurd (omega arith)

by_kind_lem : (e : Env) (cs : List ℕ) (g : ℕ) → get_or cs 0 0 ≡ g → g ≤ 14 → and_then (node_of cs) (node_shape e) ≡ node_by_parts e cs g
unfolding node_of nodes_by_kind node_by_parts nodes_by_parts node_shape and_then
by_kind_lem e cs g h l = rw h (up_to14 (λ (n : ℕ). and_then (get_or (none ∷ nodes_by_kind cs) n none) (node_shape e) ≡ get_or (nodes_by_parts e cs) n none) refl refl refl refl refl refl refl refl refl refl refl refl refl refl refl g l)

-- ---- nodes that agree have one kind

tag_of : Shape → ℕ
tag_of (S.atom a) = 1
tag_of (S.ident a) = 2
tag_of (S.bin a b c) = 3
tag_of (S.unary a b) = 4
tag_of (S.let_s a b c) = 5
tag_of (S.fn_s a b c d e) = 6
tag_of (S.match_s a b c) = 7
tag_of (S.call a b) = 8
tag_of (S.field a b) = 9
tag_of (S.cast a b c) = 10
tag_of (S.import_s a b) = 11
tag_of (S.extern_s a b c d) = 12
tag_of (S.record_s a b) = 13
tag_of (S.array a b) = 14

module _ {A B C D : Type 0} (f : A → B → C → D) (g : D → ℕ) (n : ℕ) (h : (a : A) (b : B) (c : C) → g (f a b c) ≡ n) where
  made₃ : (x : Option A) (y : Option B) (z : Option C) (d : D) → map₃ f x y z ≡ some d → g d ≡ n
  unfolding map₃
  made₃ none y z d e = absurd (let u : ◌≡◌ {A = ℕ} 0 1 = cc in omega arith)
  made₃ (some a) y z d e = made₂ (f a) g n (h a) y z d e

rest₅ : {A B C D E F : Type 0} (f : A → B → C → D → E → F) (x : Option A) (y : Option B) (z : Option C) (u : Option D) (v : Option E) → map₅ f x y z u v ≡ map₃ (λ a b p. f a b p.0 p.1.0 p.1.1) x y (map₂ pair z (map₂ pair u v))
rest₅ f x y z u v = map₅_as f x y z u v ∙ map₄_as (λ a b c p. f a b c p.0 p.1) x y z (map₂ pair u v)

kind_is : (e : Env) (cs : List ℕ) (g : ℕ) → g ≤ 14 → (σ : Shape) → node_by_parts e cs g ≡ some σ → tag_of σ ≡ g
unfolding node_by_parts nodes_by_parts tag_of
kind_is e cs g l = up_to14 (λ (n : ℕ). (σ : Shape) → get_or (nodes_by_parts e cs) n none ≡ some σ → tag_of σ ≡ n)
    (λ σ h. absurd (let z : ◌≡◌ {A = ℕ} 0 1 = cc in omega arith))
    (λ σ h. made₁ S.atom tag_of 1 (λ a. refl) _ σ h)
    (λ σ h. made₁ S.ident tag_of 2 (λ a. refl) _ σ h)
    (λ σ h. made₃ S.bin tag_of 3 (λ a b c. refl) _ _ _ σ h)
    (λ σ h. made₂ S.unary tag_of 4 (λ a b. refl) _ _ σ h)
    (λ σ h. made₃ S.let_s tag_of 5 (λ a b c. refl) _ _ _ σ h)
    (λ σ h. made₃ (λ a b p. S.fn_s a b p.0 p.1.0 p.1.1) tag_of 6 (λ a b c. refl) _ _ _ σ (sym (rest₅ S.fn_s _ _ _ _ _) ∙ h))
    (λ σ h. made₃ S.match_s tag_of 7 (λ a b c. refl) _ _ _ σ h)
    (λ σ h. made₂ S.call tag_of 8 (λ a b. refl) _ _ σ h)
    (λ σ h. made₂ S.field tag_of 9 (λ a b. refl) _ _ σ h)
    (λ σ h. made₃ S.cast tag_of 10 (λ a b c. refl) _ _ _ σ h)
    (λ σ h. made₂ S.import_s tag_of 11 (λ a b. refl) _ _ σ h)
    (λ σ h. made₃ (λ a b p. S.extern_s a b p.0 p.1) tag_of 12 (λ a b c. refl) _ _ _ σ (sym (map₄_as S.extern_s _ _ _ _) ∙ h))
    (λ σ h. made₂ S.record_s tag_of 13 (λ a b. refl) _ _ σ h)
    (λ σ h. made₂ S.array tag_of 14 (λ a b. refl) _ _ σ h)
    g l

-- ---- and their parts agree

ok : Agree {A = ℕ} (some 0) (some 0)
ok = record { it = 0; left = refl; right = refl }

six : (P : ℕ → Type 0) → P 0 → P 1 → P 2 → P 3 → P 4 → P 5 → (x : ℕ) → x < 6 → P x
six P p₀ p₁ p₂ p₃ p₄ p₅ zero l = p₀
six P p₀ p₁ p₂ p₃ p₄ p₅ (suc zero) l = p₁
six P p₀ p₁ p₂ p₃ p₄ p₅ (suc (suc zero)) l = p₂
six P p₀ p₁ p₂ p₃ p₄ p₅ (suc (suc (suc zero))) l = p₃
six P p₀ p₁ p₂ p₃ p₄ p₅ (suc (suc (suc (suc zero)))) l = p₄
six P p₀ p₁ p₂ p₃ p₄ p₅ (suc (suc (suc (suc (suc zero))))) l = p₅
six P p₀ p₁ p₂ p₃ p₄ p₅ (suc (suc (suc (suc (suc (suc x)))))) l = absurd (omega arith)

-- a claim comes to six parts
record Splits (Q : Type 0) (P : ℕ → Type 0) : Type 0 where
  pub split : Q → (x : ℕ) → x < 6 → P x
  pub join : P 0 → P 1 → P 2 → P 3 → P 4 → P 5 → Q

module _ (e e' : Env) (cs cs' : List ℕ) where
  Whole : ℕ → Type 0
  Whole g = Agree (node_by_parts e cs g) (node_by_parts e' cs' g)

  Each : ℕ → ℕ → Type 0
  Each g = PartsAgree e e' g cs 0 cs' 0

  parts_of_lem : (g : ℕ) → g ≤ 14 → (g ≡ 0 → ⊥) → Splits (Whole g) (Each g)
  unfolding Whole Each node_by_parts nodes_by_parts PartsAgree PartAgrees part_of sort_at cell_at parts node_schema
  parts_of_lem g l = up_to14 (λ (n : ℕ). (n ≡ 0 → ⊥) → Splits (Whole n) (Each n))
      (λ z. absurd (z refl))
      (λ z. record { split = λ b. six (Each 1) (part₁ S.atom (λ x y q. cc) _ _ b) ok ok ok ok ok; join = λ a b c d f h. agree₁ S.atom (λ x y q. cc) a })
      (λ z. record { split = λ b. six (Each 2) (part₁ S.ident (λ x y q. cc) _ _ b) ok ok ok ok ok; join = λ a b c d f h. agree₁ S.ident (λ x y q. cc) a })
      (λ z. record { split = λ b. let p = parts₃ S.bin (λ x y u v o q w. ((cc, cc), cc)) _ _ _ _ _ _ b in six (Each 3) p.0.0 p.1 ok ok ok p.0.1; join = λ a b c d f h. agree₃ S.bin (λ x y u v o q w. ((cc, cc), cc)) a h b })
      (λ z. record { split = λ b. let p = parts₂ S.unary (λ x y u v q. (cc, cc)) _ _ _ _ b in six (Each 4) p.0 ok ok ok ok p.1; join = λ a b c d f h. agree₂ S.unary (λ x y u v q. (cc, cc)) a h })
      (λ z. record { split = λ b. let p = parts₃ S.let_s (λ x y u v o q w. ((cc, cc), cc)) _ _ _ _ _ _ b in six (Each 5) p.0.0 p.0.1 ok ok ok p.1; join = λ a b c d f h. agree₃ S.let_s (λ x y u v o q w. ((cc, cc), cc)) a b h })
      (λ z. record { split = λ b. let p = parts₅ S.fn_s (λ x x' y y' u u' v v' o o' q. ((((cc, cc), cc), cc), cc)) _ _ _ _ _ _ _ _ _ _ b in six (Each 6) p.0.0.0.0 p.0.0.0.1 p.0.0.1 p.0.1 ok p.1; join = λ a b c d f h. agree₅ S.fn_s (λ x x' y y' u u' v v' o o' q. ((((cc, cc), cc), cc), cc)) a b c d h })
      (λ z. record { split = λ b. let p = parts₃ S.match_s (λ x y u v o q w. ((cc, cc), cc)) _ _ _ _ _ _ b in six (Each 7) p.0.0 p.0.1 ok ok ok p.1; join = λ a b c d f h. agree₃ S.match_s (λ x y u v o q w. ((cc, cc), cc)) a b h })
      (λ z. record { split = λ b. let p = parts₂ S.call (λ x y u v q. (cc, cc)) _ _ _ _ b in six (Each 8) p.1 ok ok ok ok p.0; join = λ a b c d f h. agree₂ S.call (λ x y u v q. (cc, cc)) h a })
      (λ z. record { split = λ b. let p = parts₂ S.field (λ x y u v q. (cc, cc)) _ _ _ _ b in six (Each 9) p.1 ok ok ok ok p.0; join = λ a b c d f h. agree₂ S.field (λ x y u v q. (cc, cc)) h a })
      (λ z. record { split = λ b. let p = parts₃ S.cast (λ x y u v o q w. ((cc, cc), cc)) _ _ _ _ _ _ b in six (Each 10) p.0.0 p.1 ok ok ok p.0.1; join = λ a b c d f h. agree₃ S.cast (λ x y u v o q w. ((cc, cc), cc)) a h b })
      (λ z. record { split = λ b. let p = parts₂ S.import_s (λ x y u v q. (cc, cc)) _ _ _ _ b in six (Each 11) p.0 p.1 ok ok ok ok; join = λ a b c d f h. agree₂ S.import_s (λ x y u v q. (cc, cc)) a b })
      (λ z. record { split = λ b. let p = parts₄ S.extern_s (λ x x' y y' u u' v v' q. (((cc, cc), cc), cc)) _ _ _ _ _ _ _ _ b in six (Each 12) p.0.0.0 p.0.0.1 p.0.1 p.1 ok ok; join = λ a b c d f h. agree₄ S.extern_s (λ x x' y y' u u' v v' q. (((cc, cc), cc), cc)) a b c d })
      (λ z. record { split = λ b. let p = parts₂ S.record_s (λ x y u v q. (cc, cc)) _ _ _ _ b in six (Each 13) p.0 ok ok ok ok p.1; join = λ a b c d f h. agree₂ S.record_s (λ x y u v q. (cc, cc)) a h })
      (λ z. record { split = λ b. let p = parts₂ S.array (λ x y u v q. (cc, cc)) _ _ _ _ b in six (Each 14) p.0 ok ok ok ok p.1; join = λ a b c d f h. agree₂ S.array (λ x y u v q. (cc, cc)) a h })
      g l

  -- in whatever order
  parts_in : {g order : ℕ} → Ordered g order → g ≤ 14 → (g ≡ 0 → ⊥) → Splits (Whole g) (Each order)
  unfolding Whole Each node_by_parts nodes_by_parts PartsAgree PartAgrees part_of sort_at cell_at parts node_schema
  parts_in (own {kind}) l z = parts_of_lem kind l z
  parts_in right_last l z = record { split = λ b. let p = parts₃ S.bin (λ x y u v o q w. ((cc, cc), cc)) _ _ _ _ _ _ b in six (Each 15) p.0.0 p.0.1 ok ok ok p.1; join = λ a b c d f h. agree₃ S.bin (λ x y u v o q w. ((cc, cc), cc)) a b h }
  parts_in arguments_last l z = record { split = λ b. let p = parts₂ S.call (λ x y u v q. (cc, cc)) _ _ _ _ b in six (Each 16) p.0 ok ok ok ok p.1; join = λ a b c d f h. agree₂ S.call (λ x y u v q. (cc, cc)) a h }

-- ---- the parts of a record lie in its array

pub cell_small : (k : ℕ) → cell_at k ≤ 10
unfolding cell_at parts node_schema
cell_small k = go (ltb k 102) refl
  where
    go : (b : Bool) → ltb k 102 ≡ b → cell_at k ≤ 10
    go true e = leb-true _ _ (agree (λ (n : ℕ). leb (cell_at n) 10) (λ (n : ℕ). true) true 102 k refl (ltb-true k 102 e))
    go false e = rw (get_or-eq_default parts 0 {n = k} (ltb-false k 102 e)) (omega arith)

move : {A : Type 0} {x x' y y' : Option A} → x ≡ x' → y ≡ y' → Agree x y → Agree x' y'
move p q b = record { it = b.it; left = sym p ∙ b.left; right = sym q ∙ b.right }

read_in : (e : Env) (κ : Part) (xs : List ℕ) (p o : ℕ) → o ≤ 10 → read e κ (record_cells node_width xs p) (0 + o) ≡ read e κ xs (p + o)
read_in e nothing xs p o h = refl
read_in e a_word xs p o h = rw zero-add (ap (w e) (token_in 16 xs p o (omega arith)))
read_in e some_words xs p o h = rw zero-add (ap (S.words e) (run_in 16 xs p o (omega arith)))
read_in e some_params xs p o h = rw zero-add (ap (S.params e) (run_in 16 xs p o (omega arith)))
read_in e a_type xs p o h = rw zero-add (ap e.type (number_in 16 xs p o (omega arith)))
read_in e some_fns xs p o h = rw zero-add (ap (S.fns e) (run_in 16 xs p o (omega arith)))
read_in e some_nodes xs p o h = rw zero-add (ap (S.shapes e) (run_in 16 xs p o (omega arith)))
read_in e some_fields xs p o h = rw zero-add (ap (S.fields e) (run_in 16 xs p o (omega arith)))
read_in e some_cases xs p o h = rw zero-add (ap (S.cases e) (run_in 16 xs p o (omega arith)))
read_in e a_node xs p o h = rw zero-add (ap e.node (number_in 16 xs p o (omega arith)))

module _ (e e' : Env) (xs xs' : List ℕ) (p p' g x : ℕ) where
  into : Each e e' (record_cells node_width xs p) (record_cells node_width xs' p') g x → PartsAgree e e' g xs p xs' p' x
  unfolding Each PartsAgree PartAgrees
  into b = let o = cell_at (6 * g + x) in let κ = part_of (sort_at (6 * g + x)) in move (read_in e κ xs p o (cell_small (6 * g + x))) (read_in e' κ xs' p' o (cell_small (6 * g + x))) b

  outof : PartsAgree e e' g xs p xs' p' x → Each e e' (record_cells node_width xs p) (record_cells node_width xs' p') g x
  unfolding Each PartsAgree PartAgrees
  outof b = let o = cell_at (6 * g + x) in let κ = part_of (sort_at (6 * g + x)) in move (sym (read_in e κ xs p o (cell_small (6 * g + x)))) (sym (read_in e' κ xs' p' o (cell_small (6 * g + x)))) b

-- what decides the last part, by its sort
module _ (e e' : Env) (xs xs' : List ℕ) (p p' g : ℕ) where
  by_sort : {r : Bool} (κ : Part) → part_of (sort_at (6 * g + 5)) ≡ κ → Decides r (PartAgrees e e' κ xs (p + cell_at (6 * g + 5)) xs' (p' + cell_at (6 * g + 5))) → Decides r (PartsAgree e e' g xs p xs' p' 5)
  unfolding PartsAgree
  by_sort {r} κ q d = subst (λ (κ : Part). Decides r (PartAgrees e e' κ xs (p + cell_at (6 * g + 5)) xs' (p' + cell_at (6 * g + 5)))) (sym q) d

  pub last-nothing : sort_at (6 * g + 5) ≡ 0 → Decides true (PartsAgree e e' g xs p xs' p' 5)
  unfolding part_of PartAgrees
  last-nothing z = by_sort nothing (ap part_of z) (decides_yes ok)

  pub last-node : {r : Bool} → sort_at (6 * g + 5) ≡ 9 → Decides r (Agree (e.node (get_or xs (p + cell_at (6 * g + 5)) 0)) (e'.node (get_or xs' (p' + cell_at (6 * g + 5)) 0))) → Decides r (PartsAgree e e' g xs p xs' p' 5)
  unfolding part_of PartAgrees
  last-node z d = by_sort a_node (ap part_of z) d

  pub last-nodes : {b : Bool} {r r' : Run} → sort_at (6 * g + 5) ≡ 6 → r ≡ run_at xs (p + cell_at (6 * g + 5)) → r' ≡ run_at xs' (p' + cell_at (6 * g + 5))
      → Decides b (Agree (S.shapes e r) (S.shapes e' r')) → Decides b (PartsAgree e e' g xs p xs' p' 5)
  unfolding part_of PartAgrees
  last-nodes z q q' d = by_sort some_nodes (ap part_of z) (rw (q, q') at d)

  pub last-fields : {b : Bool} {r r' : Run} → sort_at (6 * g + 5) ≡ 7 → r ≡ run_at xs (p + cell_at (6 * g + 5)) → r' ≡ run_at xs' (p' + cell_at (6 * g + 5))
      → Decides b (Agree (S.fields e r) (S.fields e' r')) → Decides b (PartsAgree e e' g xs p xs' p' 5)
  unfolding part_of PartAgrees
  last-fields z q q' d = by_sort some_fields (ap part_of z) (rw (q, q') at d)

-- ---- node `i` of the arrays

module _ (v : View) where
  row_is : (i : ℕ) → and_then (node_at v.nodes i) (node_shape (env_below v i)) ≡ node_by_parts (env_below v i) (record_cells node_width v.nodes (node_width * i)) (node_kind v.nodes i)
  unfolding node_by_parts nodes_by_parts and_then kind_at
  row_is i = inside (fits node_width v.nodes i) refl
    where
      none_is : node_at v.nodes i ≡ none → and_then (node_at v.nodes i) (node_shape (env_below v i)) ≡ node_by_parts (env_below v i) (record_cells node_width v.nodes (node_width * i)) 0
      none_is h = rw h

      first : get_or (record_cells node_width v.nodes (node_width * i)) 0 0 ≡ get_or v.nodes (node_width * i) 0
      first = number_in 16 v.nodes (node_width * i) 0 (omega arith) ∙ ap (λ k. get_or v.nodes k 0) (add-zero (node_width * i))

      known : (b : Bool) → node_width * i + node_width ≤ length v.nodes → leb (get_or v.nodes (node_width * i) 0) 14 ≡ b
          → and_then (node_at v.nodes i) (node_shape (env_below v i)) ≡ node_by_parts (env_below v i) (record_cells node_width v.nodes (node_width * i)) (if b (get_or v.nodes (node_width * i) 0) 0)
      known true h k = ap (λ o. and_then o (node_shape (env_below v i))) (node-inside v.nodes i h) ∙ by_kind_lem (env_below v i) (record_cells node_width v.nodes (node_width * i)) (get_or v.nodes (node_width * i) 0) first (leb-true _ _ k)
      known false h k = none_is (node-inside v.nodes i h ∙ node_unknown (record_cells node_width v.nodes (node_width * i)) (λ z. rw first (leb-false _ _ k)))

      inside : (b : Bool) → fits node_width v.nodes i ≡ b → and_then (node_at v.nodes i) (node_shape (env_below v i)) ≡ node_by_parts (env_below v i) (record_cells node_width v.nodes (node_width * i)) (node_kind v.nodes i)
      inside true h = rw h (known (leb (get_or v.nodes (node_width * i) 0) 14) (leb-true _ _ h) refl)
      inside false h = rw h (none_is (node_outside v.nodes i (leb-false _ _ h)))

  node_is : (n i : ℕ) → i < n → nodes_below v n i ≡ node_by_parts (env_below v i) (record_cells node_width v.nodes (node_width * i)) (node_kind v.nodes i)
  unfolding nodes_below entry_at
  node_is n i h = entries_below_lem (node_row v.script v.cells (types_in v)) (node_at v.nodes) n i h ∙ row_is i

  node_past : (n i : ℕ) → n ≤ i → nodes_below v n i ≡ none
  unfolding nodes_below
  node_past n i h = entries_past (node_row v.script v.cells (types_in v)) (node_at v.nodes) n i h

-- two of them
module _ (v v' : View) (n i m j : ℕ) where
  pub node_past_left : n ≤ i → Decides false (Agree (nodes_below v n i) (nodes_below v' m j))
  node_past_left h = decides_no (λ b. let x = node_past v n i h in let l = b.left in let z : ◌≡◌ {A = ℕ} 0 1 = cc in omega arith)

  pub node_past_right : m ≤ j → Decides false (Agree (nodes_below v n i) (nodes_below v' m j))
  node_past_right h = decides_no (λ b. let x = node_past v' m j h in let l = b.right in let z : ◌≡◌ {A = ℕ} 0 1 = cc in omega arith)

  pub node-zero_left : i < n → node_kind v.nodes i ≡ 0 → Decides false (Agree (nodes_below v n i) (nodes_below v' m j))
  unfolding node_by_parts nodes_by_parts
  node-zero_left h q = decides_no (λ b. let x : nodes_below v n i ≡ none = node_is v n i h ∙ ap (node_by_parts (env_below v i) (record_cells node_width v.nodes (node_width * i))) q in let l = b.left in let z : ◌≡◌ {A = ℕ} 0 1 = cc in omega arith)

  pub node-zero_right : j < m → node_kind v'.nodes j ≡ 0 → Decides false (Agree (nodes_below v n i) (nodes_below v' m j))
  unfolding node_by_parts nodes_by_parts
  node-zero_right h q = decides_no (λ b. let x : nodes_below v' m j ≡ none = node_is v' m j h ∙ ap (node_by_parts (env_below v' j) (record_cells node_width v'.nodes (node_width * j))) q in let l = b.right in let z : ◌≡◌ {A = ℕ} 0 1 = cc in omega arith)

  module _ (h : i < n) (h' : j < m) {g g' : ℕ} (k : g ≡ node_kind v.nodes i) (k' : g' ≡ node_kind v'.nodes j) where
    left_is : nodes_below v n i ≡ node_by_parts (env_below v i) (record_cells node_width v.nodes (node_width * i)) g
    left_is = rw k (node_is v n i h)

    right_is : nodes_below v' m j ≡ node_by_parts (env_below v' j) (record_cells node_width v'.nodes (node_width * j)) g'
    right_is = rw k' (node_is v' m j h')

    bound : g ≤ 14
    bound = rw k (kind_bound 14 v.nodes node_width i)

    bound' : g' ≤ 14
    bound' = rw k' (kind_bound 14 v'.nodes node_width j)

    pub other_node_kind : (g ≡ g' → ⊥) → Decides false (Agree (nodes_below v n i) (nodes_below v' m j))
    other_node_kind f = decides_no (λ b. f (sym (kind_is (env_below v i) _ g bound b.it (sym left_is ∙ b.left)) ∙ kind_is (env_below v' j) _ g' bound' b.it (sym right_is ∙ b.right)))

    module _ (f : g ≡ g') (nz : g ≡ 0 → ⊥) {order : ℕ} (o : Ordered g order) where
      splits : Splits (Whole (env_below v i) (env_below v' j) (record_cells node_width v.nodes (node_width * i)) (record_cells node_width v'.nodes (node_width * j)) g) (Each (env_below v i) (env_below v' j) (record_cells node_width v.nodes (node_width * i)) (record_cells node_width v'.nodes (node_width * j)) order)
      splits = parts_in (env_below v i) (env_below v' j) _ _ o bound nz

      unmade : Agree (nodes_below v n i) (nodes_below v' m j) → (x : ℕ) → x < 6 → PartsAgree (env_below v i) (env_below v' j) order v.nodes (node_width * i) v'.nodes (node_width * j) x
      unfolding Whole
      unmade b x l = into (env_below v i) (env_below v' j) v.nodes v'.nodes (node_width * i) (node_width * j) order x (splits.split (move left_is (right_is ∙ ap (node_by_parts (env_below v' j) (record_cells node_width v'.nodes (node_width * j))) (sym f)) b) x l)

      remade : ((x : ℕ) → x < 5 → PartsAgree (env_below v i) (env_below v' j) order v.nodes (node_width * i) v'.nodes (node_width * j) x) → PartsAgree (env_below v i) (env_below v' j) order v.nodes (node_width * i) v'.nodes (node_width * j) 5 → Agree (nodes_below v n i) (nodes_below v' m j)
      unfolding Whole
      remade q r =
          let back = outof (env_below v i) (env_below v' j) v.nodes v'.nodes (node_width * i) (node_width * j) order in
          move (sym left_is) (sym (right_is ∙ ap (node_by_parts (env_below v' j) (record_cells node_width v'.nodes (node_width * j))) (sym f))) (splits.join (back 0 (q 0 (omega arith))) (back 1 (q 1 (omega arith))) (back 2 (q 2 (omega arith))) (back 3 (q 3 (omega arith))) (back 4 (q 4 (omega arith))) (back 5 r))

      pub parts_differ : (((x : ℕ) → x < 5 → PartsAgree (env_below v i) (env_below v' j) order v.nodes (node_width * i) v'.nodes (node_width * j) x) → ⊥) → Decides false (Agree (nodes_below v n i) (nodes_below v' m j))
      parts_differ d = decides_no (λ b. d (λ x l. unmade b x (omega arith)))

      module _ (q : (x : ℕ) → x < 5 → PartsAgree (env_below v i) (env_below v' j) order v.nodes (node_width * i) v'.nodes (node_width * j) x) where
        -- the last part decides
        pub by_last : {r : Bool} → Decides r (PartsAgree (env_below v i) (env_below v' j) order v.nodes (node_width * i) v'.nodes (node_width * j) 5) → Decides r (Agree (nodes_below v n i) (nodes_below v' m j))
        by_last d = decides_by (remade q) (λ b. unmade b 5 (omega arith)) d

pub node-kind_bound : (xs : List ℕ) (i : ℕ) {g : ℕ} → g ≡ node_kind xs i → g < 15
node-kind_bound xs i e = rw e (let h = kind_bound 14 xs node_width i in omega arith)

-- one more part
pub more_parts : (P : ℕ → Type 0) (x : ℕ) → ((y : ℕ) → y < x → P y) → P x → (y : ℕ) → y < x + 1 → P y
more_parts P x f p y l = ⊎_elim (λ (e : y ≡ x). subst P (sym e) p) (λ (h : y < x). f y h) (eq-or-lt_of_le (let h : y ≤ x = omega arith in h))

-- no other number is that of a sort
pub part_nothing : (k : ℕ) → (k ≡ 1 → ⊥) → (k ≡ 2 → ⊥) → (k ≡ 3 → ⊥) → (k ≡ 4 → ⊥) → (k ≡ 5 → ⊥) → (k ≡ 6 → ⊥) → (k ≡ 7 → ⊥) → (k ≡ 8 → ⊥) → (k ≡ 9 → ⊥) → part_of k ≡ nothing
unfolding part_of
part_nothing k a b c d e f g h i = rw (ne_eqb k 1 a, ne_eqb k 2 b, ne_eqb k 3 c, ne_eqb k 4 d, ne_eqb k 5 e, ne_eqb k 6 f, ne_eqb k 7 g, ne_eqb k 8 h, ne_eqb k 9 i)

-- where nothing stands, nothing differs
pub nothing_agrees : (e e' : Env) (xs : List ℕ) (o : ℕ) (xs' : List ℕ) (o' : ℕ) → PartAgrees e e' nothing xs o xs' o'
unfolding PartAgrees
nothing_agrees e e' xs o xs' o' = ok
