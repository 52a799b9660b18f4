-- When two types agree.
use mathlib.Core.Path.{◌≡◌, refl, sym, ◌∙◌, ap, ap₂}
use mathlib.Core.Bool.{Bool, true, false}
use mathlib.Core.Option.{Option, none, some}
use mathlib.Core.List.{List, [], ◌∷◌}
use Prim.Native.Nat.{ℕ, zero, suc, ◌+◌, ◌*◌, ◌<◌, ◌≤◌}
use native.Mathlib.Omega.{arith}
use native.Mathlib.Nat.{add-zero}
use lib.Dec.{leb}
use lib.ListN.{length, get_or}
use borrow.Author.Tests.{leb-true, leb-false}
use Rattle.ast.specs.Layout.{type_width}
use Rattle.rules.specs.Shape.{TypeShape, atom_t, foreign_t, option_t, array_t, record_t, Env, word, w, params, type_shape}
use Rattle.ast.specs.Lists.{map₁, map₂, and_then}
use Rattle.lex.specs.Bytes.{if}
use Rattle.ast.specs.declared.Run.{Run}
use Rattle.ast.specs.Decode.{fits, token_at, run_at, type_of, types_by_kind, type_at}
use Rattle.ast.specs.Tabulate.{entry_at}
use Rattle.ast.proofs.Tabulate.{entries_below_lem, entries_past}
use Rattle.ast.proofs.LayoutLaws.{type-inside, type_outside, type_unknown}
use Rattle.compare.specs.Agree.{Agree, Decides}
use Rattle.compare.specs.Shapes.{type_row, types_below, type_env, kind_at, type_kind}
use Rattle.compare.proofs.Agree.{agree₁, part₁, agree₂, parts₂, decides_yes, decides_no, decides_by}
use Rattle.compare.proofs.RecordCells.{record_cells, number_in, run_in, token_in}

-- what a record of each kind from 0 on says
abbrev pub types_by_parts : Env → List ℕ → ℕ → List (Option TypeShape)
types_by_parts e xs p =
    none ∷
    map₁ atom_t (w e (token_at xs (p + 1))) ∷
    map₁ foreign_t (w e (token_at xs (p + 1))) ∷
    map₁ option_t (e.type (get_or xs (p + 1) 0)) ∷
    map₁ array_t (e.type (get_or xs (p + 1) 0)) ∷
    map₂ record_t (w e (token_at xs (p + 1))) (params e (run_at xs (p + 4))) ∷
    []

unfoldable pub type_by_parts : Env → List ℕ → ℕ → ℕ → Option TypeShape
type_by_parts e xs p kind = get_or (types_by_parts e xs p) kind none

module _ (e : Env) (xs : List ℕ) (p : ℕ) where
  by_kind_lem : (g : ℕ) → get_or (record_cells type_width xs p) 0 0 ≡ g → g ≤ 5 → and_then (type_of (record_cells type_width xs p)) (type_shape e) ≡ type_by_parts e xs p g
  unfolding type_of types_by_kind type_by_parts type_shape and_then
  by_kind_lem zero h l = rw h
  by_kind_lem (suc zero) h l = rw h (ap (λ t. map₁ atom_t (w e t)) (token_in 8 xs p 1 (omega arith)))
  by_kind_lem (suc (suc zero)) h l = rw h (ap (λ t. map₁ foreign_t (w e t)) (token_in 8 xs p 1 (omega arith)))
  by_kind_lem (suc (suc (suc zero))) h l = rw h (ap (λ i. map₁ option_t (e.type i)) (number_in 8 xs p 1 (omega arith)))
  by_kind_lem (suc (suc (suc (suc zero)))) h l = rw h (ap (λ i. map₁ array_t (e.type i)) (number_in 8 xs p 1 (omega arith)))
  by_kind_lem (suc (suc (suc (suc (suc zero))))) h l = rw h (ap₂ (λ t r. map₂ record_t (w e t) (params e r)) (token_in 8 xs p 1 (omega arith)) (run_in 8 xs p 4 (omega arith)))
  by_kind_lem (suc (suc (suc (suc (suc (suc g)))))) h l = absurd (omega arith)

module _ (s c t : List ℕ) where
  row_is : (i : ℕ) → and_then (type_at t i) (type_shape (type_env s c t i)) ≡ type_by_parts (type_env s c t i) t (type_width * i) (type_kind t i)
  unfolding type_by_parts and_then kind_at
  row_is i = inside (fits type_width t i) refl
    where
      none_is : type_at t i ≡ none → and_then (type_at t i) (type_shape (type_env s c t i)) ≡ type_by_parts (type_env s c t i) t (type_width * i) 0
      none_is h = rw h

      first : get_or (record_cells type_width t (type_width * i)) 0 0 ≡ get_or t (type_width * i) 0
      first = number_in 8 t (type_width * i) 0 (omega arith) ∙ ap (λ k. get_or t k 0) (add-zero (type_width * i))

      known : (b : Bool) → type_width * i + type_width ≤ length t → leb (get_or t (type_width * i) 0) 5 ≡ b
          → and_then (type_at t i) (type_shape (type_env s c t i)) ≡ type_by_parts (type_env s c t i) t (type_width * i) (if b (get_or t (type_width * i) 0) 0)
      known true h k = ap (λ o. and_then o (type_shape (type_env s c t i))) (type-inside t i h) ∙ by_kind_lem (type_env s c t i) t (type_width * i) (get_or t (type_width * i) 0) first (leb-true _ _ k)
      known false h k = none_is (type-inside t i h ∙ type_unknown (record_cells type_width t (type_width * i)) (λ z. rw first (leb-false _ _ k)))

      inside : (b : Bool) → fits type_width t i ≡ b → and_then (type_at t i) (type_shape (type_env s c t i)) ≡ type_by_parts (type_env s c t i) t (type_width * i) (type_kind t i)
      inside true h = rw h (known (leb (get_or t (type_width * i) 0) 5) (leb-true _ _ h) refl)
      inside false h = rw h (none_is (type_outside t i (leb-false _ _ h)))

  -- type `i`, by its kind
  pub type_is : (n i : ℕ) → i < n → types_below s c t n i ≡ type_by_parts (type_env s c t i) t (type_width * i) (type_kind t i)
  unfolding types_below entry_at
  type_is n i h = entries_below_lem (type_row s c) (type_at t) n i h ∙ row_is i

  pub type_past : (n i : ℕ) → n ≤ i → types_below s c t n i ≡ none
  unfolding types_below
  type_past n i h = entries_past (type_row s c) (type_at t) n i h

tag_of : TypeShape → ℕ
tag_of (atom_t a) = 1
tag_of (foreign_t a) = 2
tag_of (option_t a) = 3
tag_of (array_t a) = 4
tag_of (record_t a ps) = 5

-- what is made by a constructor
pub made₁ : {A B : Type 0} (f : A → B) (g : B → ℕ) (n : ℕ) → ((a : A) → g (f a) ≡ n) → (x : Option A) (b : B) → map₁ f x ≡ some b → g b ≡ n
unfolding map₁
made₁ f g n h none b e = absurd (let z : ◌≡◌ {A = ℕ} 0 1 = cc in omega arith)
made₁ f g n h (some a) b e = let z : f a ≡ b = cc in rw (← z) (h a)

pub made₂ : {A B C : Type 0} (f : A → B → C) (g : C → ℕ) (n : ℕ) → ((a : A) (b : B) → g (f a b) ≡ n) → (x : Option A) (y : Option B) (c : C) → map₂ f x y ≡ some c → g c ≡ n
unfolding map₂
made₂ f g n h none y c e = absurd (let z : ◌≡◌ {A = ℕ} 0 1 = cc in omega arith)
made₂ f g n h (some a) y c e = made₁ (f a) g n (h a) y c e

module _ (e : Env) (xs : List ℕ) (p : ℕ) where
  kind_is : (g : ℕ) (σ : TypeShape) → type_by_parts e xs p g ≡ some σ → tag_of σ ≡ g
  unfolding type_by_parts tag_of
  kind_is zero σ h = absurd (let z : ◌≡◌ {A = ℕ} 0 1 = cc in omega arith)
  kind_is (suc zero) σ h = made₁ atom_t tag_of 1 (λ a. refl) _ σ h
  kind_is (suc (suc zero)) σ h = made₁ foreign_t tag_of 2 (λ a. refl) _ σ h
  kind_is (suc (suc (suc zero))) σ h = made₁ option_t tag_of 3 (λ a. refl) _ σ h
  kind_is (suc (suc (suc (suc zero)))) σ h = made₁ array_t tag_of 4 (λ a. refl) _ σ h
  kind_is (suc (suc (suc (suc (suc zero))))) σ h = made₂ record_t tag_of 5 (λ a b. refl) _ _ σ h
  kind_is (suc (suc (suc (suc (suc (suc g)))))) σ h = absurd (let z : ◌≡◌ {A = ℕ} 0 1 = cc in omega arith)

-- types that agree have one kind
pub same_kind : (e e' : Env) (xs xs' : List ℕ) (p p' g g' : ℕ) → Agree (type_by_parts e xs p g) (type_by_parts e' xs' p' g') → g ≡ g'
same_kind e e' xs xs' p p' g g' b = sym (kind_is e xs p g b.it b.left) ∙ kind_is e' xs' p' g' b.it b.right

pub kind_bound : (known : ℕ) (xs : List ℕ) (width i : ℕ) → kind_at width known xs i ≤ known
unfolding kind_at
kind_bound known xs width i = go (fits width xs i) (leb (get_or xs (width * i) 0) known) refl
  where
    go : (a b : Bool) → leb (get_or xs (width * i) 0) known ≡ b → if a (if b (get_or xs (width * i) 0) 0) 0 ≤ known
    go true true e = leb-true _ _ e
    go true false e = omega arith
    go false b e = omega arith

-- two records of one kind
module _ (e e' : Env) (xs xs' : List ℕ) (p p' : ℕ) where
  token_part : (g : ℕ) → (g ≡ 0 → ⊥) → (g ≡ 3 → ⊥) → (g ≡ 4 → ⊥) → Agree (type_by_parts e xs p g) (type_by_parts e' xs' p' g) → Agree (w e (token_at xs (p + 1))) (w e' (token_at xs' (p' + 1)))
  unfolding type_by_parts
  token_part zero a b c d = absurd (a refl)
  token_part (suc zero) a b c d = part₁ atom_t (λ x y q. cc) _ _ d
  token_part (suc (suc zero)) a b c d = part₁ foreign_t (λ x y q. cc) _ _ d
  token_part (suc (suc (suc zero))) a b c d = absurd (b refl)
  token_part (suc (suc (suc (suc zero)))) a b c d = absurd (c refl)
  token_part (suc (suc (suc (suc (suc zero))))) a b c d = (parts₂ record_t (λ x y u v q. (cc, cc)) _ _ _ _ d).0
  token_part (suc (suc (suc (suc (suc (suc g)))))) a b c d = absurd (let l = d.left in let z : ◌≡◌ {A = ℕ} 0 1 = cc in omega arith)

  token-whole : (g : ℕ) → g ≤ 5 → (g ≡ 0 → ⊥) → (g ≡ 3 → ⊥) → (g ≡ 4 → ⊥) → (g ≡ 5 → ⊥) → Agree (w e (token_at xs (p + 1))) (w e' (token_at xs' (p' + 1))) → Agree (type_by_parts e xs p g) (type_by_parts e' xs' p' g)
  unfolding type_by_parts
  token-whole zero l a b c f d = absurd (a refl)
  token-whole (suc zero) l a b c f d = agree₁ atom_t (λ x y q. cc) d
  token-whole (suc (suc zero)) l a b c f d = agree₁ foreign_t (λ x y q. cc) d
  token-whole (suc (suc (suc zero))) l a b c f d = absurd (b refl)
  token-whole (suc (suc (suc (suc zero)))) l a b c f d = absurd (c refl)
  token-whole (suc (suc (suc (suc (suc zero))))) l a b c f d = absurd (f refl)
  token-whole (suc (suc (suc (suc (suc (suc g)))))) l a b c f d = absurd (omega arith)

  option_whole : {r : Bool} → Decides r (Agree (e.type (get_or xs (p + 1) 0)) (e'.type (get_or xs' (p' + 1) 0))) → Decides r (Agree (type_by_parts e xs p 3) (type_by_parts e' xs' p' 3))
  unfolding type_by_parts
  option_whole d = decides_by (agree₁ option_t (λ x y q. cc)) (part₁ option_t (λ x y q. cc) _ _) d

  array_whole : {r : Bool} → Decides r (Agree (e.type (get_or xs (p + 1) 0)) (e'.type (get_or xs' (p' + 1) 0))) → Decides r (Agree (type_by_parts e xs p 4) (type_by_parts e' xs' p' 4))
  unfolding type_by_parts
  array_whole d = decides_by (agree₁ array_t (λ x y q. cc)) (part₁ array_t (λ x y q. cc) _ _) d

  record_whole : {r : Bool} → Agree (w e (token_at xs (p + 1))) (w e' (token_at xs' (p' + 1))) → Decides r (Agree (params e (run_at xs (p + 4))) (params e' (run_at xs' (p' + 4)))) → Decides r (Agree (type_by_parts e xs p 5) (type_by_parts e' xs' p' 5))
  unfolding type_by_parts
  record_whole t d = decides_by (λ q. agree₂ record_t (λ x y u v z. (cc, cc)) t q) (λ b. (parts₂ record_t (λ x y u v z. (cc, cc)) _ _ _ _ b).1) d

-- two types of the arrays
module _ (s c t s' c' t' : List ℕ) (n i m j : ℕ) where
  pub type_past_left : n ≤ i → Decides false (Agree (types_below s c t n i) (types_below s' c' t' m j))
  type_past_left h = decides_no (λ b. let x = type_past s c t n i h in let l = b.left in let z : ◌≡◌ {A = ℕ} 0 1 = cc in omega arith)

  pub type_past_right : m ≤ j → Decides false (Agree (types_below s c t n i) (types_below s' c' t' m j))
  type_past_right h = decides_no (λ b. let x = type_past s' c' t' m j h in let l = b.right in let z : ◌≡◌ {A = ℕ} 0 1 = cc in omega arith)

  pub type-zero_left : i < n → type_kind t i ≡ 0 → Decides false (Agree (types_below s c t n i) (types_below s' c' t' m j))
  unfolding type_by_parts
  type-zero_left h q = decides_no (λ b. let x : types_below s c t n i ≡ none = type_is s c t n i h ∙ ap (type_by_parts (type_env s c t i) t (type_width * i)) q in let l = b.left in let z : ◌≡◌ {A = ℕ} 0 1 = cc in omega arith)

  pub type-zero_right : j < m → type_kind t' j ≡ 0 → Decides false (Agree (types_below s c t n i) (types_below s' c' t' m j))
  unfolding type_by_parts
  type-zero_right h q = decides_no (λ b. let x : types_below s' c' t' m j ≡ none = type_is s' c' t' m j h ∙ ap (type_by_parts (type_env s' c' t' j) t' (type_width * j)) q in let l = b.right in let z : ◌≡◌ {A = ℕ} 0 1 = cc in omega arith)

  module _ (h : i < n) (h' : j < m) {g g' : ℕ} (k : g ≡ type_kind t i) (k' : g' ≡ type_kind t' j) where
    left_is : types_below s c t n i ≡ type_by_parts (type_env s c t i) t (type_width * i) g
    left_is = rw k (type_is s c t n i h)

    right_is : types_below s' c' t' m j ≡ type_by_parts (type_env s' c' t' j) t' (type_width * j) g'
    right_is = rw k' (type_is s' c' t' m j h')

    pub other_kind : (g ≡ g' → ⊥) → Decides false (Agree (types_below s c t n i) (types_below s' c' t' m j))
    other_kind f = decides_no (λ b. f (same_kind (type_env s c t i) (type_env s' c' t' j) t t' (type_width * i) (type_width * j) g g' (record { it = b.it; left = sym left_is ∙ b.left; right = sym right_is ∙ b.right })))

    whole : {r : Bool} (x : ℕ) → g ≡ x → g ≡ g' → Decides r (Agree (type_by_parts (type_env s c t i) t (type_width * i) x) (type_by_parts (type_env s' c' t' j) t' (type_width * j) x)) → Decides r (Agree (types_below s c t n i) (types_below s' c' t' m j))
    whole x e f d = rw (left_is, right_is, ← f, e) d

    module _ (f : g ≡ g') where
      pub option_agrees : {r : Bool} → g ≡ 3 → Decides r (Agree (types_below s c t i (get_or t (type_width * i + 1) 0)) (types_below s' c' t' j (get_or t' (type_width * j + 1) 0))) → Decides r (Agree (types_below s c t n i) (types_below s' c' t' m j))
      option_agrees e d = whole 3 e f (option_whole (type_env s c t i) (type_env s' c' t' j) t t' (type_width * i) (type_width * j) d)

      pub array_agrees : {r : Bool} → g ≡ 4 → Decides r (Agree (types_below s c t i (get_or t (type_width * i + 1) 0)) (types_below s' c' t' j (get_or t' (type_width * j + 1) 0))) → Decides r (Agree (types_below s c t n i) (types_below s' c' t' m j))
      array_agrees e d = whole 4 e f (array_whole (type_env s c t i) (type_env s' c' t' j) t t' (type_width * i) (type_width * j) d)

      module _ (a₀ : g ≡ 0 → ⊥) (a₃ : g ≡ 3 → ⊥) (a₄ : g ≡ 4 → ⊥) where
        pub token_differs : (Agree (word s (token_at t (type_width * i + 1))) (word s' (token_at t' (type_width * j + 1))) → ⊥) → Decides false (Agree (types_below s c t n i) (types_below s' c' t' m j))
        unfolding w
        token_differs x = whole g refl f (decides_no (λ b. x (token_part (type_env s c t i) (type_env s' c' t' j) t t' (type_width * i) (type_width * j) g a₀ a₃ a₄ b)))

        pub token_agrees : (g ≡ 5 → ⊥) → Agree (word s (token_at t (type_width * i + 1))) (word s' (token_at t' (type_width * j + 1))) → Decides true (Agree (types_below s c t n i) (types_below s' c' t' m j))
        unfolding w
        token_agrees a₅ x = whole g refl f (decides_yes (token-whole (type_env s c t i) (type_env s' c' t' j) t t' (type_width * i) (type_width * j) g (rw k (kind_bound 5 t type_width i)) a₀ a₃ a₄ a₅ x))

      pub record_agrees : {b : Bool} {r r' : Run} → g ≡ 5 → Agree (word s (token_at t (type_width * i + 1))) (word s' (token_at t' (type_width * j + 1))) → r ≡ run_at t (type_width * i + 4) → r' ≡ run_at t' (type_width * j + 4)
          → Decides b (Agree (params (type_env s c t i) r) (params (type_env s' c' t' j) r')) → Decides b (Agree (types_below s c t n i) (types_below s' c' t' m j))
      unfolding w
      record_agrees e x q q' d = whole 5 e f (record_whole (type_env s c t i) (type_env s' c' t' j) t t' (type_width * i) (type_width * j) x (rw (q, q') at d))
