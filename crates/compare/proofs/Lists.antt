-- When two lists of one kind of member agree: as many members lie in the cells of each, and each agrees with its fellow.
use mathlib.Core.Path.{◌≡◌, refl, sym, ◌∙◌, ap}
use mathlib.Core.Bool.{Bool, true, false}
use mathlib.Core.Option.{Option, none, some}
use mathlib.Core.List.{List}
use Prim.Native.Nat.{ℕ, zero, suc, ◌+◌, ◌*◌, ◌-◌, ◌<◌, ◌≤◌}
use native.Mathlib.Omega.{arith}
use native.Mathlib.Nat.{add-zero}
use native.Mathlib.Numerals.{sub-one}
use lib.Dec.{leb}
use lib.ListN.{length, drop}
use lib.Seq.{drop-drop, get_or-drop}
use borrow.Author.Tests.{le-leb, lt-leb, leb-true, leb-false}
use Rattle.ast.specs.Lists.{map₁, map₂, Decoder, list_at}
use Rattle.ast.specs.declared.Run.{Run}
use Rattle.lex.specs.Bytes.{if}
use Rattle.ast.specs.Decode.{token_at}
use Rattle.compare.specs.Agree.{Agree}
use Rattle.compare.proofs.Agree.{agree₂, parts₂, Sized, fold, list_is}

-- `n` members from place `i` on, `v` being what stands at a place
module _ {A L : Type 0} (size : ℕ) (nil : L) (cons : A → L → L) (v : ℕ → Option A) where
  unfoldable pub list_from : ℕ → ℕ → Option L
  list_from zero i = some nil
  list_from (suc n) i = map₂ cons (v i) (list_from n (i + size))

  module _ (cells : List ℕ) (u : List ℕ → Option A) (same : (i : ℕ) → u (drop i cells) ≡ v i) where
    fold_from : (n i : ℕ) → fold size u nil cons n (drop i cells) ≡ list_from n i
    unfolding fold list_from
    fold_from zero i = refl
    fold_from (suc n) i = rw (same i, drop-drop size i cells, fold_from n (i + size))

    pub list-from : (x : Decoder A) → Sized x size u → (r : Run) → list_at x nil cons cells r ≡ if (leb (r.start + r.len * size) (length cells)) (list_from r.len r.start) none
    list-from x s r = list_is size u nil cons x s cells r ∙ rw (fold_from r.len r.start)

  pub inside_is : (l : Option L) (cells : List ℕ) (r : Run) → l ≡ if (leb (r.start + r.len * size) (length cells)) (list_from r.len r.start) none
      → r.start + r.len * size ≤ length cells → l ≡ list_from r.len r.start
  inside_is l cells r e h = e ∙ rw (le-leb (r.start + r.len * size) (length cells) h)

  pub outside_is : (l : Option L) (cells : List ℕ) (r : Run) → l ≡ if (leb (r.start + r.len * size) (length cells)) (list_from r.len r.start) none
      → length cells < r.start + r.len * size → l ≡ none
  outside_is l cells r e h = e ∙ rw (lt-leb (r.start + r.len * size) (length cells) h)

-- what is left of two lists to compare says all that there is to say of `P`
pub record Left {L : Type 0} (P : Type 0) (x y : Option L) : Type 0 where
  pub to : Agree x y → P
  pub of : P → Agree x y

module _ {A L : Type 0} (size : ℕ) (nil : L) (cons : A → L → L) (inj : (a a' : A) (l l' : L) → cons a l ≡ cons a' l' → (a ≡ a') × (l ≡ l')) (v v' : ℕ → Option A) where
  more : (n i : ℕ) (w : ℕ → Option A) → 0 < n → list_from size nil cons w n i ≡ map₂ cons (w i) (list_from size nil cons w (n - 1) (i + size))
  unfolding list_from
  more zero i w h = absurd (let z : 1 ≤ 0 = h in omega arith)
  more (suc n) i w h = rw (sub-one (suc n))

  module _ (P : Type 0) (n i j : ℕ) (l : Left P (list_from size nil cons v n i) (list_from size nil cons v' n j)) (h : 0 < n) where
    pub split : P → Agree (v i) (v' j) × Agree (list_from size nil cons v (n - 1) (i + size)) (list_from size nil cons v' (n - 1) (j + size))
    split p = parts₂ cons inj (v i) (v' j) _ _ (rw (more n i v h, more n j v' h) at (l.of p))

    -- a member more agrees
    pub turn : Agree (v i) (v' j) → Left P (list_from size nil cons v (n - 1) (i + size)) (list_from size nil cons v' (n - 1) (j + size))
    turn b = record { to = λ r. l.to (rw (more n i v h, more n j v' h) (agree₂ cons inj b r)); of = λ p. (split p).1 }

    -- a member more does not
    pub stop : (Agree (v i) (v' j) → ⊥) → P → ⊥
    stop f p = f (split p).0

  pub done : (P : Type 0) (i j : ℕ) → Left P (list_from size nil cons v 0 i) (list_from size nil cons v' 0 j) → P
  unfolding list_from
  done P i j l = l.to (record { it = nil; left = refl; right = refl })

  -- as many members
  module _ (apart : (a : A) (l : L) → cons a l ≡ nil → ⊥) where
    pub as_many : (n m i j : ℕ) → Agree (list_from size nil cons v n i) (list_from size nil cons v' m j) → n ≡ m
    unfolding list_from map₂ map₁
    as_many zero zero i j b = refl
    as_many zero (suc m) i j b = absurd (made (v' j) (list_from size nil cons v' m (j + size)) (b.right ∙ sym b.left))
      where
        made : (o : Option A) (q : Option L) → map₂ cons o q ≡ some nil → ⊥
        made none q e = let z : ◌≡◌ {A = ℕ} 0 1 = cc in omega arith
        made (some a) none e = let z : ◌≡◌ {A = ℕ} 0 1 = cc in omega arith
        made (some a) (some l) e = apart a l (let z : cons a l ≡ nil = cc in z)
    as_many (suc n) zero i j b = absurd (made (v i) (list_from size nil cons v n (i + size)) (b.left ∙ sym b.right))
      where
        made : (o : Option A) (q : Option L) → map₂ cons o q ≡ some nil → ⊥
        made none q e = let z : ◌≡◌ {A = ℕ} 0 1 = cc in omega arith
        made (some a) none e = let z : ◌≡◌ {A = ℕ} 0 1 = cc in omega arith
        made (some a) (some l) e = apart a l (let z : cons a l ≡ nil = cc in z)
    as_many (suc n) (suc m) i j b = ap suc (as_many n m (i + size) (j + size) (parts₂ cons inj (v i) (v' j) _ _ b).1)

-- the token at a place
pub token-drop : (cells : List ℕ) (i : ℕ) → token_at (drop i cells) 0 ≡ token_at cells i
token-drop cells i = simp (get_or-drop, add-zero)

-- two lists, each none where its run lies outside its cells
module _ {A L : Type 0} (size : ℕ) (nil : L) (cons : A → L → L) (inj : (a a' : A) (l l' : L) → cons a l ≡ cons a' l' → (a ≡ a') × (l ≡ l')) (apart : (a : A) (l : L) → cons a l ≡ nil → ⊥)
    (v v' : ℕ → Option A) (cells cells' : List ℕ) (r r' : Run) (x y : Option L)
    (e : x ≡ if (leb (r.start + r.len * size) (length cells)) (list_from size nil cons v r.len r.start) none)
    (e' : y ≡ if (leb (r'.start + r'.len * size) (length cells')) (list_from size nil cons v' r'.len r'.start) none) where
  pub short-left : length cells < r.start + r.len * size → Agree x y → ⊥
  short-left h b = let n = outside_is size nil cons v x cells r e h in let l = b.left in let z : ◌≡◌ {A = ℕ} 0 1 = cc in omega arith

  pub short-right : length cells' < r'.start + r'.len * size → Agree x y → ⊥
  short-right h b = let n = outside_is size nil cons v' y cells' r' e' h in let l = b.right in let z : ◌≡◌ {A = ℕ} 0 1 = cc in omega arith

  both-from : r.start + r.len * size ≤ length cells → r'.start + r'.len * size ≤ length cells' → Agree x y → Agree (list_from size nil cons v r.len r.start) (list_from size nil cons v' r'.len r'.start)
  both-from h h' b = record { it = b.it; left = sym (inside_is size nil cons v x cells r e h) ∙ b.left; right = sym (inside_is size nil cons v' y cells' r' e' h') ∙ b.right }

  pub not_as_many : (r.len ≡ r'.len → ⊥) → Agree x y → ⊥
  not_as_many ne b = test (leb (r.start + r.len * size) (length cells)) (leb (r'.start + r'.len * size) (length cells')) refl refl
    where
      test : (p q : Bool) → leb (r.start + r.len * size) (length cells) ≡ p → leb (r'.start + r'.len * size) (length cells') ≡ q → ⊥
      test false q f g = short-left (leb-false _ _ f) b
      test true false f g = short-right (leb-false _ _ g) b
      test true true f g = ne (as_many size nil cons inj v v' apart r.len r'.len r.start r'.start (both-from (leb-true _ _ f) (leb-true _ _ g) b))

  pub begun : r.len ≡ r'.len → r.start + r.len * size ≤ length cells → r'.start + r'.len * size ≤ length cells'
      → Left (Agree x y) (list_from size nil cons v r.len r.start) (list_from size nil cons v' r.len r'.start)
  begun m h h' =
      let f = inside_is size nil cons v x cells r e h in
      let g : y ≡ list_from size nil cons v' r.len r'.start = rw m (inside_is size nil cons v' y cells' r' e' h') in
      record {
        to = λ b. record { it = b.it; left = f ∙ b.left; right = g ∙ b.right };
        of = λ b. record { it = b.it; left = sym f ∙ b.left; right = sym g ∙ b.right };
      }
