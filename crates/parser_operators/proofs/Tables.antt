-- Tables by kind, as the code keeps them.
use Rattle.std.specs.Prelude.{Option as Answer, Some, None}
use mathlib.Core.Path.{◌≡◌, refl, sym, ap, subst, ◌∙◌}
use mathlib.Core.Bool.{Bool, true, false, not, ◌&&◌, ◌||◌}
use mathlib.Core.Option.{Option, none, some}
use mathlib.Core.List.{List, [], ◌∷◌, map}
use Prim.Native.Nat.{ℕ, zero, suc, ◌≤◌, ◌<◌}
use native.Mathlib.Omega.{arith}
use lib.Dec.{eqb, ltb, leb}
use lib.ListN.{length, get_or}
use borrow.Author.Tests.{eqb-true, eq-eqb, ne_eqb, ltb-true, ltb-false, le-ltb, le-leb, lt-leb}
use Rattle.lex.specs.Kind.{k_doc, k_match, k_as}
use Rattle.rules.specs.Combinators.{Rule, Readers, choose}
use Rattle.rules.specs.Rules.{stage_one, right_power, prefix_power, operand_by_kind}
use Rattle.parser_state.specs.Represents.{Reading, Code, Kept}
use Rattle.parser_state.specs.Refines.{RefinesBy}
use Rattle.parser_state.proofs.Steps.{either, true≢false, and_both}
use Rattle.parser_operators.specs.Tests.{operand_classes, operand_class, operand_of, operator_numbers, operator_number, operator_of, power_at, left_powers, begins_expr, sign_follows, infix_by}

-- ---- one entry after the other

pub here : {A : Type 0} {k n : ℕ} (x other : A) (xs : List (ℕ × A)) → k ≡ n → choose ((n, x) ∷ xs) other k ≡ x
unfolding choose
here {A} {k} {n} x other xs f = ap (λ (b : Bool). elim b as (λ _. A) [ true ↦ x | false ↦ choose xs other k ]) (eq-eqb k n f)

pub past : {A : Type 0} {k n : ℕ} (x other : A) (xs : List (ℕ × A)) → (k ≡ n → ⊥) → choose ((n, x) ∷ xs) other k ≡ choose xs other k
unfolding choose
past {A} {k} {n} x other xs f = ap (λ (b : Bool). elim b as (λ _. A) [ true ↦ x | false ↦ choose xs other k ]) (ne_eqb k n f)

pub past_all : {A : Type 0} (k : ℕ) (other : A) → choose [] other k ≡ other
unfolding choose
past_all k other = refl

-- all entries lie below a number
abbrev all_below : ℕ → List ℕ → Bool
all_below m [] = true
all_below m (x ∷ xs) = ltb x m && all_below m xs

entry-below : (m : ℕ) (xs : List ℕ) (n : ℕ) → n < length xs → all_below m xs ≡ true → get_or xs n 0 < m
entry-below m [] n h e = absurd (omega arith)
entry-below m (x ∷ xs) zero h e = ltb-true x m (and_both (ltb x m) (all_below m xs) e).0
entry-below m (x ∷ xs) (suc n) h e = entry-below m xs n (omega arith) (and_both (ltb x m) (all_below m xs) e).1

-- a table of what a function gives
abbrev pub mapped : {A B : Type 0} → (A → B) → List (ℕ × A) → List (ℕ × B)
mapped f [] = []
mapped f (x ∷ xs) = (x.0, f x.1) ∷ mapped f xs

pub choose-map : {A B : Type 0} (f : A → B) (xs : List (ℕ × A)) (other : A) (k : ℕ) → f (choose xs other k) ≡ choose (mapped f xs) (f other) k
unfolding choose
choose-map f [] other k = refl
choose-map {A} {B} f (x ∷ xs) other k = go (eqb k x.0) (choose-map f xs other k)
  where
    go : (b : Bool) → f (choose xs other k) ≡ choose (mapped f xs) (f other) k → f (elim b as (λ _. A) [ true ↦ x.1 | false ↦ choose xs other k ]) ≡ elim b as (λ _. B) [ true ↦ f x.1 | false ↦ choose (mapped f xs) (f other) k ]
    go true e = refl
    go false e = e

-- ---- operands

pub operand_class_lem : (d : Readers) (k : ℕ) → operand_by_kind d k ≡ operand_of d (operand_class k)
unfolding operand_class operand_of choose
operand_class_lem d k = sym (choose-map (operand_of d) operand_classes 0 k)

-- ---- items

-- no doc waits, and the kind is none of those that begin another item
pub begins-expr : (p : Reading) → begins_expr p ≡ true → (p.used.docs ≡ 0) × ((k : ℕ) → k_doc ≤ k → k ≤ k_match → p.cur.kind ≡ k → ⊥)
unfolding begins_expr
begins-expr p e = either (eqb p.used.docs 0)
    (λ d. (eqb-true _ _ d, λ k a b same. outside (ltb p.cur.kind k_doc) (ltb k_match p.cur.kind) (le-ltb p.cur.kind k_doc (omega arith)) (le-ltb k_match p.cur.kind (omega arith)) (subst (λ (t : Bool). (t && (ltb p.cur.kind k_doc || ltb k_match p.cur.kind)) ≡ true) d e)))
    (λ d. absurd (true≢false (subst (λ (t : Bool). (t && (ltb p.cur.kind k_doc || ltb k_match p.cur.kind)) ≡ true) d e) refl))
  where
    outside : (a b : Bool) → a ≡ false → b ≡ false → (a || b) ≡ true → ⊥
    outside a b f g h = true≢false h (rw (f, g) refl)

-- ---- infix signs

-- the two powers of the nine signs by their numbers, computed; NotEqual, the last, is not read by stage one
pub powers_table : map {B = ℕ × ℕ} (λ left. (left, right_power left)) left_powers ≡ (1, 2) ∷ (1, 2) ∷ (3, 4) ∷ (3, 4) ∷ (3, 4) ∷ (0, 1) ∷ (0, 1) ∷ (0, 1) ∷ (0, 1) ∷ []
powers_table = refl

-- a left power is below that of a prefix sign
pub left_below : {n left : ℕ} → n < 9 → left ≡ get_or left_powers n 0 → left < prefix_power
left_below {n} h e = rw e (entry-below prefix_power left_powers n h refl)

pub operator_power : (k : ℕ) → stage_one k ≡ power_at (operator_number k)
unfolding stage_one operator_number power_at choose
operator_power k = sym (choose-map power_at operator_numbers 9 k)

module _ (k : ℕ) where
  by_number : {b : Bool} → ltb (operator_number k) 9 ≡ b
      → (stage_one k ≡ elim b as (λ _. Option ℕ) [ true ↦ some (get_or left_powers (operator_number k) 0) | false ↦ none ])
      × (operator_of k ≡ elim b as (λ _. Answer ℕ) [ true ↦ Some (operator_number k) | false ↦ None ])
  unfolding power_at
  by_number f = (
    operator_power k ∙ ap (λ (b : Bool). elim b as (λ _. Option ℕ) [ true ↦ some (get_or left_powers (operator_number k) 0) | false ↦ none ]) f,
    ap (λ (b : Bool). elim b as (λ _. Answer ℕ) [ true ↦ Some (operator_number k) | false ↦ None ]) f,
  )

  pub power-some : {n : ℕ} → Some n ≡ operator_of k → (n < 9) × (stage_one k ≡ some (get_or left_powers n 0))
  power-some {n} e = either (ltb (operator_number k) 9)
      (λ b. let f : Some n ≡ Some (operator_number k) = e ∙ (by_number b).1 in
      let g : n ≡ operator_number k = cc in
      (omega (arith, ltb-true _ _ b), rw g (by_number b).0))
      (λ b. let f : Some n ≡ None = e ∙ (by_number b).1 in absurd (cc))

  pub no_power : None ≡ operator_of k → stage_one k ≡ none
  no_power e = either (ltb (operator_number k) 9)
      (λ b. let f : None ≡ Some (operator_number k) = e ∙ (by_number b).1 in absurd (cc))
      (λ b. (by_number b).0)

pub left_is : (k : ℕ) {n left : ℕ} → Some n ≡ operator_of k → left ≡ get_or left_powers n 0 → stage_one k ≡ some left
left_is k e w = (power-some k e).1 ∙ ap some (sym w)

-- so is that of any infix sign
pub power_below : (k : ℕ) {left : ℕ} → some left ≡ stage_one k → left < prefix_power
unfolding power_at
power_below k {left} e = go (ltb (operator_number k) 9) refl (e ∙ operator_power k)
  where
    go : (b : Bool) → ltb (operator_number k) 9 ≡ b → some left ≡ elim b as (λ _. Option ℕ) [ true ↦ some (get_or left_powers (operator_number k) 0) | false ↦ none ] → left < prefix_power
    go true b f = let g : left ≡ get_or left_powers (operator_number k) 0 = cc in left_below (ltb-true _ _ b) g
    go false b f = absurd (cc)

-- `as` is no such sign
pub as_is_none : (k : ℕ) {left : ℕ} → k ≡ k_as → some left ≡ stage_one k → ⊥
unfolding stage_one choose
as_is_none k {left} e f = let g : some left ≡ none = f ∙ ap stage_one e in cc

pub no_sign_follows : (breaks : Bool) (least k : ℕ) → none ≡ stage_one k → false ≡ sign_follows breaks least (stage_one k)
unfolding sign_follows
no_sign_follows breaks least k e = rw (sym e, sign_follows) refl

pub power-none : (breaks : Bool) (least k : ℕ) → None ≡ operator_of k → false ≡ sign_follows breaks least (stage_one k)
power-none breaks least k e = no_sign_follows breaks least k (sym (no_power k e))

pub infix_when : {going cast sign r : Bool} → going ≡ true → cast ≡ false → r ≡ sign → r ≡ infix_by going cast sign
unfolding infix_by
infix_when {sign = sign} g c e = rw (g, c, infix_by) e

pub least_test : (least left : ℕ) → leb least left ≡ not (ltb left least)
least_test least left = either (ltb left least)
    (λ f. rw f (lt-leb least left (ltb-true left least f)))
    (λ f. rw f (le-leb least left (ltb-false left least f)))

-- ---- a rule by a table

module _ {kept : Kept} {A : Type 0} {script : List ℕ} {Q : A → Type 0} {grow : A → List ℕ → List ℕ} {r l d r' l' : ℕ} {s s' : Code} {k n : ℕ} (x other : Rule A) (xs : List (ℕ × Rule A)) where
  pub entry_past : (k ≡ n → ⊥) → RefinesBy kept script r l (choose xs other k) Q grow d r' l' s s' → RefinesBy kept script r l (choose ((n, x) ∷ xs) other k) Q grow d r' l' s s'
  entry_past e p = rw (past x other xs e) p

module _ {kept : Kept} {A : Type 0} {script : List ℕ} {Q : A → Type 0} {grow : A → List ℕ → List ℕ} {r l d r' l' : ℕ} {s s' : Code} (k : ℕ) (other : Rule A) where
  pub entry_other : RefinesBy kept script r l other Q grow d r' l' s s' → RefinesBy kept script r l (choose [] other k) Q grow d r' l' s s'
  entry_other p = rw (past_all k other) p
