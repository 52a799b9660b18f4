-- Two lists are walked member by member: what is known on the way, for lists of every sort.
use mathlib.Core.Path.{◌≡◌, refl, sym, ◌∙◌, ap, ap₂, subst}
use mathlib.Core.Bool.{Bool, true, false}
use mathlib.Core.Option.{Option, none, some}
use mathlib.Core.List.{List, [], ◌∷◌}
use Prim.Native.Nat.{ℕ, zero, suc, ◌+◌, ◌*◌, ◌-◌, ◌<◌, ◌≤◌}
use native.Mathlib.Omega.{arith}
use native.Mathlib.Nat.{add-zero, add-mul}
use lib.Dec.{leb}
use lib.ListN.{length, get_or, drop}
use lib.Seq.{get_or-drop, drop-drop}
use Rattle.lex.specs.declared.tok.Token.{Token}
use Rattle.rules.specs.Shape as S
use Rattle.lex.specs.Spelling.{well_formed}
use Rattle.rules.specs.Shape.{Word, word, TypeShape, Params, FnShape, Shape, Shapes, FieldShapes, CaseShapes, Env}
use Rattle.ast.specs.Lists.{map₁, map₂, and_then, list_at, number, token, run, resolve, both}
use Rattle.ast.specs.declared.Run.{Run}
use Rattle.lex.specs.Bytes.{if}
use Rattle.ast.specs.Decode.{token_at, run_at}
use Rattle.compare.specs.Agree.{Agree, Decides}
use Rattle.compare.proofs.Agree.{agree₂, parts₂, decides_by, Sized, sized-number, sized-token, sized-run, sized-resolve, sized-both}
use Rattle.compare.proofs.Lists as Ls
use Rattle.compare.proofs.Lists.{list_from, list-from, token-drop, Left}

-- a sort of list: the cells of a member, and how members make a list
pub record Sort (A L : Type 0) : Type 0 where
  pub size : ℕ
  pub nil : L
  pub cons : A → L → L
  pub inj : (a a' : A) (l l' : L) → cons a l ≡ cons a' l' → (a ≡ a') × (l ≡ l')
  pub apart : (a : A) (l : L) → cons a l ≡ nil → ⊥

abbrev pub run_of : ℕ → ℕ → Run
run_of start len = record { start = start; len = len }

-- what is decided of runs of one length
pub as_runs : {L : Type 0} {b : Bool} (f g : Run → Option L) (r r' : Run) → r.len ≡ r'.len → Decides b (Agree (f (run_of r.start r.len)) (g (run_of r'.start r.len))) → Decides b (Agree (f r) (g r'))
as_runs {b = b} f g r r' m d = subst (λ (n : ℕ). Decides b (Agree (f r) (g (run_of r'.start n)))) m d

-- `x` is the list of a run, `v` being what stands at a place
abbrev pub IsList : {A L : Type 0} → Sort A L → (ℕ → Option A) → List ℕ → Run → Option L → Type 0
IsList k v cells r x = x ≡ if (leb (r.start + r.len * k.size) (length cells)) (list_from k.size k.nil k.cons v r.len r.start) none

-- `left` members from two places on are left to compare, and decide `P`
pub record Walk {A L : Type 0} (k : Sort A L) (v v' : ℕ → Option A) (cells cells' : List ℕ) (P : Type 0) (at at' left : ℕ) : Type 0 where
  pub inside : at + left * k.size ≤ length cells
  pub inside' : at' + left * k.size ≤ length cells'
  pub small : at + left * k.size < 18446744073709551616
  pub small' : at' + left * k.size < 18446744073709551616
  pub rest : Left P (list_from k.size k.nil k.cons v left at) (list_from k.size k.nil k.cons v' left at')

module _ {A L : Type 0} (k : Sort A L) (v v' : ℕ → Option A) (cells cells' : List ℕ) where
  -- the lists of two runs
  module _ (r r' : Run) {x y : Option L} (e : IsList k v cells r x) (e' : IsList k v' cells' r' y) where
    pub other_length : (r.len ≡ r'.len → ⊥) → Agree x y → ⊥
    other_length = Ls.not_as_many k.size k.nil k.cons k.inj k.apart v v' cells cells' r r' x y e e'

    pub outside_left : length cells < r.start + r.len * k.size → Agree x y → ⊥
    outside_left = Ls.short-left k.size k.nil k.cons k.inj k.apart v v' cells cells' r r' x y e e'

    pub outside_right : length cells' < r'.start + r'.len * k.size → Agree x y → ⊥
    outside_right = Ls.short-right k.size k.nil k.cons k.inj k.apart v v' cells cells' r r' x y e e'

  -- two runs of one length that lie in their cells
  pub begin : {start start' len : ℕ} {x y : Option L} → IsList k v cells (run_of start len) x → IsList k v' cells' (run_of start' len) y
      → start + len * k.size ≤ length cells → start' + len * k.size ≤ length cells'
      → start + len * k.size < 18446744073709551616 → start' + len * k.size < 18446744073709551616 → Walk k v v' cells cells' (Agree x y) start start' len
  begin {start} {start'} {len} {x} {y} e e' h h' b b' = record {
    inside = h;
    inside' = h';
    small = b;
    small' = b';
    rest = Ls.begun k.size k.nil k.cons k.inj k.apart v v' cells cells' (run_of start len) (run_of start' len) x y e e' refl h h';
  }

  module _ {P : Type 0} {at at' left : ℕ} (w : Walk k v v' cells cells' P at at' left) where
    fewer : (i n m : ℕ) → 0 < left → i + left * n ≤ m → i + n + (left - 1) * n ≤ m
    fewer i n m h l = let e : left ≡ 1 + (left - 1) = omega arith in let z : left * n ≡ 1 * n + (left - 1) * n = ap (λ (m : ℕ). m * n) e ∙ add-mul 1 (left - 1) n in omega arith

    -- a member more agrees
    pub step : 0 < left → Agree (v at) (v' at') → Walk k v v' cells cells' P (at + k.size) (at' + k.size) (left - 1)
    step h b = record {
      inside = fewer at k.size (length cells) h w.inside;
      inside' = fewer at' k.size (length cells') h w.inside';
      small = let z = fewer at k.size 18446744073709551615 h (omega (arith, w.small)) in omega arith;
      small' = let z = fewer at' k.size 18446744073709551615 h (omega (arith, w.small')) in omega arith;
      rest = Ls.turn k.size k.nil k.cons k.inj v v' P left at at' w.rest h b;
    }

    -- a member more does not
    pub stop : 0 < left → (Agree (v at) (v' at') → ⊥) → P → ⊥
    stop h f = Ls.stop k.size k.nil k.cons k.inj v v' P left at at' w.rest h f

    -- the first of them agrees where all do
    pub first : 0 < left → P → Agree (v at) (v' at')
    first h p = (Ls.split k.size k.nil k.cons k.inj v v' P left at at' w.rest h p).0

    pub done : left ≡ 0 → P
    done z = Ls.done k.size k.nil k.cons k.inj v v' P at at' (rw z at w.rest)

-- ---- the sorts

abbrev pub pair : {A B : Type 0} → A → B → A × B
pair a b = (a, b)

pair_inj : {A B : Type 0} (a a' : A) (b b' : B) → ◌≡◌ {A = A × B} (a, b) (a', b') → (a ≡ a') × (b ≡ b')
pair_inj {A} {B} a a' b b' e = (ap (λ (p : A × B). p.0) e, ap (λ (p : A × B). p.1) e)

pub pair_eq : {A B : Type 0} (p q : A × B) → p.0 ≡ q.0 → p.1 ≡ q.1 → p ≡ q
pair_eq p q e f = ap₂ pair e f

pub pair_agree : {A B : Type 0} {x x' : Option A} {y y' : Option B} → Agree x x' → Agree y y' → Agree (map₂ pair x y) (map₂ pair x' y')
pair_agree p q = agree₂ pair pair_inj p q

pub pair_parts : {A B : Type 0} (x x' : Option A) (y y' : Option B) → Agree (map₂ pair x y) (map₂ pair x' y') → Agree x x' × Agree y y'
pair_parts x x' y y' b = parts₂ pair pair_inj x x' y y' b

pub pair_decides : {A B : Type 0} {x x' : Option A} {y y' : Option B} {b : Bool} → Decides b (Agree x x' × Agree y y') → Decides b (Agree (map₂ pair x y) (map₂ pair x' y'))
pair_decides d = decides_by (λ p. pair_agree p.0 p.1) (pair_parts _ _ _ _) d

-- what stands behind a token that must be well formed, and is left out
abbrev pub where_formed : {A : Type 0} → Option Word → Option A → Option A
where_formed t x = and_then t (λ v. x)

module _ {A : Type 0} (s : List ℕ) (t : Token) (y : Option A) where
  formed : well_formed s t ≡ true → where_formed (word s t) y ≡ y
  unfolding word and_then
  formed h = rw (h, word)

  unformed : well_formed s t ≡ false → where_formed (word s t) y ≡ none
  unfolding word and_then
  unformed h = rw (h, word)

-- two of them agree if both tokens are well formed and what stands behind agrees
module _ {A : Type 0} (s s' : List ℕ) (t t' : Token) (x x' : Option A) where
  pub formed_agree : well_formed s t ≡ true → well_formed s' t' ≡ true → Agree x x' → Agree (where_formed (word s t) x) (where_formed (word s' t') x')
  formed_agree h h' b = record { it = b.it; left = formed s t x h ∙ b.left; right = formed s' t' x' h' ∙ b.right }

  pub formed_parts : well_formed s t ≡ true → well_formed s' t' ≡ true → Agree (where_formed (word s t) x) (where_formed (word s' t') x') → Agree x x'
  formed_parts h h' b = record { it = b.it; left = sym (formed s t x h) ∙ b.left; right = sym (formed s' t' x' h') ∙ b.right }

  pub unformed_left : well_formed s t ≡ false → Agree (where_formed (word s t) x) (where_formed (word s' t') x') → ⊥
  unformed_left h b = let l = b.left in let n = unformed s t x h in let z : ◌≡◌ {A = ℕ} 0 1 = cc in omega arith

  pub unformed_right : well_formed s' t' ≡ false → Agree (where_formed (word s t) x) (where_formed (word s' t') x') → ⊥
  unformed_right h b = let l = b.right in let n = unformed s' t' x' h in let z : ◌≡◌ {A = ℕ} 0 1 = cc in omega arith

abbrev pub word_sort : Sort Word (List Word)
word_sort = record {
  size = 3;
  nil = [];
  cons = ◌∷◌;
  inj = λ a a' l l' e. (cc, cc);
  apart = λ a l e. let z : ◌≡◌ {A = ℕ} 0 1 = cc in omega arith;
}

abbrev pub param_sort : Sort (Word × TypeShape) Params
param_sort = record {
  size = 4;
  nil = S.no_param;
  cons = λ p. S.param p.0 p.1;
  inj = λ a a' l l' e. (pair_eq a a' (cc) (cc), cc);
  apart = λ a l e. let z : ◌≡◌ {A = ℕ} 0 1 = cc in omega arith;
}

abbrev pub field_sort : Sort (Word × Shape) FieldShapes
field_sort = record {
  size = 4;
  nil = S.no_field;
  cons = λ p. S.field_s p.0 p.1;
  inj = λ a a' l l' e. (pair_eq a a' (cc) (cc), cc);
  apart = λ a l e. let z : ◌≡◌ {A = ℕ} 0 1 = cc in omega arith;
}

abbrev pub node_sort : Sort Shape Shapes
node_sort = record {
  size = 1;
  nil = S.no_shape;
  cons = S.shape;
  inj = λ a a' l l' e. (cc, cc);
  apart = λ a l e. let z : ◌≡◌ {A = ℕ} 0 1 = cc in omega arith;
}

abbrev pub case_sort : Sort (Shape × Shapes) CaseShapes
case_sort = record {
  size = 6;
  nil = S.no_case;
  cons = λ p. S.case_s p.0 p.1;
  inj = λ a a' l l' e. (pair_eq a a' (cc) (cc), cc);
  apart = λ a l e. let z : ◌≡◌ {A = ℕ} 0 1 = cc in omega arith;
}

abbrev pub FnParts : Type 0
FnParts = ((List Word × Word) × Params) × TypeShape

abbrev pub fn_of : FnParts → FnShape
fn_of f = record { docs = f.0.0.0; name = f.0.0.1; args = f.0.1; ret = f.1 }

fn_parts : FnShape → FnParts
fn_parts f = (((f.docs, f.name), f.args), f.ret)

pub fn_inj : (a a' : FnParts) → fn_of a ≡ fn_of a' → a ≡ a'
unfolding fn_parts
fn_inj a a' e = ap fn_parts e

abbrev pub fn_sort : Sort FnParts (List FnShape)
fn_sort = record {
  size = 8;
  nil = [];
  cons = λ f. ◌∷◌ (fn_of f);
  inj = λ a a' l l' e. (fn_inj a a' (let z : fn_of a ≡ fn_of a' = cc in z), cc);
  apart = λ a l e. let z : ◌≡◌ {A = ℕ} 0 1 = cc in omega arith;
}

-- ---- what stands at a place, and the lists of runs

module _ (e : Env) where
  abbrev pub word_at : ℕ → Option Word
  word_at i = S.w e (token_at e.cells i)

  abbrev pub param_at : ℕ → Option (Word × TypeShape)
  param_at i = map₂ pair (S.w e (token_at e.cells i)) (e.type (get_or e.cells (i + 3) 0))

  abbrev pub field_at : ℕ → Option (Word × Shape)
  field_at i = map₂ pair (S.w e (token_at e.cells i)) (e.node (get_or e.cells (i + 3) 0))

  abbrev pub child_at : ℕ → Option Shape
  child_at i = e.node (get_or e.cells (i + 0) 0)

  abbrev pub case_at : ℕ → Option (Shape × Shapes)
  case_at i = where_formed (S.w e (token_at e.cells i)) (map₂ pair (e.node (get_or e.cells (i + 3) 0)) (S.shapes e (run_at e.cells (i + 4))))

  abbrev pub fn_at : ℕ → Option FnParts
  fn_at i = map₂ pair (map₂ pair (map₂ pair (S.words e (run_at e.cells i)) (S.w e (token_at e.cells (i + 2)))) (S.params e (run_at e.cells (i + 5)))) (e.type (get_or e.cells (i + 7) 0))

  token-at : (i k : ℕ) → token_at (drop k (drop i e.cells)) 0 ≡ token_at e.cells (i + k)
  token-at i k = simp (drop-drop, get_or-drop, add-zero)

  run-at : (i k : ℕ) → run_at (drop k (drop i e.cells)) 0 ≡ run_at e.cells (i + k)
  run-at i k = simp (drop-drop, get_or-drop, add-zero)

  cell_at : (i k : ℕ) → get_or (drop k (drop i e.cells)) 0 0 ≡ get_or e.cells (i + k) 0
  cell_at i k = simp (drop-drop, get_or-drop, add-zero)

  sized-w : Sized (resolve token (S.w e)) 3 (λ cs. and_then (some (token_at cs 0)) (S.w e))
  sized-w = sized-resolve token 3 (λ cs. some (token_at cs 0)) sized-token (S.w e)

  pub words_are : (r : Run) → IsList word_sort word_at e.cells r (S.words e r)
  unfolding S.words S.word_in and_then
  words_are r = list-from 3 [] ◌∷◌ word_at e.cells (λ cs. S.w e (token_at cs 0)) (λ i. ap (S.w e) (token-drop e.cells i)) (resolve token (S.w e)) sized-w r

  sized_cell : {B : Type 0} (f : ℕ → Option B) → Sized (resolve number f) 1 (λ cs. and_then (some (get_or cs 0 0)) f)
  sized_cell f = sized-resolve number 1 (λ cs. some (get_or cs 0 0)) sized-number f

  -- a name with what a number stands for
  module _ {B L : Type 0} (f : ℕ → Option B) (nil : L) (cons : Word × B → L → L) where
    named_are : (r : Run) → list_at (both (resolve token (S.w e)) (resolve number f)) nil cons e.cells r ≡ if (leb (r.start + r.len * 4) (length e.cells)) (list_from 4 nil cons (λ i. map₂ pair (S.w e (token_at e.cells i)) (f (get_or e.cells (i + 3) 0))) r.len r.start) none
    unfolding and_then
    named_are r =
        list-from 4 nil cons (λ i. map₂ pair (S.w e (token_at e.cells i)) (f (get_or e.cells (i + 3) 0))) e.cells (λ cs. map₂ pair (S.w e (token_at cs 0)) (f (get_or (drop 3 cs) 0 0)))
        (λ i. ap₂ (map₂ pair) (ap (S.w e) (token-drop e.cells i)) (ap f (cell_at i 3)))
        (both (resolve token (S.w e)) (resolve number f)) (sized-both (resolve token (S.w e)) 3 (λ cs. and_then (some (token_at cs 0)) (S.w e)) sized-w (resolve number f) 1 (λ cs. and_then (some (get_or cs 0 0)) f) (sized_cell f)) r

  pub params_are : (r : Run) → IsList param_sort param_at e.cells r (S.params e r)
  unfolding S.params S.param_in S.word_in
  params_are r = named_are e.type S.no_param (λ p. S.param p.0 p.1) r

  pub fields_are : (r : Run) → IsList field_sort field_at e.cells r (S.fields e r)
  unfolding S.fields S.field_in S.word_in
  fields_are r = named_are e.node S.no_field (λ p. S.field_s p.0 p.1) r

  pub nodes_are : (r : Run) → IsList node_sort child_at e.cells r (S.shapes e r)
  unfolding S.shapes and_then
  nodes_are r = list-from 1 S.no_shape S.shape child_at e.cells (λ cs. e.node (get_or cs 0 0)) (λ i. ap e.node (get_or-drop i e.cells 0 0)) (resolve number e.node) (sized_cell e.node) r

  sized-at : {B : Type 0} (f : Run → Option B) → Sized (resolve run f) 2 (λ cs. and_then (some (run_at cs 0)) f)
  sized-at f = sized-resolve run 2 (λ cs. some (run_at cs 0)) sized-run f

  run_drop : (i : ℕ) → run_at (drop i e.cells) 0 ≡ run_at e.cells i
  run_drop i = simp (get_or-drop, add-zero)

  pub fns_are : (r : Run) → IsList fn_sort fn_at e.cells r (S.fns e r)
  unfolding S.fns S.fn_in S.word_in and_then
  fns_are r =
      list-from 8 [] (λ (f : FnParts). ◌∷◌ (fn_of f)) fn_at e.cells
      (λ cs. map₂ pair (map₂ pair (map₂ pair (S.words e (run_at cs 0)) (S.w e (token_at (drop 2 cs) 0))) (S.params e (run_at (drop 5 cs) 0))) (e.type (get_or (drop 7 cs) 0 0)))
      (λ i. ap₂ (map₂ pair) (ap₂ (map₂ pair) (ap₂ (map₂ pair) (ap (S.words e) (run_drop i)) (ap (S.w e) (token-at i 2))) (ap (S.params e) (run-at i 5))) (ap e.type (cell_at i 7)))
      (both (both (both (resolve run (S.words e)) (resolve token (S.w e))) (resolve run (S.params e))) (resolve number e.type))
      (sized-both _ 7 _ (sized-both _ 5 _ (sized-both _ 2 _ (sized-at (S.words e)) _ 3 _ sized-w) _ 2 _ (sized-at (S.params e))) _ 1 _ (sized_cell e.type))
      r

  -- the part of a case that is compared
  compared : (Word × Shape) × Shapes → Shape × Shapes
  compared c = (c.0.1, c.1)

  compared_is : (t : Option Word) (x : Option Shape) (y : Option Shapes) → map₁ compared (map₂ pair (map₂ pair t x) y) ≡ where_formed t (map₂ pair x y)
  unfolding compared map₁ map₂ and_then
  compared_is none x y = refl
  compared_is (some t) none y = refl
  compared_is (some t) (some a) none = refl
  compared_is (some t) (some a) (some b) = refl

  module _ {A B L : Type 0} (f : A → B) (size : ℕ) (nil : L) (cons : B → L → L) (v : ℕ → Option A) (u : ℕ → Option B) (same : (i : ℕ) → map₁ f (v i) ≡ u i) where
    map-cons : (x : Option A) (l : Option L) → map₂ (λ a. cons (f a)) x l ≡ map₂ cons (map₁ f x) l
    unfolding map₁ map₂
    map-cons none l = refl
    map-cons (some a) l = refl

    from-map : (n i : ℕ) → list_from size nil (λ a. cons (f a)) v n i ≡ list_from size nil cons u n i
    unfolding list_from
    from-map zero i = refl
    from-map (suc n) i = map-cons (v i) (list_from size nil (λ a. cons (f a)) v n (i + size)) ∙ ap₂ (map₂ cons) (same i) (from-map n (i + size))

  whole_case : ℕ → Option ((Word × Shape) × Shapes)
  whole_case i = map₂ pair (map₂ pair (S.w e (token_at e.cells i)) (e.node (get_or e.cells (i + 3) 0))) (S.shapes e (run_at e.cells (i + 4)))

  pub cases_are : (r : Run) → IsList case_sort case_at e.cells r (S.cases e r)
  unfolding S.cases S.case_in S.word_in and_then compared whole_case
  cases_are r =
      list-from 6 S.no_case (λ (c : (Word × Shape) × Shapes). S.case_s c.0.1 c.1) whole_case e.cells
      (λ cs. map₂ pair (map₂ pair (S.w e (token_at cs 0)) (e.node (get_or (drop 3 cs) 0 0))) (S.shapes e (run_at (drop 4 cs) 0)))
      (λ i. ap₂ (map₂ pair) (ap₂ (map₂ pair) (ap (S.w e) (token-drop e.cells i)) (ap e.node (cell_at i 3))) (ap (S.shapes e) (run-at i 4)))
      (both (both (resolve token (S.w e)) (resolve number e.node)) (resolve run (S.shapes e)))
      (sized-both _ 4 _ (sized-both _ 3 _ sized-w _ 1 _ (sized_cell e.node)) _ 2 _ (sized-at (S.shapes e)))
      r
      ∙ ap (λ (l : Option CaseShapes). if (leb (r.start + r.len * 6) (length e.cells)) l none) (from-map compared 6 S.no_case (λ p. S.case_s p.0 p.1) whole_case case_at (λ i. compared_is (S.w e (token_at e.cells i)) (e.node (get_or e.cells (i + 3) 0)) (S.shapes e (run_at e.cells (i + 4)))) r.len r.start)
