-- What a rule does where it ends well: the tokens it takes, the words that striking leaves of them,
-- and how the tree grows.
use mathlib.Core.Path.{◌≡◌, refl, sym, ap, ap₂, ◌∙◌, subst}
use mathlib.Core.Bool.{Bool, true, false}
use mathlib.Core.Option.{none, some}
use mathlib.Core.List.{List, [], ◌∷◌, ◌++◌, map, flatten, append_assoc, append-nil, map-append}
use Prim.Native.Nat.{ℕ, zero, suc, ◌+◌, ◌-◌, ◌≤◌, ◌<◌}
use lib.Dec.{eqb, eqb→eq, T}
use lib.ListN.{length, length-append, length-map, replicate, length-replicate}
use native.Mathlib.Omega.{arith}
use Rattle.lex.specs.Kind.{k_eof, k_import, k_doc, k_ident, k_void}
use Rattle.lex.specs.Lex.{cut, tokens_of}
use Rattle.lex.specs.Spelling.{has_spelling, spelling_start}
use Rattle.rules.specs.Tree.{Arena, Notes, State, Result, ok, err}
use Rattle.rules.specs.Combinators.{Rule, current, rest, advance, struck, expect, expect_ident, with_arena, push_node_and, push_type, alloc_slice, members, list_until}
use Rattle.rules.specs.Shape.{Word, word_of, word, TypeShape, Shape, type_shape_at, node_shape_at, type_shape, node_shape}
use Rattle.ast.specs.Lists.{map₁, and_then, Decoder, decoded, chain, items, list_at}
use Rattle.rules.specs.Strike.{keep, no_doc_before_import}
use Rattle.rules.proofs.Results.{not_kind, Ends, holds, fails, weaken, if_kind-ok, bind_ok, then_ok, pure-ok, fail-ok, loop-ok}
use Rattle.rules.proofs.Unique.Print.{fixed, print_t, print_return, print}
use Rattle.rules.proofs.Unique.Grow.{Le, env, env_of, Grows, extend, grows_refl, grows_trans, arena-type, arena-node, from_end}
use Rattle.lex.specs.declared.tok.Token.{Token}
use Rattle.ast.specs.declared.Run.{Run}
use Rattle.ast.specs.declared.NodeId.{NodeId}
use Rattle.ast.specs.declared.TypeExprId.{TypeExprId}
use Rattle.ast.specs.declared.Node.{Node}
use Rattle.ast.specs.declared.TypeExpr.{TypeExpr}

-- ---- results

-- every record has a shape
pub record AllShaped (script : List ℕ) (m : Arena) : Type 0 where
  pub nodes : (i : ℕ) → i < length m.nodes → (σ : Shape) × (node_shape_at script m i ≡ some σ)
  pub types : (j : ℕ) → j < length m.types → (τ : TypeShape) × (type_shape_at script m j ≡ some τ)

-- what unique reading asks of a result: where a rule fails, only that every record made so far has
-- a shape
abbrev pub Holds : {A : Type 0} → List ℕ → (A → State → Type 0) → Result A → Type 0
Holds script P r = Ends P (λ s. AllShaped script s.arena) r

-- ---- tokens

-- a token's kind is known, and its spelling lies in the script
abbrev pub WellFormed : List ℕ → Token → Type 0
WellFormed script t = word script t ≡ some (word_of script t)

abbrev pub AllWellFormed : List ℕ → List Token → Type 0
AllWellFormed script [] = Unit {0}
AllWellFormed script (t ∷ ts) = WellFormed script t × AllWellFormed script ts

pub well_formed-snoc : (script : List ℕ) (ts : List Token) (t : Token) → AllWellFormed script ts → WellFormed script t → AllWellFormed script (ts ++ (t ∷ []))
well_formed-snoc script [] t h e = (e, tt)
well_formed-snoc script (u ∷ ts) t h e = (h.0, well_formed-snoc script ts t h.1 e)

-- Eof last and nowhere else, the tokens sound, and, where `D`, no Doc right before an Import
abbrev pub TokensOk : List ℕ → Type 0 → List Token → Type 0
TokensOk script D [] = ⊥
TokensOk script D (t ∷ []) = (t.kind ≡ k_eof) × WellFormed script t
TokensOk script D (t ∷ (u ∷ ts)) = (¬ (t.kind ≡ k_eof)) × (D → t.kind ≡ k_doc → ¬ (u.kind ≡ k_import)) × TokensOk script D (u ∷ ts) × WellFormed script t

pub tokens_ok_current : (script : List ℕ) (D : Type 0) (l : List Token) → TokensOk script D l → WellFormed script (current l)
unfolding current
tokens_ok_current script D [] g = absurd g
tokens_ok_current script D (t ∷ []) g = g.1
tokens_ok_current script D (t ∷ (u ∷ ts)) g = g.3

-- no Doc of the script stands right before an Import
abbrev pub NoDocBeforeImport : List ℕ → Type 0
NoDocBeforeImport script = no_doc_before_import (tokens_of (cut script)) ≡ true

-- between rules
pub record Invariant (script : List ℕ) (s : State) : Type 0 where
  pub docs : NoDocBeforeImport script → s.docs ≡ []
  pub tokens_ok : TokensOk script (NoDocBeforeImport script) s.left
  pub docs_well_formed : AllWellFormed script s.docs
  pub all_shaped : AllShaped script s.arena

pub keep_append : (bs cs : List Bool) (us vs : List Word) → length bs ≡ length us → keep (bs ++ cs) (us ++ vs) ≡ keep bs us ++ keep cs vs
unfolding keep
keep_append [] cs [] vs h = refl
keep_append [] cs (u ∷ us) vs h = absurd (omega arith)
keep_append (b ∷ bs) cs [] vs h = absurd (omega arith)
keep_append (true ∷ bs) cs (u ∷ us) vs h = ap {B = List Word} (λ r. u ∷ r) (keep_append bs cs us vs (omega arith))
keep_append (false ∷ bs) cs (u ∷ us) vs h = keep_append bs cs us vs (omega arith)

pub keep-none : (n : ℕ) (us : List Word) → n ≡ length us → keep (replicate n false) us ≡ []
unfolding keep
keep-none zero [] h = refl
keep-none zero (u ∷ us) h = absurd (omega arith)
keep-none (suc n) [] h = refl
keep-none (suc n) (u ∷ us) h = keep-none n us (omega arith)

-- ---- lists

module _ {A : Type 0} where
  -- each member's cells say one value
  pub data All (x : Decoder A) : List (List ℕ) → List A → Type 0 where
    all[] : All x [] []
    all∷ : {c : List ℕ} {a : A} {cs : List (List ℕ)} {as' : List A} → x c ≡ some (a, []) → All x cs as' → All x (c ∷ cs) (a ∷ as')

  pub all_snoc : (x : Decoder A) {cs : List (List ℕ)} {as' : List A} {c : List ℕ} {a : A} → All x cs as' → x c ≡ some (a, []) → All x (cs ++ (c ∷ [])) (as' ++ (a ∷ []))
  all_snoc x all[] e = all∷ e all[]
  all_snoc x (all∷ d l) e = all∷ d (all_snoc x l e)

  pub le_whole : (x y : Decoder A) → Le x y → (c : List ℕ) (a : A) → x c ≡ some (a, []) → y c ≡ some (a, [])
  le_whole x y h c a e = subst (λ (z : List ℕ). y z ≡ some (a, [])) (append-nil c) (h c a [] [] e)

  pub all_mono : (x y : Decoder A) → Le x y → {cs : List (List ℕ)} {as' : List A} → All x cs as' → All y cs as'
  all_mono x y h all[] = all[]
  all_mono x y h (all∷ {c} {a} d l) = all∷ (le_whole x y h c a d) (all_mono x y h l)

  -- the words of values, one after the other
  unfoldable pub print_all : (A → List Word) → List A → List Word
  print_all p [] = []
  print_all p (a ∷ as') = p a ++ print_all p as'

  pub print_all_snoc : (p : A → List Word) (l : List A) (a : A) → print_all p (l ++ (a ∷ [])) ≡ print_all p l ++ p a
  unfolding print_all
  print_all_snoc p [] a = append-nil (p a)
  print_all_snoc p (x ∷ l) a = ap (λ (z : List Word). p x ++ z) (print_all_snoc p l a) ∙ sym (append_assoc (p x) (print_all p l) (p a))

module _ {A L : Type 0} (nil : L) (cons : A → L → L) where
  unfoldable pub fold : List A → L
  fold [] = nil
  fold (a ∷ as') = cons a (fold as')

  pub all-items : (x : Decoder A) → Le x x → {cs : List (List ℕ)} {as' : List A} → All x cs as' → items x nil cons (length cs) (flatten cs) ≡ some (fold as', [])
  unfolding items fold flatten decoded chain and_then map₁
  all-items x h all[] = refl
  all-items x h (all∷ {c} {a} {cs} d l) = rw (h c a [] (flatten cs) d, all-items x h l)

  pub fold_print : (pA : A → List Word) (pL : L → List Word) → pL nil ≡ [] → ((a : A) (l : L) → pL (cons a l) ≡ pA a ++ pL l) → (as' : List A) → pL (fold as') ≡ print_all pA as'
  unfolding fold print_all
  fold_print pA pL n c [] = n
  fold_print pA pL n c (a ∷ as') = c a (fold as') ∙ ap (λ (z : List Word). pA a ++ z) (fold_print pA pL n c as')

module _ (script : List ℕ) where
  pub record Consumed (s s' : State) (ws : List Word) : Type 0 where
    pub taken : List Token
    pub given : List Bool
    pub left : s.left ≡ taken ++ s'.left
    pub marks : s'.notes.marks ≡ s.notes.marks ++ given
    pub even : length given ≡ length taken
    pub kept : s'.notes.after_default ≡ 0 → NoDocBeforeImport script → (s.notes.after_default ≡ 0) × (keep given (map (word_of script) taken) ≡ ws)
    pub grows : Grows script s.arena s'.arena
    pub invariant : Invariant script s'

module _ {script : List ℕ} where
  infixl 30 ◌▷◌
  unfoldable pub ◌▷◌ : {s s₁ s₂ : State} {u v : List Word} → Consumed script s s₁ u → Consumed script s₁ s₂ v → Consumed script s s₂ (u ++ v)
  ◌▷◌ {s} {s₁} {s₂} d e = record {
    taken = d.taken ++ e.taken;
    given = d.given ++ e.given;
    left = d.left ∙ ap (λ (l : List Token). d.taken ++ l) e.left ∙ sym (append_assoc d.taken e.taken s₂.left);
    marks = e.marks ∙ ap (λ (l : List Bool). l ++ e.given) d.marks ∙ append_assoc s.notes.marks d.given e.given;
    even = length-append d.given e.given ∙ ap₂ ◌+◌ d.even e.even ∙ sym (length-append d.taken e.taken);
    kept = λ l D. let q = e.kept l D in let p = d.kept q.0 D in (p.0, rw map-append (keep_append d.given e.given _ _ (d.even ∙ sym (length-map d.taken (word_of script))) ∙ ap₂ ◌++◌ p.1 q.1));
    grows = grows_trans script d.grows e.grows;
    invariant = e.invariant;
  }

  pub consumed_as : {s s' : State} {u v : List Word} → u ≡ v → Consumed script s s' u → Consumed script s s' v
  consumed_as {s} {s'} e d = subst (λ ws. Consumed script s s' ws) e d

  -- what is done, and nothing more
  pub consumed_end : {s s₁ s₂ : State} {u : List Word} → Consumed script s s₁ u → Consumed script s₁ s₂ [] → Consumed script s s₂ u
  consumed_end {u} d e = consumed_as (append-nil u) (d ▷ e)

module _ (script : List ℕ) where
  -- nothing taken
  unfoldable pub consumed_none : (s s' : State) → s'.left ≡ s.left → s'.notes ≡ s.notes → Grows script s.arena s'.arena → Invariant script s' → Consumed script s s' []
  unfolding keep
  consumed_none s s' l n g c = record {
    taken = [];
    given = [];
    left = sym l;
    marks = ap (λ (z : Notes). z.marks) n ∙ sym (append-nil s.notes.marks);
    even = refl;
    kept = λ z D. (ap (λ (y : Notes). y.after_default) (sym n) ∙ z, refl);
    grows = g;
    invariant = c;
  }

  unfoldable pub consumed_refl : (s : State) → Invariant script s → Consumed script s s []
  consumed_refl s c = consumed_none s s refl refl (grows_refl script s.arena) c

  -- ---- taking a token

  pub record TookToken (k : ℕ) (s : State) (t : Token) (s' : State) : Type 0 where
    pub kind : t.kind ≡ k
    pub consumed : Consumed script s s' (word_of script t ∷ [])
    pub one : consumed.taken ≡ t ∷ []
    pub is_well_formed : WellFormed script t

  abbrev pub after : State → State
  after s = record { left = rest s.left; docs = s.docs; arena = s.arena; notes = record { marks = s.notes.marks ++ (true ∷ []); after_default = s.notes.after_default } }

  pub took : (k : ℕ) (s : State) → Invariant script s → (current s.left).kind ≡ k → eqb k k_eof ≡ false → (l : List Token) → s.left ≡ l → TookToken k s (current s.left) (after s)
  unfolding current rest keep
  took k s c e n [] p = absurd (subst (TokensOk script (NoDocBeforeImport script)) p c.tokens_ok)
  took k s c e n (t ∷ []) p = absurd (subst T n (subst (λ (x : ℕ). T (eqb x k_eof)) (sym (ap (λ (l : List Token). (current l).kind) p ∙ (subst (TokensOk script (NoDocBeforeImport script)) p c.tokens_ok).0) ∙ e) tt))
  took k s c e n (t ∷ (u ∷ ts)) p = record {
    kind = e;
    consumed = record {
      taken = t ∷ [];
      given = true ∷ [];
      left = p ∙ ap (λ (l : List Token). t ∷ rest l) (sym p);
      marks = refl;
      even = refl;
      kept = λ z D. (z, ap (λ (l : List Token). word_of script (current l) ∷ []) (sym p));
      grows = grows_refl script s.arena;
      invariant = record { docs = c.docs; tokens_ok = subst (λ (l : List Token). TokensOk script (NoDocBeforeImport script) (rest l)) (sym p) (subst (TokensOk script (NoDocBeforeImport script)) p c.tokens_ok).2; docs_well_formed = c.docs_well_formed; all_shaped = c.all_shaped };
    };
    one = ap (λ (l : List Token). current l ∷ []) (sym p);
    is_well_formed = tokens_ok_current script (NoDocBeforeImport script) s.left c.tokens_ok;
  }

  pub advance-ok : (k : ℕ) (s : State) → Invariant script s → (current s.left).kind ≡ k → eqb k k_eof ≡ false → Holds script (TookToken k s) (advance s)
  unfolding advance
  advance-ok k s c e n = holds (took k s c e n s.left refl)

  pub expect-ok : (k : ℕ) (s : State) → Invariant script s → eqb k k_eof ≡ false → Holds script (TookToken k s) (expect k s)
  unfolding expect
  expect-ok k s c n = if_kind-ok k _ _ s (λ e. advance-ok k s c e n) (fail-ok 11 k s c.all_shaped)

  pub expect_ident-ok : (s : State) → Invariant script s → Holds script (TookToken k_ident s) (expect_ident s)
  unfolding expect_ident
  expect_ident-ok s c = if_kind-ok k_ident _ _ s (λ e. advance-ok k_ident s c e refl) (fail-ok 12 0 s c.all_shaped)

  pub word-fixed : (k : ℕ) (t : Token) → t.kind ≡ k → has_spelling k ≡ false → word_of script t ≡ fixed k
  unfolding word_of fixed
  word-fixed k t e n = λ i. record { kind = e i; spelling = go (has_spelling t.kind) (lib.ListN.take t.len (lib.ListN.drop (spelling_start script t) script)) (ap has_spelling e ∙ n) i }
    where
      go : (b : Bool) (ws : List ℕ) → b ≡ false → ◌≡◌ {A = List ℕ} (elim b as (λ b'. List ℕ) [ true ↦ ws | false ↦ [] ]) []
      go true ws q = absurd (subst T q tt)
      go false ws q = refl

  pub sign_ok : (k : ℕ) (s : State) → Invariant script s → eqb k k_eof ≡ false → has_spelling k ≡ false → Holds script (λ t s'. Consumed script s s' (fixed k ∷ [])) (expect k s)
  sign_ok k s c n m = weaken (expect-ok k s c n) (λ t s' d. consumed_as (ap (λ (x : Word). x ∷ []) (word-fixed k t d.kind m)) d.consumed)

  -- a token of a kind with a fixed spelling, taken by its kind
  pub sign_took : (k : ℕ) (s : State) → Invariant script s → (current s.left).kind ≡ k → eqb k k_eof ≡ false → has_spelling k ≡ false → Holds script (λ t s'. Consumed script s s' (fixed k ∷ [])) (advance s)
  sign_took k s c e n m = weaken (advance-ok k s c e n) (λ t s' d. consumed_as (ap (λ (x : Word). x ∷ []) (word-fixed k t d.kind m)) d.consumed)

  -- ---- striking

  abbrev pub struck_state : State → State → State
  struck_state s t = record { left = t.left; docs = t.docs; arena = t.arena; notes = record { marks = s.notes.marks ++ replicate (length s.left - length t.left) false; after_default = t.notes.after_default } }

  pub struck_consumed : {s t : State} {ws : List Word} → Consumed script s t ws → Consumed script s (struck_state s t) []
  struck_consumed {s} {t} d =
      let n : length s.left - length t.left ≡ length d.taken = omega (arith, ap length d.left ∙ length-append d.taken t.left) in
      record {
        taken = d.taken;
        given = replicate (length s.left - length t.left) false;
        left = d.left;
        marks = refl;
        even = length-replicate (length s.left - length t.left) false ∙ n;
        kept = λ z D. ((d.kept z D).0, keep-none _ _ (n ∙ sym (length-map d.taken (word_of script))));
        grows = d.grows;
        invariant = record { docs = d.invariant.docs; tokens_ok = d.invariant.tokens_ok; docs_well_formed = d.invariant.docs_well_formed; all_shaped = d.invariant.all_shaped };
      }

  pub struck-ok : {A : Type 0} {P Q : A → State → Type 0} (x : Rule A) (s : State) → Holds script P (x s) → ((a : A) (t : State) → P a t → Q a (struck_state s t)) → Holds script Q (struck x s)
  unfolding struck
  struck-ok {A} {P} {Q} x s h k = go (x s) h
    where
      go : (r : Result A) → Holds script P r → Holds script Q (elim r as (λ r'. Result A) [ ok a t ↦ ok a (struck_state s t) | err e t ↦ err e t ])
      go r (holds {a} {s = t} p) = holds (k a t p)
      go r (fails q) = fails q

  pub struck-advance-ok : (k : ℕ) (s : State) → Invariant script s → (current s.left).kind ≡ k → eqb k k_eof ≡ false → Holds script (λ t s'. Consumed script s s' []) (struck advance s)
  struck-advance-ok k s c e n = struck-ok advance s (advance-ok k s c e n) (λ t s₁ q. struck_consumed q.consumed)

  pub struck-expect-ok : (k : ℕ) (s : State) → Invariant script s → eqb k k_eof ≡ false → Holds script (λ t s'. Consumed script s s' []) (struck (expect k) s)
  struck-expect-ok k s c n = struck-ok (expect k) s (expect-ok k s c n) (λ t s₁ q. struck_consumed q.consumed)

  -- ---- making records

  -- nothing made but lists
  grown_shaped : (m m' : Arena) → AllShaped script m → Grows script m m' → m'.nodes ≡ m.nodes → m'.types ≡ m.types → AllShaped script m'
  grown_shaped m m' a g en et = record {
    nodes = λ i h. let z = a.nodes i (omega (arith, ap length en, h)) in (z.0, g.nodes i z.0 z.1);
    types = λ j h. let z = a.types j (omega (arith, ap length et, h)) in (z.0, g.types j z.0 z.1);
  }

  -- or one record, which has a shape
  one_type : (m m' : Arena) (x : TypeExpr) → AllShaped script m → m'.cells ≡ m.cells → m'.types ≡ m.types ++ (x ∷ []) → m'.nodes ≡ m.nodes → (τ : TypeShape) × (type_shape_at script m' (length m.types) ≡ some τ) → AllShaped script m'
  one_type m m' x a ec et en k =
      let g : Grows script m m' = extend script m m' [] (x ∷ []) [] (ec ∙ sym (append-nil _)) et (en ∙ sym (append-nil _)) in
      record {
        nodes = λ i h. let z = a.nodes i (omega (arith, ap length en, h)) in (z.0, g.nodes i z.0 z.1);
        types = λ j h. by_place g j (omega (arith, ap length et, length-append m.types (x ∷ []), h)) (eqb j (length m.types)) refl;
      }
    where
      by_place : Grows script m m' → (j : ℕ) → j ≤ length m.types → (b : Bool) → eqb j (length m.types) ≡ b → (τ : TypeShape) × (type_shape_at script m' j ≡ some τ)
      by_place g j h true e = subst (λ (i : ℕ). (τ : TypeShape) × (type_shape_at script m' i ≡ some τ)) (sym (eqb→eq j (length m.types) (rw e tt))) k
      by_place g j h false e = let z = a.types j (omega (arith, not_kind j (length m.types) e, h)) in (z.0, g.types j z.0 z.1)

  one_node : (m m' : Arena) (x : Node) → AllShaped script m → m'.cells ≡ m.cells → m'.types ≡ m.types → m'.nodes ≡ m.nodes ++ (x ∷ []) → (σ : Shape) × (node_shape_at script m' (length m.nodes) ≡ some σ) → AllShaped script m'
  one_node m m' x a ec et en k =
      let g : Grows script m m' = extend script m m' [] [] (x ∷ []) (ec ∙ sym (append-nil _)) (et ∙ sym (append-nil _)) en in
      record {
        nodes = λ i h. by_place g i (omega (arith, ap length en, length-append m.nodes (x ∷ []), h)) (eqb i (length m.nodes)) refl;
        types = λ j h. let z = a.types j (omega (arith, ap length et, h)) in (z.0, g.types j z.0 z.1);
      }
    where
      by_place : Grows script m m' → (i : ℕ) → i ≤ length m.nodes → (b : Bool) → eqb i (length m.nodes) ≡ b → (σ : Shape) × (node_shape_at script m' i ≡ some σ)
      by_place g i h true e = subst (λ (j : ℕ). (σ : Shape) × (node_shape_at script m' j ≡ some σ)) (sym (eqb→eq i (length m.nodes) (rw e tt))) k
      by_place g i h false e = let z = a.nodes i (omega (arith, not_kind i (length m.nodes) e, h)) in (z.0, g.nodes i z.0 z.1)

  pub record NodeDone (s : State) (n : NodeId) (s' : State) : Type 0 where
    pub shape : Shape
    pub is : node_shape_at script s'.arena n.0 ≡ some shape
    pub consumed : Consumed script s s' (print shape)

  pub record TypeDone (s : State) (t : TypeExprId) (s' : State) : Type 0 where
    pub shape : TypeShape
    pub is : type_shape_at script s'.arena t.0 ≡ some shape
    pub consumed : Consumed script s s' (print_t shape)
    pub ret : print_return shape ≡ elim (eqb (current s.left).kind k_void) as (λ b. List Word) [ true ↦ [] | false ↦ print_t shape ]

  -- a record made, after what was done before
  pub type-ok : {s₀ : State} {ws : List Word} (s : State) (x : TypeExpr) (σ : TypeShape) → Consumed script s₀ s ws → type_shape (env script s.arena.cells (type_shape_at script s.arena) (λ i. none)) x ≡ some σ → Holds script (λ t s'. (type_shape_at script s'.arena t.0 ≡ some σ) × Consumed script s₀ s' ws) (push_type x s)
  unfolding push_type with_arena
  type-ok s x σ d e =
      let m : Arena = s.arena in
      let m' : Arena = record { nodes = m.nodes; types = m.types ++ (x ∷ []); cells = m.cells; values = m.values } in
      holds (arena-type script m m' x refl refl ∙ e, consumed_end d (consumed_none s (with_arena m' s) refl refl (extend script m m' [] (x ∷ []) [] (sym (append-nil _)) refl (sym (append-nil _))) (record { docs = d.invariant.docs; tokens_ok = d.invariant.tokens_ok; docs_well_formed = d.invariant.docs_well_formed; all_shaped = one_type m m' x d.invariant.all_shaped refl refl refl (_, arena-type script m m' x refl refl ∙ e) })))

  pub node_ok : {s₀ : State} {ws : List Word} (s : State) (more : ℕ) (f : ℕ → Node) (σ : Shape) → Consumed script s₀ s ws → ((id : ℕ) → node_shape (env_of script s.arena) (f id) ≡ some σ) → Holds script (λ n s'. (node_shape_at script s'.arena n.0 ≡ some σ) × Consumed script s₀ s' ws) (push_node_and more f s)
  unfolding push_node_and with_arena
  node_ok s more f σ d e =
      let m : Arena = s.arena in
      let m' : Arena = record { nodes = m.nodes ++ (f m.values ∷ []); types = m.types; cells = m.cells; values = m.values + (1 + more) } in
      holds (arena-node script m m' (f m.values) refl refl refl ∙ e m.values, consumed_end d (consumed_none s (with_arena m' s) refl refl (extend script m m' [] [] (f m.values ∷ []) (sym (append-nil _)) (sym (append-nil _)) refl) (record { docs = d.invariant.docs; tokens_ok = d.invariant.tokens_ok; docs_well_formed = d.invariant.docs_well_formed; all_shaped = one_node m m' (f m.values) d.invariant.all_shaped refl refl refl (_, arena-node script m m' (f m.values) refl refl refl ∙ e m.values) })))

  pub node_end : {s₀ : State} {ws : List Word} (s : State) (more : ℕ) (f : ℕ → Node) (σ : Shape) → Consumed script s₀ s ws → ((id : ℕ) → node_shape (env_of script s.arena) (f id) ≡ some σ) → ws ≡ print σ → Holds script (NodeDone s₀) (push_node_and more f s)
  node_end s more f σ d e p = weaken (node_ok s more f σ d e) (λ n s' q. record { shape = σ; is = q.0; consumed = consumed_as p q.1 })

  pub type_end : {s₀ : State} {ws : List Word} (s : State) (x : TypeExpr) (σ : TypeShape) → Consumed script s₀ s ws → type_shape (env script s.arena.cells (type_shape_at script s.arena) (λ i. none)) x ≡ some σ → ws ≡ print_t σ → print_return σ ≡ elim (eqb (current s₀.left).kind k_void) as (λ b. List Word) [ true ↦ [] | false ↦ print_t σ ] → Holds script (TypeDone s₀) (push_type x s)
  type_end s x σ d e p r = weaken (type-ok s x σ d e) (λ n s' q. record { shape = σ; is = q.0; consumed = consumed_as p q.1; ret = r })

  -- ---- lists

  module _ {A : Type 0} (rd : Arena → Decoder A) (p : A → List Word) where
    -- a member read: its cells say a value, whose words are left
    pub record ItemDone (s : State) (c : List ℕ) (s' : State) : Type 0 where
      pub value : A
      pub is : rd s'.arena c ≡ some (value, [])
      pub consumed : Consumed script s s' (p value)

    pub record ListDone (s : State) (cs : List (List ℕ)) (s' : State) : Type 0 where
      pub values : List A
      pub are : All (rd s'.arena) cs values
      pub consumed : Consumed script s s' (print_all p values)

  module _ {A : Type 0} (rd : Arena → Decoder A) (p : A → List Word) (mono : (m m' : Arena) → Grows script m m' → Le (rd m) (rd m')) where
    pub list-snoc : {s s₁ s₂ : State} {cs : List (List ℕ)} {c : List ℕ} → ListDone rd p s cs s₁ → ItemDone rd p s₁ c s₂ → ListDone rd p s (cs ++ (c ∷ [])) s₂
    list-snoc d e = record {
      values = d.values ++ (e.value ∷ []);
      are = all_snoc _ (all_mono _ _ (mono _ _ e.consumed.grows) d.are) e.is;
      consumed = consumed_as (sym (print_all_snoc p d.values e.value)) (d.consumed ▷ e.consumed);
    }

    pub members-ok : (stop : ℕ) (item : Rule (List ℕ)) → ((s : State) → Invariant script s → Holds script (ItemDone rd p s) (item s)) → (s : State) → Invariant script s → Holds script (ListDone rd p s) (members stop item s)
    unfolding members print_all
    members-ok stop item h s c = loop-ok (ListDone rd p s) _
        (λ cs s₁ d. if_kind-ok _ _ _ s₁ (λ k. pure-ok _ s₁ d) (if_kind-ok _ _ _ s₁ (λ k. pure-ok _ s₁ d)
        (bind_ok item _ s₁ (h s₁ d.consumed.invariant) (λ x s₂ e. pure-ok _ s₂ (list-snoc d e)))))
        [] s (record { values = []; are = all[]; consumed = consumed_refl s c })

    -- what the cells say stays as the tree grows
    pub still : {m m' : Arena} {cs : List (List ℕ)} {vs : List A} → Grows script m m' → All (rd m) cs vs → All (rd m') cs vs
    still g l = all_mono _ _ (mono _ _ g) l

    -- a list written
    pub alloc_slice-ok : {L : Type 0} (nil : L) (cons : A → L → L) {s₀ : State} {ws : List Word} (s : State) (cs : List (List ℕ)) (vs : List A) → Consumed script s₀ s ws → All (rd s.arena) cs vs → Holds script (λ r s'. (list_at (rd s'.arena) nil cons s'.arena.cells r ≡ some (fold nil cons vs)) × Consumed script s₀ s' ws × (s'.left ≡ s.left)) (alloc_slice cs s)
    unfolding alloc_slice with_arena list_at and_then map₁
    alloc_slice-ok nil cons s cs vs d l =
        let m : Arena = s.arena in
        let m' : Arena = record { nodes = m.nodes; types = m.types; cells = m.cells ++ flatten cs; values = m.values } in
        let g : Grows script m m' = extend script m m' (flatten cs) [] [] refl (sym (append-nil _)) (sym (append-nil _)) in
        let i : items (rd m') nil cons (length cs) (flatten cs) ≡ some (fold nil cons vs, []) = all-items nil cons (rd m') (mono _ _ (grows_refl script m')) (all_mono (rd m) (rd m') (mono _ _ g) l) in
        let w : list_at (rd m') nil cons m'.cells (record { start = length m.cells; len = length cs }) ≡ some (fold nil cons vs) = rw (from_end m.cells (flatten cs), i) in
        holds (w, consumed_end d (consumed_none s (with_arena m' s) refl refl g (record { docs = d.invariant.docs; tokens_ok = d.invariant.tokens_ok; docs_well_formed = d.invariant.docs_well_formed; all_shaped = grown_shaped m m' d.invariant.all_shaped g refl refl })), refl)

    -- members, their closing token, and the list of them written
    pub record Listed {L : Type 0} (nil : L) (cons : A → L → L) (stop : ℕ) (s₀ : State) (ws : List Word) (r : Run) (s' : State) : Type 0 where
      pub values : List A
      pub is : list_at (rd s'.arena) nil cons s'.arena.cells r ≡ some (fold nil cons values)
      pub consumed : Consumed script s₀ s' ((ws ++ print_all p values) ++ (fixed stop ∷ []))

    pub list_until-ok : {L : Type 0} (nil : L) (cons : A → L → L) (stop : ℕ) (item : Rule (List ℕ)) → eqb stop k_eof ≡ false → has_spelling stop ≡ false → ((s : State) → Invariant script s → Holds script (ItemDone rd p s) (item s))
        → {s₀ : State} {ws : List Word} (s : State) → Consumed script s₀ s ws → Holds script (Listed nil cons stop s₀ ws) (list_until stop item s)
    unfolding list_until
    list_until-ok nil cons stop item n m h s d =
        bind_ok _ _ s (members-ok stop item h s d.invariant) (λ xs s₁ q.
        then_ok _ _ s₁ (sign_ok stop s₁ q.consumed.invariant n m) (λ x s₂ e.
        weaken (alloc_slice-ok nil cons s₂ xs q.values (d ▷ q.consumed ▷ e) (still e.grows q.are)) (λ r s₃ z.
        record { values = q.values; is = z.0; consumed = z.1 })))
