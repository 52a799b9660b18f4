-- How the rules read an expression whose tokens stand there: it ends well, and leaves what follows
-- them.
use Rattle.std.proofs.Common.{◌≡◌, ℕ, zero, suc, ◌+◌, ◌-◌, ◌<◌, ◌≤◌, Bool, true, false, eqb, ltb, List, [], ◌∷◌, ◌++◌, length, replicate, sym, refl, ap, ◌∙◌, subst, le_refl, arith, length-append, lt-ltb}
use mathlib.Core.Option.{Option, none, some}
use Rattle.lex.specs.Kind.{k_eof, k_brace_left, k_brace_right, k_plus, k_minus, k_equal, k_dot, k_i, k_ident, k_let, k_match, k_as, k_doc}
use Rattle.lex.specs.Lex.{is_prefix_sign, cut, tokens_of}
use Rattle.lex.specs.declared.tok.Token.{Token}
use Rattle.lex.proofs.Laws.{cases}
use Rattle.rules.specs.Tree.{State, Result, ok, err, Tree}
use Rattle.rules.specs.Combinators.{Rule, ◌>>=◌, pure, current, rest, advance, struck, by_kind, if_kind, choose, expect, expect_ident, with_arena, with_docs, push_node_and, alloc_slice, ControlFlow, continue, break, loop, doc_step, collect_docs, take_docs, Readers}
use Rattle.rules.specs.Rules.{atom, ident, breaks_off, require_no_docs, readers, item_by_kind, plain_item, group, unary, operand, postfix, postfix_step, sign_step, infix_step, binary, infixes, parse_expr, parse_let, parse_prefix}
use Rattle.rules.specs.Parse.{Reading, read, ended, begin, root, parse_roots, parse}
use Rattle.ast.specs.declared.NodeId.{NodeId}
use Rattle.ast.specs.declared.Node.{Node}
use Rattle.rules.proofs.Results.{Ends, holds, fails, ended-ok, if_kind_else, bind_ok, then_ok, pure-ok, cur-ok, not_kind, require_no_docs-ok, Turned, out, again, loop_out}
use Rattle.practice.specs.Practice.{Expr}
use Rattle.practice.proofs.Spelled.{Spelled, numeral, bracketed, signed, Lines, end, line, shorter, lines_fewer, depth, Shallow}
use Rattle.practice.proofs.Spelled as S

-- a reading without errors, with so many roots
pub record ReadAs (reading : Reading) (count : ℕ) : Type 0 where
  pub tree : Tree
  pub reads : reading ≡ read tree []
  pub roots : length tree.roots ≡ count

-- these tokens are left, and no docs wait
pub record Left (l : List Token) (s : State) : Type 0 where
  pub left : s.left ≡ l
  pub docs : s.docs ≡ []

-- a rule ends well, and then these tokens are left
abbrev pub Leaves : {A : Type 0} → List Token → Result A → Type 0
Leaves l r = Ends (λ a s. Left l s) (λ s. ⊥) r

-- ---- one rule at a time

kind_of : {t : Token} {l : List Token} {s : State} {k : ℕ} → Left (t ∷ l) s → t.kind ≡ k → (current s.left).kind ≡ k
unfolding current
kind_of h e = ap (λ (l : List Token). (current l).kind) h.left ∙ e

first : {t : Token} {l : List Token} {s : State} → Left (t ∷ l) s → current s.left ≡ t
unfolding current
first h = ap current h.left

module _ {A : Type 0} {P : A → State → Type 0} {E : State → Type 0} where
  -- by a kind that is known
  kind_at : (f : ℕ → Rule A) (s : State) (k : ℕ) → (current s.left).kind ≡ k → Ends P E (f k s)
      → Ends P E (by_kind f s)
  unfolding by_kind
  kind_at f s k e h = rw e h

  kind-yes : (k : ℕ) (x y : Rule A) (s : State) → (current s.left).kind ≡ k → Ends P E (x s)
      → Ends P E (if_kind k x y s)
  kind-yes k x y s e h = if_kind_else k x y s (λ z. h) (λ z. absurd (not_kind _ k z e))

  kind-no : (k : ℕ) (x y : Rule A) (s : State) → eqb (current s.left).kind k ≡ false → Ends P E (y s)
      → Ends P E (if_kind k x y s)
  kind-no k x y s e h = if_kind_else k x y s (λ z. absurd (not_kind _ k e z)) (λ z. h)

rest_of : (t : Token) (l : List Token) → 0 < length l → rest (t ∷ l) ≡ l
unfolding rest
rest_of t [] h = absurd (omega arith)
rest_of t (u ∷ l) h = refl

module _ {t : Token} {l : List Token} {s : State} (h : Left (t ∷ l) s) (more : 0 < length l) where
  advance_leaves : Leaves l (advance s)
  unfolding advance
  advance_leaves = ended-ok _ _ (record { left = ap rest h.left ∙ rest_of t l more; docs = h.docs })

  expect_leaves : (k : ℕ) → t.kind ≡ k → Leaves l (expect k s)
  unfolding expect
  expect_leaves k e = kind-yes k _ _ s (kind_of h e) advance_leaves

  expect_ident_leaves : t.kind ≡ k_ident → Leaves l (expect_ident s)
  unfolding expect_ident
  expect_ident_leaves e = kind-yes k_ident _ _ s (kind_of h e) advance_leaves

module _ {l : List Token} {s : State} (h : Left l s) where
  push_leaves : (more : ℕ) (f : ℕ → Node) → Leaves l (push_node_and more f s)
  unfolding push_node_and with_arena
  push_leaves more f = ended-ok _ _ (record { left = h.left; docs = h.docs })

  take_docs_leaves : Leaves l (take_docs s)
  unfolding take_docs alloc_slice with_arena with_docs
  take_docs_leaves = ended-ok _ _ (record { left = h.left; docs = refl })

struck_leaves : {A : Type 0} {l : List Token} (x : Rule A) (s : State) → Leaves l (x s) → Leaves l (struck x s)
unfolding struck
struck_leaves {A} {l} x s h = go (x s) h
  where
    go : (r : Result A) → Leaves l r → Leaves {A = A} l (elim r as (λ r'. Result A) [
      | ok a t ↦ ok a (record {
        left = t.left;
        docs = t.docs;
        arena = t.arena;
        notes = record {
          marks = s.notes.marks ++ replicate (length s.left - length t.left) false;
          after_default = t.notes.after_default;
        };
      })
      | err e t ↦ err e t
    ])
    go r (holds q) = holds (record { left = q.left; docs = q.docs })
    go r (fails q) = fails q

-- ---- loops

abbrev tokens : State → ℕ
tokens s = length s.left

left-some : {t : Token} {l : List Token} (s : State) → Left (t ∷ l) s → 0 < tokens s
left-some s h = rw h.left (omega arith)

-- one or the other is left
data Either (k l : List Token) (s : State) : Type 0 where
  before : Left k s → Either k l s
  behind : Left l s → Either k l s

-- a turn that leaves its loop, and no token taken
abbrev Breaks : {A : Type 0} → (A → State → Type 0) → List Token → State → Result (ControlFlow A) → Type 0
Breaks Inv l s r = Ends (Turned tokens Inv (λ a s₁. Left l s₁) s) (λ s₁. ⊥) r

break_leaves : {A : Type 0} {t : Token} {l : List Token} (f : A → Rule (ControlFlow A)) (a : A) (s : State)
    → Left (t ∷ l) s
    → ((b : A) (s' : State) → Left (t ∷ l) s' → Breaks (λ a' s₁. Left (t ∷ l) s₁) (t ∷ l) s' (f b s'))
    → Leaves (t ∷ l) (loop f a s)
break_leaves {t = t} {l} f a s h turn =
    loop_out tokens (λ b s'. Left (t ∷ l) s') (λ b s'. Left (t ∷ l) s') (λ b s' q. left-some s' q) f turn a s h
    (le_refl _)

collect_docs_leaves : {t : Token} {l : List Token} (s : State) → Left (t ∷ l) s → eqb t.kind k_doc ≡ false
    → Leaves (t ∷ l) (collect_docs s)
unfolding collect_docs
collect_docs_leaves s h e = break_leaves doc_step 0 s h (λ n s' q. kind-no k_doc _ _ s' (rw (kind_of q refl) e)
    (pure-ok _ s' (out q)))

-- ---- what stops an expression

module _ (power : ℕ → Option ℕ) where
  -- a token of the kind ends an expression that is read from the power `least` on
  pub record Stops (least kind : ℕ) : Type 0 where
    pub no_dot : eqb kind k_dot ≡ false
    pub no_call : eqb kind k_brace_left ≡ false
    pub no_cast : eqb kind k_as ≡ false
    pub weaker : (p : ℕ) → power kind ≡ some p → p < least

  module _ (script : List ℕ) (d : Readers) {t : Token} {l : List Token} where
    postfix_stops : (x : NodeId) (s : State) → Left (t ∷ l) s → eqb t.kind k_dot ≡ false
        → eqb t.kind k_brace_left ≡ false → Leaves (t ∷ l) (postfix d x s)
    unfolding postfix
    postfix_stops x s h e f =
        break_leaves (postfix_step d) x s h (λ b s' q.
        kind-no k_dot _ _ s' (rw (kind_of q refl) e) (kind-no k_brace_left _ _ s' (rw (kind_of q refl) f)
        (pure-ok _ s' (out q))))

    sign_stops : (Inv : NodeId → State → Type 0) (least : ℕ) (b : NodeId) (s : State) → Left (t ∷ l) s
        → ((p : ℕ) → power t.kind ≡ some p → p < least)
        → Breaks Inv (t ∷ l) s (sign_step d power script least b t s)
    sign_stops Inv least b s h w = go (power t.kind) refl
      where
        go : (o : Option ℕ) → power t.kind ≡ o
            → Breaks Inv (t ∷ l) s ((elim o as (λ o'. Rule (ControlFlow NodeId)) [
              | none ↦ pure (break b)
              | some p ↦ elim (breaks_off script t) as (λ t'. Rule (ControlFlow NodeId)) [
                | true ↦ pure (break b)
                | false ↦ elim (ltb p least) as (λ t'. Rule (ControlFlow NodeId)) [ true ↦ pure (break b) | false ↦ binary d b p ]
              ]
            ]) s)
        go none e = pure-ok _ s (out h)
        go (some p) e = cases (λ (x : Rule (ControlFlow NodeId)). Breaks Inv (t ∷ l) s (x s)) (breaks_off script t)
            (λ z. pure-ok _ s (out h)) (λ z. rw (lt-ltb _ _ (w p e)) (pure-ok _ s (out h)))

    infix_stops : (Inv : NodeId → State → Type 0) (least : ℕ) (b : NodeId) (s : State) → Left (t ∷ l) s
        → Stops least t.kind → Breaks Inv (t ∷ l) s (infix_step d power script least b s)
    infix_stops Inv least b s h e =
        kind-no k_as _ _ s (rw (kind_of h refl) e.no_cast)
        (cur-ok _ s (subst (λ (x : Token). Breaks Inv (t ∷ l) s (sign_step d power script least b x s)) (sym (first h))
        (sign_stops Inv least b s h e.weaker)))

    infixes_stop : (least : ℕ) (x : NodeId) (s : State) → Left (t ∷ l) s → Stops least t.kind
        → Leaves (t ∷ l) (infixes d power script least x s)
    unfolding infixes
    infixes_stop least x s h e = break_leaves (infix_step d power script least) x s h
        (λ b s' q. infix_stops _ least b s' q e)

  -- what begins an operand that is read well, read from the power `least` on
  expr_leaves : (script : List ℕ) (d : Readers) {t : Token} {l : List Token} (least : ℕ) (s : State)
      → Leaves (t ∷ l) (operand d s) → Stops least t.kind
      → Leaves (t ∷ l) (parse_expr d power script least s)
  unfolding parse_expr
  expr_leaves script d least s h e =
      bind_ok _ _ s h (λ x s₁ h₁. bind_ok _ _ s₁ (postfix_stops script d x s₁ h₁ e.no_dot e.no_call)
      (λ y s₂ h₂. infixes_stop script d least y s₂ h₂ e))

  -- ---- operands

  module _ (plus : power k_plus ≡ some 1) (close : power k_brace_right ≡ none) (script : List ℕ) where
    stops_plus : Stops 5 k_plus
    stops_plus = record {
      no_dot = refl;
      no_call = refl;
      no_cast = refl;
      weaker = λ p e. let z : p ≡ 1 = left_of p (sym plus ∙ e) in omega arith;
    }
      where
        left_of : (p : ℕ) → some 1 ≡ some p → p ≡ 1
        left_of p e = cc

    none_stops : (least kind : ℕ) → eqb kind k_dot ≡ false → eqb kind k_brace_left ≡ false → eqb kind k_as ≡ false
        → power kind ≡ none → Stops least kind
    none_stops least kind a b c e = record {
      no_dot = a;
      no_call = b;
      no_cast = c;
      weaker = λ p z. let y : none ≡ some
          p = sym e ∙ z in let x : ◌≡◌ {A = ℕ} 0 1 = cc in absurd (omega arith);
    }

    -- the loop of a sum: `+` and its second part, then what follows
    module _ (d : Readers) (t c : Token) (l m : List Token) (k : t.kind ≡ k_plus)
        (p : is_prefix_sign script t.start ≡ false) (fewer : length (c ∷ m) < length l) (stops : Stops 0 c.kind)
        (second : (s : State) → Left l s → Leaves (c ∷ m) (d.expr 2 s)) where
      abbrev Inv : NodeId → State → Type 0
      Inv x s = Either (t ∷ l) (c ∷ m) s

      infix_sign : breaks_off script t ≡ false
      unfolding breaks_off choose
      infix_sign = rw k p

      plus-binary : (x : NodeId) (s : State) → Left (t ∷ l) s
          → Breaks Inv (c ∷ m) s (binary d x 1 s)
      unfolding binary
      plus-binary x s h =
          bind_ok _ _ s (advance_leaves h (omega arith)) (λ op s₁ h₁.
          bind_ok _ _ s₁ (second s₁ h₁) (λ rhs s₂ h₂.
          bind_ok _ _ s₂ (push_leaves h₂ 0 _) (λ n s₃ h₃.
          pure-ok _ s₃ (again (behind h₃) (omega (
            arith,
            fewer,
            ap {B = ℕ} length h.left,
            ap {B = ℕ} length
                h₃.left,
          ))))))

      plus_sign : (x : NodeId) (s : State) → Left (t ∷ l) s → Breaks Inv (c ∷ m) s (sign_step d power script 0 x t s)
      plus_sign x s h = go (power t.kind) (ap power k ∙ plus) (breaks_off script t) infix_sign
        where
          go : (o : Option ℕ) → o ≡ some 1 → (b : Bool) → b ≡ false
              → Breaks Inv (c ∷ m) s ((elim o as (λ o'. Rule (ControlFlow NodeId)) [
                | none ↦ pure (break x)
                | some p ↦ elim b as (λ t'. Rule (ControlFlow NodeId)) [
                  | true ↦ pure (break x)
                  | false ↦ elim (ltb p 0) as (λ t'. Rule (ControlFlow NodeId)) [ true ↦ pure (break x) | false ↦ binary d x p ]
                ]
              ]) s)
          go o e b f = rw (e, f) (plus-binary x s h)

      turn : (x : NodeId) (s : State) → Inv x s → Breaks Inv (c ∷ m) s (infix_step d power script 0 x s)
      turn x s (before h) =
          kind-no k_as _ _ s (rw (kind_of h k))
          (cur-ok _ s (subst (λ (y : Token). Breaks Inv (c ∷ m) s (sign_step d power script 0 x y s)) (sym (first h))
          (plus_sign x s h)))
      turn x s (behind h) = infix_stops script d Inv 0 x s h stops

      some_left : (x : NodeId) (s : State) → Inv x s → 0 < tokens s
      some_left x s (before h) = left-some s h
      some_left x s (behind h) = left-some s h

      sum_leaves : (x : NodeId) (s : State) → Left (t ∷ l) s → Leaves (c ∷ m) (infixes d power script 0 x s)
      unfolding infixes
      sum_leaves x s h = loop_out tokens Inv (λ b s'. Left (c ∷ m) s') some_left (infix_step d power script 0) turn x s
          (before h) (le_refl _)

      sum-expr : (s : State) → Leaves (t ∷ l) (operand d s) → Leaves (c ∷ m) (parse_expr d power script 0 s)
      unfolding parse_expr
      sum-expr s h =
          bind_ok _ _ s h (λ x s₁ h₁. bind_ok _ _ s₁ (postfix_stops script d x s₁ h₁ (rw k) (rw k))
          (λ y s₂ h₂. sum_leaves y s₂ h₂))

    close_stops : (least : ℕ) (t : Token) → t.kind ≡ k_brace_right → Stops least t.kind
    close_stops least t e = rw e (none_stops least k_brace_right refl refl refl close)

    -- with enough levels an operand's rule takes the tokens of an expression
    operand_leaves : {e : Expr} {k l : List Token} (u : Token) → Spelled script e k (u ∷ l) → Stops 5 u.kind
        → (levels : ℕ) → depth e ≤ levels → (s : State) → Left k s
        → Leaves (u ∷ l) (operand (readers power script levels) s)
    unfolding operand choose atom ident group unary readers
    operand_leaves u (numeral k) stops levels h s q =
        kind_at _ s k_i (kind_of q k) (bind_ok _ _ s (advance_leaves q (omega arith)) (λ t s₁ q₁. push_leaves q₁ 0 _))
    operand_leaves u (S.ident k) stops levels h s q =
        kind_at _ s k_ident (kind_of q k) (bind_ok _ _ s (advance_leaves q (omega arith))
        (λ t s₁ q₁. push_leaves q₁ 0 _))
    operand_leaves u (bracketed o a p g b c) stops zero h s q = absurd (omega arith)
    operand_leaves u (bracketed o a p g b c) stops (suc zero) h s q = absurd (omega arith)
    operand_leaves u (bracketed {a = x} {b = y} {plus = plus'} {closing} {k} {l} {m} o a p g b c) stops (suc (suc n)) h
        s q =
        kind_at _ s k_brace_left (kind_of q o)
        (then_ok _ _ s (struck_leaves advance s (advance_leaves q (omega (arith, shorter script a)))) (λ t s₁ q₁.
        bind_ok _ _ s₁
        (sum-expr (readers power script (suc n)) plus' closing l m p g (shorter script b) (close_stops 0 closing c)
        (λ s₂ q₂.
        expr_leaves script (readers power script n) 2 s₂ (operand_leaves closing b (close_stops 5 closing c) n
        (omega arith) s₂ q₂) (close_stops 2 closing c))
        s₁ (operand_leaves plus' a (rw p stops_plus) (suc n) (omega arith) s₁ q₁)) (λ z s₂ q₂.
        then_ok _ _ s₂ (struck_leaves (expect k_brace_right) s₂ (expect_leaves q₂ (omega arith) k_brace_right c))
        (λ w s₃ q₃. pure-ok z s₃ q₃))))
    operand_leaves u (signed k a) stops zero h s q = absurd (omega arith)
    operand_leaves u (signed k a) stops (suc n) h s q =
        kind_at _ s k_minus (kind_of q k)
        (bind_ok _ _ s (advance_leaves q (omega (arith, shorter script a))) (λ t s₁ q₁.
        bind_ok _ _ s₁ (expr_leaves script (readers power script n) 5 s₁
        (operand_leaves u a stops n (omega arith) s₁ q₁) stops) (λ x s₂ q₂.
        push_leaves q₂ 0 _)))

    -- ---- items

    -- an item that begins with a token of the kind is an expression
    record Plain (d : Readers) (kind : ℕ) : Type 0 where
      no_doc : eqb kind k_doc ≡ false
      no_match : eqb kind k_match ≡ false
      plain : item_by_kind d kind ≡ require_no_docs (plain_item d)

    prefix_leaves : (d : Readers) {t : Token} {l m : List Token} (s : State) → Left (t ∷ l) s → (kind : ℕ)
        → t.kind ≡ kind → Plain d kind
        → ((s₁ : State) → Left (t ∷ l) s₁ → Leaves m (d.expr 0 s₁)) → Leaves m (parse_prefix d s)
    unfolding parse_prefix
    prefix_leaves d s h kind k p expr =
        then_ok _ _ s (collect_docs_leaves s h (rw k p.no_doc)) (λ n s₁ h₁.
        kind_at (item_by_kind d) s₁ kind (kind_of h₁ k) (rw p.plain
        (require_no_docs-ok _ s₁ (λ z. kind-no k_match _ _ s₁ (rw (kind_of h₁ k) p.no_match) (expr s₁ h₁))
        (λ z. z h₁.docs))))

    abbrev below : ℕ → Readers
    below n = readers power script (suc n)

    module _ (n : ℕ) {l : List Token} (u : Token) (stops : Stops 5 u.kind) (stops₀ : Stops 0 u.kind) where
      expr₀ : {e : Expr} {k : List Token} → Spelled script e k (u ∷ l) → depth e ≤ n → (s : State) → Left k s
          → Leaves (u ∷ l) ((below n).expr 0 s)
      unfolding readers
      expr₀ a h s q = expr_leaves script (readers power script n) 0 s (operand_leaves u a stops n h s q) stops₀

      item_leaves : {e : Expr} {k : List Token} → Spelled script e k (u ∷ l) → depth e ≤ n → (s : State) → Left k s
          → Leaves (u ∷ l) (parse_prefix (below n) s)
      unfolding choose
      item_leaves (numeral {n = x} k) h s q = prefix_leaves (below n) s q k_i k
          (record { no_doc = refl; no_match = refl; plain = refl }) (expr₀ (numeral {n = x} k) h)
      item_leaves (S.ident {n = x} k) h s q = prefix_leaves (below n) s q k_ident k
          (record { no_doc = refl; no_match = refl; plain = refl }) (expr₀ (S.ident {n = x} k) h)
      item_leaves (bracketed o a p g b c) h s q = prefix_leaves (below n) s q k_brace_left o
          (record { no_doc = refl; no_match = refl; plain = refl }) (expr₀ (bracketed o a p g b c) h)
      item_leaves (signed k a) h s q = prefix_leaves (below n) s q k_minus k
          (record { no_doc = refl; no_match = refl; plain = refl }) (expr₀ (signed k a) h)

      -- a line
      line_leaves : {e : Expr} {let' name' equal : Token} {k : List Token} → let'.kind ≡ k_let → name'.kind ≡ k_ident
          → equal.kind ≡ k_equal → Spelled script e k (u ∷ l) → depth e ≤ n
          → (s : State) → Left (let' ∷ name' ∷ equal ∷ k) s
          → Leaves (u ∷ l) ((readers power script (suc (suc (suc n)))).prefix s)
      unfolding readers parse_prefix choose parse_let
      line_leaves a b c e h s q =
          then_ok _ _ s (collect_docs_leaves s q (rw a)) (λ z₀ s₀ q₀.
          kind_at _ s₀ k_let (kind_of q₀ a)
          (bind_ok _ _ s₀ (take_docs_leaves q₀) (λ docs s₁ q₁.
          then_ok _ _ s₁ (expect_leaves q₁ (omega arith) k_let a) (λ z₁ s₂ q₂.
          bind_ok _ _ s₂ (expect_ident_leaves q₂ (omega arith) b) (λ z₂ s₃ q₃.
          then_ok _ _ s₃ (expect_leaves q₃ (omega (arith, shorter script e)) k_equal c) (λ z₄ s₄ q₄.
          bind_ok _ _ s₄ (item_leaves e h s₄ q₄) (λ rhs s₅ q₅.
          push_leaves q₅ 0 _)))))))

    -- ---- the roots of a sheet

    module _ (let-none : power k_let ≡ none) (eof : power k_eof ≡ none) where
      let_stops : (least : ℕ) (t : Token) → t.kind ≡ k_let → Stops least t.kind
      let_stops least t e = rw e (none_stops least k_let refl refl refl let-none)

      eof_stops : (least : ℕ) (t : Token) → t.kind ≡ k_eof → Stops least t.kind
      eof_stops least t e = rw e (none_stops least k_eof refl refl refl eof)

      -- lines that are still to be read
      record ToRead (total : ℕ) (roots : List ℕ) (s : State) : Type 0 where
        es : List Expr
        tokens_left : List Token
        lines : Lines script es tokens_left
        shallow : Shallow 125 es
        left : Left tokens_left s
        count : length roots + length es ≡ total

      abbrev step : List ℕ → Rule (ControlFlow (List ℕ))
      step roots = if_kind k_eof (pure (break roots)) (root power script
          >>= (λ n. pure (continue (roots ++ (n.0 ∷ [])))))

      abbrev Turn : ℕ → List ℕ → State → Type 0
      Turn total roots s = Ends (Turned tokens (ToRead total) (λ rs s₁. length rs ≡ total) s) (λ s₁. ⊥) (step roots s)

      -- one line, and more of them
      line_turn : {e : Expr} {es : List Expr} {let' name' equal : Token} {k l : List Token} (u : Token)
          → let'.kind ≡ k_let → name'.kind ≡ k_ident → equal.kind ≡ k_equal → Spelled script e k (u ∷ l)
          → Stops 5 u.kind → Stops 0 u.kind → Lines script es (u ∷ l) → Shallow 125 (e ∷ es)
          → (total : ℕ) (roots : List ℕ) (s : State) → Left (let' ∷ name' ∷ equal ∷ k) s
          → length roots + suc (length es) ≡ total → Turn total roots s
      line_turn u a b c e stops stops₀ ls h total roots s q count =
          kind-no k_eof _ _ s (rw (kind_of q a))
          (bind_ok _ _ s (line_leaves 125 u stops stops₀ a b c e h.0 s q) (λ n s₁ q₁.
          pure-ok _ s₁ (again
          (record {
            es = _;
            tokens_left = _;
            lines = ls;
            shallow = h.1;
            left = q₁;
            count = omega
                (arith, count, length-append roots (n.0 ∷ []));
          })
          (omega (arith, shorter script e, ap {B = ℕ} length q.left, ap {B = ℕ} length q₁.left)))))

      lines_turn : {es : List Expr} {l : List Token} → Lines script es l → Shallow 125 es
          → (total : ℕ) (roots : List ℕ) (s : State) → Left l s → length roots + length es ≡ total → Turn total roots s
      lines_turn (end h) z total roots s q count = kind-yes k_eof _ _ s (kind_of q h)
          (pure-ok _ s (out (omega (arith, count))))
      lines_turn (line a b c e (end {t} h)) z total roots s q count = line_turn t a b c e (eof_stops 5 t h)
          (eof_stops 0 t h) (end h) z total roots s q count
      lines_turn (line a b c e (line {let' = t} a₁ b₁ c₁ e₁ ls)) z total roots s q count =
          line_turn t a b c e (let_stops 5 t a₁) (let_stops 0 t a₁) (line a₁ b₁ c₁ e₁ ls) z total roots s q count

      roots_leave : (es : List Expr) (l : List Token) → Lines script es l → Shallow 125 es → (s : State) → Left l s
          → Ends (λ rs s₁. length rs ≡ length es) (λ s₁. ⊥) (parse_roots power script s)
      unfolding parse_roots
      roots_leave es l ls z s q =
          loop_out tokens (ToRead (length es)) (λ rs s₁. length rs ≡ length es)
          (λ rs s₁ r. omega (arith, lines_fewer script r.lines, ap {B = ℕ} length r.left.left))
          step (λ rs s₁ r. lines_turn r.lines r.shallow (length es) rs s₁ r.left r.count)
          [] s (record { es = es; tokens_left = l; lines = ls; shallow = z; left = q; count = omega arith }) (le_refl _)

      -- strict mode accepts, with a root for each expression
      pub sheet-read : (es : List Expr) → Lines script es (tokens_of (cut script)) → Shallow 125 es
          → ReadAs (parse power script) (length es)
      unfolding parse begin
      sheet-read es ls z = go (parse_roots power script (begin script))
          (roots_leave es _ ls z (begin script) (record { left = refl; docs = refl }))
        where
          go : (r : Result (List ℕ)) → Ends (λ rs s₁. length rs ≡ length es) (λ s₁. ⊥) r
              → ReadAs (elim r as (λ r'. Reading) [
                | ok roots s ↦ read (record { arena = s.arena; roots = roots }) []
                | err x s ↦ ended x
              ]) (length es)
          go r (holds {a = rs} {s} e) = record {
            tree = record { arena = s.arena; roots = rs };
            reads = refl;
            roots = e;
          }
          go r (fails q) = absurd q
