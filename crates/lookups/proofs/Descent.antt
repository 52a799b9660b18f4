-- How the lookups go down a tree: a step, and then the same from a child.
use mathlib.Core.Path.{◌≡◌, refl, sym, ◌∙◌, ap}
use mathlib.Core.Bool.{Bool, true, false}
use mathlib.Core.Option.{Option, none, some}
use mathlib.Core.List.{List}
use Prim.Native.Nat.{ℕ, ◌<◌, ◌≤◌}
use native.Mathlib.Omega.{arith}
use lib.Dec.{ltb, eqb}
use lib.ListN.{get_or}
use borrow.Author.Tests.{lt-ltb, le-ltb, ltb-true, ltb-false}
use Rattle.lex.specs.Spelling.{well_formed}
use Rattle.ast.specs.Lists.{and_then}
use Rattle.lex.specs.declared.tok.Token.{Token}
use Rattle.ast.specs.declared.Run.{Run}
use Rattle.ast.specs.declared.NodeId.{NodeId}
use Rattle.ast.specs.declared.Node.{Node}
use Rattle.ast.specs.declared.Node.TheVariants as N
use Rattle.ast.specs.declared.TypeExpr.{TypeExpr}
use Rattle.ast.specs.declared.TypeExpr.TheVariants as T
use Rattle.lex.specs.Bytes.{if}
use Rattle.ast.specs.Decode.{low32, token_at, node_at, type_at}
use Rattle.ast.specs.Tabulate.{entries_below, entry_at}
use Rattle.ast.proofs.Tabulate.{entries_below_lem, entries_past}
use Rattle.lookups.specs.Lookup.{inside, token_start, or_else, match_start, start_of, start_row, start_at, type_token_of, type_token_row, type_token_at}
use Rattle.lookups.specs.Descent.{as_start, start_or, Start, Step, done, descend, array_step, step_of, inner_of, own_token, Innermost}
use Rattle.std.specs.Prelude.{Err}
use Rattle.lex.specs.declared.diagnostic.Refusal.TheVariants.{Malformed}

-- ---- an answer that no other stands in for

Settled : Option (Option ℕ) → Type 0
Settled x = (o : Start) → start_or o (as_start x) ≡ as_start x

settled_if : (b : Bool) (x y : Option (Option ℕ)) → Settled x → Settled y → Settled (if b x y)
settled_if true x y p q = p
settled_if false x y p q = q

settled_none : Settled none
unfolding Settled as_start start_or
settled_none o = refl

settled_token : (s : List ℕ) (t : Token) → Settled (token_start s t)
unfolding token_start Settled as_start start_or
settled_token s t = settled_if (well_formed s t) (some (some (low32 t.start))) none (λ o. refl) settled_none

settled_match : (s cells : List ℕ) (cs : Run) (t : Token) → Settled (match_start s cells cs t)
unfolding match_start
settled_match s cells cs t = settled_if (inside 6 cells cs) _ _ (settled_if (eqb cs.len 0) _ _ (settled_token s t) (settled_token s (token_at cells cs.start))) settled_none

-- ---- the start lookup

module _ (script cells nodes : List ℕ) where
  before : ℕ → ℕ → Option (Option ℕ)
  before = entries_below (start_row script cells) (node_at nodes)

  -- what comes of a step of record `i`
  unfoldable pub finish : ℕ → Step → Start
  finish i (done s) = s
  finish i (descend j o) = if (ltb j.0 i) (start_or o (as_start (start_at script cells nodes j.0))) (Err Malformed)

  pub finish_below : (i : ℕ) (j : NodeId) (o : Start) → j.0 < i → finish i (descend j o) ≡ start_or o (as_start (start_at script cells nodes j.0))
  unfolding finish
  finish_below i j o h = rw (lt-ltb j.0 i h)

  pub finish_past : (i : ℕ) (j : NodeId) (o : Start) → i ≤ j.0 → finish i (descend j o) ≡ Err Malformed
  unfolding finish
  finish_past i j o h = rw (le-ltb j.0 i h)

  finish_descend : (i : ℕ) (j : NodeId) (o : Start) → finish i (descend j o) ≡ start_or o (as_start (before i j.0))
  unfolding start_or as_start before entries_below
  finish_descend i j o = go (ltb j.0 i) refl
    where
      go : (b : Bool) → ltb j.0 i ≡ b → finish i (descend j o) ≡ start_or o (as_start (before i j.0))
      go true e = finish_below i j o (ltb-true j.0 i e) ∙ ap (λ x. start_or o (as_start x)) (sym (entries_below_lem (start_row script cells) (node_at nodes) i j.0 (ltb-true j.0 i e)))
      go false e = finish_past i j o (ltb-false j.0 i e) ∙ ap (λ x. start_or o (as_start x)) (sym (entries_past (start_row script cells) (node_at nodes) i j.0 (ltb-false j.0 i e)))

  -- the other of a record that has an operator stands in for the operator's own
  operator : (other : Start) (b x : Option (Option ℕ)) → Settled b → start_or (as_start b) (as_start x) ≡ start_or other (as_start (or_else b x))
  unfolding or_else as_start start_or Settled
  operator other b none h = refl
  operator other b (some none) h = sym (h other)
  operator other b (some (some p)) h = refl

  members : (other : Start) (i j : ℕ) (a e : Bool)
      → finish i (if a (if e (done other) (descend (record { 0 = j }) other)) (done (Err Malformed))) ≡ start_or other (as_start (if a (if e (some none) (before i j)) none))
  unfolding finish as_start start_or
  members other i j true true = refl
  members other i j true false = finish_descend i (record { 0 = j }) other
  members other i j false e = refl

  step : (other : Start) (i : ℕ) (o : Option Node) → finish i (step_of script cells other o) ≡ start_or other (as_start (start_row script cells (before i) o))
  unfolding finish step_of start_of as_start start_or and_then array_step Settled
  step other i none = refl
  step other i (some (N.Atom id raw)) = sym (settled_token script raw other)
  step other i (some (N.Ident id name)) = sym (settled_token script name other)
  step other i (some (N.Bin id op lhs rhs)) = finish_descend i lhs (as_start (token_start script op)) ∙ operator other (token_start script op) (before i lhs.0) (settled_token script op)
  step other i (some (N.Unary id op rhs)) = sym (settled_token script op other)
  step other i (some (N.Let id docs name rhs)) = sym (settled_token script name other)
  step other i (some (N.Fn id docs name args ret body)) = sym (settled_token script name other)
  step other i (some (N.Match id cases t body)) = sym (settled_match script cells cases t other)
  step other i (some (N.Call id target args)) = finish_descend i target other
  step other i (some (N.Field id target name)) = finish_descend i target other
  step other i (some (N.Cast id src lhs rhs)) = sym (settled_token script src other)
  step other i (some (N.Import id src pkgs)) = sym (settled_token script src other)
  step other i (some (N.Extern id src docs name fns)) = sym (settled_token script src other)
  step other i (some (N.Record id src fields)) = sym (settled_token script src other)
  step other i (some (N.Array id src ms)) = members other i (get_or cells ms.start 0) (inside 1 cells ms) (eqb ms.len 0)

  -- a step, and what comes of it, is the answer
  pub steps : (other : Start) (i : ℕ) → finish i (step_of script cells other (node_at nodes i)) ≡ start_or other (as_start (start_at script cells nodes i))
  unfolding entry_at before
  steps other i = step other i (node_at nodes i)

-- ---- the token of a type

module _ (script types : List ℕ) where
  unfoldable pub inner : ℕ → ℕ → Option Token
  inner = entries_below (type_token_row script) (type_at types)

  pub token-none : (i : ℕ) → type_at types i ≡ none → type_token_at script types i ≡ none
  unfolding entry_at and_then
  token-none i e = rw e

  pub token-some : (i : ℕ) {t : TypeExpr} → type_at types i ≡ some t → type_token_at script types i ≡ type_token_of script (inner i) t
  unfolding entry_at and_then inner
  token-some i e = rw e

  pub inner_below : (i j : ℕ) → j < i → inner i j ≡ type_token_at script types j
  unfolding inner
  inner_below i j h = entries_below_lem (type_token_row script) (type_at types) i j h

  pub inner_past : (i j : ℕ) → i ≤ j → inner i j ≡ none
  unfolding inner
  inner_past i j h = entries_past (type_token_row script) (type_at types) i j h

  pub own_is : (i : ℕ) → i ≤ inner_of (type_at types i) i → own_token script (type_at types i) ≡ type_token_at script types i
  unfolding own_token inner_of type_token_of
  own_is i h = go (type_at types i) refl h
    where
      go : (o : Option TypeExpr) → type_at types i ≡ o → i ≤ inner_of o i → own_token script o ≡ type_token_at script types i
      go none e h = sym (token-none i e)
      go (some (T.Atom t)) e h = sym (token-some i e)
      go (some (T.Foreign t)) e h = sym (token-some i e)
      go (some (T.Option j)) e h = sym (token-some i e ∙ inner_past i j.0 h)
      go (some (T.Array j)) e h = sym (token-some i e ∙ inner_past i j.0 h)
      go (some (T.Record t fs)) e h = sym (token-some i e)

-- a step down a type
module _ (types : List ℕ) where
  lower : (script : List ℕ) (i : ℕ) (o : Option TypeExpr) → type_at types i ≡ o → inner_of o i < i → type_token_at script types (inner_of o i) ≡ type_token_at script types i
  unfolding inner_of type_token_of
  lower script i none e h = absurd (omega arith)
  lower script i (some (T.Atom t)) e h = absurd (omega arith)
  lower script i (some (T.Foreign t)) e h = absurd (omega arith)
  lower script i (some (T.Option j)) e h = sym (token-some script types i e ∙ inner_below script types i j.0 h)
  lower script i (some (T.Array j)) e h = sym (token-some script types i e ∙ inner_below script types i j.0 h)
  lower script i (some (T.Record t fs)) e h = absurd (omega arith)

  pub innermost_step : (i j r : ℕ) → j ≡ inner_of (type_at types i) i → j < i → Innermost types j r → Innermost types i r
  innermost_step i j r e h b =
      let l : inner_of (type_at types i) i < i = rw e at h in
      record { ends = b.ends; same = λ script. b.same script ∙ ap (type_token_at script types) e ∙ lower script i (type_at types i) refl l }
