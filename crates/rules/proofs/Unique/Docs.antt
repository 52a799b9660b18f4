-- A Doc right before Eof is never accepted: no rule takes it and ends well. So of an accepted
-- script 'no Doc right before an Import or Eof' says no more than 'no Doc right before an Import'.
use mathlib.Core.Path.{◌≡◌, refl, sym, ap, ◌∙◌, subst}
use mathlib.Core.Bool.{Bool, true, false}
use mathlib.Core.Option.{Option, none, some}
use mathlib.Core.List.{List, [], ◌∷◌}
use Prim.Native.Nat.{ℕ, zero, suc}
use lib.Dec.{eqb, ltb}
use lib.ListN.{length}
use native.Mathlib.Omega.{arith}
use borrow.Author.Tests.{eqb-true, ne_eqb}
use Rattle.lex.specs.Kind.{k_eof, k_brace_left, k_brace_right, k_equal, k_less_than, k_greater_than, k_colon, k_dot, k_braket_right, k_curly_left, k_curly_right, k_s, k_ident, k_doc, k_import, k_extern, k_let, k_fn, k_match, k_as, k_void}
use Rattle.lex.specs.Lex.{cut, tokens_of}
use Rattle.lex.proofs.Spellings.{cut-ended}
use Rattle.lex.specs.declared.tok.Token.{Token}
use Rattle.rules.specs.Tree.{Notes, State, Result, ok, err, Tree}
use Rattle.rules.specs.Combinators as R
use Rattle.rules.specs.Combinators.{Rule, current, rest, Readers, ControlFlow, break, with_docs}
use Rattle.rules.specs.Rules as Q
use Rattle.rules.specs.Rules.{Cases, readers, stage_one, max_levels}
use Rattle.rules.specs.Parse.{Reading, read, ended, begin, parse, parse_roots}
use Rattle.rules.specs.Strike.{no_doc_before_import, no_doc_before_import_or_eof}
use Rattle.ast.specs.declared.Run.{Run}
use Rattle.ast.specs.declared.NodeId.{NodeId}
use Rattle.ast.specs.declared.TypeExprId.{TypeExprId}
use Rattle.ast.specs.declared.Node.{Node}
use Rattle.ast.specs.declared.Node.TheVariants as N
use Rattle.ast.specs.declared.TypeExpr.{TypeExpr}
use Rattle.ast.specs.declared.TypeExpr.TheVariants as X
use Rattle.rules.proofs.Unique.Grow.{none≢some}
use Rattle.rules.proofs.Results.{Ends, holds, fails, both, ended-ok, if_kind-ok, table_ok, entry-ok, other_ok, bind_ok, then_ok, pure-ok, cur-ok, fail-ok, reject_kind-ok, require_no_docs-ok, loop-ok}
use Rattle.rules.proofs.Counting.Step.{WellEnded, snoc≢nil}
use Rattle.rules.proofs.Counting.Whole.{ended_well_ended, ended≢read, Finished, Reached, parse_roots-ends}

-- ---- a Doc right before Eof

-- the last two tokens are a Doc and Eof, and no other is Eof
abbrev pub DocLast : List Token → Type 0
DocLast [] = ⊥
DocLast (t ∷ []) = ⊥
DocLast (t ∷ (u ∷ [])) = (t.kind ≡ k_doc) × (u.kind ≡ k_eof)
DocLast (t ∷ (u ∷ (v ∷ ts))) = (¬ (t.kind ≡ k_eof)) × DocLast (u ∷ (v ∷ ts))

rest-last : (l : List Token) → ¬ ((current l).kind ≡ k_doc) → DocLast l → DocLast (rest l)
unfolding current rest
rest-last [] n d = absurd d
rest-last (t ∷ []) n d = absurd d
rest-last (t ∷ (u ∷ [])) n d = absurd (n d.0)
rest-last (t ∷ (u ∷ (v ∷ ts))) n d = d.1

not_eof_lem : (l : List Token) → DocLast l → ¬ ((current l).kind ≡ k_eof)
unfolding current
not_eof_lem [] d e = d
not_eof_lem (t ∷ []) d e = d
not_eof_lem (t ∷ (u ∷ [])) d e = omega (arith, d.0)
not_eof_lem (t ∷ (u ∷ (v ∷ ts))) d e = d.0 e

-- what taking a Doc leaves
data After (l : List Token) : Type 0 where
  before : DocLast l → After l
  at_eof : (current l).kind ≡ k_eof → After l

rest-doc : (l : List Token) → DocLast l → After (rest l)
unfolding current rest
rest-doc [] d = absurd d
rest-doc (t ∷ []) d = absurd d
rest-doc (t ∷ (u ∷ [])) d = at_eof d.1
rest-doc (t ∷ (u ∷ (v ∷ ts))) d = before d.1

-- ---- rules that leave the Doc

abbrev Any : State → Type 0
Any s = Unit {0}

-- where it ends well, the Doc is still left
abbrev Leaves : {A : Type 0} → Result A → Type 0
Leaves r = Ends (λ a s. DocLast s.left) Any r

abbrev Keeps : {A : Type 0} → Rule A → Type 0
Keeps x = (s : State) → DocLast s.left → Leaves (x s)

-- at a token that is no Doc
abbrev KeepsAt : {A : Type 0} → Rule A → Type 0
KeepsAt x = (s : State) → ¬ ((current s.left).kind ≡ k_doc) → DocLast s.left → Leaves (x s)

advance_keeps : KeepsAt R.advance
unfolding R.advance
advance_keeps s n d = ended-ok _ _ (rest-last s.left n d)

expect_keeps : (k : ℕ) → ¬ (k ≡ k_doc) → Keeps (R.expect k)
unfolding R.expect
expect_keeps k n s d = if_kind-ok k _ _ s (λ e. advance_keeps s (λ z. n (sym e ∙ z)) d) (fail-ok 11 k s tt)

expect_ident_keeps : Keeps R.expect_ident
unfolding R.expect_ident
expect_ident_keeps s d = if_kind-ok k_ident _ _ s (λ e. advance_keeps s (omega arith) d) (fail-ok 12 0 s tt)

reject_kind_keeps : (k n : ℕ) → Keeps (R.reject_kind k n)
reject_kind_keeps k n s d = reject_kind-ok k n s d tt

struck_keeps : {A : Type 0} (x : Rule A) (s : State) → Leaves (x s) → Leaves (R.struck x s)
unfolding R.struck
struck_keeps {A} x s h = go _ (x s) h
  where
    go : (notes : State → Notes) (r : Result A) → Leaves r → Leaves {A = A} (elim r as (λ r'. Result A) [ ok a s₁ ↦ ok a (record { left = s₁.left; docs = s₁.docs; arena = s₁.arena; notes = notes s₁ }) | err e s₁ ↦ err e s₁ ])
    go notes r (holds p) = holds p
    go notes r (fails q) = fails q

push_node_keeps : (more : ℕ) (f : ℕ → Node) → Keeps (R.push_node_and more f)
unfolding R.push_node_and R.with_arena
push_node_keeps more f s d = ended-ok _ _ d

push_type_keeps : (x : TypeExpr) → Keeps (R.push_type x)
unfolding R.push_type R.with_arena
push_type_keeps x s d = ended-ok _ _ d

alloc_slice_keeps : (xs : List (List ℕ)) → Keeps (R.alloc_slice xs)
unfolding R.alloc_slice R.with_arena
alloc_slice_keeps xs s d = ended-ok _ _ d

module _ (stop : ℕ) (n : ¬ (stop ≡ k_doc)) (item : Rule (List ℕ)) (each : Keeps item) where
  members_keeps : Keeps (R.members stop item)
  unfolding R.members
  members_keeps s d = loop-ok (λ xs s'. DocLast s'.left) _
      (λ xs s₁ d₁. if_kind-ok k_eof _ _ s₁ (λ e. pure-ok _ s₁ d₁) (if_kind-ok stop _ _ s₁ (λ e. pure-ok _ s₁ d₁) (bind_ok item _ s₁ (each s₁ d₁) (λ x s₂ d₂. pure-ok _ s₂ d₂))))
      [] s d

  list_until_keeps : Keeps (R.list_until stop item)
  unfolding R.list_until
  list_until_keeps s d =
      bind_ok _ _ s (members_keeps s d) (λ xs s₁ d₁.
      then_ok _ _ s₁ (expect_keeps stop n s₁ d₁) (λ x s₂ d₂.
      alloc_slice_keeps xs s₂ d₂))

-- ---- docs

-- docs are collected: the Doc before Eof is still left, or it waits and Eof stands there
data Collected (s : State) : Type 0 where
  still : DocLast s.left → Collected s
  spent : (current s.left).kind ≡ k_eof → ¬ (s.docs ≡ []) → Collected s

take-doc : (s : State) → Collected s → (current s.left).kind ≡ k_doc → Ends (λ t s₁. After s₁.left) Any (R.advance s)
unfolding R.advance
take-doc s (still z) e = holds (rest-doc s.left z)
take-doc s (spent k n) e = absurd (omega arith)

keep-doc : (n : ℕ) (t : Token) (s : State) → After s.left → Ends (λ x s₁. Collected s₁) Any (R.keep_doc n t s)
unfolding with_docs
keep-doc n t s (before z) = holds (still z)
keep-doc n t s (at_eof k) = holds (spent k (snoc≢nil s.docs t))

collect_docs_keeps : (s : State) → DocLast s.left → Ends (λ n s₁. Collected s₁) Any (R.collect_docs s)
unfolding R.collect_docs
collect_docs_keeps s d = loop-ok (λ n s₁. Collected s₁) _
    (λ n s₁ x. if_kind-ok k_doc _ _ s₁ (λ e. bind_ok _ _ s₁ (take-doc s₁ x e) (λ t s₂ y. keep-doc n t s₂ y)) (pure-ok _ s₁ x))
    0 s (still d)

left_of : (s : State) → Collected s → After s.left
left_of s (still z) = before z
left_of s (spent k n) = at_eof k

take_docs_keeps : (s : State) → Ends (λ r s'. s'.left ≡ s.left) Any (R.take_docs s)
unfolding R.take_docs with_docs R.alloc_slice R.with_arena
take_docs_keeps s = ended-ok _ _ refl

-- a fn is expected where docs were collected
fn_after : (s : State) → After s.left → Leaves (R.expect k_fn s)
unfolding R.expect
fn_after s (before z) = expect_keeps k_fn (omega arith) s z
fn_after s (at_eof k) = if_kind-ok k_fn _ _ s (λ e. absurd (omega arith)) (fail-ok 11 k_fn s tt)

-- docs before a let, a fn or an extern: the Doc before Eof is none of them
docs_then : {B : Type 0} (f : Run → Rule B) → ((r : Run) → Keeps (f r)) → Keeps (R.◌>>=◌ R.take_docs f)
docs_then f h s d = bind_ok _ _ s (take_docs_keeps s) (λ r s₁ e. h r s₁ (subst DocLast (sym e) d))

pub record ReadersKeep (d : Readers) : Type 0 where
  pub prefix : Keeps d.prefix
  pub expr : (least : ℕ) → Keeps (d.expr least)
  pub type : Keeps d.type

-- ---- rules that read nothing deeper

open_angle_keeps : (n : ℕ) → KeepsAt (Q.open_angle n)
unfolding Q.open_angle
open_angle_keeps n s m d =
    then_ok _ _ s (advance_keeps s m d) (λ x s₁ d₁.
    then_ok _ _ s₁ (expect_keeps k_less_than (omega arith) s₁ d₁) (λ y s₂ d₂.
    reject_kind_keeps k_greater_than n s₂ d₂))

atom_type_keeps : KeepsAt Q.atom_type
unfolding Q.atom_type
atom_type_keeps s m d = bind_ok _ _ s (advance_keeps s m d) (λ x s₁ d₁. push_type_keeps _ s₁ d₁)

foreign_type_keeps : KeepsAt Q.foreign_type
unfolding Q.foreign_type
foreign_type_keeps s m d =
    then_ok _ _ s (open_angle_keeps 20 s m d) (λ x s₁ d₁.
    bind_ok _ _ s₁ (expect_ident_keeps s₁ d₁) (λ name s₂ d₂.
    then_ok _ _ s₂ (expect_keeps k_greater_than (omega arith) s₂ d₂) (λ y s₃ d₃.
    push_type_keeps _ s₃ d₃)))

supplied_void_keeps : Keeps Q.supplied_void
unfolding Q.supplied_void
supplied_void_keeps s d = cur-ok _ s (push_type_keeps _ s d)

import_path_keeps : Keeps Q.import_path
unfolding Q.import_path
import_path_keeps s d = if_kind-ok k_s _ _ s (λ e. bind_ok _ _ s (advance_keeps s (omega arith) d) (λ p s₁ d₁. pure-ok _ s₁ d₁)) (fail-ok 15 0 s tt)

bracketed_paths_keeps : Keeps Q.bracketed_paths
unfolding Q.bracketed_paths
bracketed_paths_keeps s d =
    then_ok _ _ s (expect_keeps k_brace_left (omega arith) s d) (λ x s₁ d₁.
    bind_ok _ _ s₁ (members_keeps k_brace_right (omega arith) _ import_path_keeps s₁ d₁) (λ ps s₂ d₂.
    then_ok _ _ s₂ (expect_keeps k_brace_right (omega arith) s₂ d₂) (λ y s₃ d₃.
    pure-ok ps s₃ d₃)))

strike_single_keeps : (x : Rule (List (List ℕ))) (s : State) → Leaves (x s) → Leaves (Q.strike_single x s)
unfolding Q.strike_single
strike_single_keeps x s h = go _ (x s) h
  where
    by_length : (n : Notes) (ps : List (List ℕ)) (s₁ : State) → DocLast s₁.left → (z : Bool) → Leaves {A = List (List ℕ)} (elim z as (λ z'. Result (List (List ℕ))) [ true ↦ ok ps (record { left = s₁.left; docs = s₁.docs; arena = s₁.arena; notes = n }) | false ↦ ok ps s₁ ])
    by_length n ps s₁ q true = holds q
    by_length n ps s₁ q false = holds q

    go : (notes : State → Notes) (r : Result (List (List ℕ))) → Leaves r
        → Leaves {A = List (List ℕ)} (elim r as (λ r'. Result (List (List ℕ))) [ ok ps s₁ ↦ elim (eqb (length ps) 1) as (λ z'. Result (List (List ℕ))) [ true ↦ ok ps (record { left = s₁.left; docs = s₁.docs; arena = s₁.arena; notes = notes s₁ }) | false ↦ ok ps s₁ ] | err e s₁ ↦ err e s₁ ])
    go notes r (holds {a = ps} {s = s₁} q) = by_length (notes s₁) ps s₁ q (eqb (length ps) 1)
    go notes r (fails q) = fails q

parse_import_keeps : KeepsAt Q.parse_import
unfolding Q.parse_import
parse_import_keeps s m d =
    bind_ok _ _ s (advance_keeps s m d) (λ src s₁ d₁.
    bind_ok _ _ s₁ (paths s₁ d₁) (λ ps s₂ d₂.
    bind_ok _ _ s₂ (alloc_slice_keeps ps s₂ d₂) (λ pkgs s₃ d₃.
    push_node_keeps 0 _ s₃ d₃)))
  where
    paths : Keeps Q.import_paths
    paths s₁ d₁ = if_kind-ok k_s _ _ s₁ (λ k. bind_ok _ _ s₁ (advance_keeps s₁ (omega arith) d₁) (λ p s₂ d₂. pure-ok _ s₂ d₂)) (strike_single_keeps _ s₁ (bracketed_paths_keeps s₁ d₁))

atom_keeps : KeepsAt Q.atom
unfolding Q.atom
atom_keeps s m d = bind_ok _ _ s (advance_keeps s m d) (λ x s₁ d₁. push_node_keeps 0 _ s₁ d₁)

ident_keeps : KeepsAt Q.ident
unfolding Q.ident
ident_keeps s m d = bind_ok _ _ s (advance_keeps s m d) (λ x s₁ d₁. push_node_keeps 0 _ s₁ d₁)

field_access_keeps : (n : NodeId) → KeepsAt (Q.field_access n)
unfolding Q.field_access
field_access_keeps n s m d =
    then_ok _ _ s (advance_keeps s m d) (λ x s₁ d₁.
    bind_ok _ _ s₁ (expect_ident_keeps s₁ d₁) (λ name s₂ d₂.
    bind_ok _ _ s₂ (push_node_keeps 0 _ s₂ d₂) (λ p s₃ d₃.
    pure-ok _ s₃ d₃)))

note_after_default_keeps : (cs : Cases) → Keeps (Q.note_after_default cs)
unfolding Q.note_after_default
note_after_default_keeps cs s d = go _ cs.default
  where
    go : (n : Notes) (o : Option (Token × Run)) → Leaves {A = ℕ} (elim o as (λ o'. Result ℕ) [ none ↦ ok 0 s | some p ↦ ok 1 (record { left = s.left; docs = s.docs; arena = s.arena; notes = n }) ])
    go n none = holds d
    go n (some p) = holds d

node_member_keeps : (x : Rule NodeId) → Keeps x → Keeps (Q.node_member x)
unfolding Q.node_member
node_member_keeps x h s d = bind_ok _ _ s (h s d) (λ n s₁ d₁. pure-ok _ s₁ d₁)

-- ---- the rules at one level

module _ (r : Readers) (deep : ReadersKeep r) where
  typed_name_keeps : Keeps (Q.typed_name r)
  unfolding Q.typed_name
  typed_name_keeps s d =
      bind_ok _ _ s (expect_ident_keeps s d) (λ name s₁ d₁.
      then_ok _ _ s₁ (expect_keeps k_colon (omega arith) s₁ d₁) (λ x s₂ d₂.
      bind_ok _ _ s₂ (deep.type s₂ d₂) (λ y s₃ d₃.
      pure-ok _ s₃ d₃)))

  within_keeps : (n : ℕ) (mk : TypeExprId → TypeExpr) → KeepsAt (R.◌>>◌ (Q.open_angle n) (R.◌>>=◌ r.type (λ x. R.◌>>◌ (R.expect k_greater_than) (R.push_type (mk x)))))
  within_keeps n mk s m d =
      then_ok _ _ s (open_angle_keeps n s m d) (λ x s₁ d₁.
      bind_ok _ _ s₁ (deep.type s₁ d₁) (λ y s₂ d₂.
      then_ok _ _ s₂ (expect_keeps k_greater_than (omega arith) s₂ d₂) (λ z s₃ d₃.
      push_type_keeps _ s₃ d₃)))

  record_type_keeps : KeepsAt (Q.record_type r)
  unfolding Q.record_type
  record_type_keeps s m d =
      bind_ok _ _ s (advance_keeps s m d) (λ src s₁ d₁.
      then_ok _ _ s₁ (expect_keeps k_less_than (omega arith) s₁ d₁) (λ x s₂ d₂.
      bind_ok _ _ s₂ (list_until_keeps k_greater_than (omega arith) _ typed_name_keeps s₂ d₂) (λ fs s₃ d₃.
      push_type_keeps _ s₃ d₃)))

  parse_type_keeps : Keeps (Q.parse_type r)
  unfolding Q.parse_type Q.type_by_kind Q.option_type Q.array_type
  parse_type_keeps s d =
      table_ok _ _ s
      (entry-ok _ _ _ _ s (λ e. atom_type_keeps s (omega arith) d)
      (entry-ok _ _ _ _ s (λ e. atom_type_keeps s (omega arith) d)
      (entry-ok _ _ _ _ s (λ e. atom_type_keeps s (omega arith) d)
      (entry-ok _ _ _ _ s (λ e. atom_type_keeps s (omega arith) d)
      (entry-ok _ _ _ _ s (λ e. atom_type_keeps s (omega arith) d)
      (entry-ok _ _ _ _ s (λ e. foreign_type_keeps s (omega arith) d)
      (entry-ok _ _ _ _ s (λ e. within_keeps 21 X.Option s (omega arith) d)
      (entry-ok _ _ _ _ s (λ e. within_keeps 22 X.Array s (omega arith) d)
      (entry-ok _ _ _ _ s (λ e. record_type_keeps s (omega arith) d)
      (other_ok _ _ s (fail-ok 23 0 s tt)))))))))))

  parse_body_keeps : Keeps (Q.parse_body r)
  unfolding Q.parse_body
  parse_body_keeps s d = then_ok _ _ s (expect_keeps k_curly_left (omega arith) s d) (λ x s₁ d₁. list_until_keeps k_curly_right (omega arith) _ (node_member_keeps _ deep.prefix) s₁ d₁)

  parse_args_keeps : Keeps (Q.parse_args r)
  unfolding Q.parse_args
  parse_args_keeps s d = then_ok _ _ s (expect_keeps k_brace_left (omega arith) s d) (λ x s₁ d₁. list_until_keeps k_brace_right (omega arith) _ typed_name_keeps s₁ d₁)

  return_type_keeps : Keeps (Q.return_type r)
  unfolding Q.return_type
  return_type_keeps s d = if_kind-ok k_void _ _ s (λ e. struck_keeps _ s (deep.type s d)) (deep.type s d)

  parse_let_keeps : Keeps (Q.parse_let r)
  unfolding Q.parse_let
  parse_let_keeps = docs_then _ (λ docs s₁ d₁.
      then_ok _ _ s₁ (expect_keeps k_let (omega arith) s₁ d₁) (λ x s₂ d₂.
      bind_ok _ _ s₂ (expect_ident_keeps s₂ d₂) (λ name s₃ d₃.
      then_ok _ _ s₃ (expect_keeps k_equal (omega arith) s₃ d₃) (λ y s₄ d₄.
      bind_ok _ _ s₄ (deep.prefix s₄ d₄) (λ rhs s₅ d₅.
      push_node_keeps 0 _ s₅ d₅)))))

  parse_fn_keeps : (s : State) → (current s.left).kind ≡ k_fn → DocLast s.left → Leaves (Q.parse_fn r s)
  unfolding Q.parse_fn
  parse_fn_keeps s e d =
      bind_ok _ _ s (take_docs_keeps s) (λ docs s₁ l.
      let k : (current s₁.left).kind ≡ k_fn = ap (λ (x : List Token). (current x).kind) l ∙ e in
      then_ok _ _ s₁ (advance_keeps s₁ (omega arith) (subst DocLast (sym l) d)) (λ x s₂ d₂.
      bind_ok _ _ s₂ (expect_ident_keeps s₂ d₂) (λ name s₃ d₃.
      bind_ok _ _ s₃ (parse_args_keeps s₃ d₃) (λ args s₄ d₄.
      bind_ok _ _ s₄ (if_kind-ok k_curly_left _ _ s₄ (λ z. supplied_void_keeps s₄ d₄) (return_type_keeps s₄ d₄)) (λ ret s₅ d₅.
      bind_ok _ _ s₅ (parse_body_keeps s₅ d₅) (λ body s₆ d₆.
      push_node_keeps args.len _ s₆ d₆))))))

  extern_fn_keeps : Keeps (Q.extern_fn r)
  unfolding Q.extern_fn
  extern_fn_keeps s d =
      then_ok _ _ s (collect_docs_keeps s d) (λ n s₁ x.
      then_ok _ _ s₁ (reject_kind-ok k_extern 17 s₁ (left_of s₁ x) tt) (λ m s₂ a.
      bind_ok _ _ s₂ (take_docs_keeps s₂) (λ docs s₃ l.
      then_ok _ _ s₃ (fn_after s₃ (subst After (sym l) a)) (λ y s₄ d₄.
      bind_ok _ _ s₄ (expect_ident_keeps s₄ d₄) (λ name s₅ d₅.
      bind_ok _ _ s₅ (parse_args_keeps s₅ d₅) (λ args s₆ d₆.
      bind_ok _ _ s₆ (if_kind-ok k_curly_right _ _ s₆ (λ e. supplied_void_keeps s₆ d₆) (if_kind-ok k_fn _ _ s₆ (λ e. supplied_void_keeps s₆ d₆) (return_type_keeps s₆ d₆))) (λ ret s₇ d₇.
      pure-ok _ s₇ d₇)))))))

  parse_extern_keeps : Keeps (Q.parse_extern r)
  unfolding Q.parse_extern
  parse_extern_keeps = docs_then _ (λ docs s₁ d₁.
      bind_ok _ _ s₁ (expect_keeps k_extern (omega arith) s₁ d₁) (λ src s₂ d₂.
      bind_ok _ _ s₂ (if_kind-ok k_s _ _ s₂ (λ k. advance_keeps s₂ (omega arith) d₂) (fail-ok 16 0 s₂ tt)) (λ name s₃ d₃.
      then_ok _ _ s₃ (expect_keeps k_curly_left (omega arith) s₃ d₃) (λ x s₄ d₄.
      bind_ok _ _ s₄ (list_until_keeps k_curly_right (omega arith) _ extern_fn_keeps s₄ d₄) (λ fns s₅ d₅.
      push_node_keeps 0 _ s₅ d₅)))))

  next_case_keeps : (cs : Cases) → Keeps (Q.next_case r cs)
  unfolding Q.next_case Q.default_case Q.condition_case
  next_case_keeps cs s d =
      if_kind-ok k_eof _ _ s (λ e. pure-ok _ s d) (if_kind-ok k_curly_right _ _ s (λ e. pure-ok _ s d) (
      then_ok _ _ s (note_after_default_keeps cs s d) (λ n s₁ d₁.
      bind_ok _ _ s₁ (if_kind-ok k_curly_left _ _ s₁
      (λ e. cur-ok _ s₁ (bind_ok _ _ s₁ (parse_body_keeps s₁ d₁) (λ body s₂ d₂. pure-ok _ s₂ d₂)))
      (cur-ok _ s₁ (bind_ok _ _ s₁ (deep.expr 0 s₁ d₁) (λ x s₂ d₂. bind_ok _ _ s₂ (parse_body_keeps s₂ d₂) (λ body s₃ d₃. pure-ok _ s₃ d₃))))) (λ x s₂ d₂.
      pure-ok _ s₂ d₂))))

  parse_match_keeps : KeepsAt (Q.parse_match r)
  unfolding Q.parse_match
  parse_match_keeps s m d =
      then_ok _ _ s (advance_keeps s m d) (λ x s₁ d₁. cur-ok _ s₁ (
      then_ok _ _ s₁ (expect_keeps k_curly_left (omega arith) s₁ d₁) (λ y s₂ d₂.
      bind_ok _ _ s₂ (loop-ok (λ cs s₃. DocLast s₃.left) _ (λ cs s₃ d₃. next_case_keeps cs s₃ d₃) _ s₂ d₂) (λ cs s₃ d₃.
      then_ok _ _ s₃ (expect_keeps k_curly_right (omega arith) s₃ d₃) (λ z s₄ d₄.
      bind_ok _ _ s₄ (alloc_slice_keeps cs.cases s₄ d₄) (λ rn s₅ d₅.
      finish (current s₁.left) rn cs.default s₅ d₅))))))
    where
      finish : (x : Token) (rn : Run) (o : Option (Token × Run)) (s' : State) → DocLast s'.left
          → Leaves ((elim o as (λ o'. Rule NodeId) [ none ↦ (λ s''. err (R.at_token 18 0 x) s'') | some y ↦ R.push_node (λ id. N.Match id rn y.0 y.1) ]) s')
      finish x rn none s' d' = fails tt
      finish x rn (some y) s' d' = push_node_keeps 0 _ s' d'

  -- where the Doc waits at Eof, 13
  item_keeps : (s : State) → Collected s → Leaves (R.by_kind (Q.item_by_kind r) s)
  item_keeps s (still d) =
      table_ok _ _ s
      (entry-ok _ _ _ _ s (λ e. parse_import_keeps s (omega arith) d)
      (entry-ok _ _ _ _ s (λ e. parse_let_keeps s d)
      (entry-ok _ _ _ _ s (λ e. parse_fn_keeps s e d)
      (entry-ok _ _ _ _ s (λ e. parse_extern_keeps s d)
      (other_ok _ _ s (require_no_docs-ok _ s
      (λ z. if_kind-ok k_match _ _ s (λ e. parse_match_keeps s (omega arith) d) (deep.expr 0 s d))
      (λ z. tt)))))))
  item_keeps s (spent k n) =
      table_ok _ _ s
      (entry-ok _ _ _ _ s (λ e. absurd (omega arith))
      (entry-ok _ _ _ _ s (λ e. absurd (omega arith))
      (entry-ok _ _ _ _ s (λ e. absurd (omega arith))
      (entry-ok _ _ _ _ s (λ e. absurd (omega arith))
      (other_ok _ _ s (require_no_docs-ok _ s (λ z. absurd (n z)) (λ z. tt)))))))

  parse_prefix_keeps : Keeps (Q.parse_prefix r)
  unfolding Q.parse_prefix
  parse_prefix_keeps s d = then_ok _ _ s (collect_docs_keeps s d) (λ n s₁ x. item_keeps s₁ x)

  field_keeps : Keeps (Q.field r)
  unfolding Q.field
  field_keeps s d =
      bind_ok _ _ s (expect_ident_keeps s d) (λ name s₁ d₁.
      then_ok _ _ s₁ (expect_keeps k_colon (omega arith) s₁ d₁) (λ x s₂ d₂.
      bind_ok _ _ s₂ (deep.expr 0 s₂ d₂) (λ y s₃ d₃.
      pure-ok _ s₃ d₃)))

  record_literal_keeps : KeepsAt (Q.record_literal r)
  unfolding Q.record_literal
  record_literal_keeps s m d =
      bind_ok _ _ s (advance_keeps s m d) (λ src s₁ d₁.
      bind_ok _ _ s₁ (list_until_keeps k_curly_right (omega arith) _ field_keeps s₁ d₁) (λ fs s₂ d₂.
      push_node_keeps 0 _ s₂ d₂))

  array_literal_keeps : KeepsAt (Q.array_literal r)
  unfolding Q.array_literal
  array_literal_keeps s m d =
      bind_ok _ _ s (advance_keeps s m d) (λ src s₁ d₁.
      bind_ok _ _ s₁ (list_until_keeps k_braket_right (omega arith) _ (node_member_keeps _ (deep.expr 0)) s₁ d₁) (λ ms s₂ d₂.
      push_node_keeps 0 _ s₂ d₂))

  group_keeps : KeepsAt (Q.group r)
  unfolding Q.group
  group_keeps s m d =
      then_ok _ _ s (struck_keeps _ s (advance_keeps s m d)) (λ x s₁ d₁.
      bind_ok _ _ s₁ (deep.expr 0 s₁ d₁) (λ n s₂ d₂.
      then_ok _ _ s₂ (struck_keeps _ s₂ (expect_keeps k_brace_right (omega arith) s₂ d₂)) (λ y s₃ d₃.
      pure-ok n s₃ d₃)))

  unary_keeps : KeepsAt (Q.unary r)
  unfolding Q.unary
  unary_keeps s m d =
      bind_ok _ _ s (advance_keeps s m d) (λ op s₁ d₁.
      bind_ok _ _ s₁ (deep.expr Q.prefix_power s₁ d₁) (λ rhs s₂ d₂.
      push_node_keeps 0 _ s₂ d₂))

  operand_keeps : Keeps (Q.operand r)
  unfolding Q.operand
  operand_keeps s d =
      table_ok _ _ s
      (entry-ok _ _ _ _ s (λ e. record_literal_keeps s (omega arith) d)
      (entry-ok _ _ _ _ s (λ e. array_literal_keeps s (omega arith) d)
      (entry-ok _ _ _ _ s (λ e. atom_keeps s (omega arith) d)
      (entry-ok _ _ _ _ s (λ e. atom_keeps s (omega arith) d)
      (entry-ok _ _ _ _ s (λ e. atom_keeps s (omega arith) d)
      (entry-ok _ _ _ _ s (λ e. atom_keeps s (omega arith) d)
      (entry-ok _ _ _ _ s (λ e. atom_keeps s (omega arith) d)
      (entry-ok _ _ _ _ s (λ e. ident_keeps s (omega arith) d)
      (entry-ok _ _ _ _ s (λ e. group_keeps s (omega arith) d)
      (entry-ok _ _ _ _ s (λ e. unary_keeps s (omega arith) d)
      (entry-ok _ _ _ _ s (λ e. unary_keeps s (omega arith) d)
      (other_ok _ _ s (fail-ok 19 0 s tt)))))))))))))

  call_keeps : (n : NodeId) → KeepsAt (Q.call r n)
  unfolding Q.call
  call_keeps n s m d =
      then_ok _ _ s (advance_keeps s m d) (λ x s₁ d₁.
      bind_ok _ _ s₁ (list_until_keeps k_brace_right (omega arith) _ (node_member_keeps _ deep.prefix) s₁ d₁) (λ args s₂ d₂.
      bind_ok _ _ s₂ (push_node_keeps 0 _ s₂ d₂) (λ p s₃ d₃.
      pure-ok _ s₃ d₃)))

  cast_keeps : (n : NodeId) → KeepsAt (Q.cast r n)
  unfolding Q.cast
  cast_keeps n s m d =
      bind_ok _ _ s (advance_keeps s m d) (λ src s₁ d₁.
      bind_ok _ _ s₁ (deep.type s₁ d₁) (λ x s₂ d₂.
      bind_ok _ _ s₂ (push_node_keeps 0 _ s₂ d₂) (λ p s₃ d₃.
      pure-ok _ s₃ d₃)))

  binary_keeps : (n : NodeId) (p : ℕ) → KeepsAt (Q.binary r n p)
  unfolding Q.binary
  binary_keeps n p s m d =
      bind_ok _ _ s (advance_keeps s m d) (λ op s₁ d₁.
      bind_ok _ _ s₁ (deep.expr (Q.right_power p) s₁ d₁) (λ rhs s₂ d₂.
      bind_ok _ _ s₂ (push_node_keeps 0 _ s₂ d₂) (λ q s₃ d₃.
      pure-ok _ s₃ d₃)))

  postfix_keeps : (n : NodeId) → Keeps (Q.postfix r n)
  unfolding Q.postfix Q.callable
  postfix_keeps n s d = loop-ok (λ m s₁. DocLast s₁.left) _
      (λ lhs s₁ d₁. if_kind-ok k_dot _ _ s₁ (λ e. field_access_keeps lhs s₁ (omega arith) d₁) (if_kind-ok k_brace_left _ _ s₁
      (λ e. bind_ok _ _ s₁ (callable_keeps lhs s₁ d₁ e) (λ z s₂ d₂. called lhs z s₂ d₂.0 d₂.1))
      (pure-ok _ s₁ d₁)))
      n s d
    where
      callable_keeps : (lhs : NodeId) (s₁ : State) → DocLast s₁.left → (current s₁.left).kind ≡ k_brace_left → Ends (λ z s₂. DocLast s₂.left × ((current s₂.left).kind ≡ k_brace_left)) Any (Q.callable lhs s₁)
      callable_keeps lhs s₁ d₁ e = holds (d₁, e)

      called : (lhs : NodeId) (z : Bool) (s₁ : State) → DocLast s₁.left → (current s₁.left).kind ≡ k_brace_left → Leaves (elim z as (λ z'. Rule (ControlFlow NodeId)) [ true ↦ Q.call r lhs | false ↦ R.pure (break lhs) ] s₁)
      called lhs true s₁ d₁ e = call_keeps lhs s₁ (omega arith) d₁
      called lhs false s₁ d₁ e = pure-ok _ s₁ d₁

  -- Doc is no infix sign
  module _ (power : ℕ → Option ℕ) (doc : power k_doc ≡ none) (script : List ℕ) where
    infixes_keeps : (least : ℕ) (n : NodeId) → Keeps (Q.infixes r power script least n)
    unfolding Q.infixes
    infixes_keeps least n s d = loop-ok (λ m s₁. DocLast s₁.left) _
        (λ lhs s₁ d₁. if_kind-ok k_as _ _ s₁ (λ e. cast_keeps lhs s₁ (omega arith) d₁) (cur-ok _ s₁ (by_power lhs s₁ d₁ (power (current s₁.left).kind) refl)))
        n s d
      where
        by_least : (lhs : NodeId) (p : ℕ) (s₁ : State) → DocLast s₁.left → ¬ ((current s₁.left).kind ≡ k_doc) → (z : Bool) → Leaves (elim z as (λ z'. Rule (ControlFlow NodeId)) [ true ↦ R.pure (break lhs) | false ↦ Q.binary r lhs p ] s₁)
        by_least lhs p s₁ d₁ e true = pure-ok _ s₁ d₁
        by_least lhs p s₁ d₁ e false = binary_keeps lhs p s₁ e d₁

        by_sign : (lhs : NodeId) (p : ℕ) (s₁ : State) → DocLast s₁.left → ¬ ((current s₁.left).kind ≡ k_doc) → (z : Bool) → Leaves (elim z as (λ z'. Rule (ControlFlow NodeId)) [ true ↦ R.pure (break lhs) | false ↦ elim (ltb p least) as (λ z'. Rule (ControlFlow NodeId)) [ true ↦ R.pure (break lhs) | false ↦ Q.binary r lhs p ] ] s₁)
        by_sign lhs p s₁ d₁ e true = pure-ok _ s₁ d₁
        by_sign lhs p s₁ d₁ e false = by_least lhs p s₁ d₁ e (ltb p least)

        by_power : (lhs : NodeId) (s₁ : State) → DocLast s₁.left → (o : Option ℕ) → power (current s₁.left).kind ≡ o
            → Leaves (elim o as (λ o'. Rule (ControlFlow NodeId)) [ none ↦ R.pure (break lhs) | some p ↦ elim (Q.breaks_off script (current s₁.left)) as (λ z'. Rule (ControlFlow NodeId)) [ true ↦ R.pure (break lhs) | false ↦ elim (ltb p least) as (λ z'. Rule (ControlFlow NodeId)) [ true ↦ R.pure (break lhs) | false ↦ Q.binary r lhs p ] ] ] s₁)
        by_power lhs s₁ d₁ none e = pure-ok _ s₁ d₁
        by_power lhs s₁ d₁ (some p) e = by_sign lhs p s₁ d₁ (λ z. none≢some p (sym doc ∙ ap power (sym z) ∙ e)) (Q.breaks_off script (current s₁.left))

    parse_expr_keeps : (least : ℕ) → Keeps (Q.parse_expr r power script least)
    unfolding Q.parse_expr
    parse_expr_keeps least s d =
        bind_ok _ _ s (operand_keeps s d) (λ x s₁ d₁.
        bind_ok _ _ s₁ (postfix_keeps x s₁ d₁) (λ y s₂ d₂.
        infixes_keeps least y s₂ d₂))

-- ---- levels, and the roots

module _ (power : ℕ → Option ℕ) (doc : power k_doc ≡ none) (script : List ℕ) where
  readers-keep : (l : ℕ) → ReadersKeep (readers power script l)
  unfolding readers
  readers-keep zero = record { prefix = λ s d. fail-ok 10 0 s tt; expr = λ least s d. fail-ok 10 0 s tt; type = λ s d. fail-ok 10 0 s tt }
  readers-keep (suc l) =
      let deep : ReadersKeep (readers power script l) = readers-keep l in
      record { prefix = parse_prefix_keeps _ deep; expr = parse_expr_keeps _ deep power doc script; type = parse_type_keeps _ deep }

  parse_roots_keeps : (s : State) → DocLast s.left → Ends (λ roots s'. DocLast s'.left) Any (parse_roots power script s)
  unfolding parse_roots
  parse_roots_keeps s d = loop-ok (λ roots s'. DocLast s'.left) _
      (λ roots s₁ d₁. if_kind-ok k_eof _ _ s₁ (λ e. pure-ok _ s₁ d₁) (bind_ok _ _ s₁ ((readers-keep max_levels).prefix s₁ d₁) (λ n s₂ d₂. pure-ok _ s₂ d₂)))
      [] s d

  module _ (eof : power k_eof ≡ none) (tree : Tree) where
    -- a Doc right before Eof is never accepted
    pub doc_last_refused : parse power script ≡ read tree [] → ¬ (DocLast (tokens_of (cut script)))
    unfolding parse begin
    doc_last_refused e d = go (parse_roots power script (begin script)) (both (parse_roots_keeps (begin script) d) (parse_roots-ends power eof script)) e
      where
        go : (r : Result (List ℕ)) → Ends (λ roots s. DocLast s.left × Finished script roots s) (λ s. Any s × Reached script s) r → elim r as (λ r'. Reading) [ ok roots s ↦ read (record { arena = s.arena; roots = roots }) [] | err x s ↦ ended x ] ≡ read tree [] → ⊥
        go r (holds {s} q) e = not_eof_lem s.left q.0 q.1.at_eof
        go r (fails {e = x} q) e = ended≢read x tree [] e

-- ---- the two conditions on docs

-- the user's condition gives the one that unique reading asks for
pub no-doc_weaker : (ts : List Token) → no_doc_before_import_or_eof ts ≡ true → no_doc_before_import ts ≡ true
unfolding no_doc_before_import_or_eof no_doc_before_import
no-doc_weaker [] h = refl
no-doc_weaker (t ∷ []) h = refl
no-doc_weaker (t ∷ (u ∷ ts)) h = go (eqb t.kind k_doc) (eqb u.kind k_import) (eqb u.kind k_eof) (no-doc_weaker (u ∷ ts)) h
  where
    go : (a b c : Bool) → (no_doc_before_import_or_eof (u ∷ ts) ≡ true → no_doc_before_import (u ∷ ts) ≡ true)
        → elim a as (λ x. Bool) [ true ↦ elim b as (λ x. Bool) [ true ↦ false | false ↦ elim c as (λ x. Bool) [ true ↦ false | false ↦ no_doc_before_import_or_eof (u ∷ ts) ] ] | false ↦ no_doc_before_import_or_eof (u ∷ ts) ] ≡ true
        → elim a as (λ x. Bool) [ true ↦ elim b as (λ x. Bool) [ true ↦ false | false ↦ no_doc_before_import (u ∷ ts) ] | false ↦ no_doc_before_import (u ∷ ts) ] ≡ true
    go true true c ih h = h
    go true false true ih h = absurd (let z : ◌≡◌ {A = ℕ} 0 1 = cc in omega arith)
    go true false false ih h = ih h
    go false b c ih h = ih h

-- and is no stronger where no Doc stands right before Eof
no-doc_stronger : (ts : List Token) → WellEnded ts → ¬ (DocLast ts) → no_doc_before_import ts ≡ true → no_doc_before_import_or_eof ts ≡ true
unfolding no_doc_before_import_or_eof no_doc_before_import
no-doc_stronger [] w n h = refl
no-doc_stronger (t ∷ []) w n h = refl
no-doc_stronger (t ∷ (u ∷ [])) w n h = go (eqb t.kind k_doc) refl
  where
    go : (a : Bool) → eqb t.kind k_doc ≡ a → elim a as (λ x. Bool) [ true ↦ elim (eqb u.kind k_import) as (λ x. Bool) [ true ↦ false | false ↦ elim (eqb u.kind k_eof) as (λ x. Bool) [ true ↦ false | false ↦ true ] ] | false ↦ true ] ≡ true
    go true e = absurd (n (eqb-true t.kind k_doc e, w.1))
    go false e = refl
no-doc_stronger (t ∷ (u ∷ (v ∷ ts))) w n h =
    go (eqb t.kind k_doc) (eqb u.kind k_import) (no-doc_stronger (u ∷ (v ∷ ts)) w.1 (λ d. n (w.0, d))) h
  where
    go : (a b : Bool) → (no_doc_before_import (u ∷ (v ∷ ts)) ≡ true → no_doc_before_import_or_eof (u ∷ (v ∷ ts)) ≡ true)
        → elim a as (λ x. Bool) [ true ↦ elim b as (λ x. Bool) [ true ↦ false | false ↦ no_doc_before_import (u ∷ (v ∷ ts)) ] | false ↦ no_doc_before_import (u ∷ (v ∷ ts)) ] ≡ true
        → elim a as (λ x. Bool) [ true ↦ elim b as (λ x. Bool) [ true ↦ false | false ↦ elim (eqb u.kind k_eof) as (λ x. Bool) [ true ↦ false | false ↦ no_doc_before_import_or_eof (u ∷ (v ∷ ts)) ] ] | false ↦ no_doc_before_import_or_eof (u ∷ (v ∷ ts)) ] ≡ true
    go true true ih h = h
    go true false ih h = rw (ne_eqb u.kind k_eof w.1.0) (ih h)
    go false b ih h = ih h

-- of an accepted script the two conditions say the same
pub no-doc-same : (script : List ℕ) (tree : Tree) → parse stage_one script ≡ read tree [] → no_doc_before_import (tokens_of (cut script)) ≡ true → no_doc_before_import_or_eof (tokens_of (cut script)) ≡ true
unfolding stage_one R.choose
no-doc-same script tree e = no-doc_stronger (tokens_of (cut script)) (ended_well_ended script (tokens_of (cut script)) (cut-ended script)) (doc_last_refused stage_one refl script refl tree e)
