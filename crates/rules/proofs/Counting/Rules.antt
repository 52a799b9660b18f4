-- Each rule pays for what it makes, and takes a token where it ends well.
use mathlib.Core.Path.{◌≡◌, refl, sym, ap, ◌∙◌, subst}
use mathlib.Core.Bool.{Bool, true, false}
use mathlib.Core.Option.{Option, none, some}
use mathlib.Core.List.{List, []}
use Prim.Native.Nat.{ℕ, zero, suc, ◌+◌}
use lib.Dec.{eqb, ltb, T}
use lib.ListN.{length}
use native.Mathlib.Omega.{arith}
use Rattle.lex.specs.Kind.{k_eof, k_brace_left, k_brace_right, k_equal, k_less_than, k_greater_than, k_colon, k_dot, k_braket_right, k_curly_left, k_curly_right, k_s, k_import, k_extern, k_let, k_fn, k_match, k_as, k_void}
use Rattle.lex.specs.declared.tok.Token.{Token}
use Rattle.rules.specs.Tree.{Notes, State, Result, ok, err}
use Rattle.rules.specs.Combinators as R
use Rattle.rules.specs.Combinators.{Rule, current, Readers, ControlFlow, break}
use Rattle.rules.specs.Rules as Q
use Rattle.rules.specs.Rules.{Cases}
use Rattle.ast.specs.declared.Run.{Run}
use Rattle.ast.specs.declared.NodeId.{NodeId}
use Rattle.ast.specs.declared.TypeExprId.{TypeExprId}
use Rattle.ast.specs.declared.TypeExpr.{TypeExpr}
use Rattle.ast.specs.declared.Node.TheVariants as N
use Rattle.ast.specs.declared.TypeExpr.TheVariants as X
use Rattle.rules.proofs.Unique.Grow.{none≢some}
use Rattle.rules.proofs.Results.{Ends, holds, fails, weaken_both, if_kind_else, if_kind-ok, table_ok, entry_else, entry-ok, other_ok, bind_ok, then_ok, pure-ok, cur-ok, fail-ok, require_no_docs-ok, loop-ok}
use Rattle.rules.proofs.Counting.Step.{Budget, Accounted, Collected, Counts, less, forget, relax, renoted, spend, rebase, after-token, advance-counts, expect-at, expect-counts, expect_ident-counts, reject_kind-counts, struck-counts, push_node-counts, push_type-counts, alloc_slice-counts, members-counts, list_until-counts, collect_docs-counts, take_docs-counts}

-- a token is taken where the rule ends well, and no more is spent than earned
abbrev pub Takes : {A : Type 0} → Budget → ℕ → ℕ → Result A → Type 0
Takes b t c r = Counts b (suc t) (λ a. c) r

-- the same, and a token is taken before an error too
abbrev pub TakesAtOnce : {A : Type 0} → Budget → ℕ → ℕ → Result A → Type 0
TakesAtOnce b t c r = Ends (λ a s'. Accounted b (suc t) c s') (Accounted b 1 0) r

-- an error after a token, or where the rule began
pub data FailsFrom (b : Budget) (s : State) : State → Type 0 where
  later : {s' : State} → Accounted b 1 0 s' → FailsFrom b s s'
  here : FailsFrom b s s

abbrev pub TakesOrStays : {A : Type 0} → Budget → ℕ → ℕ → State → Result A → Type 0
TakesOrStays b t c s r = Ends (λ a s'. Accounted b (suc t) c s') (FailsFrom b s) r

module _ {A : Type 0} {b : Budget} {t c : ℕ} {r : Result A} where
  takes_or_stays : {s : State} → TakesAtOnce b t c r → TakesOrStays b t c s r
  takes_or_stays h = weaken_both h (λ a s q. q) (λ s q. later q)

  takes : {s : State} → Accounted b t c s → TakesOrStays b t c s r → Takes b t c r
  takes {s} q h = weaken_both h (λ a s' z. z) (λ s' z. go z)
    where
      go : {s' : State} → FailsFrom b s s' → Accounted b 0 0 s'
      go (later z) = forget z
      go here = forget q

-- the law of counting for the readers of one level: at the budget of `s` itself, no tokens are
-- added, the potential does not grow, nodes have value numbers, and Eof stays last
pub record ReadersTake (d : Readers) : Type 0 where
  pub prefix : {b : Budget} {t c : ℕ} (s : State) → Accounted b t c s → Takes b t c (d.prefix s)
  pub expr : {b : Budget} {t c : ℕ} (least : ℕ) (s : State) → Accounted b t c s → TakesOrStays b t c s (d.expr least s)
  pub type : {b : Budget} {t c : ℕ} (s : State) → Accounted b t c s → Takes b t c (d.type s)

-- ---- rules that read nothing deeper

open_angle-counts : {b : Budget} {t c : ℕ} (n : ℕ) (s : State) → Accounted b t c s → ¬ ((current s.left).kind ≡ k_eof) → Counts b (suc (suc t)) (λ x. suc (suc c)) (Q.open_angle n s)
unfolding Q.open_angle
open_angle-counts n s q e =
    then_ok _ _ s (advance-counts s q e) (λ x s₁ q₁.
    then_ok _ _ s₁ (expect-counts k_less_than s₁ q₁ (omega arith)) (λ y s₂ q₂.
    reject_kind-counts k_greater_than n s₂ q₂))

atom_type-takes : {b : Budget} {t c : ℕ} (s : State) → Accounted b t c s → ¬ ((current s.left).kind ≡ k_eof) → Takes b t c (Q.atom_type s)
unfolding Q.atom_type
atom_type-takes s q e =
    bind_ok _ _ s (advance-counts s q e) (λ x s₁ q₁.
    push_type-counts _ s₁ q₁ (omega arith))

foreign_type-takes : {b : Budget} {t c : ℕ} (s : State) → Accounted b t c s → ¬ ((current s.left).kind ≡ k_eof) → Takes b t c (Q.foreign_type s)
unfolding Q.foreign_type
foreign_type-takes s q e =
    then_ok _ _ s (open_angle-counts 20 s q e) (λ x s₁ q₁.
    bind_ok _ _ s₁ (expect_ident-counts s₁ q₁) (λ name s₂ q₂.
    then_ok _ _ s₂ (expect-counts k_greater_than s₂ q₂ (omega arith)) (λ y s₃ q₃.
    push_type-counts _ s₃ q₃ (omega arith))))

-- it takes no token, and spends
supplied_void-counts : {b : Budget} {t c : ℕ} (s : State) → Accounted b t (suc c) s → Counts b t (λ x. c) (Q.supplied_void s)
unfolding Q.supplied_void
supplied_void-counts s q = cur-ok _ s (push_type-counts _ s q (omega arith))

import_path-takes : {b : Budget} {t c : ℕ} (s : State) → Accounted b t c s → Takes b t c (Q.import_path s)
unfolding Q.import_path
import_path-takes s q = if_kind-ok k_s _ _ s (λ e. bind_ok _ _ s (advance-counts s q (omega arith)) (λ p s₁ q₁. pure-ok _ s₁ (less q₁ (omega arith)))) (fail-ok 15 0 s (forget q))

bracketed_paths-takes : {b : Budget} {t c : ℕ} (s : State) → Accounted b t c s → Takes b t (suc c) (Q.bracketed_paths s)
unfolding Q.bracketed_paths
bracketed_paths-takes {c} s q =
    then_ok _ _ s (expect-counts k_brace_left s q (omega arith)) (λ x s₁ q₁.
    bind_ok _ _ s₁ (members-counts (λ n. suc c) k_brace_right _ (λ n s₂ q₂. import_path-takes s₂ q₂) s₁ q₁) (λ ps s₂ q₂.
    then_ok _ _ s₂ (expect-counts k_brace_right s₂ q₂ (omega arith)) (λ y s₃ q₃.
    pure-ok ps s₃ (less q₃ (omega arith)))))

strike_single-counts : {b : Budget} {t c : ℕ} (x : Rule (List (List ℕ))) (s : State) → Counts b t (λ ps. c) (x s) → Counts b t (λ ps. c) (Q.strike_single x s)
unfolding Q.strike_single
strike_single-counts {b} {t} {c} x s h = go _ (x s) h
  where
    by_length : (n : Notes) (ps : List (List ℕ)) (s₁ : State) → Accounted b t c s₁ → (z : Bool) → Counts {A = List (List ℕ)} b t (λ qs. c) (elim z as (λ z'. Result (List (List ℕ))) [ true ↦ ok ps (record { left = s₁.left; docs = s₁.docs; arena = s₁.arena; notes = n }) | false ↦ ok ps s₁ ])
    by_length n ps s₁ q true = holds (renoted q _)
    by_length n ps s₁ q false = holds q

    go : (notes : State → Notes) (r : Result (List (List ℕ))) → Counts b t (λ ps. c) r
        → Counts {A = List (List ℕ)} b t (λ ps. c) (elim r as (λ r'. Result (List (List ℕ))) [ ok ps s₁ ↦ elim (eqb (length ps) 1) as (λ z'. Result (List (List ℕ))) [ true ↦ ok ps (record { left = s₁.left; docs = s₁.docs; arena = s₁.arena; notes = notes s₁ }) | false ↦ ok ps s₁ ] | err e s₁ ↦ err e s₁ ])
    go notes r (holds {a = ps} {s = s₁} q) = by_length (notes s₁) ps s₁ q (eqb (length ps) 1)
    go notes r (fails q) = fails q

parse_import-takes : {b : Budget} {t c : ℕ} (s : State) → Accounted b t c s → (current s.left).kind ≡ k_import → TakesAtOnce b t c (Q.parse_import s)
unfolding Q.parse_import
parse_import-takes {c} s q e =
    bind_ok _ _ s (advance-counts s q (omega arith)) (λ src s₁ q₁. after-token q₁ (
    bind_ok _ _ s₁ (if_kind-ok k_s _ _ s₁
    (λ k. bind_ok _ _ s₁ (advance-counts s₁ (rebase q₁) (omega arith)) (λ p s₂ q₂. pure-ok _ s₂ q₂))
    (strike_single-counts _ s₁ (bracketed_paths-takes s₁ (rebase q₁)))) (λ ps s₂ q₂.
    bind_ok _ _ s₂ (alloc_slice-counts (λ n. suc (suc c)) ps s₂ q₂) (λ pkgs s₃ q₃.
    push_node-counts 0 _ s₃ q₃ (omega arith)))))

atom-takes : {b : Budget} {t c : ℕ} (s : State) → Accounted b t c s → ¬ ((current s.left).kind ≡ k_eof) → TakesAtOnce b t c (Q.atom s)
unfolding Q.atom
atom-takes s q e = bind_ok _ _ s (advance-counts s q e) (λ x s₁ q₁. push_node-counts 0 _ s₁ q₁ (omega arith))

ident-takes : {b : Budget} {t c : ℕ} (s : State) → Accounted b t c s → ¬ ((current s.left).kind ≡ k_eof) → TakesAtOnce b t c (Q.ident s)
unfolding Q.ident
ident-takes s q e = bind_ok _ _ s (advance-counts s q e) (λ x s₁ q₁. push_node-counts 0 _ s₁ q₁ (omega arith))

field_access-takes : {b : Budget} {t c : ℕ} (n : NodeId) (s : State) → Accounted b t c s → ¬ ((current s.left).kind ≡ k_eof) → Takes b t c (Q.field_access n s)
unfolding Q.field_access
field_access-takes {t} {c} n s q e =
    then_ok _ _ s (advance-counts s q e) (λ x s₁ q₁.
    bind_ok _ _ s₁ (expect_ident-counts s₁ q₁) (λ name s₂ q₂.
    bind_ok _ _ s₂ (push_node-counts {t' = suc t} {c' = c} 0 _ s₂ q₂ (omega arith)) (λ m s₃ q₃.
    pure-ok _ s₃ q₃)))

note_after_default-counts : {b : Budget} {t c : ℕ} {E : State → Type 0} (cs : Cases) (s : State) → Accounted b t c s → Ends (λ n s'. Accounted b t c s') E (Q.note_after_default cs s)
unfolding Q.note_after_default
note_after_default-counts {b} {t} {c} {E} cs s q = go _ cs.default
  where
    go : (n : Notes) (o : Option (Token × Run)) → Ends {A = ℕ} (λ n s'. Accounted b t c s') E (elim o as (λ o'. Result ℕ) [ none ↦ ok 0 s | some d ↦ ok 1 (record { left = s.left; docs = s.docs; arena = s.arena; notes = n }) ])
    go n none = holds q
    go n (some d) = holds (renoted q _)

node_member-takes : {b : Budget} {t c : ℕ} (x : Rule NodeId) (s : State) → Takes b t c (x s) → Takes b t c (Q.node_member x s)
unfolding Q.node_member
node_member-takes x s h = bind_ok _ _ s h (λ n s₁ q₁. pure-ok _ s₁ q₁)

-- the kinds that begin a root and no expression
pub data RootKind : ℕ → Type 0 where
  an_import : RootKind k_import
  a_let : RootKind k_let
  a_fn : RootKind k_fn
  an_extern : RootKind k_extern
  a_match : RootKind k_match

not_root : (k : ℕ) → eqb k k_import ≡ false → eqb k k_let ≡ false → eqb k k_fn ≡ false → eqb k k_extern ≡ false → eqb k k_match ≡ false → ¬ (RootKind k)
not_root k n₁ n₂ n₃ n₄ n₅ an_import = subst T n₁ tt
not_root k n₁ n₂ n₃ n₄ n₅ a_let = subst T n₂ tt
not_root k n₁ n₂ n₃ n₄ n₅ a_fn = subst T n₃ tt
not_root k n₁ n₂ n₃ n₄ n₅ an_extern = subst T n₄ tt
not_root k n₁ n₂ n₃ n₄ n₅ a_match = subst T n₅ tt

-- ---- the rules at one level

module _ (d : Readers) (deep : ReadersTake d) where
  expr-takes : {b : Budget} {t c : ℕ} (least : ℕ) (s : State) → Accounted b t c s → Takes b t c (d.expr least s)
  expr-takes least s q = takes q (deep.expr least s q)

  -- a name and a colon are left over
  typed_name_earns : {b : Budget} {t c : ℕ} (s : State) → Accounted b t c s → Takes b t (suc c) (Q.typed_name d s)
  unfolding Q.typed_name
  typed_name_earns s q =
      bind_ok _ _ s (expect_ident-counts s q) (λ name s₁ q₁.
      then_ok _ _ s₁ (expect-counts k_colon s₁ q₁ (omega arith)) (λ x s₂ q₂.
      bind_ok _ _ s₂ (deep.type s₂ q₂) (λ y s₃ q₃.
      pure-ok _ s₃ (less q₃ (omega arith)))))

  -- Option and Array
  within-takes : {b : Budget} {t c : ℕ} (n : ℕ) (mk : TypeExprId → TypeExpr) (s : State) → Accounted b t c s → ¬ ((current s.left).kind ≡ k_eof) → Takes b t c (R.◌>>◌ (Q.open_angle n) (R.◌>>=◌ d.type (λ x. R.◌>>◌ (R.expect k_greater_than) (R.push_type (mk x)))) s)
  within-takes n mk s q e =
      then_ok _ _ s (open_angle-counts n s q e) (λ x s₁ q₁.
      bind_ok _ _ s₁ (deep.type s₁ q₁) (λ y s₂ q₂.
      then_ok _ _ s₂ (expect-counts k_greater_than s₂ q₂ (omega arith)) (λ z s₃ q₃.
      push_type-counts _ s₃ q₃ (omega arith))))

  record_type-takes : {b : Budget} {t c : ℕ} (s : State) → Accounted b t c s → ¬ ((current s.left).kind ≡ k_eof) → Takes b t c (Q.record_type d s)
  unfolding Q.record_type
  record_type-takes {c} s q e =
      bind_ok _ _ s (advance-counts s q e) (λ src s₁ q₁.
      then_ok _ _ s₁ (expect-counts k_less_than s₁ q₁ (omega arith)) (λ x s₂ q₂.
      bind_ok _ _ s₂ (list_until-counts (λ n. suc (suc c)) k_greater_than _ (λ n s₃ q₃. relax (typed_name_earns s₃ q₃) (omega arith)) (omega arith) s₂ q₂) (λ r s₃ q₃.
      push_type-counts _ s₃ q₃ (omega arith))))

  pub parse_type-takes : {b : Budget} {t c : ℕ} (s : State) → Accounted b t c s → Takes b t c (Q.parse_type d s)
  unfolding Q.parse_type Q.type_by_kind Q.option_type Q.array_type
  parse_type-takes s q =
      table_ok _ _ s
      (entry-ok _ _ _ _ s (λ e. atom_type-takes s q (omega arith))
      (entry-ok _ _ _ _ s (λ e. atom_type-takes s q (omega arith))
      (entry-ok _ _ _ _ s (λ e. atom_type-takes s q (omega arith))
      (entry-ok _ _ _ _ s (λ e. atom_type-takes s q (omega arith))
      (entry-ok _ _ _ _ s (λ e. atom_type-takes s q (omega arith))
      (entry-ok _ _ _ _ s (λ e. foreign_type-takes s q (omega arith))
      (entry-ok _ _ _ _ s (λ e. within-takes 21 X.Option s q (omega arith))
      (entry-ok _ _ _ _ s (λ e. within-takes 22 X.Array s q (omega arith))
      (entry-ok _ _ _ _ s (λ e. record_type-takes s q (omega arith))
      (other_ok _ _ s (fail-ok 23 0 s (forget q))))))))))))

  -- ---- items

  parse_body-takes : {b : Budget} {t c : ℕ} (s : State) → Accounted b t c s → Takes b t (suc c) (Q.parse_body d s)
  unfolding Q.parse_body
  parse_body-takes {c} s q =
      then_ok _ _ s (expect-counts k_curly_left s q (omega arith)) (λ x s₁ q₁.
      relax (list_until-counts (λ n. suc c) k_curly_right _ (λ n s₂ q₂. node_member-takes _ s₂ (deep.prefix s₂ q₂)) (omega arith) s₁ q₁) (omega arith))

  -- each argument leaves one, for its value number
  parse_args_earns : {b : Budget} {t c : ℕ} (s : State) → Accounted b t c s → Counts b (suc t) (λ r. suc (r.len + c)) (Q.parse_args d s)
  unfolding Q.parse_args
  parse_args_earns {t} {c} s q =
      then_ok _ _ s (expect-counts k_brace_left s q (omega arith)) (λ x s₁ q₁.
      relax (list_until-counts {t = suc t} (λ n. n + c) k_brace_right _ (λ n s₂ q₂. relax (typed_name_earns s₂ q₂) (omega arith)) (omega arith) s₁ (less q₁ (omega arith))) (omega arith))

  return_type-takes : {b : Budget} {t c : ℕ} (s : State) → Accounted b t c s → Takes b t c (Q.return_type d s)
  unfolding Q.return_type
  return_type-takes s q = if_kind-ok k_void _ _ s (λ e. struck-counts _ s (deep.type s q)) (deep.type s q)

  parse_let-takes : {b : Budget} {t c : ℕ} (s : State) → Accounted b t c s → (current s.left).kind ≡ k_let → TakesAtOnce b t c (Q.parse_let d s)
  unfolding Q.parse_let
  parse_let-takes s q e =
      bind_ok _ _ s (take_docs-counts s q) (λ docs s₁ q₁.
      then_ok _ _ s₁ (expect-at k_let s₁ q₁.0 (ap (λ (l : List Token). (current l).kind) q₁.1 ∙ e) (omega arith)) (λ x s₂ q₂. after-token q₂ (
      bind_ok _ _ s₂ (expect_ident-counts s₂ (rebase q₂)) (λ name s₃ q₃.
      then_ok _ _ s₃ (expect-counts k_equal s₃ q₃ (omega arith)) (λ y s₄ q₄.
      bind_ok _ _ s₄ (deep.prefix s₄ q₄) (λ rhs s₅ q₅.
      push_node-counts 0 _ s₅ q₅ (omega arith)))))))

  parse_fn-takes : {b : Budget} {t c : ℕ} (s : State) → Accounted b t c s → (current s.left).kind ≡ k_fn → TakesAtOnce b t c (Q.parse_fn d s)
  unfolding Q.parse_fn
  parse_fn-takes {c} s q e =
      bind_ok _ _ s (take_docs-counts s q) (λ docs s₁ q₁.
      let k : (current s₁.left).kind ≡ k_fn = ap (λ (l : List Token). (current l).kind) q₁.1 ∙ e in
      then_ok _ _ s₁ (advance-counts s₁ q₁.0 (omega arith)) (λ x s₂ q₂. after-token q₂ (
      bind_ok _ _ s₂ (expect_ident-counts s₂ (rebase q₂)) (λ name s₃ q₃.
      bind_ok _ _ s₃ (parse_args_earns s₃ q₃) (λ args s₄ q₄.
      bind_ok _ _ s₄ (if_kind-ok k_curly_left _ _ s₄ (λ z. supplied_void-counts s₄ q₄) (relax (return_type-takes s₄ q₄) (omega arith))) (λ ret s₅ q₅.
      bind_ok _ _ s₅ (parse_body-takes s₅ q₅) (λ body s₆ q₆.
      push_node-counts args.len _ s₆ q₆ (omega arith))))))))

  extern_fn-takes : {b : Budget} {t c : ℕ} (s : State) → Accounted b t c s → Takes b t c (Q.extern_fn d s)
  unfolding Q.extern_fn
  extern_fn-takes s q =
      then_ok _ _ s (collect_docs-counts s q) (λ n s₁ q₁.
      then_ok _ _ s₁ (reject_kind-counts k_extern 17 s₁ q₁.0) (λ m s₂ q₂.
      bind_ok _ _ s₂ (take_docs-counts s₂ q₂) (λ docs s₃ q₃.
      then_ok _ _ s₃ (expect-counts k_fn s₃ q₃.0 (omega arith)) (λ x s₄ q₄.
      bind_ok _ _ s₄ (expect_ident-counts s₄ q₄) (λ name s₅ q₅.
      bind_ok _ _ s₅ (parse_args_earns s₅ q₅) (λ args s₆ q₆.
      bind_ok _ _ s₆ (if_kind-ok k_curly_right _ _ s₆ (λ e. supplied_void-counts s₆ q₆) (if_kind-ok k_fn _ _ s₆ (λ e. supplied_void-counts s₆ q₆) (relax (return_type-takes s₆ q₆) (omega arith)))) (λ ret s₇ q₇.
      pure-ok _ s₇ (less q₇ (omega arith)))))))))

  parse_extern-takes : {b : Budget} {t c : ℕ} (s : State) → Accounted b t c s → (current s.left).kind ≡ k_extern → TakesAtOnce b t c (Q.parse_extern d s)
  unfolding Q.parse_extern
  parse_extern-takes {c} s q e =
      bind_ok _ _ s (take_docs-counts s q) (λ docs s₁ q₁.
      bind_ok _ _ s₁ (expect-at k_extern s₁ q₁.0 (ap (λ (l : List Token). (current l).kind) q₁.1 ∙ e) (omega arith)) (λ src s₂ q₂. after-token q₂ (
      bind_ok _ _ s₂ (if_kind-ok k_s _ _ s₂ (λ k. advance-counts s₂ (rebase q₂) (omega arith)) (fail-ok 16 0 s₂ (forget (rebase q₂)))) (λ name s₃ q₃.
      then_ok _ _ s₃ (expect-counts k_curly_left s₃ q₃ (omega arith)) (λ x s₄ q₄.
      bind_ok _ _ s₄ (list_until-counts (λ n. suc (suc (suc c))) k_curly_right _ (λ n s₅ q₅. extern_fn-takes s₅ q₅) (omega arith) s₄ q₄) (λ fns s₅ q₅.
      push_node-counts 0 _ s₅ q₅ (omega arith)))))))

  -- ---- match

  next_case-counts : {b : Budget} {t c : ℕ} (cs : Cases) (s : State) → Accounted b t c s → Counts b t (λ x. c) (Q.next_case d cs s)
  unfolding Q.next_case Q.default_case Q.condition_case
  next_case-counts cs s q =
      if_kind-ok k_eof _ _ s (λ e. pure-ok _ s q) (if_kind-ok k_curly_right _ _ s (λ e. pure-ok _ s q) (
      then_ok _ _ s (note_after_default-counts cs s q) (λ n s₁ q₁.
      bind_ok _ _ s₁ (if_kind-ok k_curly_left _ _ s₁
      (λ e. cur-ok _ s₁ (bind_ok _ _ s₁ (parse_body-takes s₁ q₁) (λ body s₂ q₂. pure-ok _ s₂ (less q₂ (omega arith)))))
      (cur-ok _ s₁ (bind_ok _ _ s₁ (expr-takes 0 s₁ q₁) (λ x s₂ q₂. bind_ok _ _ s₂ (parse_body-takes s₂ q₂) (λ body s₃ q₃. pure-ok _ s₃ (less q₃ (omega arith))))))) (λ x s₂ q₂.
      pure-ok _ s₂ q₂))))

  parse_match-takes : {b : Budget} {t c : ℕ} (s : State) → Accounted b t c s → (current s.left).kind ≡ k_match → TakesAtOnce b t c (Q.parse_match d s)
  unfolding Q.parse_match
  parse_match-takes {b} {t} {c} s q e =
      then_ok _ _ s (advance-counts s q (omega arith)) (λ x s₁ q₁. after-token q₁ (cur-ok _ s₁ (
      then_ok _ _ s₁ (expect-counts k_curly_left s₁ (rebase q₁) (omega arith)) (λ y s₂ q₂.
      bind_ok _ _ s₂ (loop-ok (λ cs s₃. Accounted (spend (suc t) b) 1 (suc (suc c)) s₃) _ (λ cs s₃ q₃. next_case-counts cs s₃ q₃) _ s₂ q₂) (λ cs s₃ q₃.
      then_ok _ _ s₃ (expect-counts k_curly_right s₃ q₃ (omega arith)) (λ z s₄ q₄.
      bind_ok _ _ s₄ (alloc_slice-counts (λ n. suc (suc (suc c))) cs.cases s₄ q₄) (λ r s₅ q₅.
      finish (current s₁.left) r cs.default s₅ q₅)))))))
    where
      finish : (x : Token) (r : Run) (o : Option (Token × Run)) (s' : State) → Accounted (spend (suc t) b) 2 (suc (suc (suc c))) s'
          → Counts (spend (suc t) b) 0 (λ n. c) ((elim o as (λ o'. Rule NodeId) [ none ↦ (λ s''. err (R.at_token 18 0 x) s'') | some y ↦ R.push_node (λ id. N.Match id r y.0 y.1) ]) s')
      finish x r none s' q' = fails (forget q')
      finish x r (some y) s' q' = push_node-counts 0 _ s' q' (omega arith)

  -- where a prefix read fails: after a token, where docs wait, or where it began, at a token that
  -- begins an expression or nothing
  module _ {b : Budget} {t c : ℕ} {E : State → Type 0} (s : State) (q : Accounted b t c s)
      (moved : (s' : State) → Accounted b 1 0 s' → E s')
      (waits : (s' : State) → Accounted b t c s' → ¬ (s'.docs ≡ []) → Collected s s' → E s')
      (stays : s.docs ≡ [] → ¬ (RootKind (current s.left).kind) → E s) where
    pub parse_prefix-ends : Ends (λ n s'. Accounted b (suc t) c s') E (Q.parse_prefix d s)
    unfolding Q.parse_prefix
    parse_prefix-ends =
        then_ok _ _ s (collect_docs-counts s q) (λ n s₁ q₁.
        table_ok _ _ s₁
        (entry_else _ _ _ _ s₁ (λ e. at_once (parse_import-takes s₁ q₁.0 e)) (λ n₁.
        entry_else _ _ _ _ s₁ (λ e. at_once (parse_let-takes s₁ q₁.0 e)) (λ n₂.
        entry_else _ _ _ _ s₁ (λ e. at_once (parse_fn-takes s₁ q₁.0 e)) (λ n₃.
        entry_else _ _ _ _ s₁ (λ e. at_once (parse_extern-takes s₁ q₁.0 e)) (λ n₄.
        other_ok _ _ s₁ (require_no_docs-ok _ s₁
        (λ z. if_kind_else k_match _ _ s₁ (λ e. at_once (parse_match-takes s₁ q₁.0 e)) (λ n₅. weaken_both (deep.expr 0 s₁ q₁.0) (λ a s₂ x. x) (λ s₂ x. from s₁ (q₁.1.empty z) z (not_root _ n₁ n₂ n₃ n₄ n₅) x)))
        (λ z. waits s₁ q₁.0 z q₁.1))))))))
      where
        at_once : {r : Result NodeId} → TakesAtOnce b t c r → Ends (λ n s'. Accounted b (suc t) c s') E r
        at_once h = weaken_both h (λ a s' x. x) moved

        from : (s₁ : State) → s₁ ≡ s → s₁.docs ≡ [] → ¬ (RootKind (current s₁.left).kind) → {s₂ : State} → FailsFrom b s₁ s₂ → E s₂
        from s₁ e z n (later x) = moved _ x
        from s₁ e z n here = subst E (sym e) (stays (ap (λ (x : State). x.docs) (sym e) ∙ z) (subst (λ (x : State). ¬ (RootKind (current x.left).kind)) e n))

  pub parse_prefix-takes : {b : Budget} {t c : ℕ} (s : State) → Accounted b t c s → Takes b t c (Q.parse_prefix d s)
  parse_prefix-takes s q = parse_prefix-ends s q (λ s' x. forget x) (λ s' x z k. forget x) (λ z n. forget q)

  -- ---- expressions

  field-takes : {b : Budget} {t c : ℕ} (s : State) → Accounted b t c s → Takes b t c (Q.field d s)
  unfolding Q.field
  field-takes s q =
      bind_ok _ _ s (expect_ident-counts s q) (λ name s₁ q₁.
      then_ok _ _ s₁ (expect-counts k_colon s₁ q₁ (omega arith)) (λ x s₂ q₂.
      bind_ok _ _ s₂ (expr-takes 0 s₂ q₂) (λ y s₃ q₃.
      pure-ok _ s₃ (less q₃ (omega arith)))))

  record_literal-takes : {b : Budget} {t c : ℕ} (s : State) → Accounted b t c s → ¬ ((current s.left).kind ≡ k_eof) → TakesAtOnce b t c (Q.record_literal d s)
  unfolding Q.record_literal
  record_literal-takes {c} s q e =
      bind_ok _ _ s (advance-counts s q e) (λ src s₁ q₁. after-token q₁ (
      bind_ok _ _ s₁ (list_until-counts (λ n. suc c) k_curly_right _ (λ n s₂ q₂. field-takes s₂ q₂) (omega arith) s₁ (rebase q₁)) (λ r s₂ q₂.
      push_node-counts 0 _ s₂ q₂ (omega arith))))

  array_literal-takes : {b : Budget} {t c : ℕ} (s : State) → Accounted b t c s → ¬ ((current s.left).kind ≡ k_eof) → TakesAtOnce b t c (Q.array_literal d s)
  unfolding Q.array_literal
  array_literal-takes {c} s q e =
      bind_ok _ _ s (advance-counts s q e) (λ src s₁ q₁. after-token q₁ (
      bind_ok _ _ s₁ (list_until-counts (λ n. suc c) k_braket_right _ (λ n s₂ q₂. node_member-takes _ s₂ (expr-takes 0 s₂ q₂)) (omega arith) s₁ (rebase q₁)) (λ r s₂ q₂.
      push_node-counts 0 _ s₂ q₂ (omega arith))))

  group-takes : {b : Budget} {t c : ℕ} (s : State) → Accounted b t c s → ¬ ((current s.left).kind ≡ k_eof) → TakesAtOnce b t c (Q.group d s)
  unfolding Q.group
  group-takes s q e =
      then_ok _ _ s (struck-counts _ s (advance-counts s q e)) (λ x s₁ q₁. after-token q₁ (
      bind_ok _ _ s₁ (expr-takes 0 s₁ (rebase q₁)) (λ n s₂ q₂.
      then_ok _ _ s₂ (struck-counts _ s₂ (expect-counts k_brace_right s₂ q₂ (omega arith))) (λ y s₃ q₃.
      pure-ok n s₃ (less q₃ (omega arith))))))

  unary-takes : {b : Budget} {t c : ℕ} (s : State) → Accounted b t c s → ¬ ((current s.left).kind ≡ k_eof) → TakesAtOnce b t c (Q.unary d s)
  unfolding Q.unary
  unary-takes s q e =
      bind_ok _ _ s (advance-counts s q e) (λ op s₁ q₁. after-token q₁ (
      bind_ok _ _ s₁ (expr-takes Q.prefix_power s₁ (rebase q₁)) (λ rhs s₂ q₂.
      push_node-counts 0 _ s₂ q₂ (omega arith))))

  operand-takes : {b : Budget} {t c : ℕ} (s : State) → Accounted b t c s → TakesOrStays b t c s (Q.operand d s)
  unfolding Q.operand
  operand-takes s q =
      table_ok _ _ s
      (entry-ok _ _ _ _ s (λ e. takes_or_stays (record_literal-takes s q (omega arith)))
      (entry-ok _ _ _ _ s (λ e. takes_or_stays (array_literal-takes s q (omega arith)))
      (entry-ok _ _ _ _ s (λ e. takes_or_stays (atom-takes s q (omega arith)))
      (entry-ok _ _ _ _ s (λ e. takes_or_stays (atom-takes s q (omega arith)))
      (entry-ok _ _ _ _ s (λ e. takes_or_stays (atom-takes s q (omega arith)))
      (entry-ok _ _ _ _ s (λ e. takes_or_stays (atom-takes s q (omega arith)))
      (entry-ok _ _ _ _ s (λ e. takes_or_stays (atom-takes s q (omega arith)))
      (entry-ok _ _ _ _ s (λ e. takes_or_stays (ident-takes s q (omega arith)))
      (entry-ok _ _ _ _ s (λ e. takes_or_stays (group-takes s q (omega arith)))
      (entry-ok _ _ _ _ s (λ e. takes_or_stays (unary-takes s q (omega arith)))
      (entry-ok _ _ _ _ s (λ e. takes_or_stays (unary-takes s q (omega arith)))
      (other_ok _ _ s (fail-ok 19 0 s here)))))))))))))

  call-takes : {b : Budget} {t c : ℕ} (n : NodeId) (s : State) → Accounted b t c s → ¬ ((current s.left).kind ≡ k_eof) → Takes b t c (Q.call d n s)
  unfolding Q.call
  call-takes {t} {c} n s q e =
      then_ok _ _ s (advance-counts s q e) (λ x s₁ q₁.
      bind_ok _ _ s₁ (list_until-counts (λ n. suc c) k_brace_right _ (λ n s₂ q₂. node_member-takes _ s₂ (deep.prefix s₂ q₂)) (omega arith) s₁ q₁) (λ r s₂ q₂.
      bind_ok _ _ s₂ (push_node-counts {t' = suc t} {c' = c} 0 _ s₂ q₂ (omega arith)) (λ m s₃ q₃.
      pure-ok _ s₃ q₃)))

  cast-takes : {b : Budget} {t c : ℕ} (n : NodeId) (s : State) → Accounted b t c s → ¬ ((current s.left).kind ≡ k_eof) → Takes b t c (Q.cast d n s)
  unfolding Q.cast
  cast-takes {t} {c} n s q e =
      bind_ok _ _ s (advance-counts s q e) (λ src s₁ q₁.
      bind_ok _ _ s₁ (deep.type s₁ q₁) (λ x s₂ q₂.
      bind_ok _ _ s₂ (push_node-counts {t' = suc t} {c' = c} 0 _ s₂ q₂ (omega arith)) (λ m s₃ q₃.
      pure-ok _ s₃ q₃)))

  binary-takes : {b : Budget} {t c : ℕ} (n : NodeId) (p : ℕ) (s : State) → Accounted b t c s → ¬ ((current s.left).kind ≡ k_eof) → Takes b t c (Q.binary d n p s)
  unfolding Q.binary
  binary-takes {t} {c} n p s q e =
      bind_ok _ _ s (advance-counts s q e) (λ op s₁ q₁.
      bind_ok _ _ s₁ (expr-takes (Q.right_power p) s₁ q₁) (λ rhs s₂ q₂.
      bind_ok _ _ s₂ (push_node-counts {t' = suc t} {c' = c} 0 _ s₂ q₂ (omega arith)) (λ m s₃ q₃.
      pure-ok _ s₃ q₃)))

  postfix-counts : {b : Budget} {t c : ℕ} (n : NodeId) (s : State) → Accounted b t c s → Counts b t (λ m. c) (Q.postfix d n s)
  unfolding Q.postfix Q.callable
  postfix-counts {b} {t} {c} n s q = loop-ok (λ m s₁. Accounted b t c s₁) _
      (λ lhs s₁ q₁. if_kind-ok k_dot _ _ s₁ (λ e. relax (field_access-takes lhs s₁ q₁ (omega arith)) (omega arith)) (if_kind-ok k_brace_left _ _ s₁
      (λ e. bind_ok _ _ s₁ (callable-counts lhs s₁ q₁ e) (λ z s₂ q₂. called lhs z s₂ q₂.0 q₂.1))
      (pure-ok _ s₁ q₁)))
      n s q
    where
      callable-counts : (lhs : NodeId) (s₁ : State) → Accounted b t c s₁ → (current s₁.left).kind ≡ k_brace_left → Ends (λ z s₂. Accounted b t c s₂ × ((current s₂.left).kind ≡ k_brace_left)) (Accounted b 0 0) (Q.callable lhs s₁)
      callable-counts lhs s₁ q₁ e = holds (q₁, e)

      called : (lhs : NodeId) (z : Bool) (s₁ : State) → Accounted b t c s₁ → (current s₁.left).kind ≡ k_brace_left → Counts b t (λ m. c) (elim z as (λ z'. Rule (ControlFlow NodeId)) [ true ↦ Q.call d lhs | false ↦ R.pure (break lhs) ] s₁)
      called lhs true s₁ q₁ e = relax (call-takes lhs s₁ q₁ (omega arith)) (omega arith)
      called lhs false s₁ q₁ e = pure-ok _ s₁ q₁

  -- Eof is no infix sign
  module _ (power : ℕ → Option ℕ) (eof : power k_eof ≡ none) (script : List ℕ) where
    infixes-counts : {b : Budget} {t c : ℕ} (least : ℕ) (n : NodeId) (s : State) → Accounted b t c s → Counts b t (λ m. c) (Q.infixes d power script least n s)
    unfolding Q.infixes
    infixes-counts {b} {t} {c} least n s q = loop-ok (λ m s₁. Accounted b t c s₁) _
        (λ lhs s₁ q₁. if_kind-ok k_as _ _ s₁ (λ e. relax (cast-takes lhs s₁ q₁ (omega arith)) (omega arith)) (cur-ok _ s₁ (by_power lhs s₁ q₁ (power (current s₁.left).kind) refl)))
        n s q
      where
        by_least : (lhs : NodeId) (p : ℕ) (s₁ : State) → Accounted b t c s₁ → ¬ ((current s₁.left).kind ≡ k_eof) → (z : Bool) → Counts b t (λ m. c) (elim z as (λ z'. Rule (ControlFlow NodeId)) [ true ↦ R.pure (break lhs) | false ↦ Q.binary d lhs p ] s₁)
        by_least lhs p s₁ q₁ e true = pure-ok _ s₁ q₁
        by_least lhs p s₁ q₁ e false = relax (binary-takes lhs p s₁ q₁ e) (omega arith)

        by_sign : (lhs : NodeId) (p : ℕ) (s₁ : State) → Accounted b t c s₁ → ¬ ((current s₁.left).kind ≡ k_eof) → (z : Bool) → Counts b t (λ m. c) (elim z as (λ z'. Rule (ControlFlow NodeId)) [ true ↦ R.pure (break lhs) | false ↦ elim (ltb p least) as (λ z'. Rule (ControlFlow NodeId)) [ true ↦ R.pure (break lhs) | false ↦ Q.binary d lhs p ] ] s₁)
        by_sign lhs p s₁ q₁ e true = pure-ok _ s₁ q₁
        by_sign lhs p s₁ q₁ e false = by_least lhs p s₁ q₁ e (ltb p least)

        by_power : (lhs : NodeId) (s₁ : State) → Accounted b t c s₁ → (o : Option ℕ) → power (current s₁.left).kind ≡ o
            → Counts b t (λ m. c) (elim o as (λ o'. Rule (ControlFlow NodeId)) [ none ↦ R.pure (break lhs) | some p ↦ elim (Q.breaks_off script (current s₁.left)) as (λ z'. Rule (ControlFlow NodeId)) [ true ↦ R.pure (break lhs) | false ↦ elim (ltb p least) as (λ z'. Rule (ControlFlow NodeId)) [ true ↦ R.pure (break lhs) | false ↦ Q.binary d lhs p ] ] ] s₁)
        by_power lhs s₁ q₁ none e = pure-ok _ s₁ q₁
        by_power lhs s₁ q₁ (some p) e = by_sign lhs p s₁ q₁ (λ z. none≢some p (sym eof ∙ ap power (sym z) ∙ e)) (Q.breaks_off script (current s₁.left))

    pub parse_expr-takes : {b : Budget} {t c : ℕ} (least : ℕ) (s : State) → Accounted b t c s → TakesOrStays b t c s (Q.parse_expr d power script least s)
    unfolding Q.parse_expr
    parse_expr-takes least s q =
        bind_ok _ _ s (operand-takes s q) (λ x s₁ q₁. takes_or_stays (after-token q₁ (
        bind_ok _ _ s₁ (postfix-counts x s₁ (rebase q₁)) (λ y s₂ q₂.
        infixes-counts least y s₂ q₂))))

-- ---- levels

pub readers-take : (power : ℕ → Option ℕ) → power k_eof ≡ none → (script : List ℕ) (l : ℕ) → ReadersTake (Q.readers power script l)
unfolding Q.readers
readers-take power eof script zero = record { prefix = λ s q. fail-ok 10 0 s (forget q); expr = λ least s q. fail-ok 10 0 s here; type = λ s q. fail-ok 10 0 s (forget q) }
readers-take power eof script (suc l) =
    let deep : ReadersTake (Q.readers power script l) = readers-take power eof script l in
    record { prefix = λ s q. parse_prefix-takes _ deep s q; expr = λ least s q. parse_expr-takes _ deep power eof script least s q; type = λ s q. parse_type-takes _ deep s q }
