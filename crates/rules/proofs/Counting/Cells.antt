-- Counting list cells by credit: a token taken earns eight; a list cell spends one, and a doc that
-- waits three, for its cells.
use mathlib.Core.Path.{◌≡◌, refl, sym, ap, ◌∙◌, subst}
use mathlib.Core.Bool.{Bool, true, false}
use mathlib.Core.Option.{Option, none, some}
use mathlib.Core.List.{List, [], ◌∷◌, ◌++◌, map, flatten}
use Prim.Native.Nat.{ℕ, zero, suc, ◌+◌, ◌*◌, ◌-◌, ◌≤◌}
use lib.Dec.{eqb, ltb}
use lib.ListN.{length, length-append}
use native.Mathlib.Omega.{arith}
use Rattle.lex.specs.Kind.{k_eof, k_brace_left, k_brace_right, k_equal, k_less_than, k_greater_than, k_colon, k_dot, k_braket_right, k_curly_left, k_curly_right, k_s, k_ident, k_doc, k_import, k_extern, k_let, k_fn, k_match, k_as, k_void}
use Rattle.lex.specs.Lex.{Occurrence, cut, faults_of}
use Rattle.lex.proofs.Steps.{cut_le}
use Rattle.lex.specs.declared.diagnostic.Diagnostic.{Diagnostic}
use Rattle.lex.specs.declared.tok.Token.{Token}
use Rattle.rules.specs.Tree.{Notes, State, Result, ok, err, Tree}
use Rattle.rules.specs.Combinators as R
use Rattle.rules.specs.Combinators.{Rule, current, Readers, ControlFlow, continue, break, with_docs}
use Rattle.ast.specs.Layout.{token_cells, run_cells}
use Rattle.rules.specs.Rules as Q
use Rattle.rules.specs.Rules.{Cases, readers, max_levels}
use Rattle.rules.specs.Parse.{Reading, read, ended, begin, parse, parse_roots, synchronize_root, Gathered, merged, recover, parse_collect, parse_roots_collect}
use Rattle.ast.specs.declared.Run.{Run}
use Rattle.ast.specs.declared.NodeId.{NodeId}
use Rattle.ast.specs.declared.TypeExprId.{TypeExprId}
use Rattle.ast.specs.declared.Node.{Node}
use Rattle.ast.specs.declared.Node.TheVariants as N
use Rattle.ast.specs.declared.TypeExpr.{TypeExpr}
use Rattle.ast.specs.declared.TypeExpr.TheVariants as X
use Rattle.rules.proofs.Unique.Grow.{none≢some}
use Rattle.rules.proofs.Results.{not_kind, Ends, holds, fails, weaken, ended-ok, if_kind-ok, table_ok, entry_else, entry-ok, other_ok, bind_ok, then_ok, pure-ok, cur-ok, fail-ok, reject_kind-ok, require_no_docs-ok, flow_value, loop-ok}
use Rattle.rules.proofs.Counting.Step.{WellEnded, not_empty, shorter}
use Rattle.rules.proofs.Counting.Whole.{begin_accounted, begin-left, read-tree, ended≢read}

-- ---- the account

-- the list cells that are made, three for each doc that waits, eight for each token left, and
-- `credit` earned and not spent
pub record Paid (b credit : ℕ) (s : State) : Type 0 where
  pub ended : WellEnded s.left
  pub paid : length s.arena.cells + 3 * length s.docs + 8 * length s.left + credit ≤ b

-- the credit that a rule leaves may depend on what it returns; an error too stays within `b`
abbrev pub Pays : {A : Type 0} → ℕ → (A → ℕ) → Result A → Type 0
Pays b credit r = Ends (λ a s. Paid b (credit a) s) (Paid b 0) r

module _ {b c : ℕ} {s : State} (q : Paid b c s) where
  cheaper : {c' : ℕ} → c' ≤ c → Paid b c' s
  cheaper h = record { ended = q.ended; paid = omega arith }

  broke : Paid b 0 s
  broke = cheaper (omega arith)

  renoted : (n : Notes) → Paid b c (record { left = s.left; docs = s.docs; arena = s.arena; notes = n })
  renoted n = record { ended = q.ended; paid = q.paid }

relax : {A : Type 0} {b : ℕ} {credit credit' : A → ℕ} {r : Result A} → Pays b credit r → ((a : A) → credit' a ≤ credit a) → Pays b credit' r
relax h k = weaken h (λ a s q. cheaper q (k a))

-- ---- the sizes of lists

size_snoc : (xs : List (List ℕ)) (x : List ℕ) → length (flatten (xs ++ (x ∷ []))) ≡ length (flatten xs) + length x
unfolding flatten
size_snoc [] x = omega (arith, length-append x [])
size_snoc (y ∷ ys) x = omega (arith, length-append y (flatten (ys ++ (x ∷ []))), length-append y (flatten ys), size_snoc ys x)

size_docs : (ds : List Token) → length (flatten (map token_cells ds)) ≡ 3 * length ds
unfolding flatten token_cells
size_docs [] = refl
size_docs (d ∷ ds) = omega (arith, size_docs ds)

-- ---- tokens

module _ {E : State → Type 0} {b c : ℕ} where
  advance_pays : (s : State) → Paid b c s → ¬ ((current s.left).kind ≡ k_eof) → Ends (λ x s'. Paid b (8 + c) s') E (R.advance s)
  unfolding R.advance
  advance_pays s q n =
      let z = shorter s.left q.ended n in
      ended-ok _ _ (record { ended = z.1; paid = omega (arith, q.paid) })

module _ {b c : ℕ} where
  expect_pays : (k : ℕ) (s : State) → Paid b c s → ¬ (k ≡ k_eof) → Pays b (λ x. 8 + c) (R.expect k s)
  unfolding R.expect
  expect_pays k s q n = if_kind-ok k _ _ s (λ e. advance_pays s q (λ z. n (sym e ∙ z))) (fail-ok 11 k s (broke q))

  expect_ident_pays : (s : State) → Paid b c s → Pays b (λ x. 8 + c) (R.expect_ident s)
  unfolding R.expect_ident
  expect_ident_pays s q = if_kind-ok k_ident _ _ s (λ e. advance_pays s q (omega arith)) (fail-ok 12 0 s (broke q))

  reject_kind_pays : (k n : ℕ) (s : State) → Paid b c s → Pays b (λ x. c) (R.reject_kind k n s)
  reject_kind_pays k n s q = reject_kind-ok k n s q (broke q)

struck_pays : {A : Type 0} {b : ℕ} {credit : A → ℕ} {E : State → Type 0} (x : Rule A) (s : State) → Ends (λ a s'. Paid b (credit a) s') E (x s) → Ends (λ a s'. Paid b (credit a) s') E (R.struck x s)
unfolding R.struck
struck_pays {A} {b} {credit} {E} x s h = go _ (x s) h
  where
    go : (notes : State → Notes) (r : Result A) → Ends (λ a s'. Paid b (credit a) s') E r → Ends (λ a s'. Paid b (credit a) s') E (elim r as (λ r'. Result A) [ ok a s₁ ↦ ok a (record { left = s₁.left; docs = s₁.docs; arena = s₁.arena; notes = notes s₁ }) | err e s₁ ↦ err e s₁ ])
    go notes r (holds p) = holds (renoted p _)
    go notes r (fails q) = fails q

-- ---- records and lists

module _ {E : State → Type 0} {b c : ℕ} where
  push_node_pays : (more : ℕ) (f : ℕ → Node) (s : State) → Paid b c s → Ends (λ x s'. Paid b c s') E (R.push_node_and more f s)
  unfolding R.push_node_and R.with_arena
  push_node_pays more f s q = ended-ok _ _ (record { ended = q.ended; paid = q.paid })

  push_type_pays : (x : TypeExpr) (s : State) → Paid b c s → Ends (λ y s'. Paid b c s') E (R.push_type x s)
  unfolding R.push_type R.with_arena
  push_type_pays x s q = ended-ok _ _ (record { ended = q.ended; paid = q.paid })

  -- a finished list spends its cells
  alloc_slice_pays : (xs : List (List ℕ)) (s : State) → Paid b (length (flatten xs) + c) s → Ends (λ r s'. Paid b c s') E (R.alloc_slice xs s)
  unfolding R.alloc_slice R.with_arena
  alloc_slice_pays xs s q = ended-ok _ _ (record { ended = q.ended; paid = omega (arith, q.paid, length-append s.arena.cells (flatten xs)) })

-- each member pays for its own cells
module _ {b : ℕ} (stop : ℕ) (item : Rule (List ℕ)) (each : (n : ℕ) (s : State) → Paid b n s → Pays b (λ x. length x + n) (item s)) where
  members_pays : {c : ℕ} (s : State) → Paid b c s → Pays b (λ xs. length (flatten xs) + c) (R.members stop item s)
  unfolding R.members flatten
  members_pays {c} s q = loop-ok (λ (xs : List (List ℕ)) (s' : State). Paid b (length (flatten xs) + c) s') _
      (λ xs s₁ q₁. if_kind-ok k_eof _ _ s₁ (λ e. pure-ok _ s₁ q₁) (if_kind-ok stop _ _ s₁ (λ e. pure-ok _ s₁ q₁)
      (bind_ok item _ s₁ (each (length (flatten xs) + c) s₁ q₁) (λ x s₂ q₂.
      pure-ok _ s₂ (cheaper q₂ (omega (arith, size_snoc xs x)))))))
      [] s (cheaper q (omega arith))

  list_until_pays : {c : ℕ} → ¬ (stop ≡ k_eof) → (s : State) → Paid b c s → Pays b (λ r. 8 + c) (R.list_until stop item s)
  unfolding R.list_until
  list_until_pays {c} n s q =
      bind_ok _ _ s (members_pays s q) (λ xs s₁ q₁.
      then_ok _ _ s₁ (expect_pays stop s₁ q₁ n) (λ x s₂ q₂.
      alloc_slice_pays xs s₂ (cheaper q₂ (omega arith))))

-- ---- docs

module _ {E : State → Type 0} {b c : ℕ} where
  collect_docs_pays : (s : State) → Paid b c s → Ends (λ n s'. Paid b c s') E (R.collect_docs s)
  unfolding R.collect_docs with_docs
  collect_docs_pays s q = loop-ok (λ n s'. Paid b c s') _
      (λ n s₁ q₁. if_kind-ok k_doc _ _ s₁
      (λ e. bind_ok _ _ s₁ (advance_pays s₁ q₁ (omega arith)) (λ d s₂ q₂. ended-ok _ _ (record { ended = q₂.ended; paid = omega (arith, q₂.paid, length-append s₂.docs (d ∷ [])) })))
      (pure-ok _ s₁ q₁))
      0 s q

  take_docs_pays : (s : State) → Paid b c s → Ends (λ r s'. Paid b c s' × (s'.left ≡ s.left)) E (R.take_docs s)
  unfolding R.take_docs with_docs R.alloc_slice R.with_arena
  take_docs_pays s q = ended-ok _ _ (record { ended = q.ended; paid = omega (arith, q.paid, length-append s.arena.cells (flatten (map token_cells s.docs)), size_docs s.docs) }, refl)

-- a reader leaves at least one, for the cell that names what it read
pub record ReadersPay (d : Readers) : Type 0 where
  pub prefix : {b c : ℕ} (s : State) → Paid b c s → Pays b (λ n. suc c) (d.prefix s)
  pub expr : {b c : ℕ} (least : ℕ) (s : State) → Paid b c s → Pays b (λ n. suc c) (d.expr least s)
  pub type : {b c : ℕ} (s : State) → Paid b c s → Pays b (λ t. suc c) (d.type s)

-- ---- rules that read nothing deeper

module _ {b c : ℕ} where
  open_angle_pays : (n : ℕ) (s : State) → Paid b c s → ¬ ((current s.left).kind ≡ k_eof) → Pays b (λ x. c) (Q.open_angle n s)
  unfolding Q.open_angle
  open_angle_pays n s q e =
      then_ok _ _ s (advance_pays s q e) (λ x s₁ q₁.
      then_ok _ _ s₁ (expect_pays k_less_than s₁ q₁ (omega arith)) (λ y s₂ q₂.
      reject_kind-ok k_greater_than n s₂ (cheaper q₂ (omega arith)) (broke q₂)))

  atom_type_pays : (s : State) → Paid b c s → ¬ ((current s.left).kind ≡ k_eof) → Pays b (λ x. suc c) (Q.atom_type s)
  unfolding Q.atom_type
  atom_type_pays s q e = bind_ok _ _ s (advance_pays s q e) (λ x s₁ q₁. push_type_pays _ s₁ (cheaper q₁ (omega arith)))

  foreign_type_pays : (s : State) → Paid b c s → ¬ ((current s.left).kind ≡ k_eof) → Pays b (λ x. suc c) (Q.foreign_type s)
  unfolding Q.foreign_type
  foreign_type_pays s q e =
      then_ok _ _ s (open_angle_pays 20 s q e) (λ x s₁ q₁.
      bind_ok _ _ s₁ (expect_ident_pays s₁ q₁) (λ name s₂ q₂.
      then_ok _ _ s₂ (expect_pays k_greater_than s₂ q₂ (omega arith)) (λ y s₃ q₃.
      push_type_pays _ s₃ (cheaper q₃ (omega arith)))))

  supplied_void_pays : (s : State) → Paid b c s → Pays b (λ x. c) (Q.supplied_void s)
  unfolding Q.supplied_void
  supplied_void_pays s q = cur-ok _ s (push_type_pays _ s q)

  import_path_pays : (s : State) → Paid b c s → Pays b (λ x. length x + c) (Q.import_path s)
  unfolding Q.import_path token_cells
  import_path_pays s q = if_kind-ok k_s _ _ s (λ e. bind_ok _ _ s (advance_pays s q (omega arith)) (λ p s₁ q₁. pure-ok _ s₁ (cheaper q₁ (omega arith)))) (fail-ok 15 0 s (broke q))

strike_single_pays : {b : ℕ} {credit : List (List ℕ) → ℕ} (x : Rule (List (List ℕ))) (s : State) → Pays b credit (x s) → Pays b credit (Q.strike_single x s)
unfolding Q.strike_single
strike_single_pays {b} {credit} x s h = go _ (x s) h
  where
    by_length : (n : Notes) (ps : List (List ℕ)) (s₁ : State) → Paid b (credit ps) s₁ → (z : Bool) → Pays {A = List (List ℕ)} b credit (elim z as (λ z'. Result (List (List ℕ))) [ true ↦ ok ps (record { left = s₁.left; docs = s₁.docs; arena = s₁.arena; notes = n }) | false ↦ ok ps s₁ ])
    by_length n ps s₁ q true = holds (renoted q _)
    by_length n ps s₁ q false = holds q

    go : (notes : State → Notes) (r : Result (List (List ℕ))) → Pays b credit r
        → Pays {A = List (List ℕ)} b credit (elim r as (λ r'. Result (List (List ℕ))) [ ok ps s₁ ↦ elim (eqb (length ps) 1) as (λ z'. Result (List (List ℕ))) [ true ↦ ok ps (record { left = s₁.left; docs = s₁.docs; arena = s₁.arena; notes = notes s₁ }) | false ↦ ok ps s₁ ] | err e s₁ ↦ err e s₁ ])
    go notes r (holds {a = ps} {s = s₁} q) = by_length (notes s₁) ps s₁ q (eqb (length ps) 1)
    go notes r (fails q) = fails q

module _ {b c : ℕ} where
  bracketed_paths_pays : (s : State) → Paid b c s → Pays b (λ ps. length (flatten ps) + c) (Q.bracketed_paths s)
  unfolding Q.bracketed_paths
  bracketed_paths_pays s q =
      then_ok _ _ s (expect_pays k_brace_left s q (omega arith)) (λ x s₁ q₁.
      bind_ok _ _ s₁ (members_pays k_brace_right _ (λ n s₂ q₂. import_path_pays s₂ q₂) s₁ q₁) (λ ps s₂ q₂.
      then_ok _ _ s₂ (expect_pays k_brace_right s₂ q₂ (omega arith)) (λ y s₃ q₃.
      pure-ok ps s₃ (cheaper q₃ (omega arith)))))

  import_paths_pays : (s : State) → Paid b c s → Pays b (λ ps. length (flatten ps) + c) (Q.import_paths s)
  unfolding token_cells flatten
  import_paths_pays s q = if_kind-ok k_s _ _ s
      (λ e. bind_ok _ _ s (advance_pays s q (omega arith)) (λ p s₁ q₁. pure-ok _ s₁ (cheaper q₁ (omega arith))))
      (strike_single_pays _ s (bracketed_paths_pays s q))

module _ {b c : ℕ} where
  parse_import_pays : (s : State) → Paid b c s → (current s.left).kind ≡ k_import → Pays b (λ n. suc c) (Q.parse_import s)
  unfolding Q.parse_import
  parse_import_pays s q e =
      bind_ok _ _ s (advance_pays s q (omega arith)) (λ src s₁ q₁.
      bind_ok _ _ s₁ (import_paths_pays s₁ q₁) (λ ps s₂ q₂.
      bind_ok _ _ s₂ (alloc_slice_pays ps s₂ q₂) (λ pkgs s₃ q₃.
      push_node_pays 0 _ s₃ (cheaper q₃ (omega arith)))))

  atom_pays : (s : State) → Paid b c s → ¬ ((current s.left).kind ≡ k_eof) → Pays b (λ n. suc c) (Q.atom s)
  unfolding Q.atom
  atom_pays s q e = bind_ok _ _ s (advance_pays s q e) (λ x s₁ q₁. push_node_pays 0 _ s₁ (cheaper q₁ (omega arith)))

  ident_pays : (s : State) → Paid b c s → ¬ ((current s.left).kind ≡ k_eof) → Pays b (λ n. suc c) (Q.ident s)
  unfolding Q.ident
  ident_pays s q e = bind_ok _ _ s (advance_pays s q e) (λ x s₁ q₁. push_node_pays 0 _ s₁ (cheaper q₁ (omega arith)))

  field_access_pays : (n : NodeId) (s : State) → Paid b c s → ¬ ((current s.left).kind ≡ k_eof) → Pays b (λ m. c) (Q.field_access n s)
  unfolding Q.field_access
  field_access_pays n s q e =
      then_ok _ _ s (advance_pays s q e) (λ x s₁ q₁.
      bind_ok _ _ s₁ (expect_ident_pays s₁ q₁) (λ name s₂ q₂.
      bind_ok _ _ s₂ (push_node_pays 0 _ s₂ q₂) (λ m s₃ q₃.
      pure-ok _ s₃ (cheaper q₃ (omega arith)))))

  note_after_default_pays : {E : State → Type 0} (cs : Cases) (s : State) → Paid b c s → Ends (λ n s'. Paid b c s') E (Q.note_after_default cs s)
  unfolding Q.note_after_default
  note_after_default_pays {E} cs s q = go _ cs.default
    where
      go : (n : Notes) (o : Option (Token × Run)) → Ends {A = ℕ} (λ n s'. Paid b c s') E (elim o as (λ o'. Result ℕ) [ none ↦ ok 0 s | some d ↦ ok 1 (record { left = s.left; docs = s.docs; arena = s.arena; notes = n }) ])
      go n none = holds q
      go n (some d) = holds (renoted q _)

  node_member_pays : (x : Rule NodeId) (s : State) → Pays b (λ n. suc c) (x s) → Pays b (λ y. length y + c) (Q.node_member x s)
  unfolding Q.node_member
  node_member_pays x s h = bind_ok _ _ s h (λ n s₁ q₁. pure-ok _ s₁ (cheaper q₁ (omega arith)))

-- ---- the rules at one level

module _ (d : Readers) (deep : ReadersPay d) where
  typed_name_pays : {b c : ℕ} (s : State) → Paid b c s → Pays b (λ x. length x + c) (Q.typed_name d s)
  unfolding Q.typed_name token_cells
  typed_name_pays s q =
      bind_ok _ _ s (expect_ident_pays s q) (λ name s₁ q₁.
      then_ok _ _ s₁ (expect_pays k_colon s₁ q₁ (omega arith)) (λ x s₂ q₂.
      bind_ok _ _ s₂ (deep.type s₂ q₂) (λ y s₃ q₃.
      pure-ok _ s₃ (cheaper q₃ (omega arith)))))

  -- Option and Array
  within_pays : {b c : ℕ} (n : ℕ) (mk : TypeExprId → TypeExpr) (s : State) → Paid b c s → ¬ ((current s.left).kind ≡ k_eof) → Pays b (λ x. suc c) (R.◌>>◌ (Q.open_angle n) (R.◌>>=◌ d.type (λ x. R.◌>>◌ (R.expect k_greater_than) (R.push_type (mk x)))) s)
  within_pays n mk s q e =
      then_ok _ _ s (open_angle_pays n s q e) (λ x s₁ q₁.
      bind_ok _ _ s₁ (deep.type s₁ q₁) (λ y s₂ q₂.
      then_ok _ _ s₂ (expect_pays k_greater_than s₂ q₂ (omega arith)) (λ z s₃ q₃.
      push_type_pays _ s₃ (cheaper q₃ (omega arith)))))

  record_type_pays : {b c : ℕ} (s : State) → Paid b c s → ¬ ((current s.left).kind ≡ k_eof) → Pays b (λ x. suc c) (Q.record_type d s)
  unfolding Q.record_type
  record_type_pays s q e =
      bind_ok _ _ s (advance_pays s q e) (λ src s₁ q₁.
      then_ok _ _ s₁ (expect_pays k_less_than s₁ q₁ (omega arith)) (λ x s₂ q₂.
      bind_ok _ _ s₂ (list_until_pays k_greater_than _ (λ n s₃ q₃. typed_name_pays s₃ q₃) (omega arith) s₂ q₂) (λ r s₃ q₃.
      push_type_pays _ s₃ (cheaper q₃ (omega arith)))))

  parse_type_pays : {b c : ℕ} (s : State) → Paid b c s → Pays b (λ x. suc c) (Q.parse_type d s)
  unfolding Q.parse_type Q.type_by_kind Q.option_type Q.array_type
  parse_type_pays s q =
      table_ok _ _ s
      (entry-ok _ _ _ _ s (λ e. atom_type_pays s q (omega arith))
      (entry-ok _ _ _ _ s (λ e. atom_type_pays s q (omega arith))
      (entry-ok _ _ _ _ s (λ e. atom_type_pays s q (omega arith))
      (entry-ok _ _ _ _ s (λ e. atom_type_pays s q (omega arith))
      (entry-ok _ _ _ _ s (λ e. atom_type_pays s q (omega arith))
      (entry-ok _ _ _ _ s (λ e. foreign_type_pays s q (omega arith))
      (entry-ok _ _ _ _ s (λ e. within_pays 21 X.Option s q (omega arith))
      (entry-ok _ _ _ _ s (λ e. within_pays 22 X.Array s q (omega arith))
      (entry-ok _ _ _ _ s (λ e. record_type_pays s q (omega arith))
      (other_ok _ _ s (fail-ok 23 0 s (broke q))))))))))))

  -- ---- items

  parse_body_pays : {b c : ℕ} (s : State) → Paid b c s → Pays b (λ r. 8 + (8 + c)) (Q.parse_body d s)
  unfolding Q.parse_body
  parse_body_pays s q =
      then_ok _ _ s (expect_pays k_curly_left s q (omega arith)) (λ x s₁ q₁.
      list_until_pays k_curly_right _ (λ n s₂ q₂. node_member_pays _ s₂ (deep.prefix s₂ q₂)) (omega arith) s₁ q₁)

  parse_args_pays : {b c : ℕ} (s : State) → Paid b c s → Pays b (λ r. 8 + (8 + c)) (Q.parse_args d s)
  unfolding Q.parse_args
  parse_args_pays s q =
      then_ok _ _ s (expect_pays k_brace_left s q (omega arith)) (λ x s₁ q₁.
      list_until_pays k_brace_right _ (λ n s₂ q₂. typed_name_pays s₂ q₂) (omega arith) s₁ q₁)

  return_type_pays : {b c : ℕ} (s : State) → Paid b c s → Pays b (λ x. c) (Q.return_type d s)
  unfolding Q.return_type
  return_type_pays s q = relax (if_kind-ok k_void _ _ s (λ e. struck_pays _ s (deep.type s q)) (deep.type s q)) (λ x. omega arith)

  parse_let_pays : {b c : ℕ} (s : State) → Paid b c s → Pays b (λ n. suc c) (Q.parse_let d s)
  unfolding Q.parse_let
  parse_let_pays s q =
      bind_ok _ _ s (take_docs_pays s q) (λ docs s₁ q₁.
      then_ok _ _ s₁ (expect_pays k_let s₁ q₁.0 (omega arith)) (λ x s₂ q₂.
      bind_ok _ _ s₂ (expect_ident_pays s₂ q₂) (λ name s₃ q₃.
      then_ok _ _ s₃ (expect_pays k_equal s₃ q₃ (omega arith)) (λ y s₄ q₄.
      bind_ok _ _ s₄ (deep.prefix s₄ q₄) (λ rhs s₅ q₅.
      push_node_pays 0 _ s₅ (cheaper q₅ (omega arith)))))))

  parse_fn_pays : {b c : ℕ} (s : State) → Paid b c s → (current s.left).kind ≡ k_fn → Pays b (λ n. suc c) (Q.parse_fn d s)
  unfolding Q.parse_fn
  parse_fn_pays s q e =
      bind_ok _ _ s (take_docs_pays s q) (λ docs s₁ q₁.
      let k : (current s₁.left).kind ≡ k_fn = ap (λ (l : List Token). (current l).kind) q₁.1 ∙ e in
      then_ok _ _ s₁ (advance_pays s₁ q₁.0 (omega arith)) (λ x s₂ q₂.
      bind_ok _ _ s₂ (expect_ident_pays s₂ q₂) (λ name s₃ q₃.
      bind_ok _ _ s₃ (parse_args_pays s₃ q₃) (λ args s₄ q₄.
      bind_ok _ _ s₄ (if_kind-ok k_curly_left _ _ s₄ (λ z. supplied_void_pays s₄ q₄) (return_type_pays s₄ q₄)) (λ ret s₅ q₅.
      bind_ok _ _ s₅ (parse_body_pays s₅ q₅) (λ body s₆ q₆.
      push_node_pays args.len _ s₆ (cheaper q₆ (omega arith))))))))

  extern_fn_pays : {b c : ℕ} (s : State) → Paid b c s → Pays b (λ x. length x + c) (Q.extern_fn d s)
  unfolding Q.extern_fn token_cells run_cells
  extern_fn_pays s q =
      then_ok _ _ s (collect_docs_pays s q) (λ n s₁ q₁.
      then_ok _ _ s₁ (reject_kind_pays k_extern 17 s₁ q₁) (λ m s₂ q₂.
      bind_ok _ _ s₂ (take_docs_pays s₂ q₂) (λ docs s₃ q₃.
      then_ok _ _ s₃ (expect_pays k_fn s₃ q₃.0 (omega arith)) (λ x s₄ q₄.
      bind_ok _ _ s₄ (expect_ident_pays s₄ q₄) (λ name s₅ q₅.
      bind_ok _ _ s₅ (parse_args_pays s₅ q₅) (λ args s₆ q₆.
      bind_ok _ _ s₆ (if_kind-ok k_curly_right _ _ s₆ (λ e. supplied_void_pays s₆ q₆) (if_kind-ok k_fn _ _ s₆ (λ e. supplied_void_pays s₆ q₆) (return_type_pays s₆ q₆))) (λ ret s₇ q₇.
      pure-ok _ s₇ (cheaper q₇ (omega arith)))))))))

  parse_extern_pays : {b c : ℕ} (s : State) → Paid b c s → Pays b (λ n. suc c) (Q.parse_extern d s)
  unfolding Q.parse_extern
  parse_extern_pays s q =
      bind_ok _ _ s (take_docs_pays s q) (λ docs s₁ q₁.
      bind_ok _ _ s₁ (expect_pays k_extern s₁ q₁.0 (omega arith)) (λ src s₂ q₂.
      bind_ok _ _ s₂ (if_kind-ok k_s _ _ s₂ (λ k. advance_pays s₂ q₂ (omega arith)) (fail-ok 16 0 s₂ (broke q₂))) (λ name s₃ q₃.
      then_ok _ _ s₃ (expect_pays k_curly_left s₃ q₃ (omega arith)) (λ x s₄ q₄.
      bind_ok _ _ s₄ (list_until_pays k_curly_right _ (λ n s₅ q₅. extern_fn_pays s₅ q₅) (omega arith) s₄ q₄) (λ fns s₅ q₅.
      push_node_pays 0 _ s₅ (cheaper q₅ (omega arith)))))))

  -- ---- match

  default_case_pays : {b : ℕ} (c : ℕ) (cs : Cases) (s : State) → Paid b (length (flatten cs.cases) + c) s → Pays b (λ x. length (flatten x.cases) + c) (Q.default_case d cs s)
  unfolding Q.default_case
  default_case_pays c cs s q = cur-ok _ s (bind_ok _ _ s (parse_body_pays s q) (λ body s₁ q₁. pure-ok _ s₁ (cheaper q₁ (omega arith))))

  condition_case_pays : {b : ℕ} (c : ℕ) (cs : Cases) (s : State) → Paid b (length (flatten cs.cases) + c) s → Pays b (λ x. length (flatten x.cases) + c) (Q.condition_case d cs s)
  unfolding Q.condition_case token_cells run_cells
  condition_case_pays c cs s q =
      cur-ok _ s (bind_ok _ _ s (deep.expr 0 s q) (λ x s₁ q₁.
      bind_ok _ _ s₁ (parse_body_pays s₁ q₁) (λ body s₂ q₂.
      pure-ok _ s₂ (cheaper q₂ (omega (arith, size_snoc cs.cases (token_cells (current s.left) ++ (x.0 ∷ run_cells body))))))))

  next_case_pays : {b : ℕ} (c : ℕ) (cs : Cases) (s : State) → Paid b (length (flatten cs.cases) + c) s → Pays b (λ t. length (flatten (flow_value {A = Cases} t).cases) + c) (Q.next_case d cs s)
  unfolding Q.next_case
  next_case_pays c cs s q =
      if_kind-ok k_eof _ _ s (λ e. pure-ok _ s q) (if_kind-ok k_curly_right _ _ s (λ e. pure-ok _ s q) (
      then_ok _ _ s (note_after_default_pays cs s q) (λ n s₁ q₁.
      bind_ok _ _ s₁ (if_kind-ok k_curly_left _ _ s₁ (λ e. default_case_pays c cs s₁ q₁) (condition_case_pays c cs s₁ q₁)) (λ x s₂ q₂.
      pure-ok _ s₂ q₂))))

  parse_match_pays : {b c : ℕ} (s : State) → Paid b c s → (current s.left).kind ≡ k_match → Pays b (λ n. suc c) (Q.parse_match d s)
  unfolding Q.parse_match flatten
  parse_match_pays {b} {c} s q e =
      then_ok _ _ s (advance_pays s q (omega arith)) (λ x s₁ q₁. cur-ok _ s₁ (
      then_ok _ _ s₁ (expect_pays k_curly_left s₁ q₁ (omega arith)) (λ y s₂ q₂.
      bind_ok _ _ s₂ (loop-ok (λ (cs : Cases) (s₃ : State). Paid b (length (flatten cs.cases) + suc c) s₃) _ (λ cs s₃ q₃. next_case_pays (suc c) cs s₃ q₃) (record { cases = []; default = none }) s₂ (cheaper q₂ (omega arith))) (λ cs s₃ q₃.
      then_ok _ _ s₃ (expect_pays k_curly_right s₃ q₃ (omega arith)) (λ z s₄ q₄.
      bind_ok _ _ s₄ (alloc_slice_pays cs.cases s₄ (cheaper q₄ (omega arith))) (λ r s₅ q₅.
      finish (current s₁.left) r cs.default s₅ q₅))))))
    where
      finish : (x : Token) (r : Run) (o : Option (Token × Run)) (s' : State) → Paid b (suc c) s'
          → Pays b (λ n. suc c) ((elim o as (λ o'. Rule NodeId) [ none ↦ (λ s''. err (R.at_token 18 0 x) s'') | some y ↦ R.push_node (λ id. N.Match id r y.0 y.1) ]) s')
      finish x r none s' q' = fails (broke q')
      finish x r (some y) s' q' = push_node_pays 0 _ s' q'

  parse_prefix_pays : {b c : ℕ} (s : State) → Paid b c s → Pays b (λ n. suc c) (Q.parse_prefix d s)
  unfolding Q.parse_prefix
  parse_prefix_pays s q =
      then_ok _ _ s (collect_docs_pays s q) (λ n s₁ q₁.
      table_ok _ _ s₁
      (entry-ok _ _ _ _ s₁ (λ e. parse_import_pays s₁ q₁ e)
      (entry-ok _ _ _ _ s₁ (λ e. parse_let_pays s₁ q₁)
      (entry-ok _ _ _ _ s₁ (λ e. parse_fn_pays s₁ q₁ e)
      (entry-ok _ _ _ _ s₁ (λ e. parse_extern_pays s₁ q₁)
      (other_ok _ _ s₁ (require_no_docs-ok _ s₁
      (λ z. if_kind-ok k_match _ _ s₁ (λ e. parse_match_pays s₁ q₁ e) (deep.expr 0 s₁ q₁))
      (λ z. broke q₁))))))))

  -- ---- expressions

  field_pays : {b c : ℕ} (s : State) → Paid b c s → Pays b (λ x. length x + c) (Q.field d s)
  unfolding Q.field token_cells
  field_pays s q =
      bind_ok _ _ s (expect_ident_pays s q) (λ name s₁ q₁.
      then_ok _ _ s₁ (expect_pays k_colon s₁ q₁ (omega arith)) (λ x s₂ q₂.
      bind_ok _ _ s₂ (deep.expr 0 s₂ q₂) (λ y s₃ q₃.
      pure-ok _ s₃ (cheaper q₃ (omega arith)))))

  record_literal_pays : {b c : ℕ} (s : State) → Paid b c s → ¬ ((current s.left).kind ≡ k_eof) → Pays b (λ n. suc c) (Q.record_literal d s)
  unfolding Q.record_literal
  record_literal_pays s q e =
      bind_ok _ _ s (advance_pays s q e) (λ src s₁ q₁.
      bind_ok _ _ s₁ (list_until_pays k_curly_right _ (λ n s₂ q₂. field_pays s₂ q₂) (omega arith) s₁ q₁) (λ r s₂ q₂.
      push_node_pays 0 _ s₂ (cheaper q₂ (omega arith))))

  array_literal_pays : {b c : ℕ} (s : State) → Paid b c s → ¬ ((current s.left).kind ≡ k_eof) → Pays b (λ n. suc c) (Q.array_literal d s)
  unfolding Q.array_literal
  array_literal_pays s q e =
      bind_ok _ _ s (advance_pays s q e) (λ src s₁ q₁.
      bind_ok _ _ s₁ (list_until_pays k_braket_right _ (λ n s₂ q₂. node_member_pays _ s₂ (deep.expr 0 s₂ q₂)) (omega arith) s₁ q₁) (λ r s₂ q₂.
      push_node_pays 0 _ s₂ (cheaper q₂ (omega arith))))

  group_pays : {b c : ℕ} (s : State) → Paid b c s → ¬ ((current s.left).kind ≡ k_eof) → Pays b (λ n. suc c) (Q.group d s)
  unfolding Q.group
  group_pays s q e =
      then_ok _ _ s (struck_pays _ s (advance_pays s q e)) (λ x s₁ q₁.
      bind_ok _ _ s₁ (deep.expr 0 s₁ q₁) (λ n s₂ q₂.
      then_ok _ _ s₂ (struck_pays _ s₂ (expect_pays k_brace_right s₂ q₂ (omega arith))) (λ y s₃ q₃.
      pure-ok n s₃ (cheaper q₃ (omega arith)))))

  unary_pays : {b c : ℕ} (s : State) → Paid b c s → ¬ ((current s.left).kind ≡ k_eof) → Pays b (λ n. suc c) (Q.unary d s)
  unfolding Q.unary
  unary_pays s q e =
      bind_ok _ _ s (advance_pays s q e) (λ op s₁ q₁.
      bind_ok _ _ s₁ (deep.expr Q.prefix_power s₁ q₁) (λ rhs s₂ q₂.
      push_node_pays 0 _ s₂ (cheaper q₂ (omega arith))))

  operand_pays : {b c : ℕ} (s : State) → Paid b c s → Pays b (λ n. suc c) (Q.operand d s)
  unfolding Q.operand
  operand_pays s q =
      table_ok _ _ s
      (entry-ok _ _ _ _ s (λ e. record_literal_pays s q (omega arith))
      (entry-ok _ _ _ _ s (λ e. array_literal_pays s q (omega arith))
      (entry-ok _ _ _ _ s (λ e. atom_pays s q (omega arith))
      (entry-ok _ _ _ _ s (λ e. atom_pays s q (omega arith))
      (entry-ok _ _ _ _ s (λ e. atom_pays s q (omega arith))
      (entry-ok _ _ _ _ s (λ e. atom_pays s q (omega arith))
      (entry-ok _ _ _ _ s (λ e. atom_pays s q (omega arith))
      (entry-ok _ _ _ _ s (λ e. ident_pays s q (omega arith))
      (entry-ok _ _ _ _ s (λ e. group_pays s q (omega arith))
      (entry-ok _ _ _ _ s (λ e. unary_pays s q (omega arith))
      (entry-ok _ _ _ _ s (λ e. unary_pays s q (omega arith))
      (other_ok _ _ s (fail-ok 19 0 s (broke q))))))))))))))

  call_pays : {b c : ℕ} (n : NodeId) (s : State) → Paid b c s → ¬ ((current s.left).kind ≡ k_eof) → Pays b (λ m. c) (Q.call d n s)
  unfolding Q.call
  call_pays n s q e =
      then_ok _ _ s (advance_pays s q e) (λ x s₁ q₁.
      bind_ok _ _ s₁ (list_until_pays k_brace_right _ (λ n s₂ q₂. node_member_pays _ s₂ (deep.prefix s₂ q₂)) (omega arith) s₁ q₁) (λ r s₂ q₂.
      bind_ok _ _ s₂ (push_node_pays 0 _ s₂ q₂) (λ m s₃ q₃.
      pure-ok _ s₃ (cheaper q₃ (omega arith)))))

  cast_pays : {b c : ℕ} (n : NodeId) (s : State) → Paid b c s → ¬ ((current s.left).kind ≡ k_eof) → Pays b (λ m. c) (Q.cast d n s)
  unfolding Q.cast
  cast_pays n s q e =
      bind_ok _ _ s (advance_pays s q e) (λ src s₁ q₁.
      bind_ok _ _ s₁ (deep.type s₁ q₁) (λ x s₂ q₂.
      bind_ok _ _ s₂ (push_node_pays 0 _ s₂ q₂) (λ m s₃ q₃.
      pure-ok _ s₃ (cheaper q₃ (omega arith)))))

  binary_pays : {b c : ℕ} (n : NodeId) (p : ℕ) (s : State) → Paid b c s → ¬ ((current s.left).kind ≡ k_eof) → Pays b (λ m. c) (Q.binary d n p s)
  unfolding Q.binary
  binary_pays n p s q e =
      bind_ok _ _ s (advance_pays s q e) (λ op s₁ q₁.
      bind_ok _ _ s₁ (deep.expr (Q.right_power p) s₁ q₁) (λ rhs s₂ q₂.
      bind_ok _ _ s₂ (push_node_pays 0 _ s₂ q₂) (λ m s₃ q₃.
      pure-ok _ s₃ (cheaper q₃ (omega arith)))))

  postfix_pays : {b c : ℕ} (n : NodeId) (s : State) → Paid b c s → Pays b (λ m. c) (Q.postfix d n s)
  unfolding Q.postfix Q.callable
  postfix_pays {b} {c} n s q = loop-ok (λ m s₁. Paid b c s₁) _
      (λ lhs s₁ q₁. if_kind-ok k_dot _ _ s₁ (λ e. field_access_pays lhs s₁ q₁ (omega arith)) (if_kind-ok k_brace_left _ _ s₁
      (λ e. bind_ok _ _ s₁ (callable_pays lhs s₁ q₁ e) (λ z s₂ q₂. called lhs z s₂ q₂.0 q₂.1))
      (pure-ok _ s₁ q₁)))
      n s q
    where
      callable_pays : (lhs : NodeId) (s₁ : State) → Paid b c s₁ → (current s₁.left).kind ≡ k_brace_left → Ends (λ z s₂. Paid b c s₂ × ((current s₂.left).kind ≡ k_brace_left)) (Paid b 0) (Q.callable lhs s₁)
      callable_pays lhs s₁ q₁ e = holds (q₁, e)

      called : (lhs : NodeId) (z : Bool) (s₁ : State) → Paid b c s₁ → (current s₁.left).kind ≡ k_brace_left → Pays b (λ m. c) (elim z as (λ z'. Rule (ControlFlow NodeId)) [ true ↦ Q.call d lhs | false ↦ R.pure (break lhs) ] s₁)
      called lhs true s₁ q₁ e = call_pays lhs s₁ q₁ (omega arith)
      called lhs false s₁ q₁ e = pure-ok _ s₁ q₁

  -- Eof is no infix sign
  module _ (power : ℕ → Option ℕ) (eof : power k_eof ≡ none) (script : List ℕ) where
    infixes_pays : {b c : ℕ} (least : ℕ) (n : NodeId) (s : State) → Paid b c s → Pays b (λ m. c) (Q.infixes d power script least n s)
    unfolding Q.infixes
    infixes_pays {b} {c} least n s q = loop-ok (λ m s₁. Paid b c s₁) _
        (λ lhs s₁ q₁. if_kind-ok k_as _ _ s₁ (λ e. cast_pays lhs s₁ q₁ (omega arith)) (cur-ok _ s₁ (by_power lhs s₁ q₁ (power (current s₁.left).kind) refl)))
        n s q
      where
        by_least : (lhs : NodeId) (p : ℕ) (s₁ : State) → Paid b c s₁ → ¬ ((current s₁.left).kind ≡ k_eof) → (z : Bool) → Pays b (λ m. c) (elim z as (λ z'. Rule (ControlFlow NodeId)) [ true ↦ R.pure (break lhs) | false ↦ Q.binary d lhs p ] s₁)
        by_least lhs p s₁ q₁ e true = pure-ok _ s₁ q₁
        by_least lhs p s₁ q₁ e false = binary_pays lhs p s₁ q₁ e

        by_sign : (lhs : NodeId) (p : ℕ) (s₁ : State) → Paid b c s₁ → ¬ ((current s₁.left).kind ≡ k_eof) → (z : Bool) → Pays b (λ m. c) (elim z as (λ z'. Rule (ControlFlow NodeId)) [ true ↦ R.pure (break lhs) | false ↦ elim (ltb p least) as (λ z'. Rule (ControlFlow NodeId)) [ true ↦ R.pure (break lhs) | false ↦ Q.binary d lhs p ] ] s₁)
        by_sign lhs p s₁ q₁ e true = pure-ok _ s₁ q₁
        by_sign lhs p s₁ q₁ e false = by_least lhs p s₁ q₁ e (ltb p least)

        by_power : (lhs : NodeId) (s₁ : State) → Paid b c s₁ → (o : Option ℕ) → power (current s₁.left).kind ≡ o
            → Pays b (λ m. c) (elim o as (λ o'. Rule (ControlFlow NodeId)) [ none ↦ R.pure (break lhs) | some p ↦ elim (Q.breaks_off script (current s₁.left)) as (λ z'. Rule (ControlFlow NodeId)) [ true ↦ R.pure (break lhs) | false ↦ elim (ltb p least) as (λ z'. Rule (ControlFlow NodeId)) [ true ↦ R.pure (break lhs) | false ↦ Q.binary d lhs p ] ] ] s₁)
        by_power lhs s₁ q₁ none e = pure-ok _ s₁ q₁
        by_power lhs s₁ q₁ (some p) e = by_sign lhs p s₁ q₁ (λ z. none≢some p (sym eof ∙ ap power (sym z) ∙ e)) (Q.breaks_off script (current s₁.left))

    parse_expr_pays : {b c : ℕ} (least : ℕ) (s : State) → Paid b c s → Pays b (λ n. suc c) (Q.parse_expr d power script least s)
    unfolding Q.parse_expr
    parse_expr_pays least s q =
        bind_ok _ _ s (operand_pays s q) (λ x s₁ q₁.
        bind_ok _ _ s₁ (postfix_pays x s₁ q₁) (λ y s₂ q₂.
        infixes_pays least y s₂ q₂))

-- ---- levels

pub readers_pay : (power : ℕ → Option ℕ) → power k_eof ≡ none → (script : List ℕ) (l : ℕ) → ReadersPay (readers power script l)
unfolding readers
readers_pay power eof script zero = record { prefix = λ s q. fail-ok 10 0 s (broke q); expr = λ least s q. fail-ok 10 0 s (broke q); type = λ s q. fail-ok 10 0 s (broke q) }
readers_pay power eof script (suc l) =
    let deep : ReadersPay (readers power script l) = readers_pay power eof script l in
    record { prefix = λ s q. parse_prefix_pays _ deep s q; expr = λ least s q. parse_expr_pays _ deep power eof script least s q; type = λ s q. parse_type_pays _ deep s q }

-- ---- whole readings

-- resynchronising drops docs and takes tokens
synchronize_root_pays : {E : State → Type 0} {b : ℕ} (s : State) → Paid b 0 s → Ends (λ n s'. Paid b 0 s') E (synchronize_root s)
unfolding synchronize_root with_docs
synchronize_root_pays {E} {b} s q = loop-ok (λ n s'. Paid b 0 s') _
    (λ n s₁ q₁. table_ok _ _ s₁
    (entry-ok _ _ _ _ s₁ (λ e. pure-ok _ s₁ q₁)
    (entry-ok _ _ _ _ s₁ (λ e. pure-ok _ s₁ q₁)
    (entry-ok _ _ _ _ s₁ (λ e. pure-ok _ s₁ q₁)
    (entry-ok _ _ _ _ s₁ (λ e. pure-ok _ s₁ q₁)
    (entry-ok _ _ _ _ s₁ (λ e. pure-ok _ s₁ q₁)
    (entry_else _ _ _ _ s₁ (λ e. pure-ok _ s₁ q₁) (λ n₁.
    (entry-ok _ _ _ _ s₁ (λ e. then_ok _ _ s₁ (advance_pays s₁ q₁ (not_kind _ _ n₁)) (λ x s₂ q₂. pure-ok _ s₂ (broke q₂)))
    (other_ok _ _ s₁ (then_ok _ _ s₁ (advance_pays s₁ q₁ (not_kind _ _ n₁)) (λ x s₂ q₂. pure-ok _ s₂ (broke q₂)))))))))))))
    0 (with_docs [] s) (record { ended = q.ended; paid = omega (arith, q.paid) })

module _ (power : ℕ → Option ℕ) (eof : power k_eof ≡ none) (script : List ℕ) where
  -- eight for each token of the script
  abbrev all : ℕ
  all = 8 * length (begin script).left

  begin_paid : Paid all 0 (begin script)
  unfolding begin
  begin_paid = record { ended = (begin_accounted script).ended; paid = omega arith }

  -- Eof is left over, and tokens are at most the bytes and one
  in_bytes : (s : State) → Paid all 0 s → length s.arena.cells ≤ 8 * length script
  in_bytes s q = omega (arith, q.paid, not_empty s.left q.ended, begin-left script, cut_le script)

  parse_roots_pays : Ends (λ roots s. Paid all 0 s) (Paid all 0) (parse_roots power script (begin script))
  unfolding parse_roots
  parse_roots_pays = loop-ok (λ roots s. Paid all 0 s) _
      (λ roots s q. if_kind-ok k_eof _ _ s (λ e. pure-ok _ s q) (bind_ok _ _ s ((readers_pay power eof script max_levels).prefix s q) (λ n s₁ q₁. pure-ok _ s₁ (broke q₁))))
      [] (begin script) begin_paid

  -- a strict reading makes at most eight list cells for each byte
  pub parse-cells : (tree : Tree) → parse power script ≡ read tree [] → length tree.arena.cells ≤ 8 * length script
  unfolding parse
  parse-cells tree e = go (parse_roots power script (begin script)) parse_roots_pays e
    where
      go : (r : Result (List ℕ)) → Ends (λ roots s. Paid all 0 s) (Paid all 0) r → elim r as (λ r'. Reading) [ ok roots s ↦ read (record { arena = s.arena; roots = roots }) [] | err x s ↦ ended x ] ≡ read tree [] → length tree.arena.cells ≤ 8 * length script
      go r (holds {a = roots} {s} q) e = subst (λ (t : Tree). length t.arena.cells ≤ 8 * length script) (read-tree _ tree [] [] e) (in_bytes s q)
      go r (fails {e = x} q) e = ended≢read x tree [] e

  recover_pays : (g : Gathered) (e : Diagnostic) (s : State) → Paid all 0 s → Ends (λ t s'. Paid all 0 s') (Paid all 0) (recover power script g e s)
  unfolding recover
  recover_pays g e s q = go (eqb e.number 10)
    where
      x : Occurrence
      x = record { after = length (begin script).left - length s.left; diagnostic = e }

      go : (z : Bool) → Ends {A = ControlFlow Gathered} (λ t s'. Paid all 0 s') (Paid all 0) (elim z as (λ z'. Result (ControlFlow Gathered)) [ true ↦ err e s | false ↦ (R.◌>>◌ synchronize_root (R.pure (continue (record { roots = g.roots; errors = g.errors ++ (x ∷ []) })))) s ])
      go true = fails q
      go false = then_ok _ _ s (synchronize_root_pays s q) (λ m s₁ q₁. pure-ok _ s₁ q₁)

  parse_roots_collect_pays : Ends (λ g s. Paid all 0 s) (Paid all 0) (parse_roots_collect power script (begin script))
  unfolding parse_roots_collect
  parse_roots_collect_pays = loop-ok (λ g s. Paid all 0 s) _
      (λ g s q. if_kind-ok k_eof _ _ s (λ e. pure-ok _ s q) (go g ((readers power script max_levels).prefix s) ((readers_pay power eof script max_levels).prefix s q)))
      (record { roots = []; errors = [] }) (begin script) begin_paid
    where
      go : (g : Gathered) (r : Result NodeId) → Pays all (λ n. 1) r
          → Ends {A = ControlFlow Gathered} (λ t s'. Paid all 0 s') (Paid all 0) (elim r as (λ r'. Result (ControlFlow Gathered)) [ ok m s₁ ↦ ok (continue (record { roots = g.roots ++ (m.0 ∷ []); errors = g.errors })) s₁ | err e s₁ ↦ recover power script g e s₁ ])
      go g r (holds q) = holds (broke q)
      go g r (fails {e} {s = s₁} q) = recover_pays g e s₁ q

  -- and so does a collecting one
  pub parse_collect-cells : (tree : Tree) (es : List Diagnostic) → parse_collect power script ≡ read tree es → length tree.arena.cells ≤ 8 * length script
  unfolding parse_collect
  parse_collect-cells tree es e = go (parse_roots_collect power script (begin script)) parse_roots_collect_pays e
    where
      fs : List Occurrence
      fs = faults_of 0 (cut script)

      go : (r : Result Gathered) → Ends (λ g s. Paid all 0 s) (Paid all 0) r
          → elim r as (λ r'. Reading) [ ok g s ↦ read (record { arena = s.arena; roots = g.roots }) (merged (length fs + length g.errors) fs g.errors) | err x s ↦ ended x ] ≡ read tree es → length tree.arena.cells ≤ 8 * length script
      go r (holds {a = g} {s} q) e = subst (λ (t : Tree). length t.arena.cells ≤ 8 * length script) (read-tree _ tree _ es e) (in_bytes s q)
      go r (fails {e = x} q) e = ended≢read x tree es e
