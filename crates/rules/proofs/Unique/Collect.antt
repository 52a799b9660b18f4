-- Collecting mode: its trees have shapes, as those of strict mode have. A root that fails adds
-- records behind those that are there, and so takes no shape away.
use mathlib.Core.Path.{◌≡◌, refl, sym, ap, ◌∙◌, subst}
use mathlib.Core.Bool.{Bool, true, false}
use mathlib.Core.Option.{Option, none, some}
use mathlib.Core.List.{List, [], ◌∷◌, ◌++◌, append-nil}
use Prim.Native.Nat.{ℕ, ◌+◌}
use lib.Dec.{eqb}
use lib.ListN.{length}
use Rattle.lex.specs.Kind.{k_eof}
use Rattle.lex.specs.Lex.{Occurrence, cut, faults_of}
use Rattle.lex.specs.declared.diagnostic.Diagnostic.{Diagnostic}
use Rattle.lex.specs.declared.tok.Token.{Token}
use Rattle.rules.specs.Tree.{Arena, State, Result, ok, err, Tree}
use Rattle.rules.specs.Combinators as R
use Rattle.rules.specs.Combinators.{rest, with_docs, ControlFlow, continue}
use Rattle.rules.specs.Rules.{readers, max_levels}
use Rattle.rules.specs.Parse.{Reading, read, ended, begin, synchronize_root, Gathered, merged, recover, parse_collect, parse_roots_collect}
use Rattle.rules.specs.Shape.{Shape, Shapes, no_shape, shape, node_shape_at, shape_of}
use Rattle.ast.specs.declared.NodeId.{NodeId}
use Rattle.rules.proofs.Results.{Ends, holds, fails, both, if_kind-ok, table_ok, entry-ok, other_ok, then_ok, pure-ok, flow_value, loop-ok}
use Rattle.rules.proofs.Preserves.{StepsPreserve, readers_preserve}
use Rattle.rules.proofs.Counting.Whole.{read-tree, ended≢read}
use Rattle.rules.proofs.Counting.Collect.{turn}
use Rattle.rules.proofs.Unique.Grow.{Grows, extend, grows_refl, grows_trans}
use Rattle.rules.proofs.Unique.Step.{AllShaped, Holds, TokensOk, NoDocBeforeImport, Invariant, NodeDone, fold}
use Rattle.rules.proofs.Unique.Whole.{readers-ok, Are, are[], are_snoc, are_mono, are_each, begin_invariant}

module _ (script : List ℕ) where
  -- ---- what a root leaves, whether it ends well or fails

  -- the arena has grown from `m`, and the tokens are as they should be
  record Extends (m : Arena) (l : List Token) (m' : Arena) : Type 0 where
    pub grows : Grows script m m'
    pub tokens_ok : TokensOk script (NoDocBeforeImport script) l

  tokens_ok_rest : (D : Type 0) (l : List Token) → TokensOk script D l → TokensOk script D (rest l)
  unfolding rest
  tokens_ok_rest D [] g = g
  tokens_ok_rest D (t ∷ []) g = g
  tokens_ok_rest D (t ∷ (u ∷ ts)) g = g.2

  steps_extend : (m : Arena) → StepsPreserve (Extends m)
  steps_extend m = record {
    token = λ l m₁ q. record { grows = q.grows; tokens_ok = tokens_ok_rest _ l q.tokens_ok };
    node = λ l m₁ x values q. record { grows = grows_trans script q.grows (extend script m₁ _ [] [] (x ∷ []) (sym (append-nil _)) (sym (append-nil _)) refl); tokens_ok = q.tokens_ok };
    type = λ l m₁ x q. record { grows = grows_trans script q.grows (extend script m₁ _ [] (x ∷ []) [] (sym (append-nil _)) refl (sym (append-nil _))); tokens_ok = q.tokens_ok };
    list = λ l m₁ cs q. record { grows = grows_trans script q.grows (extend script m₁ _ cs [] [] refl (sym (append-nil _)) (sym (append-nil _))); tokens_ok = q.tokens_ok };
  }

  -- ---- resynchronising

  record Resumes (m : Arena) (s : State) : Type 0 where
    pub grows : Grows script m s.arena
    pub invariant : Invariant script s

  advance-resumes : (m : Arena) (s : State) → Resumes m s → Holds script (λ t s'. Resumes m s') (R.advance s)
  unfolding R.advance
  advance-resumes m s q = holds (record { grows = q.grows; invariant = record { docs = q.invariant.docs; tokens_ok = tokens_ok_rest _ s.left q.invariant.tokens_ok; docs_well_formed = q.invariant.docs_well_formed; all_shaped = q.invariant.all_shaped } })

  -- the docs that wait are dropped, so that what a root begins with holds again
  synchronize_root-resumes : (m : Arena) (s : State) → Extends m s.left s.arena → AllShaped script s.arena → Holds script (λ n s'. Resumes m s') (synchronize_root s)
  unfolding synchronize_root with_docs
  synchronize_root-resumes m s q all = loop-ok (λ n s₁. Resumes m s₁) _
      (λ n s₁ r. table_ok _ _ s₁
      (entry-ok _ _ _ _ s₁ (λ e. pure-ok _ s₁ r)
      (entry-ok _ _ _ _ s₁ (λ e. pure-ok _ s₁ r)
      (entry-ok _ _ _ _ s₁ (λ e. pure-ok _ s₁ r)
      (entry-ok _ _ _ _ s₁ (λ e. pure-ok _ s₁ r)
      (entry-ok _ _ _ _ s₁ (λ e. pure-ok _ s₁ r)
      (entry-ok _ _ _ _ s₁ (λ e. pure-ok _ s₁ r)
      (entry-ok _ _ _ _ s₁ (λ e. passes _ s₁ r)
      (other_ok _ _ s₁ (passes _ s₁ r))))))))))
      0 (with_docs [] s) (record { grows = q.grows; invariant = record { docs = λ D. refl; tokens_ok = q.tokens_ok; docs_well_formed = tt; all_shaped = all } })
    where
      passes : (t : ControlFlow ℕ) (s₁ : State) → Resumes m s₁ → Holds script (λ x s₂. Resumes m s₂) (R.◌>>◌ R.advance (R.pure t) s₁)
      passes t s₁ r = then_ok _ _ s₁ (advance-resumes m s₁ r) (λ x s₂ z. pure-ok _ s₂ z)

  -- ---- the roots

  record RootsShaped (roots : List ℕ) (s : State) : Type 0 where
    pub values : List Shape
    pub are : Are (node_shape_at script s.arena) roots values
    pub invariant : Invariant script s

  module _ (power : ℕ → Option ℕ) (eof : power k_eof ≡ none) where
    abbrev Shaped : Gathered → State → Type 0
    Shaped g s = RootsShaped g.roots s

    recover_shaped : (g : Gathered) (e : Diagnostic) (s s₁ : State) → Shaped g s → Extends s.arena s₁.left s₁.arena → AllShaped script s₁.arena → Holds script (λ t s'. Shaped (flow_value t) s') (recover power script g e s₁)
    unfolding recover
    recover_shaped g e s s₁ q z all = go _ (eqb e.number 10)
      where
        go : (x : Occurrence) (b : Bool) → Holds script (λ t s'. Shaped (flow_value t) s') (elim b as (λ b'. Result (ControlFlow Gathered)) [ true ↦ err e s₁ | false ↦ (R.◌>>◌ synchronize_root (R.pure (continue (record { roots = g.roots; errors = g.errors ++ (x ∷ []) })))) s₁ ])
        go x true = fails all
        go x false = then_ok _ _ s₁ (synchronize_root-resumes s.arena s₁ z all) (λ n s₂ r. pure-ok _ s₂ (record { values = q.values; are = are_mono r.grows.nodes q.are; invariant = r.invariant }))

    turn_shaped : (g : Gathered) (s : State) → Shaped g s → Holds script (λ t s'. Shaped (flow_value t) s') (turn power eof script g s)
    turn_shaped g s q = if_kind-ok k_eof _ _ s (λ e. pure-ok _ s q)
        (go ((readers power script max_levels).prefix s) (both ((readers-ok power eof script max_levels).prefix s q.invariant) ((readers_preserve (Extends s.arena) (steps_extend s.arena) power script max_levels).prefix s (record { grows = grows_refl script s.arena; tokens_ok = q.invariant.tokens_ok }))))
      where
        go : (r : Result NodeId) → Ends (λ n s₁. NodeDone script s n s₁ × Extends s.arena s₁.left s₁.arena) (λ s₁. AllShaped script s₁.arena × Extends s.arena s₁.left s₁.arena) r
            → Holds script (λ t s'. Shaped (flow_value t) s') (elim r as (λ r'. Result (ControlFlow Gathered)) [ ok m s₁ ↦ ok (continue (record { roots = g.roots ++ (m.0 ∷ []); errors = g.errors })) s₁ | err e s₁ ↦ recover power script g e s₁ ])
        go r (holds z) = holds (record { values = q.values ++ (z.0.shape ∷ []); are = are_snoc _ _ (are_mono z.0.consumed.grows.nodes q.are) z.0.is; invariant = z.0.consumed.invariant })
        go r (fails {e} {s = s₁} z) = recover_shaped g e s s₁ q z.1 z.0

    parse_roots_collect_shaped : Holds script Shaped (parse_roots_collect power script (begin script))
    unfolding parse_roots_collect
    parse_roots_collect_shaped = loop-ok Shaped (turn power eof script) turn_shaped (record { roots = []; errors = [] }) (begin script) (record { values = []; are = are[]; invariant = begin_invariant script })

module _ (power : ℕ → Option ℕ) (eof : power k_eof ≡ none) (script : List ℕ) (tree : Tree) where
  -- every tree that collecting mode returns has a shape
  pub shaped_collect : (es : List Diagnostic) → parse_collect power script ≡ read tree es → (σs : Shapes) × (shape_of script tree ≡ some σs)
  unfolding parse_collect shape_of
  shaped_collect es e = go (parse_roots_collect power script (begin script)) (parse_roots_collect_shaped script power eof) e
    where
      fs : List Occurrence
      fs = faults_of 0 (cut script)

      go : (r : Result Gathered) → Holds script (λ g s. RootsShaped script g.roots s) r
          → elim r as (λ r'. Reading) [ ok g s ↦ read (record { arena = s.arena; roots = g.roots }) (merged (length fs + length g.errors) fs g.errors) | err x s ↦ ended x ] ≡ read tree es → (σs : Shapes) × (shape_of script tree ≡ some σs)
      go r (holds {a = g} {s} q) e = (fold no_shape shape q.values, ap (shape_of script) (sym (read-tree _ tree _ es e)) ∙ are_each q.are)
      go r (fails {e = x} u) e = ended≢read x tree es e

  -- and so has every record of it, orphans included
  pub all_shaped_collect : (es : List Diagnostic) → parse_collect power script ≡ read tree es → AllShaped script tree.arena
  unfolding parse_collect
  all_shaped_collect es e = go (parse_roots_collect power script (begin script)) (parse_roots_collect_shaped script power eof) e
    where
      fs : List Occurrence
      fs = faults_of 0 (cut script)

      go : (r : Result Gathered) → Holds script (λ g s. RootsShaped script g.roots s) r
          → elim r as (λ r'. Reading) [ ok g s ↦ read (record { arena = s.arena; roots = g.roots }) (merged (length fs + length g.errors) fs g.errors) | err x s ↦ ended x ] ≡ read tree es → AllShaped script tree.arena
      go r (holds {a = g} {s} q) e = subst (λ (t : Tree). AllShaped script t.arena) (read-tree _ tree _ es e) q.invariant.all_shaped
      go r (fails {e = x} u) e = ended≢read x tree es e
