-- An error that ends a reading is one of 10 to 23; so the number 0 stands for a tree.
use mathlib.Core.Path.{◌≡◌, sym, subst}
use mathlib.Core.Bool.{Bool, true, false}
use mathlib.Core.Option.{Option}
use mathlib.Core.List.{List, [], ◌∷◌, ◌++◌}
use Prim.Native.Nat.{ℕ, ◌+◌, ◌≤◌}
use lib.Dec.{eqb}
use lib.ListN.{length}
use Rattle.lex.specs.Lex.{Occurrence, cut, faults_of}
use Rattle.lex.specs.declared.diagnostic.Diagnostic.{Diagnostic}
use Rattle.rules.specs.Tree.{Arena, Result, ok, err}
use Rattle.rules.specs.Combinators as R
use Rattle.rules.specs.Combinators.{ControlFlow, continue}
use Rattle.rules.specs.Rules.{readers, max_levels}
use Rattle.rules.specs.Parse.{Reading, read, ended, begin, synchronize_root, Gathered, merged, recover, parse, parse_roots, parse_collect, parse_roots_collect}
use Rattle.ast.specs.declared.NodeId.{NodeId}
use Rattle.lex.specs.declared.tok.Token.{Token}
use Rattle.rules.proofs.Counting.Whole.{ended≢read}
use Rattle.rules.proofs.Preserves as Pr
use Rattle.rules.proofs.Preserves.{StepsPreserve, EndsAt, well, badly, Preserves, entry, entries[]}

-- of any state
abbrev Any : List Token → Arena → Type 0
Any l m = Unit {0}

any : StepsPreserve Any
any = record { token = λ l m p. p; node = λ l m x values p. p; type = λ l m x p. p; list = λ l m cs p. p }

abbrev pub IsError : Diagnostic → Type 0
IsError e = (10 ≤ e.number) × (e.number ≤ 23)

module _ (power : ℕ → Option ℕ) (script : List ℕ) where
  root : Preserves Any (readers power script max_levels).prefix
  root = (Pr.all_preserve Any any power script max_levels).prefix

  roots : Preserves Any (parse_roots power script)
  unfolding parse_roots
  roots = Pr.repeat Any any (λ ns. Pr.branch Any any _ (Pr.value Any any _) (Pr.bind Any any root (λ n. Pr.value Any any _))) []

  -- ---- collecting

  synchronize : Preserves Any synchronize_root
  unfolding synchronize_root R.with_docs
  synchronize s p = Pr.repeat Any any (λ n. Pr.table Any any
      (entry (Pr.value Any any _) (entry (Pr.value Any any _) (entry (Pr.value Any any _) (entry (Pr.value Any any _) (entry (Pr.value Any any _) (entry (Pr.value Any any _)
      (entry (Pr.sequence Any any (Pr.advance_preserves Any any) (Pr.value Any any _)) entries[])))))))
      (Pr.sequence Any any (Pr.advance_preserves Any any) (Pr.value Any any _))) 0 _ p

  recovers : (g : Gathered) (e : Diagnostic) → IsError e → Preserves Any (recover power script g e)
  unfolding recover
  recovers g e known s p = go _ (eqb e.number 10)
    where
      go : (x : Occurrence) (b : Bool) → EndsAt Any {A = ControlFlow Gathered} (elim b as (λ b'. Result (ControlFlow Gathered)) [ true ↦ err e s | false ↦ (R.◌>>◌ synchronize_root (R.pure (continue (record { roots = g.roots; errors = g.errors ++ (x ∷ []) })))) s ])
      go x true = badly tt known.0 known.1
      go x false = Pr.sequence Any any synchronize (Pr.value Any any _) s tt

  gathers : Preserves Any (parse_roots_collect power script)
  unfolding parse_roots_collect
  gathers = Pr.repeat Any any (λ g. Pr.branch Any any _ (Pr.value Any any _) (λ s p. go g ((readers power script max_levels).prefix s) (root s p))) _
    where
      go : (g : Gathered) (r : Result NodeId) → EndsAt Any r → EndsAt Any {A = ControlFlow Gathered} (elim r as (λ r'. Result (ControlFlow Gathered)) [
        | ok m s₁ ↦ ok (continue (record { roots = g.roots ++ (m.0 ∷ []); errors = g.errors })) s₁
        | err e s₁ ↦ recover power script g e s₁
      ])
      go g r (well p) = well tt
      go g r (badly {e} {s = s₁} p least most) = recovers g e (least, most) s₁ tt

  -- ---- both modes

  ended_with : (d e : Diagnostic) → ended d ≡ ended e → d ≡ e
  ended_with d e p = cc

  pub parse-error : (e : Diagnostic) → parse power script ≡ ended e → IsError e
  unfolding parse
  parse-error e = go (parse_roots power script (begin script)) (roots (begin script) tt)
    where
      go : (r : Result (List ℕ)) → EndsAt Any r → elim r as (λ r'. Reading) [ ok ns s ↦ read (record { arena = s.arena; roots = ns }) [] | err d s ↦ ended d ] ≡ ended e → IsError e
      go r (well p) h = ended≢read e _ _ (sym h)
      go r (badly {e = d} p least most) h = subst IsError (ended_with d e h) (least, most)

  pub parse_collect-error : (e : Diagnostic) → parse_collect power script ≡ ended e → IsError e
  unfolding parse_collect
  parse_collect-error e = go (parse_roots_collect power script (begin script)) (gathers (begin script) tt)
    where
      fs : List Occurrence
      fs = faults_of 0 (cut script)

      go : (r : Result Gathered) → EndsAt Any r → elim r as (λ r'. Reading) [ ok g s ↦ read (record { arena = s.arena; roots = g.roots }) (merged (length fs + length g.errors) fs g.errors) | err d s ↦ ended d ] ≡ ended e → IsError e
      go r (well p) h = ended≢read e _ _ (sym h)
      go r (badly {e = d} p least most) h = subst IsError (ended_with d e h) (least, most)
