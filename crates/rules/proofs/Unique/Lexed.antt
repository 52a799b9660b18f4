-- A script's tokens are as unique reading needs them: Eof last and nowhere else, each well formed,
-- no Doc before an import.
use mathlib.Core.Path.{◌≡◌, refl, sym, subst}
use mathlib.Core.Bool.{Bool, true, false}
use mathlib.Core.List.{List, [], ◌∷◌}
use Prim.Native.Nat.{ℕ}
use lib.Dec.{eqb, T}
use borrow.Author.Tests.{le-leb}
use Rattle.lex.specs.Bytes.{between}
use Rattle.lex.specs.Kind.{k_import, k_doc}
use Rattle.lex.specs.Spelling.{has_spelling, spelling_start, well_formed}
use Rattle.lex.specs.declared.tok.Token.{Token}
use Rattle.lex.proofs.Spellings.{Spelled, spelling-found, Ended}
use Rattle.rules.specs.Strike.{no_doc_before_import}
use Rattle.rules.specs.Shape.{word}
use Rattle.rules.proofs.Results.{not_kind}
use Rattle.rules.proofs.Unique.Step.{WellFormed, TokensOk}

both_tests : (a b c : Bool) → a ≡ true → (b ≡ true → c ≡ true) → elim a as (λ a'. Bool) [ true ↦ elim b as (λ b'. Bool) [ true ↦ c | false ↦ true ] | false ↦ false ] ≡ true
both_tests true true c h k = k refl
both_tests true false c h k = refl
both_tests false b c h k = h

module _ (script : List ℕ) (t : Token) (spelled : Spelled script t) where
  known : between 1 43 t.kind ≡ true
  unfolding between
  known = rw (le-leb 1 t.kind spelled.least, le-leb t.kind 43 spelled.greatest, between)

  passes : well_formed script t ≡ true
  unfolding well_formed
  passes = both_tests (between 1 43 t.kind) (has_spelling t.kind) _ known (λ e. le-leb _ _ (spelling-found script t (spelling_start script t) (spelled.within e)).1)

  well_formed_lem : WellFormed script t
  unfolding word
  well_formed_lem = rw (passes, word)

pub tokens-ok : (script : List ℕ) (D : Type 0) (l : List Token) → Ended script l → (D → no_doc_before_import l ≡ true) → TokensOk script D l
unfolding no_doc_before_import
tokens-ok script D [] e h = e
tokens-ok script D (t ∷ []) e h = (e.0, well_formed_lem script t e.1)
tokens-ok script D (t ∷ (u ∷ ts)) e h = (e.0, (λ x. (both (eqb t.kind k_doc) refl (eqb u.kind k_import) refl (h x)).0), tokens-ok script D (u ∷ ts) e.1 (λ x. (both (eqb t.kind k_doc) refl (eqb u.kind k_import) refl (h x)).1), well_formed_lem script t e.2)
  where
    both : (a : Bool) → eqb t.kind k_doc ≡ a → (b : Bool) → eqb u.kind k_import ≡ b
        → elim a as (λ a'. Bool) [ true ↦ elim b as (λ x. Bool) [ true ↦ false | false ↦ no_doc_before_import (u ∷ ts) ] | false ↦ no_doc_before_import (u ∷ ts) ] ≡ true
        → (t.kind ≡ k_doc → ¬ (u.kind ≡ k_import)) × (no_doc_before_import (u ∷ ts) ≡ true)
    both true p true q z = absurd (subst T (sym z) tt)
    both true p false q z = (λ k. not_kind _ _ q, z)
    both false p b q z = (λ k. absurd (not_kind _ _ p k), z)
