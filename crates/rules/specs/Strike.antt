-- Unique reading: scripts of one shape are, but for what is struck out, one list of words.
use Rattle.std.specs.Prelude.{◌≡◌, Bool, true, false, List, [], ◌∷◌, map, ℕ, eqb}
use Rattle.std.proofs.Math.Option.{Option}
use Rattle.lex.specs.Kind.{k_eof, k_import, k_doc}
use Rattle.lex.specs.Lex.{cut, tokens_of}
use Rattle.rules.specs.Tree.{Notes, ok, err, Tree}
use Rattle.rules.specs.Parse.{read, begin, parse, parse_roots}
use Rattle.rules.specs.Shape.{Word, word_of, shape_of}
use Rattle.lex.specs.declared.tok.Token.{Token}

-- the words whose mark is true; what has no mark, as Eof, is kept
unfoldable pub keep : List Bool → List Word → List Word
keep [] ws = ws
keep (b ∷ bs) [] = []
keep (b ∷ bs) (w ∷ ws) = elim b [ true ↦ w ∷ keep bs ws | false ↦ keep bs ws ]

-- no Doc stands right before an Import (right before Eof none is accepted)
unfoldable pub no_doc_before_import : List Token → Bool
no_doc_before_import [] = true
no_doc_before_import (t ∷ []) = true
no_doc_before_import (t ∷ (u ∷ ts)) = elim (eqb t.kind k_doc) [
  | true ↦ elim (eqb u.kind k_import) [ true ↦ false | false ↦ no_doc_before_import (u ∷ ts) ]
  | false ↦ no_doc_before_import (u ∷ ts)
]

-- the user's condition on docs: no Doc stands right before an Import or Eof. Of an accepted script
-- it says no more (`no-doc-same`)
unfoldable pub no_doc_before_import_or_eof : List Token → Bool
no_doc_before_import_or_eof [] = true
no_doc_before_import_or_eof (t ∷ []) = true
no_doc_before_import_or_eof (t ∷ (u ∷ ts)) = elim (eqb t.kind k_doc) [
  | true ↦ elim (eqb u.kind k_import) [ true ↦ false | false ↦ elim (eqb u.kind k_eof) [ true ↦ false | false ↦ no_doc_before_import_or_eof (u ∷ ts) ] ]
  | false ↦ no_doc_before_import_or_eof (u ∷ ts)
]

-- `power` has the infix signs: `stage_one`, or more
module _ (power : ℕ → Option ℕ) where
  -- the notes of a strict reading
  unfoldable pub notes_of : List ℕ → Notes
  notes_of script = elim (parse_roots power script (begin script)) [ ok roots s ↦ s.notes | err e s ↦ s.notes ]

  -- what striking leaves of a script's tokens
  unfoldable pub strike : List ℕ → List Word
  strike script = keep (notes_of script).marks (map (word_of script) (tokens_of (cut script)))

  -- strict mode accepts the script with this tree, no Doc stands right before an Import, and each
  -- match has one default, written last
  pub record Plain (script : List ℕ) (tree : Tree) : Type 0 where
    pub accepted : parse power script ≡ read tree []
    pub docs : no_doc_before_import (tokens_of (cut script)) ≡ true
    pub matches : (notes_of script).after_default ≡ 0

  -- demand 3: scripts of one shape are the same words, but for what is struck out
  abbrev pub UniqueReading : Type 0
  UniqueReading = (s₁ s₂ : List ℕ) (t₁ t₂ : Tree) → Plain s₁ t₁ → Plain s₂ t₂ → shape_of s₁ t₁ ≡ shape_of s₂ t₂ → strike s₁ ≡ strike s₂
