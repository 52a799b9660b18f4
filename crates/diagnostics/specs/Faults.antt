-- The faults that are met before a token, and those behind it.
use Rattle.std.specs.Prelude.{true, false, List, [], ◌∷◌, map, ℕ, leb}
use Rattle.lex.specs.Lex.{Occurrence}
use Rattle.lex.specs.declared.diagnostic.Diagnostic.{Diagnostic}

abbrev pub diagnostics_in : List Occurrence → List Diagnostic
diagnostics_in os = map (λ (o : Occurrence). o.diagnostic) os

-- those with at most `at` tokens before them, up to the first with more
unfoldable pub early : ℕ → List Occurrence → List Occurrence
early at [] = []
early at (o ∷ os) = elim (leb o.after at) [ true ↦ o ∷ early at os | false ↦ [] ]

-- and the others
unfoldable pub late : ℕ → List Occurrence → List Occurrence
late at [] = []
late at (o ∷ os) = elim (leb o.after at) [ true ↦ late at os | false ↦ o ∷ os ]
