-- Worked examples of the definitions, which antt computes.
-- Assumes nothing.
use mathlib.Core.Path.{◌≡◌, refl}
use mathlib.Core.List.{List, [], ◌∷◌, foldl}
use Prim.Native.Nat.{ℕ}
use Rattle.lex.specs.Lex.{Occurrence}
use Rattle.lex.specs.declared.diagnostic.Diagnostic.{Diagnostic}
use Rattle.ast.specs.Layout.{diagnostic_cells}
use Rattle.diagnostics.specs.Records.{diagnostics, pushed}
use Rattle.diagnostics.specs.Faults.{diagnostics_in, early, late}

-- an unknown `$`
abbrev unknown : ℕ → Diagnostic
unknown at = record { number = 33; start = at; len = 1; wanted = 0; seen = 36 }

-- before any token, before token 1 and before token 3
abbrev faults_met : List Occurrence
faults_met = record { after = 0; diagnostic = unknown 0 } ∷ record { after = 1; diagnostic = unknown 4 } ∷ record { after = 3; diagnostic = unknown 8 } ∷ []

pub faults :
    (diagnostics_in (early 0 faults_met) ≡ unknown 0 ∷ [])
    × (diagnostics_in (early 2 faults_met) ≡ unknown 0 ∷ unknown 4 ∷ [])
    × (diagnostics_in (late 2 faults_met) ≡ unknown 8 ∷ [])
    × (late 3 faults_met ≡ [])
unfolding early late
faults = (refl, refl, refl, refl)

pub pushes :
    -- a record in six cells; three in eleven, of which the last has no room
    (pushed (diagnostics (7 ∷ 7 ∷ 7 ∷ 7 ∷ 7 ∷ 7 ∷ []) 0) (unknown 4) ≡ diagnostics (33 ∷ 4 ∷ 1 ∷ 0 ∷ 36 ∷ 7 ∷ []) 1)
    × (foldl pushed (diagnostics (0 ∷ 0 ∷ 0 ∷ 0 ∷ 0 ∷ 0 ∷ 0 ∷ 0 ∷ 0 ∷ 0 ∷ 0 ∷ []) 0) (unknown 0 ∷ unknown 4 ∷ unknown 8 ∷ [])
    ≡ diagnostics (33 ∷ 0 ∷ 1 ∷ 0 ∷ 36 ∷ 33 ∷ 4 ∷ 1 ∷ 0 ∷ 36 ∷ 0 ∷ []) 2)
unfolding pushed diagnostic_cells
pushes = (refl, refl)
