-- Steps as numbers.
use Rattle.std.specs.Prelude.{true, false, List, [], ◌∷◌, ◌++◌, ℕ, leb, length, drop}
use Rattle.lex.specs.declared.tok.Step.{Step}

-- 0 for a token, 1 for a fault, 2 for the end; its kind or number, start, length and seen byte; the
-- next position
abbrev pub cells_of : Step → List ℕ
cells_of (Step.Token t next) = 0 ∷ t.kind ∷ t.start ∷ t.len ∷ 0 ∷ next ∷ []
cells_of (Step.Fault e next) = 1 ∷ e.number ∷ e.start ∷ e.len ∷ e.seen ∷ next ∷ []
cells_of (Step.End at) = 2 ∷ 0 ∷ at ∷ 0 ∷ 0 ∷ at ∷ []

-- six cells stored at the front, if there is room
unfoldable pub put_cells : List ℕ → List ℕ → List ℕ
put_cells cells out = elim (leb 6 (length out)) [ true ↦ cells ++ drop 6 out | false ↦ out ]
