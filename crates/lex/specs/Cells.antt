-- Cells of a lent array: zeros behind what is written, and the five of an error.
use Rattle.std.specs.Prelude.{List, [], ◌∷◌, ◌++◌, ℕ, ◌+◌, ◌-◌, length, get_or, replicate}
use Rattle.lex.specs.declared.diagnostic.Diagnostic.{Diagnostic}

abbrev pub zeros : ℕ → List ℕ
zeros n = replicate n 0

-- zeros behind, up to a length
abbrev pub padded : ℕ → List ℕ → List ℕ
padded n xs = xs ++ zeros (n - length xs)

-- the cells of an error, and the error that cells have from a place on
unfoldable pub diagnostic_cells : Diagnostic → List ℕ
diagnostic_cells e = e.number ∷ e.start ∷ e.len ∷ e.wanted ∷ e.seen ∷ []

abbrev pub diagnostic_at : List ℕ → ℕ → Diagnostic
diagnostic_at cs j = record {
  number = get_or cs j 0;
  start = get_or cs (j + 1) 0;
  len = get_or cs (j + 2) 0;
  wanted = get_or cs (j + 3) 0;
  seen = get_or cs (j + 4) 0;
}
