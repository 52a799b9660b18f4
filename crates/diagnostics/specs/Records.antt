-- The diagnostics array: a record is pushed behind those in use.
use Rattle.std.specs.Prelude.{◌≡◌, true, false, ℕ, ◌+◌, ◌*◌, leb, ltb, length, take, drop}
use mathlib.Core.List.{List, ◌++◌, map, flatten}
use Rattle.lex.specs.declared.diagnostic.Diagnostic.{Diagnostic}
use Rattle.ast.specs.Layout.{diagnostic_width, diagnostic_cells}

-- the array's cells, and how many of its records are in use
pub record Diagnostics : Type 0 where
  pub cells : List ℕ
  pub count : ℕ

abbrev pub diagnostics : List ℕ → ℕ → Diagnostics
diagnostics cells n = record { cells = cells; count = n }

-- an array that holds `ds`, whatever lies behind them
pub record Holding (a : Diagnostics) (ds : List Diagnostic) : Type 0 where
  pub behind : List ℕ
  pub laid : a.cells ≡ flatten (map diagnostic_cells ds) ++ behind
  pub counted : a.count ≡ length ds

-- the greatest count, for it has 32 bits
abbrev pub max_count : ℕ
max_count = 4294967295

-- one record more, where it has room and can be counted
unfoldable pub pushed : Diagnostics → Diagnostic → Diagnostics
pushed a d =
    elim (ltb a.count max_count) [
      | true ↦ elim (leb (diagnostic_width * a.count + diagnostic_width) (length a.cells)) [
        | true ↦
            let at = diagnostic_width * a.count in
            diagnostics
            (take at a.cells ++ diagnostic_cells d ++ drop (at + diagnostic_width) a.cells)
            (a.count + 1)
        | false ↦ a
      ]
      | false ↦ a
    ]
