-- Worked examples of what a reading promises, computed: the arrays of docs/LAYOUT.md's example, an
-- error, both refusals.
use mathlib.Core.Path.{◌≡◌, refl}
use mathlib.Core.List.{◌∷◌, ◌++◌, flatten}
use Prim.Native.Nat.{ℕ, ◌+◌, ◌*◌}
use Prim.Native.String.{String}
use lib.ListN.{replicate}
use Rattle.lex.specs.Bytes.{or}
use Rattle.ast.specs.Layout.{token_cells, run_cells, node_cells, type_cells, diagnostic_cells}
use Rattle.rules.specs.Promise.{Arrays, Outcome, too_short, zeroed, holding, outcome, promised}
use Rattle.rules.specs.Parsed.{Parsed}
use Rattle.rules.specs.Parsed as P
use Rattle.rules.proofs.Compute.{bytes, computed}

-- arrays as a script of `n` bytes needs them, the nodes `more` cells longer, every cell the same
abbrev pub filled : ℕ → ℕ → ℕ → Arrays
filled cell n more = record {
  nodes = replicate (16 * n + more) cell;
  types = replicate (8 * n) cell;
  lists = replicate (8 * n) cell;
  roots = replicate n cell;
  diagnostics = replicate (5 * n) cell;
}

-- one cell short for three bytes
abbrev pub one_short : Arrays
one_short = record { nodes = replicate 47 7; types = replicate 24 7; lists = replicate 24 7; roots = replicate 3 7; diagnostics = replicate 15 7 }

-- what is promised of the strict reading, for a text
abbrev pub strict : String → Arrays → Outcome
strict text = promised (λ script. (computed text).strict) (bytes text)

abbrev pub result : Parsed → Arrays → Outcome
result answer arrays = record { answer = answer; arrays = arrays }

abbrev pub counts : ℕ → ℕ → ℕ → ℕ → ℕ → Parsed
counts nodes types cells roots values = P.Tree (record { nodes = nodes; types = types; cells = cells; roots = roots; values = values; diagnostics = 0 })

pub examples :
    -- docs/LAYOUT.md: ten bytes, lent exactly enough and full of sevens
    (strict "let x = -1" (filled 7 10 0) ≡ result (counts 3 0 0 1 3) (record {
      nodes = (1 ∷ 0 ∷ 24 ∷ 9 ∷ 1 ∷ replicate 11 0) ++ (4 ∷ 1 ∷ 5 ∷ 8 ∷ 1 ∷ 0 ∷ replicate 10 0) ++ (5 ∷ 2 ∷ 0 ∷ 0 ∷ 25 ∷ 4 ∷ 1 ∷ 1 ∷ replicate 8 0) ++ replicate 112 0;
      types = replicate 80 0;
      lists = replicate 80 0;
      roots = 2 ∷ replicate 9 0;
      diagnostics = replicate 50 0;
    }))
    -- every lent cell is zero after an error
    × (strict "let" (filled 7 3 5) ≡ result (P.Error (record { number = 12; start = 3; len = 3; wanted = 0; seen = 1 })) (filled 0 3 5))
    -- one cell short: 2, and nothing changes
    × (strict "let" one_short ≡ result (P.Refused 2) one_short)
    -- one byte too long: 1, before the arrays are looked at
    × (promised (λ script. (computed "let").strict) (replicate 65537 97) (filled 7 0 0) ≡ result (P.Refused 1) (filled 7 0 0))
unfolding computed bytes or flatten token_cells run_cells node_cells type_cells diagnostic_cells too_short zeroed holding outcome promised
examples = (refl, refl, refl, refl)
