-- What the two readings promise: for every script and all lent arrays, the answer and what the
-- arrays hold.
use Rattle.std.specs.Prelude.{Bool, true, false, ℕ, ◌*◌, ltb, length}
use mathlib.Core.List.{List, map, flatten}
use Rattle.lex.specs.Answer.{max_bytes}
use Rattle.lex.specs.Bytes.{or}
use Rattle.lex.specs.declared.diagnostic.Diagnostic.{Diagnostic}
use Rattle.rules.specs.Tree.{Tree}
use Rattle.rules.specs.Parse.{Reading, read, ended}
use Rattle.ast.specs.Layout.{node_width, type_width, diagnostic_width, cells_per_byte, zeros, padded}
use Rattle.ast.specs.Layout.{node_cells, type_cells, diagnostic_cells}
use Rattle.lex.specs.Refusals.{r_too_long, r_too_short}
use Rattle.ast.specs.declared.Counts.{Counts}
use Rattle.rules.specs.Parsed.{Parsed}
use Rattle.rules.specs.Parsed as P

-- the five arrays
pub record Arrays : Type 0 where
  pub nodes : List ℕ
  pub types : List ℕ
  pub lists : List ℕ
  pub roots : List ℕ
  pub diagnostics : List ℕ

-- one of them has fewer cells than the script's bytes ask for
unfoldable pub too_short : List ℕ → Arrays → Bool
too_short script l =
    let n = length script in
    or (ltb (length l.nodes) (node_width * n))
    (or (ltb (length l.types) (type_width * n))
    (or (ltb (length l.lists) (cells_per_byte * n))
    (or (ltb (length l.roots) n)
    (ltb (length l.diagnostics) (diagnostic_width * n)))))

abbrev pub arrays_of : List ℕ → List ℕ → List ℕ → List ℕ → List ℕ → Arrays
arrays_of nodes types lists roots diagnostics = record { nodes = nodes; types = types; lists = lists; roots = roots; diagnostics = diagnostics }

unfoldable pub zeroed : Arrays → Arrays
zeroed l = record {
  nodes = zeros (length l.nodes);
  types = zeros (length l.types);
  lists = zeros (length l.lists);
  roots = zeros (length l.roots);
  diagnostics = zeros (length l.diagnostics);
}

unfoldable pub holding : Tree → List Diagnostic → Arrays → Arrays
holding t es l = record {
  nodes = padded (length l.nodes) (flatten (map node_cells t.arena.nodes));
  types = padded (length l.types) (flatten (map type_cells t.arena.types));
  lists = padded (length l.lists) t.arena.cells;
  roots = padded (length l.roots) t.roots;
  diagnostics = padded (length l.diagnostics) (flatten (map diagnostic_cells es));
}

-- an answer, and the arrays as it leaves them
pub record Outcome : Type 0 where
  pub answer : Parsed
  pub arrays : Arrays

unfoldable pub outcome : Reading → Arrays → Outcome
outcome (read t es) l = record {
  answer = P.Tree (record { nodes = length t.arena.nodes; types = length t.arena.types; cells = length t.arena.cells; roots = length t.roots; values = t.arena.values; diagnostics = length es });
  arrays = holding t es l;
}
outcome (ended e) l = record { answer = P.Error e; arrays = zeroed l }

-- 1 is tested first, then 2; neither changes an array
unfoldable pub promised : (List ℕ → Reading) → List ℕ → Arrays → Outcome
promised how script l =
    elim (ltb max_bytes (length script)) [
      | true ↦ record { answer = P.Refused r_too_long; arrays = l }
      | false ↦
          elim (too_short script l) [
            | true ↦ record { answer = P.Refused r_too_short; arrays = l }
            | false ↦ outcome (how script) l
          ]
    ]

-- ---- document 01's number and values for each case of an answer

pub record Numbers : Type 0 where
  -- 0 for a tree, else the refusal or the error
  pub number : ℕ
  pub error : Diagnostic
  pub counts : Counts

abbrev pub no_error : Diagnostic
no_error = record { number = 0; start = 0; len = 0; wanted = 0; seen = 0 }

abbrev pub no_counts : Counts
no_counts = record { nodes = 0; types = 0; cells = 0; roots = 0; values = 0; diagnostics = 0 }

-- without a tree all counts are 0; with 1 and 2 only the number is returned
unfoldable pub numbers_of : Parsed → Numbers
numbers_of (P.Tree c) = record { number = 0; error = no_error; counts = c }
numbers_of (P.Error e) = record { number = e.number; error = e; counts = no_counts }
numbers_of (P.Refused n) = record { number = n; error = no_error; counts = no_counts }
