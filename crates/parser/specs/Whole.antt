-- What reading the roots of a whole script comes to.
use Rattle.std.specs.Prelude.{◌≡◌, Bool, true, false, not, ◌&&◌, ℕ, ◌+◌, ◌*◌, ◌≤◌, eqb, ltb, length, take, set}
use mathlib.Core.List.{List, [], ◌∷◌, ◌++◌, map, flatten}
use Rattle.lex.specs.Answer.{max_bytes}
use Rattle.lex.specs.Bytes.{or}
use Rattle.lex.specs.Cells.{padded}
use Rattle.lex.specs.Kind.{k_eof, k_import, k_extern, k_let, k_fn, k_match, k_curly_right}
use Rattle.lex.specs.Refusals.{r_too_long, r_too_short, r_not_cut}
use Rattle.lex.specs.declared.diagnostic.Diagnostic.{Diagnostic}
use Rattle.tokens.specs.Tables.{token_width, error_width, token_table, is_cut}
pub use Rattle.tokens.specs.Tables.{behind}
use Rattle.tokens.specs.Table.{token_of, token_at}
use Rattle.rules.specs.Tree.{State, Result, ok, err}
use Rattle.rules.specs.Combinators.{Rule, ◌>>=◌, pure, if_kind, with_docs, ControlFlow, continue, break, loop}
use Rattle.rules.specs.Rules.{max_levels}
use Rattle.rules.specs.Parse.{synchronize_step}
use Rattle.ast.specs.Layout.{node_width, type_width, diagnostic_width, cells_per_byte, node_cells, type_cells}
use Rattle.parser_state.specs.Represents.{Reading, Going, Failed, Code, Kept, AsLent, kept_of, loan, ahead, is_going, EnoughLent, Represents, FailedAt}
use Rattle.parser_state.specs.Refines.{rules_of, deeper}

-- the number of a refusal, or 0, for a script of `n` bytes and the lengths of the arrays and tables
unfoldable pub refusal : ℕ → ℕ → ℕ → ℕ → ℕ → ℕ → ℕ → ℕ → ℕ
refusal n nodes types lists roots diagnostics tokens errors =
    elim (ltb max_bytes n) [
      | true ↦ r_too_long
      | false ↦ elim (or (or (ltb nodes (node_width * n)) (or (ltb types (type_width * n)) (or (ltb lists (cells_per_byte * n)) (or (ltb roots n) (ltb diagnostics (diagnostic_width * n)))))) (or (ltb tokens (token_width * n + token_width)) (ltb errors (error_width * n)))) [ true ↦ r_too_short | false ↦ 0 ]
    ]

-- the same, and 43 where the tables are not the script's
unfoldable pub not_read : List ℕ → List ℕ → List ℕ → ℕ → ℕ → ℕ → ℕ → ℕ → ℕ
not_read script tokens errors nodes types lists roots diagnostics =
    let n = refusal (length script) nodes types lists roots diagnostics (length tokens) (length errors) in
    elim (eqb n 0) [ true ↦ elim (is_cut script tokens errors) [ true ↦ 0 | false ↦ r_not_cut ] | false ↦ n ]

-- enough is lent, and the token table is the script's
pub record Begun (script tokens ns ts ls rs : List ℕ) : Type 0 where
  pub lent : EnoughLent (length script) ns ts ls
  pub roots : length script ≤ length rs
  pub tabled : tokens ≡ padded (length tokens) (token_table script)

-- a parser at the first token of a table
pub record FirstToken (tokens : List ℕ) (p : Reading) : Type 0 where
  pub cur : token_of p.cur ≡ token_at tokens 0
  pub at : p.at ≡ 0
  pub used : p.used ≡ record { nodes = 0; values = 0; types = 0; docs = 0; cells = 0; scratch = 0 }
  pub error : p.error ≡ Going

-- the code behind the roots, and how many there are
pub record RootsRead : Type 0 where
  pub code : Code
  pub members : ℕ

-- one more root
abbrev pub root_step : List ℕ → List ℕ → Rule (ControlFlow (List ℕ))
root_step script roots = if_kind k_eof (pure (break roots)) ((deeper (rules_of script) max_levels).prefix >>= (λ n. pure (continue (roots ++ (n.0 ∷ [])))))

-- the array holds `n` roots, each of which took a token
pub record RootsAre (script tokens array : List ℕ) (n : ℕ) (s : Code) (xs : List ℕ) : Type 0 where
  pub held : take n array ≡ xs
  pub counted : length xs ≡ n
  pub few : length xs + length (ahead tokens s) ≤ length script + 1

-- one more root is pushed: there is a cell behind the `n` that are there
unfoldable pub has_cell : ℕ → List ℕ → Bool
has_cell n roots = ltb n (length roots) && ltb n max_bytes

-- the array and the count, by whether it is
pub record RootPushed (roots : List ℕ) (n id : ℕ) (roots' : List ℕ) (n' : ℕ) : Type 0 where
  pub pushed : has_cell n roots ≡ true → (roots' ≡ set roots n id) × (n' ≡ n + 1)
  pub left_out : has_cell n roots ≡ false → (roots' ≡ roots) × (n' ≡ n)

-- docs that are still pending are dropped
unfoldable pub drop_docs : Rule ℕ
drop_docs = λ s. ok 0 (with_docs [] s)

-- the used parts of the arrays, and the counts, are a tree's
pub record Holds (roots : List ℕ) (r : RootsRead) (xs : List ℕ) (m : State) : Type 0 where
  pub going : r.code.parser.error ≡ Going
  pub nodes_held : take (node_width * r.code.parser.used.nodes) r.code.nodes ≡ flatten (map node_cells m.arena.nodes)
  pub types_held : take (type_width * r.code.parser.used.types) r.code.types ≡ flatten (map type_cells m.arena.types)
  pub lists_held : take r.code.parser.used.cells r.code.lists ≡ m.arena.cells
  pub roots_held : take r.members roots ≡ xs
  pub node_count : r.code.parser.used.nodes ≡ length m.arena.nodes
  pub type_count : r.code.parser.used.types ≡ length m.arena.types
  pub cell_count : r.code.parser.used.cells ≡ length m.arena.cells
  pub value_count : r.code.parser.used.values ≡ m.arena.values
  pub root_count : r.members ≡ length xs

-- by how the rule ends
abbrev pub RootsEnd : List ℕ → RootsRead → Result (List ℕ) → Type 0
RootsEnd roots r (ok xs m) = Holds roots r xs m
RootsEnd roots r (err e m) = r.code.parser.error ≡ Failed e

-- ---- after an error

-- a failed reading, whatever is under construction, goes on at the same token with nothing under
-- construction and no pending docs
pub record ResumesBy (kept : Kept) (tokens : List ℕ) (s s' : Code) : Type 0 where
  pub lent : kept_of kept (loan s') ≡ kept_of kept (loan s)
  pub same : ahead tokens s' ≡ ahead tokens s
  pub resumes : (e : Diagnostic) (R L : ℕ) (stack : List ℕ) (m : State) → FailedAt tokens s e R L stack m → Represents tokens s' R L [] (with_docs [] m)

abbrev pub Resumes : (tokens : List ℕ) (s s' : Code) → Type 0
Resumes tokens s s' = ResumesBy AsLent tokens s s'

-- what may begin a root, or ends a block or the script
unfoldable pub root_boundary : ℕ → Bool
root_boundary k = or (eqb k k_let) (or (eqb k k_fn) (or (eqb k k_import) (or (eqb k k_extern) (or (eqb k k_match) (or (eqb k k_eof) (eqb k k_curly_right))))))

-- the token being read is passed over
unfoldable pub skips : Reading → Bool
skips p = is_going p.error && not (root_boundary p.cur.kind)

-- `synchronize_root` where no docs are pending
unfoldable pub synchronizing : Rule ℕ
synchronizing = loop synchronize_step 0
