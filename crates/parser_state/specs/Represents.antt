-- The lent arrays and the parser hold a state of the rules.
use Rattle.std.specs.Prelude.{Option, None, Some, Result, Ok, Err, is_none, ◌≡◌, ℕ, suc, ◌+◌, ◌*◌, ◌<◌, ◌≤◌, Bool, true, false, List, [], ◌∷◌, ◌++◌, map, reverse, length, ◌==◌}
use Rattle.std.specs.Borrow.{GName}
use mathlib.Core.List.{flatten}
use Rattle.lex.specs.Kind.{k_eof}
use Rattle.lex.specs.declared.diagnostic.Diagnostic.{Diagnostic}
use Rattle.lex.specs.declared.tok.Token.{Token}
use Rattle.tokens.specs.Table.{token_of, token_at, tokens_from}
use Rattle.tokens.specs.declared.Entry.{Entry}
use Rattle.rules.specs.Tree.{State}
use Rattle.ast.specs.Layout.{token_cells, node_width, type_width, cells_per_byte, node_cells, type_cells}
use Rattle.lex.specs.Answer.{max_bytes}
use Rattle.ast.specs.declared.Node.{Node}
use Rattle.ast.specs.declared.TypeExpr.{TypeExpr}
use Rattle.parser_state.specs.declared.Parser.{Parser}
use Rattle.parser_state.specs.declared.Used.{Used}

-- ---- the code and the state

abbrev pub is_going : Option Diagnostic → Bool
is_going e = is_none e

abbrev pub Going : Option Diagnostic
Going = None

abbrev pub Failed : Diagnostic → Option Diagnostic
Failed e = Some e

-- the token being read and the number of its record, what is used, and the error
pub record Reading : Type 0 where
  pub cur : Entry
  pub at : ℕ
  pub used : Used
  pub error : Option Diagnostic

-- the references that the arrays are lent by
pub record Names : Type 0 where
  pub nodes : GName
  pub types : GName
  pub lists : GName

-- all that the code changes
pub record Code : Type 0 where
  pub nodes : List ℕ
  pub types : List ℕ
  pub lists : List ℕ
  pub parser : Reading
  pub names : Names

-- what stays of the arrays whatever is written: the references that they are lent by, and their
-- lengths
pub record Loan : Type 0 where
  pub names : Names
  pub nodes : ℕ
  pub types : ℕ
  pub lists : ℕ

abbrev pub loan : Code → Loan
loan s = record { names = s.names; nodes = length s.nodes; types = length s.types; lists = length s.lists }

-- what is said of the loan: that the arrays stay those that were lent, or as long too
pub data Kept : Type 0 where
  AsNamed : Kept
  AsLent : Kept

abbrev pub KeptOf : Kept → Type 0
KeptOf AsNamed = Names
KeptOf AsLent = Loan

abbrev pub kept_of : (kept : Kept) → Loan → KeptOf kept
kept_of AsNamed lent = lent.names
kept_of AsLent lent = lent

abbrev pub reading : Parser → Reading
reading p = record { cur = p.cur; at = p.at; used = p.used; error = Going }

abbrev pub code_of : Parser → Code
code_of p = record {
  nodes = p.nodes.now;
  types = p.types.now;
  lists = p.lists.now;
  parser = reading p;
  names = record { nodes = p.nodes.ghost_name; types = p.types.ghost_name; lists = p.lists.ghost_name };
}

abbrev pub with_token : Code → Entry → ℕ → Code
with_token s t at = record s { parser = record { cur = t; at = at; used = s.parser.used; error = s.parser.error } }

abbrev pub with_used : Code → Used → Code
with_used s u = record s { parser = record { cur = s.parser.cur; at = s.parser.at; used = u; error = s.parser.error } }

abbrev pub with_error : Code → Option Diagnostic → Code
with_error s e = record s { parser = record { cur = s.parser.cur; at = s.parser.at; used = s.parser.used; error = e } }

abbrev pub with_nodes : Code → List ℕ → Code
with_nodes s xs = record s { nodes = xs }

abbrev pub with_types : Code → List ℕ → Code
with_types s xs = record s { types = xs }

abbrev pub with_lists : Code → List ℕ → Code
with_lists s xs = record s { lists = xs }

-- the error that a call has answered, if any
abbrev pub error_of : {A : Type 0} → Result A Diagnostic → Option Diagnostic
error_of (Ok a) = Going
error_of (Err e) = Failed e

-- the code with what a call has answered: an error is the reading's
abbrev pub code_after : {A : Type 0} → Parser → Result A Diagnostic → Code
code_after p r = with_error (code_of p) (error_of r)

abbrev pub going : Code → Bool
going s = is_going s.parser.error

-- where a record of so many cells goes that has `made` before it: nowhere, if the reading has failed
-- or there is no room among `len` cells
abbrev pub IsPlace : Code → ℕ → ℕ → ℕ → Option ℕ → Type 0
IsPlace s made width len None = going s ≡ true → made < max_bytes → width * made + width ≤ len → ⊥
IsPlace s made width len (Some at) = (going s ≡ true) × (made < max_bytes) × (at ≡ width * made) × (at + width ≤ len)

-- a token and those behind record `at` of the table
unfoldable pub from : List ℕ → Token → ℕ → List Token
from tokens t at = elim (t.kind == k_eof) [ true ↦ t ∷ [] | false ↦ t ∷ tokens_from tokens (suc at) ]

-- the tokens that are left
abbrev pub ahead : List ℕ → Code → List Token
ahead tokens s = from tokens (token_of s.parser.cur) s.parser.at

-- a token of a script starts in it
abbrev pub Near : Token → Type 0
Near t = t.start ≤ max_bytes

-- the cells of pending docs, in the order in which they were met
abbrev pub doc_cells : List Token → List ℕ
doc_cells docs = flatten (map token_cells docs)

abbrev pub AllNear : List Token → Type 0
AllNear [] = Unit {0}
AllNear (d ∷ ds) = Near d × AllNear ds

-- The arrays as a state has them: records or cells in front, then whatever lies there, and at the
-- far end what grows downward, the last cell first: behind the types the pending docs, behind the
-- lists the cells of those under construction.
pub record NodesLaid (nodes : List ℕ) (count values : ℕ) (arena : List Node) (given : ℕ) : Type 0 where
  pub between : List ℕ
  pub laid : nodes ≡ flatten (map node_cells arena) ++ (between ++ [])
  pub counted : count ≡ length arena
  pub valued : values ≡ given

pub record TypesLaid (types : List ℕ) (count docCount : ℕ) (arena : List TypeExpr) (docs : List Token) : Type 0 where
  pub between : List ℕ
  pub laid : types ≡ flatten (map type_cells arena) ++ (between ++ reverse (doc_cells docs))
  pub counted : count ≡ length arena
  pub doc_counted : docCount ≡ length docs
  pub near : AllNear docs

pub record ListsLaid (lists : List ℕ) (count scratch : ℕ) (cells stack : List ℕ) : Type 0 where
  pub between : List ℕ
  pub laid : lists ≡ cells ++ (between ++ reverse stack)
  pub counted : count ≡ length cells
  pub stacked : scratch ≡ length stack

-- What is left to spend, `n` being the bytes of the script: each of the `left` tokens has room for
-- a record and for eight list cells; `r` more records and `l` more list cells have room besides. A
-- pending doc has a record's place, and three list cells are kept for it. A cell under construction
-- counts twice, for it is copied before it is cleared. A record has 40,000 value numbers.
pub record Credit (n : ℕ) (u : Used) (left r l : ℕ) : Type 0 where
  pub records : u.nodes + u.types + u.docs + left + r ≤ n + 1
  pub numbers : u.values + 40000 * (u.types + u.docs + left + r) ≤ 40000 * (n + 1)
  pub room : u.cells + 2 * u.scratch + 3 * u.docs + cells_per_byte * left + l ≤ cells_per_byte * n + cells_per_byte

-- enough is lent for a script of `n` bytes
pub record EnoughLent (n : ℕ) (ns ts ls : List ℕ) : Type 0 where
  pub small : n ≤ max_bytes
  pub nodes : node_width * n ≤ length ns
  pub types : type_width * n ≤ length ts
  pub lists : cells_per_byte * n ≤ length ls

-- the arrays and the tokens that are left are those of a state
pub record Related (tokens : List ℕ) (s : Code) (r l : ℕ) (stack : List ℕ) (m : State) : Type 0 where
  pub left : m.left ≡ ahead tokens s
  pub here : token_of s.parser.cur ≡ token_at tokens s.parser.at
  pub near : (i : ℕ) → Near (token_at tokens i)
  pub taken : length m.left + s.parser.at ≡ length (tokens_from tokens 0)
  pub few : length (tokens_from tokens 0) ≤ max_bytes + 1
  pub nodes : NodesLaid s.nodes s.parser.used.nodes s.parser.used.values m.arena.nodes m.arena.values
  pub types : TypesLaid s.types s.parser.used.types s.parser.used.docs m.arena.types m.docs
  pub lists : ListsLaid s.lists s.parser.used.cells s.parser.used.scratch m.arena.cells stack
  pub bytes : ℕ
  pub credit : Credit bytes s.parser.used (length m.left) r l
  pub lent : EnoughLent bytes s.nodes s.types s.lists

pub record Represents (tokens : List ℕ) (s : Code) (r l : ℕ) (stack : List ℕ) (m : State) : Type 0 where
  pub status : s.parser.error ≡ Going
  pub related : Related tokens s r l stack m

-- a reading has failed; what was under construction still lies there
pub record FailedAt (tokens : List ℕ) (s : Code) (e : Diagnostic) (r l : ℕ) (stack : List ℕ) (m : State) : Type 0 where
  pub status : s.parser.error ≡ Failed e
  pub over : List ℕ
  pub related : Related tokens s r l (stack ++ over) m
