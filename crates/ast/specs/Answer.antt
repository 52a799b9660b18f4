-- What is lent, and when a call is refused for it.
use Rattle.std.specs.Prelude.{List, ℕ, zero, suc, ◌*◌, ltb, length, take, Result, Ok, Err}
use Rattle.ast.specs.Layout.{node_width, type_width, cells_per_byte}
use Rattle.lex.specs.Answer.{max_bytes, Answer, refused}
use Rattle.lex.specs.Refusals.{r_too_long, r_too_short, number}
use Rattle.lex.specs.declared.diagnostic.Refusal.{Refusal}
use Rattle.ast.specs.declared.Counts.{Counts}
use Rattle.ast.specs.declared.lent.Tree.{Tree}
use Rattle.lex.specs.Bytes.{if}

-- a number other than 0 refuses
unfoldable pub unless : {A : Type 0} → ℕ → Answer A → Answer A
unless zero a = a
unless (suc n) a = refused (suc n)

-- ---- what is lent

pub record Lent : Type 0 where
  pub script : List ℕ
  pub nodes : List ℕ
  pub types : List ℕ
  pub lists : List ℕ
  pub roots : List ℕ
  pub counts : Counts

abbrev pub lent : List ℕ → List ℕ → List ℕ → List ℕ → List ℕ → Counts → Lent
lent script nodes types lists roots counts =
    record {
      script = script;
      nodes = nodes;
      types = types;
      lists = lists;
      roots = roots;
      counts = counts;
    }

-- what a tree of the code is lent in
abbrev pub lent_of : Tree → Lent
lent_of t = lent t.script.now t.nodes.now t.types.now t.lists.now t.roots.now t.counts

-- 1: the script is too long; 2: an array has fewer cells than each byte of it needs; 0: neither
unfoldable pub refusal : Lent → ℕ
refusal l =
    let n = length l.script in
    if (ltb max_bytes n) r_too_long
    (if (ltb (length l.nodes) (node_width * n)) r_too_short
    (if (ltb (length l.types) (type_width * n)) r_too_short
    (if (ltb (length l.lists) (cells_per_byte * n)) r_too_short
    (if (ltb (length l.roots) n) r_too_short 0))))

-- the list cells in use
abbrev pub cells_of : Lent → List ℕ
cells_of l = take l.counts.cells l.lists

-- the number of a refusal, 0 where nothing is refused
abbrev pub refusal_number : Result Unit Refusal → ℕ
refusal_number (Ok u) = 0
refusal_number (Err r) = number r
