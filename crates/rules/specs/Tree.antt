-- The tree of a reading, and the state while it grows.
use Rattle.std.specs.Prelude.{Bool, List, [], ℕ}
use Rattle.lex.specs.declared.diagnostic.Diagnostic.{Diagnostic}
use Rattle.lex.specs.declared.tok.Token.{Token}
use Rattle.ast.specs.declared.Node.{Node}
use Rattle.ast.specs.declared.TypeExpr.{TypeExpr}

-- what a reading makes: node and type records, the cells of the lists that they name by runs, and
-- how many value numbers are given out
pub record Arena : Type 0 where
  pub nodes : List Node
  pub types : List TypeExpr
  pub cells : List ℕ
  pub values : ℕ

abbrev pub empty_arena : Arena
empty_arena = record { nodes = []; types = []; cells = []; values = 0 }

-- what unique reading asks of a script, which no array holds: for each token taken whether it is
-- kept, and how many blocks of a match follow its default
pub record Notes : Type 0 where
  pub marks : List Bool
  pub after_default : ℕ

-- the tokens that are left, Eof last; the docs that wait; what is made; the notes
pub record State : Type 0 where
  pub left : List Token
  pub docs : List Token
  pub arena : Arena
  pub notes : Notes

-- how a rule ends
pub data Result (A : Type 0) : Type 0 where
  ok : A → State → Result A
  err : Diagnostic → State → Result A

-- the whole tree of a script
pub record Tree : Type 0 where
  pub arena : Arena
  pub roots : List ℕ
