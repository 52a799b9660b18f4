-- What tokens and faults are in text.
use Rattle.std.specs.Prelude.{List, ℕ, ◌++◌, codes, decimal}
use Rattle.lex.specs.declared.tok.Token.{Token}
use Rattle.lex.specs.declared.tok.Fault.{Fault}
use Rattle.lex.specs.Kind.{kind_name}

-- a number behind a blank
abbrev pub spaced : ℕ → List ℕ
spaced n = codes " " ++ decimal n

-- the name of the kind, the start and the length; a number that is no kind has no name
abbrev pub token_text : Token → List ℕ
token_text t = codes "(" ++ (kind_name t.kind ++ (spaced t.start ++ (spaced t.len ++ codes ")")))

-- the five numbers; a fault wants nothing
abbrev pub fault_text : Fault → List ℕ
fault_text e =
    codes "(diag"
    ++ (spaced e.number ++ (spaced e.start ++ (spaced e.len ++ (codes " 0" ++ (spaced e.seen ++ codes ")")))))
