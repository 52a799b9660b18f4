-- What a function promises of the arrays that it takes holds whatever the others hold.
use Rattle.std.specs.Prelude.{Option, None, Some, Result, ℕ, List}
use Rattle.lex.specs.declared.diagnostic.Diagnostic.{Diagnostic}
use Rattle.rules.specs.Combinators.{Rule}
use Rattle.parser_state.specs.Members.{Calls}
use Rattle.parser_state.specs.Refines.{ReadsMemberBy}
use Rattle.parser_state.specs.Represents.{Code, Kept, code_of, code_after}
use Rattle.parser_state.specs.declared.Parser.{Parser}
use Rattle.std.specs.Borrow.{MutBor}

-- an array in the place of the parser's own, if there is one
abbrev pub or_own : Option (List ℕ) → List ℕ → List ℕ
or_own None own = own
or_own (Some other) own = other

-- the code with other nodes, types and lists, each where one is given
abbrev pub lending : Option (List ℕ) → Option (List ℕ) → Option (List ℕ) → Code → Code
lending nodes types lists s = record { nodes = or_own nodes s.nodes; types = or_own types s.types; lists = or_own lists s.lists; parser = s.parser; names = s.names }

-- what holds of the code before and after a call
abbrev pub Run : Type 1
Run = Code → Code → Type 0

-- no array is taken
abbrev pub AnyArrays : Run → Run
AnyArrays run s s' = (nodes types lists : Option (List ℕ)) → run (lending nodes types lists s) (lending nodes types lists s')

-- the nodes alone are taken
abbrev pub AnyTypesLists : Run → Run
AnyTypesLists run s s' = (types lists : Option (List ℕ)) → run (lending None types lists s) (lending None types lists s')

-- the types alone
abbrev pub AnyNodesLists : Run → Run
AnyNodesLists run s s' = (nodes lists : Option (List ℕ)) → run (lending nodes None lists s) (lending nodes None lists s')

-- the lists alone
abbrev pub AnyNodesTypes : Run → Run
AnyNodesTypes run s s' = (nodes types : Option (List ℕ)) → run (lending nodes types None s) (lending nodes types None s')

-- types and lists
abbrev pub AnyNodes : Run → Run
AnyNodes run s s' = (nodes : Option (List ℕ)) → run (lending nodes None None s) (lending nodes None None s')

-- nodes and lists
abbrev pub AnyTypes : Run → Run
AnyTypes run s s' = (types : Option (List ℕ)) → run (lending None types None s) (lending None types None s')

-- a closure reads a member by the rule, whatever the nodes and types hold
abbrev pub ReadsEachAny : Kept → List ℕ → Rule (List ℕ) → Option (List ℕ) → Option (List ℕ) → Calls → Type 0
ReadsEachAny kept tokens item nodes types post = (u : MutBor Parser) (r : Result (Unit {0}) Diagnostic) (v : MutBor Parser) → post u r v → ReadsMemberBy kept tokens item (lending nodes types None (code_of u.now)) (lending nodes types None (code_after v.now r))
