-- P1 to P12 of document 01.
use mathlib.Core.Path.{◌≡◌, refl}
use mathlib.Core.List.{List, [], ◌∷◌}
use Prim.Native.Nat.{ℕ}
use Prim.Native.String.{String}
use Rattle.lex.specs.Kind.{k_plus, k_minus, k_curly_left, k_not_equal, k_i, k_ident, k_doc, k_as, k_int}
use Rattle.lex.specs.declared.diagnostic.Diagnostic.{Diagnostic}
use Rattle.lex.specs.declared.tok.Token.{Token}
use Rattle.rules.specs.Parse.{Reading, read, ended}
use Rattle.ast.specs.declared.Run.{Run}
use Rattle.ast.specs.declared.NodeId.{NodeId}
use Rattle.ast.specs.declared.TypeExprId.{TypeExprId}
use Rattle.ast.specs.declared.Node.{Node}
use Rattle.ast.specs.declared.Node.TheVariants.{Atom, Ident, Bin, Unary, Let, Match, Call, Field, Cast}
use Rattle.ast.specs.declared.TypeExpr.{TypeExpr}
use Rattle.ast.specs.declared.TypeExpr.TheVariants as T
use Rattle.rules.proofs.Compute.{computed}

abbrev strict : String → Reading
strict text = (computed text).strict

abbrev collecting : String → Reading
collecting text = (computed text).collecting

-- both modes accept, with one tree
abbrev Both : String → (List Diagnostic → Reading) → Type 0
Both text r = (strict text ≡ r []) × (collecting text ≡ r [])

-- nodes, types, list cells, values and roots; the errors gathered
abbrev tree : List Node → List TypeExpr → List ℕ → ℕ → List ℕ → List Diagnostic → Reading
tree nodes types cells values roots errors = read (record { arena = record { nodes = nodes; types = types; cells = cells; values = values }; roots = roots }) errors

-- number, span and seen kind; none of these has a wanted kind
abbrev diag : ℕ → ℕ → ℕ → ℕ → Diagnostic
diag number start len seen = record { number = number; start = start; len = len; wanted = 0; seen = seen }

abbrev tok : ℕ → ℕ → ℕ → Token
tok kind start len = record { kind = kind; start = start; len = len }

-- a name of one letter
abbrev name : ℕ → Token
name start = tok k_ident start 1

abbrev at : ℕ → NodeId
at i = record { 0 = i }

abbrev type : ℕ → TypeExprId
type i = record { 0 = i }

abbrev run : ℕ → ℕ → Run
run start len = record { start = start; len = len }

pub table :
    -- P1: empty
    Both "" (tree [] [] [] 0 [])
    -- P2
    × Both "a -b" (tree (Ident 0 (name 0) ∷ Ident 1 (name 3) ∷ Unary 2 (tok k_minus 2 1) (at 1) ∷ []) [] [] 3 (0 ∷ 2 ∷ []))
    -- P3
    × Both "a - b" (tree (Ident 0 (name 0) ∷ Ident 1 (name 4) ∷ Bin 2 (tok k_minus 2 1) (at 0) (at 1) ∷ []) [] [] 3 (2 ∷ []))
    -- P4
    × Both "a + b as Int" (tree (Ident 0 (name 0) ∷ Ident 1 (name 4) ∷ Cast 2 (tok k_as 6 2) (at 1) (type 0) ∷ Bin 3 (tok k_plus 2 1) (at 0) (at 2) ∷ []) (T.Atom (tok k_int 9 3) ∷ []) [] 4 (3 ∷ []))
    -- P5
    × Both "f (a) (b)" (tree (Ident 0 (name 0) ∷ Ident 1 (name 3) ∷ Call 2 (at 0) (run 0 1) ∷ Ident 3 (name 7) ∷ []) [] (1 ∷ []) 4 (2 ∷ 3 ∷ []))
    -- P6
    × (strict "a != b" ≡ ended (diag 19 2 2 k_not_equal))
    × (collecting "a != b" ≡ tree (Ident 0 (name 0) ∷ []) [] [] 1 (0 ∷ []) (diag 19 2 2 k_not_equal ∷ []))
    -- P7
    × (strict "match {}" ≡ ended (diag 18 6 1 k_curly_left))
    × (collecting "match {}" ≡ tree [] [] [] 0 [] (diag 18 6 1 k_curly_left ∷ []))
    -- P8
    × Both "match {{a} {b}}" (tree (Ident 0 (name 8) ∷ Ident 1 (name 12) ∷ Match 2 (run 2 0) (tok k_curly_left 11 1) (run 1 1) ∷ []) [] (0 ∷ 1 ∷ []) 3 (2 ∷ []))
    -- P9
    × Both "-a as Int.b" (tree (Ident 0 (name 1) ∷ Cast 1 (tok k_as 3 2) (at 0) (type 0) ∷ Unary 2 (tok k_minus 0 1) (at 1) ∷ Field 3 (at 2) (name 10) ∷ []) (T.Atom (tok k_int 6 3) ∷ []) [] 4 (3 ∷ []))
    -- P10
    × (strict "extern \"p\" {fn\na() #! d\nfn\nb()}" ≡ ended (diag 23 19 1 k_doc))
    -- P11
    × (strict "let 1 let x = 2" ≡ ended (diag 12 4 1 k_i))
    × (collecting "let 1 let x = 2" ≡ tree (Atom 0 (tok k_i 14 1) ∷ Let 1 (run 0 0) (name 10) (at 0) ∷ []) [] [] 2 (1 ∷ []) (diag 12 4 1 k_i ∷ []))
    -- P12: the seen kind of 33 is the byte
    × (strict "$" ≡ tree [] [] [] 0 [] [])
    × (collecting "$" ≡ tree [] [] [] 0 [] (diag 33 0 1 36 ∷ []))
unfolding computed
table = ((refl, refl), (refl, refl), (refl, refl), (refl, refl), (refl, refl), refl, refl, refl, refl, (refl, refl), (refl, refl), refl, refl, refl, refl, refl)
