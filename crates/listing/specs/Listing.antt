-- The listing of a reading, and of arrays whoever filled them; what of it goes into a lent buffer.
use Rattle.std.specs.Prelude.{Bool, true, false, ◌&&◌, List, [], ◌∷◌, ◌++◌, ℕ, ◌*◌, ◌≡◌, leb, ltb, eqb}
use Rattle.std.specs.Prelude.{length, get_or, take, Result as Outcome, Ok, Err, MatchResult}
use Rattle.std.proofs.Math.Option.{Option, none, some}
use Rattle.std.proofs.Math.ListN.{get_elem?}
use Rattle.lex.specs.declared.diagnostic.Diagnostic.{Diagnostic}
use Rattle.ast.specs.declared.Counts.{Counts}
use Rattle.ast.specs.declared.Node.{Node}
use Rattle.ast.specs.declared.TypeExpr.{TypeExpr}
use Rattle.rules.specs.Parsed.{Parsed}
use Rattle.rules.specs.Parsed as P
use Rattle.listing.specs.declared.Failure.{Failure}
use Rattle.listing.specs.declared.Failure.TheVariants as F
use Rattle.lex.specs.Errors.{e_too_deep}
use Rattle.lex.specs.Refusals.{r_too_short, r_malformed, number as refusal_number}
use Rattle.ast.specs.declared.ReadError.{ReadError}
use Rattle.ast.specs.declared.ReadError.TheVariants as E
use Rattle.ast.specs.Layout.{node_width, type_width, diagnostic_width}
use Rattle.rules.specs.Tree.{Tree}
use Rattle.rules.specs.Parse.{Reading, read, ended}
use Rattle.rules.specs.Promise.{Arrays, arrays_of, no_error}
use Rattle.ast.specs.Decode.{node_at, type_at}
use Rattle.ast.specs.Decode as D
use Rattle.text.specs.Emit.{plain}
use Rattle.text.specs.Answer as T
use Rattle.text.specs.Answer.{Answer, Result, refuse, in_front}
use Rattle.listing.specs.declared.Arrays.{Arrays as Lent}
use Rattle.listing.specs.declared.emit.Malformed.{Malformed}
use Rattle.listing.specs.declared.ListingError.{ListingError}
use Rattle.listing.specs.declared.ListingError.TheVariants as L
use Rattle.text.specs.Text.{bytes, number}
use Rattle.listing.specs.Text.{malformed, form, gap, each, node, type_expr}

-- ---- lines

-- a form, and the line feed
unfoldable pub line : List ℕ → List (List ℕ) → List ℕ
line name fs = form name fs ++ (10 ∷ [])

unfoldable pub node_text : List ℕ → Option Node → List ℕ
node_text cells none = malformed
node_text cells (some n) = node cells n

unfoldable pub type_text : List ℕ → Option TypeExpr → List ℕ
type_text cells none = malformed
type_text cells (some t) = type_expr cells t

unfoldable pub node_line : List ℕ → (ℕ → Option Node) → ℕ → List ℕ
node_line cells nodes i = line (bytes "node") (number i ∷ node_text cells (nodes i) ∷ [])

unfoldable pub type_line : List ℕ → (ℕ → Option TypeExpr) → ℕ → List ℕ
type_line cells types i = line (bytes "type") (number i ∷ type_text cells (types i) ∷ [])

unfoldable pub counts_line : ℕ → ℕ → ℕ → List ℕ
counts_line nodes types values =
    line (bytes "tree")
    (form (bytes "nodes") (number nodes ∷ []) ∷
    form (bytes "types") (number types ∷ []) ∷
    form (bytes "values") (number values ∷ []) ∷ [])

unfoldable pub roots_line : (ℕ → ℕ) → ℕ → List ℕ
roots_line root n =
    (40 ∷ bytes "roots") ++ (each (λ i. gap 1 ++ number (root i)) n ++ (41 ∷ 10 ∷ []))

-- an error's five numbers under a name
unfoldable pub numbers_line : List ℕ → Diagnostic → List ℕ
numbers_line name e =
    line name
    (number e.number ∷ number e.start ∷ number e.len ∷
    number e.wanted ∷ number e.seen ∷ [])

-- 10 is a refusal, and has no kinds
unfoldable pub error_line : Diagnostic → List ℕ
error_line e =
    elim (eqb e.number e_too_deep) [
      | true ↦
          line (bytes "refused") (number e.number ∷ number e.start ∷ number e.len ∷ [])
      | false ↦ numbers_line (bytes "error") e
    ]

-- why there is no tree: an error of the script, or a refusal by its number, whatever that is
abbrev pub failure_line : Failure → List ℕ
failure_line (F.Script e) = error_line e
failure_line (F.Refused n) = line (bytes "refused") (number n ∷ [])

-- what a reading has no tree for, as it is listed
abbrev pub failure_of : ReadError → Failure
failure_of (E.Script e) = F.Script e
failure_of (E.Refused r) = F.Refused (refusal_number r)

-- a tree by its counts and its records, wherever they are taken from
unfoldable pub tree_text : Counts → List ℕ → (ℕ → Option Node) → (ℕ → Option TypeExpr)
    → (ℕ → ℕ) → (ℕ → Diagnostic) → List ℕ
tree_text c cells nodes types root error =
    counts_line c.nodes c.types c.values
    ++ (each (node_line cells nodes) c.nodes
    ++ (each (type_line cells types) c.types
    ++ (roots_line root c.roots
    ++ each (λ i. numbers_line (bytes "diag") (error i)) c.diagnostics)))

-- ---- the listing of a reading

abbrev pub counts_of : Tree → List Diagnostic → Counts
counts_of t es =
    record {
      nodes = length t.arena.nodes;
      types = length t.arena.types;
      cells = length t.arena.cells;
      roots = length t.roots;
      values = t.arena.values;
      diagnostics = length es;
    }

unfoldable pub listing_of : Reading → List ℕ
listing_of (read t es) =
    tree_text (counts_of t es) t.arena.cells
    (get_elem? t.arena.nodes) (get_elem? t.arena.types)
    (λ i. get_or t.roots i 0) (λ i. get_or es i no_error)
listing_of (ended e) = error_line e

-- ---- the listing of arrays

-- what lent arrays hold
abbrev pub held : Lent → Arrays
held a = arrays_of a.nodes.now a.types.now a.lists.now a.roots.now a.diagnostics.now

-- the arrays have what the counts say
unfoldable pub within : Counts → Arrays → Bool
within c a =
    leb (node_width * c.nodes) (length a.nodes)
    && (leb (type_width * c.types) (length a.types)
    && (leb c.cells (length a.lists)
    && (leb c.roots (length a.roots)
    && leb (diagnostic_width * c.diagnostics) (length a.diagnostics))))

abbrev pub diagnostic_at : List ℕ → ℕ → Diagnostic
diagnostic_at xs i = D.diagnostic_at xs (diagnostic_width * i)

-- an answer as a reading's, with any number for a refusal
abbrev pub as_parsed : Outcome Counts Failure → Parsed
as_parsed (Ok c) = P.Tree c
as_parsed (Err (F.Script e)) = P.Error e
as_parsed (Err (F.Refused n)) = P.Refused n

-- what is listed of an answer and of arrays whoever filled them; of a refusal without a place its
-- number
unfoldable pub text_of : Parsed → Arrays → List ℕ
text_of (P.Tree c) a =
    elim (within c a) [
      | true ↦
          tree_text c (take c.cells a.lists) (node_at a.nodes) (type_at a.types)
          (λ i. get_or a.roots i 0) (diagnostic_at a.diagnostics)
      | false ↦ malformed
    ]
text_of (P.Error e) a = error_line e
text_of (P.Refused n) a = line (bytes "refused") (number n ∷ [])

-- ---- into a buffer

-- bytes only, and fewer than 2^64 - 1
abbrev pub fits : List ℕ → Bool
fits text = plain text && ltb (length text) 18446744073709551615

-- how long a text is that fits
abbrev pub Measures : List ℕ → Outcome ℕ Malformed → Type 0
Measures text r =
    MatchResult r (λ n. (fits text ≡ true) × (n ≡ length text)) (λ _. fits text ≡ false)

-- the text in front; refused, with the buffer as it was, where that is too short (2), and where the
-- text has what is no byte, or 2^64 - 1 bytes or more (4)
unfoldable pub into_buffer : List ℕ → List ℕ → Result
into_buffer text buffer =
    elim (fits text) [
      | true ↦
          elim (leb (length text) (length buffer)) [
            | true ↦ in_front text buffer
            | false ↦ refuse r_too_short buffer
          ]
      | false ↦ refuse r_malformed buffer
    ]

-- document 01's number, or the length, for each case of an answer
unfoldable pub listing_answer : Outcome ℕ ListingError → Answer
listing_answer (Ok n) = T.written n
listing_answer (Err L.Short) = T.refused r_too_short
listing_answer (Err L.Malformed) = T.refused r_malformed
