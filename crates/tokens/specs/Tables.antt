-- The token and error tables of a script, and what cutting promises of both lent arrays.
use Rattle.std.specs.Prelude.{Bool, true, false, ◌&&◌, ℕ, ◌+◌, ◌*◌, ◌-◌, ltb, length, take}
use mathlib.Core.List.{List, [], ◌∷◌, ◌++◌, map, flatten}
use Rattle.lex.specs.Answer.{max_bytes, Answer}
use Rattle.lex.specs.Answer as A
use Rattle.lex.specs.Bytes.{or}
use Rattle.lex.specs.Cells.{zeros, padded}
use Rattle.lex.specs.Kind.{same_bytes}
use Rattle.lex.specs.Lex.{cut, tokens_of, Occurrence, faults_of}
use Rattle.lex.specs.Refusals.{r_too_long, r_too_short}
use Rattle.lex.specs.Spelling.{spelling_start}
use Rattle.lex.specs.declared.tok.Token.{Token}
use Rattle.tokens.specs.declared.TableCounts.{TableCounts}

-- the cells of a record
abbrev pub token_width : ℕ
token_width = 4

abbrev pub error_width : ℕ
error_width = 6

-- a token: its kind, where it starts, how long its spelling is and where it begins; a fixed
-- spelling begins at the token's start
unfoldable pub token_record : List ℕ → Token → List ℕ
token_record script t = t.kind ∷ t.start ∷ t.len ∷ spelling_start script t ∷ []

-- an error of the lexer: its five numbers, and how many tokens are cut before it
unfoldable pub error_record : Occurrence → List ℕ
error_record o =
    let e = o.diagnostic in
    e.number ∷ e.start ∷ e.len ∷ e.wanted ∷ e.seen ∷ o.after ∷ []

unfoldable pub token_records : List ℕ → List Token → List ℕ
token_records script ts = flatten (map (token_record script) ts)

unfoldable pub error_records : List Occurrence → List ℕ
error_records es = flatten (map error_record es)

-- the tokens of a script, Eof last
unfoldable pub token_table : List ℕ → List ℕ
token_table script = token_records script (tokens_of (cut script))

-- its errors, in its order
unfoldable pub error_table : List ℕ → List ℕ
error_table script = error_records (faults_of 0 (cut script))

-- how many records each has
unfoldable pub counts_of : List ℕ → TableCounts
counts_of script = record { tokens = length (tokens_of (cut script)); errors = length (faults_of 0 (cut script)) }

-- ---- what is promised

-- an array with zeros behind its first `n` cells
abbrev pub behind : ℕ → List ℕ → List ℕ
behind n a = take n a ++ zeros (length a - n)

-- an answer, and both arrays as it leaves them
pub record Outcome : Type 0 where
  pub answer : Answer TableCounts
  pub tokens : List ℕ
  pub errors : List ℕ

-- both arrays hold their tables, with zeros behind
unfoldable pub tabled : List ℕ → List ℕ → List ℕ → Outcome
tabled script tokens errors = record {
  answer = A.answer (counts_of script);
  tokens = padded (length tokens) (token_table script);
  errors = padded (length errors) (error_table script);
}

-- one of them has fewer cells than the script's bytes ask for
unfoldable pub too_short : List ℕ → List ℕ → List ℕ → Bool
too_short script tokens errors = or (ltb (length tokens) (token_width * length script + token_width)) (ltb (length errors) (error_width * length script))

-- 1 is tested first, then 2
unfoldable pub limits : List ℕ → List ℕ → List ℕ → Answer Unit
limits script tokens errors =
    elim (ltb max_bytes (length script)) [
      | true ↦ A.refused r_too_long
      | false ↦ elim (too_short script tokens errors) [
        | true ↦ A.refused r_too_short
        | false ↦ A.answer tt
      ]
    ]

-- neither changes an array
unfoldable pub promised : List ℕ → List ℕ → List ℕ → Outcome
promised script tokens errors =
    elim (ltb max_bytes (length script)) [
      | true ↦ record { answer = A.refused r_too_long; tokens = tokens; errors = errors }
      | false ↦ elim (too_short script tokens errors) [
        | true ↦ record { answer = A.refused r_too_short; tokens = tokens; errors = errors }
        | false ↦ tabled script tokens errors
      ]
    ]

-- ---- whether two arrays are what cutting gives

-- cutting is not refused, and leaves both as they are
unfoldable pub is_cut : List ℕ → List ℕ → List ℕ → Bool
is_cut script tokens errors =
    elim (ltb max_bytes (length script)) [
      | true ↦ false
      | false ↦ elim (too_short script tokens errors) [
        | true ↦ false
        | false ↦ same_bytes tokens (padded (length tokens) (token_table script)) && same_bytes errors (padded (length errors) (error_table script))
      ]
    ]
