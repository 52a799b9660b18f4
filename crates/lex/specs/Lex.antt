-- The lexer's rules: a script is cut into tokens and faults.
use Rattle.std.specs.Prelude.{Bool, true, false, not, List, [], ◌∷◌, ℕ, zero, suc, ◌+◌, ◌-◌, ltb, eqb, length, get_or, take, drop, Option, Some, None, Result, Ok, Err, ◌≡◌}
use Rattle.lex.specs.declared.diagnostic.Diagnostic.{Diagnostic}
use Rattle.lex.specs.declared.tok.Token.{Token}
use Rattle.lex.specs.declared.tok.Fault.{Fault}
use Rattle.lex.specs.declared.tok.Piece.{Piece}
use Rattle.lex.specs.declared.tok.Step.{Step}
use Rattle.lex.specs.declared.tok.Next.{Next}
use Rattle.lex.specs.declared.Lexer.{Lexer}
use Rattle.lex.specs.Bytes.{or, is_ws, is_digit, is_ident_start, is_ident_cont}
use Rattle.lex.specs.Bytes.{is_num_cont, count_while, before, find_byte}
use Rattle.lex.specs.Errors.{e_unterminated_string, e_invalid_utf8}
use Rattle.lex.specs.Errors.{e_unknown_character, e_invalid_number}
use Rattle.lex.specs.Kind.{k_eof, k_double_equal, k_not_equal, k_s, k_d, k_i}
use Rattle.lex.specs.Kind.{k_doc, keywords, name_kind, punctuator_kind}
use Rattle.lex.specs.Utf8.{utf8}

-- a comment begins with `#`, but not with `#!`
unfoldable pub begins_comment : ℕ → ℕ → Bool
begins_comment b next = elim (eqb b 35) [ true ↦ not (eqb next 33) | false ↦ false ]

-- the blanks and comments in front, inside a comment or not
unfoldable pub skipped : Bool → List ℕ → ℕ
skipped comment [] = 0
skipped true (b ∷ bs) =
    elim (eqb b 10) [ true ↦ suc (skipped false bs) | false ↦ suc (skipped true bs) ]
skipped false (b ∷ bs) =
    elim (is_ws b) [
      | true ↦ suc (skipped false bs)
      | false ↦ elim (begins_comment b (get_or bs 0 0)) [ true ↦ suc (skipped true bs) | false ↦ 0 ]
    ]

-- a sign of one byte, or an unknown character
unfoldable pub punctuator : ℕ → Piece
punctuator b =
    elim (ltb 0 (punctuator_kind b)) [
      | true ↦ Piece.Token (punctuator_kind b) 1 1
      | false ↦ Piece.Fault e_unknown_character 1 b 1
    ]

-- a sign of two bytes, `==` or `!=`, or what one byte is
unfoldable pub punctuation : ℕ → ℕ → Piece
punctuation b next =
    elim (eqb next 61) [
      | true ↦ elim (eqb b 61) [
        | true ↦ Piece.Token k_double_equal 2 2
        | false ↦ elim (eqb b 33) [ true ↦ Piece.Token k_not_equal 2 2 | false ↦ punctuator b ]
      ]
      | false ↦ punctuator b
    ]

-- 1 where a line begins with a space
unfoldable pub leading_space : List ℕ → ℕ
leading_space line = elim (eqb (get_or line 0 0) 32) [ true ↦ 1 | false ↦ 0 ]

-- a doc: `bs` is what follows `#!`, its first line is `n` long, and the doc's spelling is that line
-- less one leading space
unfoldable pub doc_in : ℕ → List ℕ → Piece
doc_in n bs =
    let line = take n bs in
    elim (utf8 (drop (leading_space line) line)) [
      | true ↦ Piece.Token k_doc (n - leading_space line) (n + 2)
      | false ↦ Piece.Fault e_invalid_utf8 (n + 1) 0 (n + 1)
    ]

unfoldable pub doc : List ℕ → Piece
doc bs = doc_in (before 10 bs) bs

-- a string: `bs` is what follows the quote
unfoldable pub string : List ℕ → Piece
string bs =
    elim (find_byte 34 bs) [
      | Some n ↦
          elim (utf8 (take n bs)) [
            | true ↦ Piece.Token k_s n (n + 2)
            | false ↦ Piece.Fault e_invalid_utf8 (n + 1) 0 (n + 2)
          ]
      | None ↦ Piece.Fault e_unterminated_string (before 10 bs + 1) 0 (before 10 bs + 1)
    ]

-- a number with a dot before `from`, in a run of `n` digits and dots: a second dot ends it where a
-- name follows, and else is a fault over the whole run
unfoldable pub double_in : ℕ → ℕ → List ℕ → Piece
double_in n from bs =
    elim (find_byte 46 (take (n - from) (drop from bs))) [
      | None ↦ Piece.Token k_d n n
      | Some more ↦
          elim (is_ident_start (get_or bs (from + more + 1) 0)) [
            | true ↦ Piece.Token k_d (from + more) (from + more)
            | false ↦ Piece.Fault e_invalid_number n 0 n
          ]
    ]

-- a number, in a run of `n` digits and dots: a dot ends it where a name follows
unfoldable pub number_in : ℕ → List ℕ → Piece
number_in n bs =
    elim (find_byte 46 (take n bs)) [
      | None ↦ Piece.Token k_i n n
      | Some first ↦
          elim (is_ident_start (get_or bs (first + 1) 0)) [
            | true ↦ Piece.Token k_i first first
            | false ↦ double_in n (first + 1) bs
          ]
    ]

unfoldable pub number : List ℕ → Piece
number bs = number_in (count_while is_num_cont bs) bs

unfoldable pub name : List ℕ → Piece
name bs =
    let n = count_while is_ident_cont bs in
    Piece.Token (name_kind keywords (take n bs)) n n

-- a doc, a sign or an unknown character
unfoldable pub symbol : List ℕ → Piece
symbol bs =
    elim (eqb (get_or bs 0 0) 35) [
      | true ↦
          elim (eqb (get_or bs 1 0) 33) [ true ↦ doc (drop 2 bs) | false ↦ punctuator (get_or bs 0 0) ]
      | false ↦ punctuation (get_or bs 0 0) (get_or bs 1 0)
    ]

-- what stands where no blank or comment begins
unfoldable pub piece : List ℕ → Piece
piece bs =
    elim (is_ident_start (get_or bs 0 0)) [
      | true ↦ name bs
      | false ↦
          elim (is_digit (get_or bs 0 0)) [
            | true ↦ number bs
            | false ↦
                elim (eqb (get_or bs 0 0) 34) [
                  | true ↦ string (drop 1 bs)
                  | false ↦
                      symbol bs
                ]
          ]
    ]

-- a piece at its place in the script
abbrev pub placed : ℕ → Piece → Step
placed at (Piece.Token kind len taken) =
    Step.Token (record { kind = kind; start = at; len = len }) (at + taken)
placed at (Piece.Fault number len seen taken) =
    Step.Fault (record { number = number; start = at; len = len; seen = seen }) (at + taken)

-- what stands at a position that no blank or comment begins, with the next position
unfoldable pub stands_at : List ℕ → ℕ → Step
stands_at script at =
    elim (ltb at (length script)) [
      | true ↦ placed at (piece (drop at script))
      | false ↦ Step.End at
    ]

-- what stands at a position after blanks and comments
unfoldable pub step_at : List ℕ → ℕ → Step
step_at script pos = stands_at script (pos + skipped false (drop pos script))

-- what a call of the iterator takes is what the step gives: a token, a fault, or none at the end
abbrev pub step_of : Option (Result Token Fault) → ℕ → Step
step_of (Some (Ok t)) next = Step.Token t next
step_of (Some (Err e)) next = Step.Fault e next
step_of None at = Step.End at

abbrev pub TakesStep : Lexer → Option (Result Token Fault) → Lexer → Type 0
TakesStep s r t = (t.input ≡ s.input) × (step_at s.input.now s.pos ≡ step_of r t.pos)

-- a script cut: its tokens, each with the next position, its faults, and where it ends
pub data Cut : Type 0 where
  eof : ℕ → Cut
  cut_token : Token → ℕ → Cut → Cut
  cut_fault : Fault → Cut → Cut

-- the cut that a step begins, given the cut from each position on
abbrev pub extend_cut : (ℕ → Cut) → Step → Cut
extend_cut rest (Step.Token token next) = cut_token token next (rest next)
extend_cut rest (Step.Fault fault next) = cut_fault fault (rest next)
extend_cut rest (Step.End at) = eof at

-- the cut from a position on; a fuel above the number of bytes from there is enough
unfoldable pub cut_from : ℕ → List ℕ → ℕ → Cut
cut_from zero script pos = eof pos
cut_from (suc f) script pos = extend_cut (cut_from f script) (step_at script pos)

unfoldable pub cut_at : List ℕ → ℕ → Cut
cut_at script pos = cut_from (suc (length script)) script pos

unfoldable pub cut : List ℕ → Cut
cut script = cut_at script 0

abbrev pub eof_token : ℕ → Token
eof_token at = record { kind = k_eof; start = at; len = 3 }

-- the tokens, Eof last
unfoldable pub tokens_of : Cut → List Token
tokens_of (eof at) = eof_token at ∷ []
tokens_of (cut_token t next c) = t ∷ tokens_of c
tokens_of (cut_fault e c) = tokens_of c

-- the first token and the position after it
unfoldable pub next_of : Cut → Next
next_of (eof at) = record { token = eof_token at; next = at }
next_of (cut_token t next c) = record { token = t; next = next }
next_of (cut_fault e c) = next_of c

unfoldable pub tokens_from : List ℕ → ℕ → List Token
tokens_from script pos = tokens_of (cut_at script pos)

unfoldable pub next_at : List ℕ → ℕ → Next
next_at script pos = next_of (cut_at script pos)

unfoldable pub diagnostic_of : Fault → Diagnostic
diagnostic_of e =
    record { number = e.number; start = e.start; len = e.len; wanted = 0; seen = e.seen }

-- an error and how many tokens are cut before it, or read before it
pub record Occurrence : Type 0 where
  pub after : ℕ
  pub diagnostic : Diagnostic

unfoldable pub faults_of : ℕ → Cut → List Occurrence
faults_of n (eof at) = []
faults_of n (cut_token t next c) = faults_of (suc n) c
faults_of n (cut_fault e c) = record { after = n; diagnostic = diagnostic_of e } ∷ faults_of n c

-- a sign that begins an operand: at offset 0 or after a separator, and before a byte that is none
unfoldable pub is_prefix_sign : List ℕ → ℕ → Bool
is_prefix_sign script at =
    elim (ltb (at + 1) (length script)) [
      | true ↦
          elim (is_ws (get_or script (at + 1) 0)) [
            | true ↦ false
            | false ↦ or (eqb at 0) (is_ws (get_or script (at - 1) 0))
          ]
      | false ↦ false
    ]
