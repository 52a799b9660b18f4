-- An error of a script in words: one line of printable ASCII that names the broken rule, the wanted
-- kind and the seen kind or byte.
use Rattle.std.specs.Prelude.{◌≡◌, Bool, true, false, ◌&&◌, ◌||◌, List, [], ◌∷◌, ◌++◌, ℕ, ◌+◌, ◌/◌, ◌%◌, ◌≤◌, leb, ltb, eqb, length, get_or}
use Rattle.std.proofs.Math.Option.{Option, none, some}
use Rattle.lex.specs.Kind.{k_eof, k_record}
use Rattle.lex.specs.Errors.{e_too_deep, e_expected_token, e_bad_type}
use Rattle.lex.specs.Errors.{e_unterminated_string, e_unknown_character, e_invalid_number}
use Rattle.lex.specs.Cells.{diagnostic_at}
use Rattle.lex.specs.declared.diagnostic.Diagnostic.{Diagnostic}
use Rattle.lex.specs.Refusals.{r_line_too_short, r_no_words}
use Rattle.text.specs.Text.{bytes}
use Rattle.text.specs.Answer.{Result, refuse, in_front}

-- ---- the tables

-- what each error number says, from 0 on; empty where 01 lists no error of a script. A phrase that
-- ends with a blank is followed by a name or a byte.
unfoldable pub phrases : List (List ℕ)
phrases =
    [] ∷ [] ∷ [] ∷ [] ∷ [] ∷ [] ∷ [] ∷ [] ∷ [] ∷ [] ∷
    bytes "more than 128 levels inside one another are not allowed; level 129 would begin at " ∷
    bytes "expected " ∷
    bytes "a name must stand here, not " ∷
    bytes "a #! comment describes the let, fn or extern after it, but the script ends after " ∷
    bytes "a #! comment describes the let, fn or extern after it, but something else comes after " ∷
    bytes "an import path must be a string, not " ∷
    bytes "extern must be followed by a string, not " ∷
    bytes "an extern cannot stand inside another extern, but here is " ∷
    bytes "a match needs a default, a block without a condition; this match opens with " ∷
    bytes "an expression must stand here, not " ∷
    bytes "Foreign< must be followed by a name, not " ∷
    bytes "Option< must be followed by a type, not " ∷
    bytes "Array< must be followed by a type, not " ∷
    bytes "a type must stand here, not " ∷
    [] ∷ [] ∷ [] ∷ [] ∷ [] ∷ [] ∷ [] ∷
    bytes "this string has no closing quote" ∷
    bytes "this text has bytes that form no character; it must be valid UTF-8" ∷
    bytes "this character is not part of the language; its byte in hexadecimal is " ∷
    bytes "a number can have only one dot, and this one has more" ∷
    []

unfoldable pub phrase : ℕ → List ℕ
phrase number = get_or phrases number []

-- what each kind of token is called, from 0 on; 0 is no kind
unfoldable pub kind_names : List (List ℕ)
kind_names =
    [] ∷ bytes "the end of the script" ∷ bytes "'('" ∷ bytes "')'" ∷ bytes "'+'" ∷ bytes "'-'" ∷
    bytes "'*'" ∷ bytes "'/'" ∷ bytes "'%'" ∷ bytes "'='" ∷ bytes "'=='" ∷ bytes "'<'" ∷
    bytes "'>'" ∷ bytes "'!'" ∷ bytes "'!='" ∷ bytes "'?'" ∷ bytes "':'" ∷ bytes "'.'" ∷
    bytes "'['" ∷ bytes "']'" ∷ bytes "'{'" ∷ bytes "'}'" ∷ bytes "a string" ∷
    bytes "a number with a dot" ∷ bytes "a whole number" ∷ bytes "a name" ∷ bytes "a #! comment" ∷
    bytes "the word 'import'" ∷ bytes "the word 'extern'" ∷ bytes "the word 'let'" ∷
    bytes "the word 'fn'" ∷ bytes "the word 'match'" ∷ bytes "the word 'as'" ∷
    bytes "the word 'true'" ∷ bytes "the word 'false'" ∷ bytes "the word 'Str'" ∷
    bytes "the word 'Int'" ∷ bytes "the word 'Double'" ∷ bytes "the word 'Bool'" ∷
    bytes "the word 'Void'" ∷ bytes "the word 'Option'" ∷ bytes "the word 'Array'" ∷
    bytes "the word 'Foreign'" ∷ bytes "the word 'Record'" ∷ []

unfoldable pub kind_name : ℕ → List ℕ
kind_name kind = get_or kind_names kind []

-- ---- a byte in two hexadecimal digits

unfoldable pub hex_digit : ℕ → ℕ
hex_digit d = elim (ltb d 10) [ true ↦ 48 + d | false ↦ 55 + d ]

unfoldable pub hex : ℕ → List ℕ
hex b = hex_digit (b / 16 % 16) ∷ hex_digit (b % 16) ∷ []

-- ---- the line of an error

-- between the wanted and the seen kind
unfoldable pub but_found : List ℕ
but_found = bytes ", but found "

-- what stands behind the phrase: for 11 both kinds, for 33 the byte, for the lexer's other faults
-- nothing, else the seen kind
unfoldable pub details : ℕ → ℕ → ℕ → List ℕ
details number wanted seen =
    elim (eqb number e_expected_token) [
      | true ↦ kind_name wanted ++ (but_found ++ kind_name seen)
      | false ↦ elim (leb number e_bad_type) [
        | true ↦ kind_name seen
        | false ↦ elim (eqb number e_unknown_character) [ true ↦ hex seen | false ↦ [] ]
      ]
    ]

unfoldable pub line : Diagnostic → List ℕ
line e = phrase e.number ++ details e.number e.wanted e.seen

-- ---- which errors have words

-- a kind of `Type`
unfoldable pub is_kind : ℕ → Bool
is_kind k = leb k_eof k && leb k k_record

-- the numbers that 01 lists for scripts
unfoldable pub is_script_error : ℕ → Bool
is_script_error number =
    (leb e_too_deep number && leb number e_bad_type)
    || (leb e_unterminated_string number && leb number e_invalid_number)

-- for 11 a kind, else 0
unfoldable pub is_wanted : ℕ → ℕ → Bool
is_wanted number wanted =
    elim (eqb number e_expected_token) [ true ↦ is_kind wanted | false ↦ eqb wanted 0 ]

-- for 10 to 23 a kind, for 33 a byte, else 0
unfoldable pub is_seen : ℕ → ℕ → Bool
is_seen number seen =
    elim (leb number e_bad_type) [
      | true ↦ is_kind seen
      | false ↦ elim (eqb number e_unknown_character) [ true ↦ leb seen 255 | false ↦ eqb seen 0 ]
    ]

unfoldable pub has_words : Diagnostic → Bool
has_words e =
    (is_script_error e.number && is_wanted e.number e.wanted) && is_seen e.number e.seen

-- an error's five numbers, in the order of 01
abbrev pub error_of : List ℕ → Diagnostic
error_of cells = diagnostic_at cells 0

unfoldable pub words : Diagnostic → Option (List ℕ)
words e = elim (has_words e) [ true ↦ some (line e) | false ↦ none ]

-- ---- what is promised of every line

-- the most bytes of a line, and the fewest of a buffer
abbrev pub max_line : ℕ
max_line = 160

-- printable ASCII
unfoldable pub printable : List ℕ → Bool
printable [] = true
printable (b ∷ bs) = (leb 32 b && leb b 126) && printable bs

-- the last byte, `b` standing before the first
unfoldable pub last_byte : ℕ → List ℕ → ℕ
last_byte b [] = b
last_byte b (c ∷ cs) = last_byte c cs

pub record IsLine (w : List ℕ) : Type 0 where
  pub short : length w ≤ max_line
  pub ascii : printable w ≡ true
  pub first : get_or w 0 32 ≡ 32 → ⊥
  pub last : last_byte 32 w ≡ 32 → ⊥

-- two errors agree but for their spans
pub record Alike (e f : Diagnostic) : Type 0 where
  pub number : e.number ≡ f.number
  pub wanted : e.wanted ≡ f.wanted
  pub seen : e.seen ≡ f.seen

-- ---- into a lent buffer

-- 41, a buffer that is too short, is tested before 42, an error without words
unfoldable pub described : Diagnostic → List ℕ → Result
described e buffer =
    elim (ltb (length buffer) max_line) [
      | true ↦ refuse r_line_too_short buffer
      | false ↦ elim (words e) [ none ↦ refuse r_no_words buffer | some w ↦ in_front w buffer ]
    ]
