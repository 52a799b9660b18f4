-- The correction sheet: the errors of a paper by line and column, in words. A line has 72 bytes and
-- a line feed.
use Rattle.std.specs.Prelude.{Bool, true, false, ◌&&◌, List, [], ◌∷◌, ◌++◌, ℕ, zero, suc, ◌-◌, ◌*◌, ◌/◌, leb, ltb, eqb, length, get_or, take, drop, replicate}
use Rattle.std.proofs.Math.Option.{Option, none, some}
use Rattle.lex.specs.declared.diagnostic.Diagnostic.{Diagnostic}
use Rattle.lex.specs.Answer.{max_bytes, Answer, refused, answer}
use Rattle.lex.specs.Cells.{diagnostic_at}
use Rattle.ast.specs.Layout.{diagnostic_width}
use Rattle.lex.specs.Refusals.{r_too_long, r_no_words, r_sheet_too_short}
use Rattle.positions.specs.Position.{place_at}
use Rattle.positions.specs.declared.Place.{Place}
use Rattle.text.specs.Text.{number}
use Rattle.text.specs.Answer.{Result, refuse, in_front}
use Rattle.words.specs.Words.{words, printable}

-- ---- one error

abbrev pub blanks : ℕ → List ℕ
blanks n = replicate n 32

-- right aligned in five places
unfoldable pub right : List ℕ → List ℕ
right t = blanks (5 - length t) ++ t

-- places 1 to 15: the line in 1 to 5, the column in 7 to 11, the error's number in 13 and 14; 6, 12
-- and 15 are blank
unfoldable pub heading : Place → ℕ → List ℕ
heading p n =
    right (number p.line)
    ++ (blanks 1 ++ (right (number p.column) ++ (blanks 1 ++ (number n ++ blanks 1))))

-- the margin under a heading
abbrev pub margin : List ℕ
margin = blanks 15

-- places 16 to 72: pieces of 57 bytes, each but the last followed by a line feed and the margin of
-- the next; only the last is padded. A fuel above the words' length is enough.
unfoldable pub pieces : ℕ → List ℕ → List ℕ
pieces zero w = []
pieces (suc fuel) w =
    elim (leb (length w) 57) [
      | true ↦ w ++ (blanks (57 - length w) ++ (10 ∷ []))
      | false ↦ take 57 w ++ ((10 ∷ margin) ++ pieces fuel (drop 57 w))
    ]

unfoldable pub body : List ℕ → List ℕ
body w = pieces (suc (length w)) w

-- 42 as for the words alone, then 3 where the span starts past the script's end
unfoldable pub entry : List ℕ → Diagnostic → Answer (List ℕ)
entry script e =
    elim (words e) [
      | none ↦ refused r_no_words
      | some w ↦
          elim (place_at script e.start) [
            | refused n ↦ refused n
            | answer p ↦ answer (heading p e.number ++ body w)
          ]
    ]

-- ---- all errors

-- error `i` of a list of records, five numbers each
abbrev pub error_at : List ℕ → ℕ → Diagnostic
error_at cells i = diagnostic_at cells (diagnostic_width * i)

abbrev pub join_to : List ℕ → Answer (List ℕ) → Answer (List ℕ)
join_to t (refused n) = refused n
join_to t (answer u) = answer (t ++ u)

abbrev pub continue : Answer (List ℕ) → Answer (List ℕ) → Answer (List ℕ)
continue (refused n) a = refused n
continue (answer t) a = join_to t a

-- texts 0 to n - 1, one behind the other; the first refusal ends it
unfoldable pub up_to : (ℕ → Answer (List ℕ)) → ℕ → Answer (List ℕ)
up_to f zero = answer []
up_to f (suc n) = continue (up_to f n) (f n)

-- the list is read up to its last whole record
abbrev pub entries : List ℕ → List ℕ → Answer (List ℕ)
entries script cells = up_to (λ i. entry script (error_at cells i)) (length cells / diagnostic_width)

-- 1 is tested first
unfoldable pub sheet_of : List ℕ → List ℕ → Answer (List ℕ)
sheet_of script cells =
    elim (ltb max_bytes (length script)) [ true ↦ refused r_too_long | false ↦ entries script cells ]

-- ---- into a lent buffer

-- 44, a buffer that is too short for all lines, is tested last
unfoldable pub printed : List ℕ → List ℕ → List ℕ → Result
printed script cells buffer =
    elim (sheet_of script cells) [
      | refused n ↦ refuse n buffer
      | answer t ↦
          elim (ltb (length buffer) (length t)) [
            | true ↦ refuse r_sheet_too_short buffer
            | false ↦ in_front t buffer
          ]
    ]

-- ---- what is promised of every sheet

-- `n` lines: each has 72 printable bytes and a line feed
unfoldable pub in_lines : ℕ → List ℕ → Bool
in_lines zero t = eqb (length t) 0
in_lines (suc n) t = (printable (take 72 t) && eqb (get_or t 72 0) 10) && in_lines n (drop 73 t)

-- ---- the words back from the lines of one error

-- what stands in places 16 to 72 of each line, joined
unfoldable pub joined : ℕ → List ℕ → List ℕ
joined zero t = []
joined (suc fuel) t = take 57 (drop 15 t) ++ joined fuel (drop 73 t)

abbrev pub cut_cons : ℕ → List ℕ → List ℕ
cut_cons b [] = elim (eqb b 32) [ true ↦ [] | false ↦ b ∷ [] ]
cut_cons b (c ∷ cs) = b ∷ c ∷ cs

-- without the blanks at the end
unfoldable pub cut : List ℕ → List ℕ
cut [] = []
cut (b ∷ bs) = cut_cons b (cut bs)

-- cutting off the margins and the last padding and joining the pieces
unfoldable pub words_in : List ℕ → List ℕ
words_in t = cut (joined (length t / 73) t)

-- ---- the words back from a whole sheet

unfoldable pub blank : List ℕ → Bool
blank [] = true
blank (b ∷ bs) = eqb b 32 && blank bs

-- what lines tell: the words of the errors that begin in them, and what goes on from the line above
pub record Gathered : Type 0 where
  pub loose : List ℕ
  pub errors : List (List ℕ)

-- under a blank margin the words of the line above go on; under another an error begins, and its
-- padding is cut off
abbrev pub tell : Bool → List ℕ → List (List ℕ) → Gathered
tell true more errors = record { loose = more; errors = errors }
tell false more errors = record { loose = []; errors = cut more ∷ errors }

unfoldable pub gather : ℕ → List ℕ → Gathered
gather zero t = record { loose = []; errors = [] }
gather (suc n) t =
    let g = gather n (drop 73 t) in
    tell (blank (take 15 t)) (take 57 (drop 15 t) ++ g.loose) g.errors

-- the words of each error of a sheet
unfoldable pub all_words : List ℕ → List (List ℕ)
all_words t = (gather (length t / 73) t).errors

abbrev pub words_or : Option (List ℕ) → List ℕ
words_or none = []
words_or (some w) = w

-- the words of errors 0 to n - 1
unfoldable pub words_up_to : List ℕ → ℕ → List (List ℕ)
words_up_to cells zero = []
words_up_to cells (suc n) = words_up_to cells n ++ (words_or (words (error_at cells n)) ∷ [])
