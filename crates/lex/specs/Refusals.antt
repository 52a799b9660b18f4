-- The numbers with which calls are refused: 1 to 4 are document 01's, the others 02's.
use Rattle.std.specs.Prelude.{ℕ}
use Rattle.lex.specs.declared.diagnostic.Refusal.{Refusal}
use Rattle.lex.specs.declared.diagnostic.Refusal.TheVariants.{TooLong, TooShort, Outside, Malformed, LineTooShort, NoWords, NotCut, SheetTooShort, TooManyLines, PracticeTooShort, PositionsFall, PlacesTooShort}

-- the script is over 65,536 bytes
abbrev pub r_too_long : ℕ
r_too_long = 1

-- an array is shorter than its least length
abbrev pub r_too_short : ℕ
r_too_short = 2

-- what is asked about lies outside
abbrev pub r_outside : ℕ
r_outside = 3

-- something visited is malformed
abbrev pub r_malformed : ℕ
r_malformed = 4

-- the buffer for an error in words is too short
abbrev pub r_line_too_short : ℕ
r_line_too_short = 41

-- the numbers are no error of a script
abbrev pub r_no_words : ℕ
r_no_words = 42

-- the tables are not those that cutting the script gives
abbrev pub r_not_cut : ℕ
r_not_cut = 43

-- the buffer for a correction sheet is too short
abbrev pub r_sheet_too_short : ℕ
r_sheet_too_short = 44

-- a practice sheet has at most 16 lines
abbrev pub r_too_many_lines : ℕ
r_too_many_lines = 47

-- the buffer for a practice sheet is too short
abbrev pub r_practice_too_short : ℕ
r_practice_too_short = 48

-- a position is below the one before it
abbrev pub r_positions_fall : ℕ
r_positions_fall = 49

-- the list for lines and columns is too short
abbrev pub r_places_too_short : ℕ
r_places_too_short = 50

-- the number of each refusal
abbrev pub number : Refusal → ℕ
number TooLong = r_too_long
number TooShort = r_too_short
number Outside = r_outside
number Malformed = r_malformed
number LineTooShort = r_line_too_short
number NoWords = r_no_words
number NotCut = r_not_cut
number SheetTooShort = r_sheet_too_short
number TooManyLines = r_too_many_lines
number PracticeTooShort = r_practice_too_short
number PositionsFall = r_positions_fall
number PlacesTooShort = r_places_too_short
