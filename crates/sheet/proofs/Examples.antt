-- A margin and lines of words, computed; refusals and their order.
-- Assumes nothing.
use mathlib.Core.Path.{◌≡◌, refl}
use mathlib.Core.List.{List, [], ◌∷◌, ◌++◌}
use Prim.Native.Nat.{ℕ}
use lib.ListN.{take}
use Rattle.lex.specs.Answer.{refused, answer}
use Rattle.lex.specs.Bytes.{between}
use Rattle.positions.specs.Position.{feeds, columns_of, since, place_of, place_at}
use Rattle.text.specs.Text.{bytes, digits, number}
use Rattle.words.specs.Words.{is_kind, is_script_error, is_wanted, is_seen, has_words, words}
use Rattle.sheet.specs.Sheet.{right, heading, pieces, body, entry, up_to, sheet_of}

-- two lines; position 16 is the `2` at the end of the second
script : List ℕ
script = bytes "let x = 1" ++ (10 ∷ bytes "let y 2")

-- places 1 to 15
places : heading (place_of (take 16 script)) 11 ≡ bytes "    2     7 11 "
unfolding script heading right number digits bytes place_of feeds since columns_of between
places = refl

-- words of 57 bytes fill their line
full_line : body (bytes "aaaaaaaaaa bbbbbbbbbbbbbbbbbbbbbbbbbbbbbbbbbbbbbbbbbbbbbb") ≡ bytes "aaaaaaaaaa bbbbbbbbbbbbbbbbbbbbbbbbbbbbbbbbbbbbbbbbbbbbbb" ++ (10 ∷ [])
unfolding body pieces bytes
full_line = refl

-- a byte more stands at place 16 of the next line, and is padded
two_lines : body (bytes "aaaaaaaaaa bbbbbbbbbbbbbbbbbbbbbbbbbbbbbbbbbbbbbbbbbbbc de") ≡ (bytes "aaaaaaaaaa bbbbbbbbbbbbbbbbbbbbbbbbbbbbbbbbbbbbbbbbbbbc d" ++ (10 ∷ [])) ++ (bytes "               e                                                        " ++ (10 ∷ []))
unfolding body pieces bytes
two_lines = refl

-- each error in turn: the first has no words, the second would start past the end
first-refusal : sheet_of script (24 ∷ 99 ∷ 1 ∷ 0 ∷ 1 ∷ 31 ∷ 99 ∷ 1 ∷ 0 ∷ 0 ∷ []) ≡ refused 42
unfolding script sheet_of up_to entry bytes words has_words is_script_error is_wanted is_seen is_kind
first-refusal = refl

-- the script's end is inside, a byte more is not
past_the_end : sheet_of script (31 ∷ 18 ∷ 1 ∷ 0 ∷ 0 ∷ 24 ∷ 0 ∷ 0 ∷ 0 ∷ 0 ∷ []) ≡ refused 3
unfolding script sheet_of up_to entry bytes place_at words has_words is_script_error is_wanted is_seen is_kind
past_the_end = refl

-- what is left behind the last whole record is not read
no-errors : sheet_of script (11 ∷ 16 ∷ 1 ∷ 9 ∷ []) ≡ answer []
unfolding script sheet_of up_to bytes
no-errors = refl
