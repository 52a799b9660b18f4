-- The line and column of a byte position.
use Rattle.std.specs.Prelude.{Bool, ◌&&◌, List, [], ◌∷◌, ℕ, suc, ◌+◌, ◌-◌, eqb, leb, ltb, length, take, drop}
use Rattle.lex.specs.Answer.{max_bytes, Answer, refused, answer}
use Rattle.lex.specs.Refusals.{r_too_long, r_outside}
use Rattle.lex.specs.Bytes.{if, between}
use Rattle.positions.specs.declared.Place.{Place}

-- the line feeds among bytes
unfoldable pub feeds : List ℕ → ℕ
feeds [] = 0
feeds (b ∷ bs) = if (eqb b 10) (suc (feeds bs)) (feeds bs)

-- the columns that a byte takes: none if it is a UTF-8 continuation byte, that is, 128 to 191
unfoldable pub columns_of : ℕ → ℕ
columns_of b = if (between 128 191 b) 0 1

-- the columns since the last line feed, `n` having been passed since it before
unfoldable pub since : ℕ → List ℕ → ℕ
since n [] = n
since n (b ∷ bs) = if (eqb b 10) (since 0 bs) (since (n + columns_of b) bs)

unfoldable pub place_of : List ℕ → Place
place_of before = record { line = 1 + feeds before; column = 1 + since 0 before }

-- a position past the script's end lies outside
unfoldable pub place_at : List ℕ → ℕ → Answer Place
place_at script at =
    if (ltb max_bytes (length script)) (refused r_too_long)
    (if (ltb (length script) at) (refused r_outside)
    (answer (place_of (take at script))))

-- ---- from a place that is known

-- the place behind bytes, from the place before them
unfoldable pub onward : Place → List ℕ → Place
onward p bs = record { line = p.line + feeds bs; column = 1 + since (p.column - 1) bs }

-- the greatest line and the greatest column of a script that is not too long
abbrev pub max_place : ℕ
max_place = 65537

-- the walk to `to` goes on from `known`, the place of `from`: `to` is not before it, and `known` is
-- a place that a script can have
unfoldable pub goes_on : ℕ → Place → ℕ → Bool
goes_on from known to =
    leb from to && (leb 1 known.column && leb known.column max_place) && leb known.line max_place

-- the place of `to` from `known`, taken for the place of `from`; from the script's beginning where
-- the walk does not go on
unfoldable pub advanced : List ℕ → ℕ → Place → ℕ → Answer Place
advanced script from known to =
    if (ltb max_bytes (length script)) (refused r_too_long)
    (if (ltb (length script) to) (refused r_outside)
    (answer
    (if (goes_on from known to) (onward known (take (to - from) (drop from script)))
    (place_of (take to script)))))
