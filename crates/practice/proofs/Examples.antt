-- Sheets that antt computes: each pick, and each answer.
use Rattle.std.proofs.Common.{◌≡◌, ℕ, List, [], ◌∷◌, ◌++◌, replicate, refl}
use Rattle.text.specs.Text.{bytes, digits, number as decimal}
use Rattle.text.specs.Answer.{written, Result, result, refuse}
use Rattle.practice.specs.Practice as P
use Rattle.practice.specs.Practice.{sheet, promised}

-- ---- for antt to compute

unfoldable sheet_of : ℕ → ℕ → List ℕ
unfolding
    P.next P.draw P.map_drawn P.leaf P.sum_of P.picked P.expression P.expressions
    digits decimal P.name_text P.text P.line P.lines_from sheet bytes
sheet_of seed lines = sheet seed lines

unfoldable promised_of : ℕ → ℕ → List ℕ → Result
unfolding sheet_of promised
promised_of seed lines buffer = promised seed lines buffer

picks : sheet_of 2 3 ≡ bytes "let v0 = v4\nlet v1 = -v9\nlet v2 = (--58 + 24)\n"
unfolding sheet_of
picks = refl

none : sheet_of 1 0 ≡ []
unfolding sheet_of
none = refl

-- one byte too few
short : promised_of 1 1 (replicate 10 7) ≡ refuse 48 (replicate 10 7)
unfolding promised_of
short = refl

-- two bytes more
keeps : promised_of 1 1 (replicate 13 7) ≡ result (written 11) (bytes "let v0 = 0\n" ++ (7 ∷ 7 ∷ []))
unfolding promised_of
keeps = refl

-- too many lines come before a buffer that is too short
many : promised_of 1 17 [] ≡ refuse 47 []
unfolding promised_of
many = refl
