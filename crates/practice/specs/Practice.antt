-- Practice sheets: draws from a seed, expressions that are drawn, their text, and the text of a
-- sheet.
use Rattle.std.specs.Prelude.{ℕ, zero, suc, ◌+◌, ◌*◌, ◌/◌, ◌%◌, ◌^◌, true, false, List, [], ◌∷◌, ◌++◌, length, ◌==◌, nat_lt}
use Rattle.lex.specs.Refusals.{r_too_many_lines, r_practice_too_short}
use Rattle.text.specs.Text.{bytes, number as decimal}
use Rattle.text.specs.Answer.{Result, refuse, in_front}

-- ---- draws

-- the new seed: 2 ^ 32 is 4,294,967,296
unfoldable pub next : ℕ → ℕ
next seed = (seed * 1664525 + 1013904223) % 2 ^ 32

-- what is drawn, and the seed for the next draw
pub record Drawn (A : Type 0) : Type 0 where
  pub value : A
  pub seed : ℕ

-- among `count`
unfoldable pub draw : ℕ → ℕ → Drawn ℕ
draw count seed = record { value = next seed / 65536 % count; seed = next seed }

unfoldable pub map_drawn : {A B : Type 0} → (A → B) → Drawn A → Drawn B
map_drawn f d = record { value = f d.value; seed = d.seed }

-- ---- expressions

pub data Expr : Type 0 where
  number : ℕ → Expr
  name : ℕ → Expr
  sum : Expr → Expr → Expr
  negated : Expr → Expr

-- the expressions that hold no other: by the draw that picks, 0 or 1
unfoldable pub leaf : ℕ → ℕ → Drawn Expr
leaf pick seed =
    elim (pick == 0) [
      | true ↦ map_drawn number (draw 100 seed)
      | false ↦ map_drawn name (draw 10 seed)
    ]

-- a sum's second part is drawn behind its first
unfoldable pub sum_of : (ℕ → Drawn Expr) → ℕ → Drawn Expr
sum_of part seed = let a = part seed in map_drawn (sum a.value) (part a.seed)

-- by the draw that picks, 0 to 3; `part` draws an expression one level lower
unfoldable pub picked : (ℕ → Drawn Expr) → ℕ → ℕ → Drawn Expr
picked part pick seed =
    elim (nat_lt pick 2) [
      | true ↦ leaf pick seed
      | false ↦ elim (pick == 2) [ true ↦ sum_of part seed | false ↦ map_drawn negated (part seed) ]
    ]

-- of a level
unfoldable pub expression : ℕ → ℕ → Drawn Expr
expression zero seed = let pick = draw 2 seed in leaf pick.value pick.seed
expression (suc level) seed =
    let pick = draw 4 seed in picked (expression level) pick.value pick.seed

abbrev pub top_level : ℕ
top_level = 4

-- one expression for each line, drawn one behind the other
unfoldable pub expressions : ℕ → ℕ → List Expr
expressions zero seed = []
expressions (suc lines) seed =
    let e = expression top_level seed in e.value ∷ expressions lines e.seed

-- ---- text

unfoldable pub name_text : ℕ → List ℕ
name_text n = bytes "v" ++ decimal n

unfoldable pub text : Expr → List ℕ
text (number n) = decimal n
text (name n) = name_text n
text (sum a b) = bytes "(" ++ (text a ++ (bytes " + " ++ (text b ++ bytes ")")))
text (negated a) = bytes "-" ++ text a

-- line `i`
unfoldable pub line : ℕ → Expr → List ℕ
line i e = bytes "let " ++ (name_text i ++ (bytes " = " ++ (text e ++ bytes "\n")))

-- the lines from the number `i` on
unfoldable pub lines_from : ℕ → List Expr → List ℕ
lines_from i [] = []
lines_from i (e ∷ es) = line i e ++ lines_from (suc i) es

unfoldable pub sheet : ℕ → ℕ → List ℕ
sheet seed lines = lines_from 0 (expressions lines seed)

-- ---- what is promised of answer and buffer

abbrev pub max_lines : ℕ
max_lines = 16

-- 47, too many lines, is tested first; then 48, a buffer that is too short for the sheet
unfoldable pub promised : ℕ → ℕ → List ℕ → Result
promised seed lines buffer =
    elim (nat_lt max_lines lines) [
      | true ↦ refuse r_too_many_lines buffer
      | false ↦
          elim (nat_lt (length buffer) (length (sheet seed lines))) [
            | true ↦ refuse r_practice_too_short buffer
            | false ↦ in_front (sheet seed lines) buffer
          ]
    ]
