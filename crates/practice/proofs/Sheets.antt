-- Expressions that are drawn are shallow and short; so strict reading accepts every sheet, with one
-- root for each line.
use Rattle.std.proofs.Common.{◌≡◌, ℕ, zero, suc, ◌+◌, ◌*◌, ◌/◌, ◌<◌, ◌≤◌, true, eqb, ltb, leb, List, [], ◌∷◌, ◌++◌, length, refl, ap, mod-lt, arith, length-append, le-ltb, leb-true}
use mathlib.Core.Option.{Option}
use Rattle.lex.specs.Lex.{cut, tokens_from}
use Rattle.lex.proofs.Laws.{cases, agree}
use Rattle.rules.specs.Tree.{Tree}
use Rattle.ast.specs.declared.Counts.{Counts}
use Rattle.rules.specs.Parse.{parse}
use Rattle.lex.specs.Answer.{max_bytes}
use Rattle.rules.specs.Promise.{outcome, promised}
use Rattle.text.specs.Text.{bytes, digits, number as decimal}
use Rattle.text.specs.Emit.{plain}
use Rattle.text.proofs.Plain.{plain-append, number-plain}
use Rattle.practice.specs.Practice.{next, Drawn, draw, map_drawn, Expr, number, sum, negated, leaf, sum_of, picked, expression, top_level, expressions, name_text, text, line, lines_from, sheet}
use Rattle.practice.specs.Practice as P
use Rattle.practice.specs.Accepted.{Signs, SheetsAccepted, SheetsAnswered}
use Rattle.practice.proofs.Spelled.{depth, Shallow}
use Rattle.practice.proofs.Lexed.{lines_lexed}
use Rattle.practice.proofs.Read.{ReadAs, sheet-read}

-- ---- an expression that is drawn is shallow and short

-- the most bytes of an expression of a level
abbrev longest : ℕ → ℕ
longest zero = 2
longest (suc level) = longest level + longest level + 5

-- at most so deep, and so many bytes
record Small (level : ℕ) (e : Expr) : Type 0 where
  shallow : depth e ≤ level + level
  short : length (text e) ≤ longest level

draw-below : (count seed : ℕ) → 0 < count → (draw count seed).value < count
unfolding draw
draw-below count seed h = mod-lt (next seed / 65536) h

two_digits : (n : ℕ) → n < 100 → length (decimal n) ≤ 2
unfolding decimal digits
two_digits n h = leb-true _ _ (agree (λ (k : ℕ). leb (length (decimal k)) 2) (λ (k : ℕ). true) true 100 n refl h)

one_digit : (n : ℕ) → n < 10 → length (decimal n) ≤ 1
unfolding decimal digits
one_digit n h = leb-true _ _ (agree (λ (k : ℕ). leb (length (decimal k)) 1) (λ (k : ℕ). true) true 10 n refl h)

longest_some : (level : ℕ) → 2 ≤ longest level
longest_some zero = omega arith
longest_some (suc level) = omega (arith, longest_some level)

leaf-small : (level pick seed : ℕ) → Small level (leaf pick seed).value
unfolding leaf map_drawn text name_text bytes
leaf-small level pick seed =
    cases (λ (d : Drawn Expr). Small level d.value) (eqb pick 0)
    (λ e. record {
      shallow = omega arith;
      short = omega (
        arith,
        longest_some level,
        two_digits _
            (draw-below 100 seed (omega arith)),
      );
    })
    (λ e. record {
      shallow = omega arith;
      short = omega (
        arith,
        longest_some level,
        one_digit _
            (draw-below 10 seed (omega arith)),
      );
    })

module _ (level : ℕ) (part : ℕ → Drawn Expr) (small : (seed : ℕ) → Small level (part seed).value) where
  sum-short : (a b : Expr) → length (text (sum a b)) ≡ length (text a) + length (text b) + 5
  unfolding text bytes
  sum-short a b = omega (
    arith,
    length-append (text a) (32 ∷ 43 ∷ 32 ∷ (text b ++ (41 ∷ []))),
    length-append (text b)
        (41 ∷ []),
  )

  sum-small : (seed : ℕ) → Small (suc level) (sum_of part seed).value
  unfolding sum_of map_drawn
  sum-small seed =
      let a = small seed in
      let b = small (part seed).seed in
      record {
        shallow = omega (arith, a.shallow, b.shallow);
        short = omega (arith, a.short, b.short, sum-short (part seed).value (part (part seed).seed).value);
      }

  negated-small : (seed : ℕ) → Small (suc level) (map_drawn negated (part seed)).value
  unfolding map_drawn text bytes
  negated-small seed = let a = small seed in record {
    shallow = omega (arith, a.shallow);
    short = omega
        (arith, a.short);
  }

  picked-small : (pick seed : ℕ) → Small (suc level) (picked part pick seed).value
  unfolding picked
  picked-small pick seed =
      cases (λ (d : Drawn Expr). Small (suc level) d.value) (ltb pick 2) (λ e. leaf-small (suc level) pick seed)
      (λ e.
      cases (λ (d : Drawn Expr). Small (suc level) d.value) (eqb pick 2) (λ f. sum-small seed)
      (λ f. negated-small seed))

expression-small : (level seed : ℕ) → Small level (expression level seed).value
unfolding expression
expression-small zero seed = leaf-small zero _ _
expression-small (suc level) seed = picked-small level (expression level) (expression-small level) _ _

-- ---- the expressions of a sheet

expressions_shallow : (lines seed : ℕ) → Shallow 125 (expressions lines seed)
unfolding expressions
expressions_shallow zero seed = tt
expressions_shallow (suc lines) seed = (
  omega (arith, (expression-small top_level seed).shallow),
  expressions_shallow
      lines _,
)

expressions-count : (lines seed : ℕ) → length (expressions lines seed) ≡ lines
unfolding expressions
expressions-count zero seed = refl
expressions-count (suc lines) seed = ap suc (expressions-count lines _)

-- a line has at most 118 bytes
line-short : (i : ℕ) (e : Expr) → i < 100 → length (text e) ≤ 107 → length (line i e) ≤ 118
unfolding line name_text bytes
line-short i e h k = omega (
  arith,
  two_digits i h,
  length-append (decimal i)
      (32 ∷ 61 ∷ 32 ∷ (text e ++ (10 ∷ []))),
  length-append (text e) (10 ∷ []),
)

pub lines_short : (i lines seed : ℕ) → i + lines ≤ 100 → length (lines_from i (expressions lines seed)) ≤ lines * 118
unfolding lines_from expressions
lines_short i zero seed h = omega arith
lines_short i (suc lines) seed h =
    let e = expression top_level seed in
    omega (
      arith,
      line-short i e.value (omega arith) (expression-small top_level seed).short,
      lines_short (suc i)
          lines e.seed (omega arith),
      length-append (line i e.value) (lines_from (suc i) (expressions lines e.seed)),
    )

-- ---- a sheet is of bytes

text-plain : (e : Expr) → plain (text e) ≡ true
unfolding text name_text bytes plain
text-plain (number n) = number-plain n
text-plain (P.name n) = number-plain n
text-plain (sum a b) = plain-append (text a) (32 ∷ 43 ∷ 32 ∷ (text b ++ (41 ∷ []))) (text-plain a)
    (plain-append (text b) (41 ∷ []) (text-plain b) refl)
text-plain (negated a) = text-plain a

line_plain : (i : ℕ) (e : Expr) → plain (line i e) ≡ true
unfolding line name_text bytes plain
line_plain i e = plain-append (decimal i) (32 ∷ 61 ∷ 32 ∷ (text e ++ (10 ∷ []))) (number-plain i)
    (plain-append (text e) (10 ∷ []) (text-plain e) refl)

lines_plain : (i : ℕ) (es : List Expr) → plain (lines_from i es) ≡ true
unfolding lines_from plain
lines_plain i [] = refl
lines_plain i (e ∷ es) = plain-append (line i e) (lines_from (suc i) es) (line_plain i e) (lines_plain (suc i) es)

pub sheet-plain : (seed lines : ℕ) → plain (sheet seed lines) ≡ true
unfolding sheet
sheet-plain seed lines = lines_plain 0 (expressions lines seed)

-- ---- strict reading

-- whatever the number of lines
pub sheet_reads : (power : ℕ → Option ℕ) → Signs power → (seed lines : ℕ)
    → ReadAs (parse power (sheet seed lines)) lines
unfolding sheet cut tokens_from
sheet_reads power s seed lines =
    let es = expressions lines seed in
    rw (expressions-count lines seed) at (sheet-read power s.plus s.close (sheet seed lines) s.«let» s.eof
    es (lines_lexed (sheet seed lines) 0 es 0 refl) (expressions_shallow lines seed))

pub sheets_accepted : SheetsAccepted
unfolding sheet
sheets_accepted power s seed lines h =
    let r = sheet_reads power s seed lines in
    record {
      bytes = omega (arith, lines_short 0 lines seed (omega arith));
      tree = r.tree;
      accepted = r.reads;
      roots = r.roots;
    }

abbrev counts_of : Tree → Counts
counts_of t = record {
  nodes = length t.arena.nodes;
  types = length t.arena.types;
  cells = length t.arena.cells;
  roots = length t.roots;
  values = t.arena.values;
  diagnostics = 0;
}

pub sheets_answered : SheetsAnswered
unfolding promised outcome
sheets_answered power s seed lines h arrays long =
    let a = sheets_accepted power s seed lines h in
    record {
      counts = counts_of a.tree;
      answer = rw (le-ltb max_bytes (length (sheet seed lines)) a.bytes, long, promised)
          (ap (λ r. (outcome r arrays).answer) a.accepted);
      roots = a.roots;
    }
