-- The user's three demands of the exported functions, one theorem each (`demand1`, `demand2`,
-- `demand3`), from what these functions ensure.
use mathlib.Core.Path.{◌≡◌, refl, sym, ap, ◌∙◌, subst}
use mathlib.Core.Bool.{Bool, true, false}
use mathlib.Core.List.{List, [], ◌∷◌, map, flatten}
use Prim.Native.Nat.{ℕ, ◌*◌, ◌≤◌, ◌<◌}
use native.Mathlib.Omega.{arith}
use native.Mathlib.Nat.{mul-suc, mul-zero}
use lib.ListN.{length, drop, get_or, length-append}
use borrow.Author.Tests.{ltb-false}
use Rattle.lex.specs.Kind.{fixed_spelling}
use Rattle.lex.specs.Lex.{cut, tokens_of}
use Rattle.lex.specs.Spelling.{has_spelling}
use Rattle.lex.specs.declared.diagnostic.Diagnostic.{Diagnostic}
use Rattle.rules.specs.Tree.{Tree}
use Rattle.rules.specs.Rules.{stage_one}
use Rattle.rules.specs.Parse.{read, ended}
use Rattle.ast.specs.Layout.{node_width, type_width, padded, node_cells, type_cells, diagnostic_cells}
use Rattle.lex.specs.Answer.{Answer, answer}
use Rattle.rules.specs.Promise.{Arrays, too_short, zeroed, holding, Outcome, outcome, promised, numbers_of}
use Rattle.parser.specs.Steps.{turned_away, any_too_short, read_promised, parse_promised}
use Rattle.tokens.specs.Tables as T
use Rattle.rules.specs.Shape.{Word}
use Rattle.rules.specs.Strike.{no_doc_before_import_or_eof, notes_of, strike}
use Rattle.ast.specs.declared.Counts.{Counts}
use Rattle.rules.specs.Parsed as P
use Rattle.rules.proofs.Counting.Whole.{InBytes, in_bytes, parse_bounded}
use Rattle.rules.proofs.Counting.Collect.{parse_collect_bounded, parse_collect-errors}
use Rattle.rules.proofs.Counting.Cells.{parse-cells, parse_collect-cells}
use Rattle.rules.proofs.Numbers.{IsError, parse-error, parse_collect-error}
use Rattle.rules.proofs.Unique.Docs.{no-doc_weaker}
use Rattle.ast.proofs.LayoutLaws.{node-length, type-length}
use Rattle.compare.specs.Compare.{compare}
use Rattle.compare.specs.Returned.{Mode, strict, collecting, reading, YesOrNo, yes, no}
use Rattle.compare.proofs.Held.{or-false, no-eof, strict-read, strict-errors}
use Rattle.c_api.specs.Numbers.{counts_at, number_cells, reading_cells, Returned, as_numbers, BothReturned, both_numbers, answer_cells, Answers, yes_cells}
use Rattle.c_api.proofs.Calls.{Steps, both, second, due, uncut, Comes, out_long, out_short, out_uncut, out_tree, out_error, comes, same_as_promised, TablesLeft, tables_left}
use Rattle.c_api.proofs.UniqueReading.{Read, lent_by, compared_trees, same-tokens}

-- what a call ensures of what it is lent (both tables, the arrays, the numbers) and of what it
-- returns and leaves: both steps by their equation; reading alone by its own, and it only reads the
-- tables, which are lent as `&`
abbrev pub Ensured : Steps → Mode → (script tokens errors : List ℕ) → Arrays → List ℕ → BothReturned → Type 0
Ensured both mode script tokens errors lent out r = both_numbers (parse_promised (reading mode) script tokens errors lent) out ≡ r
Ensured second mode script tokens errors lent out r = (as_numbers (read_promised (reading mode) script tokens errors lent) out ≡ r.reading) × (r.tokens ≡ tokens) × (r.errors ≡ errors)

-- a call of `purple_garden_parse` (both steps, strict), `purple_garden_parse_collect` (both steps,
-- collecting), `purple_garden_read` (the second, strict) or `purple_garden_read_collect` (the second,
-- collecting) with what the function ensures: `tokens_lent`, `errors_lent`, `lent` and `numbers_lent`
-- before, `number` returned, `tokens_left`, `errors_left`, `left` and `numbers` after
pub record ReadingCall (steps : Steps) (mode : Mode) (script : List ℕ) : Type 0 where
  pub tokens_lent : List ℕ
  pub errors_lent : List ℕ
  pub lent : Arrays
  pub numbers_lent : List ℕ
  pub number : ℕ
  pub tokens_left : List ℕ
  pub errors_left : List ℕ
  pub left : Arrays
  pub numbers : List ℕ
  pub ensured : Ensured steps mode script tokens_lent errors_lent lent numbers_lent (record { reading = record { number = number; numbers = numbers; arrays = left }; tokens = tokens_left; errors = errors_left })

-- ---- 2: answer and arrays are those of the rules, with the number that is returned

-- the answer and the arrays that are due
abbrev pub due_of : (steps : Steps) (mode : Mode) (script : List ℕ) → ReadingCall steps mode script → Outcome
due_of steps mode script c = due steps (reading mode) script c.tokens_lent c.errors_lent c.lent

pub record Demand2 (steps : Steps) (mode : Mode) (script : List ℕ) (c : ReadingCall steps mode script) : Type 0 where
  pub number : c.number ≡ (numbers_of (due_of steps mode script c).answer).number
  pub numbers : c.numbers ≡ reading_cells (due_of steps mode script c).answer c.numbers_lent
  pub arrays : c.left ≡ (due_of steps mode script c).arrays
  -- a call that nothing refuses: what the rules alone say
  pub of_rules : length script ≤ 65536 → any_too_short script c.tokens_lent c.errors_lent c.lent ≡ false → uncut steps script c.tokens_lent c.errors_lent ≡ false → due_of steps mode script c ≡ promised (reading mode) script c.lent

-- of answer, numbers and arrays
in_numbers : (steps : Steps) (mode : Mode) (script : List ℕ) (c : ReadingCall steps mode script) → as_numbers (due_of steps mode script c) c.numbers_lent ≡ record { number = c.number; numbers = c.numbers; arrays = c.left }
unfolding both_numbers
in_numbers both mode script c = ap (λ (r : BothReturned). r.reading) c.ensured
in_numbers second mode script c = c.ensured.0

pub demand2 : (steps : Steps) (mode : Mode) (script : List ℕ) (c : ReadingCall steps mode script) → Demand2 steps mode script c
unfolding as_numbers
demand2 steps mode script c =
    let e = in_numbers steps mode script c in
    record {
      number = sym (ap (λ (r : Returned). r.number) e);
      numbers = sym (ap (λ (r : Returned). r.numbers) e);
      arrays = sym (ap (λ (r : Returned). r.arrays) e);
      of_rules = same_as_promised (reading mode) script c.tokens_lent c.errors_lent c.lent steps;
    }

-- ---- the tables

-- reading alone changes neither
pub tables_kept : (mode : Mode) (script : List ℕ) (c : ReadingCall second mode script) → (c.tokens_left ≡ c.tokens_lent) × (c.errors_left ≡ c.errors_lent)
tables_kept mode script c = (c.ensured.1, c.ensured.2)

-- both steps leave what cutting leaves, or leave them untouched
pub tables_cut : (mode : Mode) (script : List ℕ) (c : ReadingCall both mode script) → TablesLeft script c.tokens_lent c.errors_lent c.lent c.tokens_left c.errors_left
unfolding both_numbers
tables_cut mode script c =
    subst (λ (r : BothReturned). TablesLeft script c.tokens_lent c.errors_lent c.lent r.tokens r.errors) c.ensured (tables_left (reading mode) script c.tokens_lent c.errors_lent c.lent)

-- ---- 'these always suffice'

laid-length : {R : Type 0} (width : ℕ) (enc : R → List ℕ) (size : (r : R) → length (enc r) ≡ width) (rs : List R) → length (flatten (map enc rs)) ≡ width * length rs
unfolding flatten
laid-length width enc size [] = sym (mul-zero width)
laid-length width enc size (r ∷ rs) = omega (arith, length-append (enc r) (flatten (map enc rs)), size r, laid-length width enc size rs, mul-suc width (length rs))

five : (e : Diagnostic) → length (diagnostic_cells e) ≡ 5
unfolding diagnostic_cells
five e = refl

-- what a reading makes, against the bytes of the script
record Makes (script : List ℕ) (t : Tree) (es : List Diagnostic) : Type 0 where
  pub bounds : InBytes script t
  pub cells : length t.arena.cells ≤ 8 * length script
  pub errors : length es ≤ length script

makes : (mode : Mode) (script : List ℕ) (t : Tree) (es : List Diagnostic) → reading mode script ≡ read t es → Makes script t es
makes strict script t es e =
    let s = strict-read script t es e in
    record { bounds = in_bytes script t (parse_bounded stage_one no-eof script t s); cells = parse-cells stage_one no-eof script t s; errors = omega (arith, ap length (strict-errors script t es e)) }
makes collecting script t es e = record { bounds = in_bytes script t (parse_collect_bounded stage_one no-eof script t es e); cells = parse_collect-cells stage_one no-eof script t es e; errors = parse_collect-errors stage_one no-eof script t es e }

-- ---- 1: the arrays are untouched, or hold the whole tree with zeros behind it, or only zeros

-- these cells in front, all of them, and zeros behind
pub record InFront (cells lent left : List ℕ) : Type 0 where
  pub whole : length cells ≤ length lent
  pub is : left ≡ padded (length lent) cells

pub record WholeTree (mode : Mode) (script : List ℕ) (l l' : Arrays) : Type 0 where
  pub tree : Tree
  pub errors : List Diagnostic
  pub is_read : reading mode script ≡ read tree errors
  pub nodes : InFront (flatten (map node_cells tree.arena.nodes)) l.nodes l'.nodes
  pub types : InFront (flatten (map type_cells tree.arena.types)) l.types l'.types
  pub lists : InFront tree.arena.cells l.lists l'.lists
  pub roots : InFront tree.roots l.roots l'.roots
  pub diagnostics : InFront (flatten (map diagnostic_cells errors)) l.diagnostics l'.diagnostics

pub data TreeOrZeros (mode : Mode) (script : List ℕ) (l l' : Arrays) : Type 0 where
  a_tree : WholeTree mode script l l' → TreeOrZeros mode script l l'
  only_zeros : l' ≡ zeroed l → TreeOrZeros mode script l l'

-- untouched where the script is too long (1), where an array or a table is too short (2), and where
-- a call that only reads is lent other tables than cutting the script leaves (43)
pub record Demand1 (steps : Steps) (mode : Mode) (script tokens errors : List ℕ) (l l' : Arrays) : Type 0 where
  pub over_limit : 65536 < length script → l' ≡ l
  pub short : any_too_short script tokens errors l ≡ true → l' ≡ l
  pub other_tables : uncut steps script tokens errors ≡ true → l' ≡ l
  pub otherwise : length script ≤ 65536 → any_too_short script tokens errors l ≡ false → uncut steps script tokens errors ≡ false → TreeOrZeros mode script l l'

-- what is lent is long enough
record Enough (script : List ℕ) (l : Arrays) : Type 0 where
  pub nodes : node_width * length script ≤ length l.nodes
  pub types : type_width * length script ≤ length l.types
  pub lists : 8 * length script ≤ length l.lists
  pub roots : length script ≤ length l.roots
  pub diagnostics : 5 * length script ≤ length l.diagnostics

enough : (script tokens errors : List ℕ) (l : Arrays) → any_too_short script tokens errors l ≡ false → Enough script l
unfolding any_too_short too_short
enough script tokens errors l k =
    let p = or-false _ _ (or-false (too_short script l) (T.too_short script tokens errors) k).0 in
    let q = or-false _ _ p.1 in
    let r = or-false _ _ q.1 in
    let u = or-false _ _ r.1 in
    record { nodes = ltb-false _ _ p.0; types = ltb-false _ _ q.0; lists = ltb-false _ _ r.0; roots = ltb-false _ _ u.0; diagnostics = ltb-false _ _ u.1 }

module _ (steps : Steps) (mode : Mode) (script tokens errors : List ℕ) (l : Arrays) where
  whole-tree : (t : Tree) (es : List Diagnostic) → reading mode script ≡ read t es → any_too_short script tokens errors l ≡ false → WholeTree mode script l (holding t es l)
  unfolding holding
  whole-tree t es p k =
      let m = makes mode script t es p in
      let b = m.bounds in
      let h = enough script tokens errors l k in
      record {
        tree = t;
        errors = es;
        is_read = p;
        nodes = record { whole = omega (arith, laid-length node_width node_cells node-length t.arena.nodes, b.nodes, h.nodes); is = refl };
        types = record { whole = omega (arith, laid-length type_width type_cells type-length t.arena.types, b.made, h.types); is = refl };
        lists = record { whole = omega (arith, m.cells, h.lists); is = refl };
        roots = record { whole = omega (arith, b.roots, h.roots); is = refl };
        diagnostics = record { whole = omega (arith, laid-length 5 diagnostic_cells five es, m.errors, h.diagnostics); is = refl };
      }

  untouched : (n : ℕ) → (length script ≤ 65536 → any_too_short script tokens errors l ≡ false → uncut steps script tokens errors ≡ false → ⊥) → Demand1 steps mode script tokens errors l (turned_away n l).arrays
  untouched n taken = record { over_limit = λ x. refl; short = λ x. refl; other_tables = λ x. refl; otherwise = λ x y z. absurd (taken x y z) }

  filled : {l' : Arrays} → length script ≤ 65536 → any_too_short script tokens errors l ≡ false → uncut steps script tokens errors ≡ false → TreeOrZeros mode script l l' → Demand1 steps mode script tokens errors l l'
  filled h k u t = record {
    over_limit = λ x. absurd (omega arith);
    short = λ x. absurd (let z : ◌≡◌ {A = ℕ} 0 1 = cc in omega arith);
    other_tables = λ x. absurd (let z : ◌≡◌ {A = ℕ} 0 1 = cc in omega arith);
    otherwise = λ x y z. t;
  }

  leaves : (o : Outcome) → Comes steps (reading mode) script tokens errors l o → Demand1 steps mode script tokens errors l o.arrays
  unfolding outcome
  leaves o (out_long h) = untouched 1 (λ x y z. omega arith)
  leaves o (out_short h k) = untouched 2 (λ x y z. let w : ◌≡◌ {A = ℕ} 0 1 = cc in omega arith)
  leaves o (out_uncut h k u) = untouched 43 (λ x y z. let w : ◌≡◌ {A = ℕ} 0 1 = cc in omega arith)
  leaves o (out_tree h k u t es p) = filled h k u (a_tree (whole-tree t es p k))
  leaves o (out_error h k u e p) = filled h k u (only_zeros refl)

pub demand1 : (steps : Steps) (mode : Mode) (script : List ℕ) (c : ReadingCall steps mode script) → Demand1 steps mode script c.tokens_lent c.errors_lent c.lent c.left
demand1 steps mode script c =
    subst (Demand1 steps mode script c.tokens_lent c.errors_lent c.lent) (sym (demand2 steps mode script c).arrays)
    (leaves steps mode script c.tokens_lent c.errors_lent c.lent _ (comes (reading mode) script c.tokens_lent c.errors_lent c.lent steps))

-- ---- 3: unique reading

-- the six counts among the twelve numbers of a reading
abbrev pub counts_in : List ℕ → Counts
counts_in numbers = counts_at (drop 6 numbers)

-- the error that ends a reading has a number from 10 on
ends_numbered : (mode : Mode) (script : List ℕ) (e : Diagnostic) → reading mode script ≡ ended e → IsError e
ends_numbered strict script e p = parse-error stage_one script e p
ends_numbered collecting script e p = parse_collect-error stage_one script e p

module _ (steps : Steps) (mode : Mode) (script : List ℕ) (c : ReadingCall steps mode script) where
  -- number 0: a tree was read, and its counts are among the numbers
  tree-read : c.number ≡ 0 → Read mode script c.left (counts_in c.numbers)
  unfolding outcome numbers_of reading_cells number_cells diagnostic_cells
  tree-read zero' =
      let d = demand2 steps mode script c in
      go (due_of steps mode script c) (comes (reading mode) script c.tokens_lent c.errors_lent c.lent steps) refl (sym d.number ∙ zero') d.numbers d.arrays
    where
      refused : (n : ℕ) → due_of steps mode script c ≡ turned_away n c.lent → (numbers_of (due_of steps mode script c).answer).number ≡ 0 → n ≡ 0
      refused n e z = ap (λ (x : Outcome). (numbers_of x.answer).number) (sym e) ∙ z

      go : (o : Outcome) → Comes steps (reading mode) script c.tokens_lent c.errors_lent c.lent o → due_of steps mode script c ≡ o → (numbers_of (due_of steps mode script c).answer).number ≡ 0
          → c.numbers ≡ reading_cells (due_of steps mode script c).answer c.numbers_lent → c.left ≡ (due_of steps mode script c).arrays → Read mode script c.left (counts_in c.numbers)
      go o (out_long h) e n w a = absurd (omega (arith, refused 1 e n))
      go o (out_short h k) e n w a = absurd (omega (arith, refused 2 e n))
      go o (out_uncut h k u) e n w a = absurd (omega (arith, refused 43 e n))
      go o (out_error h k u x p) e n w a = absurd (let z : x.number ≡ 0 = ap (λ (y : Outcome). (numbers_of y.answer).number) (sym e) ∙ n in omega (arith, (ends_numbered mode script x p).0))
      go o (out_tree h k u t es p) e n w a =
          let counts : Counts = record { nodes = length t.arena.nodes; types = length t.arena.types; cells = length t.arena.cells; roots = length t.roots; values = t.arena.values; diagnostics = length es } in
          let m : counts_in c.numbers ≡ counts = ap counts_in (w ∙ ap (λ (x : Outcome). reading_cells x.answer c.numbers_lent) e) in
          let q : due_of steps mode script c ≡ record { answer = P.Tree counts; arrays = c.left } = e ∙ ap (λ (x : Arrays). record { answer = P.Tree counts; arrays = x }) (sym (a ∙ ap (λ (x : Outcome). x.arrays) e)) in
          record { steps = steps; tokens = c.tokens_lent; errors = c.errors_lent; lent = c.lent; ensured = q ∙ ap (λ (x : Counts). record { answer = P.Tree x; arrays = c.left }) (sym m) }

-- a call of `purple_garden_same_shape` on the scripts, arrays and counts that two readings left,
-- with what the function ensures: `before` in the cell, `number` returned, `after` in the cell
pub record ComparingCall (k₁ k₂ : Steps) (s₁ s₂ : List ℕ) (a : ReadingCall k₁ strict s₁) (b : ReadingCall k₂ strict s₂) : Type 0 where
  pub before : List ℕ
  pub number : ℕ
  pub after : List ℕ
  pub ensured : Answers yes_cells (compare (lent_by s₁ a.left (counts_in a.numbers)) (lent_by s₂ b.left (counts_in b.numbers))) number before after

-- the user's conditions on a script: no doc comment whose next token is an import or Eof; one
-- default in each match, written last. (An accepted match has a default (18); it is the only one
-- and last where no block follows one)
pub record Conditions (script : List ℕ) : Type 0 where
  pub docs : no_doc_before_import_or_eof (tokens_of (cut script)) ≡ true
  pub defaults : (notes_of stage_one script).after_default ≡ 0

-- a token's spelling: its own, or the one that its kind fixes
unfoldable pub spelling_of : Word → List ℕ
spelling_of w = elim (has_spelling w.kind) [ true ↦ w.spelling | false ↦ fixed_spelling w.kind ]

abbrev no_token : Word
no_token = record { kind = 0; spelling = [] }

-- equally many tokens, in the same order, with the same kind and spelling at each place
pub record SameTokens (xs ys : List Word) : Type 0 where
  pub equally_many : length xs ≡ length ys
  pub kinds : (i : ℕ) → i < length xs → (get_or xs i no_token).kind ≡ (get_or ys i no_token).kind
  pub spellings : (i : ℕ) → i < length xs → spelling_of (get_or xs i no_token) ≡ spelling_of (get_or ys i no_token)

same-words : {xs ys : List Word} → xs ≡ ys → SameTokens xs ys
same-words e = record { equally_many = ap length e; kinds = λ i h. ap (λ (l : List Word). (get_or l i no_token).kind) e; spellings = λ i h. ap (λ (l : List Word). spelling_of (get_or l i no_token)) e }

module _ (k₁ k₂ : Steps) (s₁ s₂ : List ℕ) (a : ReadingCall k₁ strict s₁) (b : ReadingCall k₂ strict s₂) (x : ComparingCall k₁ k₂ s₁ s₂ a b) where
  -- two strict readings, each of both steps or of the second, answer 0, the comparison of what they left answers 0 with 1 in its cell:
  -- then striking leaves the same tokens of both scripts
  pub demand3 : a.number ≡ 0 → b.number ≡ 0 → x.number ≡ 0 → x.after ≡ 1 ∷ [] → Conditions s₁ → Conditions s₂ → SameTokens (strike stage_one s₁) (strike stage_one s₂)
  unfolding answer_cells yes_cells
  demand3 a₀ b₀ x₀ one p q =
      let first = tree-read k₁ strict s₁ a a₀ in
      let second = tree-read k₂ strict s₂ b b₀ in
      let t = compared_trees strict strict s₁ s₂ a.left b.left (counts_in a.numbers) (counts_in b.numbers) first second in
      same-words (same-tokens s₁ s₂ a.left b.left (counts_in a.numbers) (counts_in b.numbers) first second (told t.0 t.1 _ t.6 x.ensured) (no-doc_weaker _ p.docs) (no-doc_weaker _ q.docs) p.defaults q.defaults)
    where
      told : (t₁ t₂ : Tree) (y : Answer Bool) → YesOrNo s₁ t₁ s₂ t₂ y → Answers yes_cells y x.number x.before x.after → y ≡ answer true
      told t₁ t₂ y (yes shapes) h = refl
      told t₁ t₂ y (no differ) h = absurd (let z : ◌≡◌ {A = List ℕ} (1 ∷ []) (0 ∷ []) = sym one ∙ h.1 in let o : ◌≡◌ {A = ℕ} 1 0 = cc in omega arith)
