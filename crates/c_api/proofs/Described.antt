-- What the exported readings leave can be described: the error that ended one, and each that was
-- gathered, has words.
-- Assumes nothing.
use mathlib.Core.Path.{◌≡◌, refl}
use mathlib.Core.Bool.{Bool, true, false, ◌&&◌}
use mathlib.Core.List.{List}
use Prim.Native.Nat.{ℕ, ◌<◌, ◌≤◌}
use native.Mathlib.Omega.{arith}
use lib.Dec.{ltb}
use lib.ListN.{length, get_or, drop}
use Rattle.lex.specs.declared.diagnostic.Diagnostic.{Diagnostic}
use Rattle.rules.specs.Rules.{stage_one}
use Rattle.rules.specs.Parse.{Reading, read, ended, parse, parse_collect}
use Rattle.ast.specs.Layout.{diagnostic_cells}
use Rattle.lex.specs.Answer.{max_bytes}
use Rattle.rules.specs.Promise.{Arrays, Outcome, outcome, too_short, promised, numbers_of}
use Rattle.rules.specs.Parsed.{Parsed}
use Rattle.rules.specs.Parsed as P
use Rattle.text.specs.Emit.{plain}
use Rattle.text.proofs.EmitLaws.{and_left}
use Rattle.words.specs.Words.{is_script_error, is_wanted, is_seen, has_words, error_of}
use Rattle.words.proofs.Forms.{script-error_two_digits}
use Rattle.words.proofs.Readings.{error_in, Described, strict-described, collecting-described}
use Rattle.parser.specs.Steps.{read_promised, parse_promised}
use Rattle.c_api.specs.Numbers.{number_cells, reading_cells, Returned, as_numbers, both_numbers}
use Rattle.c_api.proofs.Calls.{Steps, both, second, due, of_all}

-- with 1 or 2 alone is it refused
pub record Small (o : Outcome) : Type 0 where
  pub refusal : (n : ℕ) → o.answer ≡ P.Refused n → (1 ≤ n) × (n ≤ 2)

module _ (how : List ℕ → Reading) (script : List ℕ) (l : Arrays) where
  refused-small : (n : ℕ) → 1 ≤ n → n ≤ 2 → Small (record { answer = P.Refused n; arrays = l })
  refused-small n h k = record { refusal = λ m p. let same : n ≡ m = cc in omega arith }

  outcome-small : (r : Reading) → Small (outcome r l)
  unfolding outcome
  outcome-small (read t es) = record { refusal = λ n p. absurd (let z : ◌≡◌ {A = ℕ} 0 1 = cc in omega arith) }
  outcome-small (ended e) = record { refusal = λ n p. absurd (let z : ◌≡◌ {A = ℕ} 0 1 = cc in omega arith) }

  small : Small (promised how script l)
  unfolding promised
  small = by_length (ltb max_bytes (length script))
    where
      by_arrays : (b : Bool) → Small (elim b as (λ b'. Outcome) [ true ↦ record { answer = P.Refused 2; arrays = l } | false ↦ outcome (how script) l ])
      by_arrays true = refused-small 2 (omega arith) (omega arith)
      by_arrays false = outcome-small (how script)

      by_length : (b : Bool)
          → Small (elim b as (λ b'. Outcome) [ true ↦ record { answer = P.Refused 1; arrays = l } | false ↦ elim (too_short script l) as (λ b'. Outcome) [ true ↦ record { answer = P.Refused 2; arrays = l } | false ↦ outcome (how script) l ] ])
      by_length true = refused-small 1 (omega arith) (omega arith)
      by_length false = by_arrays (too_short script l)

number_large : (e : Diagnostic) → has_words e ≡ true → 10 ≤ e.number
unfolding has_words
number_large e h =
    script-error_two_digits e.number
    (and_left (is_script_error e.number) (is_wanted e.number e.wanted) (and_left (is_script_error e.number && is_wanted e.number e.wanted) (is_seen e.number e.seen) h))

-- the five numbers behind the first where a reading ended in an error; each record of the
-- diagnostics array where it returned a tree
pub record Told (r : Returned) : Type 0 where
  pub error : 10 ≤ r.number → has_words (error_of (drop 1 r.numbers)) ≡ true
  pub gathered : r.number ≡ 0 → (i : ℕ) → i < get_or r.numbers 11 0 → has_words (error_in i r.arrays.diagnostics) ≡ true

told : (o : Outcome) (out : List ℕ) → Described o → Small o → Told (as_numbers o out)
unfolding as_numbers reading_cells numbers_of number_cells diagnostic_cells
told o out d s = record { error = error o.answer refl; gathered = gathered o.answer refl }
  where
    error : (a : Parsed) → o.answer ≡ a → 10 ≤ (numbers_of a).number → has_words (error_of (drop 1 (reading_cells a out))) ≡ true
    error (P.Tree c) e h = absurd (omega arith)
    error (P.Error x) e h = d.error x e
    error (P.Refused n) e h = absurd (let k = s.refusal n e in omega arith)

    gathered : (a : Parsed) → o.answer ≡ a → (numbers_of a).number ≡ 0 → (i : ℕ) → i < get_or (reading_cells a out) 11 0 → has_words (error_in i o.arrays.diagnostics) ≡ true
    gathered (P.Tree c) e z i h = d.gathered c e i h
    gathered (P.Error x) e z i h = absurd (let k = number_large x (d.error x e) in omega arith)
    gathered (P.Refused n) e z i h = absurd (let k = s.refusal n e in omega arith)

module _ (script tokens errors : List ℕ) (l : Arrays) (out : List ℕ) where
  module _ (how : List ℕ → Reading) where
    small-both : Small (due both how script tokens errors l)
    small-both =
        of_all how script tokens errors l both Small (refused-small how script l 1 (omega arith) (omega arith)) (refused-small how script l 2 (omega arith) (omega arith))
        (λ u. absurd (let z : ◌≡◌ {A = ℕ} 0 1 = cc in omega arith)) (small how script l)

    -- 43 is the only other refusal
    abbrev Other43 : Outcome → Type 0
    Other43 o = ((numbers_of o.answer).number ≡ 43 → ⊥) → Small o

    small_second : Other43 (due second how script tokens errors l)
    unfolding numbers_of
    small_second =
        of_all how script tokens errors l second Other43 (λ h. refused-small how script l 1 (omega arith) (omega arith)) (λ h. refused-small how script l 2 (omega arith) (omega arith))
        (λ u h. absurd (h refl)) (λ h. small how script l)

    due_described : (steps : Steps) → Described (promised how script l) → Described (due steps how script tokens errors l)
    due_described steps h = of_all how script tokens errors l steps Described (refused-described 1) (refused-described 2) (λ u. refused-described 43) h
      where
        refused-described : (n : ℕ) → Described (record { answer = P.Refused n; arrays = l })
        refused-described n = record {
          error = λ e p. absurd (let z : ◌≡◌ {A = ℕ} 0 1 = cc in omega arith);
          gathered = λ c p i k. absurd (let z : ◌≡◌ {A = ℕ} 0 1 = cc in omega arith);
        }

  -- `purple_garden_parse`
  pub parse_told : Told (both_numbers (parse_promised (parse stage_one) script tokens errors l) out).reading
  unfolding both_numbers
  parse_told = told (due both (parse stage_one) script tokens errors l) out (due_described (parse stage_one) both (strict-described stage_one script l)) (small-both (parse stage_one))

  -- `purple_garden_parse_collect`, whose script is made of bytes
  pub parse_collect_told : plain script ≡ true → Told (both_numbers (parse_promised (parse_collect stage_one) script tokens errors l) out).reading
  unfolding both_numbers
  parse_collect_told bytes = told (due both (parse_collect stage_one) script tokens errors l) out (due_described (parse_collect stage_one) both (collecting-described stage_one script l bytes)) (small-both (parse_collect stage_one))

  -- `purple_garden_read`: all but 43 as `purple_garden_parse`
  pub read_told : ((as_numbers (read_promised (parse stage_one) script tokens errors l) out).number ≡ 43 → ⊥) → Told (as_numbers (read_promised (parse stage_one) script tokens errors l) out)
  unfolding as_numbers
  read_told h = told (due second (parse stage_one) script tokens errors l) out (due_described (parse stage_one) second (strict-described stage_one script l)) (small_second (parse stage_one) h)

  -- `purple_garden_read_collect`, likewise
  pub read_collect_told : plain script ≡ true → ((as_numbers (read_promised (parse_collect stage_one) script tokens errors l) out).number ≡ 43 → ⊥) → Told (as_numbers (read_promised (parse_collect stage_one) script tokens errors l) out)
  unfolding as_numbers
  read_collect_told bytes h = told (due second (parse_collect stage_one) script tokens errors l) out (due_described (parse_collect stage_one) second (collecting-described stage_one script l bytes)) (small_second (parse_collect stage_one) h)
