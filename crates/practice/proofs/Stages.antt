-- What document 02 asks, by name: strict mode accepts every sheet, with one root per line.
use Rattle.std.proofs.Common.{◌≡◌, ℕ, ◌≤◌, Bool, true, false, ltb, List, ◌++◌, length, take, drop, refl, ap, ◌∙◌, arith, ltb-false, le-ltb}
use lib.Seq.{take-append_seam}
use Rattle.text.specs.Answer.{refused, written, Result, result, refuse, in_front}
use Rattle.rules.specs.Combinators.{choose}
use Rattle.rules.specs.Rules.{stage_one}
use Rattle.rules.specs.Promise.{Arrays, too_short}
use Rattle.practice.specs.Practice.{sheet, max_lines, promised}
use Rattle.practice.specs.Accepted.{Signs, Accepted, Answered, Delivered}
use Rattle.practice.proofs.Sheets.{lines_short, sheets_accepted, sheets_answered}

pub stage_one_lem : Signs stage_one
unfolding stage_one choose
stage_one_lem = record { plus = refl; close = refl; «let» = refl; eof = refl }

-- the reading rules of stage one
pub strict_accepts : (seed lines : ℕ) → lines ≤ max_lines → Accepted stage_one seed lines
strict_accepts = sheets_accepted stage_one stage_one_lem

-- what `parse` promises of its answer on the sheet, whatever arrays are lent that are long enough
pub strict-answers : (seed lines : ℕ) → lines ≤ max_lines → (arrays : Arrays)
    → too_short (sheet seed lines) arrays ≡ false → Answered stage_one seed lines arrays
strict-answers = sheets_answered stage_one stage_one_lem

not_refused : {n m : ℕ} → written n ≡ refused m → ⊥
not_refused a = let z : ◌≡◌ {A = ℕ} 0 1 = cc in omega arith

length_of_lem : {n m : ℕ} → written n ≡ written m → n ≡ m
length_of_lem a = cc

-- what `write_sheet` leaves in front of the buffer where it is not refused
pub delivered : (seed lines n : ℕ) (buffer out : List ℕ) → result (written n) out ≡ promised seed lines buffer
    → Delivered stage_one seed lines n out
unfolding promised
delivered seed lines n buffer out p =
    go (ltb max_lines lines) (ltb (length buffer) (length (sheet seed lines))) refl p
  where
    go : (t u : Bool) → ltb max_lines lines ≡ t
        → result (written n) out ≡ elim t as (λ (_ : Bool). Result) [
          | true ↦ refuse 47 buffer
          | false ↦ elim u as (λ (_ : Bool). Result) [ true ↦ refuse 48 buffer | false ↦ in_front (sheet seed lines) buffer ]
        ] → Delivered stage_one seed lines n out
    go true u e q = absurd (not_refused (ap (λ (x : Result). x.answer) q))
    go false true e q = absurd (not_refused (ap (λ (x : Result). x.answer) q))
    go false false e q =
        let s : n ≡ length (sheet seed lines) = length_of_lem (ap (λ (x : Result). x.answer) q) in
        let b : out ≡ sheet seed lines ++ drop (length (sheet seed lines)) buffer = ap (λ (x : Result). x.buffer) q in
        record {
          front = ap (λ (k : ℕ). take k out) s ∙ ap (take (length (sheet seed lines))) b
              ∙ take-append_seam (sheet seed lines) (drop (length (sheet seed lines)) buffer);
          accepted = strict_accepts seed lines (ltb-false max_lines lines e);
        }

-- a buffer of 1,888 bytes is long enough for every sheet
pub always_fits : (seed lines : ℕ) (buffer : List ℕ) → lines ≤ max_lines → 1888 ≤ length buffer
    → promised seed lines buffer ≡ in_front (sheet seed lines) buffer
unfolding promised sheet
always_fits seed lines buffer few room =
    let short = lines_short 0 lines seed (omega arith) in
    rw (le-ltb max_lines lines few, le-ltb (length buffer) (length (sheet seed lines)) (omega (arith, short)), promised)
