-- The words back from a whole sheet: an error begins where a margin is not blank.
-- Assumes nothing.
use mathlib.Core.Path.{◌≡◌, refl, sym, ◌∙◌, ap}
use mathlib.Core.Bool.{Bool, true, false}
use mathlib.Core.List.{List, [], ◌∷◌, ◌++◌, append-nil, append_assoc}
use Prim.Native.Nat.{ℕ, zero, suc, ◌+◌, ◌-◌, ◌*◌, ◌/◌, ◌<◌, ◌≤◌}
use native.Mathlib.Omega.{arith}
use lib.Dec.{leb, ltb}
use lib.ListN.{length, take, drop, length-append, length-take, length-drop, length-replicate, take-append-drop}
use lib.Seq.{take_at, drop-drop}
use borrow.Author.Tests.{leb-true, leb-false, ltb-false}
use Rattle.lex.specs.Answer.{max_bytes, refused, answer}
use Rattle.words.specs.Words.{words}
use Rattle.words.proofs.Lines.{is_line}
use Rattle.sheet.specs.Sheet.{blanks, margin, pieces, body, entry, error_at, up_to, sheet_of, blank, Gathered, tell, gather, all_words, words_or, words_up_to}
use Rattle.sheet.proofs.Length.{line_count, pieces-length}
use Rattle.sheet.proofs.Back.{padding, first_piece, behind-piece, cut-back}
use Rattle.sheet.proofs.Entries.{made}
use Rattle.sheet.proofs.Joining.{split}

-- ---- one line in front

gather-line : (n : ℕ) (front piece rest : List ℕ) → length front ≡ 15 → length piece ≡ 57
    → gather (suc n) (front ++ (piece ++ (10 ∷ rest))) ≡ tell (blank front) (piece ++ (gather n rest).loose) (gather n rest).errors
unfolding gather
gather-line n front piece rest f p =
    let behind : drop 73 (front ++ (piece ++ (10 ∷ rest))) ≡ rest = sym (drop-drop 1 72 (front ++ (piece ++ (10 ∷ rest)))) ∙ ap (drop 1) (behind-piece front piece (10 ∷ rest) f p) in
    rw (behind, take_at front (piece ++ (10 ∷ rest)) 15 f, first_piece front piece (10 ∷ rest) f p)

-- ---- the lines of one error in front

gather-pieces : (fuel : ℕ) (front w rest : List ℕ) (m : ℕ) → length front ≡ 15 → length w < fuel → (gather m rest).loose ≡ []
    → gather (line_count fuel w + m) (front ++ (pieces fuel w ++ rest)) ≡ tell (blank front) (w ++ blanks (padding fuel w)) (gather m rest).errors
unfolding pieces blank
gather-pieces zero front w rest m f h o = absurd (omega arith)
gather-pieces (suc fuel) front w rest m f h o = go (leb (length w) 57) refl (gather-pieces fuel margin (drop 57 w) rest m)
  where
    go : (t : Bool) → leb (length w) 57 ≡ t
        → (length margin ≡ 15 → length (drop 57 w) < fuel → (gather m rest).loose ≡ []
        → gather (line_count fuel (drop 57 w) + m) (margin ++ (pieces fuel (drop 57 w) ++ rest)) ≡ tell (blank margin) (drop 57 w ++ blanks (padding fuel (drop 57 w))) (gather m rest).errors)
        → gather (line_count (suc fuel) w + m) (front ++ (pieces (suc fuel) w ++ rest)) ≡ tell (blank front) (w ++ blanks (padding (suc fuel) w)) (gather m rest).errors
    go true e more =
        let l : length w ≤ 57 = leb-true (length w) 57 e in
        let piece = w ++ blanks (57 - length w) in
        let size : length piece ≡ 57 = length-append w (blanks (57 - length w)) ∙ ap (λ (n : ℕ). length w + n) (length-replicate (57 - length w) 32) ∙ omega arith in
        let joins : (w ++ (blanks (57 - length w) ++ (10 ∷ []))) ++ rest ≡ piece ++ (10 ∷ rest) = ap (λ (s : List ℕ). s ++ rest) (sym (append_assoc w (blanks (57 - length w)) (10 ∷ []))) ∙ append_assoc piece (10 ∷ []) rest in
        let count : 1 + m ≡ suc m = omega arith in
        let nothing-loose : piece ++ (gather m rest).loose ≡ piece = ap (λ (s : List ℕ). piece ++ s) o ∙ append-nil piece in
        rw (e, pieces, line_count, padding, joins, count)
        (gather-line m front piece rest f size ∙ ap (λ (s : List ℕ). tell (blank front) s (gather m rest).errors) nothing-loose)
    go false e more =
        let l : 57 < length w = leb-false (length w) 57 e in
        let d : length (drop 57 w) ≡ length w - 57 = length-drop 57 w in
        let k : length (take 57 w) ≡ 57 = length-take 57 w ∙ omega arith in
        let below = margin ++ (pieces fuel (drop 57 w) ++ rest) in
        let n = line_count fuel (drop 57 w) in
        let joins : (take 57 w ++ ((10 ∷ margin) ++ pieces fuel (drop 57 w))) ++ rest ≡ take 57 w ++ (10 ∷ below) =
        append_assoc (take 57 w) ((10 ∷ margin) ++ pieces fuel (drop 57 w)) rest
        ∙ ap (λ (s : List ℕ). take 57 w ++ s) (append_assoc (10 ∷ margin) (pieces fuel (drop 57 w)) rest) in
        let count : suc n + m ≡ suc (n + m) = omega arith in
        let told : gather (n + m) below ≡ record { loose = drop 57 w ++ blanks (padding fuel (drop 57 w)); errors = (gather m rest).errors } = more refl (omega arith) o in
        let whole : take 57 w ++ (drop 57 w ++ blanks (padding fuel (drop 57 w))) ≡ w ++ blanks (padding fuel (drop 57 w)) =
        sym (append_assoc (take 57 w) (drop 57 w) (blanks (padding fuel (drop 57 w)))) ∙ ap (λ (s : List ℕ). s ++ blanks (padding fuel (drop 57 w))) (take-append-drop 57 w) in
        rw (e, pieces, line_count, padding, joins, count)
        (gather-line (n + m) front (take 57 w) below f k
        ∙ ap (λ (g : Gathered). tell (blank front) (take 57 w ++ g.loose) g.errors) told
        ∙ ap (λ (s : List ℕ). tell (blank front) s (gather m rest).errors) whole)

-- ---- all errors in front

pub record All (cells : List ℕ) (n : ℕ) (t rest : List ℕ) (m : ℕ) : Type 0 where
  pub lines : ℕ
  pub size : length t ≡ 73 * lines
  pub told : gather (lines + m) (t ++ rest) ≡ record { loose = []; errors = words_up_to cells n ++ (gather m rest).errors }

module _ (script cells : List ℕ) (small : length script ≤ max_bytes) where
  all : (n : ℕ) (t rest : List ℕ) (m : ℕ) → up_to (λ i. entry script (error_at cells i)) n ≡ answer t → (gather m rest).loose ≡ [] → All cells n t rest m
  unfolding up_to words_up_to body
  all zero t rest m p o =
      let e : t ≡ [] = cc in
      let none : 0 + m ≡ m = omega arith in
      let told : gather m rest ≡ record { loose = []; errors = (gather m rest).errors } = ap (λ (s : List ℕ). record { loose = s; errors = (gather m rest).errors }) o in
      record { lines = 0; size = ap length e; told = rw (e, none) told }
  all (suc n) t rest m p o =
      let s = split (λ i. entry script (error_at cells i)) n t p in
      let b = made script (error_at cells n) s.back small s.here in
      let w = b.text in
      let fuel = suc (length w) in
      let k = line_count fuel w in
      let e = is_line (error_at cells n) w b.there in
      let here : gather (k + m) (s.back ++ rest) ≡ record { loose = []; errors = w ∷ (gather m rest).errors } =
      ap (λ (l : List ℕ). gather (k + m) (l ++ rest)) b.is
      ∙ ap (gather (k + m)) (append_assoc b.front (pieces fuel w) rest)
      ∙ gather-pieces fuel b.front w rest m b.size (omega arith) o
      ∙ ap (λ (x : Bool). tell x (w ++ blanks (padding fuel w)) (gather m rest).errors) b.seen
      ∙ ap (λ (x : List ℕ). record { loose = []; errors = x ∷ (gather m rest).errors }) (cut-back w (padding fuel w) e.last) in
      let before = all n s.front (s.back ++ rest) (k + m) s.before (ap (λ (g : Gathered). g.loose) here) in
      let behind : (gather (k + m) (s.back ++ rest)).errors ≡ w ∷ (gather m rest).errors = ap (λ (g : Gathered). g.errors) here in
      let these : w ≡ words_or (words (error_at cells n)) = sym (ap words_or b.there) in
      let order : words_up_to cells n ++ (gather (k + m) (s.back ++ rest)).errors ≡ (words_up_to cells n ++ (words_or (words (error_at cells n)) ∷ [])) ++ (gather m rest).errors =
      ap (λ (l : List (List ℕ)). words_up_to cells n ++ l) (behind ∙ ap (λ (x : List ℕ). x ∷ (gather m rest).errors) these)
      ∙ sym (append_assoc (words_up_to cells n) (words_or (words (error_at cells n)) ∷ []) (gather m rest).errors) in
      let joins : t ++ rest ≡ s.front ++ (s.back ++ rest) = ap (λ (l : List ℕ). l ++ rest) (sym s.is) ∙ append_assoc s.front s.back rest in
      let count : before.lines + k + m ≡ before.lines + (k + m) = omega arith in
      let a = length-append s.front s.back in
      let c : length s.back ≡ 73 * k = ap length b.is ∙ length-append b.front (pieces fuel w) ∙ ap (λ (x : ℕ). x + length (pieces fuel w)) b.size ∙ pieces-length fuel w (omega arith) in
      let d = before.size in
      record {
        lines = before.lines + k;
        size = ap length (sym s.is) ∙ omega arith;
        told = ap (gather (before.lines + k + m)) joins
            ∙ ap (λ (x : ℕ). gather x (s.front ++ (s.back ++ rest))) count
            ∙ before.told
            ∙ ap (λ (l : List (List ℕ)). record { loose = []; errors = l }) order;
      }

-- the words of every error of a sheet, in turn, are read back from its text alone
pub sheet-back : (script cells t : List ℕ) → sheet_of script cells ≡ answer t → all_words t ≡ words_up_to cells (length cells / 5)
unfolding sheet_of all_words gather
sheet-back script cells t p = go (ltb max_bytes (length script)) refl
  where
    go : (b : Bool) → ltb max_bytes (length script) ≡ b → all_words t ≡ words_up_to cells (length cells / 5)
    go true e = absurd (let x : refused 1 ≡ answer t = rw (e, sheet_of) at p in let z : ◌≡◌ {A = ℕ} 0 1 = cc in omega arith)
    go false e =
        let a = all script cells (ltb-false max_bytes (length script) e) (length cells / 5) t [] 0 (rw (e, sheet_of) at p) refl in
        let s = a.size in
        let n : length t / 73 ≡ a.lines + 0 = omega arith in
        ap (λ (k : ℕ). (gather k t).errors) n
        ∙ ap (λ (l : List ℕ). (gather (a.lines + 0) l).errors) (sym (append-nil t))
        ∙ ap (λ (g : Gathered). g.errors) a.told
        ∙ append-nil (words_up_to cells (length cells / 5))
