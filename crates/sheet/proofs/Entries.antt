-- The lines of one error: when it is refused, how many there are, what they are made of, and that
-- its words can be read back from them.
-- Assumes nothing.
use mathlib.Core.Path.{◌≡◌, refl, sym, ◌∙◌, ap}
use mathlib.Core.Bool.{Bool, true, false}
use mathlib.Core.Option.{Option, none, some}
use mathlib.Core.List.{List, [], ◌∷◌, ◌++◌}
use Prim.Native.Nat.{ℕ, zero, suc, ◌+◌, ◌*◌, ◌/◌, ◌%◌, ◌<◌, ◌≤◌, min}
use native.Mathlib.Omega.{arith}
use lib.Dec.{leb, ltb}
use lib.ListN.{length, take, drop, length-append, length-drop}
use borrow.Author.Tests.{leb-true, leb-false, ltb-true, ltb-false}
use Rattle.lex.specs.declared.diagnostic.Diagnostic.{Diagnostic}
use Rattle.lex.specs.Answer.{max_bytes, Answer, refused, answer}
use Rattle.positions.specs.Position.{place_of, place_at}
use Rattle.positions.specs.declared.Place.{Place}
use Rattle.positions.proofs.Places.{place_outside, place_inside, near}
use Rattle.words.specs.Words.{words, printable}
use Rattle.words.proofs.Forms.{worded, script-error-small, script-error_two_digits}
use Rattle.words.proofs.Lines.{is_line}
use Rattle.sheet.specs.Sheet.{heading, body, entry, words_in, blank}
use Rattle.sheet.specs.Count.{sized, text_in, lines_at}
use Rattle.sheet.proofs.Length.{heading-length, heading-seen, line_count, pieces-length}
use Rattle.sheet.proofs.Back.{words_back}
use Rattle.sheet.proofs.Rows.{InLines, printable-heading, lines_of}

-- ---- refusals

module _ (script : List ℕ) (e : Diagnostic) where
  pub entry_wordless : words e ≡ none → entry script e ≡ refused 42
  unfolding entry
  entry_wordless p = rw (p, entry)

  module _ {w : List ℕ} (p : words e ≡ some w) where
    entry-at-place : entry script e ≡ elim (place_at script e.start) as (λ (_ : Answer Place). Answer (List ℕ)) [ refused n ↦ refused n | answer q ↦ answer (heading q e.number ++ body w) ]
    unfolding entry
    entry-at-place = rw (p, entry)

    pub entry-refused : {n : ℕ} → place_at script e.start ≡ refused n → entry script e ≡ refused n
    entry-refused q = rw q at entry-at-place

    pub entry-placed : {q : Place} → place_at script e.start ≡ answer q → entry script e ≡ answer (heading q e.number ++ body w)
    entry-placed q = rw q at entry-at-place

-- ---- the lines at a place

module _ (p : Place) (e : Diagnostic) where
  pub lines_wordless : words e ≡ none → lines_at p e ≡ []
  unfolding lines_at
  lines_wordless q = rw (q, lines_at)

  pub lines_worded : {w : List ℕ} → words e ≡ some w → lines_at p e ≡ heading p e.number ++ body w
  unfolding lines_at
  lines_worded q = rw (q, lines_at)

module _ (script : List ℕ) (e : Diagnostic) where
  pub entry_nowhere : {n : ℕ} → place_at script e.start ≡ refused n → text_in (entry script e) ≡ []
  entry_nowhere {n} q = go (words e) refl
    where
      go : (o : Option (List ℕ)) → words e ≡ o → text_in (entry script e) ≡ []
      go none p = ap text_in (entry_wordless script e p)
      go (some w) p = ap text_in (entry-refused script e p q)

  pub entry_at : {q : Place} → place_at script e.start ≡ answer q → text_in (entry script e) ≡ lines_at q e
  entry_at {q} h = go (words e) refl
    where
      go : (o : Option (List ℕ)) → words e ≡ o → text_in (entry script e) ≡ lines_at q e
      go none p = ap text_in (entry_wordless script e p) ∙ sym (lines_wordless q e p)
      go (some w) p = ap text_in (entry-placed script e p h) ∙ sym (lines_worded q e p)

-- ---- an error that is not refused

module _ (script : List ℕ) (e : Diagnostic) (w : List ℕ) (small : length script ≤ max_bytes) (p : words e ≡ some w) where
  front : List ℕ
  front = heading (place_of (take e.start script)) e.number

  front_length : length front ≡ 15
  unfolding front
  front_length =
      let n = near script e.start small in
      let r = worded e w p in
      let l : e.number < 35 = script-error-small e.number r.listed in
      heading-length (place_of (take e.start script)) e.number (omega arith) (omega arith) (script-error_two_digits e.number r.listed) (omega arith)

  front-ascii : printable front ≡ true
  unfolding front
  front-ascii = printable-heading (place_of (take e.start script)) e.number

  module _ (inside : e.start ≤ length script) where
    entry-inside : entry script e ≡ answer (front ++ body w)
    unfolding front
    entry-inside = entry-placed script e p (sym (place_inside script e.start small inside))

    -- the words can be read back
    entry-back : {t : List ℕ} → entry script e ≡ answer t → words_in t ≡ w
    entry-back {t} q =
        let a : answer t ≡ answer (front ++ body w) = sym q ∙ entry-inside in
        let b : t ≡ front ++ body w = cc in
        ap words_in b ∙ words_back front w front_length (is_line e w p).last

    entry_size : sized (entry script e) ≡ answer (73 * line_count (suc (length w)) w)
    unfolding body
    entry_size =
        let a : length (front ++ body w) ≡ 73 * line_count (suc (length w)) w = length-append front (body w) ∙ ap (λ (n : ℕ). n + length (body w)) front_length ∙ pieces-length (suc (length w)) w (omega arith) in
        rw entry-inside (ap answer a)

-- what is not refused starts inside the script
inside_of : (script : List ℕ) (e : Diagnostic) (w t : List ℕ) → length script ≤ max_bytes → words e ≡ some w → entry script e ≡ answer t → e.start ≤ length script
inside_of script e w t small p q = go (ltb (length script) e.start) refl
  where
    go : (u : Bool) → ltb (length script) e.start ≡ u → e.start ≤ length script
    go true h =
        let a : refused 3 ≡ answer t = sym (entry-refused script e p (sym (place_outside script e.start small (ltb-true (length script) e.start h)))) ∙ q in
        absurd (let z : ◌≡◌ {A = ℕ} 0 1 = cc in omega arith)
    go false h = ltb-false (length script) e.start h

-- cutting off the margins and the last padding and joining the pieces gives the words back
pub back : (script : List ℕ) (e : Diagnostic) (w t : List ℕ) → length script ≤ max_bytes → words e ≡ some w → entry script e ≡ answer t → words_in t ≡ w
back script e w t small p q = entry-back script e w small p (inside_of script e w t small p q) q

-- ---- how many lines

line_count_is : (fuel : ℕ) (w : List ℕ) → length w < fuel → 0 < length w → line_count fuel w ≡ length w / 57 + min 1 (length w % 57)
line_count_is zero w f h = absurd (omega arith)
line_count_is (suc fuel) w f h = go (leb (length w) 57) refl (line_count_is fuel (drop 57 w))
  where
    go : (t : Bool) → leb (length w) 57 ≡ t
        → (length (drop 57 w) < fuel → 0 < length (drop 57 w) → line_count fuel (drop 57 w) ≡ length (drop 57 w) / 57 + min 1 (length (drop 57 w) % 57))
        → line_count (suc fuel) w ≡ length w / 57 + min 1 (length w % 57)
    go true e more = let l = leb-true (length w) 57 e in rw (e, line_count) (omega arith)
    go false e more =
        let l = leb-false (length w) 57 e in
        let d = length-drop 57 w in
        let m = more (omega arith) (omega arith) in
        rw (e, line_count) (omega arith)

-- words are not empty
not-empty : (e : Diagnostic) (w : List ℕ) → words e ≡ some w → 0 < length w
not-empty e [] p = absurd ((is_line e [] p).first refl)
not-empty e (b ∷ w) p = omega arith

module _ (script : List ℕ) (e : Diagnostic) {w : List ℕ} (small : length script ≤ max_bytes) (p : words e ≡ some w) where
  pub size_outside : length script < e.start → refused 3 ≡ sized (entry script e)
  size_outside h = sym (ap sized (entry-refused script e p (sym (place_outside script e.start small h))))

  pub size_inside : {k : ℕ} → e.start ≤ length script → k ≡ length w / 57 + min 1 (length w % 57) → answer (73 * k) ≡ sized (entry script e)
  size_inside inside h =
      ap (λ (n : ℕ). answer (73 * n)) (h ∙ sym (line_count_is (suc (length w)) w (omega arith) (not-empty e w p)))
      ∙ sym (entry_size script e w small p inside)

-- ---- the lines themselves

-- what is not refused is in lines of 72 printable bytes and a line feed
pub entry_lines : (script : List ℕ) (e : Diagnostic) (t : List ℕ) → length script ≤ max_bytes → entry script e ≡ answer t → InLines t
unfolding body
entry_lines script e t small q = go (words e) refl
  where
    go : (o : Option (List ℕ)) → words e ≡ o → InLines t
    go none p = absurd (let b : refused 42 ≡ answer t = sym (entry_wordless script e p) ∙ q in let z : ◌≡◌ {A = ℕ} 0 1 = cc in omega arith)
    go (some w) p =
        let inside = inside_of script e w t small p q in
        let a : answer t ≡ answer (front script e w small p ++ body w) = sym q ∙ entry-inside script e w small p inside in
        let b : t ≡ front script e w small p ++ body w = cc in
        rw b (record { count = line_count (suc (length w)) w; holds = lines_of (suc (length w)) (front script e w small p) w (front_length script e w small p) (front-ascii script e w small p) (is_line e w p).ascii (omega arith) })

-- ---- what the lines of an error are made of

pub record Made (e : Diagnostic) (t : List ℕ) : Type 0 where
  pub front : List ℕ
  pub text : List ℕ
  pub is : t ≡ front ++ body text
  pub size : length front ≡ 15
  pub seen : blank front ≡ false
  pub there : words e ≡ some text

pub made : (script : List ℕ) (e : Diagnostic) (t : List ℕ) → length script ≤ max_bytes → entry script e ≡ answer t → Made e t
unfolding front
made script e t small q = go (words e) refl
  where
    go : (o : Option (List ℕ)) → words e ≡ o → Made e t
    go none p = absurd (let b : refused 42 ≡ answer t = sym (entry_wordless script e p) ∙ q in let z : ◌≡◌ {A = ℕ} 0 1 = cc in omega arith)
    go (some w) p =
        let inside = inside_of script e w t small p q in
        let a : answer t ≡ answer (front script e w small p ++ body w) = sym q ∙ entry-inside script e w small p inside in
        record { front = front script e w small p; text = w; is = cc; size = front_length script e w small p; seen = heading-seen (place_of (take e.start script)) e.number; there = p }

-- ---- no error takes more than three lines

pub few_lines : (script : List ℕ) (e : Diagnostic) (n : ℕ) → length script ≤ max_bytes → answer (73 * n) ≡ sized (entry script e) → n ≤ 3
few_lines script e n small q = go (words e) refl (ltb (length script) e.start) refl
  where
    go : (o : Option (List ℕ)) → words e ≡ o → (t : Bool) → ltb (length script) e.start ≡ t → n ≤ 3
    go none p t h = absurd (let a : answer (73 * n) ≡ refused 42 = q ∙ ap sized (entry_wordless script e p) in let z : ◌≡◌ {A = ℕ} 0 1 = cc in omega arith)
    go (some w) p true h = absurd (let a : answer (73 * n) ≡ refused 3 = q ∙ sym (size_outside script e small p (ltb-true _ _ h)) in let z : ◌≡◌ {A = ℕ} 0 1 = cc in omega arith)
    go (some w) p false h =
        let a : answer (73 * n) ≡ answer (73 * line_count (suc (length w)) w) = q ∙ entry_size script e w small p (ltb-false _ _ h) in
        let b : 73 * n ≡ 73 * line_count (suc (length w)) w = cc in
        let c = line_count_is (suc (length w)) w (omega arith) (not-empty e w p) in
        let d = (is_line e w p).short in
        omega arith
