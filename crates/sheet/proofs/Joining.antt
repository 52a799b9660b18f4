-- Texts one behind the other up to the first refusal, and the answers of the sheet.
-- Assumes nothing.
use mathlib.Core.Path.{◌≡◌, refl, sym, ◌∙◌, ap}
use mathlib.Core.Bool.{Bool, true, false}
use mathlib.Core.List.{List, [], ◌++◌}
use Prim.Native.Nat.{ℕ, zero, suc, ◌+◌, ◌*◌, ◌/◌, ◌<◌, ◌≤◌}
use native.Mathlib.Numerals.{add-one}
use native.Mathlib.Nat.{not-suc-le-zero}
use native.Mathlib.Omega.{arith}
use lib.Dec.{ltb}
use lib.ListN.{length, length-append}
use borrow.Author.Tests.{lt-ltb, le-ltb, ltb-true, ltb-false}
use Rattle.lex.specs.Answer.{max_bytes, Answer, refused, answer}
use Rattle.text.specs.Emit.{Emits, Writes, last, plain}
use Rattle.text.specs.Answer.{result, answer_of}
use Rattle.text.specs.declared.Writer.{Writer}
use Rattle.text.proofs.EmitLaws.{whole, by, and_then, writes_nothing, writes_by}
use Rattle.lex.specs.declared.diagnostic.Diagnostic.{Diagnostic}
use Rattle.lex.specs.declared.diagnostic.Refusal.{Refusal}
use Rattle.lex.specs.declared.diagnostic.Refusal.TheVariants.{TooLong, SheetTooShort}
use Rattle.lex.specs.Refusals.{number}
use Rattle.std.specs.Prelude.{Result, Ok, Err}
use Rattle.sheet.specs.Sheet.{entry, error_at, join_to, continue, up_to, sheet_of, printed, in_lines}
use Rattle.sheet.specs.Count.{sized, counted_of, text_in, each}
use Rattle.sheet.proofs.Entries.{entry_lines, few_lines}
use Rattle.sheet.proofs.Rows.{InLines, no_lines, lines_append, lines_plain, counted_lines}

-- ---- one more

sized_join : (a b : Answer (List ℕ)) {m k : ℕ} → sized a ≡ answer m → sized b ≡ answer k → sized (continue a b) ≡ answer (m + k)
sized_join (refused n) b p q = absurd (let z : ◌≡◌ {A = ℕ} 0 1 = cc in omega arith)
sized_join (answer t) (refused n) p q = absurd (let z : ◌≡◌ {A = ℕ} 0 1 = cc in omega arith)
sized_join (answer t) (answer u) {m} {k} p q =
    let a : length t ≡ m = cc in
    let b : length u ≡ k = cc in
    ap answer (length-append t u ∙ omega arith)

sized_stop : (a b : Answer (List ℕ)) {m n : ℕ} → sized a ≡ answer m → sized b ≡ refused n → continue a b ≡ refused n
sized_stop (refused k) b p q = absurd (let z : ◌≡◌ {A = ℕ} 0 1 = cc in omega arith)
sized_stop (answer t) (refused k) {m} {n} p q = let e : k ≡ n = cc in ap refused e
sized_stop (answer t) (answer u) p q = absurd (let z : ◌≡◌ {A = ℕ} 0 1 = cc in omega arith)

module _ (f : ℕ → Answer (List ℕ)) where
  pub up_to-none : sized (up_to f 0) ≡ answer 0
  unfolding up_to
  up_to-none = refl

  pub up_to-next : (i : ℕ) {m k : ℕ} → sized (up_to f i) ≡ answer m → sized (f i) ≡ answer k → sized (up_to f (i + 1)) ≡ answer (m + k)
  unfolding up_to
  up_to-next i p q = rw add-one (sized_join (up_to f i) (f i) p q)

  pub up_to_stop : (i j : ℕ) {m n : ℕ} → i < j → sized (up_to f i) ≡ answer m → sized (f i) ≡ refused n → up_to f j ≡ refused n
  unfolding up_to
  up_to_stop i zero h p q = absurd (not-suc-le-zero h)
  up_to_stop i (suc j) {m} {n} h p q = go (ltb i j) refl (λ l. up_to_stop i j l p q)
    where
      go : (t : Bool) → ltb i j ≡ t → (i < j → up_to f j ≡ refused n) → continue (up_to f j) (f j) ≡ refused n
      go true e more = rw (more (ltb-true i j e))
      go false e more = let l : i ≡ j = let k = ltb-false i j e in omega arith in ap (λ (x : ℕ). continue (up_to f x) (f x)) (sym l) ∙ sized_stop (up_to f i) (f i) p q

  -- not refused: each text is there
  pub record Split (n : ℕ) (t : List ℕ) : Type 0 where
    pub front : List ℕ
    pub back : List ℕ
    pub before : up_to f n ≡ answer front
    pub here : f n ≡ answer back
    pub is : front ++ back ≡ t

  pub split : (n : ℕ) (t : List ℕ) → up_to f (suc n) ≡ answer t → Split n t
  unfolding up_to
  split n t p = go (up_to f n) (f n) refl refl
    where
      go : (a b : Answer (List ℕ)) → up_to f n ≡ a → f n ≡ b → Split n t
      go (refused k) b q r = absurd (let x : refused k ≡ answer t = sym (ap (λ (a : Answer (List ℕ)). continue a (f n)) q) ∙ p in let z : ◌≡◌ {A = ℕ} 0 1 = cc in omega arith)
      go (answer u) (refused k) q r =
          absurd (let x : refused k ≡ answer t = sym (ap (λ (a : Answer (List ℕ)). continue a (f n)) q ∙ ap (join_to u) r) ∙ p in let z : ◌≡◌ {A = ℕ} 0 1 = cc in omega arith)
      go (answer u) (answer v) q r =
          let x : answer (u ++ v) ≡ answer t = sym (ap (λ (a : Answer (List ℕ)). continue a (f n)) q ∙ ap (join_to u) r) ∙ p in
          record { front = u; back = v; before = q; here = r; is = cc }

  pub up_to-all : (n : ℕ) (t : List ℕ) → up_to f n ≡ answer t → t ≡ each (λ i. text_in (f i)) n
  unfolding up_to each
  up_to-all zero t p = cc
  up_to-all (suc n) t p =
      let s = split n t p in
      sym s.is ∙ ap (λ (l : List ℕ). l ++ s.back) (up_to-all n s.front s.before) ∙ ap (λ (a : Answer (List ℕ)). each (λ i. text_in (f i)) n ++ text_in a) (sym s.here)

  up_to_lines : ((i : ℕ) (u : List ℕ) → f i ≡ answer u → InLines u) → (n : ℕ) (t : List ℕ) → up_to f n ≡ answer t → InLines t
  unfolding up_to
  up_to_lines h zero t p = let e : t ≡ [] = cc in rw e no_lines
  up_to_lines h (suc n) t p = let s = split n t p in rw (← s.is) (lines_append (up_to_lines h n s.front s.before) (h n s.back s.here))

-- a whole sheet is in lines of 72 printable bytes and a line feed
pub sheet_lines : (script cells t : List ℕ) → sheet_of script cells ≡ answer t → in_lines (length t / 73) t ≡ true
unfolding sheet_of
sheet_lines script cells t p = go (ltb max_bytes (length script)) refl
  where
    go : (b : Bool) → ltb max_bytes (length script) ≡ b → in_lines (length t / 73) t ≡ true
    go true e = absurd (let x : refused 1 ≡ answer t = rw (e, sheet_of) at p in let z : ◌≡◌ {A = ℕ} 0 1 = cc in omega arith)
    go false e =
        let small : length script ≤ max_bytes = ltb-false max_bytes (length script) e in
        counted_lines (up_to_lines (λ i. entry script (error_at cells i)) (λ i u q. entry_lines script (error_at cells i) u small q) (length cells / 5) t (rw (e, sheet_of) at p))

-- ---- the answers

answered : (a : Answer (List ℕ)) (m : ℕ) → sized a ≡ answer m → a ≡ answer (text_in a)
answered (refused n) m p = absurd (let z : ◌≡◌ {A = ℕ} 0 1 = cc in omega arith)
answered (answer t) m p = refl

answered_size : (a : Answer (List ℕ)) (m : ℕ) → sized a ≡ answer m → length (text_in a) ≡ m
answered_size (refused n) m p = absurd (let z : ◌≡◌ {A = ℕ} 0 1 = cc in omega arith)
answered_size (answer t) m p = cc

not_answered : (a : Answer (List ℕ)) (n : ℕ) → sized a ≡ refused n → a ≡ refused n
not_answered (refused k) n p = let e : k ≡ n = cc in ap refused e
not_answered (answer t) n p = absurd (let z : ◌≡◌ {A = ℕ} 0 1 = cc in omega arith)

-- the whole text, where nothing is refused
abbrev texts : List ℕ → List ℕ → List ℕ
texts script cells = text_in (up_to (λ i. entry script (error_at cells i)) (length cells / 5))

module _ (script cells buffer : List ℕ) where
  pub too_long : max_bytes < length script → result (answer_of (Err TooLong)) buffer ≡ printed script cells buffer
  unfolding printed sheet_of answer_of
  too_long h = rw (lt-ltb max_bytes (length script) h, printed, sheet_of)

  module _ (small : length script ≤ max_bytes) where
    sheet_is : sheet_of script cells ≡ up_to (λ i. entry script (error_at cells i)) (length cells / 5)
    unfolding sheet_of
    sheet_is = rw (le-ltb max_bytes (length script) small, sheet_of)

    pub not_printed : (r : Refusal) → refused (number r) ≡ sized (up_to (λ i. entry script (error_at cells i)) (length cells / 5)) → result (answer_of (Err r)) buffer ≡ printed script cells buffer
    unfolding printed answer_of
    not_printed r p = rw (sheet_is ∙ not_answered (up_to (λ i. entry script (error_at cells i)) (length cells / 5)) (number r) (sym p), printed)

    module _ (lines : ℕ) (p : answer (73 * lines) ≡ sized (up_to (λ i. entry script (error_at cells i)) (length cells / 5))) where
      is_text : sheet_of script cells ≡ answer (texts script cells)
      is_text = sheet_is ∙ answered _ (73 * lines) (sym p)

      text_size : length (texts script cells) ≡ 73 * lines
      text_size = answered_size (up_to (λ i. entry script (error_at cells i)) (length cells / 5)) (73 * lines) (sym p)

      pub no_room : length buffer / 73 < lines → result (answer_of (Err SheetTooShort)) buffer ≡ printed script cells buffer
      unfolding printed answer_of
      no_room h = let s = text_size in rw (is_text, printed, lt-ltb (length buffer) (length (texts script cells)) (omega arith))

      pub all-printed : {out : List ℕ} {m : ℕ} → lines ≤ length buffer / 73 → length buffer ≤ last → Emits (each (λ i. text_in (entry script (error_at cells i))) (length cells / 5)) buffer 0 out m
          → result (answer_of (Ok m)) out ≡ printed script cells buffer
      unfolding printed answer_of
      all-printed {out} {m} h l f =
          let s = text_size in
          let fits : length (texts script cells) ≤ length buffer = omega arith in
          let is : texts script cells ≡ each (λ i. text_in (entry script (error_at cells i))) (length cells / 5) = up_to-all (λ i. entry script (error_at cells i)) (length cells / 5) (texts script cells) (answered _ (73 * lines) (sym p)) in
          let bytes : plain (texts script cells) ≡ true = lines_plain (length (texts script cells) / 73) (texts script cells) (sheet_lines script cells (texts script cells) is_text) in
          rw (is_text, printed, le-ltb (length buffer) (length (texts script cells)) fits) (whole bytes fits (omega arith) (by (sym is) f))

-- ---- the loops

-- the errors before `i` are counted
pub record Counting (script cells : List ℕ) (i lines : ℕ) : Type 0 where
  pub size : sized (up_to (λ k. entry script (error_at cells k)) i) ≡ answer (73 * lines)
  pub few : lines ≤ 3 * i

module _ {script cells : List ℕ} where
  pub counting_none : Counting script cells 0 0
  counting_none = record { size = up_to-none (λ k. entry script (error_at cells k)); few = omega arith }

  pub counting_all : {i lines : ℕ} → Counting script cells i lines → i ≡ length cells / 5 → counted_of (Ok lines) ≡ sized (up_to (λ j. entry script (error_at cells j)) (length cells / 5))
  unfolding counted_of
  counting_all m e = sym m.size ∙ ap (λ (k : ℕ). sized (up_to (λ j. entry script (error_at cells j)) k)) e

  module _ {i lines : ℕ} (m : Counting script cells i lines) {e : Diagnostic} (is : e ≡ error_at cells i) (r : Result ℕ Refusal) (told : counted_of r ≡ sized (entry script e)) where
    told_here : counted_of r ≡ sized (entry script (error_at cells i))
    told_here = told ∙ ap (λ (d : Diagnostic). sized (entry script d)) is

    module _ {k : ℕ} (p : r ≡ Ok k) where
      size_here : answer (73 * k) ≡ sized (entry script (error_at cells i))
      unfolding counted_of
      size_here = sym (ap counted_of p) ∙ told_here

      pub few-here : length script ≤ max_bytes → lines + k ≤ 3 * (i + 1)
      few-here small = let f = few_lines script (error_at cells i) k small size_here in let g = m.few in omega arith

      pub counting_next : length script ≤ max_bytes → Counting script cells (i + 1) (lines + k)
      counting_next small =
          let sum : 73 * lines + 73 * k ≡ 73 * (lines + k) = omega arith in
          record { size = up_to-next (λ k. entry script (error_at cells k)) i m.size (sym size_here) ∙ ap answer sum; few = few-here small }

      -- so many lines can be counted
      pub sum-fits : i < length cells / 5 → length script ≤ max_bytes → 5 * lines + 5 * k ≤ 3 * length cells
      sum-fits h small = let f = few-here small in omega arith

    pub counting_stop : {q : Refusal} → i < length cells / 5 → r ≡ Err q → counted_of (Err q) ≡ sized (up_to (λ j. entry script (error_at cells j)) (length cells / 5))
    unfolding counted_of
    counting_stop {q} h p =
        sym (ap sized (up_to_stop (λ j. entry script (error_at cells j)) i (length cells / 5) h m.size (sym (sym (ap counted_of p) ∙ told_here))))

-- the lines of the errors before `i` are written
abbrev pub Writing : List ℕ → List ℕ → ℕ → Writer → Writer → Type 0
Writing script cells i u v = Writes (each (λ k. text_in (entry script (error_at cells k))) i) u v

module _ (script cells : List ℕ) where
  pub writing-none : {u : Writer} → Writing script cells 0 u u
  unfolding each
  writing-none = writes_nothing

  pub writing-next : (i : ℕ) {u v w : Writer} {e : Diagnostic} → Writing script cells i u v → e ≡ error_at cells i
      → Writes (text_in (entry script e)) v w → Writing script cells (i + 1) u w
  unfolding each
  writing-next i m is f = rw add-one (and_then m (writes_by (ap (λ (d : Diagnostic). text_in (entry script d)) is) f))
