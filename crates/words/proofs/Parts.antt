-- Laws that the functions' proofs cite: the tables, the parts of a line, the answers.
-- Assumes nothing.
use mathlib.Core.Path.{◌≡◌, refl, sym, ap}
use mathlib.Core.Bool.{Bool, true, false, not, ◌&&◌}
use mathlib.Core.Option.{some}
use mathlib.Core.List.{List, [], ◌∷◌, ◌++◌}
use Prim.Native.Nat.{ℕ, zero, suc, ◌<◌, ◌≤◌}
use native.Mathlib.Omega.{arith}
use lib.Dec.{leb, ltb, eqb}
use lib.ListN.{length, get_or}
use borrow.Author.Tests.{eq-eqb, ne_eqb, lt-ltb, le-ltb, le-leb, leb-true, ltb-true, ltb-false}
use Rattle.std.proofs.lemmas.List.{get_or_past}
use Rattle.lex.proofs.Laws.{table, table_at}
use Rattle.lex.specs.declared.diagnostic.Diagnostic.{Diagnostic}
use Rattle.lex.specs.declared.diagnostic.Refusal.TheVariants.{LineTooShort, NoWords}
use Rattle.std.specs.Prelude.{Ok, Err}
use Rattle.text.specs.Text.{bytes}
use Rattle.text.specs.Emit.{Emits, plain}
use Rattle.text.specs.Answer.{result, answer_of}
use Rattle.text.proofs.EmitLaws.{whole, and_left, and_right}
use Rattle.words.specs.Words.{phrases, phrase, kind_names, kind_name, is_script_error, hex_digit, but_found, details, line, is_kind, is_wanted, is_seen, has_words, words, printable, described}
use Rattle.words.proofs.Tables.{at_those}
use Rattle.words.proofs.Forms.{script-error-between}
use Rattle.words.proofs.Lines.{is_line}

-- ---- the tables

module _ (n : ℕ) where
  pub no-phrase : (10 ≤ n → n ≤ 23 → ⊥) → (31 ≤ n → n ≤ 34 → ⊥) → [] ≡ phrase n
  unfolding phrase phrases bytes is_script_error
  no-phrase front back = go (ltb n 35) (is_script_error n) refl refl
    where
      go : (t u : Bool) → ltb n 35 ≡ t → is_script_error n ≡ u → [] ≡ phrase n
      go false u e f = sym (get_or_past phrases n [] (ltb-false n 35 e))
      go true true e f = absurd (script-error-between n f front back)
      go true false e f = sym (at_those (λ x. not (is_script_error x)) phrase (λ x. []) [] 35 n refl (ltb-true n 35 e) (ap not f))

  pub no_name_lem : (1 ≤ n → n ≤ 43 → ⊥) → [] ≡ kind_name n
  unfolding kind_name kind_names bytes
  no_name_lem inside = go n inside
    where
      go : (k : ℕ) → (1 ≤ k → k ≤ 43 → ⊥) → [] ≡ kind_name k
      go zero h = refl
      go (suc k) h = sym (get_or_past kind_names (suc k) [] (omega (arith, h)))

-- ---- digits

pub digit_at : (d : ℕ) → d < 16 → get_or (table hex_digit 0 16) d 0 ≡ hex_digit d
digit_at d h = table_at hex_digit 0 16 d h

-- ---- the parts of a line

pub details_two : (n w s : ℕ) → n ≡ 11 → kind_name w ++ (but_found ++ kind_name s) ≡ details n w s
unfolding details
details_two n w s a = rw (eq-eqb n 11 a, details)

-- ---- which errors have words

pub wanted-none : (n x : ℕ) → (n ≡ 11 → ⊥) → eqb x 0 ≡ is_wanted n x
unfolding is_wanted
wanted-none n x a = rw (ne_eqb n 11 a, is_wanted)

pub seen-kind : (n x : ℕ) → n ≤ 23 → is_kind x ≡ is_seen n x
unfolding is_seen
seen-kind n x l = rw (le-leb n 23 l, is_seen)

-- ---- the answers

-- what is printable is made of bytes
pub printable-plain : (w : List ℕ) → printable w ≡ true → plain w ≡ true
unfolding printable plain
printable-plain [] h = refl
printable-plain (b ∷ bs) h =
    let l : b ≤ 126 = leb-true b 126 (and_right (leb 32 b) (leb b 126) (and_left (leb 32 b && leb b 126) (printable bs) h)) in
    rw (lt-ltb b 256 (omega arith)) (printable-plain bs (and_right (leb 32 b && leb b 126) (printable bs) h))

module _ (e : Diagnostic) (x : List ℕ) where
  pub too_short_lem : length x < 160 → result (answer_of (Err LineTooShort)) x ≡ described e x
  unfolding described answer_of
  too_short_lem h = rw (lt-ltb (length x) 160 h, described)

  pub without_words : 160 ≤ length x → has_words e ≡ false → result (answer_of (Err NoWords)) x ≡ described e x
  unfolding described words answer_of
  without_words h q = rw (le-ltb (length x) 160 h, described, q)

  -- `z` is what is left behind the writer
  pub with_words : {z : List ℕ} {m : ℕ} → 160 ≤ length x → has_words e ≡ true → Emits (line e) x 0 z m → result (answer_of (Ok m)) z ≡ described e x
  unfolding described words answer_of
  with_words h q f =
      let has : words e ≡ some (line e) = rw (q, words) in
      let l = is_line e (line e) has in
      let fits : length (line e) ≤ length x = let s = l.short in omega arith in
      rw (le-ltb (length x) 160 h, described, q) (whole (printable-plain (line e) l.ascii) fits (let s = l.short in omega arith) f)
