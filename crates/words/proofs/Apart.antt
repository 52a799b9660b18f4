-- Two errors with the same words agree but for their spans: number, wanted and seen can be read
-- back from a line.
-- Assumes nothing.
use mathlib.Core.Path.{◌≡◌, refl, sym, ◌∙◌, ap}
use mathlib.Core.Bool.{true, false}
use mathlib.Core.Option.{some}
use mathlib.Core.List.{List, [], ◌++◌, append-nil}
use Prim.Native.Nat.{ℕ, ◌+◌, ◌-◌, ◌*◌, ◌<◌}
use native.Mathlib.Omega.{arith}
use lib.Dec.{leb, ltb, eqb}
use lib.ListN.{length, get_or, drop}
use lib.Seq.{drop-append_seam}
use borrow.Author.Tests.{eq-eqb, ne_eqb, le-leb, lt-leb}
use Rattle.lex.proofs.Laws.{agree}
use Rattle.lex.specs.declared.diagnostic.Diagnostic.{Diagnostic}
use Rattle.text.specs.Text.{bytes}
use Rattle.words.specs.Words.{phrases, phrase, kind_names, kind_name, hex_digit, hex, but_found, details, line, is_kind, is_script_error, words, Alike}
use Rattle.words.proofs.Tables.{which, at_those}
use Rattle.words.proofs.Forms.{Form, two, one, byte, bare, worded, script-error-small, kind-small}

-- ---- the entry that a text begins with, computed for every entry, whatever follows it

read-phrase : (n : ℕ) → is_script_error n ≡ true → (r : List ℕ) → which phrases (phrase n ++ r) ≡ n
unfolding phrase phrases bytes is_script_error
read-phrase n h r =
    ap (λ (f : List ℕ → ℕ). f r)
    (at_those is_script_error (λ (x : ℕ). λ (s : List ℕ). which phrases (phrase x ++ s)) (λ (x : ℕ). λ (s : List ℕ). x) (λ (s : List ℕ). 0) 35 n refl (script-error-small n h) h)

read_name : (k : ℕ) → is_kind k ≡ true → (r : List ℕ) → which kind_names (kind_name k ++ r) ≡ k
unfolding kind_name kind_names bytes is_kind
read_name k h r =
    ap (λ (f : List ℕ → ℕ). f r)
    (at_those is_kind (λ (x : ℕ). λ (s : List ℕ). which kind_names (kind_name x ++ s)) (λ (x : ℕ). λ (s : List ℕ). x) (λ (s : List ℕ). 0) 44 k refl (kind-small k h) h)

-- a name that nothing follows
read-last : (k : ℕ) → is_kind k ≡ true → which kind_names (kind_name k) ≡ k
read-last k h = ap (which kind_names) (sym (append-nil (kind_name k))) ∙ read_name k h []

unhex_digit : ℕ → ℕ
unhex_digit c = elim (ltb c 58) [ true ↦ c - 48 | false ↦ c - 55 ]

unhex : List ℕ → ℕ
unhex s = 16 * unhex_digit (get_or s 0 0) + unhex_digit (get_or s 1 0)

read-hex : (b : ℕ) → b < 256 → unhex (hex b) ≡ b
unfolding unhex unhex_digit hex hex_digit
read-hex b h = agree (λ (x : ℕ). unhex (hex x)) (λ (x : ℕ). x) 0 256 b refl h

-- ---- the details, by the error's number

wanted_in : ℕ → List ℕ → ℕ
wanted_in n d = elim (eqb n 11) [ true ↦ which kind_names d | false ↦ 0 ]

-- what stands behind the wanted kind
after_wanted : List ℕ → List ℕ
after_wanted d = drop (length but_found) (drop (length (kind_name (which kind_names d))) d)

seen_in : ℕ → List ℕ → ℕ
seen_in n d =
    elim (eqb n 11) [
      | true ↦ which kind_names (after_wanted d)
      | false ↦ elim (leb n 23) [
        | true ↦ which kind_names d
        | false ↦ elim (eqb n 33) [ true ↦ unhex d | false ↦ 0 ]
      ]
    ]

after-wanted : (w s : ℕ) → is_kind w ≡ true → after_wanted (kind_name w ++ (but_found ++ kind_name s)) ≡ kind_name s
unfolding after_wanted
after-wanted w s p =
    ap (λ (k : ℕ). drop (length but_found) (drop (length (kind_name k)) (kind_name w ++ (but_found ++ kind_name s)))) (read_name w p (but_found ++ kind_name s))
    ∙ ap (drop (length but_found)) (drop-append_seam (kind_name w) (but_found ++ kind_name s))
    ∙ drop-append_seam but_found (kind_name s)

module _ {n w s : ℕ} where
  read-wanted : Form n w s → wanted_in n (details n w s) ≡ w
  unfolding wanted_in
  read-wanted (two a p q d) = ap (wanted_in n) d ∙ rw (eq-eqb n 11 a, wanted_in) (read_name w p (but_found ++ kind_name s))
  read-wanted (one a l z q d) = rw (ne_eqb n 11 a, wanted_in) (sym z)
  read-wanted (byte a z l d) = rw (ne_eqb n 11 (λ e. omega arith), wanted_in) (sym z)
  read-wanted (bare a l z q d) = rw (ne_eqb n 11 (λ e. omega arith), wanted_in) (sym z)

  read-seen : Form n w s → seen_in n (details n w s) ≡ s
  unfolding seen_in unhex
  read-seen (two a p q d) = ap (seen_in n) d ∙ rw (eq-eqb n 11 a, seen_in, after-wanted w s p) (read-last s q)
  read-seen (one a l z q d) = ap (seen_in n) d ∙ rw (ne_eqb n 11 a, seen_in, le-leb n 23 l) (read-last s q)
  read-seen (byte a z l d) = ap (seen_in n) d ∙ rw (ne_eqb n 11 (λ e. omega arith), seen_in, lt-leb n 23 (omega arith), eq-eqb n 33 a) (read-hex s l)
  read-seen (bare a l z q d) = rw (ne_eqb n 11 (λ e. omega arith), seen_in, lt-leb n 23 l, ne_eqb n 33 a) (sym q)

-- ---- two errors

pub apart : (e f : Diagnostic) (w : List ℕ) → words e ≡ some w → words f ≡ some w → Alike e f
unfolding line
apart e f w p q =
    let a = worded e w p in
    let b = worded f w q in
    let m : e.number ≡ which phrases w = sym (ap (which phrases) a.is ∙ read-phrase e.number a.listed _) in
    let n : f.number ≡ which phrases w = sym (ap (which phrases) b.is ∙ read-phrase f.number b.listed _) in
    let same : e.number ≡ f.number = m ∙ sym n in
    let d : details e.number e.wanted e.seen ≡ details f.number f.wanted f.seen =
    sym (drop-append_seam (phrase e.number) (details e.number e.wanted e.seen))
    ∙ ap (drop (length (phrase e.number))) (sym a.is ∙ b.is)
    ∙ ap (λ (k : ℕ). drop (length (phrase k)) (line f)) same
    ∙ drop-append_seam (phrase f.number) (details f.number f.wanted f.seen) in
    record {
      number = same;
      wanted = sym (read-wanted a.has) ∙ ap (wanted_in e.number) d ∙ ap (λ (k : ℕ). wanted_in k (details f.number f.wanted f.seen)) same ∙ read-wanted b.has;
      seen = sym (read-seen a.has) ∙ ap (seen_in e.number) d ∙ ap (λ (k : ℕ). seen_in k (details f.number f.wanted f.seen)) same ∙ read-seen b.has;
    }
