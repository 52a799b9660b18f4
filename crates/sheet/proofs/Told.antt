-- What the calls of `describe` and `advance` tell about the lines of an error.
-- Assumes nothing.
use mathlib.Core.Path.{◌≡◌, refl, sym, ◌∙◌, ap}
use mathlib.Core.List.{List}
use Prim.Native.Nat.{ℕ, ◌+◌, ◌/◌, ◌%◌, ◌<◌, ◌≤◌, min}
use lib.ListN.{length, take}
use Rattle.std.specs.Prelude.{Result, Ok, Err}
use Rattle.lex.specs.declared.diagnostic.Diagnostic.{Diagnostic}
use Rattle.lex.specs.declared.diagnostic.Refusal.{Refusal}
use Rattle.lex.specs.declared.diagnostic.Refusal.TheVariants.{Outside}
use Rattle.lex.specs.Refusals.{number}
use Rattle.lex.specs.Answer.{max_bytes, refused, answer, answered}
use Rattle.positions.specs.Position.{feeds, since, place_of, place_at, advanced}
use Rattle.positions.proofs.Places.{place_is, advanced-known}
use Rattle.positions.specs.declared.Place.{Place}
use Rattle.text.specs.declared.Writer.{Writer}
use Rattle.text.specs.Emit.{Writes}
use Rattle.text.specs.Answer.{result, answer_of}
use Rattle.text.proofs.EmitLaws.{and_then, writes_nothing, writes_by}
use Rattle.words.specs.Words.{described}
use Rattle.words.proofs.Callers.{Wordless, Wrote, wordless, wrote}
use Rattle.sheet.specs.Sheet.{heading, body, entry}
use Rattle.sheet.specs.declared.Progress.{Progress}
use Rattle.sheet.specs.Count.{sized, counted_of, lines_at, text_in, Reached}
use Rattle.sheet.proofs.Entries.{entry_wordless, lines_wordless, lines_worded, entry_nowhere, entry_at, size_outside, size_inside}

module _ (e : Diagnostic) (buffer : List ℕ) (room : 160 ≤ length buffer) {r : Result ℕ Refusal} {out : List ℕ} (told : result (answer_of r) out ≡ described e buffer) where
  refusal : {q : Refusal} → r ≡ Err q → Wordless e (number q)
  refusal {q} p = wordless e buffer room q (ap (λ (a : Result ℕ Refusal). result (answer_of a) out) (sym p) ∙ told)

  pub line : {n : ℕ} → r ≡ Ok n → Wrote e n out
  line p = wrote e buffer room (ap (λ (a : Result ℕ Refusal). result (answer_of a) out) (sym p) ∙ told)

  -- ---- how many lines

  module _ (script : List ℕ) where
    pub counts_wordless : {q : Refusal} → r ≡ Err q → counted_of (Err q) ≡ sized (entry script e)
    unfolding counted_of
    counts_wordless p = let w = refusal p in ap refused w.number ∙ sym (ap sized (entry_wordless script e w.none_there))

    module _ {n : ℕ} (small : length script ≤ max_bytes) (p : r ≡ Ok n) where
      pub counts_outside : length script < e.start → counted_of (Err Outside) ≡ sized (entry script e)
      unfolding counted_of
      counts_outside h = size_outside script e small (line p).there h

      pub counts_inside : {k : ℕ} → e.start ≤ length script → k ≡ n / 57 + min 1 (n % 57) → counted_of (Ok k) ≡ sized (entry script e)
      unfolding counted_of
      counts_inside inside h = size_inside script e small (line p).there inside (h ∙ ap (λ (m : ℕ). m / 57 + min 1 (m % 57)) (line p).size)

  -- ---- the lines

  module _ (place : Place) {u : Writer} where
    pub writes_none : {q : Refusal} → r ≡ Err q → Writes (lines_at place e) u u
    writes_none p = writes_by (sym (lines_wordless place e (refusal p).none_there)) writes_nothing

    pub writes_lines : {n : ℕ} {v w : Writer} → r ≡ Ok n → Writes (heading place e.number) u v → Writes (body (take n out)) v w → Writes (lines_at place e) u w
    writes_lines p f g = writes_by (sym (lines_worded place e (line p).there)) (and_then f (writes_by (ap body (line p).front) g))

-- ---- one more error

module _ (script : List ℕ) (e : Diagnostic) (w : Progress) (reached : Reached script w) (q : Result Place Refusal) (told : answered q ≡ advanced script w.start w.place e.start) where
  at_place : answered q ≡ place_at script e.start
  at_place = told ∙ advanced-known script w.start w.place e.start reached.known

  pub enters_nowhere : {k : Refusal} {u : Writer} → q ≡ Err k → Writes (text_in (entry script e)) u u
  enters_nowhere o = writes_by (sym (entry_nowhere script e (sym at_place ∙ ap answered o))) writes_nothing

  module _ {place : Place} (o : q ≡ Ok place) where
    there : place_at script e.start ≡ answer place
    there = sym at_place ∙ ap answered o

    pub enters : {u v : Writer} → Writes (lines_at place e) u v → Writes (text_in (entry script e)) u v
    enters f = writes_by (sym (entry_at script e there)) f

    pub reaches : Reached script (record { start = e.start; place = place })
    reaches = record { known = place_is script e.start place there }

-- before the first error
pub reached-none : {script : List ℕ} → Reached script (record { start = 0; place = record { line = 1; column = 1 } })
unfolding place_of feeds since
reached-none = record { known = refl }
