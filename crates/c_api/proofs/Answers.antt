-- What an exported function answers is the answer of the call that it makes.
-- Assumes nothing.
use mathlib.Core.Path.{◌≡◌, ◌∙◌, sym, ap, subst}
use mathlib.Core.List.{List}
use Prim.Native.Nat.{ℕ}
use Rattle.std.specs.Prelude.{Result, Ok, Err, MatchResult, IsOkAnd}
use Rattle.lex.specs.Answer.{Answer, answer, refused, answered}
use Rattle.lex.specs.Refusals.{number}
use Rattle.lex.specs.declared.diagnostic.Refusal.{Refusal}
use Rattle.rules.specs.Parsed.{Parsed}
use Rattle.rules.specs.Promise.{Arrays, Outcome, numbers_of}
use Rattle.parser.specs.Steps.{WholeOutcome}
use Rattle.c_api.specs.Numbers.{number_of, answer_cells, same_cells, Answers, reading_cells, as_numbers, reading_of, both_numbers}

-- the cells that `put` writes are those of what was asked, as `map` made them of the code's
-- answer; `says` is what the code's answer says
pub put_mapped : {A B : Type 0} (cells : A → List ℕ) (says : Result B Refusal → Answer A) {Made : B → List ℕ → Type 0}
    → (makes : (x : B) (y : List ℕ) → Made x y → (a : A) × (says (Ok x) ≡ answer a) × (y ≡ cells a)) (refuses : (e : Refusal) → says (Err e) ≡ refused (number e))
    → {r : Result B Refusal} (m : Result (List ℕ) Refusal) → MatchResult r (λ x. IsOkAnd m (Made x)) (λ e. m ≡ Err e)
    → {due : Answer A} → says r ≡ due → (n : ℕ) (out out' : List ℕ) → Answers same_cells (answered m) n out out' → Answers cells due n out out'
unfolding number_of answer_cells
put_mapped {A} cells says makes refuses {r = Ok x} (Ok y) h e n out out' p =
    let q = makes x y h in
    subst (λ (d : Answer A). Answers cells d n out out') (sym q.1 ∙ e) (p.0, p.1 ∙ q.2)
put_mapped cells says makes refuses {r = Ok x} (Err e) h d n out out' p = absurd h
put_mapped {A} cells says makes refuses {r = Err e} m h d n out out' p =
    let q : Answers same_cells (refused (number e)) n out out' = subst (λ (w : Result (List ℕ) Refusal). Answers same_cells (answered w) n out out') h p in
    subst (λ (w : Answer A). Answers cells w n out out') (sym (refuses e) ∙ d) (q.0, q.1)

pub answers-reading : (out : List ℕ) {o : Outcome} {p : Parsed} {l : Arrays} {r : ℕ} {out' : List ℕ} → o ≡ record { answer = p; arrays = l } → (r ≡ (numbers_of p).number) × (out' ≡ reading_cells p out)
    → as_numbers o out ≡ record { number = r; numbers = out'; arrays = l }
unfolding as_numbers
answers-reading out {p = p} {l = l} {r = r} e h =
    ap (λ (x : Outcome). as_numbers x out) e
    ∙ ap (λ (x : ℕ). record { number = x; numbers = reading_cells p out; arrays = l }) (sym h.0)
    ∙ ap (λ (x : List ℕ). record { number = r; numbers = x; arrays = l }) (sym h.1)

-- both steps
pub answers-both : (out : List ℕ) {o : WholeOutcome} {p : Parsed} {l : Arrays} {ts es : List ℕ} {r : ℕ} {out' : List ℕ} → o ≡ record { answer = p; arrays = l; tokens = ts; errors = es } → (r ≡ (numbers_of p).number) × (out' ≡ reading_cells p out)
    → both_numbers o out ≡ record { reading = record { number = r; numbers = out'; arrays = l }; tokens = ts; errors = es }
unfolding both_numbers
answers-both out {ts = ts} {es = es} e h =
    let a = answers-reading out (ap reading_of e) h in
    λ i. record { reading = a i; tokens = (e i).tokens; errors = (e i).errors }
