-- The laws of where the lexer stands: it begins after no token, and `next_at` takes it past one
-- more.
-- Assumes nothing.
use mathlib.Core.Path.{◌≡◌, refl, ◌∙◌, sym, ap}
use mathlib.Core.List.{List}
use Prim.Native.Nat.{ℕ, zero, suc, ◌+◌, ◌<◌, ◌≤◌, zero-le}
use native.Mathlib.Nat.{zero-add, suc-add}
use native.Mathlib.Numerals.{add-one}
use native.Mathlib.Omega.{arith}
use lib.ListN.{length}
use Rattle.lex.specs.declared.tok.Step.{Step}
use Rattle.lex.specs.declared.tok.Next.{Next}
use Rattle.lex.specs.Lex.{Cut, eof, cut_token, cut_fault, extend_cut, cut_at, cut, next_of, next_at}
use Rattle.lex.specs.Passed.{cut_after, end_of, StandsAfter}
use Rattle.lex.proofs.Steps.{Forward, cut_step, cut_ind, step_end}

-- ---- `j` tokens and then `i` more

pub cut-after_add : (j i : ℕ) (c : Cut) → cut_after (j + i) c ≡ cut_after i (cut_after j c)
unfolding cut_after
cut-after_add zero i c = rw zero-add
cut-after_add (suc j) zero (eof at) = rw suc-add
cut-after_add (suc j) (suc i) (eof at) = rw suc-add
cut-after_add (suc j) i (cut_token t next c) = rw suc-add (cut-after_add j i c)
cut-after_add (suc j) i (cut_fault e c) = rw suc-add (rw suc-add at (cut-after_add (suc j) i c))

pub end_of_add : (pos j i : ℕ) (c : Cut) → end_of pos (j + i) c ≡ end_of (end_of pos j c) i (cut_after j c)
unfolding cut_after end_of
end_of_add pos zero i c = rw zero-add
end_of_add pos (suc j) zero (eof at) = rw suc-add
end_of_add pos (suc j) (suc i) (eof at) = rw suc-add
end_of_add pos (suc j) i (cut_token t next c) = rw suc-add (end_of_add next j i c)
end_of_add pos (suc j) i (cut_fault e c) = rw suc-add (rw suc-add at (end_of_add pos (suc j) i c))

-- ---- one token

end_of_one : (pos : ℕ) (c : Cut) → (next_of c).next ≡ end_of pos 1 c
unfolding next_of end_of
end_of_one pos (eof at) = refl
end_of_one pos (cut_token t next c) = refl
end_of_one pos (cut_fault e c) = end_of_one pos c

-- from the position after the first token on, the cut is what that token leaves
pub record Passes (script : List ℕ) (pos next : ℕ) (c : Cut) : Type 0 where
  pub left : cut_at script next ≡ cut_after 1 c
  pub within : pos ≤ length script → next ≤ length script

passes_step : (script : List ℕ) (pos : ℕ) (s : Step) → Forward script pos s
    → ((n : ℕ) → pos < n → n ≤ length script → Passes script n (next_at script n).next (cut_at script n))
    → Passes script pos (next_of (extend_cut (cut_at script) s)).next (extend_cut (cut_at script) s)
unfolding next_at next_of cut_after
passes_step script pos (Step.Token t n) h r = record { left = refl; within = λ p. omega arith }
passes_step script pos (Step.Fault e n) h r = let f = r n (omega arith) (omega arith) in record { left = f.left; within = λ p. f.within (omega arith) }
passes_step script pos (Step.End at) h r = record { left = rw (cut_step script at, step_end script at h.0); within = λ p. omega (arith, h.1 p) }

next_passes : (script : List ℕ) (pos : ℕ) → Passes script pos (next_at script pos).next (cut_at script pos)
unfolding next_at
next_passes script pos =
    cut_ind script (λ (n : ℕ) (c : Cut). Passes script n (next_of c).next c) (passes_step script) (suc (length script)) pos (omega arith)

-- ---- where the lexer stands

pub stands_start : {script : List ℕ} → StandsAfter script 0 0
unfolding cut cut_after end_of
stands_start = record { rest = refl; position = refl; inside = zero-le }

pub stands_next : {script : List ℕ} {n pos : ℕ} {x : Next} → StandsAfter script n pos → x ≡ next_at script pos → StandsAfter script (suc n) x.next
unfolding next_at
stands_next {script} {n} {pos} {x} s e =
    let p = next_passes script pos in
    let one = add-one n in
    rw e
    (record {
      rest = p.left ∙ ap (cut_after 1) s.rest ∙ sym (cut-after_add n 1 (cut script)) ∙ ap (λ (k : ℕ). cut_after k (cut script)) one;
      position = end_of_one pos (cut_at script pos) ∙ ap (end_of pos 1) s.rest ∙ ap (λ (k : ℕ). end_of k 1 (cut_after n (cut script))) s.position
          ∙ sym (end_of_add 0 n 1 (cut script)) ∙ ap (λ (k : ℕ). end_of 0 k (cut script)) one;
      inside = p.within s.inside;
    })
