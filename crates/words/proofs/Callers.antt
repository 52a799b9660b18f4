-- What a caller with room for a line learns from `describe`.
-- Assumes nothing.
use mathlib.Core.Path.{◌≡◌, refl, ◌∙◌, ap}
use mathlib.Core.Option.{Option, none, some}
use mathlib.Core.List.{List, ◌++◌}
use Prim.Native.Nat.{ℕ, ◌≤◌}
use native.Mathlib.Omega.{arith}
use lib.ListN.{length, take, drop, length-append}
use lib.Seq.{take-append_seam}
use borrow.Author.Tests.{le-ltb}
use Rattle.std.specs.Prelude.{Ok, Err}
use Rattle.lex.specs.declared.diagnostic.Diagnostic.{Diagnostic}
use Rattle.lex.specs.declared.diagnostic.Refusal.{Refusal}
use Rattle.lex.specs.Refusals.{number}
use Rattle.text.specs.Answer.{refused, written, Result, result, refuse, in_front, answer_of}
use Rattle.words.specs.Words.{words, described}

-- refused: there are no words
pub record Wordless (e : Diagnostic) (n : ℕ) : Type 0 where
  pub none_there : words e ≡ none
  pub number : n ≡ 42

-- written: the words stand in front
pub record Wrote (e : Diagnostic) (n : ℕ) (out : List ℕ) : Type 0 where
  pub text : List ℕ
  pub there : words e ≡ some text
  pub size : n ≡ length text
  pub front : take n out ≡ text
  pub room : n ≤ length out

module _ (e : Diagnostic) (buffer : List ℕ) (h : 160 ≤ length buffer) where
  by_words : described e buffer ≡ elim (words e) as (λ (_ : Option (List ℕ)). Result) [ none ↦ refuse 42 buffer | some w ↦ in_front w buffer ]
  unfolding described
  by_words = rw (le-ltb (length buffer) 160 h, described)

  pub wordless : (r : Refusal) {out : List ℕ} → result (answer_of (Err r)) out ≡ described e buffer → Wordless e (number r)
  unfolding answer_of
  wordless r {out} p = go (words e) refl (p ∙ by_words)
    where
      go : (o : Option (List ℕ)) → words e ≡ o → result (refused (number r)) out ≡ elim o as (λ (_ : Option (List ℕ)). Result) [ none ↦ refuse 42 buffer | some w ↦ in_front w buffer ] → Wordless e (number r)
      go none q s = record { none_there = q; number = let a : refused (number r) ≡ refused 42 = ap (λ (x : Result). x.answer) s in cc }
      go (some w) q s = absurd (let a : refused (number r) ≡ written (length w) = ap (λ (x : Result). x.answer) s in let z : ◌≡◌ {A = ℕ} 0 1 = cc in omega arith)

  pub wrote : {n : ℕ} {out : List ℕ} → result (answer_of (Ok n)) out ≡ described e buffer → Wrote e n out
  unfolding answer_of
  wrote {n} {out} p = go (words e) refl (p ∙ by_words)
    where
      go : (o : Option (List ℕ)) → words e ≡ o → result (written n) out ≡ elim o as (λ (_ : Option (List ℕ)). Result) [ none ↦ refuse 42 buffer | some w ↦ in_front w buffer ] → Wrote e n out
      go none q r = absurd (let a : written n ≡ refused 42 = ap (λ (x : Result). x.answer) r in let z : ◌≡◌ {A = ℕ} 0 1 = cc in omega arith)
      go (some w) q r =
          let a : written n ≡ written (length w) = ap (λ (x : Result). x.answer) r in
          let s : n ≡ length w = cc in
          let b : out ≡ w ++ drop (length w) buffer = ap (λ (x : Result). x.buffer) r in
          record {
            text = w;
            there = q;
            size = s;
            front = ap (λ (k : ℕ). take k out) s ∙ ap (take (length w)) b ∙ take-append_seam w (drop (length w) buffer);
            room = omega (arith, ap length b, length-append w (drop (length w) buffer));
          }
