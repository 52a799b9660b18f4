-- Laws of a token's well-formedness and of the length of `as_str`, a law for each case.
use mathlib.Core.Path.{◌≡◌, refl, sym, ap, ◌∙◌}
use mathlib.Core.Bool.{Bool, true, false, not, ◌&&◌}
use mathlib.Core.List.{List, []}
use mathlib.Core.Logic.{◌⊎◌, inl, inr}
use Prim.Native.Nat.{ℕ, ◌+◌, ◌<◌, ◌≤◌}
use native.Mathlib.Omega.{arith}
use lib.Dec.{ltb, leb}
use lib.ListN.{length, get_or-eq_default}
use borrow.Author.Tests.{le-leb, lt-leb, lt-ltb, ltb-true, ltb-false, leb-true}
use Rattle.std.specs.Prelude.{Option, Some, None, MatchOption, is_some}
use Rattle.std.specs.Borrow.{Bor}
use Rattle.lex.specs.Bytes.{between}
use Rattle.lex.specs.Kind.{k_s, k_doc, keywords, fixed_spellings, fixed_spelling, kind_name, bytes_of, name_of, fixed_text}
use Rattle.lex.specs.Spelling.{spelling_offset, spelling_start, has_spelling, spelling, well_formed, as_str_length}
use Rattle.lex.specs.declared.tok.Token.{Token}
use Rattle.lex.proofs.Laws.{cases, agree}
use Rattle.lex.proofs.Spellings.{no-spelling-below, no-spelling_above, has_spelling_lem}

-- a kind has a fixed spelling if it is known and has none of its own
pub fixed_is : (k : ℕ) → ltb 0 (length (fixed_spelling k)) ≡ (not (has_spelling k) && between 1 43 k)
unfolding fixed_spelling fixed_spellings keywords between
fixed_is k = go (ltb k 44) refl
  where
    go : (b : Bool) → ltb k 44 ≡ b → ltb 0 (length (fixed_spelling k)) ≡ (not (has_spelling k) && between 1 43 k)
    go true e = agree (λ (n : ℕ). ltb 0 (length (fixed_spelling n))) (λ (n : ℕ). not (has_spelling n) && between 1 43 n) true 44 k refl (ltb-true k 44 e)
    go false e =
        let h : 44 ≤ k = ltb-false k 44 e in
        rw (get_or-eq_default fixed_spellings [] h, no-spelling_above k (omega arith), le-leb 1 k (omega arith), lt-leb k 43 (omega arith), between)

-- what `Type::fixed_spelling` answers tells whether the kind has one, and how long it is
pub fixed_some : (k : ℕ) (o : Option (Bor (List ℕ))) → MatchOption o (length (fixed_spelling k) ≡ 0) (λ t. (0 < length (fixed_spelling k)) × (t.now ≡ fixed_spelling k))
    → is_some o ≡ ltb 0 (length (fixed_spelling k))
fixed_some k None h = rw h
fixed_some k (Some t) h = sym (lt-ltb _ _ h.0)

-- and determines its bytes, as the answer of `Type::name` does
pub fixed_bytes : (k : ℕ) (o : Option (Bor (List ℕ))) → MatchOption o (length (fixed_spelling k) ≡ 0) (λ t. (0 < length (fixed_spelling k)) × (t.now ≡ fixed_spelling k))
    → bytes_of o ≡ fixed_text k
unfolding fixed_text
fixed_bytes k None h = rw (h, fixed_text)
fixed_bytes k (Some t) h = rw (lt-ltb 0 (length (fixed_spelling k)) h.0, fixed_text) (ap Some h.1)

pub name_bytes : (k : ℕ) (o : Option (Bor (List ℕ))) → MatchOption o (between 1 43 k ≡ false) (λ n. (between 1 43 k ≡ true) × (n.now ≡ kind_name k))
    → bytes_of o ≡ name_of k
unfolding name_of
name_bytes k None h = rw (h, name_of)
name_bytes k (Some n) h = rw (h.0, name_of) (ap Some h.1)

-- a kind with a spelling of its own is known
pub own-known : (k : ℕ) → has_spelling k ≡ true → between 1 43 k ≡ true
unfolding between
own-known k = cases (λ (h : Bool). h ≡ true → between 1 43 k ≡ true) (leb k_s k)
    (λ e g. let l = leb-true k_s k e in let u = leb-true k k_doc g in rw (le-leb 1 k (omega arith), le-leb k 43 (omega arith), between))
    (λ e g. let z : ◌≡◌ {A = ℕ} 0 1 = cc in absurd (omega arith))

pub fixed_length : (k r : ℕ) (o : Option (Bor (List ℕ))) (P : Bor (List ℕ) → Type 0) → ((t : Bor (List ℕ)) → P t → r ≡ length t.now)
    → MatchOption o (length (fixed_spelling k) ≡ 0) (λ t. (0 < length (fixed_spelling k)) × (t.now ≡ fixed_spelling k))
    → MatchOption o (r ≡ 0) P → r ≡ length (fixed_spelling k)
fixed_length k r None P f h e = e ∙ sym h
fixed_length k r (Some t) P f h e = f t e ∙ rw h.1

some_or : (o : Option ℕ) (b : Bool) → ◌≡◌ {A = Bool} (elim o [ Some i ↦ true | None ↦ b ]) (elim (is_some o) [ true ↦ true | false ↦ b ])
some_or None b = refl
some_or (Some i) b = refl

module _ (s : List ℕ) (t : Token) where
  -- a token is well formed if its spelling is found, or its kind has a fixed one
  pub well_formed_is : well_formed s t ≡ elim (spelling s t) [ Some i ↦ true | None ↦ ltb 0 (length (fixed_spelling t.kind)) ]
  unfolding well_formed spelling
  well_formed_is = go (between 1 43 t.kind) (has_spelling t.kind) (leb (spelling_start s t + t.len) (length s)) _ (own-known t.kind) (fixed_is t.kind)
    where
      go : (b h l f : Bool) → (h ≡ true → b ≡ true) → f ≡ (not h && b)
          → ◌≡◌ {A = Bool} (elim b [ true ↦ elim h [ true ↦ l | false ↦ true ] | false ↦ false ])
          (elim (elim h as (λ (_ : Bool). Option ℕ) [ true ↦ elim l [ true ↦ Some (spelling_start s t) | false ↦ None ] | false ↦ None ]) [ Some i ↦ true | None ↦ f ])
      go true true true f k e = refl
      go true true false f k e = sym e
      go true false l f k e = sym e
      go false true l f k e = let z : false ≡ true = k refl in let o : ◌≡◌ {A = ℕ} 0 1 = cc in absurd (omega arith)
      go false false l f k e = sym e

  pub well_formed-found : (i : ℕ) → spelling s t ≡ Some i → well_formed s t ≡ true
  well_formed-found i e = well_formed_is ∙ rw e

  pub well_formed-nothing : spelling s t ≡ None → well_formed s t ≡ ltb 0 (length (fixed_spelling t.kind))
  well_formed-nothing e = well_formed_is ∙ rw e

  -- so it is by whether the spelling is found
  pub well_formed-some : is_some (spelling s t) ≡ true → well_formed s t ≡ true
  well_formed-some e = well_formed_is ∙ some_or (spelling s t) _ ∙ rw e

  pub well_formed-none : is_some (spelling s t) ≡ false → well_formed s t ≡ ltb 0 (length (fixed_spelling t.kind))
  well_formed-none e = well_formed_is ∙ some_or (spelling s t) _ ∙ rw e

  -- the spelling of a well-formed token lies in the script
  pub well_formed-inside : has_spelling t.kind ≡ true → well_formed s t ≡ true → spelling_start s t + t.len ≤ length s
  unfolding well_formed
  well_formed-inside h e = leb-true _ _ (rw (own-known t.kind h, h, well_formed) at e)

  -- a string's spelling ends before the script does
  pub well_formed-string : well_formed s t ≡ true → t.kind ≡ k_s → t.start + 1 + t.len ≤ length s
  unfolding spelling_start spelling_offset
  well_formed-string e k =
      let h : has_spelling t.kind ≡ true = rw k in
      omega (arith, rw k at (well_formed-inside h e))

module _ (t : Token) where
  pub length_sign : t.kind < k_s → length (fixed_spelling t.kind) ≡ as_str_length t
  unfolding as_str_length
  length_sign h = rw (no-spelling-below t.kind h)

  pub length-word : k_doc < t.kind → length (fixed_spelling t.kind) ≡ as_str_length t
  unfolding as_str_length
  length-word h = rw (no-spelling_above t.kind h)

  pub length-fixed : ((k_s ≤ t.kind) × (k_doc < t.kind)) ⊎ (t.kind < k_s) → length (fixed_spelling t.kind) ≡ as_str_length t
  length-fixed (inl h) = length-word h.1
  length-fixed (inr h) = length_sign h

  pub length-own : k_s ≤ t.kind → t.kind ≤ k_doc → t.len ≡ as_str_length t
  unfolding as_str_length
  length-own l h = rw (has_spelling_lem t.kind l h)
