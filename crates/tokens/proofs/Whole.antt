-- What is cut is what cutting leaves, and what cutting leaves is cut.
-- Assumes nothing.
use mathlib.Core.Path.{◌≡◌, refl, ◌∙◌, sym, ap}
use mathlib.Core.Bool.{Bool, true, false, ◌&&◌}
use mathlib.Core.List.{List, [], ◌∷◌}
use Prim.Native.Nat.{ℕ, ◌+◌, ◌*◌, ◌-◌, ◌≤◌}
use native.Mathlib.Omega.{arith}
use lib.Dec.{ltb, eqb}
use lib.ListN.{length, length-append}
use borrow.Author.Tests.{eq-eqb, eqb-true, ltb-false}
use Rattle.lex.specs.Bytes.{or}
use Rattle.lex.specs.Kind.{same_bytes}
use Rattle.lex.proofs.Laws.{false-true}
use Rattle.lex.specs.Answer as A
use Rattle.lex.specs.Answer.{max_bytes}
use Rattle.lex.specs.Cells.{zeros, padded}
use Rattle.tokens.specs.Tables.{token_table, error_table, counts_of, tabled, too_short, promised, is_cut}
use Rattle.tokens.proofs.Arrays.{zeros-length}
use Rattle.tokens.proofs.Promised.{wide, counts_fit, taken}

same_eq : (xs ys : List ℕ) → same_bytes xs ys ≡ true → xs ≡ ys
unfolding same_bytes
same_eq [] [] e = refl
same_eq [] (y ∷ ys) e = false-true e
same_eq (x ∷ xs) [] e = false-true e
same_eq (x ∷ xs) (y ∷ ys) e = go (eqb x y) refl e (λ f. same_eq xs ys f)
  where
    go : (t : Bool) → eqb x y ≡ t → elim t as (λ (_ : Bool). Bool) [ true ↦ same_bytes xs ys | false ↦ false ] ≡ true → (same_bytes xs ys ≡ true → xs ≡ ys) → x ∷ xs ≡ y ∷ ys
    go true q f more = let h = eqb-true x y q in let l = more f in λ i. h i ∷ l i
    go false q f more = false-true f

same_refl : (xs : List ℕ) → same_bytes xs xs ≡ true
unfolding same_bytes
same_refl [] = refl
same_refl (x ∷ xs) = rw (eq-eqb x x refl, same_bytes) (same_refl xs)

both : (a b : Bool) → a && b ≡ true → (a ≡ true) × (b ≡ true)
both true b e = (refl, e)
both false b e = false-true e

facts : (l s w : Bool) → elim l as (λ (_ : Bool). Bool) [ true ↦ false | false ↦ elim s as (λ (_ : Bool). Bool) [ true ↦ false | false ↦ w ] ] ≡ true → (l ≡ false) × (s ≡ false) × (w ≡ true)
facts true s w e = false-true e
facts false true w e = false-true e
facts false false w e = (refl, refl, e)

-- what is known of arrays that are cut
pub record IsCut (script ts es : List ℕ) : Type 0 where
  pub short : length script ≤ max_bytes
  pub fits : too_short script ts es ≡ false
  pub tokens : ts ≡ padded (length ts) (token_table script)
  pub errors : es ≡ padded (length es) (error_table script)

pub is_cut_tables : (script ts es : List ℕ) → is_cut script ts es ≡ true → IsCut script ts es
unfolding is_cut
is_cut_tables script ts es e =
    let f = facts (ltb max_bytes (length script)) (too_short script ts es) _ e in
    let b = both _ _ f.2 in
    record {
      short = ltb-false max_bytes (length script) f.0;
      fits = f.1;
      tokens = same_eq ts (padded (length ts) (token_table script)) b.0;
      errors = same_eq es (padded (length es) (error_table script)) b.1;
    }

-- cutting leaves such arrays as they are
pub is_cut-left : (script ts es : List ℕ) → is_cut script ts es ≡ true → promised script ts es ≡ record { answer = A.answer (counts_of script); tokens = ts; errors = es }
unfolding tabled
is_cut-left script ts es e =
    let c = is_cut_tables script ts es e in
    taken script ts es c.short c.fits ∙ (λ i. record { answer = A.answer (counts_of script); tokens = sym c.tokens i; errors = sym c.errors i })

-- ---- what was just cut is cut

padded-length : (n : ℕ) (table : List ℕ) → length table ≤ n → length (padded n table) ≡ n
padded-length n table h = omega (arith, length-append table (zeros (n - length table)), zeros-length (n - length table))

padded-same : (n : ℕ) (table : List ℕ) → length table ≤ n → same_bytes (padded n table) (padded (length (padded n table)) table) ≡ true
padded-same n table h = ap (λ (k : ℕ). same_bytes (padded n table) (padded k table)) (padded-length n table h) ∙ same_refl (padded n table)

same-short : (script ts es ts' es' : List ℕ) → length ts' ≡ length ts → length es' ≡ length es → too_short script ts' es' ≡ too_short script ts es
unfolding too_short
same-short script ts es ts' es' e f = λ i. or (ltb (e i) (4 * length script + 4)) (ltb (f i) (6 * length script))

pub tabled_is_cut : (script ts es : List ℕ) → ltb max_bytes (length script) ≡ false → too_short script ts es ≡ false
    → is_cut script (padded (length ts) (token_table script)) (padded (length es) (error_table script)) ≡ true
unfolding is_cut
tabled_is_cut script ts es l s =
    let w = wide script ts es s in
    let f = counts_fit script refl in
    let ht : length (token_table script) ≤ length ts = omega (arith, w, f) in
    let he : length (error_table script) ≤ length es = omega (arith, w, f) in
    let ts' : List ℕ = padded (length ts) (token_table script) in
    let es' : List ℕ = padded (length es) (error_table script) in
    let s' : too_short script ts' es' ≡ false = same-short script ts es ts' es' (padded-length (length ts) (token_table script) ht) (padded-length (length es) (error_table script) he) ∙ s in
    let x = padded-same (length ts) (token_table script) ht in
    let y = padded-same (length es) (error_table script) he in
    rw (l, is_cut) (rw (s', is_cut) (λ i. x i && y i))
