-- Laws of what is listed: what is no byte, members of a loop, names of kinds.
use mathlib.Core.Path.{◌≡◌, refl, sym, ◌∙◌, ap}
use mathlib.Core.Bool.{Bool, true, false, false≢true, ◌&&◌}
use mathlib.Core.List.{List, [], ◌∷◌, ◌++◌, map}
use Prim.Native.Nat.{ℕ, zero, suc, ◌+◌, ◌*◌, ◌<◌, ◌≤◌}
use native.Mathlib.Nat.{mul-le-mul_left, mul-le-mul_right}
use native.Mathlib.Numerals.{add-one}
use native.Mathlib.Omega.{arith}
use lib.Dec.{leb, ltb}
use lib.ListN.{length, get_or, drop, get_or-eq_default}
use borrow.Author.Tests.{le-leb, lt-leb, leb-true, leb-false}
use Rattle.lex.specs.Bytes.{between}
use Rattle.lex.specs.Kind as L
use Rattle.lex.proofs.Bits.{to_high}
use Rattle.lex.proofs.Laws.{table, agree}
use Rattle.ast.specs.declared.Run.{Run}
use Rattle.ast.specs.Schema as S
use Rattle.ast.specs.Schema.{Members, member_width}
use Rattle.text.proofs.EmitLaws.{and_then, writes_nothing, writes_by}
use Rattle.text.specs.Text.{bytes}
use Rattle.text.specs.Emit.{Writes, plain}
use Rattle.text.specs.declared.Writer.{Writer}
use Rattle.listing.specs.Text.{malformed, gap, fields, each, listed, kind_names, kind_name}
use Rattle.listing.specs.Lists.{Lists, Unlisted}
use Rattle.listing.specs.declared.emit.Malformed.{Malformed}
use Rattle.std.specs.Prelude.{Result, Ok, Err, IsErr}
use Rattle.std.proofs.Common.{drop-cons, drop_of_length-le}

-- ---- what is no byte

plain-first : (a b : List ℕ) → plain a ≡ false → plain (a ++ b) ≡ false
unfolding plain
plain-first [] b e = absurd (false≢true (sym e))
plain-first (x ∷ a) b e = go (ltb x 256) e (plain-first a b)
  where
    go : (t : Bool) → (t && plain a) ≡ false → (plain a ≡ false → plain (a ++ b) ≡ false) → (t && plain (a ++ b)) ≡ false
    go true h more = more h
    go false h more = refl

plain-then : (a b : List ℕ) → plain b ≡ false → plain (a ++ b) ≡ false
unfolding plain
plain-then [] b e = e
plain-then (x ∷ a) b e = go (ltb x 256) (plain-then a b e)
  where
    go : (t : Bool) → plain (a ++ b) ≡ false → (t && plain (a ++ b)) ≡ false
    go true h = h
    go false h = refl

pub unlisted : Unlisted malformed
unfolding plain
unlisted = record { not_plain = refl }

pub unlisted-first : {a : List ℕ} → Unlisted a → (b : List ℕ) → Unlisted (a ++ b)
unlisted-first {a} f b = record { not_plain = plain-first a b f.not_plain }

-- behind what was written
pub unlisted-then : {a b : List ℕ} {u v : Writer} → Writes a u v → Unlisted b → Unlisted (a ++ b)
unlisted-then {a} {b} w f = record { not_plain = plain-then a b f.not_plain }

pub unlisted_by : {a b : List ℕ} → a ≡ b → Unlisted a → Unlisted b
unlisted_by e f = record { not_plain = sym (ap plain e) ∙ f.not_plain }

pub done : {text : List ℕ} {u v : Writer} → Writes text u v → Lists text u v (Ok tt)
done w = record { answers = w }

pub refused : {text : List ℕ} {u v : Writer} {m : Malformed} → malformed ≡ text → Lists text u v (Err m)
refused e = record { answers = unlisted_by e unlisted }

-- the answer of a `?` that ends a function
pub fails : {text : List ℕ} {u v : Writer} {r : Result (Unit {0}) Malformed} → IsErr r → Unlisted text → Lists text u v r
fails {r = Ok x} e f = absurd (false≢true e)
fails {r = Err x} e f = record { answers = f }

pub lists_by : {a b : List ℕ} {u v : Writer} {r : Result (Unit {0}) Malformed} → a ≡ b → Lists a u v r → Lists b u v r
lists_by {r = Ok x} e f = record { answers = writes_by e f.answers }
lists_by {r = Err x} e f = record { answers = unlisted_by e f.answers }

-- ---- blanks

pub no_gap : (n : ℕ) → n ≤ 0 → [] ≡ gap n
unfolding gap
no_gap zero h = refl
no_gap (suc n) h = absurd (omega arith)

pub a_gap : (n : ℕ) → 0 < n → 32 ∷ [] ≡ gap n
unfolding gap
a_gap zero h = absurd (omega arith)
a_gap (suc n) h = refl

-- ---- texts behind one another

each-has : (text : ℕ → List ℕ) (i n : ℕ) → i < n → plain (text i) ≡ false → plain (each text n) ≡ false
unfolding each
each-has text i zero h e = absurd (omega arith)
each-has text i (suc n) h e = go (leb n i) refl (each-has text i n)
  where
    go : (t : Bool) → leb n i ≡ t → (i < n → plain (text i) ≡ false → plain (each text n) ≡ false) → plain (each text n ++ text n) ≡ false
    go true f more = let k : i ≡ n = omega (arith, leb-true n i f) in plain-then (each text n) (text n) (sym (ap (λ (j : ℕ). plain (text j)) k) ∙ e)
    go false f more = plain-first (each text n) (text n) (more (leb-false n i f) e)

module _ (text : ℕ → List ℕ) where
  pub each-none : {w : Writer} → Writes (each text 0) w w
  unfolding each
  each-none = writes_nothing

  pub each-next : {i : ℕ} {u v w : Writer} → Writes (each text i) u v → Writes (text i) v w → Writes (each text (i + 1)) u w
  unfolding each
  each-next f g = rw add-one (and_then f g)

  pub each-all : {i n : ℕ} {u v : Writer} → i ≤ n → n ≤ i → Writes (each text i) u v → Writes (each text n) u v
  each-all h k = writes_by (ap (each text) (omega arith))

  pub each-unlisted : {i n : ℕ} → i < n → Unlisted (text i) → Unlisted (each text n)
  each-unlisted {i} {n} h f = record { not_plain = each-has text i n h f.not_plain }

-- ---- a run of members

module _ (width : ℕ) (cells : List ℕ) (member : ℕ → List ℕ) (r : Run) where
  pub run_inside : r.start + width * r.len ≤ length cells → (40 ∷ []) ++ (each (λ i. gap i ++ member (r.start + width * i)) r.len ++ (41 ∷ [])) ≡ listed width cells member r
  unfolding listed
  run_inside h = rw (le-leb (r.start + width * r.len) (length cells) h, listed)

  pub run_outside : length cells < r.start + width * r.len → malformed ≡ listed width cells member r
  unfolding listed
  run_outside h = rw (lt-leb (r.start + width * r.len) (length cells) h, listed)

-- the members of each list are narrow
pub narrow : (m : Members) → member_width m < 9
narrow S.tokens = omega arith
narrow S.params = omega arith
narrow S.fns = omega arith
narrow S.nodes = omega arith
narrow S.fields = omega arith
narrow S.cases = omega arith

-- so many cells has a list, and a member begins before them
module _ (w n : ℕ) (h : w < 9) (l : n < 4294967296) where
  pub few-cells : w * n < 34359738368
  few-cells = let z : w * n ≤ 8 * n = mul-le-mul_right n (omega arith) in omega arith

  pub few-before : (i : ℕ) → i < n → w * i < 34359738368
  few-before i k = let z : w * i ≤ w * n = mul-le-mul_left w (omega arith) in let y = few-cells in omega arith

-- ---- fields

pub lists-then : {a b : List ℕ} {u v w : Writer} {r : Result (Unit {0}) Malformed} → Writes a u v → Lists b v w r → Lists (a ++ b) u w r
lists-then {r = Ok x} f g = record { answers = and_then f g.answers }
lists-then {r = Err x} f g = record { answers = unlisted-then f g.answers }

module _ {A : Type 0} (text : A → List ℕ) (xs : List A) (i : ℕ) where
  -- the next field, and those behind it
  pub next_field : (d : A) → i < length xs → 32 ∷ (text (get_or xs i d) ++ fields (map text (drop (i + 1) xs))) ≡ fields (map text (drop i xs))
  unfolding fields gap
  next_field d h = rw (add-one, drop-cons xs i d h)

  pub no_field : length xs ≤ i → 41 ∷ [] ≡ fields (map text (drop i xs))
  unfolding fields
  no_field h = rw (drop_of_length-le xs h)

-- ---- the names of the kinds

pub kind_low : (k : ℕ) → k < 1 → malformed ≡ kind_name k
unfolding kind_name kind_names
kind_low k h = let e : k ≡ 0 = omega arith in rw e

pub kind_high : (k : ℕ) → 43 < k → malformed ≡ kind_name k
unfolding kind_name kind_names
kind_high k h = sym (get_or-eq_default kind_names malformed {n = k} h)

pub kind_none : (k : ℕ) → between 1 43 k ≡ false → malformed ≡ kind_name k
unfolding between
kind_none k = go (leb 1 k) refl (leb k 43) refl
  where
    go : (s : Bool) → leb 1 k ≡ s → (t : Bool) → leb k 43 ≡ t → elim s as (λ (_ : Bool). Bool) [ true ↦ t | false ↦ false ] ≡ false → malformed ≡ kind_name k
    go true e true f h = absurd (false≢true (sym h))
    go true e false f h = kind_high k (leb-false k 43 f)
    go false e t f h = kind_low k (leb-false 1 k e)

-- functions that antt computes to the same at the numbers with a property
same_at : (p : ℕ → Bool) (f g : ℕ → List ℕ) (n k : ℕ)
    → table (λ (x : ℕ). elim (p x) as (λ (_ : Bool). List ℕ) [ true ↦ f x | false ↦ [] ]) 0 n ≡ table (λ (x : ℕ). elim (p x) as (λ (_ : Bool). List ℕ) [ true ↦ g x | false ↦ [] ]) 0 n
    → k < n → p k ≡ true → f k ≡ g k
same_at p f g n k e h q =
    rw q at (agree (λ (x : ℕ). elim (p x) as (λ (_ : Bool). List ℕ) [ true ↦ f x | false ↦ [] ]) (λ (x : ℕ). elim (p x) as (λ (_ : Bool). List ℕ) [ true ↦ g x | false ↦ [] ]) [] n k e h)

-- the name that the lexer has for it
pub kind_named : (k : ℕ) → between 1 43 k ≡ true → L.kind_name k ≡ kind_name k
unfolding kind_name kind_names bytes L.kind_name L.kind_names between
kind_named k e = same_at (between 1 43) L.kind_name kind_name 44 k refl (omega (arith, to_high 1 43 k e)) e
