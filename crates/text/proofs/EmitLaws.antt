-- Laws of writing a text: one text behind another, a byte, a number, and what a whole text leaves.
use mathlib.Core.Path.{◌≡◌, refl, sym, ◌∙◌, ap}
use mathlib.Core.Bool.{Bool, true, false, false≢true, ◌&&◌}
use mathlib.Core.List.{List, [], ◌∷◌, ◌++◌}
use Prim.Native.Nat.{ℕ, zero, suc, ◌+◌, ◌/◌, ◌%◌, ◌<◌, ◌≤◌, min}
use native.Mathlib.Nat.{zero-add}
use native.Mathlib.Omega.{arith}
use lib.Dec.{ltb}
use lib.ListN.{length, get_or, set, take, drop, length-set}
use lib.Seq.{set_out, sets, sets-eq, paste}
use Rattle.std.proofs.lemmas.List.Edits.{paste_all}
use Rattle.std.proofs.lemmas.List.{append_assoc, nil_from_length}
use borrow.Author.Tests.{lt-ltb, le-ltb, ltb-true, ltb-false}
use Rattle.text.specs.Text.{digits, number}
use Rattle.text.specs.Emit.{Output, last, put, emit, Emits, Writes, plain}
use Rattle.text.specs.declared.Writer.{Writer}
use Rattle.text.specs.Answer.{written, result, in_front}

-- a property of a choice holds if it holds of each case
cases : {A : Type 0} (P : A → Type 0) {a b : A} (t : Bool) → (t ≡ true → P a) → (t ≡ false → P b) → P (elim t as (λ (_ : Bool). A) [ true ↦ a | false ↦ b ])
cases P true f g = f refl
cases P false f g = g refl

emit-append : (a b : List ℕ) (o : Output) → emit (a ++ b) o ≡ emit b (emit a o)
unfolding emit
emit-append [] b o = refl
emit-append (x ∷ a) b o = emit-append a b (put x o)

module _ {a b x y z : List ℕ} {p q r : ℕ} where
  -- a text, and then another
  pub then : Emits a x p y q → Emits b y q z r → Emits (a ++ b) x p z r
  then f g = record { emitted = g.emitted ∙ ap (emit b) f.emitted ∙ sym (emit-append a b (record { buffer = x; at = p })) }

-- nothing
pub nothing : {x : List ℕ} {p : ℕ} → Emits [] x p x p
unfolding emit
nothing = record { emitted = refl }

-- the text is another by an equation
pub by : {a b x y : List ℕ} {p q : ℕ} → a ≡ b → Emits a x p y q → Emits b x p y q
by {x = x} {p = p} e f = record { emitted = f.emitted ∙ ap (λ (t : List ℕ). emit t (record { buffer = x; at = p })) e }

-- ---- writers

module _ {a b : List ℕ} {u v w : Writer} where
  pub and_then : Writes a u v → Writes b v w → Writes (a ++ b) u w
  and_then f g = record { same_buffer = g.same_buffer ∙ f.same_buffer; emits = then f.emits g.emits }

pub writes_nothing : {w : Writer} → Writes [] w w
writes_nothing = record { same_buffer = refl; emits = nothing }

pub writes_by : {a b : List ℕ} {u v : Writer} → a ≡ b → Writes a u v → Writes b u v
writes_by e f = record { same_buffer = f.same_buffer; emits = by e f.emits }

-- ---- a buffer's length

length-put : (b : ℕ) (o : Output) → length (put b o).buffer ≡ length o.buffer
unfolding put
length-put b o = go (ltb b 256)
  where
    go : (t : Bool) → length (elim t as (λ (_ : Bool). Output) [ true ↦ record { buffer = set o.buffer o.at b; at = min (o.at + 1) last } | false ↦ record { buffer = o.buffer; at = last } ]).buffer ≡ length o.buffer
    go true = length-set o.buffer o.at b
    go false = refl

length-emit : (text : List ℕ) (o : Output) → length (emit text o).buffer ≡ length o.buffer
unfolding emit
length-emit [] o = refl
length-emit (b ∷ text) o = length-emit text (put b o) ∙ length-put b o

-- a buffer keeps its length
pub same_size : {a x y : List ℕ} {p q : ℕ} → Emits a x p y q → length y ≡ length x
same_size {a} {x} {y} {p} f = ap (λ (o : Output). length o.buffer) f.emitted ∙ length-emit a (record { buffer = x; at = p })

-- ---- a byte

pub put_byte : (b : ℕ) (o : Output) → b < 256 → put b o ≡ record { buffer = set o.buffer o.at b; at = min (o.at + 1) last }
unfolding put
put_byte b o h = rw (lt-ltb b 256 h, put)

output : {x y : List ℕ} {p q : ℕ} → x ≡ y → p ≡ q → ◌≡◌ {A = Output} (record { buffer = x; at = p }) (record { buffer = y; at = q })
output e f = cc

module _ (b : ℕ) (x : List ℕ) (at : ℕ) (small : b < 256) where
  pub byte_inside : Emits (b ∷ []) x at (set x at b) (min (at + 1) last)
  unfolding emit
  byte_inside = record { emitted = sym (put_byte b (record { buffer = x; at = at }) small) }

  pub byte_behind : length x ≤ at → Emits (b ∷ []) x at x (min (at + 1) last)
  unfolding emit
  byte_behind l = record { emitted = output (sym (set_out x at b l)) refl ∙ sym (put_byte b (record { buffer = x; at = at }) small) }

-- ---- numbers

-- more fuel makes no difference
fuel : (f g n : ℕ) → n ≤ f → n ≤ g → digits f n ≡ digits g n
unfolding digits
fuel zero zero n h k = refl
fuel zero (suc g) n h k = rw (lt-ltb n 10 (omega arith))
fuel (suc f) zero n h k = rw (lt-ltb n 10 (omega arith))
fuel (suc f) (suc g) n h k =
    ap (λ (l : List ℕ). l ++ ((48 + n % 10) ∷ []))
    (cases (λ (l : List ℕ). l ≡ elim (ltb n 10) as (λ (_ : Bool). List ℕ) [ true ↦ [] | false ↦ digits g (n / 10) ]) (ltb n 10)
    (λ e. rw e) (λ e. let l : 10 ≤ n = ltb-false n 10 e in rw e (fuel f g (n / 10) (omega arith) (omega arith))))

pub one_digit : (n : ℕ) → n < 10 → (48 + n % 10) ∷ [] ≡ number n
unfolding number digits
one_digit zero h = refl
one_digit (suc m) h = rw (lt-ltb (suc m) 10 h)

pub small_number : (n : ℕ) → n < 10 → (48 + n) ∷ [] ≡ number n
small_number n h = let e : n % 10 ≡ n = omega arith in rw e at (one_digit n h)

pub more_digits : (n : ℕ) → 10 ≤ n → number (n / 10) ++ ((48 + n % 10) ∷ []) ≡ number n
unfolding number digits
more_digits zero h = absurd (omega arith)
more_digits (suc m) h = rw (le-ltb (suc m) 10 h, fuel (suc m / 10) m (suc m / 10) (omega arith) (omega arith))

-- ---- a whole text

pub and_left : (a b : Bool) → (a && b) ≡ true → a ≡ true
and_left true b e = refl
and_left false b e = e

pub and_right : (a b : Bool) → (a && b) ≡ true → b ≡ true
and_right true b e = e
and_right false b e = absurd (false≢true e)

-- bytes, up to the last position
pub bytes_count : (text : List ℕ) (o : Output) → plain text ≡ true → o.at ≤ last → (emit text o).at ≡ min (o.at + length text) last
unfolding emit plain
bytes_count [] o e h = omega arith
bytes_count (b ∷ text) o e h =
    let small : b < 256 = ltb-true b 256 (and_left (ltb b 256) (plain text) e) in
    let p : (put b o).at ≡ min (o.at + 1) last = ap (λ (x : Output). x.at) (put_byte b o small) in
    bytes_count text (put b o) (and_right (ltb b 256) (plain text) e) (omega arith) ∙ omega arith

-- bytes into a buffer
pub bytes_in : (text : List ℕ) (o : Output) → plain text ≡ true → o.at + length text ≤ last → (emit text o).buffer ≡ sets o.buffer o.at text
unfolding emit plain
bytes_in [] o e h = refl
bytes_in (b ∷ text) o e h =
    let small : b < 256 = ltb-true b 256 (and_left (ltb b 256) (plain text) e) in
    let p : put b o ≡ record { buffer = set o.buffer o.at b; at = min (o.at + 1) last } = put_byte b o small in
    let q : (put b o).at ≡ suc o.at = ap (λ (x : Output). x.at) p ∙ omega arith in
    bytes_in text (put b o) (and_right (ltb b 256) (plain text) e) (omega arith)
    ∙ ap (λ (n : ℕ). sets (put b o).buffer n text) q
    ∙ ap (λ (x : Output). sets x.buffer (suc o.at) text) p

pub plain_bytes : (text : List ℕ) → ((i : ℕ) → get_or text i 0 < 256) → plain text ≡ true
unfolding plain
plain_bytes [] h = refl
plain_bytes (x ∷ text) h = rw (lt-ltb x 256 (h 0)) (plain_bytes text (λ i. h (suc i)))

-- bytes in place of others
pub pasted : (text x : List ℕ) (at n : ℕ) → plain text ≡ true → length text ≡ n → at + n ≤ length x → at + n ≤ last → Emits text x at (paste x at text n) (at + n)
pasted text x at n e l h k =
    let o : Output = record { buffer = x; at = at } in
    let out : (emit text o).buffer ≡ paste x at text n = bytes_in text o e (omega arith) ∙ sets-eq text x at (omega arith) ∙ append_assoc (take at x) text (drop (at + length text) x) ∙ sym (paste_all x at text (length text) refl) ∙ ap (paste x at text) l in
    let to : (emit text o).at ≡ at + n = bytes_count text o e (omega arith) ∙ omega arith in
    record { emitted = output (sym out) (sym to) }

-- ---- a text by parts

plain_front : (a b : List ℕ) → plain (a ++ b) ≡ true → plain a ≡ true
unfolding plain
plain_front [] b e = refl
plain_front (x ∷ a) b e = rw (and_left (ltb x 256) (plain (a ++ b)) e) (plain_front a b (and_right (ltb x 256) (plain (a ++ b)) e))

plain_behind : (a b : List ℕ) → plain (a ++ b) ≡ true → plain b ≡ true
unfolding plain
plain_behind [] b e = e
plain_behind (x ∷ a) b e = plain_behind a b (and_right (ltb x 256) (plain (a ++ b)) e)

-- what is left of a text of bytes, from where writing has come to, ends as the whole text does
pub record Left (text before : List ℕ) (at : ℕ) (rest now : List ℕ) (to : ℕ) : Type 0 where
  pub bytes : plain rest ≡ true
  pub same : ◌≡◌ {A = Output} (emit rest (record { buffer = now; at = to })) (emit text (record { buffer = before; at = at }))

module _ {text x : List ℕ} {p : ℕ} where
  pub left_all : ((i : ℕ) → get_or text i 0 < 256) → Left text x p text x p
  left_all h = record { bytes = plain_bytes text h; same = refl }

  pub left_front : (a more : List ℕ) {rest y : List ℕ} {q : ℕ} → a ++ more ≡ rest → Left text x p rest y q → plain a ≡ true
  left_front a more e l = plain_front a more (rw (sym e) at l.bytes)

  pub left_less : (a : List ℕ) {rest more y z : List ℕ} {q r : ℕ} → a ++ more ≡ rest → Left text x p rest y q → Emits a y q z r → Left text x p more z r
  left_less a {rest} {more} {y} {z} {q} {r} e l f = record { bytes = plain_behind a more (rw (sym e) at l.bytes); same = ap (emit more) f.emitted ∙ sym (emit-append a more (record { buffer = y; at = q })) ∙ ap (λ (t : List ℕ). emit t (record { buffer = y; at = q })) e ∙ l.same }

  pub left_none : {y : List ℕ} {q : ℕ} (rest : List ℕ) → length rest ≡ 0 → Left text x p rest y q → Emits text x p y q
  unfolding emit
  left_none rest e l = record { emitted = rw (nil_from_length rest e) at l.same }

-- a text of bytes that fits stands in front of what the buffer held
pub whole : {text x z : List ℕ} {m : ℕ} → plain text ≡ true → length text ≤ length x → length text ≤ last → Emits text x 0 z m → result (written m) z ≡ in_front text x
whole {text} {x} {z} {m} e l h f =
    let o : Output = record { buffer = x; at = 0 } in
    let to : m ≡ length text = ap (λ (o : Output). o.at) f.emitted ∙ bytes_count text o e (omega arith) ∙ omega arith in
    let out : z ≡ text ++ drop (length text) x = ap (λ (o : Output). o.buffer) f.emitted ∙ bytes_in text o e (omega arith) ∙ sets-eq text x 0 (omega arith) ∙ ap (λ (i : ℕ). text ++ drop i x) (zero-add (length text)) in
    rw (to, out)
