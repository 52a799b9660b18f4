-- Laws of a whole text: what it measures on no buffer, and what it leaves in one that is long enough.
use mathlib.Core.Path.{◌≡◌, refl, sym, ◌∙◌, ap}
use mathlib.Core.Bool.{Bool, true, false, false≢true, ◌&&◌}
use mathlib.Core.List.{List, [], ◌∷◌, ◌++◌}
use Prim.Native.Nat.{ℕ, ◌+◌, ◌<◌, ◌≤◌, min}
use native.Mathlib.Nat.{zero-add}
use native.Mathlib.Omega.{arith}
use lib.Dec.{ltb}
use lib.ListN.{length, set, drop}
use lib.Seq.{sets-eq}
use borrow.Author.Tests.{lt-ltb, le-ltb, le-leb, lt-leb, ltb-true}
use Rattle.std.specs.Prelude.{Result as Outcome, Ok, Err, IsErr, IsErrAnd}
use Rattle.listing.specs.declared.emit.Malformed.{Malformed}
use Rattle.listing.specs.declared.ListingError.{ListingError}
use Rattle.listing.specs.declared.ListingError.TheVariants as L
use Rattle.text.specs.Emit.{plain}
use Rattle.listing.specs.Listing.{fits, Measures, into_buffer, listing_answer}
use Rattle.listing.specs.Lists.{Unlisted}
use Rattle.text.specs.Answer as T
use Rattle.text.specs.Answer.{Result}
use Rattle.text.specs.Emit.{Output, last, put, emit, Emits}
use Rattle.text.proofs.EmitLaws.{bytes_count, bytes_in, and_left, and_right}
use Rattle.text.proofs.Plain.{kept as counted_leaves}

-- ---- positions

-- the last position is not left
at_last : (b : ℕ) (o : Output) → o.at ≡ last → (put b o).at ≡ last
unfolding put
at_last b o e = go (ltb b 256)
  where
    go : (t : Bool) → (elim t as (λ (_ : Bool). Output) [ true ↦ record { buffer = set o.buffer o.at b; at = min (o.at + 1) last } | false ↦ record { buffer = o.buffer; at = last } ]).at ≡ last
    go true = omega arith
    go false = refl

stays : (text : List ℕ) (o : Output) → o.at ≡ last → (emit text o).at ≡ last
unfolding emit
stays [] o e = e
stays (b ∷ text) o e = stays text (put b o) (at_last b o e)

-- what is no byte
fault : (text : List ℕ) (o : Output) → plain text ≡ false → (emit text o).at ≡ last
unfolding emit plain put
fault [] o e = absurd (false≢true (sym e))
fault (b ∷ text) o e = go (ltb b 256) refl (fault text (put b o))
  where
    go : (t : Bool) → ltb b 256 ≡ t → (plain text ≡ false → (emit text (put b o)).at ≡ last) → (emit text (put b o)).at ≡ last
    go true f more = more (rw f at e)
    go false f more = stays text (put b o) (rw (f, put))

-- ---- how long a text is

-- counted on no buffer it leaves none
pub kept : {text y : List ℕ} (x : List ℕ) {n : ℕ} → Emits text [] 0 y n → y ++ x ≡ x
kept x measured = counted_leaves measured x

module _ {text x y : List ℕ} {n : ℕ} (measured : Emits text x 0 y n) where
  pub counted : (emit text (record { buffer = x; at = 0 })).at ≡ n
  counted = sym (ap (λ (o : Output). o.at) measured.emitted)

  length_is : plain text ≡ true → n ≡ min (length text) last
  length_is e = sym counted ∙ bytes_count text (record { buffer = x; at = 0 }) e (omega arith) ∙ omega arith

  pub too_long : n ≡ last → fits text ≡ false
  too_long h = go (plain text) refl
    where
      go : (t : Bool) → plain text ≡ t → (t && ltb (length text) last) ≡ false
      go true e = let l : last ≤ length text = omega (arith, length_is e) in le-ltb (length text) last l
      go false e = refl

  pub fitting : (n ≡ last → ⊥) → (fits text ≡ true) × (n ≡ length text)
  fitting h = go (plain text) refl
    where
      go : (t : Bool) → plain text ≡ t → ((t && ltb (length text) last) ≡ true) × (n ≡ length text)
      go true e = let l : n ≡ min (length text) last = length_is e in (lt-ltb (length text) last (omega arith), omega arith)
      go false e = absurd (h (sym counted ∙ fault text (record { buffer = x; at = 0 }) e))

-- below the last position there are bytes only
pub not_measured : (text : List ℕ) (r : Outcome ℕ Malformed) → IsErr r → Unlisted text → Measures text r
not_measured text (Ok x) e f = absurd (false≢true e)
not_measured text (Err x) e f = rw f.not_plain

-- ---- the three answers

pub no_tree : (text x : List ℕ) → fits text ≡ false → ◌≡◌ {A = Result} (record { answer = T.refused 4; buffer = x }) (into_buffer text x)
unfolding into_buffer
no_tree text x e = rw (e, into_buffer)

pub malformed_answer : (r : Outcome ℕ ListingError) → IsErrAnd r (λ e. e ≡ L.Malformed) → listing_answer r ≡ T.refused 4
unfolding listing_answer
malformed_answer (Ok n) e = absurd e
malformed_answer (Err x) e = ap (λ (y : ListingError). listing_answer (Err y)) e

module _ (text x : List ℕ) {n : ℕ} (long : (fits text ≡ true) × (n ≡ length text)) where
  pub no_room : length x < n → ◌≡◌ {A = Result} (record { answer = T.refused 2; buffer = x }) (into_buffer text x)
  unfolding into_buffer
  no_room l =
      let e : n ≡ length text = long.1 in
      rw (long.0, lt-leb (length text) (length x) (omega arith), into_buffer)

  pub whole : {z : List ℕ} (m : ℕ) → n ≤ length x → Emits text x 0 z m → ◌≡◌ {A = Result} (record { answer = T.written n; buffer = z }) (into_buffer text x)
  unfolding into_buffer
  whole {z} m h f =
      let e : n ≡ length text = long.1 in
      let p : plain text ≡ true = and_left _ _ long.0 in
      let k : length text < last = ltb-true _ _ (and_right (plain text) _ long.0) in
      let o : Output = record { buffer = x; at = 0 } in
      let out : z ≡ text ++ drop (length text) x = ap (λ (o : Output). o.buffer) f.emitted ∙ bytes_in text o p (omega arith) ∙ sets-eq text x 0 (omega arith) ∙ ap (λ (i : ℕ). text ++ drop i x) (zero-add (length text)) in
      rw (long.0, le-leb (length text) (length x) (omega arith), e, out, into_buffer)
