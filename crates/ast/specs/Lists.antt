-- Reading what lists hold: none where a number or a run lies outside.
use Rattle.std.proofs.Math.Option.{Option, none, some}
use Rattle.std.specs.Prelude.{List, [], ◌∷◌, ℕ, zero, suc}
use Rattle.lex.specs.declared.tok.Token.{Token}
use Rattle.ast.specs.declared.Run.{Run}

-- ---- what may be none

unfoldable pub map₁ : {A B : Type 0} → (A → B) → Option A → Option B
map₁ f none = none
map₁ f (some a) = some (f a)

unfoldable pub map₂ : {A B C : Type 0} → (A → B → C) → Option A → Option B → Option C
map₂ f none b = none
map₂ f (some a) b = map₁ (f a) b

unfoldable pub map₃ : {A B C D : Type 0} → (A → B → C → D) → Option A → Option B → Option C → Option D
map₃ f none b c = none
map₃ f (some a) b c = map₂ (f a) b c

unfoldable pub map₄ : {A B C D E : Type 0} → (A → B → C → D → E) → Option A → Option B → Option C → Option D → Option E
map₄ f none b c d = none
map₄ f (some a) b c d = map₃ (f a) b c d

unfoldable pub map₅ : {A B C D E F : Type 0} → (A → B → C → D → E → F) → Option A → Option B → Option C → Option D → Option E → Option F
map₅ f none b c d e = none
map₅ f (some a) b c d e = map₄ (f a) b c d e

unfoldable pub and_then : {A B : Type 0} → Option A → (A → Option B) → Option B
and_then none f = none
and_then (some a) f = f a

-- ---- cells

-- what cells say, from the first on, and the cells after that
abbrev pub Decoder : Type 0 → Type 0
Decoder A = List ℕ → Option (A × List ℕ)

unfoldable pub decoded : {A : Type 0} → Option A → Decoder A
decoded o = λ cs. map₁ (λ a. (a, cs)) o

unfoldable pub chain : {A B : Type 0} → Decoder A → (A → Decoder B) → Decoder B
chain x f = λ cs. and_then (x cs) (λ r. f r.0 r.1)

unfoldable pub number : Decoder ℕ
number [] = none
number (i ∷ cs) = some (i, cs)

unfoldable pub token : Decoder Token
token = chain number (λ k. chain number (λ s. chain number (λ l. decoded (some (record { kind = k; start = s; len = l })))))

unfoldable pub run : Decoder Run
run = chain number (λ s. chain number (λ l. decoded (some (record { start = s; len = l }))))

-- then what that stands for
unfoldable pub resolve : {A B : Type 0} → Decoder A → (A → Option B) → Decoder B
resolve x f = chain x (λ a. decoded (f a))

unfoldable pub both : {A B : Type 0} → Decoder A → Decoder B → Decoder (A × B)
both x y = chain x (λ a. chain y (λ b. decoded (some (a, b))))

-- so many members, one after the other
unfoldable pub items : {A L : Type 0} → Decoder A → L → (A → L → L) → ℕ → Decoder L
items x nil cons zero = decoded (some nil)
items x nil cons (suc n) = chain x (λ a. chain (items x nil cons n) (λ l. decoded (some (cons a l))))

-- the cells from a place on
unfoldable pub from : ℕ → List ℕ → Option (List ℕ)
from zero cs = some cs
from (suc n) [] = none
from (suc n) (c ∷ cs) = from n cs

-- the members of a run
unfoldable pub list_at : {A L : Type 0} → Decoder A → L → (A → L → L) → List ℕ → Run → Option L
list_at x nil cons cells r = and_then (from r.start cells) (λ cs. map₁ (λ q. q.0) (items x nil cons r.len cs))
