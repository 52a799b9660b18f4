-- A refusal in front of an answer.
use mathlib.Core.Path.{◌≡◌, refl}
use Prim.Native.Nat.{ℕ}
use Rattle.lex.specs.Answer.{Answer, refused}
use Rattle.lex.specs.Refusals.{number}
use Rattle.lex.specs.declared.diagnostic.Refusal.{Refusal}
use Rattle.lex.specs.declared.diagnostic.Refusal.TheVariants as R
use Rattle.ast.specs.Answer.{unless}

refusal_stops : {A : Type 0} (r : Refusal) (a : Answer A) → refused (number r) ≡ unless (number r) a
unfolding unless
refusal_stops R.TooLong a = refl
refusal_stops R.TooShort a = refl
refusal_stops R.Outside a = refl
refusal_stops R.Malformed a = refl
refusal_stops R.LineTooShort a = refl
refusal_stops R.NoWords a = refl
refusal_stops R.NotCut a = refl
refusal_stops R.SheetTooShort a = refl
refusal_stops R.TooManyLines a = refl
refusal_stops R.PracticeTooShort a = refl
refusal_stops R.PositionsFall a = refl
refusal_stops R.PlacesTooShort a = refl

-- what is refused by a number goes no further
pub stops : {A : Type 0} (r : Refusal) {n : ℕ} (a : Answer A) → number r ≡ n → refused (number r) ≡ unless n a
stops r a e = rw (← e) (refusal_stops r a)

-- and what no number refuses answers as it would
pub goes_on : {A : Type 0} {n : ℕ} (a : Answer A) → 0 ≡ n → a ≡ unless n a
unfolding unless
goes_on a e = rw (← e)
