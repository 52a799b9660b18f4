-- Two things that may be missing agree: both are there, and are the same. A tree is well formed if
-- it agrees with itself, and two well-formed trees have the same shape if they agree.
use Rattle.std.specs.Prelude.{◌≡◌, Bool, true}
use Rattle.std.proofs.Math.Option.{Option, some}

pub record Agree {A : Type 0} (x y : Option A) : Type 0 where
  pub it : A
  pub left : x ≡ some it
  pub right : y ≡ some it

-- a test decides a claim
pub record Decides (r : Bool) (P : Type 0) : Type 0 where
  pub holds : r ≡ true → P
  pub back : P → r ≡ true
