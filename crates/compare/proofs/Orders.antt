-- The parts that the code has for an order, against the table of parts.
use mathlib.Core.Path.{◌≡◌, refl}
use mathlib.Core.Bool.{Bool, true, false}
use mathlib.Core.List.{List, [], ◌∷◌}
use Prim.Native.Nat.{ℕ, zero, suc, ◌+◌, ◌-◌, ◌*◌, ◌%◌, ◌<◌, ◌≤◌}
use native.Mathlib.Nat.{add-zero}
use lib.Dec.{eqb, ltb}
use borrow.Author.Tests.{eqb-true, lt-ltb, ltb-true, ltb-false}
use Rattle.lex.specs.Bytes.{if}
use Rattle.lex.proofs.Laws.{agree}
use native.Mathlib.Omega.{arith}
use lib.ListN.{get_or}
use Rattle.ast.specs.Schema.{node_schema}
use Rattle.rules.specs.Shape.{Env}
use Rattle.compare.specs.Parts.{PartsAgree, part_of, sort_at, parts}
use Rattle.compare.specs.Orders.{number, FieldAgrees, IsPlaced, AreFirst}
use Rattle.compare.specs.declared.node.Order.{Order}
use Rattle.compare.specs.declared.node.Order.TheVariants as O
use Rattle.compare.specs.declared.node.Part.{Part}
use Rattle.compare.specs.declared.node.Part.TheVariants.{Nothing}
use Rattle.compare.proofs.Nodes.{nothing_agrees}

four : (P : ℕ → Type 0) → P 0 → P 1 → P 2 → P 3 → (x : ℕ) → x < 4 → P x
four P a b c d zero l = a
four P a b c d (suc zero) l = b
four P a b c d (suc (suc zero)) l = c
four P a b c d (suc (suc (suc zero))) l = d
four P a b c d (suc (suc (suc (suc x)))) l = absurd (omega arith)

-- four parts, each at its place of the order `o`
pub are_first : {order : Order} (o : Order) (a b c d : Part) → order ≡ o → IsPlaced o 0 a → IsPlaced o 1 b → IsPlaced o 2 c → IsPlaced o 3 d → AreFirst order (a ∷ b ∷ c ∷ d ∷ [])
are_first o a b c d e p q r t = rw e (four (λ x. IsPlaced o x (get_or (a ∷ b ∷ c ∷ d ∷ []) x Nothing)) p q r t)

-- nothing stands at the place behind them
none-fifth : (o : Order) → sort_at (6 * number o + 4) ≡ 0
unfolding sort_at parts node_schema
none-fifth O.Atom = refl
none-fifth O.Ident = refl
none-fifth O.Bin = refl
none-fifth O.Unary = refl
none-fifth O.Let = refl
none-fifth O.Fn = refl
none-fifth O.Match = refl
none-fifth O.Call = refl
none-fifth O.Field = refl
none-fifth O.Cast = refl
none-fifth O.Import = refl
none-fifth O.Extern = refl
none-fifth O.Record = refl
none-fifth O.Array = refl
none-fifth O.RightLast = refl
none-fifth O.ArgumentsLast = refl

-- and where nothing stands, nothing stands behind
number_small : (o : Order) → number o < 17
number_small O.Atom = omega arith
number_small O.Ident = omega arith
number_small O.Bin = omega arith
number_small O.Unary = omega arith
number_small O.Let = omega arith
number_small O.Fn = omega arith
number_small O.Match = omega arith
number_small O.Call = omega arith
number_small O.Field = omega arith
number_small O.Cast = omega arith
number_small O.Import = omega arith
number_small O.Extern = omega arith
number_small O.Record = omega arith
number_small O.Array = omega arith
number_small O.RightLast = omega arith
number_small O.ArgumentsLast = omega arith

none-next : (k : ℕ) → k < 102 → k % 6 < 4 → sort_at k ≡ 0 → sort_at (k + 1) ≡ 0
unfolding sort_at parts node_schema
none-next k h l e =
    let t = agree (λ (n : ℕ). if (eqb (sort_at n) 0) (if (ltb (n % 6) 4) (eqb (sort_at (n + 1)) 0) true) true) (λ (n : ℕ). true) true 102 k refl h in
    eqb-true _ _ (rw (e, lt-ltb _ _ l) at t)

none-behind : (g x d : ℕ) → g < 17 → x + d < 5 → sort_at (6 * g + x) ≡ 0 → sort_at (6 * g + (x + d)) ≡ 0
none-behind g x zero h l e = rw add-zero e
none-behind g x (suc d) h l e =
    let m : (6 * g + (x + d)) % 6 ≡ x + d = omega arith in
    let q : 6 * g + (x + suc d) ≡ 6 * g + (x + d) + 1 = omega arith in
    rw q (none-next (6 * g + (x + d)) (omega arith) (omega arith) (none-behind g x d h (omega arith) e))

module _ (e e' : Env) (xs xs' : List ℕ) (p p' : ℕ) (o : Order) where
  pub as_field : (x : ℕ) (part : Part) → IsPlaced o x part → PartsAgree e e' (number o) xs p xs' p' x → FieldAgrees e e' xs p xs' p' part
  unfolding PartsAgree
  as_field x part f a = rw (f.0, f.1) a

  as_part : (x : ℕ) (part : Part) → IsPlaced o x part → FieldAgrees e e' xs p xs' p' part → PartsAgree e e' (number o) xs p xs' p' x
  unfolding PartsAgree
  as_part x part f a = rw (f.0, f.1) at a

  no-part : (x : ℕ) → sort_at (6 * number o + x) ≡ 0 → PartsAgree e e' (number o) xs p xs' p' x
  unfolding PartsAgree part_of
  no-part x z = rw z (nothing_agrees e e' xs _ xs' _)

  -- those before `x` agree, and nothing stands from there on
  pub ended : (ps : List Part) → AreFirst o ps → (x : ℕ) → x < 5 → sort_at (6 * number o + x) ≡ 0 → ((y : ℕ) → y < x → FieldAgrees e e' xs p xs' p' (get_or ps y Nothing)) → (y : ℕ) → y < 5 → PartsAgree e e' (number o) xs p xs' p' y
  ended ps f x h z a y l = go (ltb y x) refl
    where
      go : (b : Bool) → ltb y x ≡ b → PartsAgree e e' (number o) xs p xs' p' y
      go true q = let t : y < x = ltb-true y x q in as_part y (get_or ps y Nothing) (f y (omega arith)) (a y t)
      go false q =
          let t : x ≤ y = ltb-false y x q in
          let m : x + (y - x) ≡ y = omega arith in
          no-part y (rw m at (none-behind (number o) x (y - x) (number_small o) (omega arith) z))

  -- all four agree
  pub five : (ps : List Part) → AreFirst o ps → ((y : ℕ) → y < 4 → FieldAgrees e e' xs p xs' p' (get_or ps y Nothing)) → (y : ℕ) → y < 5 → PartsAgree e e' (number o) xs p xs' p' y
  five ps f a = ended ps f 4 (omega arith) (none-fifth o) a
