-- The two powers of each sign, computed: the right one is the left one plus 1.
use mathlib.Core.Path.{◌≡◌, refl}
use mathlib.Core.Option.{Option, none, some}
use mathlib.Core.List.{[], ◌∷◌, map}
use Prim.Native.Nat.{ℕ}
use Rattle.lex.specs.Kind.{k_plus, k_minus, k_asteriks, k_slash, k_percent, k_double_equal, k_not_equal, k_less_than, k_greater_than}
use Rattle.rules.specs.Combinators.{choose}
use Rattle.rules.specs.Rules.{stage_one, right_power, prefix_power}

-- the powers of a sign on its left and right
abbrev pub powers : ℕ → Option (ℕ × ℕ)
powers kind = elim (stage_one kind) [ none ↦ none | some left ↦ some (left, right_power left) ]

-- Document 01: 'Powers, left and right: DoubleEqual (two equals signs), `<` and `>` 0, 1; `+` `-`
-- 1, 2; `*` `/` `%` 3, 4. Prefix sign 5.' NotEqual is no infix sign of stage one.
pub powers_table :
    (map powers (k_double_equal ∷ k_less_than ∷ k_greater_than ∷ []) ≡ some (0, 1) ∷ some (0, 1) ∷ some (0, 1) ∷ [])
    × (map powers (k_plus ∷ k_minus ∷ []) ≡ some (1, 2) ∷ some (1, 2) ∷ [])
    × (map powers (k_asteriks ∷ k_slash ∷ k_percent ∷ []) ≡ some (3, 4) ∷ some (3, 4) ∷ some (3, 4) ∷ [])
    × (powers k_not_equal ≡ none)
    × (prefix_power ≡ 5)
unfolding stage_one choose
powers_table = (refl, refl, refl, refl, refl)
