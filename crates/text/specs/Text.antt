-- Texts of ASCII characters and numbers in decimal.
use Rattle.std.specs.Prelude.{true, false, List, [], ◌∷◌, ◌++◌, ℕ, zero, suc, ◌+◌, ◌/◌, ◌%◌, ltb}
use Prim.Native.Char.{code}
use Prim.Native.String.{String, [] as []ˢ, ◌∷◌ as ◌∷ˢ◌}

-- a text of ASCII characters
unfoldable pub bytes : String → List ℕ
bytes []ˢ = []
bytes (c ∷ˢ s) = code c ∷ bytes s

-- at most `fuel` digits more than one
unfoldable pub digits : ℕ → ℕ → List ℕ
digits zero n = (48 + n % 10) ∷ []
digits (suc fuel) n =
    elim (ltb n 10) [ true ↦ [] | false ↦ digits fuel (n / 10) ] ++ ((48 + n % 10) ∷ [])

-- in decimal
unfoldable pub number : ℕ → List ℕ
number n = digits n n
