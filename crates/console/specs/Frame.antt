-- A number lies within its limit, and a frame within its buffer. No contract can say which bytes
-- are read.
use Rattle.std.specs.Prelude.{Option, Some, None, List, ◌≡◌, ℕ, ◌≤◌, length, take, drop}

-- `&xs[..n]` is in bounds and has n bytes. The second part follows from the first, and spares a
-- caller's `&buf[..n]` a proof.
abbrev pub IsPrefixLen : ℕ → List ℕ → Type 0
IsPrefixLen n xs = (n ≤ length xs) × (n ≡ length (take n xs))

-- A number; None where nothing was left.
abbrev pub Within : ℕ → Option ℕ → Type 0
Within limit (Some n) = n ≤ limit
Within limit None = Unit {0}

-- The buffer as it was lent and as it is left: behind a frame it is as it was, and where nothing was
-- left, all of it is.
abbrev pub Inside : List ℕ → List ℕ → Option ℕ → Type 0
Inside lent left (Some n) = IsPrefixLen n left × (drop n left ≡ drop n lent)
Inside lent left None = left ≡ lent
