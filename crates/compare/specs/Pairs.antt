-- Two lists, member by member.
use Rattle.std.specs.Prelude.{◌≡◌, List, ℕ, ◌+◌, ◌*◌, ◌<◌, ◌≤◌, length, Option, None, Some}
use Rattle.ast.specs.declared.Run.{Run}
use Rattle.compare.specs.declared.pairs.Pairs.{Pairs}

-- two runs of one length, each in its cells
abbrev pub InStep : ℕ → List ℕ → Run → List ℕ → Run → Type 0
InStep width cells r cells' r' =
    (r.len ≡ r'.len)
    × (r.start + r.len * width ≤ length cells)
    × (r'.start + r'.len * width ≤ length cells')

-- the places that are left fit a word
abbrev pub Room : Pairs → Type 0
Room p =
    (p.at + p.left * p.width < 18446744073709551616)
    × (p.at2 + p.left * p.width < 18446744073709551616)

-- the pairs are those of two runs in step
abbrev pub ArePairs : ℕ → List ℕ → Run → List ℕ → Run → Pairs → Type 0
ArePairs width cells r cells' r' p =
    InStep width cells r cells' r'
    × Room p
    × (p.at ≡ r.start)
    × (p.at2 ≡ r'.start)
    × (p.left ≡ r.len)
    × (p.width ≡ width)

-- the next two places, where any are left, and the pairs behind them
abbrev pub GivesPlaces : Pairs → Option (ℕ × ℕ) → Pairs → Type 0
GivesPlaces s None t = (s.left ≡ 0) × (t ≡ s)
GivesPlaces s (Some x) t =
    (0 < s.left)
    × (x ≡ (s.at, s.at2))
    × (t.at ≡ s.at + s.width)
    × (t.at2 ≡ s.at2 + s.width)
    × (t.left + 1 ≡ s.left)
    × (t.width ≡ s.width)

-- the last two places, where any are left, and the pairs before them
abbrev pub TakesLast : Pairs → Option (ℕ × ℕ) → Pairs → Type 0
TakesLast s None t = (s.left ≡ 0) × (t ≡ s)
TakesLast s (Some x) t =
    (s.left ≡ t.left + 1)
    × (x ≡ (s.at + t.left * s.width, s.at2 + t.left * s.width))
    × (t.at ≡ s.at)
    × (t.at2 ≡ s.at2)
    × (t.width ≡ s.width)
