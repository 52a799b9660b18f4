-- Writing a text into a buffer from a position on: bytes behind the buffer's end are counted and
-- dropped.
use Rattle.std.specs.Prelude.{◌≡◌, Bool, true, false, ◌&&◌, List, [], ◌∷◌, ℕ, ◌+◌, min, ltb, set}
use Rattle.text.specs.declared.Writer.{Writer}

-- the last position; what is there stays there. It also says that something could not be listed.
abbrev pub last : ℕ
last = 18446744073709551615

pub record Output : Type 0 where
  pub buffer : List ℕ
  pub at : ℕ

unfoldable pub put : ℕ → Output → Output
put b o =
    elim (ltb b 256) [
      | true ↦ record { buffer = set o.buffer o.at b; at = min (o.at + 1) last }
      | false ↦ record { buffer = o.buffer; at = last }
    ]

unfoldable pub emit : List ℕ → Output → Output
emit [] o = o
emit (b ∷ bs) o = emit bs (put b o)

-- `text` is written: from the buffer `before` and `at` it came to `after` and `to`
pub record Emits (text before : List ℕ) (at : ℕ) (after : List ℕ) (to : ℕ) : Type 0 where
  pub emitted :
      ◌≡◌ {A = Output} (record { buffer = after; at = to })
      (emit text (record { buffer = before; at = at }))

-- a writer has written `text`: it went on in the same buffer, from where it stood `before` to where
-- it stands `after`
pub record Writes (text : List ℕ) (before after : Writer) : Type 0 where
  pub same_buffer : after.out.ghost_name ≡ before.out.ghost_name
  pub emits : Emits text before.out.now before.at after.out.now after.at

-- every number is a byte
unfoldable pub plain : List ℕ → Bool
plain [] = true
plain (b ∷ bs) = ltb b 256 && plain bs
