-- `words::write_hex` meets its contract.
use Rattle.std.proofs.Common.{[], ◌∷◌, ap}
use Rattle.text.proofs.EmitLaws.{and_then, writes_by}
use Rattle.words.specs.Words.{hex}
use Rattle.words.proofs.write_hex.Goals as goal

pub returns : goal.returns
unfolding hex
returns c =
    and_then (writes_by (ap (λ d. d ∷ []) c.hex_digit.ensures) c.write_byte.ensures) (writes_by (ap (λ d. d ∷ []) c.hex_digit-2.ensures) c.write_byte-2.ensures)
