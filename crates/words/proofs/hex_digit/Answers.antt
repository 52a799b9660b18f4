-- `words::hex_digit` meets its contract.
use Rattle.words.specs.Words.{hex_digit}
use Rattle.words.proofs.Parts.{digit_at}
use Rattle.words.proofs.hex_digit.Goals as goal

pub returns : goal.returns
unfolding hex_digit
returns c = digit_at c.args.d c.requires
