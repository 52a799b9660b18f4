-- `words::write_line` meets its contract.
use Rattle.std.proofs.Common.{◌∙◌}
use Rattle.text.proofs.EmitLaws.{and_then, writes_by}
use Rattle.words.specs.Words.{line}
use Rattle.words.proofs.write_line.Goals as goal

pub returns : goal.returns
unfolding line
returns c = and_then (writes_by (c.as_bytes.ensures.value ∙ c.phrase.ensures) c.write_text.ensures) c.write_details.ensures
