-- `words::write_details` meets its contract where kinds are named.
use Rattle.std.proofs.Common.{arith, ◌∙◌}
use Rattle.text.specs.Text.{bytes}
use Rattle.text.proofs.EmitLaws.{and_then, writes_by}
use Rattle.words.specs.Words.{but_found}
use Rattle.words.proofs.Parts.{details_two}
use Rattle.words.proofs.write_details.Goals as goal

pub returns-in-11 : goal.returns-in-11
unfolding but_found bytes
returns-in-11 c =
    let e = c.args.e in
    writes_by (details_two e.number e.wanted e.seen (omega arith))
    (and_then (writes_by (c.as_bytes.ensures.value ∙ c.kind_name.ensures) c.write_text.ensures)
    (and_then c.write_text-in-11.ensures (writes_by (c.as_bytes-in-11.ensures.value ∙ c.kind_name-in-11.ensures) c.write_text-in-11-2.ensures)))
