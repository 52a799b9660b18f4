-- `purple_garden_parse` meets its contract.
-- Assumes nothing.
use Rattle.c_api.proofs.Answers.{answers-both}
use Rattle.c_api.proofs.purple_garden_parse.Goals as goal

pub returns : goal.returns
returns c = answers-both c.args.numbers.now c.parse-answer.ensures c.put_numbers.ensures
