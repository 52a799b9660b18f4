-- `purple_garden_parse_collect` meets its contract.
-- Assumes nothing.
use Rattle.c_api.proofs.Answers.{answers-both}
use Rattle.c_api.proofs.purple_garden_parse_collect.Goals as goal

pub returns : goal.returns
returns c = answers-both c.args.numbers.now c.parse_collect-answer.ensures c.put_numbers.ensures
