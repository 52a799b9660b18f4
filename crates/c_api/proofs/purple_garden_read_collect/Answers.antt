-- `purple_garden_read_collect` meets its contract.
-- Assumes nothing.
use Rattle.c_api.proofs.Answers.{answers-reading}
use Rattle.c_api.proofs.purple_garden_read_collect.Goals as goal

pub returns : goal.returns
returns c = answers-reading c.args.numbers.now c.read_collect-answer.ensures c.put_numbers.ensures
