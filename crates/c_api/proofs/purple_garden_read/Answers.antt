-- `purple_garden_read` meets its contract.
-- Assumes nothing.
use Rattle.c_api.proofs.Answers.{answers-reading}
use Rattle.c_api.proofs.purple_garden_read.Goals as goal

pub returns : goal.returns
returns c = answers-reading c.args.numbers.now c.read-answer.ensures c.put_numbers.ensures
