-- The measure is the number that is passed on.
use Rattle.lookups.proofs.+find_start.Given as goal

abbrev pub decreases-find_start : goal.decreases-find_start
decreases-find_start l = l.id.0
