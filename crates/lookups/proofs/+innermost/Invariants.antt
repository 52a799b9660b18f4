-- The measure is the number that is passed on.
use Rattle.lookups.proofs.+innermost.Given as goal

abbrev pub decreases-innermost : goal.decreases-innermost
decreases-innermost l = l.id.0
