-- `punctuation` meets its contract.
-- Assumes nothing.
use native.Mathlib.Omega.{arith}
use borrow.Author.Tests.{eq-eqb, ne_eqb}
use Rattle.lex.specs.Lex.{punctuation}
use Rattle.lex.proofs.Signs.{sign}
use Rattle.lex.proofs.punctuation.Goals as goal

pub returns-in-61-eq61 : goal.returns-in-61-eq61
unfolding punctuation
returns-in-61-eq61 c = rw (eq-eqb _ _ c.in-61-eq61.is-0, eq-eqb _ _ c.in-61-eq61.is-1, punctuation)

pub returns-in-61-eq33 : goal.returns-in-61-eq33
unfolding punctuation
returns-in-61-eq33 c = rw (eq-eqb c.args.next 61 (omega arith), ne_eqb c.args.b 61 (λ e. omega (arith, e)), eq-eqb c.args.b 33 (omega arith), punctuation)

pub returns-in_default : goal.returns-in_default
unfolding punctuation
returns-in_default c = rw (eq-eqb c.args.next 61 (omega arith), ne_eqb c.args.b 61 (λ e. omega (arith, e)), ne_eqb c.args.b 33 (λ e. omega (arith, e)), punctuation) (sign _ _ c.requires.same c.requires.some)

pub returns-in_default-2 : goal.returns-in_default-2
unfolding punctuation
returns-in_default-2 c = rw (ne_eqb c.args.next 61 (λ e. omega (arith, e)), punctuation) (sign _ _ c.requires.same c.requires.some)
