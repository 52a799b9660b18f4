-- `parser_operators::infix_follows` meets its contract.
use Rattle.std.proofs.Common.{refl, sym, ap, not, ◌∙◌, eq-eqb, ne_eqb}
use Rattle.lex.specs.Kind.{k_as}
use Rattle.parser_operators.specs.Tests.{infix_by, sign_follows}
use Rattle.parser_operators.proofs.Tables.{no_sign_follows, infix_when, least_test}
use Rattle.parser_operators.proofs.infix_follows.Goals as goal

pub returns-then-t-eq-AS : goal.returns-then-t-eq-AS
unfolding infix_by
returns-then-t-eq-AS c = rw (eq-eqb _ k_as c.if-t-eq-AS.true, infix_by) refl

pub returns-in-None : goal.returns-in-None
returns-in-None c = infix_when refl (ne_eqb _ k_as c.if-t-eq-AS.false) (no_sign_follows _ _ _ c.in-None.ensures)

pub returns-else-not-breaks_off : goal.returns-else-not-breaks_off
unfolding sign_follows
returns-else-not-breaks_off c = ap not c.if-not-breaks_off.false ∙ infix_when refl (ne_eqb _ k_as c.if-t-eq-AS.false) (rw (sym c.in-Some.ensures, sym c.breaks_off.ensures ∙ c.if-not-breaks_off.false, sign_follows) refl)

pub returns-then-not-breaks_off : goal.returns-then-not-breaks_off
unfolding sign_follows
returns-then-not-breaks_off c = infix_when refl (ne_eqb _ k_as c.if-t-eq-AS.false) (rw (sym c.in-Some.ensures, sym c.breaks_off.ensures ∙ c.if-not-breaks_off.true, sign_follows) (least_test _ _))
