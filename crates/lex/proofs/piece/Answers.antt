-- `piece` meets its contract: the tests that led to each return pick the case.
-- Assumes nothing.
use mathlib.Core.Path.{◌∙◌, sym, ap}
use native.Mathlib.Omega.{arith}
use borrow.Author.Rules.{part_to_end}
use borrow.Author.Tests.{eq-eqb, ne_eqb}
use Rattle.lex.specs.Lex.{punctuation, piece}
use Rattle.lex.proofs.Signs.{sign_piece, digit_no_name, quote_no_name}
use Rattle.lex.proofs.piece.Goals as goal

pub returns-in-Some : goal.returns-in-Some
returns-in-Some c =
    let sign = c.in-Some.ensures in
    c.punctuation.ensures ∙ ap (punctuation _) c.peek.ensures ∙ sym (sign_piece c.args.rest.now (omega (arith, c.type_inv.rest 0)) (omega (arith, sign.same, sign.some)))

pub returns-then-begins_number : goal.returns-then-begins_number
unfolding piece
returns-then-begins_number c = let digit = sym c.begins_number.ensures ∙ c.if-begins_number.true in rw (digit_no_name _ (omega (arith, c.type_inv.rest 0)) digit, digit, piece) c.number.ensures

pub returns-then-b-eq34 : goal.returns-then-b-eq34
unfolding piece
returns-then-b-eq34 c = rw (quote_no_name _ c.if-b-eq34.true, sym c.begins_number.ensures ∙ c.if-begins_number.false, eq-eqb _ _ c.if-b-eq34.true, piece) (rw part_to_end at c.string.ensures)

pub returns-then-begins_name : goal.returns-then-begins_name
unfolding piece
returns-then-begins_name c = rw (sym c.begins_name.ensures ∙ c.if-begins_name.true, piece) c.name.ensures

pub returns : goal.returns
unfolding piece
returns c = rw (sym c.begins_name.ensures ∙ c.if-begins_name.false, sym c.begins_number.ensures ∙ c.if-begins_number.false, ne_eqb _ _ c.if-b-eq34.false, piece) c.symbol.ensures
