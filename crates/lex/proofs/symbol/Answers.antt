-- `symbol` meets its contract.
-- Assumes nothing.
use mathlib.Core.Path.{◌∙◌, sym}
use borrow.Author.Rules.{part_to_end}
use borrow.Author.Tests.{eq-eqb, ne_eqb}
use Rattle.lex.specs.Lex.{symbol}
use Rattle.lex.proofs.Signs.{no_sign, no-punctuation}
use Rattle.lex.proofs.symbol.Goals as goal

pub returns-then-b-ne35 : goal.returns-then-b-ne35
unfolding symbol
returns-then-b-ne35 c = rw (ne_eqb _ _ c.if-b-ne35.true, symbol) (c.unknown_character.ensures ∙ sym (no-punctuation _ _ c.requires.1))

pub returns-then-peek-ne33 : goal.returns-then-peek-ne33
unfolding symbol
returns-then-peek-ne33 c = rw (eq-eqb _ _ c.if-b-ne35.false, ne_eqb _ _ (λ e. c.if-peek-ne33.true (c.peek.ensures ∙ e)), symbol) (c.unknown_character-then-peek-ne33.ensures ∙ sym (no_sign _ c.requires.1))

pub returns : goal.returns
unfolding symbol
returns c = rw (eq-eqb _ _ c.if-b-ne35.false, eq-eqb _ _ (sym c.peek.ensures ∙ c.if-peek-ne33.false), symbol) (rw part_to_end at c.doc.ensures)
