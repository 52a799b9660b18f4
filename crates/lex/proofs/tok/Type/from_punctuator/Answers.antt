-- `from_punctuator` meets its contract: each arm's byte stands in the list of signs at its kind's
-- place, and the last arm's nowhere.
-- Assumes nothing.
use mathlib.Core.Path.{ap, sym}
use native.Mathlib.Omega.{arith}
use Rattle.lex.specs.Bytes.{count_while, differs_from, before, find_byte}
use Rattle.lex.specs.Kind.{punctuators, punctuator_kinds, punctuator_kind}
use Rattle.lex.proofs.Laws.{none_found}
use Rattle.lex.proofs.tok.Type.from_punctuator.Goals as goal

pub returns-in-40 : goal.returns-in-40
unfolding punctuator_kind punctuators punctuator_kinds find_byte before count_while differs_from
returns-in-40 c = record { same = sym (ap punctuator_kind c.in-40.is); some = omega arith }

pub returns-in-41 : goal.returns-in-41
unfolding punctuator_kind punctuators punctuator_kinds find_byte before count_while differs_from
returns-in-41 c = record { same = sym (ap punctuator_kind c.in-41.is); some = omega arith }

pub returns-in-43 : goal.returns-in-43
unfolding punctuator_kind punctuators punctuator_kinds find_byte before count_while differs_from
returns-in-43 c = record { same = sym (ap punctuator_kind c.in-43.is); some = omega arith }

pub returns-in-45 : goal.returns-in-45
unfolding punctuator_kind punctuators punctuator_kinds find_byte before count_while differs_from
returns-in-45 c = record { same = sym (ap punctuator_kind c.in-45.is); some = omega arith }

pub returns-in-42 : goal.returns-in-42
unfolding punctuator_kind punctuators punctuator_kinds find_byte before count_while differs_from
returns-in-42 c = record { same = sym (ap punctuator_kind c.in-42.is); some = omega arith }

pub returns-in-47 : goal.returns-in-47
unfolding punctuator_kind punctuators punctuator_kinds find_byte before count_while differs_from
returns-in-47 c = record { same = sym (ap punctuator_kind c.in-47.is); some = omega arith }

pub returns-in-37 : goal.returns-in-37
unfolding punctuator_kind punctuators punctuator_kinds find_byte before count_while differs_from
returns-in-37 c = record { same = sym (ap punctuator_kind c.in-37.is); some = omega arith }

pub returns-in-61 : goal.returns-in-61
unfolding punctuator_kind punctuators punctuator_kinds find_byte before count_while differs_from
returns-in-61 c = record { same = sym (ap punctuator_kind c.in-61.is); some = omega arith }

pub returns-in-60 : goal.returns-in-60
unfolding punctuator_kind punctuators punctuator_kinds find_byte before count_while differs_from
returns-in-60 c = record { same = sym (ap punctuator_kind c.in-60.is); some = omega arith }

pub returns-in-62 : goal.returns-in-62
unfolding punctuator_kind punctuators punctuator_kinds find_byte before count_while differs_from
returns-in-62 c = record { same = sym (ap punctuator_kind c.in-62.is); some = omega arith }

pub returns-in-33 : goal.returns-in-33
unfolding punctuator_kind punctuators punctuator_kinds find_byte before count_while differs_from
returns-in-33 c = record { same = sym (ap punctuator_kind c.in-33.is); some = omega arith }

pub returns-in-63 : goal.returns-in-63
unfolding punctuator_kind punctuators punctuator_kinds find_byte before count_while differs_from
returns-in-63 c = record { same = sym (ap punctuator_kind c.in-63.is); some = omega arith }

pub returns-in-58 : goal.returns-in-58
unfolding punctuator_kind punctuators punctuator_kinds find_byte before count_while differs_from
returns-in-58 c = record { same = sym (ap punctuator_kind c.in-58.is); some = omega arith }

pub returns-in-46 : goal.returns-in-46
unfolding punctuator_kind punctuators punctuator_kinds find_byte before count_while differs_from
returns-in-46 c = record { same = sym (ap punctuator_kind c.in-46.is); some = omega arith }

pub returns-in-91 : goal.returns-in-91
unfolding punctuator_kind punctuators punctuator_kinds find_byte before count_while differs_from
returns-in-91 c = record { same = sym (ap punctuator_kind c.in-91.is); some = omega arith }

pub returns-in-93 : goal.returns-in-93
unfolding punctuator_kind punctuators punctuator_kinds find_byte before count_while differs_from
returns-in-93 c = record { same = sym (ap punctuator_kind c.in-93.is); some = omega arith }

pub returns-in-123 : goal.returns-in-123
unfolding punctuator_kind punctuators punctuator_kinds find_byte before count_while differs_from
returns-in-123 c = record { same = sym (ap punctuator_kind c.in-123.is); some = omega arith }

pub returns-in-125 : goal.returns-in-125
unfolding punctuator_kind punctuators punctuator_kinds find_byte before count_while differs_from
returns-in-125 c = record { same = sym (ap punctuator_kind c.in-125.is); some = omega arith }

pub returns-in_default : goal.returns-in_default
unfolding punctuator_kind punctuators
returns-in_default c = rw (none_found _ punctuators c.in_default.in_default-own.rest, punctuator_kind)
