-- `Classes::new` makes the table of the specification.
use mathlib.Core.Path.{refl}
use Rattle.lex.specs.Bytes.{class_table, class_of, bit, is_ident_cont, is_ident_start, is_digit, is_num_cont, is_ws, or, between}
use Rattle.lex.proofs.class.Classes.new.Goals as goal

pub invariant_of-result : goal.invariant_of-result
unfolding class_table class_of bit is_ident_cont is_ident_start is_digit is_num_cont is_ws or between
invariant_of-result c = record { is_table = refl }
