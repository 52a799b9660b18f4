-- `listing::forms::write_field` meets its contract.
use Rattle.std.proofs.Common.{rules, sym, ap}
use Rattle.listing.specs.Field.{field_text}
use Rattle.listing.specs.Text.{branch, branches, extern_fn, extern_fns}
use Rattle.listing.proofs.EmitLaws.{lists_by}
use Rattle.listing.proofs.forms.write_field.Goals as goal

pub returns-in-Branches : goal.returns-in-Branches
unfolding branches
returns-in-Branches c = lists_by (ap (field_text c.args.lists.now) (sym c.in-Branches.is)) (c.write_list.ensures (λ j. branch c.args.lists.now j) (λ j u r v h p. search rules))

pub returns-in-ExternFns : goal.returns-in-ExternFns
unfolding extern_fns
returns-in-ExternFns c = lists_by (ap (field_text c.args.lists.now) (sym c.in-ExternFns.is)) (c.write_list-in-ExternFns.ensures (λ j. extern_fn c.args.lists.now j) (λ j u r v h p. search rules))
