-- A type inside a type stands one level deeper; the calls on one level go from a record to its
-- names, from these to a name, and from there to a type.
use Rattle.std.proofs.Common.{◌+◌, ◌*◌}
use Rattle.parser_types.proofs.+types.Given as goal

abbrev pub decreases-inner_type : goal.decreases-inner_type
decreases-inner_type l = 5 * l.levels + 1

abbrev pub decreases-parse_type : goal.decreases-parse_type
decreases-parse_type l = 5 * l.levels

abbrev pub decreases-record_type : goal.decreases-record_type
decreases-record_type l = 5 * l.levels + 4

abbrev pub decreases-typed_name : goal.decreases-typed_name
decreases-typed_name l = 5 * l.levels + 1

abbrev pub decreases-typed_names : goal.decreases-typed_names
decreases-typed_names l = 5 * l.levels + 3

abbrev pub decreases-typed_names-list_until : goal.decreases-typed_names-list_until
decreases-typed_names-list_until l = 5 * l.levels + 2
