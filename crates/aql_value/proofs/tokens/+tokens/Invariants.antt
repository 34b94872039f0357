use Rattle.std.proofs.Common.{◌+◌, ◌*◌, length}
use Rattle.aql_value.specs.Datum.{object_of}
use Rattle.aql_value.specs.Fields.{fields_in}
use Rattle.aql_value.specs.WellFormed.{FieldsWellFormed}
use Rattle.aql_value.proofs.OnePass.{ItemsSoFar, MembersSoFar}
use Rattle.aql_value.proofs.tokens.+tokens.Given as goal

abbrev pub decreases-read : goal.decreases-read
decreases-read l = 2 * l.room

abbrev pub decreases-read_items : goal.decreases-read_items
decreases-read_items l = 2 * l.room + 1

abbrev pub decreases-read_members : goal.decreases-read_members
decreases-read_members l = 2 * l.room + 1

abbrev pub invariant-read_items-items : goal.invariant-read_items-items
invariant-read_items-items l = ItemsSoFar l.room l.found l.initial.reader l.reader

abbrev pub decreases-read_items-items : goal.decreases-read_items-items
decreases-read_items-items l = length l.reader

abbrev pub invariant-read_members-members : goal.invariant-read_members-members
invariant-read_members-members l = MembersSoFar l.room (fields_in l.found.items) l.initial.reader l.reader
    × FieldsWellFormed (object_of (fields_in l.found.items))

abbrev pub decreases-read_members-members : goal.decreases-read_members-members
decreases-read_members-members l = length l.reader
