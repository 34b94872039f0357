use Rattle.std.proofs.Common.{◌≡◌, ◌++◌, drop, nat_lt}
use Rattle.aql_value.specs.Datum.{array, object, array_of, object_of}
use Rattle.aql_value.specs.View.{datums_in}
use Rattle.aql_value.specs.Fields.{fields_in}
use Rattle.aql_value.specs.Json.{json_text, items_text, fields_text}
use Rattle.aql_value.specs.inner.Writes.{Extends}
use Rattle.aql_value.proofs.writing.+writing.Given as goal

abbrev pub invariant-write_items-loop-i : goal.invariant-write_items-loop-i
invariant-write_items-loop-i l =
    (l.out.items ++ items_text (nat_lt 0 l.i) (array_of (datums_in (drop l.i l.item-items))) ≡ l.fn.out.items
    ++ json_text (array (array_of (datums_in l.item-items))))
    × Extends l.fn.out.items l.out.items

abbrev pub invariant-write_members-loop-i : goal.invariant-write_members-loop-i
invariant-write_members-loop-i l =
    (l.out.items ++ fields_text (nat_lt 0 l.i) (object_of (fields_in (drop l.i l.member-items)))
    ≡ l.fn.out.items ++ json_text (object (object_of (fields_in l.member-items))))
    × Extends l.fn.out.items l.out.items
