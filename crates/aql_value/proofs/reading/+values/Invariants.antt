use Rattle.std.proofs.Common.{◌≡◌, ◌++◌, length, option_map}
use Rattle.std.specs.Vec.Iter.{into_iter_items, into_iter_len}
use Rattle.serde_json.specs.View.{items_view, members_view}
use Rattle.aql_value.specs.Fields.{fields_in}
use Rattle.aql_value.specs.FromJson.{items_from_json, members_from_json}
use Rattle.aql_value.proofs.Turns.{trees_before, fields_before, names, keys, ValuesWellFormed}
use Rattle.aql_value.proofs.reading.+values.Given as goal

abbrev pub invariant-items_of-loop-item : goal.invariant-items_of-loop-item
invariant-items_of-loop-item l =
    (items_from_json (items_view l.fn.items.items)
    ≡ option_map (trees_before l.out) (items_from_json (items_view (into_iter_items l.item-iterator))))
    × (into_iter_len l.item-iterator ≡ length (into_iter_items l.item-iterator))

abbrev pub invariant-members_of-loop-key : goal.invariant-members_of-loop-key
invariant-members_of-loop-key l =
    (members_from_json (members_view l.fn.members.entries)
    ≡ option_map (fields_before (fields_in l.entries.items))
    (members_from_json (members_view l.key-iterator)))
    × (names (fields_in l.entries.items) ++ keys l.key-iterator ≡ keys l.fn.members.entries)
    × ValuesWellFormed (fields_in l.entries.items)
