use Rattle.std.proofs.Common.{◌≡◌, ◌≤◌, length}
use Rattle.aql_value.specs.Fields.{members_in}
use Rattle.aql_value.proofs.Rests.{rest_of_items, rest_of_members}
use Rattle.aql_value.proofs.order.+ordering.Given as goal

abbrev pub decreases-order : goal.decreases-order
decreases-order l = goal.size-order l

abbrev pub decreases-order_entry : goal.decreases-order_entry
decreases-order_entry l = goal.size-order_entry l

abbrev pub decreases-order_items : goal.decreases-order_items
decreases-order_items l = goal.size-order_items l

abbrev pub decreases-order_members : goal.decreases-order_members
decreases-order_members l = goal.size-order_members l

abbrev pub invariant-order_items-loop-i : goal.invariant-order_items-loop-i
invariant-order_items-loop-i l =
    (rest_of_items l.a-inside.items.items l.b-inside.items.items l.i
    ≡ rest_of_items l.a-inside.items.items l.b-inside.items.items 0)
    × (l.i ≤ length l.b-inside.items.items)

abbrev pub invariant-order_members-loop-i : goal.invariant-order_members-loop-i
invariant-order_members-loop-i l =
    (rest_of_members (members_in l.a-inside.entries) (members_in l.b-inside.entries) l.i
    ≡ rest_of_members (members_in l.a-inside.entries) (members_in l.b-inside.entries) 0)
    × (l.i ≤ length (members_in l.b-inside.entries))
