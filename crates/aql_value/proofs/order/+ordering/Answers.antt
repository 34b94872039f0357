use Rattle.std.proofs.Common.{◌≡◌, length, arith, rules}
use Rattle.aql_value.specs.Fields.{members_in}
use Rattle.aql_value.proofs.Rests.{items_ended, members_ended}
use Rattle.aql_value.proofs.order.+ordering.Goals as goal

pub order_items-returns : goal.order_items-returns
order_items-returns t c =
    let end : length c.a.inside.items.items ≡ c.loop-i.i = grind arith in
    let done =
    items_ended c.a.inside.items.items c.b.inside.items.items c.loop-i.i end c.loop-i.invariant.1 in
    rw (← c.a.view_is, ← c.b.view_is) (grind (arith, done))

pub order_members-returns : goal.order_members-returns
order_members-returns t c =
    let end : length (members_in c.a.inside.entries) ≡ c.loop-i.i = grind arith in
    let done =
    members_ended (members_in c.a.inside.entries) (members_in c.b.inside.entries) c.loop-i.i end c.loop-i.invariant.1 in
    rw (← c.a.view_is, ← c.b.view_is) (grind (arith, done))

pub order_entry-returns-in-Equal : goal.order_entry-returns-in-Equal
order_entry-returns-in-Equal t c = search rules

pub order_entry-returns-in_default : goal.order_entry-returns-in_default
order_entry-returns-in_default t c = search rules
