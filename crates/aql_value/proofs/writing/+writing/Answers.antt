use Rattle.std.proofs.Common.{◌++◌, ◌∷◌, [], nat_lt, ap, ◌∙◌}
use Rattle.std.proofs.lemmas.Result.{err_from_is_err_and}
use Rattle.aql_value.specs.Datum.{array, object, array_of, object_of}
use Rattle.aql_value.specs.View.{datums_in}
use Rattle.aql_value.specs.Fields.{fields_in}
use Rattle.aql_value.specs.Json.{json_text}
use Rattle.aql_value.proofs.Written.{longer, finish, items_end, members_end}
use Rattle.aql_value.proofs.writing.+writing.Goals as goal

pub write_items-returns-in_err-write_item : goal.write_items-returns-in_err-write_item
write_items-returns-in_err-write_item t c =
    let p = err_from_is_err_and c.from_residual-in_err-write_item.result
    c.from_residual-in_err-write_item.ensures.1 in
    rw p.1 (tt, longer _ _ _ c.loop-i.invariant.1 c.in_err-write_item.ensures.1)

pub write_items-returns : goal.write_items-returns
write_items-returns t c =
    let seen = ap datums_in c.deref-item-items.ensures.value ∙ c.list.view_is in
    let e = items_end c.deref-item-items.result.now c.loop-i.i c.loop-i.out.items _
    (nat_lt 0 c.loop-i.i) c.loop-i-test.false c.loop-i.invariant.0 in
    finish c.put-2.result c.args.out.now.items c.loop-i.out.items c.put-2.new.out.items (93 ∷ [])
    (json_text (array (array_of c.args.list.now))) c.put-2.ensures
    (e ∙ ap (λ ts. c.args.out.now.items ++ json_text (array (array_of ts))) seen) c.loop-i.invariant.1

pub write_members-returns-in_err-write_member : goal.write_members-returns-in_err-write_member
write_members-returns-in_err-write_member t c =
    let p = err_from_is_err_and c.from_residual-in_err-write_member.result
    c.from_residual-in_err-write_member.ensures.1 in
    rw p.1 (tt, longer _ _ _ c.loop-i.invariant.1 c.in_err-write_member.ensures.1)

pub write_members-returns : goal.write_members-returns
write_members-returns t c =
    let seen = ap fields_in c.entries_in-member-items.ensures ∙ c.members.view_is in
    let e = members_end c.entries_in-member-items.result.now c.loop-i.i c.loop-i.out.items _
    (nat_lt 0 c.loop-i.i) c.loop-i-test.false c.loop-i.invariant.0 in
    finish c.put-2.result c.args.out.now.items c.loop-i.out.items c.put-2.new.out.items (125 ∷ [])
    (json_text (object (object_of c.args.members.now))) c.put-2.ensures
    (e ∙ ap (λ fs. c.args.out.now.items ++ json_text (object (object_of fs))) seen) c.loop-i.invariant.1
