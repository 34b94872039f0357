use Rattle.std.proofs.Common.{◌≡◌, ◌∙◌, length, get_or, set, refl, ap, sym, subst, arith}
use Rattle.std.specs.Prelude.{map, option_to_list}
use Rattle.std.specs.List.{All}
use Rattle.std.proofs.lemmas.List.{length-map, with_items_is}
use Rattle.std.specs.Vec.{with_items}
use Rattle.std.proofs.lemmas.Option.{slice_get_within}
use Rattle.aql_value.specs.View.{datum_of, datums_in}
use Rattle.aql_block.specs.Rows.{row_of}
use Rattle.aql_exec_rows.specs.GroupStates.{Takes}
use Rattle.aql_exec_rows.specs.declared.group.Group.{Group}
use Rattle.aql_exec_rows.specs.declared.groups.Groups.{Groups}
use Rattle.aql_exec_rows.proofs.Parts.{as_many_kinds}
use Rattle.aql_exec_rows.proofs.Seen.{as_many, counts_at, grows_by}
use Rattle.aql_exec_rows.proofs.Adding.{placed_groups, row_added}
use Rattle.aql_exec_rows.proofs.groups.Groups.add.Goals as goal

pub add_member-requires-clause-place : goal.add_member-requires-clause-place
add_member-requires-clause-place c =
    let g = c.args.grouping.now in
    let held = c.requires.holds in
    let mid = c.group_index.new.self in
    let placed = c.in_ok-at.ensures in
    let groups = placed_groups g c.args.kinds.now (row_of c.args.row.now) (datum_of c.in_ok-key.key)
    c.in_ok-key.ensures held.0 c.args.self.now mid held.1 placed.keys placed.kept in
    let many = as_many c.args.kinds.now g.into held.0 (datums_in mid.keys.keys) mid.kept.items groups in
    let within = slice_get_within (datums_in mid.keys.keys) c.in_ok-at.at _ placed.place in
    let slice = ap length c.deref_mut.ensures.value in
    omega (arith, many, within, slice)

pub add_member-requires-clause-count : goal.add_member-requires-clause-count
add_member-requires-clause-count c =
    let g = c.args.grouping.now in
    let row = row_of c.args.row.now in
    let held = c.requires.holds in
    let mid = c.group_index.new.self in
    let placed = c.in_ok-at.ensures in
    let groups = placed_groups g c.args.kinds.now row (datum_of c.in_ok-key.key)
    c.in_ok-key.ensures held.0 c.args.self.now mid held.1 placed.keys placed.kept in
    let arguments = c.in_ok-arguments.arguments.items in
    let many : length c.deref.result.now ≡ length c.args.kinds.now = ap length c.deref.ensures.value
    ∙ sym (length-map arguments datum_of) ∙ ap length c.in_ok-arguments.ensures
    ∙ as_many_kinds g.stage g.criteria g.aggregates g.into c.args.kinds.now row c.requires.kinds in
    subst (λ gs. All (λ (x : Group). length c.deref.result.now ≡ length x.accumulators.items) gs)
    (sym c.deref_mut.ensures.value)
    (λ i d l. many
    ∙ sym (counts_at c.args.kinds.now g.into held.0 (datums_in mid.keys.keys) mid.kept.items i d groups l))

pub returns-clause-held : goal.returns-clause-held
returns-clause-held c rows h =
    let g = c.args.grouping.now in
    let row = row_of c.args.row.now in
    let placed = c.in_ok-at.ensures in
    let mid = c.group_index.new.self in
    let at = c.in_ok-at.at in
    let arguments = c.in_ok-arguments.arguments.items in
    let added = c.in_ok-add_member.ensures.added in
    let slice = c.deref_mut.ensures.value in
    let takes = subst (λ gs. Takes (datums_in arguments)
    (map datum_of (option_to_list c.in_ok-taken.taken)) (get_or gs at added.0) added.0) slice
    (subst (λ vs. Takes (datums_in vs) (map datum_of (option_to_list c.in_ok-taken.taken))
    (get_or c.deref_mut.result.now at added.0) added.0) c.deref.ensures.value added.2) in
    let groups = c.add_member.new.groups in
    let new : Groups = record { keys = mid.keys; kept = with_items mid.kept groups } in
    let items : new.kept.items ≡ groups = with_items_is mid.kept groups
    (c.in_ok-add_member.ensures.count ∙ ap length slice ∙ sym mid.kept.ok.0) in
    row_added g c.args.kinds.now row (datum_of c.in_ok-key.key) c.in_ok-key.ensures rows c.args.self.now
    mid h placed.keys placed.kept new at c.in_ok-taken.taken added.0
    (datums_in arguments) placed.place refl (items ∙ added.1 ∙ ap (λ gs. set gs at added.0) slice)
    c.in_ok-arguments.ensures c.in_ok-taken.ensures takes

pub returns-clause-count : goal.returns-clause-count
returns-clause-count c =
    let mid = c.group_index.new.self in
    let groups = c.add_member.new.groups in
    let slice = ap length c.deref_mut.ensures.value in
    let same = c.in_ok-add_member.ensures.count in
    let items = ap length (with_items_is mid.kept groups (same ∙ slice ∙ sym mid.kept.ok.0)) in
    let grown = grows_by c.args.kinds.now _ c.args.self.now.kept.items mid.kept.items c.in_ok-at.ensures.kept in
    omega (arith, items, same, slice, grown)
