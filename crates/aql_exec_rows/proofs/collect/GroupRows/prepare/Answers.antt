use Rattle.std.proofs.Common.{◌∙◌, ◌++◌, map, false, ap, sym, subst}
use Rattle.std.proofs.lemmas.List.{append-nil, length-map}
use Rattle.aql_value.specs.View.{datum_of}
use Rattle.aql_block.specs.Rows.{row_of}
use Rattle.aql_block.specs.Tables.{rows_of}
use Rattle.aql_exec_rows.specs.GroupStates.{seen}
use Rattle.aql_exec_rows.specs.Sorting.{coming}
use Rattle.aql_exec_rows.specs.Collecting.{CollectsBy, LeavesGroups}
use Rattle.aql_exec_rows.proofs.Seen.{as_many}
use Rattle.aql_exec_rows.proofs.Leaving.{groups_finished}
use Rattle.aql_exec_rows.proofs.collect.GroupRows.prepare.Goals as goal

pub finish-requires : goal.finish-requires
finish-requires c =
    let me = c.args.self.now in
    let kept = c.requires.is.kept c.if-self.false in
    let held = rw c.deref.ensures.value at c.in_ok-add_block.ensures.held in
    let holds = held kept.0 kept.1.0 in
    rw c.replace-groups.ensures.value (as_many me.kinds.items me.grouping.into _ _ _ holds.groups
    ∙ length-map c.add_block.new.self.keys.keys datum_of)

pub returns-in_ok-self-clause-left : goal.returns-in_ok-self-clause-left
returns-in_ok-self-clause-left c rows r h =
    let me = c.args.self.now in
    let is = c.requires.is in
    let g = me.grouping in
    let block = rows_of me.block in
    let held = rw (c.deref.ensures.value, c.replace-block.ensures.value) at c.in_ok-add_block.ensures.held in
    let results = rw c.replace-groups.ensures.value at c.in_ok-self.ensures.results in
    let left : LeavesGroups false me rows r.rows = λ before k.
    (let holds = held before k.0 in
    subst (λ more. CollectsBy g (row_of me.frame.start) (before ++ map (seen g) more) r.rows)
    (sym (append-nil block) ∙ ap (λ b. block ++ coming b rows) (sym c.if-self-2.true))
    (groups_finished g me.kinds.items me.frame (before ++ map (seen g) block) c.add_block.new.self
    c.in_ok-self.field-0.items c.reverse.new.self.items r.rows is.frame (is.kinds c.requires.known) holds
    (results g me.kinds.items (before ++ map (seen g) block) holds) c.reverse.ensures.items h.0)) in
    (subst (λ b. LeavesGroups b me rows r.rows) (sym c.if-self.false) left, h.1)
