use Rattle.std.proofs.Common.{◌∙◌, Some, not, option_map, refl, ap, sym, subst}
use Rattle.std.proofs.lemmas.Option.{slice_get-map}
use Rattle.aql_value.specs.View.{datum_of, datums_in}
use Rattle.aql_func.specs.laws.Firsts.{any_tree, keys_noted, same_is}
use Rattle.aql_exec.specs.laws.Firsts.{is_new, is_old}
use Rattle.aql_exec_rows.specs.GroupStates.{Grows}
use Rattle.aql_exec_rows.proofs.groups.Groups.group_index.Goals as goal

pub returns-in_ok-push-clause-keys : goal.returns-in_ok-push-clause-keys
returns-in_ok-push-clause-keys c = ap datums_in c.in_ok-at.ensures.keys ∙ keys_noted c.args.self.now.keys.keys c.args.key

pub returns-in_ok-push-clause-place : goal.returns-in_ok-push-clause-place
returns-in_ok-push-clause-place c =
    let stored = c.in_ok-at.ensures.stored in
    slice_get-map datum_of c.insert_full.new.self.keys c.in_ok-at.at ∙ ap (option_map datum_of) stored.1
    ∙ ap Some (sym (same_is (datum_of c.args.key) (datum_of stored.0) stored.2))

pub returns-in_ok-push-clause-kept : goal.returns-in_ok-push-clause-kept
returns-in_ok-push-clause-kept c =
    let new = is_new _ _ c.if-is_new.true (c.in_ok-at.ensures.added
    ∙ ap not (any_tree c.args.key c.args.self.now.keys.keys)) in
    subst (λ b. Grows c.args.kinds.now b c.args.self.now.kept.items c.push.new.self.items) (sym new)
    (c.in_ok-new.field-0, c.in_ok-new.ensures, c.in_ok-push.ensures.items)

pub returns-else-is_new-clause-keys : goal.returns-else-is_new-clause-keys
returns-else-is_new-clause-keys c =
    ap datums_in c.in_ok-at.ensures.keys ∙ keys_noted c.args.self.now.keys.keys c.args.key

pub returns-else-is_new-clause-place : goal.returns-else-is_new-clause-place
returns-else-is_new-clause-place c =
    let stored = c.in_ok-at.ensures.stored in
    slice_get-map datum_of c.insert_full.new.self.keys c.in_ok-at.at ∙ ap (option_map datum_of) stored.1
    ∙ ap Some (sym (same_is (datum_of c.args.key) (datum_of stored.0) stored.2))

pub returns-else-is_new-clause-kept : goal.returns-else-is_new-clause-kept
returns-else-is_new-clause-kept c =
    let old = is_old _ _ c.if-is_new.false (c.in_ok-at.ensures.added
    ∙ ap not (any_tree c.args.key c.args.self.now.keys.keys)) in
    subst (λ b. Grows c.args.kinds.now b c.args.self.now.kept.items c.args.self.now.kept.items) (sym old) refl
