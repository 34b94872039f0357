-- Three lists of variables, one after another.
use Rattle.std.proofs.Common.{map, ◌++◌}
use Rattle.std.specs.Prelude.{option_map, option_to_list}
use Rattle.aql_tree.specs.View.{let_part, aggregate_part, aggregates as aggregate_trees, into_part, into_tree}
use Rattle.aql_meaning.specs.Visible.{aggregate_vars, into_var}
use Rattle.aql_plan_check.proofs.SameVariables.{adds_on}
use Rattle.aql_plan_check.proofs.rows.add_collected.Goals as goal

pub returns : goal.returns
returns c =
    let ys = aggregate_vars (aggregate_trees (map aggregate_part c.args.all.now)) in
    let zs = option_to_list (into_var (into_tree (option_map into_part c.args.into.now))) in
    adds_on c.args.rows.now.keys c.add_groups.new.rows.keys c.add_into.new.rows.keys
    (map (λ l. l.0) (map let_part c.args.groups.now)) (ys ++ zs) c.in_ok-add_groups.ensures
    (adds_on c.add_groups.new.rows.keys c.add_aggregates.new.rows.keys c.add_into.new.rows.keys ys zs
    c.in_ok-add_aggregates.ensures c.in_ok-add_into.ensures)
