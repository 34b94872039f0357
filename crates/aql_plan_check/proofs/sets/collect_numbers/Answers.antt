-- Three lists of variables.
use Rattle.std.proofs.Common.{map, ◌++◌}
use Rattle.std.specs.Prelude.{option_map, option_to_list}
use Rattle.aql_tree.specs.View.{let_part, aggregate_part, aggregates as aggregate_trees, into_part, into_tree}
use Rattle.aql_meaning.specs.Numbered.{IsNumber}
use Rattle.aql_meaning.specs.Visible.{aggregate_vars, into_var}
use Rattle.aql_plan_check.proofs.Tests.{joined, both, first_fails}
use Rattle.aql_plan_check.proofs.sets.collect_numbers.Goals as goal

pub returns-then-groups_numbers : goal.returns-then-groups_numbers
returns-then-groups_numbers c = both c.groups_numbers.result c.results_numbers.result
    (joined IsNumber (map (λ l. l.0) (map let_part c.args.groups.now))
    (aggregate_vars (aggregate_trees (map aggregate_part c.args.all.now))
    ++ option_to_list (into_var (into_tree (option_map into_part c.args.into.now)))))
    c.groups_numbers.ensures c.results_numbers.ensures c.if-groups_numbers.true

pub returns-else-groups_numbers : goal.returns-else-groups_numbers
returns-else-groups_numbers c = first_fails c.groups_numbers.result
    (joined IsNumber (map (λ l. l.0) (map let_part c.args.groups.now))
    (aggregate_vars (aggregate_trees (map aggregate_part c.args.all.now))
    ++ option_to_list (into_var (into_tree (option_map into_part c.args.into.now)))))
    c.groups_numbers.ensures c.if-groups_numbers.false
