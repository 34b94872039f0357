-- Two lists of variables.
use Rattle.std.proofs.Common.{map}
use Rattle.std.specs.Prelude.{option_map, option_to_list}
use Rattle.aql_tree.specs.View.{aggregate_part, aggregates as aggregate_trees, into_part, into_tree}
use Rattle.aql_meaning.specs.Numbered.{IsNumber}
use Rattle.aql_meaning.specs.Visible.{aggregate_vars, into_var}
use Rattle.aql_plan_check.proofs.Tests.{joined, both, first_fails}
use Rattle.aql_plan_check.proofs.sets.results_numbers.Goals as goal

pub returns-then-aggregates_numbers : goal.returns-then-aggregates_numbers
returns-then-aggregates_numbers c = both c.aggregates_numbers.result c.into_number.result
    (joined IsNumber (aggregate_vars (aggregate_trees (map aggregate_part c.args.all.now)))
    (option_to_list (into_var (into_tree (option_map into_part c.args.into.now)))))
    c.aggregates_numbers.ensures c.into_number.ensures c.if-aggregates_numbers.true

pub returns-else-aggregates_numbers : goal.returns-else-aggregates_numbers
returns-else-aggregates_numbers c = first_fails c.aggregates_numbers.result
    (joined IsNumber (aggregate_vars (aggregate_trees (map aggregate_part c.args.all.now)))
    (option_to_list (into_var (into_tree (option_map into_part c.args.into.now)))))
    c.aggregates_numbers.ensures c.if-aggregates_numbers.false
