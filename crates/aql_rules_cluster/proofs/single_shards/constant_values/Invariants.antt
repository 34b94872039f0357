use Rattle.std.proofs.Common.{◌≡◌, ◌++◌, drop}
use Rattle.aql_meaning.specs.AtRows.{keys_of}
use Rattle.aql_meaning.specs.Row.{empty_row}
use Rattle.aql_plan.specs.View.{expr_trees}
use Rattle.aql_rules_cluster.proofs.single_shards.constant_values.Given as goal

abbrev pub invariant-loop-expr : goal.invariant-loop-expr
invariant-loop-expr l = l.values ++ keys_of (expr_trees (drop l.expr-index l.exprs)) empty_row
    ≡ keys_of (expr_trees l.exprs) empty_row
