use Rattle.std.proofs.Common.{drop}
use Rattle.std.specs.Prelude.{◌↔◌}
use Rattle.aql_plan.specs.View.{key_trees}
use Rattle.aql_rewrite.specs.Constant.{AreConstant}
use Rattle.aql_rewrite.specs.Children.{list_children}
use Rattle.aql_rules_order.proofs.remove_redundant_sorts.are_constant.Given as goal

abbrev pub invariant-loop-key : goal.invariant-loop-key
invariant-loop-key l = AreConstant (list_children (key_trees (drop l.key-index l.keys)))
    ↔ AreConstant (list_children (key_trees l.keys))
