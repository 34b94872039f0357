use Rattle.std.proofs.Common.{◌≡◌, map, drop}
use Rattle.aql_tree.specs.View.{tree}
use Rattle.aql_rules_index.specs.Choice.{sorted_bounds}
use Rattle.aql_rules_index.specs.inner.Views.{item_tree}
use Rattle.aql_rules_index.proofs.BoundsFound.{with_front}
use Rattle.aql_rules_index.proofs.choice.sorted_bounds.Given as goal

abbrev pub invariant-loop-name : goal.invariant-loop-name
invariant-loop-name l = sorted_bounds l.names (map item_tree l.items)
    ≡ with_front (map tree l.equal) (sorted_bounds (drop l.name-index l.names) (map item_tree l.items))
