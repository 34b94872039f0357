use Rattle.std.proofs.Common.{◌≡◌, map, drop}
use Rattle.aql_rules_index.specs.Choice.{first_on}
use Rattle.aql_rules_index.specs.inner.Views.{item_tree, gives_side}
use Rattle.aql_rules_index.proofs.choice.first_on.Given as goal

abbrev pub invariant-loop-item : goal.invariant-loop-item
invariant-loop-item l = first_on (gives_side l.side) l.name (map item_tree (drop l.item-index l.items))
    ≡ first_on (gives_side l.side) l.name (map item_tree l.items)
