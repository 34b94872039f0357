use Rattle.std.proofs.Common.{◌≡◌, map, drop, None, option_map}
use Rattle.aql_rules_index.specs.Choice.{candidates_from}
use Rattle.aql_rules_index.specs.inner.Views.{item_tree, candidate_tree}
use Rattle.aql_rules_index.specs.inner.Least.{best_of}
use Rattle.aql_rules_index.proofs.choice.best_index.Given as goal

abbrev pub invariant-loop-place : goal.invariant-loop-place
invariant-loop-place l =
    best_of l.facts l.coll.0 None (candidates_from 0 l.indexes (map item_tree l.items))
    ≡ best_of l.facts l.coll.0 (option_map candidate_tree l.best)
    (candidates_from l.place (drop l.place l.indexes) (map item_tree l.items))
