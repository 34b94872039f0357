use Rattle.std.proofs.Common.{◌≡◌, ◌++◌, map, take}
use Rattle.aql_tree.specs.View.{link_part}
use Rattle.aql_rules_filter.proofs.Moved.{anded, Unmoved}
use Rattle.aql_rules_filter.proofs.conditions.move_sides.Given as goal

abbrev pub invariant-loop-link : goal.invariant-loop-link
invariant-loop-link l =
    (map link_part l.to ≡ map link_part l.fn.to ++ map anded (take l.link-index l.fn.from))
    × Unmoved l.fn.from l.link-index l.items
