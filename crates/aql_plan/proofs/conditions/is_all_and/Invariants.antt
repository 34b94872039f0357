use Rattle.std.proofs.Common.{◌≡◌, map, drop}
use Rattle.aql_tree.specs.View.{links, link_part}
use Rattle.aql_plan.specs.FirstPlan.{all_and}
use Rattle.aql_plan.proofs.conditions.is_all_and.Given as goal

abbrev pub invariant-loop-link : goal.invariant-loop-link
invariant-loop-link l = all_and (links (map link_part (drop l.link-index l.rest)))
    ≡ all_and (links (map link_part l.rest))
