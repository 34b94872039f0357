use Rattle.std.proofs.Common.{◌≡◌, map, drop}
use Rattle.aql_tree.specs.View.{links, link_part}
use Rattle.aql_rules_calc.specs.ReplaceOrWithIn.{each_or}
use Rattle.aql_rules_calc.proofs.replace_or_with_in.each_or.Given as goal

abbrev pub invariant-loop-link : goal.invariant-loop-link
invariant-loop-link l = each_or (links (map link_part l.rest))
    ≡ each_or (links (map link_part (drop l.link-index l.rest)))
