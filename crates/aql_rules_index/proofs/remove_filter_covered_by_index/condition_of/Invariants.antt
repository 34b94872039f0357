use Rattle.std.proofs.Common.{◌≡◌, map, take}
use Rattle.aql_tree.specs.View.{link_part}
use Rattle.aql_rewrite.specs.ExprView.{lent}
use Rattle.aql_rules_filter.specs.Readers.{and_link}
use Rattle.aql_rules_index.proofs.remove_filter_covered_by_index.condition_of.Given as goal

abbrev pub invariant-loop-part : goal.invariant-loop-part
invariant-loop-part l = map link_part l.rest ≡ map (λ p. and_link (lent p)) (take l.part-index l.more)
