-- What each application of a rule lowers.
use Rattle.std.specs.Prelude.{ℕ, ◌+◌, length, option_to_list}
use Rattle.aql_plan.specs.Plan.{Plan, Singleton, Over, Node, Traversal, Subquery, Filter}
use Rattle.aql_rewrite.specs.Sums.{total}

-- the filters of a plan
abbrev pub is_filter : Node → ℕ
is_filter (Filter e) = 1
is_filter n = 0

abbrev pub filters : Plan → ℕ
filters p = total is_filter p

-- for each Filter, the nodes below it on its spine that are none
abbrev mutual
  pub others_below : Plan → ℕ
  others_below Singleton = 0
  others_below (Over b (Filter c)) = others_below b
  others_below (Over b n) = others_below b + 1

  pub height : Plan → ℕ
  height Singleton = 0
  height (Over b (Filter c)) = height b + others_below b
  height (Over b (Subquery x s)) = height b + height s
  height (Over b n) = height b

-- the filters, and the variables of edges and paths
abbrev pub parts_to_go : Node → ℕ
parts_to_go (Traversal w e colls prune keep) =
    length (option_to_list w.edge) + length (option_to_list w.path)
parts_to_go n = is_filter n
