-- What falls with each application of a rule, so that its pass ends; no rule's meaning rests on it.
use Rattle.std.specs.Prelude.{ℕ, length, None}
use Rattle.aql_plan.specs.Plan.{Node, Sort, Collect}
use Rattle.aql_rules_order.specs.RemoveCollectVariables.{own_vars}

-- remove-collect-variables: the variables that Collects set beside their groups
abbrev pub vars_to_go : Node → ℕ
vars_to_go (Collect xs es gs i s) = length (own_vars gs i)
vars_to_go n = 0

-- sort-limit: the Sorts without limit
abbrev pub is_unlimited : Node → ℕ
is_unlimited (Sort directions es None) = 1
is_unlimited n = 0
