-- The rule remove-collect-variables: an INTO variable or an aggregate that isn't used goes from its Collect,
-- all of one Collect at once.
use Rattle.std.specs.Prelude.{◌≡◌, ◌++◌, List, Bool, false, cond, Option, None, option_to_list}
use Rattle.std.specs.List.{list_all}
use Rattle.aql_tree.specs.declared.syntax.Ident.{Ident}
use Rattle.aql_tree.specs.Tree.{ExprTrees, AggregateTrees, no_aggregates, aggregate_then, IntoTree, no_into, into}
use Rattle.aql_meaning.specs.declared.grouping.Stage.{Stage}
use Rattle.aql_meaning.specs.Uses.{Uses, is_used}
use Rattle.aql_meaning.specs.Visible.{aggregate_vars, into_var}
use Rattle.aql_plan.specs.Plan.{Plan, Over, Collect}
use Rattle.aql_rewrite.specs.declared.swap.Rename.{Rename}

-- the aggregates whose variables are used
abbrev pub used_aggregates : Uses → AggregateTrees → AggregateTrees
used_aggregates us no_aggregates = no_aggregates
used_aggregates us (aggregate_then x name e rest) =
    cond (is_used x us) (aggregate_then x name e (used_aggregates us rest)) (used_aggregates us rest)

-- INTO, if its variable is used
abbrev pub used_into : Uses → IntoTree → IntoTree
used_into us no_into = no_into
used_into us (into x what keep) = cond (is_used x us) (into x what keep) no_into

-- the variables of the aggregates and of INTO
abbrev pub own_vars : AggregateTrees → IntoTree → List Ident
own_vars gs i = aggregate_vars gs ++ option_to_list (into_var i)

abbrev pub all_used : Uses → List Ident → Bool
all_used us xs = list_all (λ x. is_used x us) xs

pub data Drops : Uses → Plan → Plan → Option Rename → Type 0 where
  unused_go : {us : Uses} {b : Plan} {xs : List Ident} {es : ExprTrees} {gs : AggregateTrees} {i : IntoTree}
      {s : Stage} → all_used us (own_vars gs i) ≡ false
      → Drops us (Over b (Collect xs es gs i s))
      (Over b (Collect xs es (used_aggregates us gs) (used_into us i) s)) None
