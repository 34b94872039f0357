-- What the pass of each rule makes of a plan, and whether it changed it. The order of loops is chosen among
-- candidates, so its pass leaves each plan as it is.
use Rattle.std.specs.Prelude.{◌≡◌, Bool, false}
use Rattle.aql_plan.specs.declared.facts.Facts.{Facts}
use Rattle.aql_plan.specs.declared.rules.RuleName.{RuleName}
use Rattle.aql_plan.specs.declared.rules.RuleName.TheVariants as rule
use Rattle.aql_plan.specs.Plan.{Plan}
use Rattle.aql_rewrite.specs.Places.{IsPass}
use Rattle.aql_passes.specs.AtExprs.{AtExprs}
use Rattle.aql_rules_calc.specs.SimplifyConditions.{Simplifies}
use Rattle.aql_rules_calc.specs.ReplaceOrWithIn.{Replaces}
use Rattle.aql_rules_calc.specs.MoveCalculationsUp.{Moves}
use Rattle.aql_rules_calc.specs.ReduceExtractionToProjection.{Reduces}
use Rattle.aql_rules_calc.specs.RemoveRedundantCalculations.{Redundant}
use Rattle.aql_rules_calc.specs.RemoveUnnecessaryCalculations.{Removes as RemovesCalculation}
use Rattle.aql_rules_order.specs.InlineSubqueries.{Inlines}
use Rattle.aql_rules_order.specs.RemoveCollectVariables.{Drops}
use Rattle.aql_rules_order.specs.RemoveRedundantSorts.{Unsorts}
use Rattle.aql_rules_order.specs.SortLimit.{Limits}
use Rattle.aql_rules_index.specs.UseIndexes.{UsesIndex}
use Rattle.aql_rules_index.specs.RemoveFilterCoveredByIndex.{RemovesCovered}
use Rattle.aql_rules_index.specs.UseIndexForSort.{SortsByIndex}
use Rattle.aql_rules_cluster.specs.ScatterInCluster.{Scatters}
use Rattle.aql_rules_cluster.specs.DistributeInCluster.{Distributes}
use Rattle.aql_rules_cluster.specs.RestrictToSingleShard.{Restricts}
use Rattle.aql_rules_cluster.specs.DistributeFiltercalcToCluster.{MovesInside}
use Rattle.aql_rules_cluster.specs.RemoveUnnecessaryRemoteScatter.{Joins}
use Rattle.aql_rules_cluster.specs.CollectInCluster.{CollectsInside}
use Rattle.aql_rules_cluster.specs.DistributeSortToCluster.{SortsInside}
use Rattle.aql_rules_filter.specs.MoveFiltersUp.{MovesUp}
use Rattle.aql_rules_filter.specs.RemoveUnnecessaryFilters.{Removes as RemovesFilter}
use Rattle.aql_rules_filter.specs.FuseFilters.{Fuses}
use Rattle.aql_rules_filter.specs.OptimizeTraversals.{Optimizes}
use Rattle.aql_rules_filter.specs.MoveFiltersIntoEnumerate.{MovesIn}

abbrev pub IsPassOf : RuleName → Facts → Plan → Plan → Bool → Type 0
IsPassOf rule.SimplifyConditions facts p q changed = IsPass (AtExprs Simplifies) p q changed
IsPassOf rule.InlineSubqueries facts p q changed = IsPass Inlines p q changed
IsPassOf rule.InterchangeAdjacentEnumerations facts p q changed = (q ≡ p) × (changed ≡ false)
IsPassOf rule.MoveCalculationsUp facts p q changed = IsPass Moves p q changed
IsPassOf rule.MoveFiltersUp facts p q changed = IsPass MovesUp p q changed
IsPassOf rule.RemoveRedundantCalculations facts p q changed = IsPass Redundant p q changed
IsPassOf rule.RemoveUnnecessaryFilters facts p q changed = IsPass RemovesFilter p q changed
IsPassOf rule.RemoveUnnecessaryCalculations facts p q changed = IsPass RemovesCalculation p q changed
IsPassOf rule.RemoveRedundantSorts facts p q changed = IsPass Unsorts p q changed
IsPassOf rule.RemoveCollectVariables facts p q changed = IsPass Drops p q changed
IsPassOf rule.ReplaceOrWithIn facts p q changed = IsPass (AtExprs Replaces) p q changed
IsPassOf rule.FuseFilters facts p q changed = IsPass Fuses p q changed
IsPassOf rule.OptimizeTraversals facts p q changed = IsPass Optimizes p q changed
IsPassOf rule.UseIndexes facts p q changed = IsPass (UsesIndex facts) p q changed
IsPassOf rule.RemoveFilterCoveredByIndex facts p q changed = IsPass (RemovesCovered facts) p q changed
IsPassOf rule.UseIndexForSort facts p q changed = IsPass (SortsByIndex facts) p q changed
IsPassOf rule.SortLimit facts p q changed = IsPass Limits p q changed
IsPassOf rule.MoveFiltersIntoEnumerate facts p q changed = IsPass MovesIn p q changed
IsPassOf rule.ReduceExtractionToProjection facts p q changed = IsPass (Reduces facts) p q changed
IsPassOf rule.ScatterInCluster facts p q changed = IsPass (Scatters facts) p q changed
IsPassOf rule.DistributeInCluster facts p q changed = IsPass (Distributes facts) p q changed
IsPassOf rule.RestrictToSingleShard facts p q changed = IsPass (Restricts facts) p q changed
IsPassOf rule.DistributeFiltercalcToCluster facts p q changed = IsPass (MovesInside facts) p q changed
IsPassOf rule.RemoveUnnecessaryRemoteScatter facts p q changed = IsPass (Joins facts) p q changed
IsPassOf rule.CollectInCluster facts p q changed = IsPass (CollectsInside facts) p q changed
IsPassOf rule.DistributeSortToCluster facts p q changed = IsPass (SortsInside facts) p q changed
