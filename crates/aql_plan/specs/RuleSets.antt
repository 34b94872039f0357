-- Sets of rules, as the bits of a number: that of a rule is at its place in the order of the passes.
use Rattle.std.specs.Prelude.{ℕ, ◌≡◌}
use Rattle.std.specs.Int.{bit_at}
use Rattle.aql_plan.specs.declared.rules.RuleName.{RuleName}
use Rattle.aql_plan.specs.declared.rules.RuleName.TheVariants as rule
use Rattle.aql_plan.specs.declared.rule_sets.Rules.{Rules}

abbrev pub bit_of : RuleName → ℕ
bit_of rule.SimplifyConditions = 0
bit_of rule.InlineSubqueries = 1
bit_of rule.InterchangeAdjacentEnumerations = 2
bit_of rule.MoveCalculationsUp = 3
bit_of rule.MoveFiltersUp = 4
bit_of rule.RemoveRedundantCalculations = 5
bit_of rule.RemoveUnnecessaryFilters = 6
bit_of rule.RemoveUnnecessaryCalculations = 7
bit_of rule.RemoveRedundantSorts = 8
bit_of rule.RemoveCollectVariables = 9
bit_of rule.ReplaceOrWithIn = 10
bit_of rule.FuseFilters = 11
bit_of rule.OptimizeTraversals = 12
bit_of rule.UseIndexes = 13
bit_of rule.RemoveFilterCoveredByIndex = 14
bit_of rule.UseIndexForSort = 15
bit_of rule.SortLimit = 16
bit_of rule.MoveFiltersIntoEnumerate = 17
bit_of rule.ReduceExtractionToProjection = 18
bit_of rule.ScatterInCluster = 19
bit_of rule.DistributeInCluster = 20
bit_of rule.RestrictToSingleShard = 21
bit_of rule.DistributeFiltercalcToCluster = 22
bit_of rule.RemoveUnnecessaryRemoteScatter = 23
bit_of rule.CollectInCluster = 24
bit_of rule.DistributeSortToCluster = 25

abbrev pub Has : Rules → RuleName → Type 0
Has rules r = bit_at rules.bits (bit_of r) ≡ 1
