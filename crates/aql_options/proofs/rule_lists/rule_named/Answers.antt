use Rattle.std.proofs.Common.{◌≡◌, sym}
use Rattle.aql_plan.specs.declared.rules.RuleName.{RuleName}
use Rattle.aql_plan.specs.RuleNames.{rule_text}
use Rattle.aql_plan.specs.declared.rules.RuleName.TheVariants as rule
use Rattle.aql_options.proofs.rule_lists.rule_named.Goals as goal

pub returns-in_default : goal.returns-in_default
returns-in_default c = λ r. elim r as (λ (r : RuleName). rule_text r ≡ c.args.name.now → ⊥) [
  | rule.SimplifyConditions ↦ λ e. c.in_default.not-text (sym e)
  | rule.InlineSubqueries ↦ λ e. c.in_default.not-text-2 (sym e)
  | rule.InterchangeAdjacentEnumerations ↦ λ e. c.in_default.not-text-3 (sym e)
  | rule.MoveCalculationsUp ↦ λ e. c.in_default.not-text-4 (sym e)
  | rule.MoveFiltersUp ↦ λ e. c.in_default.not-text-5 (sym e)
  | rule.RemoveRedundantCalculations ↦ λ e. c.in_default.not-text-6 (sym e)
  | rule.RemoveUnnecessaryFilters ↦ λ e. c.in_default.not-text-7 (sym e)
  | rule.RemoveUnnecessaryCalculations ↦ λ e. c.in_default.not-text-8 (sym e)
  | rule.RemoveRedundantSorts ↦ λ e. c.in_default.not-text-9 (sym e)
  | rule.RemoveCollectVariables ↦ λ e. c.in_default.not-text-10 (sym e)
  | rule.ReplaceOrWithIn ↦ λ e. c.in_default.not-text-11 (sym e)
  | rule.FuseFilters ↦ λ e. c.in_default.not-text-12 (sym e)
  | rule.OptimizeTraversals ↦ λ e. c.in_default.not-text-13 (sym e)
  | rule.UseIndexes ↦ λ e. c.in_default.not-text-14 (sym e)
  | rule.RemoveFilterCoveredByIndex ↦ λ e. c.in_default.not-text-15 (sym e)
  | rule.UseIndexForSort ↦ λ e. c.in_default.not-text-16 (sym e)
  | rule.SortLimit ↦ λ e. c.in_default.not-text-17 (sym e)
  | rule.MoveFiltersIntoEnumerate ↦ λ e. c.in_default.not-text-18 (sym e)
  | rule.ReduceExtractionToProjection ↦ λ e. c.in_default.not-text-19 (sym e)
  | rule.ScatterInCluster ↦ λ e. c.in_default.not-text-20 (sym e)
  | rule.DistributeInCluster ↦ λ e. c.in_default.not-text-21 (sym e)
  | rule.RestrictToSingleShard ↦ λ e. c.in_default.not-text-22 (sym e)
  | rule.DistributeFiltercalcToCluster ↦ λ e. c.in_default.not-text-23 (sym e)
  | rule.RemoveUnnecessaryRemoteScatter ↦ λ e. c.in_default.not-text-24 (sym e)
  | rule.CollectInCluster ↦ λ e. c.in_default.not-text-25 (sym e)
  | rule.DistributeSortToCluster ↦ λ e. c.in_default.not-text-26 (sym e)
]
