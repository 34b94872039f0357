-- The laws of plans, each the contract of a public function.
use Rattle.std.specs.Prelude.{Bool, IsSortedBy, ◌≡◌, List, false}
use Rattle.std.specs.List.{AllZip, AllByRecursion}
use Rattle.aql_value.specs.Datum.{Datum}
use Rattle.aql_value.specs.Database.{Database}
use Rattle.aql_tree.specs.declared.syntax.Ident.{Ident}
use Rattle.aql_tree.specs.declared.syntax.Ident.TheVariants.{Num}
use Rattle.aql_tree.specs.Tree.{ExprTrees, QueryTree}
use Rattle.aql_meaning.specs.Row.{Row}
use Rattle.aql_meaning.specs.AtRows.{row_before}
use Rattle.aql_meaning.specs.Uses.{Uses, Agree}
use Rattle.aql_meaning.specs.Merges.{Merged}
use Rattle.aql_meaning.specs.Meaning.{IsAnswer}
use Rattle.aql_meaning.specs.Lifted.{IsLifted}
use Rattle.aql_plan.specs.declared.facts.Facts.{Facts}
use Rattle.aql_plan.specs.Facts.{Meets}
use Rattle.aql_plan.specs.Plan.{Plan, Over, Node, Subquery}
use Rattle.aql_plan.specs.Runs.{Dataset, Site, Outside, Runs}
use Rattle.aql_plan.specs.Needs.{result_uses, under, needs}
use Rattle.aql_plan.specs.Refines.{dataset, Refines, RefinesFor, Answers}
use Rattle.aql_plan.specs.Above.{raised, input_inside, stands_inside, uses_above}
use Rattle.aql_plan.specs.Renaming.{NodeSets, IsOther, renamed_node, RefinesRenamed, IsGoneAfter}
use Rattle.aql_plan.specs.FirstPlan.{first_plan}

-- every plan gives a list from every row, well formed or not
abbrev pub EveryPlanHasAList : Type 0
EveryPlanHasAList =
    (p : Plan) (w : Dataset) (place : Site) (start : Row) → (out : List Row) × Runs p w place start out

-- from rows that agree in what a plan needs it gives lists that agree in what is used of them
abbrev pub PlanNeedsOnlyWhatIsUsed : Type 0
PlanNeedsOnlyWhatIsUsed = (p : Plan) (us : Uses) (w : Dataset) (start other : Row) (out : List Row)
    → Agree (needs p us) start other → Runs p w Outside start out
    → (more : List Row) × Runs p w Outside other more × AllZip (Agree us) out more

-- a part of a plan may be replaced, below any nodes, by one that refines it for what these use of it, where
-- the part does not stand in a fragment
abbrev pub PartMayBeReplaced : Type 0
PartMayBeReplaced = (ns : List Node) → stands_inside ns ≡ false → (us : Uses) (facts : Facts) (q p : Plan)
    → RefinesFor (uses_above ns us) facts q p → RefinesFor us facts (raised q ns) (raised p ns)

-- and so may the body of a subquery
abbrev pub BodyMayBeReplaced : Type 0
BodyMayBeReplaced = (x : Ident) (us : Uses) (facts : Facts) (b q p : Plan)
    → Refines facts q p → RefinesFor us facts (Over b (Subquery x q)) (Over b (Subquery x p))

-- plans whose rows are compared in the result alone are compared by their values
abbrev pub ResultsAreValues : Type 0
ResultsAreValues = (facts : Facts) (q p : Plan) → RefinesFor result_uses facts q p → Refines facts q p

-- where a part may be replaced by one whose rows have under y what they had under x, a node above goes by y:
-- a node that sets neither of the two and stands over no fragment
abbrev pub VariableMayBeRenamed : Type 0
VariableMayBeRenamed = (x y : Ident) → IsOther x y (Num 0) → (n : Node) → input_inside n false ≡ false
    → NodeSets (IsOther x y) n → (us : Uses) → IsGoneAfter x y n us → (facts : Facts) (q p : Plan)
    → RefinesRenamed x y (under n us) facts q p
    → RefinesRenamed x y us facts (Over q (renamed_node x y n)) (Over p n)

-- and at the top the values are the same
abbrev pub RenamedResultsAreValues : Type 0
RenamedResultsAreValues = (x y : Ident) → IsOther x y (Num 0) → (facts : Facts) (q p : Plan)
    → RefinesRenamed x y result_uses facts q p → Refines facts q p

-- each list of the first plan of a scoped query is an answer
abbrev pub FirstPlanAnswers : Type 0
FirstPlanAnswers = (facts : Facts) (db : Database) → Meets facts db → (q : QueryTree) → IsLifted q
    → (start : Row) (vs : List Datum) → Answers (first_plan facts q) (dataset facts db) start vs
    → IsAnswer db q start vs

-- where no shard's list descends, what a Gather makes of them does not descend
abbrev pub MergeDoesNotDescend : Type 0
MergeDoesNotDescend = (directions : List Bool) (es : ExprTrees) (lists : List (List Row)) (out : List Row)
    → AllByRecursion (IsSortedBy (row_before directions es)) lists
    → Merged (row_before directions es) lists out
    → IsSortedBy (row_before directions es) out
