-- What collect-in-cluster sees of a part, and what it makes of one.
use Rattle.std.specs.Prelude.{◌≡◌, List, map, Bool, cond, Option, Some, None}
use Rattle.aql_tree.specs.declared.syntax.Ident.{Ident}
use Rattle.aql_tree.specs.Tree.{ExprTrees, AggregateTrees, no_into}
use Rattle.aql_tree.specs.View.{trees, let_part, aggregate_part, aggregates as aggregate_trees}
use Rattle.aql_meaning.specs.declared.grouping.Stage.TheVariants.{Whole, Partial}
use Rattle.aql_plan.specs.Plan.{Plan, Singleton, Over, Node, Collect, Remote}
use Rattle.aql_rules_cluster.specs.declared.groupings.Grouping as code
use Rattle.aql_rules_cluster.specs.CollectInCluster.{in_two_stages}
use Rattle.aql_rules_cluster.specs.inner.Fragments.{is_gathered}

-- how rows are grouped: the variables of the criteria, the criteria, and the aggregates
pub record Grouping : Type 0 where
  pub vars : List Ident
  pub criteria : ExprTrees
  pub aggregates : AggregateTrees

-- a Collect in one stage, without INTO, over a Gather or not
abbrev pub grouping_by : Node → Bool → Option Grouping
grouping_by (Collect xs es gs no_into Whole) gathered =
    cond gathered (Some (record { vars = xs; criteria = es; aggregates = gs })) None
grouping_by n gathered = None

abbrev pub grouping : Plan → Option Grouping
grouping Singleton = None
grouping (Over b n) = grouping_by n (is_gathered b)

-- as the program holds it
abbrev pub grouping_tree : code.Grouping → Grouping
grouping_tree g = record {
  vars = map (λ l. l.0) (map let_part g.groups);
  criteria = trees (map (λ l. l.1) (map let_part g.groups));
  aggregates = aggregate_trees (map aggregate_part g.aggregates);
}

-- a Collect as the first of two stages; another node as it is
abbrev pub first_stage : Node → Node
first_stage (Collect xs es gs i s) = Collect xs es gs i Partial
first_stage n = n

-- a plan with its top node so
abbrev pub with_first_stage : Plan → Plan
with_first_stage Singleton = Singleton
with_first_stage (Over b n) = Over b (first_stage n)

-- q is p with its Collect in two stages, the first in the fragment
abbrev pub IsGroupedInside : Grouping → Plan → Plan → Type 0
IsGroupedInside g p q = (fragment : Plan) (m : Node)
    → p ≡ Over (Over (Over fragment Remote) m) (Collect g.vars g.criteria g.aggregates no_into Whole)
    → q ≡ in_two_stages fragment g.vars g.criteria g.aggregates
