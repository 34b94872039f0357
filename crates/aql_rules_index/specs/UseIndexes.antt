-- The rule use-indexes: under a Filter an EnumerateCollection without a filter that keeps all attributes
-- becomes an Index, where the items of the condition bound one. Of several the one with the least guess is
-- taken, and of equal ones the first.
use Rattle.std.specs.Prelude.{◌≡◌, Option, None}
use Rattle.aql_tree.specs.Tree.{ExprTree, no_expr}
use Rattle.aql_meaning.specs.Uses.{Uses}
use Rattle.aql_plan.specs.declared.facts.Facts.{Facts}
use Rattle.aql_plan.specs.FirstPlan.{conjuncts}
use Rattle.aql_plan.specs.Plan.{Reading, Plan, Over, EnumerateCollection, Index, Filter}
use Rattle.aql_rewrite.specs.declared.swap.Rename.{Rename}
use Rattle.aql_rules_index.specs.Choice.{items_of, Candidate, IsChosen}

pub data UsesIndex (facts : Facts) : Uses → Plan → Plan → Option Rename → Type 0 where
  used : {us : Uses} {b : Plan} {x : Reading} {c : ExprTree} {chosen : Candidate} → x.filter ≡ no_expr
      → x.attrs ≡ None → IsChosen facts x.coll (items_of x.var (conjuncts c)) chosen
      → UsesIndex facts us (Over (Over b (EnumerateCollection x)) (Filter c))
      (Over (Over b (Index x chosen.index chosen.bounds.equal chosen.bounds.last None)) (Filter c)) None
