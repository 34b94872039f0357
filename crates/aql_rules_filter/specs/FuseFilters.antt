-- The rule fuse-filters: a Filter over a Filter becomes one Filter with the items of the lower, then of the
-- upper.
use Rattle.std.specs.Prelude.{Option, None}
use Rattle.aql_tree.specs.Tree.{ExprTree, one_expr}
use Rattle.aql_meaning.specs.Uses.{Uses}
use Rattle.aql_plan.specs.Plan.{Plan, Over, Filter}
use Rattle.aql_rewrite.specs.declared.swap.Rename.{Rename}
use Rattle.aql_rules_filter.specs.Conditions.{joined}

pub data Fuses : Uses → Plan → Plan → Option Rename → Type 0 where
  fused : {us : Uses} {b : Plan} {lower upper : ExprTree}
      → Fuses us (Over (Over b (Filter lower)) (Filter upper))
      (Over b (Filter (joined (one_expr lower) upper))) None
