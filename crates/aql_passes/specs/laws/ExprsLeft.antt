-- Which new expressions are left after those of a part of a node stand for the old ones that come later.
use Rattle.std.proofs.Common.{List, ◌++◌}
use Rattle.std.specs.Prelude.{Option, Some, None}
use Rattle.std.specs.List.{AllZip}
use Rattle.aql_tree.specs.Tree.{ExprTree, ExprTrees, no_exprs, expr_then}
use Rattle.aql_tree.specs.Tree.{AggregateTrees, no_aggregates, aggregate_then}
use Rattle.aql_meaning.specs.Documents.{End, Last, no_last, one_of, between}
use Rattle.aql_rewrite.specs.Children.{list_children, maybe_children}
use Rattle.aql_rewrite.specs.OverChildren.{after_first, after_maybe}
use Rattle.aql_rewrite.specs.laws.Related.{rest_related, after_maybe_related}
use Rattle.aql_rewrite.specs.NodeExprs.{end_exprs, last_exprs, aggregate_exprs, after_list, after_end, after_last, after_aggregates}
use Rattle.aql_passes.specs.laws.Standing.{regrouped}

module _ (P : ExprTree → ExprTree → Type 0) where
  pub after_list_left : (es : ExprTrees) (fs ps : List ExprTree) → AllZip P (list_children es ++ fs) ps
      → AllZip P fs (after_list es ps)
  after_list_left no_exprs fs ps h = h
  after_list_left (expr_then e es) fs ps h =
      after_list_left es fs (after_first ps) (rest_related P e (list_children es ++ fs) ps h)

  pub after_end_left : (e : Option (End ExprTree)) (fs ps : List ExprTree) → AllZip P (end_exprs e ++ fs) ps
      → AllZip P fs (after_end e ps)
  after_end_left None fs ps h = h
  after_end_left (Some e) fs ps h = rest_related P e.limit fs ps h

  pub after_last_left : (l : Last ExprTree) (fs ps : List ExprTree) → AllZip P (last_exprs l ++ fs) ps
      → AllZip P fs (after_last l ps)
  after_last_left no_last fs ps h = h
  after_last_left (one_of e) fs ps h = rest_related P e fs ps h
  after_last_left (between low high) fs ps h =
      after_end_left high fs (after_end low ps) (after_end_left low (end_exprs high ++ fs) ps
      (regrouped P (end_exprs low) (end_exprs high) fs ps h))

  pub after_aggregates_left : (gs : AggregateTrees) (fs ps : List ExprTree)
      → AllZip P (aggregate_exprs gs ++ fs) ps → AllZip P fs (after_aggregates gs ps)
  after_aggregates_left no_aggregates fs ps h = h
  after_aggregates_left (aggregate_then x name e rest) fs ps h =
      after_aggregates_left rest fs (after_maybe e ps)
      (after_maybe_related P e (aggregate_exprs rest ++ fs) ps
      (regrouped P (maybe_children e) (aggregate_exprs rest) fs ps h))
