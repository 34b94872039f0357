use Rattle.std.proofs.Common.{◌≡◌, ◌*◌, ◌+◌, map, take, unwrap_or, option_map}
use Rattle.aql_tree.specs.View.{tree}
use Rattle.aql_rewrite.specs.Size.{size, size_all}
use Rattle.aql_rewrite.specs.ExprView.{lent}
use Rattle.aql_rewrite.specs.Renames.{put_each}
use Rattle.aql_rewrite.proofs.renaming.+exprs.Given as goal

abbrev pub decreases-renamed_expr : goal.decreases-renamed_expr
decreases-renamed_expr l = 2 * size (tree l.expr.now)

abbrev pub decreases-renamed_exprs : goal.decreases-renamed_exprs
decreases-renamed_exprs l = 2 * size_all (map lent l.all.now) + 1

abbrev pub invariant-renamed_exprs-loop-at : goal.invariant-renamed_exprs-loop-at
invariant-renamed_exprs-loop-at l =
    unwrap_or (option_map (λ q. map tree q.items) l.out) (map lent (take l.at l.all))
    ≡ map (put_each l.renames) (map lent (take l.at l.all))
