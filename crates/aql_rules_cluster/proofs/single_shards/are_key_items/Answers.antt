use Rattle.std.proofs.Common.{◌≡◌, List, subst}
use Rattle.std.specs.Prelude.{IsTrue, ◌↔◌}
use Rattle.aql_meaning.specs.Plain.{AllPlain}
use Rattle.aql_plan.specs.View.{expr_trees, node_tree}
use Rattle.aql_tree.specs.declared.syntax.Expr.{Expr}
use Rattle.aql_rules_cluster.proofs.ShardsFound.{are_items}
use Rattle.aql_rules_cluster.proofs.single_shards.are_key_items.Goals as goal

pub returns-in-Some : goal.returns-in-Some
returns-in-Some c =
    let es = expr_trees c.args.exprs.now in
    are_items c.args.facts.now (node_tree c.args.lowest.now) c.same_exprs.result es
    (expr_trees c.in-Some.found)
    (subst (λ (fs : List Expr). IsTrue c.same_exprs.result ↔ (AllPlain es × (es ≡ expr_trees fs)))
    c.as_slice.ensures c.same_exprs.ensures)
    (rw c.in-Some.is at c.in_ok-found.ensures)
