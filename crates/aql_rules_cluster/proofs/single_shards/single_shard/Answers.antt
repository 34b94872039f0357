use Rattle.std.proofs.Common.{List, sym, subst}
use Rattle.aql_meaning.specs.Plain.{AllPlain}
use Rattle.aql_plan.specs.View.{expr_trees, node_tree}
use Rattle.aql_tree.specs.declared.syntax.Expr.{Expr}
use Rattle.aql_rules_cluster.specs.laws.Narrowed.{given_plain}
use Rattle.aql_rules_cluster.proofs.single_shards.single_shard.Goals as goal

pub constant_values-requires : goal.constant_values-requires
constant_values-requires c = subst (λ (es : List Expr). AllPlain (expr_trees es)) (sym c.as_slice.ensures)
    (given_plain c.args.facts.now (node_tree c.args.lowest.now) (expr_trees c.in-Some.exprs)
    (rw c.in-Some.is at c.in_ok-exprs.ensures))
