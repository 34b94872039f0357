use Rattle.std.proofs.Common.{map}
use Rattle.aql_tree.specs.View.{tree}
use Rattle.aql_tree.specs.declared.syntax.Ident.TheVariants.{Num}
use Rattle.aql_rules_index.specs.inner.Views.{item_tree}
use Rattle.aql_rules_cluster.specs.KeyItems.{Wants}
use Rattle.aql_rules_cluster.proofs.KeysFound.{all_found, key_found}
use Rattle.aql_rules_cluster.proofs.key_items.first_for_each.Goals as goal

pub loop-key-preserved : goal.loop-key-preserved
loop-key-preserved c = key_found (Wants c.args.wanted (Num c.args.var)) (map item_tree c.args.items.now)
    c.args.keys.now c.loop-key.exprs c.loop-key.key-index c.loop-key.invariant c.key-item.result
    c.loop-key-test.true c.key-item.is (tree c.in-Some.expr.now) c.in_ok-copy_expr.field-0 c.push.new.self
    (rw c.in-Some.is at c.in_ok-expr.ensures) c.in_ok-copy_expr.ensures c.in_ok-push.ensures.ok

pub returns : goal.returns
returns c = all_found (Wants c.args.wanted (Num c.args.var)) (map item_tree c.args.items.now)
    c.args.keys.now c.loop-key.exprs c.loop-key.key-index c.loop-key.invariant c.loop-key-test.false
