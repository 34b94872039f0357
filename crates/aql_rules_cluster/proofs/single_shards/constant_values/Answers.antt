use Rattle.aql_value.specs.View.{datum_of}
use Rattle.aql_rules_cluster.proofs.ShardsFound.{plain_at, one_more}
use Rattle.aql_rules_cluster.proofs.single_shards.constant_values.Goals as goal

pub constant_value-requires : goal.constant_value-requires
constant_value-requires c = plain_at c.args.exprs.now c.loop-expr.expr-index c.expr-item.result c.requires
    c.loop-expr-test.true c.expr-item.is

pub loop-expr-preserved : goal.loop-expr-preserved
loop-expr-preserved c = one_more c.args.exprs.now c.loop-expr.expr-index c.expr-item.result c.loop-expr.values
    c.push.new.self (datum_of c.in_ok-constant_value.field-0) c.loop-expr.invariant c.loop-expr-test.true
    c.expr-item.is c.in_ok-constant_value.ensures c.in_ok-push.ensures.ok
