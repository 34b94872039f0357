-- One key after another.
use Rattle.std.proofs.Common.{arith}
use Rattle.aql_plan_check.proofs.ShapeTests.{next, stop}
use Rattle.aql_plan_check.proofs.Lists.{attributes_left}
use Rattle.aql_plan_check.proofs.equality.are_attributes.Goals as goal

pub returns-then-not-is_attribute_key : goal.returns-then-not-is_attribute_key
returns-then-not-is_attribute_key c = stop c.is_attribute_key.result
    (attributes_left c.args.keys.now c.args.var c.args.names.now c.args.descending c.loop-i.i
    c.index-keys-i.result c.index-names-i.result (omega arith) (omega arith) c.index-keys-i.is c.index-names-i.is
    c.loop-i.invariant) c.is_attribute_key.ensures c.if-not-is_attribute_key.true

pub loop-i-preserved : goal.loop-i-preserved
loop-i-preserved c = next
    (attributes_left c.args.keys.now c.args.var c.args.names.now c.args.descending c.loop-i.i
    c.index-keys-i.result c.index-names-i.result (omega arith) (omega arith) c.index-keys-i.is c.index-names-i.is
    c.loop-i.invariant) (c.is_attribute_key.ensures.0 c.if-not-is_attribute_key.false)
