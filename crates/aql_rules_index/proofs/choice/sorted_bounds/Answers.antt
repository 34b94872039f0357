use Rattle.std.proofs.Common.{map, sym}
use Rattle.aql_meaning.specs.View.{last_tree}
use Rattle.aql_rules_index.specs.inner.Views.{item_tree}
use Rattle.aql_rules_index.proofs.BoundsFound.{all_equal, next_equal, last_found}
use Rattle.aql_rules_index.proofs.choice.sorted_bounds.Goals as goal

pub returns-in-None : goal.returns-in-None
returns-in-None c = last_found c.args.names.now (map item_tree c.args.items.now) c.loop-name.equal
    c.loop-name.name-index c.loop-name.invariant c.name-item.result c.loop-name-test.true c.name-item.is
    (last_tree c.in_ok-last-in-None.last) (sym c.in-None.ensures) c.in_ok-last-in-None.ensures

pub loop-name-preserved : goal.loop-name-preserved
loop-name-preserved c = next_equal c.args.names.now (map item_tree c.args.items.now) c.loop-name.equal
    c.loop-name.name-index c.loop-name.invariant c.name-item.result c.loop-name-test.true c.name-item.is
    (item_tree c.in-Some.item) c.in_ok-copy_expr-in-Some.field-0 c.push.new.self (sym c.in-Some.ensures)
    c.in_ok-copy_expr-in-Some.ensures c.in_ok-push-in-Some.ensures.ok

pub returns : goal.returns
returns c = all_equal c.args.names.now (map item_tree c.args.items.now) c.loop-name.equal
    c.loop-name.name-index c.loop-name.invariant c.loop-name-test.false
