use Rattle.std.proofs.Common.{◌∙◌, true≢false, sym}
use Rattle.aql_tree.specs.declared.syntax.Ident.TheVariants.{Num}
use Rattle.aql_rules_cluster.specs.KeyItems.{Wants}
use Rattle.aql_rules_cluster.proofs.KeysFound.{none_found, found_here, found_later}
use Rattle.aql_rules_cluster.proofs.key_items.first_for.Goals as goal

pub returns-then-branch : goal.returns-then-branch
returns-then-branch c = found_here (Wants c.args.wanted (Num c.args.var)) c.args.key.now c.args.items.now
    c.loop-item.item-index c.loop-item.invariant c.item-item.result c.loop-item-test.true c.item-item.is
    (c.in_ok-gives_key.ensures.0 c.if-branch.true)

pub loop-item-preserved : goal.loop-item-preserved
loop-item-preserved c = found_later (Wants c.args.wanted (Num c.args.var)) c.args.key.now c.args.items.now
    c.loop-item.item-index c.loop-item.invariant c.item-item.result c.loop-item-test.true c.item-item.is
    (λ g. true≢false (sym (c.in_ok-gives_key.ensures.1 g) ∙ c.if-branch.false))

pub returns : goal.returns
returns c = none_found (Wants c.args.wanted (Num c.args.var)) c.args.key.now c.args.items.now
    c.loop-item.item-index c.loop-item.invariant c.loop-item-test.false
