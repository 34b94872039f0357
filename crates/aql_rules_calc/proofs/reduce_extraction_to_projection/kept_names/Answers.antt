use Rattle.std.proofs.Common.{map}
use Rattle.aql_tree.specs.declared.syntax.Ident.TheVariants.{Num}
use Rattle.aql_meaning.specs.Uses.{Attribute}
use Rattle.aql_rewrite.specs.View.{above_uses}
use Rattle.aql_rules_calc.specs.laws.NamesUsed.{first_stops, then_added}
use Rattle.aql_rules_calc.proofs.reduce_extraction_to_projection.kept_names.Goals as goal

pub returns-then-not-branch : goal.returns-then-not-branch
returns-then-not-branch c = first_stops _ c.add_above.new.names (Num c.args.var)
    (above_uses c.args.above.now) (map (λ name. Attribute (Num c.args.var) name) c.args.order.now)
    c.in_ok-add_above.field-0 c.new-names.ensures c.in_ok-add_above.ensures c.if-not-branch.true

pub returns-then-not-branch-2 : goal.returns-then-not-branch-2
returns-then-not-branch-2 c = then_added _ c.add_above.new.names c.add_attributes.new.names
    (Num c.args.var) (above_uses c.args.above.now)
    (map (λ name. Attribute (Num c.args.var) name) c.args.order.now)
    c.in_ok-add_above.field-0 c.in_ok-add_attributes.field-0 _ c.new-names.ensures c.in_ok-add_above.ensures
    c.if-not-branch.false (c.in_ok-add_attributes.ensures (Num c.args.var)) c.if-not-branch-2.true

pub returns : goal.returns
returns c = then_added _ c.add_above.new.names c.add_attributes.new.names
    (Num c.args.var) (above_uses c.args.above.now)
    (map (λ name. Attribute (Num c.args.var) name) c.args.order.now)
    c.in_ok-add_above.field-0 c.in_ok-add_attributes.field-0 _ c.new-names.ensures c.in_ok-add_above.ensures
    c.if-not-branch.false (c.in_ok-add_attributes.ensures (Num c.args.var)) c.if-not-branch-2.false
