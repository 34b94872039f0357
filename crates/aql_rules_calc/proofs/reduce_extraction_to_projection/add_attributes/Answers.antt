use Rattle.std.proofs.Common.{◌∙◌, ap}
use Rattle.aql_meaning.specs.Uses.{Attribute}
use Rattle.aql_rules_calc.specs.ReduceExtractionToProjection.{with_name}
use Rattle.aql_rules_calc.specs.laws.NamesUsed.{name_added, goes_on, stops, ended}
use Rattle.aql_rules_calc.proofs.reduce_extraction_to_projection.add_attributes.Goals as goal

pub returns-then-not-branch : goal.returns-then-not-branch
returns-then-not-branch c = λ x. stops (λ name. Attribute x name) c.args.order.now c.loop-name.name-index
    c.name-item.result c.loop-name-test.true c.name-item.is c.args.names.now c.loop-name.names
    c.add_name.new.names x c.in_ok-add_name.field-0 (c.loop-name.invariant x)
    (name_added x c.loop-name.names c.add_name.new.names c.name-item.result c.in_ok-add_name.field-0
    (c.in_ok-add_name.ensures.added ∙ ap (with_name c.loop-name.names) c.as_str.ensures)
    c.in_ok-add_name.ensures.few) c.if-not-branch.true

pub loop-name-preserved : goal.loop-name-preserved
loop-name-preserved c = λ x. goes_on (λ name. Attribute x name) c.args.order.now c.loop-name.name-index
    c.name-item.result c.loop-name-test.true c.name-item.is c.args.names.now c.loop-name.names
    c.add_name.new.names x c.in_ok-add_name.field-0 (c.loop-name.invariant x)
    (name_added x c.loop-name.names c.add_name.new.names c.name-item.result c.in_ok-add_name.field-0
    (c.in_ok-add_name.ensures.added ∙ ap (with_name c.loop-name.names) c.as_str.ensures)
    c.in_ok-add_name.ensures.few) c.if-not-branch.false

pub returns : goal.returns
returns c = λ x. ended (λ name. Attribute x name) c.args.order.now c.loop-name.name-index c.args.names.now
    c.loop-name.names x c.loop-name-test.false (c.loop-name.invariant x)
