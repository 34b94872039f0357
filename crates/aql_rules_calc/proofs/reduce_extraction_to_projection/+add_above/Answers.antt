use Rattle.std.proofs.lemmas.Result.{IfOk-weaker}
use Rattle.aql_tree.specs.declared.syntax.Ident.TheVariants.{Num}
use Rattle.aql_rules_calc.specs.laws.NamesUsed.{nearest_stops, nearest_then}
use Rattle.aql_rules_calc.proofs.reduce_extraction_to_projection.+add_above.Goals as goal

pub returns-then-not-branch : goal.returns-then-not-branch
returns-then-not-branch t c = nearest_stops c.args.names.now c.add_uses.new.names (Num c.args.var)
    c.args.above.now c.in-Some.further.now c.in-Some.own.now c.as_slice.result.now
    c.in_ok-add_uses-in-Some.field-0 c.in-Some.ensures.cases.0 c.as_slice.ensures
    c.in_ok-add_uses-in-Some.ensures c.if-not-branch.true

pub returns-else-not-branch : goal.returns-else-not-branch
returns-else-not-branch t c = IfOk-weaker c.add_above.result _ _
    (λ few h. nearest_then c.args.names.now c.add_uses.new.names _ (Num c.args.var)
    c.args.above.now c.in-Some.further.now c.in-Some.own.now c.as_slice.result.now
    c.in_ok-add_uses-in-Some.field-0 few c.in-Some.ensures.cases.0 c.as_slice.ensures
    c.in_ok-add_uses-in-Some.ensures c.if-not-branch.false h) c.add_above.ensures
