-- In the nearest list, or further above.
use Rattle.aql_tree.specs.declared.syntax.Ident.TheVariants.{Num}
use Rattle.aql_rewrite.specs.laws.Levels.{used_nearest, used_further}
use Rattle.aql_rewrite.proofs.above.+is_used.Goals as goal

pub returns-then-is_among : goal.returns-then-is_among
returns-then-is_among t c = used_nearest (Num c.args.var) c.args.above.now c.in-Some.further.now
    c.in-Some.own.now c.as_slice.result.now c.is_among.result c.in-Some.ensures.cases.0 c.as_slice.ensures
    c.is_among.ensures c.if-is_among.true

pub returns-else-is_among : goal.returns-else-is_among
returns-else-is_among t c = used_further (Num c.args.var) c.args.above.now c.in-Some.further.now
    c.in-Some.own.now c.as_slice.result.now c.is_among.result c.is_used.result c.in-Some.ensures.cases.0
    c.as_slice.ensures c.is_among.ensures c.if-is_among.false c.is_used.ensures
