-- A Filter outside fragments stands over rows, and the number of filters does not change with expressions.
use Rattle.std.proofs.Common.{◌≡◌, false, true≢false, refl}
use Rattle.aql_tree.specs.Tree.{ExprTree}
use Rattle.aql_meaning.specs.Plain.{IsPlain}
use Rattle.aql_plan.specs.declared.facts.Facts.{Facts}
use Rattle.aql_plan.specs.Plan.{Plan, Over, Node, Filter}
use Rattle.aql_plan.specs.Exprs.{map_node}
use Rattle.aql_plan.specs.Shapes.{Shape, Rows, Shaped, is_inside, plain_rows, lowest, other_reading, passing}
use Rattle.aql_rules_filter.specs.Measures.{is_filter}

pub filter_shaped : (facts : Facts) (b : Plan) (e : ExprTree) (s : Shape) → is_inside s ≡ false
    → Shaped facts (Over b (Filter e)) s → (s ≡ Rows false) × IsPlain e × Shaped facts b (Rows false)
filter_shaped facts b e s out (plain_rows i f h) = (refl, f, h)
filter_shaped facts b e s out (lowest i f h) = absurd i
filter_shaped facts b e s out (other_reading i f h) = absurd i
filter_shaped facts b e s out (passing i f h) = absurd (true≢false out)

pub same_filters : (f : ExprTree → ExprTree) (n : Node) → is_filter (map_node f n) ≡ is_filter n
same_filters f (Filter e) = refl
same_filters f n = refl
