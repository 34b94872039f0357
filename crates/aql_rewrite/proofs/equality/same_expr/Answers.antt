-- The comparison form by form says what it should.
use Rattle.aql_tree.specs.View.{tree}
use Rattle.aql_rewrite.specs.laws.Sameness.{same_decides}
use Rattle.aql_rewrite.proofs.equality.same_expr.Goals as goal

pub returns : goal.returns
returns c = same_decides (tree c.args.a.now) (tree c.args.b.now) c.same.result c.same.ensures
