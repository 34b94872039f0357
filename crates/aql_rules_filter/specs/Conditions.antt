-- Conditions of filters, and their items: the parts of an `&&` chain, or the condition itself.
use Rattle.std.specs.Prelude.{List, [], ◌∷◌, ◌++◌, true}
use Rattle.aql_value.specs.Datum.{boolean}
use Rattle.aql_value.specs.declared.operators.BinOp.TheVariants.{And}
use Rattle.aql_tree.specs.Tree.{ExprTree, literal, chain, MaybeExpr, no_expr, one_expr, LinkTrees, no_links, link_then}
use Rattle.aql_plan.specs.FirstPlan.{conjuncts}

-- the items of a condition that may be missing
abbrev pub filter_items : MaybeExpr → List ExprTree
filter_items no_expr = []
filter_items (one_expr e) = conjuncts e

-- items as one condition: none is true, one is itself, more are an `&&` chain
abbrev pub and_links : List ExprTree → LinkTrees
and_links [] = no_links
and_links (e ∷ es) = link_then And e (and_links es)

abbrev pub with_more : ExprTree → List ExprTree → ExprTree
with_more e [] = e
with_more e (f ∷ fs) = chain e (and_links (f ∷ fs))

abbrev pub all_of : List ExprTree → ExprTree
all_of [] = literal (boolean true)
all_of (e ∷ es) = with_more e es

-- the items of one condition, then those of another
abbrev pub joined : MaybeExpr → ExprTree → ExprTree
joined first second = all_of (filter_items first ++ conjuncts second)
