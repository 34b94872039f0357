-- The children of an expression (AQL fundamentals): the expressions right inside it, in the order of the
-- text, through the members of an object literal, the steps of an access with the filter and the projection
-- of an inline expression, and the links of a chain. What a subquery holds are no children of it.
use Rattle.std.specs.Prelude.{List, [], ◌∷◌, ◌++◌}
use Rattle.aql_tree.specs.Tree.{ExprTree, literal, variable, current, array_literal, object_literal, access}
use Rattle.aql_tree.specs.Tree.{function_call, unary_of, chain, array_comparison, ternary, range_of, subquery}
use Rattle.aql_tree.specs.Tree.{ExprTrees, no_exprs, expr_then, MaybeExpr, no_expr, one_expr}
use Rattle.aql_tree.specs.Tree.{MemberTrees, no_members, named_then, computed_then}
use Rattle.aql_tree.specs.Tree.{StepTrees, no_steps, name_then, at_then, inline_then}
use Rattle.aql_tree.specs.Tree.{LinkTrees, no_links, link_then}

abbrev pub list_children : ExprTrees → List ExprTree
list_children no_exprs = []
list_children (expr_then e es) = e ∷ list_children es

abbrev pub maybe_children : MaybeExpr → List ExprTree
maybe_children no_expr = []
maybe_children (one_expr e) = e ∷ []

abbrev pub member_children : MemberTrees → List ExprTree
member_children no_members = []
member_children (named_then name e ms) = e ∷ member_children ms
member_children (computed_then n e ms) = n ∷ e ∷ member_children ms

abbrev pub step_children : StepTrees → List ExprTree
step_children no_steps = []
step_children (name_then name ss) = step_children ss
step_children (at_then e ss) = e ∷ step_children ss
step_children (inline_then filter gives ss) =
    maybe_children filter ++ (maybe_children gives ++ step_children ss)

abbrev pub link_children : LinkTrees → List ExprTree
link_children no_links = []
link_children (link_then op e ls) = e ∷ link_children ls

abbrev pub children : ExprTree → List ExprTree
children (literal v) = []
children (variable x) = []
children current = []
children (array_literal es) = list_children es
children (object_literal ms) = member_children ms
children (access e ss) = e ∷ step_children ss
children (function_call name es) = list_children es
children (unary_of op e) = e ∷ []
children (chain e ls) = e ∷ link_children ls
children (array_comparison a kind op b) = a ∷ b ∷ []
children (ternary test first other) = test ∷ (maybe_children first ++ other ∷ [])
children (range_of a b) = a ∷ b ∷ []
children (subquery q) = []
