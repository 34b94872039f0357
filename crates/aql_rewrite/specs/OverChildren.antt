-- The same form over other children, which are taken in order. Where they run out a child stays as it is.
use Rattle.std.specs.Prelude.{List, [], ◌∷◌}
use Rattle.aql_tree.specs.Tree.{ExprTree, literal, variable, current, array_literal, object_literal, access}
use Rattle.aql_tree.specs.Tree.{function_call, unary_of, chain, array_comparison, ternary, range_of, subquery}
use Rattle.aql_tree.specs.Tree.{ExprTrees, no_exprs, expr_then, MaybeExpr, no_expr, one_expr}
use Rattle.aql_tree.specs.Tree.{MemberTrees, no_members, named_then, computed_then}
use Rattle.aql_tree.specs.Tree.{StepTrees, no_steps, name_then, at_then, inline_then}
use Rattle.aql_tree.specs.Tree.{LinkTrees, no_links, link_then}

-- the first of the new children, or the old child where there is none
abbrev pub first_or : ExprTree → List ExprTree → ExprTree
first_or e [] = e
first_or e (p ∷ ps) = p

-- the new children after the first one
abbrev pub after_first : List ExprTree → List ExprTree
after_first [] = []
after_first (p ∷ ps) = ps

abbrev pub over_list : ExprTrees → List ExprTree → ExprTrees
over_list no_exprs ps = no_exprs
over_list (expr_then e es) ps = expr_then (first_or e ps) (over_list es (after_first ps))

abbrev pub over_maybe : MaybeExpr → List ExprTree → MaybeExpr
over_maybe no_expr ps = no_expr
over_maybe (one_expr e) ps = one_expr (first_or e ps)

-- the new children after the one for an expression that may be missing
abbrev pub after_maybe : MaybeExpr → List ExprTree → List ExprTree
after_maybe no_expr ps = ps
after_maybe (one_expr e) ps = after_first ps

abbrev pub over_members : MemberTrees → List ExprTree → MemberTrees
over_members no_members ps = no_members
over_members (named_then name e ms) ps = named_then name (first_or e ps) (over_members ms (after_first ps))
over_members (computed_then n e ms) ps =
    computed_then (first_or n ps) (first_or e (after_first ps))
    (over_members ms (after_first (after_first ps)))

abbrev pub over_steps : StepTrees → List ExprTree → StepTrees
over_steps no_steps ps = no_steps
over_steps (name_then name ss) ps = name_then name (over_steps ss ps)
over_steps (at_then e ss) ps = at_then (first_or e ps) (over_steps ss (after_first ps))
over_steps (inline_then filter gives ss) ps =
    inline_then (over_maybe filter ps) (over_maybe gives (after_maybe filter ps))
    (over_steps ss (after_maybe gives (after_maybe filter ps)))

abbrev pub over_links : LinkTrees → List ExprTree → LinkTrees
over_links no_links ps = no_links
over_links (link_then op e ls) ps = link_then op (first_or e ps) (over_links ls (after_first ps))

abbrev pub over_children : ExprTree → List ExprTree → ExprTree
over_children (literal v) ps = literal v
over_children (variable x) ps = variable x
over_children current ps = current
over_children (array_literal es) ps = array_literal (over_list es ps)
over_children (object_literal ms) ps = object_literal (over_members ms ps)
over_children (access e ss) ps = access (first_or e ps) (over_steps ss (after_first ps))
over_children (function_call name es) ps = function_call name (over_list es ps)
over_children (unary_of op e) ps = unary_of op (first_or e ps)
over_children (chain e ls) ps = chain (first_or e ps) (over_links ls (after_first ps))
over_children (array_comparison a kind op b) ps =
    array_comparison (first_or a ps) kind op (first_or b (after_first ps))
over_children (ternary test first other) ps = ternary (first_or test ps) (over_maybe first (after_first ps))
    (first_or other (after_maybe first (after_first ps)))
over_children (range_of a b) ps = range_of (first_or a ps) (first_or b (after_first ps))
over_children (subquery q) ps = subquery q
