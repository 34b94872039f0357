-- Chains and their sides as the program finds them: for the contracts of private functions alone.
use Rattle.std.specs.Prelude.{List, [], ◌∷◌, cond, Option, Some, None, option_map}
use Rattle.aql_value.specs.declared.operators.BinOp.{BinOp}
use Rattle.aql_value.specs.declared.operators.BinOp.TheVariants.{Eq, IsIn}
use Rattle.aql_tree.specs.Tree.{ExprTree, array_literal, chain, expr_then, LinkTrees, no_links, link_then}
use Rattle.aql_rewrite.specs.Children.{list_children}
use Rattle.aql_rules_calc.specs.ReplaceOrWithIn.{is_or_chain}

abbrev pub chain_in : ExprTree → Option (ExprTree × LinkTrees)
chain_in (chain e ls) = Some (e, ls)
chain_in e = None

-- the elements of an array literal that has some
abbrev pub array_in : ExprTree → Option (List ExprTree)
array_in (array_literal (expr_then e es)) = Some (list_children (expr_then e es))
array_in e = None

-- the sides of `e op k`
abbrev pub operation_in : ExprTree → Option (ExprTree × BinOp × ExprTree)
operation_in (chain e (link_then op k no_links)) = Some (e, op, k)
operation_in e = None

-- what `== k` and `IN [k, ..]` compare with
abbrev pub right_sides : BinOp → ExprTree → Option (List ExprTree)
right_sides Eq k = Some (k ∷ [])
right_sides IsIn k = array_in k
right_sides op k = None

abbrev pub left_in : ExprTree → Option ExprTree
left_in e = option_map (λ (o : ExprTree × BinOp × ExprTree). o.0) (operation_in e)

-- the left side of the first part of a `||` chain
abbrev pub first_left : ExprTree → Option ExprTree
first_left (chain d ls) = cond (is_or_chain ls) (left_in d) None
first_left e = None
