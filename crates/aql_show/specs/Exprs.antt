-- Expressions as the text of a plan writes them (AQL fundamentals; Operators): each operator with its
-- operands in brackets, literals as JSON, the names of functions in capitals. A subquery has no text: no plan
-- has one in an expression.
use Rattle.std.specs.Prelude.{ℕ, List, [], ◌∷◌, ◌++◌, map, codes}
use Rattle.std.specs.Char.{to_ascii_uppercase}
use Rattle.json.specs.Print.{quoted}
use Rattle.aql_value.specs.Json.{json_text}
use Rattle.aql_tree.specs.Tree.{ExprTree, literal, variable, current, array_literal, object_literal, access}
use Rattle.aql_tree.specs.Tree.{function_call, unary_of, chain, array_comparison, ternary, range_of, subquery}
use Rattle.aql_tree.specs.Tree.{ExprTrees, no_exprs, expr_then, MaybeExpr, no_expr, one_expr, MemberTrees}
use Rattle.aql_tree.specs.Tree.{no_members, named_then, computed_then, StepTrees, no_steps, name_then}
use Rattle.aql_tree.specs.Tree.{at_then, inline_then, LinkTrees, no_links, link_then}
use Rattle.aql_show.specs.Lists.{listed, in_brackets}
use Rattle.aql_show.specs.Names.{name_text, variable_text}
use Rattle.aql_show.specs.Words.{right_text, sign_text, quantifier_text}

-- a function's name
abbrev pub function_text : List ℕ → List ℕ
function_text name = map to_ascii_uppercase name

-- `names` has the names of the variables
module _ (names : List (List ℕ)) where
  abbrev mutual
    pub expr_text : ExprTree → List ℕ
    expr_text (literal v) = json_text v
    expr_text (variable x) = variable_text names x
    expr_text current = codes "CURRENT"
    expr_text (array_literal es) = codes "[" ++ listed [] (codes ", ") (expr_texts es) ++ codes "]"
    expr_text (object_literal ms) = codes "{" ++ listed [] (codes ", ") (member_texts ms) ++ codes "}"
    expr_text (access e ss) = expr_text e ++ steps_text ss
    expr_text (function_call name es) =
        function_text name ++ in_brackets (listed [] (codes ", ") (expr_texts es))
    expr_text (unary_of op e) = in_brackets (sign_text op ++ expr_text e)
    expr_text (chain e ls) = in_brackets (expr_text e ++ links_text ls)
    expr_text (array_comparison a kind op b) =
        in_brackets (expr_text a ++ codes " " ++ quantifier_text kind ++ right_text op (expr_text b))
    expr_text (ternary test first other) =
        in_brackets (expr_text test ++ codes " ?" ++ maybe_text (codes " ") first
        ++ codes " : " ++ expr_text other)
    expr_text (range_of a b) = in_brackets (expr_text a ++ codes ".." ++ expr_text b)
    expr_text (subquery q) = []

    pub expr_texts : ExprTrees → List (List ℕ)
    expr_texts no_exprs = []
    expr_texts (expr_then e es) = expr_text e ∷ expr_texts es

    -- an expression that may be missing, after what stands before it
    pub maybe_text : List ℕ → MaybeExpr → List ℕ
    maybe_text front no_expr = []
    maybe_text front (one_expr e) = front ++ expr_text e

    pub member_texts : MemberTrees → List (List ℕ)
    member_texts no_members = []
    member_texts (named_then name e ms) = (quoted name ++ codes ": " ++ expr_text e) ∷ member_texts ms
    member_texts (computed_then name e ms) =
        (codes "[" ++ expr_text name ++ codes "]: " ++ expr_text e) ∷ member_texts ms

    pub steps_text : StepTrees → List ℕ
    steps_text no_steps = []
    steps_text (name_then name ss) = codes "." ++ name_text name ++ steps_text ss
    steps_text (at_then e ss) = codes "[" ++ expr_text e ++ codes "]" ++ steps_text ss
    steps_text (inline_then filter gives ss) = codes "[*" ++ maybe_text (codes " FILTER ") filter
        ++ maybe_text (codes " RETURN ") gives ++ codes "]" ++ steps_text ss

    pub links_text : LinkTrees → List ℕ
    links_text no_links = []
    links_text (link_then op e ls) = right_text op (expr_text e) ++ links_text ls
