-- CURRENT stands in an expression over other parts only where it stands in the expression, if that holds of
-- each part.
use Rattle.std.proofs.Common.{◌≡◌, List, [], ◌∷◌, ◌++◌, Bool, true, false, true≢false, refl, sym}
use Rattle.std.specs.Prelude.{◌||◌}
use Rattle.std.specs.List.{AllZip}
use Rattle.aql_tree.specs.Tree.{ExprTree, literal, variable, current, array_literal, object_literal, access}
use Rattle.aql_tree.specs.Tree.{function_call, unary_of, chain, array_comparison, ternary, range_of, subquery}
use Rattle.aql_tree.specs.Tree.{ExprTrees, no_exprs, expr_then, MaybeExpr, no_expr, one_expr}
use Rattle.aql_tree.specs.Tree.{MemberTrees, no_members, named_then, computed_then}
use Rattle.aql_tree.specs.Tree.{StepTrees, no_steps, name_then, at_then, inline_then}
use Rattle.aql_tree.specs.Tree.{LinkTrees, no_links, link_then}
use Rattle.aql_rewrite.specs.Children.{list_children, maybe_children, member_children, step_children, link_children, children}
use Rattle.aql_rewrite.specs.OverChildren.{first_or, after_first, over_list, over_maybe, after_maybe}
use Rattle.aql_rewrite.specs.OverChildren.{over_members, over_steps, over_links, over_children}
use Rattle.aql_rewrite.specs.Keeps.{uses_current, list_current, maybe_current, members_current}
use Rattle.aql_rewrite.specs.Keeps.{steps_current, links_current}
use Rattle.aql_rewrite.specs.laws.Related.{first_related, rest_related, after_maybe_related}

-- b is true only where a is
abbrev pub OnlyWhere : Bool → Bool → Type 0
OnlyWhere a b = b ≡ true → a ≡ true

pub either_only : (a b c d : Bool) → OnlyWhere a b → OnlyWhere c d → OnlyWhere (a || c) (b || d)
either_only true b c d f g h = refl
either_only false true c d f g h = absurd (true≢false (sym (f refl)))
either_only false false c d f g h = g h

abbrev pub NoCurrent : ExprTree → ExprTree → Type 0
NoCurrent p q = OnlyWhere (uses_current p) (uses_current q)

first_only : (e : ExprTree) (es ps : List ExprTree) → AllZip NoCurrent (e ∷ es) ps
    → NoCurrent e (first_or e ps)
first_only = first_related NoCurrent

rest_only : (e : ExprTree) (es ps : List ExprTree) → AllZip NoCurrent (e ∷ es) ps
    → AllZip NoCurrent es (after_first ps)
rest_only = rest_related NoCurrent

list_only : (es : ExprTrees) (ps : List ExprTree) → AllZip NoCurrent (list_children es) ps
    → OnlyWhere (list_current es) (list_current (over_list es ps))
list_only no_exprs ps h = λ k. k
list_only (expr_then e es) ps h = either_only _ _ _ _ (first_only e (list_children es) ps h)
    (list_only es (after_first ps) (rest_only e (list_children es) ps h))

maybe_only : (e : MaybeExpr) (es ps : List ExprTree) → AllZip NoCurrent (maybe_children e ++ es) ps
    → OnlyWhere (maybe_current e) (maybe_current (over_maybe e ps))
maybe_only no_expr es ps h = λ k. k
maybe_only (one_expr e) es ps h = first_only e es ps h

members_only : (ms : MemberTrees) (ps : List ExprTree) → AllZip NoCurrent (member_children ms) ps
    → OnlyWhere (members_current ms) (members_current (over_members ms ps))
members_only no_members ps h = λ k. k
members_only (named_then name e ms) ps h = either_only _ _ _ _ (first_only e (member_children ms) ps h)
    (members_only ms (after_first ps) (rest_only e (member_children ms) ps h))
members_only (computed_then n e ms) ps h =
    let k = rest_only n (e ∷ member_children ms) ps h in
    either_only _ _ _ _ (first_only n (e ∷ member_children ms) ps h)
    (either_only _ _ _ _ (first_only e (member_children ms) (after_first ps) k)
    (members_only ms (after_first (after_first ps)) (rest_only e (member_children ms) (after_first ps) k)))

steps_only : (ss : StepTrees) (ps : List ExprTree) → AllZip NoCurrent (step_children ss) ps
    → OnlyWhere (steps_current ss) (steps_current (over_steps ss ps))
steps_only no_steps ps h = λ k. k
steps_only (name_then name ss) ps h = steps_only ss ps h
steps_only (at_then e ss) ps h = either_only _ _ _ _ (first_only e (step_children ss) ps h)
    (steps_only ss (after_first ps) (rest_only e (step_children ss) ps h))
steps_only (inline_then filter gives ss) ps h =
    steps_only ss (after_maybe gives (after_maybe filter ps))
    (after_maybe_related NoCurrent gives (step_children ss) (after_maybe filter ps)
    (after_maybe_related NoCurrent filter (maybe_children gives ++ step_children ss) ps h))

links_only : (ls : LinkTrees) (ps : List ExprTree) → AllZip NoCurrent (link_children ls) ps
    → OnlyWhere (links_current ls) (links_current (over_links ls ps))
links_only no_links ps h = λ k. k
links_only (link_then op e ls) ps h = either_only _ _ _ _ (first_only e (link_children ls) ps h)
    (links_only ls (after_first ps) (rest_only e (link_children ls) ps h))

pub current_only : (e : ExprTree) (ps : List ExprTree) → AllZip NoCurrent (children e) ps
    → NoCurrent e (over_children e ps)
current_only (literal v) ps h = λ k. k
current_only (variable x) ps h = λ k. k
current_only current ps h = λ k. k
current_only (array_literal es) ps h = list_only es ps h
current_only (object_literal ms) ps h = members_only ms ps h
current_only (access e ss) ps h = either_only _ _ _ _ (first_only e (step_children ss) ps h)
    (steps_only ss (after_first ps) (rest_only e (step_children ss) ps h))
current_only (function_call name es) ps h = list_only es ps h
current_only (unary_of op e) ps h = first_only e [] ps h
current_only (chain e ls) ps h = either_only _ _ _ _ (first_only e (link_children ls) ps h)
    (links_only ls (after_first ps) (rest_only e (link_children ls) ps h))
current_only (array_comparison a kind op b) ps h = either_only _ _ _ _ (first_only a (b ∷ []) ps h)
    (first_only b [] (after_first ps) (rest_only a (b ∷ []) ps h))
current_only (ternary test middle other) ps h =
    let k = rest_only test (maybe_children middle ++ other ∷ []) ps h in
    either_only _ _ _ _ (first_only test (maybe_children middle ++ other ∷ []) ps h)
    (either_only _ _ _ _ (maybe_only middle (other ∷ []) (after_first ps) k)
    (first_only other [] (after_maybe middle (after_first ps))
    (after_maybe_related NoCurrent middle (other ∷ []) (after_first ps) k)))
current_only (range_of a b) ps h = either_only _ _ _ _ (first_only a (b ∷ []) ps h)
    (first_only b [] (after_first ps) (rest_only a (b ∷ []) ps h))
current_only (subquery q) ps h = λ k. k
