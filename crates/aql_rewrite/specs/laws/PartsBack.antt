-- The parts of an expression over other parts are these, and where they run out its own.
use Rattle.std.proofs.Common.{◌≡◌, ◌∙◌, List, [], ◌∷◌, ◌++◌, refl, ap}
use Rattle.std.specs.List.{AllZip}
use Rattle.aql_tree.specs.Tree.{ExprTree, literal, variable, current, array_literal, object_literal, access}
use Rattle.aql_tree.specs.Tree.{function_call, unary_of, chain, array_comparison, ternary, range_of, subquery}
use Rattle.aql_tree.specs.Tree.{ExprTrees, no_exprs, expr_then, MaybeExpr, no_expr, one_expr}
use Rattle.aql_tree.specs.Tree.{MemberTrees, no_members, named_then, computed_then}
use Rattle.aql_tree.specs.Tree.{StepTrees, no_steps, name_then, at_then, inline_then}
use Rattle.aql_tree.specs.Tree.{LinkTrees, no_links, link_then}
use Rattle.aql_rewrite.specs.Children.{list_children, maybe_children, member_children, step_children, link_children, children}
use Rattle.aql_rewrite.specs.OverChildren.{first_or, after_first, over_list, over_maybe, after_maybe}
use Rattle.aql_rewrite.specs.OverChildren.{over_members, over_steps, over_links, over_children}
use Rattle.aql_rewrite.specs.ExprView.{each_over}

pub maybe_back : (e : MaybeExpr) (es ds ps : List ExprTree) → ds ≡ each_over es (after_maybe e ps)
    → maybe_children (over_maybe e ps) ++ ds ≡ each_over (maybe_children e ++ es) ps
maybe_back no_expr es ds ps h = h
maybe_back (one_expr e) es ds ps h = ap (λ (xs : List ExprTree). first_or e ps ∷ xs) h

pub list_back : (es : ExprTrees) (ps : List ExprTree)
    → list_children (over_list es ps) ≡ each_over (list_children es) ps
list_back no_exprs ps = refl
list_back (expr_then e es) ps =
    ap (λ (xs : List ExprTree). first_or e ps ∷ xs) (list_back es (after_first ps))

members_back : (ms : MemberTrees) (ps : List ExprTree)
    → member_children (over_members ms ps) ≡ each_over (member_children ms) ps
members_back no_members ps = refl
members_back (named_then name e ms) ps =
    ap (λ (xs : List ExprTree). first_or e ps ∷ xs) (members_back ms (after_first ps))
members_back (computed_then n e ms) ps =
    ap (λ (xs : List ExprTree). first_or n ps ∷ first_or e (after_first ps) ∷ xs)
    (members_back ms (after_first (after_first ps)))

steps_back : (ss : StepTrees) (ps : List ExprTree)
    → step_children (over_steps ss ps) ≡ each_over (step_children ss) ps
steps_back no_steps ps = refl
steps_back (name_then name ss) ps = steps_back ss ps
steps_back (at_then e ss) ps =
    ap (λ (xs : List ExprTree). first_or e ps ∷ xs) (steps_back ss (after_first ps))
steps_back (inline_then filter gives ss) ps =
    let qs = after_maybe filter ps in
    maybe_back filter (maybe_children gives ++ step_children ss) _ ps
    (maybe_back gives (step_children ss) _ qs (steps_back ss (after_maybe gives qs)))

links_back : (ls : LinkTrees) (ps : List ExprTree)
    → link_children (over_links ls ps) ≡ each_over (link_children ls) ps
links_back no_links ps = refl
links_back (link_then op e ls) ps =
    ap (λ (xs : List ExprTree). first_or e ps ∷ xs) (links_back ls (after_first ps))

pub parts_back : (e : ExprTree) (ps : List ExprTree)
    → children (over_children e ps) ≡ each_over (children e) ps
parts_back (literal v) ps = refl
parts_back (variable x) ps = refl
parts_back current ps = refl
parts_back (array_literal es) ps = list_back es ps
parts_back (object_literal ms) ps = members_back ms ps
parts_back (access e ss) ps =
    ap (λ (xs : List ExprTree). first_or e ps ∷ xs) (steps_back ss (after_first ps))
parts_back (function_call name es) ps = list_back es ps
parts_back (unary_of op e) ps = refl
parts_back (chain e ls) ps =
    ap (λ (xs : List ExprTree). first_or e ps ∷ xs) (links_back ls (after_first ps))
parts_back (array_comparison a kind op b) ps = refl
parts_back (ternary test middle other) ps =
    ap (λ (xs : List ExprTree). first_or test ps ∷ xs)
    (maybe_back middle (other ∷ []) _ (after_first ps) refl)
parts_back (range_of a b) ps = refl
parts_back (subquery q) ps = refl

-- as many new parts as there are parts all come in
pub each_new : (P : ExprTree → ExprTree → Type 0) (es ps : List ExprTree) → AllZip P es ps
    → each_over es ps ≡ ps
each_new P [] [] h = refl
each_new P [] (p ∷ ps) h = absurd h
each_new P (e ∷ es) [] h = absurd h
each_new P (e ∷ es) (p ∷ ps) h = ap (λ (xs : List ExprTree). p ∷ xs) (each_new P es ps h.1)

pub each_old : (es : List ExprTree) → each_over es es ≡ es
each_old [] = refl
each_old (e ∷ es) = ap (λ (xs : List ExprTree). e ∷ xs) (each_old es)

pub new_parts : (P : ExprTree → ExprTree → Type 0) (e : ExprTree) (ps : List ExprTree)
    → AllZip P (children e) ps
    → children (over_children e ps) ≡ ps
new_parts P e ps h = parts_back e ps ∙ each_new P (children e) ps h
