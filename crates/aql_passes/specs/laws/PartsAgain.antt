-- An expression over its own parts is itself, and over other parts twice it is over the later ones.
use Rattle.std.proofs.Common.{◌≡◌, ◌∙◌, List, [], ◌∷◌, refl, ap, ap₂}
use Rattle.aql_tree.specs.Tree.{ExprTree, literal, variable, current, array_literal, object_literal, access}
use Rattle.aql_tree.specs.Tree.{function_call, unary_of, chain, array_comparison, ternary, range_of, subquery}
use Rattle.aql_tree.specs.Tree.{ExprTrees, no_exprs, expr_then, MaybeExpr, no_expr, one_expr}
use Rattle.aql_tree.specs.Tree.{MemberTrees, no_members, named_then, computed_then}
use Rattle.aql_tree.specs.Tree.{StepTrees, no_steps, name_then, at_then, inline_then}
use Rattle.aql_tree.specs.Tree.{LinkTrees, no_links, link_then}
use Rattle.aql_rewrite.specs.Children.{list_children, member_children, step_children, link_children, children}
use Rattle.aql_rewrite.specs.OverChildren.{first_or, after_first, over_list, over_maybe, after_maybe}
use Rattle.aql_rewrite.specs.OverChildren.{over_members, over_steps, over_links, over_children}

-- ---- its own parts

pub list_own : (es : ExprTrees) → over_list es (list_children es) ≡ es
list_own no_exprs = refl
list_own (expr_then e es) = ap (expr_then e) (list_own es)

members_own : (ms : MemberTrees) → over_members ms (member_children ms) ≡ ms
members_own no_members = refl
members_own (named_then name e ms) = ap (named_then name e) (members_own ms)
members_own (computed_then n e ms) = ap (computed_then n e) (members_own ms)

steps_own : (ss : StepTrees) → over_steps ss (step_children ss) ≡ ss
steps_own no_steps = refl
steps_own (name_then name ss) = ap (name_then name) (steps_own ss)
steps_own (at_then e ss) = ap (at_then e) (steps_own ss)
steps_own (inline_then no_expr no_expr ss) = ap (inline_then no_expr no_expr) (steps_own ss)
steps_own (inline_then no_expr (one_expr g) ss) = ap (inline_then no_expr (one_expr g)) (steps_own ss)
steps_own (inline_then (one_expr f) no_expr ss) = ap (inline_then (one_expr f) no_expr) (steps_own ss)
steps_own (inline_then (one_expr f) (one_expr g) ss) =
    ap (inline_then (one_expr f) (one_expr g)) (steps_own ss)

links_own : (ls : LinkTrees) → over_links ls (link_children ls) ≡ ls
links_own no_links = refl
links_own (link_then op e ls) = ap (link_then op e) (links_own ls)

ternary_own : (test : ExprTree) (middle : MaybeExpr) (other : ExprTree)
    → over_children (ternary test middle other) (children (ternary test middle other))
    ≡ ternary test middle other
ternary_own test no_expr other = refl
ternary_own test (one_expr e) other = refl

pub parts_own : (e : ExprTree) → over_children e (children e) ≡ e
parts_own (literal v) = refl
parts_own (variable x) = refl
parts_own current = refl
parts_own (array_literal es) = ap array_literal (list_own es)
parts_own (object_literal ms) = ap object_literal (members_own ms)
parts_own (access e ss) = ap (access e) (steps_own ss)
parts_own (function_call name es) = ap (function_call name) (list_own es)
parts_own (unary_of op e) = refl
parts_own (chain e ls) = ap (chain e) (links_own ls)
parts_own (array_comparison a kind op b) = refl
parts_own (ternary test middle other) = ternary_own test middle other
parts_own (range_of a b) = refl
parts_own (subquery q) = refl

-- ---- other parts twice: the later ones count, and where these run out the earlier ones

abbrev pub longer : List ExprTree → List ExprTree → List ExprTree
longer [] ms = ms
longer (p ∷ ps) ms = p ∷ longer ps (after_first ms)

pub first_again : (e : ExprTree) (ms ps : List ExprTree)
    → first_or (first_or e ms) ps ≡ first_or e (longer ps ms)
first_again e ms [] = refl
first_again e ms (p ∷ ps) = refl

pub rest_again : (ms ps : List ExprTree)
    → longer (after_first ps) (after_first ms) ≡ after_first (longer ps ms)
rest_again ms [] = refl
rest_again ms (p ∷ ps) = refl

pub maybe_again : (e : MaybeExpr) (ms ps : List ExprTree)
    → (over_maybe (over_maybe e ms) ps ≡ over_maybe e (longer ps ms))
    × (after_maybe (over_maybe e ms) ps ≡ after_maybe e ps)
    × (longer (after_maybe e ps) (after_maybe e ms) ≡ after_maybe e (longer ps ms))
maybe_again no_expr ms ps = (refl, refl, refl)
maybe_again (one_expr e) ms ps = (ap one_expr (first_again e ms ps), refl, rest_again ms ps)

list_again : (es : ExprTrees) (ms ps : List ExprTree)
    → over_list (over_list es ms) ps ≡ over_list es (longer ps ms)
list_again no_exprs ms ps = refl
list_again (expr_then e es) ms ps =
    ap₂ expr_then (first_again e ms ps)
    (list_again es (after_first ms) (after_first ps) ∙ ap (over_list es) (rest_again ms ps))

members_again : (ns : MemberTrees) (ms ps : List ExprTree)
    → over_members (over_members ns ms) ps ≡ over_members ns (longer ps ms)
members_again no_members ms ps = refl
members_again (named_then name e ns) ms ps =
    ap₂ (named_then name) (first_again e ms ps)
    (members_again ns (after_first ms) (after_first ps) ∙ ap (over_members ns) (rest_again ms ps))
members_again (computed_then n e ns) ms ps =
    let k = rest_again ms ps in
    let l = rest_again (after_first ms) (after_first ps) ∙ ap after_first k in
    ap₂ (λ d m. computed_then d (first_or (first_or e (after_first ms)) (after_first ps)) m)
    (first_again n ms ps)
    (members_again ns (after_first (after_first ms)) (after_first (after_first ps)) ∙ ap (over_members ns) l)
    ∙ ap (λ d. computed_then (first_or n (longer ps ms)) d
    (over_members ns (after_first (after_first (longer ps ms)))))
    (first_again e (after_first ms) (after_first ps) ∙ ap (first_or e) k)

steps_again : (ss : StepTrees) (ms ps : List ExprTree)
    → over_steps (over_steps ss ms) ps ≡ over_steps ss (longer ps ms)
steps_again no_steps ms ps = refl
steps_again (name_then name ss) ms ps = ap (name_then name) (steps_again ss ms ps)
steps_again (at_then e ss) ms ps =
    ap₂ at_then (first_again e ms ps)
    (steps_again ss (after_first ms) (after_first ps) ∙ ap (over_steps ss) (rest_again ms ps))
steps_again (inline_then filter gives ss) ms ps =
    let f = maybe_again filter ms ps in
    let g = maybe_again gives (after_maybe filter ms) (after_maybe filter ps) in
    let s = steps_again ss (after_maybe gives (after_maybe filter ms))
    (after_maybe gives (after_maybe filter ps)) in
    rw (f.0, f.1, g.0, g.1, s, g.2, f.2)

links_again : (ls : LinkTrees) (ms ps : List ExprTree)
    → over_links (over_links ls ms) ps ≡ over_links ls (longer ps ms)
links_again no_links ms ps = refl
links_again (link_then op e ls) ms ps =
    ap₂ (link_then op) (first_again e ms ps)
    (links_again ls (after_first ms) (after_first ps) ∙ ap (over_links ls) (rest_again ms ps))

ternary_again : (test : ExprTree) (middle : MaybeExpr) (other : ExprTree) (ms ps : List ExprTree)
    → over_children (over_children (ternary test middle other) ms) ps
    ≡ over_children (ternary test middle other) (longer ps ms)
ternary_again test middle other ms ps =
    let r = rest_again ms ps in
    let m = maybe_again middle (after_first ms) (after_first ps) in
    let o = first_again other (after_maybe middle (after_first ms)) (after_maybe middle (after_first ps)) in
    rw (first_again test ms ps, m.0, m.1, o, m.2, r)

pub parts_again : (e : ExprTree) (ms ps : List ExprTree)
    → over_children (over_children e ms) ps ≡ over_children e (longer ps ms)
parts_again (literal v) ms ps = refl
parts_again (variable x) ms ps = refl
parts_again current ms ps = refl
parts_again (array_literal es) ms ps = ap array_literal (list_again es ms ps)
parts_again (object_literal ns) ms ps = ap object_literal (members_again ns ms ps)
parts_again (access e ss) ms ps =
    ap₂ access (first_again e ms ps)
    (steps_again ss (after_first ms) (after_first ps) ∙ ap (over_steps ss) (rest_again ms ps))
parts_again (function_call name es) ms ps = ap (function_call name) (list_again es ms ps)
parts_again (unary_of op e) ms ps = ap (unary_of op) (first_again e ms ps)
parts_again (chain e ls) ms ps =
    ap₂ chain (first_again e ms ps)
    (links_again ls (after_first ms) (after_first ps) ∙ ap (over_links ls) (rest_again ms ps))
parts_again (array_comparison a kind op b) ms ps =
    ap₂ (λ c d. array_comparison c kind op d) (first_again a ms ps)
    (first_again b (after_first ms) (after_first ps) ∙ ap (first_or b) (rest_again ms ps))
parts_again (ternary test middle other) ms ps = ternary_again test middle other ms ps
parts_again (range_of a b) ms ps =
    ap₂ range_of (first_again a ms ps)
    (first_again b (after_first ms) (after_first ps) ∙ ap (first_or b) (rest_again ms ps))
parts_again (subquery q) ms ps = refl
