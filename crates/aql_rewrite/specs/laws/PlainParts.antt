-- An expression holds no subquery exactly where it is none and none of its parts holds one.
use Rattle.std.proofs.Common.{◌≡◌, List, [], ◌∷◌, ◌++◌, Bool, true, false, true≢false, refl}
use Rattle.std.specs.List.{AllByRecursion}
use Rattle.aql_tree.specs.Tree.{ExprTree, literal, variable, current, array_literal, object_literal, access}
use Rattle.aql_tree.specs.Tree.{function_call, unary_of, chain, array_comparison, ternary, range_of, subquery}
use Rattle.aql_tree.specs.Tree.{ExprTrees, no_exprs, expr_then, MaybeExpr, no_expr, one_expr}
use Rattle.aql_tree.specs.Tree.{MemberTrees, no_members, named_then, computed_then}
use Rattle.aql_tree.specs.Tree.{StepTrees, no_steps, name_then, at_then, inline_then}
use Rattle.aql_tree.specs.Tree.{LinkTrees, no_links, link_then}
use Rattle.aql_meaning.specs.Plain.{IsPlain, AllPlain, MaybePlain, MembersPlain, StepsPlain, LinksPlain}
use Rattle.aql_rewrite.specs.Children.{list_children, maybe_children, member_children, step_children, link_children, children}

abbrev pub EachPlain : List ExprTree → Type 0
EachPlain = AllByRecursion IsPlain

abbrev pub is_subquery : ExprTree → Bool
is_subquery (subquery q) = true
is_subquery e = false

-- ---- the parts of a plain expression are plain

plain_list_parts : (es : ExprTrees) → AllPlain es → EachPlain (list_children es)
plain_list_parts no_exprs h = tt
plain_list_parts (expr_then e es) h = (h.0, plain_list_parts es h.1)

plain_maybe_parts : (e : MaybeExpr) (es : List ExprTree) → MaybePlain e → EachPlain es
    → EachPlain (maybe_children e ++ es)
plain_maybe_parts no_expr es h k = k
plain_maybe_parts (one_expr e) es h k = (h, k)

plain_member_parts : (ms : MemberTrees) → MembersPlain ms → EachPlain (member_children ms)
plain_member_parts no_members h = tt
plain_member_parts (named_then name e ms) h = (h.0, plain_member_parts ms h.1)
plain_member_parts (computed_then n e ms) h = (h.0, (h.1, plain_member_parts ms h.2))

plain_step_parts : (ss : StepTrees) → StepsPlain ss → EachPlain (step_children ss)
plain_step_parts no_steps h = tt
plain_step_parts (name_then name ss) h = plain_step_parts ss h
plain_step_parts (at_then e ss) h = (h.0, plain_step_parts ss h.1)
plain_step_parts (inline_then filter gives ss) h =
    plain_maybe_parts filter (maybe_children gives ++ step_children ss) h.0
    (plain_maybe_parts gives (step_children ss) h.1 (plain_step_parts ss h.2))

plain_link_parts : (ls : LinkTrees) → LinksPlain ls → EachPlain (link_children ls)
plain_link_parts no_links h = tt
plain_link_parts (link_then op e ls) h = (h.0, plain_link_parts ls h.1)

pub plain_parts : (e : ExprTree) → IsPlain e → EachPlain (children e)
plain_parts (literal v) h = tt
plain_parts (variable x) h = tt
plain_parts current h = tt
plain_parts (array_literal es) h = plain_list_parts es h
plain_parts (object_literal ms) h = plain_member_parts ms h
plain_parts (access e ss) h = (h.0, plain_step_parts ss h.1)
plain_parts (function_call name es) h = plain_list_parts es h
plain_parts (unary_of op e) h = (h, tt)
plain_parts (chain e ls) h = (h.0, plain_link_parts ls h.1)
plain_parts (array_comparison a kind op b) h = (h.0, (h.1, tt))
plain_parts (ternary test middle other) h = (h.0, plain_maybe_parts middle (other ∷ []) h.1 (h.2, tt))
plain_parts (range_of a b) h = (h.0, (h.1, tt))
plain_parts (subquery q) h = absurd h

-- ---- and back

plain_list : (es : ExprTrees) → EachPlain (list_children es) → AllPlain es
plain_list no_exprs h = tt
plain_list (expr_then e es) h = (h.0, plain_list es h.1)

plain_maybe : (e : MaybeExpr) (es : List ExprTree) → EachPlain (maybe_children e ++ es)
    → MaybePlain e × EachPlain es
plain_maybe no_expr es h = (tt, h)
plain_maybe (one_expr e) es h = (h.0, h.1)

plain_members : (ms : MemberTrees) → EachPlain (member_children ms) → MembersPlain ms
plain_members no_members h = tt
plain_members (named_then name e ms) h = (h.0, plain_members ms h.1)
plain_members (computed_then n e ms) h = (h.0, h.1.0, plain_members ms h.1.1)

plain_steps : (ss : StepTrees) → EachPlain (step_children ss) → StepsPlain ss
plain_steps no_steps h = tt
plain_steps (name_then name ss) h = plain_steps ss h
plain_steps (at_then e ss) h = (h.0, plain_steps ss h.1)
plain_steps (inline_then filter gives ss) h =
    let k = plain_maybe filter (maybe_children gives ++ step_children ss) h in
    let l = plain_maybe gives (step_children ss) k.1 in
    (k.0, l.0, plain_steps ss l.1)

plain_links : (ls : LinkTrees) → EachPlain (link_children ls) → LinksPlain ls
plain_links no_links h = tt
plain_links (link_then op e ls) h = (h.0, plain_links ls h.1)

pub plain_whole : (e : ExprTree) → is_subquery e ≡ false → EachPlain (children e) → IsPlain e
plain_whole (literal v) f h = tt
plain_whole (variable x) f h = tt
plain_whole current f h = tt
plain_whole (array_literal es) f h = plain_list es h
plain_whole (object_literal ms) f h = plain_members ms h
plain_whole (access e ss) f h = (h.0, plain_steps ss h.1)
plain_whole (function_call name es) f h = plain_list es h
plain_whole (unary_of op e) f h = h.0
plain_whole (chain e ls) f h = (h.0, plain_links ls h.1)
plain_whole (array_comparison a kind op b) f h = (h.0, h.1.0)
plain_whole (ternary test middle other) f h =
    let k = plain_maybe middle (other ∷ []) h.1 in
    (h.0, k.0, k.1.0)
plain_whole (range_of a b) f h = (h.0, h.1.0)
plain_whole (subquery q) f h = absurd (true≢false f)

pub not_subquery : (e : ExprTree) → IsPlain e → is_subquery e ≡ false
not_subquery (literal v) h = refl
not_subquery (variable x) h = refl
not_subquery current h = refl
not_subquery (array_literal es) h = refl
not_subquery (object_literal ms) h = refl
not_subquery (access e ss) h = refl
not_subquery (function_call name es) h = refl
not_subquery (unary_of op e) h = refl
not_subquery (chain e ls) h = refl
not_subquery (array_comparison a kind op b) h = refl
not_subquery (ternary test middle other) h = refl
not_subquery (range_of a b) h = refl
not_subquery (subquery q) h = absurd h
