-- An expression over parts of the same values has the same value.
use Rattle.std.proofs.Common.{◌≡◌, ◌∙◌, List, [], ◌∷◌, ◌++◌, map, true, cond, refl, ap, ap₂}
use Rattle.std.specs.List.{AllZip}
use Rattle.aql_value.specs.Datum.{Datum, boolean}
use Rattle.aql_value.specs.Contents.{list, elements, at_name, at_value}
use Rattle.aql_value.specs.Convert.{to_number, to_text}
use Rattle.aql_value.specs.Truth.{truth}
use Rattle.aql_func.specs.Operators.{binary, unary, range}
use Rattle.aql_func.specs.Named.{call_named}
use Rattle.aql_tree.specs.Tree.{ExprTree, literal, variable, current, array_literal, object_literal, access}
use Rattle.aql_tree.specs.Tree.{function_call, unary_of, chain, array_comparison, ternary, range_of, subquery}
use Rattle.aql_tree.specs.Tree.{ExprTrees, no_exprs, expr_then, MaybeExpr, no_expr, one_expr}
use Rattle.aql_tree.specs.Tree.{MemberTrees, no_members, named_then, computed_then}
use Rattle.aql_tree.specs.Tree.{StepTrees, no_steps, name_then, at_then, inline_then}
use Rattle.aql_tree.specs.Tree.{LinkTrees, no_links, link_then}
use Rattle.aql_meaning.specs.Row.{Row}
use Rattle.aql_meaning.specs.Expressions.{quantify, object_value}
use Rattle.aql_meaning.specs.Clauses.{filter_true}
use Rattle.aql_meaning.specs.Value.{value, values, value_or, members, steps_value, links_value}
use Rattle.aql_meaning.specs.laws.Agrees.{map_same}
use Rattle.aql_rewrite.specs.Children.{list_children, maybe_children, member_children, step_children, link_children, children}
use Rattle.aql_rewrite.specs.OverChildren.{first_or, after_first, over_list, over_maybe, after_maybe}
use Rattle.aql_rewrite.specs.OverChildren.{over_members, over_steps, over_links, over_children}
use Rattle.aql_rewrite.specs.Keeps.{SameValue}
use Rattle.aql_rewrite.specs.laws.Related.{first_related, rest_related, after_maybe_related}

abbrev pub AllSame : List ExprTree → List ExprTree → Type 0
AllSame = AllZip SameValue

pub first_same : (e : ExprTree) (es ps : List ExprTree) → AllSame (e ∷ es) ps → SameValue e (first_or e ps)
first_same = first_related SameValue

pub rest_same : (e : ExprTree) (es ps : List ExprTree) → AllSame (e ∷ es) ps → AllSame es (after_first ps)
rest_same = rest_related SameValue

pub after_maybe_same : (e : MaybeExpr) (es ps : List ExprTree) → AllSame (maybe_children e ++ es) ps
    → AllSame es (after_maybe e ps)
after_maybe_same = after_maybe_related SameValue

pub maybe_same : (e : MaybeExpr) (es ps : List ExprTree) → AllSame (maybe_children e ++ es) ps
    → (cur : Datum) (row : Row) (d : Datum) → value_or (over_maybe e ps) cur row d ≡ value_or e cur row d
maybe_same no_expr es ps h cur row d = refl
maybe_same (one_expr e) es ps h cur row d = first_same e es ps h cur row

pub list_same : (es : ExprTrees) (ps : List ExprTree) → AllSame (list_children es) ps
    → (cur : Datum) (row : Row)
    → values (over_list es ps) cur row ≡ values es cur row
list_same no_exprs ps h cur row = refl
list_same (expr_then e es) ps h cur row = ap₂ (λ v vs. v ∷ vs) (first_same e (list_children es) ps h cur row)
    (list_same es (after_first ps) (rest_same e (list_children es) ps h) cur row)

members_same : (ms : MemberTrees) (ps : List ExprTree) → AllSame (member_children ms) ps
    → (cur : Datum) (row : Row)
    → members (over_members ms ps) cur row ≡ members ms cur row
members_same no_members ps h cur row = refl
members_same (named_then name e ms) ps h cur row = ap₂ (λ v vs. (name, v) ∷ vs)
    (first_same e (member_children ms) ps h cur row)
    (members_same ms (after_first ps) (rest_same e (member_children ms) ps h) cur row)
members_same (computed_then n e ms) ps h cur row =
    let k = rest_same n (e ∷ member_children ms) ps h in
    ap₂ (λ m ms. m ∷ ms) (ap₂ (λ a b. (to_text a, b)) (first_same n (e ∷ member_children ms) ps h cur row)
    (first_same e (member_children ms) (after_first ps) k cur row))
    (members_same ms (after_first (after_first ps)) (rest_same e (member_children ms) (after_first ps) k)
    cur row)

steps_same : (ss : StepTrees) (ps : List ExprTree) → AllSame (step_children ss) ps
    → (cur : Datum) (row : Row) (d : Datum)
    → steps_value (over_steps ss ps) cur row d ≡ steps_value ss cur row d
steps_same no_steps ps h cur row d = refl
steps_same (name_then name ss) ps h cur row d = steps_same ss ps h cur row (at_name d name)
steps_same (at_then e ss) ps h cur row d =
    ap (λ i. steps_value (over_steps ss (after_first ps)) cur row (at_value d i))
    (first_same e (step_children ss) ps h cur row)
    ∙ steps_same ss (after_first ps) (rest_same e (step_children ss) ps h) cur row
    (at_value d (value e cur row))
steps_same (inline_then filter gives ss) ps h cur row d =
    let qs = after_maybe filter ps in
    let rs = after_maybe gives qs in
    let k = after_maybe_same filter (maybe_children gives ++ step_children ss) ps h in
    let l = after_maybe_same gives (step_children ss) qs k in
    ap list (
    ap (λ ts. map (λ w. steps_value (over_steps ss rs) cur row w)
    (map (λ c. value_or (over_maybe gives qs) c row c) (filter_true (elements d) ts)))
    (map_same (λ c. value_or (over_maybe filter ps) c row (boolean true))
    (λ c. value_or filter c row (boolean true))
    (λ c. maybe_same filter (maybe_children gives ++ step_children ss) ps h c row (boolean true))
    (elements d))
    ∙ ap (map (λ w. steps_value (over_steps ss rs) cur row w))
    (map_same (λ c. value_or (over_maybe gives qs) c row c) (λ c. value_or gives c row c)
    (λ c. maybe_same gives (step_children ss) qs k c row c) _)
    ∙ map_same (λ w. steps_value (over_steps ss rs) cur row w) (λ w. steps_value ss cur row w)
    (λ w. steps_same ss rs l cur row w) _)

links_same : (ls : LinkTrees) (ps : List ExprTree) → AllSame (link_children ls) ps
    → (cur : Datum) (row : Row) (a : Datum)
    → links_value (over_links ls ps) cur row a ≡ links_value ls cur row a
links_same no_links ps h cur row a = refl
links_same (link_then op e ls) ps h cur row a =
    ap (λ b. links_value (over_links ls (after_first ps)) cur row (binary op a b))
    (first_same e (link_children ls) ps h cur row)
    ∙ links_same ls (after_first ps) (rest_same e (link_children ls) ps h) cur row
    (binary op a (value e cur row))

pub parts_same : (e : ExprTree) (ps : List ExprTree) → AllSame (children e) ps
    → SameValue e (over_children e ps)
parts_same (literal v) ps h cur row = refl
parts_same (variable x) ps h cur row = refl
parts_same current ps h cur row = refl
parts_same (array_literal es) ps h cur row = ap list (list_same es ps h cur row)
parts_same (object_literal ms) ps h cur row = ap object_value (members_same ms ps h cur row)
parts_same (access e ss) ps h cur row =
    ap (steps_value (over_steps ss (after_first ps)) cur row) (first_same e (step_children ss) ps h cur row)
    ∙ steps_same ss (after_first ps) (rest_same e (step_children ss) ps h) cur row (value e cur row)
parts_same (function_call name es) ps h cur row = ap (call_named name) (list_same es ps h cur row)
parts_same (unary_of op e) ps h cur row = ap (unary op) (first_same e [] ps h cur row)
parts_same (chain e ls) ps h cur row =
    ap (links_value (over_links ls (after_first ps)) cur row) (first_same e (link_children ls) ps h cur row)
    ∙ links_same ls (after_first ps) (rest_same e (link_children ls) ps h) cur row (value e cur row)
parts_same (array_comparison a kind op b) ps h cur row =
    ap₂ (quantify kind op) (first_same a (b ∷ []) ps h cur row)
    (first_same b [] (after_first ps) (rest_same a (b ∷ []) ps h) cur row)
parts_same (ternary test middle other) ps h cur row =
    let k = rest_same test (maybe_children middle ++ other ∷ []) ps h in
    let l = after_maybe_same middle (other ∷ []) (after_first ps) k in
    ap (λ a. cond (truth a) (value_or (over_maybe middle (after_first ps)) cur row a)
    (value (first_or other (after_maybe middle (after_first ps))) cur row))
    (first_same test (maybe_children middle ++ other ∷ []) ps h cur row)
    ∙ ap₂ (λ a b. cond (truth (value test cur row)) a b)
    (maybe_same middle (other ∷ []) (after_first ps) k cur row (value test cur row))
    (first_same other [] (after_maybe middle (after_first ps)) l cur row)
parts_same (range_of a b) ps h cur row =
    ap₂ (λ u v. range (to_number u) (to_number v)) (first_same a (b ∷ []) ps h cur row)
    (first_same b [] (after_first ps) (rest_same a (b ∷ []) ps h) cur row)
parts_same (subquery q) ps h cur row = refl
