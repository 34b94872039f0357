-- A constant expression holds no subquery, uses no variable and has one value.
use Rattle.std.proofs.Common.{◌≡◌, ◌∙◌, List, [], ◌∷◌, ◌++◌, map, true, false, true≢false, cond, refl, ap}
use Rattle.std.proofs.Common.{ap₂}
use Rattle.std.specs.List.{AllByRecursion}
use Rattle.aql_value.specs.Datum.{Datum, boolean}
use Rattle.aql_value.specs.Contents.{list, elements, at_name, at_value}
use Rattle.aql_value.specs.Convert.{to_number, to_text}
use Rattle.aql_value.specs.Truth.{truth}
use Rattle.aql_func.specs.Operators.{binary, unary, range}
use Rattle.aql_func.specs.Named.{call_named}
use Rattle.aql_tree.specs.declared.syntax.Ident.{Ident}
use Rattle.aql_tree.specs.Tree.{ExprTree, literal, variable, current, array_literal, object_literal, access}
use Rattle.aql_tree.specs.Tree.{function_call, unary_of, chain, array_comparison, ternary, range_of, subquery}
use Rattle.aql_tree.specs.Tree.{ExprTrees, no_exprs, expr_then, MaybeExpr, no_expr, one_expr}
use Rattle.aql_tree.specs.Tree.{MemberTrees, no_members, named_then, computed_then}
use Rattle.aql_tree.specs.Tree.{StepTrees, no_steps, name_then, at_then, inline_then}
use Rattle.aql_tree.specs.Tree.{LinkTrees, no_links, link_then}
use Rattle.aql_meaning.specs.Row.{Row}
use Rattle.aql_meaning.specs.Expressions.{quantify, object_value}
use Rattle.aql_meaning.specs.Clauses.{filter_true}
use Rattle.aql_meaning.specs.Plain.{IsPlain}
use Rattle.aql_meaning.specs.Value.{value, values, value_or, members, steps_value, links_value}
use Rattle.aql_meaning.specs.laws.Agrees.{map_same}
use Rattle.aql_rewrite.specs.Children.{list_children, maybe_children, member_children, step_children, link_children, children}
use Rattle.aql_rewrite.specs.Constant.{is_open, IsConstant, constant, AreConstant, no_more}
use Rattle.aql_rewrite.specs.Constant.{constant_then, HasOneValue}
use Rattle.aql_rewrite.specs.Keeps.{variables}
use Rattle.aql_rewrite.specs.laws.PlainParts.{EachPlain, is_subquery, plain_whole}
use Rattle.aql_rewrite.specs.laws.Own.{own_variables}
use Rattle.aql_rewrite.specs.laws.PartVariables.{all_variables, variables_split}

closed : (e : ExprTree) → is_open e ≡ false → (is_subquery e ≡ false) × (own_variables e ≡ [])
closed (literal v) h = (refl, refl)
closed (variable x) h = absurd (true≢false h)
closed current h = absurd (true≢false h)
closed (array_literal es) h = (refl, refl)
closed (object_literal ms) h = (refl, refl)
closed (access e ss) h = (refl, refl)
closed (function_call name es) h = (refl, refl)
closed (unary_of op e) h = (refl, refl)
closed (chain e ls) h = (refl, refl)
closed (array_comparison a kind op b) h = (refl, refl)
closed (ternary test middle other) h = (refl, refl)
closed (range_of a b) h = (refl, refl)
closed (subquery q) h = absurd (true≢false h)

mutual
  pub constant_plain : {e : ExprTree} → IsConstant e → IsPlain e
  constant_plain (constant {e = e} f h) = plain_whole e (closed e f).0 (constants_plain h)

  constants_plain : {es : List ExprTree} → AreConstant es → EachPlain es
  constants_plain no_more = tt
  constants_plain (constant_then h k) = (constant_plain h, constants_plain k)

mutual
  pub constant_variables : {e : ExprTree} → IsConstant e → variables e ≡ []
  constant_variables (constant {e = e} f h) =
      variables_split e ∙ ap₂ (λ (xs ys : List Ident). xs ++ ys) (closed e f).1 (constants_variables h)

  constants_variables : {es : List ExprTree} → AreConstant es → all_variables es ≡ []
  constants_variables no_more = refl
  constants_variables (constant_then h k) =
      ap₂ (λ (xs ys : List Ident). xs ++ ys) (constant_variables h) (constants_variables k)

-- ---- one value, if each part has one

abbrev pub EachOne : List ExprTree → Type 0
EachOne = AllByRecursion HasOneValue

-- two values of CURRENT, and two rows
module _ (cur other : Datum) (row start : Row) where
  one_of_list : (es : ExprTrees) → EachOne (list_children es) → values es cur row ≡ values es other start
  one_of_list no_exprs h = refl
  one_of_list (expr_then e es) h = ap₂ (λ v vs. v ∷ vs) (h.0 cur other row start) (one_of_list es h.1)

  one_of_members : (ms : MemberTrees) → EachOne (member_children ms)
      → members ms cur row ≡ members ms other start
  one_of_members no_members h = refl
  one_of_members (named_then name e ms) h =
      ap₂ (λ v vs. (name, v) ∷ vs) (h.0 cur other row start) (one_of_members ms h.1)
  one_of_members (computed_then n e ms) h = ap₂ (λ m ms. m ∷ ms)
      (ap₂ (λ a b. (to_text a, b)) (h.0 cur other row start) (h.1.0 cur other row start))
      (one_of_members ms h.1.1)

  one_of_links : (ls : LinkTrees) → EachOne (link_children ls) → (a : Datum)
      → links_value ls cur row a ≡ links_value ls other start a
  one_of_links no_links h a = refl
  one_of_links (link_then op e ls) h a =
      ap (λ b. links_value ls cur row (binary op a b)) (h.0 cur other row start)
      ∙ one_of_links ls h.1 (binary op a (value e other start))

rest_of_maybe : (e : MaybeExpr) (es : List ExprTree) → EachOne (maybe_children e ++ es) → EachOne es
rest_of_maybe no_expr es h = h
rest_of_maybe (one_expr e) es h = h.1

one_of_maybe : (e : MaybeExpr) (es : List ExprTree) → EachOne (maybe_children e ++ es)
    → (cur other : Datum) (row start : Row) (d : Datum) → value_or e cur row d ≡ value_or e other start d
one_of_maybe no_expr es h cur other row start d = refl
one_of_maybe (one_expr e) es h cur other row start d = h.0 cur other row start

one_of_steps : (ss : StepTrees) → EachOne (step_children ss)
    → (cur other : Datum) (row start : Row) (d : Datum)
    → steps_value ss cur row d ≡ steps_value ss other start d
one_of_steps no_steps h cur other row start d = refl
one_of_steps (name_then name ss) h cur other row start d =
    one_of_steps ss h cur other row start (at_name d name)
one_of_steps (at_then e ss) h cur other row start d =
    ap (λ i. steps_value ss cur row (at_value d i)) (h.0 cur other row start)
    ∙ one_of_steps ss h.1 cur other row start (at_value d (value e other start))
one_of_steps (inline_then filter gives ss) h cur other row start d =
    let k = rest_of_maybe filter (maybe_children gives ++ step_children ss) h in
    let l = rest_of_maybe gives (step_children ss) k in
    ap list (
    ap (λ ts. map (λ w. steps_value ss cur row w) (map (λ c. value_or gives c row c)
    (filter_true (elements d) ts)))
    (map_same (λ c. value_or filter c row (boolean true)) (λ c. value_or filter c start (boolean true))
    (λ c. one_of_maybe filter (maybe_children gives ++ step_children ss) h c c row start (boolean true))
    (elements d))
    ∙ ap (map (λ w. steps_value ss cur row w))
    (map_same (λ c. value_or gives c row c) (λ c. value_or gives c start c)
    (λ c. one_of_maybe gives (step_children ss) k c c row start c) _)
    ∙ map_same (λ w. steps_value ss cur row w) (λ w. steps_value ss other start w)
    (λ w. one_of_steps ss l cur other row start w) _)

one_of_parts : (e : ExprTree) → is_open e ≡ false → EachOne (children e) → HasOneValue e
one_of_parts (literal v) f h cur other row start = refl
one_of_parts (variable x) f h cur other row start = absurd (true≢false f)
one_of_parts current f h cur other row start = absurd (true≢false f)
one_of_parts (array_literal es) f h cur other row start = ap list (one_of_list cur other row start es h)
one_of_parts (object_literal ms) f h cur other row start =
    ap object_value (one_of_members cur other row start ms h)
one_of_parts (access e ss) f h cur other row start =
    ap (steps_value ss cur row) (h.0 cur other row start)
    ∙ one_of_steps ss h.1 cur other row start (value e other start)
one_of_parts (function_call name es) f h cur other row start =
    ap (call_named name) (one_of_list cur other row start es h)
one_of_parts (unary_of op e) f h cur other row start = ap (unary op) (h.0 cur other row start)
one_of_parts (chain e ls) f h cur other row start =
    ap (links_value ls cur row) (h.0 cur other row start)
    ∙ one_of_links cur other row start ls h.1 (value e other start)
one_of_parts (array_comparison a kind op b) f h cur other row start =
    ap₂ (quantify kind op) (h.0 cur other row start) (h.1.0 cur other row start)
one_of_parts (ternary test middle last) f h cur other row start =
    ap (λ a. cond (truth a) (value_or middle cur row a) (value last cur row)) (h.0 cur other row start)
    ∙ ap₂ (λ a b. cond (truth (value test other start)) a b)
    (one_of_maybe middle (last ∷ []) h.1 cur other row start (value test other start))
    ((rest_of_maybe middle (last ∷ []) h.1).0 cur other row start)
one_of_parts (range_of a b) f h cur other row start =
    ap₂ (λ u v. range (to_number u) (to_number v)) (h.0 cur other row start) (h.1.0 cur other row start)
one_of_parts (subquery q) f h cur other row start = absurd (true≢false f)

mutual
  pub constant_value : {e : ExprTree} → IsConstant e → HasOneValue e
  constant_value (constant {e = e} f h) = one_of_parts e f (constants_value h)

  constants_value : {es : List ExprTree} → AreConstant es → EachOne es
  constants_value no_more = tt
  constants_value (constant_then h k) = (constant_value h, constants_value k)
