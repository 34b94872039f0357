-- A variable x that becomes another, y, in all nodes above: where it is so in their input's rows that y has
-- the value of x, their rows are those of the nodes as they were.
use Rattle.std.proofs.Common.{◌≡◌, ◌∙◌, [], ◌∷◌, map, Bool, true, false, cond, refl, ap, ap₂, sym, subst}
use Rattle.std.specs.Prelude.{Some, None, unwrap_or}
use Rattle.aql_value.specs.Datum.{Datum, null, boolean}
use Rattle.aql_value.specs.Contents.{list, elements, at_name, at_value}
use Rattle.aql_value.specs.Convert.{to_number, to_text}
use Rattle.aql_value.specs.Truth.{truth}
use Rattle.aql_func.specs.Operators.{binary, unary, range}
use Rattle.aql_func.specs.Named.{call_named}
use Rattle.aql_tree.specs.declared.syntax.Ident.{Ident}
use Rattle.aql_tree.specs.Tree.{ExprTree, literal, variable, current, array_literal, object_literal, access, function_call, unary_of, chain, array_comparison, ternary, range_of, subquery, ExprTrees, no_exprs, expr_then, MaybeExpr, no_expr, one_expr, MemberTrees, no_members, named_then, computed_then, StepTrees, no_steps, name_then, at_then, inline_then, LinkTrees, no_links, link_then}
use Rattle.aql_meaning.specs.Row.{Row, empty_row, bind, value_at, same_ident}
use Rattle.aql_meaning.specs.Expressions.{quantify, object_value}
use Rattle.aql_meaning.specs.Clauses.{filter_true}
use Rattle.aql_meaning.specs.Value.{value, values, value_or, members, steps_value, links_value}
use Rattle.aql_meaning.specs.Substitution.{put, put_all, put_maybe, put_members, put_steps, put_links}
use Rattle.aql_meaning.specs.Uses.{Use, Whole, Attribute, Uses, AgreeAt, Agree}
use Rattle.aql_meaning.specs.laws.Agrees.{agree_split, map_same, value_same}
use Rattle.aql_meaning.specs.laws.Rows.{binds_swap}
use Rattle.aql_plan.specs.Renaming.{IsOther, renamed}
use Rattle.aql_meaning.specs.laws.Idents.{same_is, same_swapped}
use Rattle.aql_plan_laws.specs.laws.Carried.{Carries}
use Rattle.aql_plan_laws.specs.laws.Agreement.{agree_join, agree_bind}

module _ (x y : Ident) where
  at_renamed : (b : Bool) (cur : Datum) (row : Row) (z : Ident)
      → value (cond b (variable y) (variable z)) cur row
      ≡ unwrap_or (cond b (Some (value_at row y)) (row z)) null
  at_renamed true cur row z = refl
  at_renamed false cur row z = refl

  mutual
    pub value_renamed : (e : ExprTree) (cur : Datum) (r : Row)
        → value (put x (variable y) e) cur r ≡ value e cur (renamed x y r)
    value_renamed (literal v) cur r = refl
    value_renamed (variable z) cur r = at_renamed (same_ident x z) cur r z
    value_renamed current cur r = refl
    value_renamed (array_literal es) cur r = ap list (values_renamed es cur r)
    value_renamed (object_literal ms) cur r = ap object_value (members_renamed ms cur r)
    value_renamed (access e ss) cur r =
        ap (steps_value (put_steps x (variable y) ss) cur r) (value_renamed e cur r)
        ∙ steps_renamed ss cur r (value e cur (renamed x y r))
    value_renamed (function_call name es) cur r = ap (call_named name) (values_renamed es cur r)
    value_renamed (unary_of op e) cur r = ap (unary op) (value_renamed e cur r)
    value_renamed (chain e ls) cur r =
        ap (links_value (put_links x (variable y) ls) cur r) (value_renamed e cur r)
        ∙ links_renamed ls cur r (value e cur (renamed x y r))
    value_renamed (array_comparison a kind op b) cur r =
        ap₂ (quantify kind op) (value_renamed a cur r) (value_renamed b cur r)
    value_renamed (ternary test first other) cur r =
        ap (λ a. cond (truth a) (value_or (put_maybe x (variable y) first) cur r a)
        (value (put x (variable y) other) cur r)) (value_renamed test cur r)
        ∙ ap₂ (λ a b. cond (truth (value test cur (renamed x y r))) a b)
        (or_renamed first cur r (value test cur (renamed x y r))) (value_renamed other cur r)
    value_renamed (range_of a b) cur r =
        ap₂ (λ u v. range (to_number u) (to_number v)) (value_renamed a cur r) (value_renamed b cur r)
    value_renamed (subquery q) cur r = refl

    values_renamed : (es : ExprTrees) (cur : Datum) (r : Row)
        → values (put_all x (variable y) es) cur r ≡ values es cur (renamed x y r)
    values_renamed no_exprs cur r = refl
    values_renamed (expr_then e es) cur r =
        ap₂ (λ v vs. v ∷ vs) (value_renamed e cur r) (values_renamed es cur r)

    or_renamed : (e : MaybeExpr) (cur : Datum) (r : Row) (d : Datum)
        → value_or (put_maybe x (variable y) e) cur r d ≡ value_or e cur (renamed x y r) d
    or_renamed no_expr cur r d = refl
    or_renamed (one_expr e) cur r d = value_renamed e cur r

    members_renamed : (ms : MemberTrees) (cur : Datum) (r : Row)
        → members (put_members x (variable y) ms) cur r ≡ members ms cur (renamed x y r)
    members_renamed no_members cur r = refl
    members_renamed (named_then name e ms) cur r =
        ap₂ (λ v vs. (name, v) ∷ vs) (value_renamed e cur r) (members_renamed ms cur r)
    members_renamed (computed_then n e ms) cur r =
        ap₂ (λ m ms. m ∷ ms) (ap₂ (λ a b. (to_text a, b)) (value_renamed n cur r) (value_renamed e cur r))
        (members_renamed ms cur r)

    steps_renamed : (ss : StepTrees) (cur : Datum) (r : Row) (d : Datum)
        → steps_value (put_steps x (variable y) ss) cur r d ≡ steps_value ss cur (renamed x y r) d
    steps_renamed no_steps cur r d = refl
    steps_renamed (name_then name ss) cur r d = steps_renamed ss cur r (at_name d name)
    steps_renamed (at_then e ss) cur r d =
        ap (λ i. steps_value (put_steps x (variable y) ss) cur r (at_value d i)) (value_renamed e cur r)
        ∙ steps_renamed ss cur r (at_value d (value e cur (renamed x y r)))
    steps_renamed (inline_then filter gives ss) cur r d =
        ap list (
        ap (λ ts. map (λ w. steps_value (put_steps x (variable y) ss) cur r w)
        (map (λ c. value_or (put_maybe x (variable y) gives) c r c) (filter_true (elements d) ts)))
        (map_same (λ c. value_or (put_maybe x (variable y) filter) c r (boolean true))
        (λ c. value_or filter c (renamed x y r) (boolean true))
        (λ c. or_renamed filter c r (boolean true)) (elements d))
        ∙ ap (map (λ w. steps_value (put_steps x (variable y) ss) cur r w))
        (map_same (λ c. value_or (put_maybe x (variable y) gives) c r c)
        (λ c. value_or gives c (renamed x y r) c)
        (λ c. or_renamed gives c r c) _)
        ∙ map_same (λ w. steps_value (put_steps x (variable y) ss) cur r w)
        (λ w. steps_value ss cur (renamed x y r) w)
        (λ w. steps_renamed ss cur r w) _)

    links_renamed : (ls : LinkTrees) (cur : Datum) (r : Row) (a : Datum)
        → links_value (put_links x (variable y) ls) cur r a ≡ links_value ls cur (renamed x y r) a
    links_renamed no_links cur r a = refl
    links_renamed (link_then op e ls) cur r a =
        ap (λ b. links_value (put_links x (variable y) ls) cur r (binary op a b)) (value_renamed e cur r)
        ∙ links_renamed ls cur r (binary op a (value e cur (renamed x y r)))

  abbrev pub Renamed : Uses → Row → Row → Type 0
  Renamed us r s = Agree us (renamed x y r) s

  -- no variable is both x and another one
  apart : (z : Ident) → IsOther x y z → (t : Ident) → same_ident x t ≡ true → same_ident z t ≡ false
  apart z other t h =
      subst (λ (u : Ident). same_ident z u ≡ false) (same_is x t h) (same_swapped x z other.0)

  renamed_bind : (z : Ident) → IsOther x y z → (r : Row) (v : Datum)
      → renamed x y (bind z r v) ≡ bind z (renamed x y r) v
  renamed_bind z other r v =
      ap (λ (b : Bool). bind x (bind z r v) (unwrap_or (cond b (Some v) (r y)) null)) other.1
      ∙ binds_swap x z r (value_at r y) v (apart z other)

  empty_at : (u : Use) → AgreeAt u (renamed x y empty_row) empty_row
  empty_at (Whole z) = by (same_ident x z)
    where
      by : (b : Bool) → unwrap_or (cond b (Some null) None) null ≡ null
      by true = refl
      by false = refl
  empty_at (Attribute z name) = by (same_ident x z)
    where
      by : (b : Bool) → at_name (unwrap_or (cond b (Some null) None) null) name ≡ at_name null name
      by true = refl
      by false = refl

  empty_renamed : (us : Uses) → Agree us (renamed x y empty_row) empty_row
  empty_renamed [] = tt
  empty_renamed (u ∷ us) = (empty_at u, empty_renamed us)

  -- renaming is carried through all nodes that set neither of the two
  pub renaming : Carries (put x (variable y)) (IsOther x y) Renamed
  renaming = record {
    parts = λ us vs r s h. agree_split us vs (renamed x y r) s h;
    join = λ us vs r s h k. agree_join us vs (renamed x y r) s h k;
    binds = λ us z r s v other h.
        subst (λ (q : Row). Agree us q (bind z s v)) (sym (renamed_bind z other r v))
        (agree_bind us z (renamed x y r) s v h);
    gives = λ e r s h. value_renamed e null r ∙ value_same e null (renamed x y r) s h;
    whole = λ z r s other h.
        sym (ap (λ (b : Bool). unwrap_or (cond b (Some (value_at r y)) (r z)) null) other.0) ∙ h.0;
    empty = empty_renamed;
  }
