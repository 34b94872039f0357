-- Rows that agree in what an expression uses give it the same value.
use Rattle.std.proofs.Common.{◌≡◌, ◌∙◌, List, [], ◌∷◌, ◌++◌, map, true, cond, refl, ap, ap₂, sym, subst}
use Rattle.aql_value.specs.Datum.{Datum, boolean}
use Rattle.aql_value.specs.Contents.{list, elements, at_name, at_value}
use Rattle.aql_value.specs.Convert.{to_number, to_text}
use Rattle.aql_value.specs.Database.{Database}
use Rattle.aql_value.specs.Truth.{truth}
use Rattle.aql_func.specs.Operators.{binary, unary, range}
use Rattle.aql_func.specs.Named.{call_named}
use Rattle.aql_tree.specs.Tree.{ExprTree, literal, variable, current, array_literal, object_literal, access, function_call, unary_of, chain, array_comparison, ternary, range_of, subquery, ExprTrees, no_exprs, expr_then, MaybeExpr, no_expr, one_expr, MemberTrees, no_members, named_then, computed_then, StepTrees, no_steps, name_then, at_then, inline_then, LinkTrees, no_links, link_then}
use Rattle.aql_meaning.specs.Row.{Row, value_at}
use Rattle.aql_meaning.specs.Expressions.{quantify, object_value}
use Rattle.aql_meaning.specs.Clauses.{filter_true}
use Rattle.aql_meaning.specs.Value.{value, values, value_or, members, steps_value, links_value}
use Rattle.aql_meaning.specs.Plain.{IsPlain}
use Rattle.aql_meaning.specs.Meaning.{Evaluates}
use Rattle.aql_meaning.specs.laws.OneValue.{has_value, only_value}
use Rattle.aql_meaning.specs.Uses.{Uses, Agree, uses, all_uses, maybe_uses, member_uses, step_uses, link_uses}

pub agree_split : (us vs : Uses) (r s : Row) → Agree (us ++ vs) r s → Agree us r s × Agree vs r s
agree_split [] vs r s h = (tt, h)
agree_split (u ∷ us) vs r s h = let k = agree_split us vs r s h.1 in ((h.0, k.0), k.1)

pub map_same : {A B : Type 0} (f g : A → B) → ((a : A) → f a ≡ g a) → (xs : List A) → map f xs ≡ map g xs
map_same f g h [] = refl
map_same f g h (x ∷ xs) = ap₂ (λ y ys. y ∷ ys) (h x) (map_same f g h xs)

mutual
  pub value_same : (e : ExprTree) (cur : Datum) (r s : Row) → Agree (uses e) r s
      → value e cur r ≡ value e cur s
  value_same (literal v) cur r s h = refl
  value_same (variable x) cur r s h = h.0
  value_same current cur r s h = refl
  value_same (array_literal es) cur r s h = ap list (values_same es cur r s h)
  value_same (object_literal ms) cur r s h = ap object_value (members_same ms cur r s h)
  value_same (access (variable x) (name_then name ss)) cur r s h =
      ap (steps_value ss cur r) h.0 ∙ steps_same ss cur r s (at_name (value_at s x) name) h.1
  value_same (access e ss) cur r s h =
      let k = agree_split (uses e) (step_uses ss) r s h in
      ap (steps_value ss cur r) (value_same e cur r s k.0) ∙ steps_same ss cur r s (value e cur s) k.1
  value_same (function_call name es) cur r s h = ap (call_named name) (values_same es cur r s h)
  value_same (unary_of op e) cur r s h = ap (unary op) (value_same e cur r s h)
  value_same (chain e ls) cur r s h =
      let k = agree_split (uses e) (link_uses ls) r s h in
      ap (links_value ls cur r) (value_same e cur r s k.0) ∙ links_same ls cur r s (value e cur s) k.1
  value_same (array_comparison a kind op b) cur r s h =
      let k = agree_split (uses a) (uses b) r s h in
      ap₂ (quantify kind op) (value_same a cur r s k.0) (value_same b cur r s k.1)
  value_same (ternary t y n) cur r s h =
      let k = agree_split (uses t) (maybe_uses y ++ uses n) r s h in
      let l = agree_split (maybe_uses y) (uses n) r s k.1 in
      ap (λ a. cond (truth a) (value_or y cur r a) (value n cur r)) (value_same t cur r s k.0)
      ∙ ap₂ (λ a b. cond (truth (value t cur s)) a b) (or_same y cur r s (value t cur s) l.0)
      (value_same n cur r s l.1)
  value_same (range_of a b) cur r s h =
      let k = agree_split (uses a) (uses b) r s h in
      ap₂ (λ x y. range (to_number x) (to_number y)) (value_same a cur r s k.0) (value_same b cur r s k.1)
  value_same (subquery q) cur r s h = refl

  pub values_same : (es : ExprTrees) (cur : Datum) (r s : Row) → Agree (all_uses es) r s
      → values es cur r ≡ values es cur s
  values_same no_exprs cur r s h = refl
  values_same (expr_then e es) cur r s h =
      let k = agree_split (uses e) (all_uses es) r s h in
      ap₂ (λ v vs. v ∷ vs) (value_same e cur r s k.0) (values_same es cur r s k.1)

  or_same : (m : MaybeExpr) (cur : Datum) (r s : Row) (d : Datum) → Agree (maybe_uses m) r s
      → value_or m cur r d ≡ value_or m cur s d
  or_same no_expr cur r s d h = refl
  or_same (one_expr e) cur r s d h = value_same e cur r s h

  members_same : (ms : MemberTrees) (cur : Datum) (r s : Row) → Agree (member_uses ms) r s
      → members ms cur r ≡ members ms cur s
  members_same no_members cur r s h = refl
  members_same (named_then name e ms) cur r s h =
      let k = agree_split (uses e) (member_uses ms) r s h in
      ap₂ (λ v vs. (name, v) ∷ vs) (value_same e cur r s k.0) (members_same ms cur r s k.1)
  members_same (computed_then n e ms) cur r s h =
      let k = agree_split (uses n) (uses e ++ member_uses ms) r s h in
      let l = agree_split (uses e) (member_uses ms) r s k.1 in
      ap₂ (λ f fs. f ∷ fs) (ap₂ (λ a b. (to_text a, b)) (value_same n cur r s k.0) (value_same e cur r s l.0))
      (members_same ms cur r s l.1)

  steps_same : (ss : StepTrees) (cur : Datum) (r s : Row) (d : Datum) → Agree (step_uses ss) r s
      → steps_value ss cur r d ≡ steps_value ss cur s d
  steps_same no_steps cur r s d h = refl
  steps_same (name_then name ss) cur r s d h = steps_same ss cur r s (at_name d name) h
  steps_same (at_then e ss) cur r s d h =
      let k = agree_split (uses e) (step_uses ss) r s h in
      ap (λ i. steps_value ss cur r (at_value d i)) (value_same e cur r s k.0)
      ∙ steps_same ss cur r s (at_value d (value e cur s)) k.1
  steps_same (inline_then f p ss) cur r s d h =
      let k = agree_split (maybe_uses f) (maybe_uses p ++ step_uses ss) r s h in
      let l = agree_split (maybe_uses p) (step_uses ss) r s k.1 in
      ap list (
      ap (λ ts. map (λ w. steps_value ss cur r w) (map (λ c. value_or p c r c) (filter_true (elements d) ts)))
      (map_same (λ c. value_or f c r (boolean true)) (λ c. value_or f c s (boolean true))
      (λ c. or_same f c r s (boolean true) k.0) (elements d))
      ∙ ap (map (λ w. steps_value ss cur r w)) (map_same (λ c. value_or p c r c) (λ c. value_or p c s c)
      (λ c. or_same p c r s c l.0) _)
      ∙ map_same (λ w. steps_value ss cur r w) (λ w. steps_value ss cur s w)
      (λ w. steps_same ss cur r s w l.1) _)

  links_same : (ls : LinkTrees) (cur : Datum) (r s : Row) (a : Datum) → Agree (link_uses ls) r s
      → links_value ls cur r a ≡ links_value ls cur s a
  links_same no_links cur r s a h = refl
  links_same (link_then op e ls) cur r s a h =
      let k = agree_split (uses e) (link_uses ls) r s h in
      ap (λ b. links_value ls cur r (binary op a b)) (value_same e cur r s k.0)
      ∙ links_same ls cur r s (binary op a (value e cur s)) k.1

-- the same for the values of a plain expression
pub values_carried : (e : ExprTree) (cur : Datum) (r s : Row) → Agree (uses e) r s
    → (db : Database) (v : Datum)
    → IsPlain e → Evaluates db e cur r v → Evaluates db e cur s v
values_carried e cur r s h db v p k =
    subst (Evaluates db e cur s) (sym (only_value db e p cur r v k ∙ value_same e cur r s h))
    (has_value db e p cur s)
