-- The value of an expression without a subquery, as a function: such an expression has exactly one value,
-- and it does not depend on the database. A subquery, where there is one after all, counts as null. The
-- forms come in the order of AQL fundamentals, Operators; `cur` is the value of CURRENT.
use Rattle.std.specs.Prelude.{ℕ, List, [], ◌∷◌, map, true, cond}
use Rattle.aql_value.specs.Datum.{Datum, null, boolean}
use Rattle.aql_value.specs.Contents.{list, elements, at_name, at_value}
use Rattle.aql_value.specs.Convert.{to_number, to_text}
use Rattle.aql_value.specs.Truth.{truth}
use Rattle.aql_func.specs.Named.{call_named}
use Rattle.aql_func.specs.Operators.{binary, unary, range}
use Rattle.aql_tree.specs.Tree.{ExprTree, literal, variable, current, array_literal, object_literal, access, function_call, unary_of, chain, array_comparison, ternary, range_of, subquery, ExprTrees, no_exprs, expr_then, MaybeExpr, no_expr, one_expr, MemberTrees, no_members, named_then, computed_then, StepTrees, no_steps, name_then, at_then, inline_then, LinkTrees, no_links, link_then}
use Rattle.aql_meaning.specs.Row.{Row, value_at}
use Rattle.aql_meaning.specs.Expressions.{quantify, object_value}
use Rattle.aql_meaning.specs.Clauses.{filter_true}

abbrev mutual
  pub value : ExprTree → Datum → Row → Datum
  value (literal v) cur row = v
  value (variable x) cur row = value_at row x
  value current cur row = cur
  value (array_literal es) cur row = list (values es cur row)
  value (object_literal ms) cur row = object_value (members ms cur row)
  value (access e ss) cur row = steps_value ss cur row (value e cur row)
  value (function_call name es) cur row = call_named name (values es cur row)
  value (unary_of op e) cur row = unary op (value e cur row)
  value (chain e ls) cur row = links_value ls cur row (value e cur row)
  value (array_comparison a kind op b) cur row = quantify kind op (value a cur row) (value b cur row)
  value (ternary test first other) cur row =
      cond (truth (value test cur row)) (value_or first cur row (value test cur row)) (value other cur row)
  value (range_of a b) cur row = range (to_number (value a cur row)) (to_number (value b cur row))
  value (subquery q) cur row = null

  pub values : ExprTrees → Datum → Row → List Datum
  values no_exprs cur row = []
  values (expr_then e es) cur row = value e cur row ∷ values es cur row

  -- or v where there is no expression
  pub value_or : MaybeExpr → Datum → Row → Datum → Datum
  value_or no_expr cur row v = v
  value_or (one_expr e) cur row v = value e cur row

  -- the members of an object literal
  pub members : MemberTrees → Datum → Row → List (List ℕ × Datum)
  members no_members cur row = []
  members (named_then name e ms) cur row = (name, value e cur row) ∷ members ms cur row
  members (computed_then n e ms) cur row = (to_text (value n cur row), value e cur row) ∷ members ms cur row

  -- the steps of an access, from the value v on; after an inline expression they are taken for each element
  pub steps_value : StepTrees → Datum → Row → Datum → Datum
  steps_value no_steps cur row v = v
  steps_value (name_then name ss) cur row v = steps_value ss cur row (at_name v name)
  steps_value (at_then e ss) cur row v = steps_value ss cur row (at_value v (value e cur row))
  steps_value (inline_then filter gives ss) cur row v =
      list (map (λ w. steps_value ss cur row w) (map (λ c. value_or gives c row c)
      (filter_true (elements v) (map (λ c. value_or filter c row (boolean true)) (elements v)))))

  -- the links of a chain, from the value a of what stands left of them
  pub links_value : LinkTrees → Datum → Row → Datum → Datum
  links_value no_links cur row a = a
  links_value (link_then op e ls) cur row a = links_value ls cur row (binary op a (value e cur row))
