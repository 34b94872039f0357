-- The variables that an expression without a subquery uses (AQL fundamentals, Accessing data; attribute
-- access): a variable as a whole, or, where the expression looks only at one of its attributes, by the name
-- of this attribute. Two rows agree in what is used where it has the same values in both.
use Rattle.std.specs.Prelude.{ℕ, ◌≡◌, List, [], ◌∷◌, ◌++◌, Bool}
use Rattle.std.specs.List.{list_any}
use Rattle.aql_value.specs.Contents.{at_name}
use Rattle.aql_tree.specs.declared.syntax.Ident.{Ident}
use Rattle.aql_tree.specs.Tree.{ExprTree, literal, variable, current, array_literal, object_literal, access, function_call, unary_of, chain, array_comparison, ternary, range_of, subquery, ExprTrees, no_exprs, expr_then, MaybeExpr, no_expr, one_expr, MemberTrees, no_members, named_then, computed_then, StepTrees, no_steps, name_then, at_then, inline_then, LinkTrees, no_links, link_then, AggregateTrees, no_aggregates, aggregate_then, IntoTree, no_into, into}
use Rattle.aql_meaning.specs.Row.{Row, same_ident, value_at}

-- a variable as a whole, or only its attribute of a name
pub data Use : Type 0 where
  Whole : Ident → Use
  Attribute : Ident → List ℕ → Use

abbrev pub Uses : Type 0
Uses = List Use

abbrev pub used_variable : Use → Ident
used_variable (Whole x) = x
used_variable (Attribute x name) = x

abbrev pub is_used : Ident → Uses → Bool
is_used x us = list_any (λ u. same_ident x (used_variable u)) us

abbrev mutual
  -- what an expression uses, where it is plain: of the variables in a subquery this says nothing
  pub uses : ExprTree → Uses
  uses (literal v) = []
  uses (variable x) = Whole x ∷ []
  uses current = []
  uses (array_literal es) = all_uses es
  uses (object_literal ms) = member_uses ms
  uses (access (variable x) (name_then name ss)) = Attribute x name ∷ step_uses ss
  uses (access e ss) = uses e ++ step_uses ss
  uses (function_call name es) = all_uses es
  uses (unary_of op e) = uses e
  uses (chain e ls) = uses e ++ link_uses ls
  uses (array_comparison a kind op b) = uses a ++ uses b
  uses (ternary test first other) = uses test ++ (maybe_uses first ++ uses other)
  uses (range_of a b) = uses a ++ uses b
  uses (subquery q) = []

  pub all_uses : ExprTrees → Uses
  all_uses no_exprs = []
  all_uses (expr_then e es) = uses e ++ all_uses es

  pub maybe_uses : MaybeExpr → Uses
  maybe_uses no_expr = []
  maybe_uses (one_expr e) = uses e

  pub member_uses : MemberTrees → Uses
  member_uses no_members = []
  member_uses (named_then name e ms) = uses e ++ member_uses ms
  member_uses (computed_then n e ms) = uses n ++ (uses e ++ member_uses ms)

  pub step_uses : StepTrees → Uses
  step_uses no_steps = []
  step_uses (name_then name ss) = step_uses ss
  step_uses (at_then e ss) = uses e ++ step_uses ss
  step_uses (inline_then filter gives ss) = maybe_uses filter ++ (maybe_uses gives ++ step_uses ss)

  pub link_uses : LinkTrees → Uses
  link_uses no_links = []
  link_uses (link_then op e ls) = uses e ++ link_uses ls

-- what the arguments of aggregates use, and the expression of INTO
abbrev pub aggregate_uses : AggregateTrees → Uses
aggregate_uses no_aggregates = []
aggregate_uses (aggregate_then x name e rest) = maybe_uses e ++ aggregate_uses rest

abbrev pub into_uses : IntoTree → Uses
into_uses no_into = []
into_uses (into x what keep) = maybe_uses what

abbrev pub AgreeAt : Use → Row → Row → Type 0
AgreeAt (Whole x) r s = value_at r x ≡ value_at s x
AgreeAt (Attribute x name) r s = at_name (value_at r x) name ≡ at_name (value_at s x) name

-- rows that agree in all that is used
abbrev pub Agree : Uses → Row → Row → Type 0
Agree [] r s = Unit {0}
Agree (u ∷ us) r s = AgreeAt u r s × Agree us r s
