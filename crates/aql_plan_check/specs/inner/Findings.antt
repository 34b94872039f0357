-- Each variable that an expression or a node uses is one of a list, form by form: for the contracts of
-- private functions. Those of aql_plan say the same of the list of uses.
use Rattle.std.specs.Prelude.{◌≡◌, List, true, Option, None, Some}
use Rattle.std.specs.List.{list_any, AllByRecursion}
use Rattle.aql_tree.specs.declared.syntax.Ident.{Ident}
use Rattle.aql_tree.specs.Tree.{ExprTree, literal, variable, current, array_literal, object_literal, access, function_call, unary_of, chain, array_comparison, ternary, range_of, subquery, ExprTrees, no_exprs, expr_then, MaybeExpr, no_expr, one_expr, MemberTrees, no_members, named_then, computed_then, StepTrees, no_steps, name_then, at_then, inline_then, LinkTrees, no_links, link_then, AggregateTrees, no_aggregates, aggregate_then, IntoTree, no_into, into}
use Rattle.aql_meaning.specs.Row.{same_ident}
use Rattle.aql_meaning.specs.Visible.{aggregate_vars}
use Rattle.aql_meaning.specs.Documents.{End, Last, no_last, one_of, between}
use Rattle.aql_meaning.specs.declared.grouping.Stage.TheVariants as stage
use Rattle.aql_plan.specs.Plan.{Node, EnumerateCollection, Index, EnumerateList, Traversal, Calculation, Filter, Sort, Collect, Return, Distribute, Gather}

abbrev pub IsAmong : List Ident → Ident → Type 0
IsAmong xs x = list_any (same_ident x) xs ≡ true

abbrev mutual
  pub Finds : List Ident → ExprTree → Type 0
  Finds xs (literal t) = Unit {0}
  Finds xs (variable x) = IsAmong xs x
  Finds xs current = Unit {0}
  Finds xs (array_literal es) = AllFind xs es
  Finds xs (object_literal ms) = MembersFind xs ms
  Finds xs (access e ss) = Finds xs e × StepsFind xs ss
  Finds xs (function_call name es) = AllFind xs es
  Finds xs (unary_of op e) = Finds xs e
  Finds xs (chain e ls) = Finds xs e × LinksFind xs ls
  Finds xs (array_comparison e kind op f) = Finds xs e × Finds xs f
  Finds xs (ternary test first other) = Finds xs test × MaybeFinds xs first × Finds xs other
  Finds xs (range_of e f) = Finds xs e × Finds xs f
  Finds xs (subquery q) = Unit {0}

  pub AllFind : List Ident → ExprTrees → Type 0
  AllFind xs no_exprs = Unit {0}
  AllFind xs (expr_then e es) = Finds xs e × AllFind xs es

  pub MaybeFinds : List Ident → MaybeExpr → Type 0
  MaybeFinds xs no_expr = Unit {0}
  MaybeFinds xs (one_expr e) = Finds xs e

  pub MembersFind : List Ident → MemberTrees → Type 0
  MembersFind xs no_members = Unit {0}
  MembersFind xs (named_then name e ms) = Finds xs e × MembersFind xs ms
  MembersFind xs (computed_then n e ms) = Finds xs n × Finds xs e × MembersFind xs ms

  pub StepsFind : List Ident → StepTrees → Type 0
  StepsFind xs no_steps = Unit {0}
  StepsFind xs (name_then name ss) = StepsFind xs ss
  StepsFind xs (at_then e ss) = Finds xs e × StepsFind xs ss
  StepsFind xs (inline_then filter gives ss) = MaybeFinds xs filter × MaybeFinds xs gives × StepsFind xs ss

  pub LinksFind : List Ident → LinkTrees → Type 0
  LinksFind xs no_links = Unit {0}
  LinksFind xs (link_then op e ls) = Finds xs e × LinksFind xs ls

abbrev pub AggregatesFind : List Ident → AggregateTrees → Type 0
AggregatesFind xs no_aggregates = Unit {0}
AggregatesFind xs (aggregate_then x name e rest) = MaybeFinds xs e × AggregatesFind xs rest

abbrev pub IntoFinds : List Ident → IntoTree → Type 0
IntoFinds xs no_into = Unit {0}
IntoFinds xs (into x what keep) = MaybeFinds xs what

abbrev pub EndFinds : List Ident → Option (End ExprTree) → Type 0
EndFinds xs None = Unit {0}
EndFinds xs (Some e) = Finds xs e.limit

abbrev pub LastFinds : List Ident → Last ExprTree → Type 0
LastFinds xs no_last = Unit {0}
LastFinds xs (one_of e) = Finds xs e
LastFinds xs (between low high) = EndFinds xs low × EndFinds xs high

abbrev pub AreAmong : List Ident → List Ident → Type 0
AreAmong xs ys = AllByRecursion (λ y. IsAmong xs y) ys

-- what a node uses of its input
abbrev pub InputFinds : List Ident → Node → Type 0
InputFinds xs (Index x index equal last ordered) = AllFind xs equal × LastFinds xs last
InputFinds xs (EnumerateList x e) = Finds xs e
InputFinds xs (Traversal w e colls prune keep) = Finds xs e
InputFinds xs (Calculation x e) = Finds xs e
InputFinds xs (Filter e) = Finds xs e
InputFinds xs (Sort directions es n) = AllFind xs es
InputFinds xs (Collect ys es gs i stage.Final) = AreAmong xs ys × AreAmong xs (aggregate_vars gs)
InputFinds xs (Collect ys es gs i s) = AllFind xs es × AggregatesFind xs gs × IntoFinds xs i
InputFinds xs (Return distinct e) = Finds xs e
InputFinds xs (Distribute coll es) = AllFind xs es
InputFinds xs (Gather directions es) = AllFind xs es
InputFinds xs n = Unit {0}

-- what it uses in its filter
abbrev pub FilterFinds : List Ident → Node → Type 0
FilterFinds xs (EnumerateCollection x) = MaybeFinds xs x.filter
FilterFinds xs (Index x index equal last ordered) = MaybeFinds xs x.filter
FilterFinds xs (Traversal w e colls prune keep) = MaybeFinds xs prune × MaybeFinds xs keep
FilterFinds xs n = Unit {0}
