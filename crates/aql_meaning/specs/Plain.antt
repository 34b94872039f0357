-- Expressions without a subquery. Every other form of an expression (AQL fundamentals) has one value where
-- its parts have one.
use Rattle.aql_tree.specs.Tree.{ExprTree, literal, variable, current, array_literal, object_literal, access, function_call, unary_of, chain, array_comparison, ternary, range_of, subquery, ExprTrees, no_exprs, expr_then, MaybeExpr, no_expr, one_expr, MemberTrees, no_members, named_then, computed_then, StepTrees, no_steps, name_then, at_then, inline_then, LinkTrees, no_links, link_then}

abbrev mutual
  pub IsPlain : ExprTree → Type 0
  IsPlain (literal t) = Unit {0}
  IsPlain (variable x) = Unit {0}
  IsPlain current = Unit {0}
  IsPlain (array_literal es) = AllPlain es
  IsPlain (object_literal ms) = MembersPlain ms
  IsPlain (access e ss) = IsPlain e × StepsPlain ss
  IsPlain (function_call name es) = AllPlain es
  IsPlain (unary_of op e) = IsPlain e
  IsPlain (chain e ls) = IsPlain e × LinksPlain ls
  IsPlain (array_comparison e kind op f) = IsPlain e × IsPlain f
  IsPlain (ternary test first other) = IsPlain test × MaybePlain first × IsPlain other
  IsPlain (range_of e f) = IsPlain e × IsPlain f
  IsPlain (subquery q) = ⊥

  pub AllPlain : ExprTrees → Type 0
  AllPlain no_exprs = Unit {0}
  AllPlain (expr_then e es) = IsPlain e × AllPlain es

  pub MaybePlain : MaybeExpr → Type 0
  MaybePlain no_expr = Unit {0}
  MaybePlain (one_expr e) = IsPlain e

  pub MembersPlain : MemberTrees → Type 0
  MembersPlain no_members = Unit {0}
  MembersPlain (named_then name e ms) = IsPlain e × MembersPlain ms
  MembersPlain (computed_then n e ms) = IsPlain n × IsPlain e × MembersPlain ms

  pub StepsPlain : StepTrees → Type 0
  StepsPlain no_steps = Unit {0}
  StepsPlain (name_then name ss) = StepsPlain ss
  StepsPlain (at_then e ss) = IsPlain e × StepsPlain ss
  StepsPlain (inline_then filter gives ss) = MaybePlain filter × MaybePlain gives × StepsPlain ss

  pub LinksPlain : LinkTrees → Type 0
  LinksPlain no_links = Unit {0}
  LinksPlain (link_then op e ls) = IsPlain e × LinksPlain ls
