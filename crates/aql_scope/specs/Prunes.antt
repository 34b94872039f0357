-- The queries in which no PRUNE has a subquery (Graphs, Traversals: pruning). PRUNE is asked at each path, so
-- there is no clause before which its subquery could stand. Each definition asks this of all parts of a tree.
use Rattle.aql_tree.specs.Tree.{ExprTree, array_literal, object_literal, access, function_call, unary_of, chain, array_comparison, ternary, range_of, subquery, ExprTrees, no_exprs, expr_then, MaybeExpr, no_expr, one_expr, MemberTrees, no_members, named_then, computed_then, StepTrees, no_steps, name_then, at_then, inline_then, LinkTrees, no_links, link_then, ClauseTree, for_each, for_documents, traversal, filter_by, let_be, sort_by, limit, collect, AggregateTrees, no_aggregates, aggregate_then, IntoTree, no_into, into, ClauseTrees, no_clauses, clause_then, QueryTree, query}
use Rattle.aql_meaning.specs.Plain.{MaybePlain}

abbrev mutual
  pub ExprPrunes : ExprTree → Type 0
  ExprPrunes (array_literal es) = ExprsPrunes es
  ExprPrunes (object_literal ms) = MembersPrunes ms
  ExprPrunes (access e ss) = ExprPrunes e × StepsPrunes ss
  ExprPrunes (function_call name es) = ExprsPrunes es
  ExprPrunes (unary_of op e) = ExprPrunes e
  ExprPrunes (chain e ls) = ExprPrunes e × LinksPrunes ls
  ExprPrunes (array_comparison e kind op f) = ExprPrunes e × ExprPrunes f
  ExprPrunes (ternary test first other) = ExprPrunes test × MaybePrunes first × ExprPrunes other
  ExprPrunes (range_of e f) = ExprPrunes e × ExprPrunes f
  ExprPrunes (subquery q) = PrunesPlain q
  ExprPrunes e = Unit {0}

  pub ExprsPrunes : ExprTrees → Type 0
  ExprsPrunes no_exprs = Unit {0}
  ExprsPrunes (expr_then e es) = ExprPrunes e × ExprsPrunes es

  pub MaybePrunes : MaybeExpr → Type 0
  MaybePrunes no_expr = Unit {0}
  MaybePrunes (one_expr e) = ExprPrunes e

  pub MembersPrunes : MemberTrees → Type 0
  MembersPrunes no_members = Unit {0}
  MembersPrunes (named_then name e ms) = ExprPrunes e × MembersPrunes ms
  MembersPrunes (computed_then n e ms) = ExprPrunes n × ExprPrunes e × MembersPrunes ms

  pub StepsPrunes : StepTrees → Type 0
  StepsPrunes no_steps = Unit {0}
  StepsPrunes (name_then name ss) = StepsPrunes ss
  StepsPrunes (at_then e ss) = ExprPrunes e × StepsPrunes ss
  StepsPrunes (inline_then filter gives ss) = MaybePrunes filter × MaybePrunes gives × StepsPrunes ss

  pub LinksPrunes : LinkTrees → Type 0
  LinksPrunes no_links = Unit {0}
  LinksPrunes (link_then op e ls) = ExprPrunes e × LinksPrunes ls

  pub AggregatesPrunes : AggregateTrees → Type 0
  AggregatesPrunes no_aggregates = Unit {0}
  AggregatesPrunes (aggregate_then x name e gs) = MaybePrunes e × AggregatesPrunes gs

  pub IntoPrunes : IntoTree → Type 0
  IntoPrunes no_into = Unit {0}
  IntoPrunes (into x e keep) = MaybePrunes e

  pub ClausePrunes : ClauseTree → Type 0
  ClausePrunes (for_each x e) = ExprPrunes e
  ClausePrunes (for_documents x name) = Unit {0}
  ClausePrunes (traversal w e names prune settings) = ExprPrunes e × MaybePlain prune
  ClausePrunes (filter_by e) = ExprPrunes e
  ClausePrunes (let_be x e) = ExprPrunes e
  ClausePrunes (sort_by directions es) = ExprsPrunes es
  ClausePrunes (limit offset count) = Unit {0}
  ClausePrunes (collect xs es gs i) = ExprsPrunes es × AggregatesPrunes gs × IntoPrunes i

  pub ClausesPrunes : ClauseTrees → Type 0
  ClausesPrunes no_clauses = Unit {0}
  ClausesPrunes (clause_then c cs) = ClausePrunes c × ClausesPrunes cs

  pub PrunesPlain : QueryTree → Type 0
  PrunesPlain (query with cs distinct e) = ClausesPrunes cs × ExprPrunes e
