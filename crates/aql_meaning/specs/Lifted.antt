-- The queries that scoping gives (AQL fundamentals, Subqueries): a subquery stands only as the whole right
-- side of a LET, and is such a query itself. No single name stands after IN, since a FOR over a collection is
-- a clause of its own; the options of a traversal are read; INTO has its expression.
use Rattle.aql_tree.specs.declared.syntax.Ident.TheVariants.{Name}
use Rattle.aql_tree.specs.Tree.{ExprTree, variable, subquery, no_expr, one_expr, MemberTrees, no_members, ClauseTree, for_each, for_documents, traversal, filter_by, let_be, sort_by, limit, collect, AggregateTrees, no_aggregates, aggregate_then, IntoTree, no_into, into, ClauseTrees, no_clauses, clause_then, QueryTree, query}
use Rattle.aql_meaning.specs.Plain.{IsPlain, AllPlain, MaybePlain}

-- the expression is no single name, which after IN may mean a collection
abbrev pub IsNoName : ExprTree → Type 0
IsNoName (variable (Name n)) = ⊥
IsNoName e = Unit {0}

abbrev pub NoSettings : MemberTrees → Type 0
NoSettings no_members = Unit {0}
NoSettings settings = ⊥

abbrev pub AggregatesPlain : AggregateTrees → Type 0
AggregatesPlain no_aggregates = Unit {0}
AggregatesPlain (aggregate_then x name e rest) = MaybePlain e × AggregatesPlain rest

abbrev pub IntoPlain : IntoTree → Type 0
IntoPlain no_into = Unit {0}
IntoPlain (into x no_expr keep) = ⊥
IntoPlain (into x (one_expr e) keep) = IsPlain e

abbrev mutual
  pub ClauseLifted : ClauseTree → Type 0
  ClauseLifted (for_each x e) = IsPlain e × IsNoName e
  ClauseLifted (for_documents x name) = Unit {0}
  ClauseLifted (traversal w e names prune settings) = IsPlain e × MaybePlain prune × NoSettings settings
  ClauseLifted (filter_by e) = IsPlain e
  ClauseLifted (let_be x (subquery q)) = IsLifted q
  ClauseLifted (let_be x e) = IsPlain e
  ClauseLifted (sort_by directions es) = AllPlain es
  ClauseLifted (limit offset count) = Unit {0}
  ClauseLifted (collect xs es aggregates i) = AllPlain es × AggregatesPlain aggregates × IntoPlain i

  pub ClausesLifted : ClauseTrees → Type 0
  ClausesLifted no_clauses = Unit {0}
  ClausesLifted (clause_then c cs) = ClauseLifted c × ClausesLifted cs

  pub IsLifted : QueryTree → Type 0
  IsLifted (query with cs distinct e) = ClausesLifted cs × IsPlain e
