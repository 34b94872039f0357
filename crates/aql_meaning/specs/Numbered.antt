-- The queries whose variables are numbers from 1 on, both those that their clauses declare and those that
-- their expressions use (the high-level operations, variables). Of a subquery this is asked where it is the
-- whole right side of a LET.
use Rattle.std.specs.Prelude.{suc, List, [], ◌++◌}
use Rattle.std.specs.List.{AllByRecursion}
use Rattle.aql_tree.specs.declared.syntax.Ident.{Ident}
use Rattle.aql_tree.specs.declared.syntax.Ident.TheVariants.{Num}
use Rattle.aql_tree.specs.Tree.{subquery, ClauseTree, for_each, for_documents, traversal, filter_by, let_be, sort_by, limit, collect, ClauseTrees, no_clauses, clause_then, QueryTree, query}
use Rattle.aql_meaning.specs.Visible.{vars_after}
use Rattle.aql_meaning.specs.Uses.{Use, Uses, used_variable, uses, all_uses, maybe_uses, aggregate_uses, into_uses}

-- a number from 1 on
abbrev pub IsNumber : Ident → Type 0
IsNumber (Num (suc n)) = Unit {0}
IsNumber x = ⊥

abbrev pub UsesNumbers : Uses → Type 0
UsesNumbers us = AllByRecursion (λ (u : Use). IsNumber (used_variable u)) us

-- what the expressions of a clause use
abbrev pub clause_uses : ClauseTree → Uses
clause_uses (for_each x e) = uses e
clause_uses (for_documents x name) = []
clause_uses (traversal w e names prune settings) = uses e ++ maybe_uses prune
clause_uses (filter_by e) = uses e
clause_uses (let_be x e) = uses e
clause_uses (sort_by directions es) = all_uses es
clause_uses (limit offset count) = []
clause_uses (collect xs es aggregates i) = all_uses es ++ (aggregate_uses aggregates ++ into_uses i)

abbrev mutual
  pub ClauseNumbered : ClauseTree → Type 0
  ClauseNumbered (let_be x (subquery q)) = IsNumber x × IsNumbered q
  ClauseNumbered c = AllByRecursion IsNumber (vars_after c []) × UsesNumbers (clause_uses c)

  pub ClausesNumbered : ClauseTrees → Type 0
  ClausesNumbered no_clauses = Unit {0}
  ClausesNumbered (clause_then c cs) = ClauseNumbered c × ClausesNumbered cs

  pub IsNumbered : QueryTree → Type 0
  IsNumbered (query with cs distinct e) = ClausesNumbered cs × UsesNumbers (uses e)
