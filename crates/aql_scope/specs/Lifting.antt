-- The query that scoping makes of a written one (AQL fundamentals, Subqueries): its variables are numbers, a
-- FOR over a collection is told from a FOR over a variable, and each subquery that is not the whole right
-- side of a LET stands in a LET of its own before its clause, or before RETURN. A declared variable takes its
-- number where it stands, a lifted subquery at its opening.
use Rattle.std.specs.Prelude.{ℕ, suc, List, [], ◌∷◌, ◌++◌, map, codes, option_to_list}
use Rattle.aql_tree.specs.declared.syntax.Ident.{Ident}
use Rattle.aql_tree.specs.declared.syntax.Ident.TheVariants.{Num}
use Rattle.aql_tree.specs.Tree.{ExprTree, literal, variable, current, array_literal, object_literal, access, function_call, unary_of, chain, array_comparison, ternary, range_of, subquery, ExprTrees, no_exprs, expr_then, MaybeExpr, no_expr, one_expr, MemberTrees, no_members, named_then, computed_then, StepTrees, no_steps, name_then, at_then, inline_then, LinkTrees, no_links, link_then, ClauseTree, for_each, for_documents, traversal, filter_by, let_be, sort_by, limit, collect, AggregateTrees, no_aggregates, aggregate_then, IntoTree, no_into, into, ClauseTrees, no_clauses, clause_then, QueryTree, query}
use Rattle.aql_meaning.specs.Options.{with_settings}
use Rattle.aql_meaning.specs.Groups.{into_names}
use Rattle.aql_meaning.specs.Visible.{aggregate_vars, into_var}
use Rattle.aql_scope.specs.Numbering.{Numbering, number_of, idents, text_of, numbered_variable, from_name, enter, numbers_from, number_after, number_traversal, after_traversal, traversal_names, variable_members}

-- a subquery that was taken out, with the number of its variable
abbrev pub NumberedSubquery : Type 0
NumberedSubquery = ℕ × QueryTree

-- a part with numbers, the subqueries that were taken out of it, the names of the variables that were
-- numbered in it, in order, and the next number
pub record Scoped (T : Type 0) : Type 0 where
  pub tree : T
  pub subqueries : List NumberedSubquery
  pub said : List (List ℕ)
  pub next : ℕ

-- a part in which nothing is declared and from which nothing is taken
abbrev pub as_it_is : {T : Type 0} → T → ℕ → Scoped T
as_it_is t n = record { tree = t; subqueries = []; said = []; next = n }

abbrev pub over : {S T : Type 0} → (S → T) → Scoped S → Scoped T
over f s = record { tree = f s.tree; subqueries = s.subqueries; said = s.said; next = s.next }

-- two parts in the order of the text
abbrev pub both : {S T U : Type 0} → (S → T → U) → Scoped S → Scoped T → Scoped U
both f s t = record {
  tree = f s.tree t.tree;
  subqueries = s.subqueries ++ t.subqueries;
  said = s.said ++ t.said;
  next = t.next;
}

abbrev pub three : {S T U V : Type 0} → (S → T → U → V) → Scoped S → Scoped T → Scoped U → Scoped V
three f s t u = record {
  tree = f s.tree t.tree u.tree;
  subqueries = s.subqueries ++ (t.subqueries ++ u.subqueries);
  said = s.said ++ (t.said ++ u.said);
  next = u.next;
}

-- a part after these declared variables
abbrev pub declares : {T : Type 0} → List Ident → Scoped T → Scoped T
declares xs s =
    record { tree = s.tree; subqueries = s.subqueries; said = map text_of xs ++ s.said; next = s.next }

-- a clause with numbers, and the query's own names after it
pub record ScopedClause : Type 0 where
  pub clause : Scoped ClauseTree
  pub own : Numbering

-- clauses with numbers and the LETs of what was taken out of each before it, and the query's own names after
-- them
pub record ScopedClauses : Type 0 where
  pub clauses : ClauseTrees
  pub own : Numbering
  pub said : List (List ℕ)
  pub next : ℕ

-- a LET for each subquery that was taken out
abbrev pub with_lets : List NumberedSubquery → ClauseTrees → ClauseTrees
with_lets [] cs = cs
with_lets (t ∷ ts) cs = clause_then (let_be (Num t.0) (subquery t.1)) (with_lets ts cs)

abbrev pub append_clauses : ClauseTrees → ClauseTrees → ClauseTrees
append_clauses no_clauses ds = ds
append_clauses (clause_then c cs) ds = clause_then c (append_clauses cs ds)

abbrev mutual
  -- an expression under the visible names, where n is the next number
  pub expr : Numbering → ℕ → ExprTree → Scoped ExprTree
  expr names n (literal v) = as_it_is (literal v) n
  expr names n (variable x) = as_it_is (numbered_variable (number_of names x)) n
  expr names n current = as_it_is current n
  expr names n (array_literal es) = over array_literal (exprs names n es)
  expr names n (object_literal ms) = over object_literal (members names n ms)
  expr names n (access e ss) = let s = expr names n e in both access s (steps names s.next ss)
  expr names n (function_call f es) = over (function_call f) (exprs names n es)
  expr names n (unary_of op e) = over (unary_of op) (expr names n e)
  expr names n (chain e ls) = let s = expr names n e in both chain s (links names s.next ls)
  expr names n (array_comparison e kind op f) =
      let s = expr names n e in
      both (λ (a b : ExprTree). array_comparison a kind op b) s (expr names s.next f)
  expr names n (ternary test first other) =
      let s = expr names n test in
      let t = maybe names s.next first in
      three ternary s t (expr names t.next other)
  expr names n (range_of e f) = let s = expr names n e in both range_of s (expr names s.next f)
  expr names n (subquery q) =
      let s = scope_query names (suc n) q in
      record {
        tree = variable (Num n);
        subqueries = (n, s.tree) ∷ [];
        said = codes "sub" ∷ s.said;
        next = s.next;
      }

  pub exprs : Numbering → ℕ → ExprTrees → Scoped ExprTrees
  exprs names n no_exprs = as_it_is no_exprs n
  exprs names n (expr_then e es) = let s = expr names n e in both expr_then s (exprs names s.next es)

  pub maybe : Numbering → ℕ → MaybeExpr → Scoped MaybeExpr
  maybe names n no_expr = as_it_is no_expr n
  maybe names n (one_expr e) = over one_expr (expr names n e)

  pub members : Numbering → ℕ → MemberTrees → Scoped MemberTrees
  members names n no_members = as_it_is no_members n
  members names n (named_then name e ms) =
      let s = expr names n e in both (named_then name) s (members names s.next ms)
  members names n (computed_then k e ms) =
      let s = expr names n k in
      let t = expr names s.next e in
      three computed_then s t (members names t.next ms)

  pub steps : Numbering → ℕ → StepTrees → Scoped StepTrees
  steps names n no_steps = as_it_is no_steps n
  steps names n (name_then name ss) = over (name_then name) (steps names n ss)
  steps names n (at_then e ss) = let s = expr names n e in both at_then s (steps names s.next ss)
  steps names n (inline_then filter gives ss) =
      let s = maybe names n filter in
      let t = maybe names s.next gives in
      three inline_then s t (steps names t.next ss)

  pub links : Numbering → ℕ → LinkTrees → Scoped LinkTrees
  links names n no_links = as_it_is no_links n
  links names n (link_then op e ls) =
      let s = expr names n e in both (link_then op) s (links names s.next ls)

  -- the variables of the criteria and the criteria
  pub criteria : Numbering → ℕ → List Ident → ExprTrees → Scoped (List Ident × ExprTrees)
  criteria names n xs no_exprs = declares xs (as_it_is (numbers_from n xs, no_exprs) (number_after xs n))
  criteria names n [] (expr_then e es) =
      let s = expr names n e in
      both (λ (a : ExprTree) (b : List Ident × ExprTrees). (b.0, expr_then a b.1)) s
      (criteria names s.next [] es)
  criteria names n (x ∷ xs) (expr_then e es) =
      let s = declares (x ∷ []) (expr names (suc n) e) in
      both (λ (a : ExprTree) (b : List Ident × ExprTrees). (Num n ∷ b.0, expr_then a b.1)) s
      (criteria names s.next xs es)

  pub aggregates : Numbering → ℕ → AggregateTrees → Scoped AggregateTrees
  aggregates names n no_aggregates = as_it_is no_aggregates n
  aggregates names n (aggregate_then x f e gs) =
      let s = declares (x ∷ []) (maybe names (suc n) e) in
      both (aggregate_then (Num n) f) s (aggregates names s.next gs)

  -- INTO always has its expression: without one, the object of the query's own variables, or of those of KEEP
  pub into_part : Numbering → Numbering → ℕ → IntoTree → Scoped IntoTree
  into_part own names n no_into = as_it_is no_into n
  into_part own names n (into x (one_expr e) keep) =
      declares (x ∷ []) (over (λ (f : ExprTree). into (Num n) (one_expr f) []) (expr names (suc n) e))
  into_part own names n (into x no_expr keep) =
      declares (x ∷ [])
      (as_it_is (into (Num n)
      (one_expr (object_literal (variable_members names (into_names (idents own) keep)))) []) (suc n))

  -- a clause under the query's own names and the outer ones; what it declares is visible after it
  pub clause : Numbering → Numbering → ℕ → ClauseTree → ScopedClause
  clause outer own n (for_each x (variable c)) = record {
    clause = declares (x ∷ []) (as_it_is (from_name n (number_of (own ++ outer) c) c) (suc n));
    own = (x, n) ∷ own;
  }
  clause outer own n (for_each x e) = record {
    clause = declares (x ∷ []) (over (for_each (Num n)) (expr (own ++ outer) (suc n) e));
    own = (x, n) ∷ own;
  }
  clause outer own n (for_documents x name) = record {
    clause = declares (x ∷ []) (as_it_is (for_documents (Num n) name) (suc n));
    own = (x, n) ∷ own;
  }
  -- the names of a traversal are visible in its PRUNE, which has no subquery; its options are read
  clause outer own n (traversal w e names prune settings) =
      let s = expr (own ++ outer) (after_traversal n w) e in
      let more = traversal_names n w own in
      let p = maybe (more ++ outer) s.next prune in
      record {
        clause =
            declares (w.vertex ∷ (option_to_list w.edge ++ option_to_list w.path)) (over (λ (f : ExprTree).
            traversal (with_settings settings (number_traversal n w)) f names p.tree no_members) s);
        own = more;
      }
  clause outer own n (filter_by e) = record { clause = over filter_by (expr (own ++ outer) n e); own = own }
  clause outer own n (let_be x (subquery q)) =
      let s = scope_query (own ++ outer) (suc n) q in
      record {
        clause = declares (x ∷ []) (record {
          tree = let_be (Num n) (subquery s.tree);
          subqueries = [];
          said = s.said;
          next = s.next;
        });
        own = (x, n) ∷ own;
      }
  clause outer own n (let_be x e) = record {
    clause = declares (x ∷ []) (over (let_be (Num n)) (expr (own ++ outer) (suc n) e));
    own = (x, n) ∷ own;
  }
  clause outer own n (sort_by directions es) =
      record { clause = over (sort_by directions) (exprs (own ++ outer) n es); own = own }
  clause outer own n (limit offset count) = record { clause = as_it_is (limit offset count) n; own = own }
  -- after COLLECT only its own variables are left
  clause outer own n (collect xs es gs i) =
      let s = criteria (own ++ outer) n xs es in
      let t = aggregates (own ++ outer) s.next gs in
      let u = into_part own (own ++ outer) t.next i in
      record {
        clause = three (λ (a : List Ident × ExprTrees) (b : AggregateTrees) (c : IntoTree).
            collect a.0 a.1 b c) s t u;
        own = enter (option_to_list (into_var i)) (option_to_list (into_var u.tree))
            (enter (aggregate_vars gs) (aggregate_vars t.tree) (enter xs s.tree.0 []));
      }

  pub clauses : Numbering → Numbering → ℕ → ClauseTrees → ScopedClauses
  clauses outer own n no_clauses = record { clauses = no_clauses; own = own; said = []; next = n }
  clauses outer own n (clause_then c cs) =
      let s = clause outer own n c in
      let t = clauses outer s.own s.clause.next cs in
      record {
        clauses = with_lets s.clause.subqueries (clause_then s.clause.tree t.clauses);
        own = t.own;
        said = s.clause.said ++ t.said;
        next = t.next;
      }

  -- a query under the names that are visible where it stands
  pub scope_query : Numbering → ℕ → QueryTree → Scoped QueryTree
  scope_query outer n (query with cs distinct e) =
      let s = clauses outer [] n cs in
      let t = expr (s.own ++ outer) s.next e in
      record {
        tree = query with (append_clauses s.clauses (with_lets t.subqueries no_clauses)) distinct t.tree;
        subqueries = [];
        said = s.said ++ t.said;
        next = t.next;
      }
