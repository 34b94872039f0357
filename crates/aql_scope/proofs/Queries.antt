-- The clauses of a query are lifted one after another, and then what RETURN gives.
use Rattle.std.proofs.Common.{◌≡◌, ◌∙◌, ℕ, ◌+◌, ◌<◌, ◌≤◌, List, [], ◌∷◌, ◌++◌, length, get_or, drop, map, Bool, sym, ap, ap₂, subst, append_assoc, append-nil}
use Rattle.std.proofs.lemmas.List.{drop_all}
use Rattle.aql_tree.specs.declared.syntax.Clause.{Clause}
use Rattle.aql_tree.specs.Tree.{ExprTree, no_clauses, clause_then, QueryTree, query}
use Rattle.aql_tree.specs.View.{clause_tree, clauses}
use Rattle.aql_scope.specs.Numbering.{Numbering}
use Rattle.aql_scope.specs.Lifting as spec
use Rattle.aql_scope.specs.Lifting.{NumberedSubquery, Scoped, ScopedClause, ScopedClauses, with_lets, append_clauses}
use Rattle.aql_scope.specs.Lifts.{Progress, let_of}
use Rattle.aql_scope.specs.laws.Turns.{Given, before, from_here}
use Rattle.aql_scope.proofs.Parts.{before_clauses}
use Rattle.aql_scope.proofs.Declared.{before_append, before_lets_of, clauses_lets}

-- the clauses of a query from its opening on are those that were lifted, and the rest from here on
pub record GoesOn (whole : ScopedClauses) (said : List (List ℕ)) (rest : ScopedClauses) (now : Progress)
    : Type 0 where
  pub tree : whole.clauses ≡ before clause_then now.clauses rest.clauses
  pub names : said ++ whole.said ≡ now.said ++ rest.said
  pub visible : whole.own ≡ rest.own
  pub number : whole.next ≡ rest.next

module _ (outer : Numbering) (whole : ScopedClauses) (said : List (List ℕ)) (all : List Clause) (i : ℕ)
    (own : Numbering) (now : Progress)
  where
    abbrev pub rest_from : Numbering → ℕ → ℕ → ScopedClauses
    rest_from names n k = spec.clauses outer names n (clauses (map clause_tree (drop k all)))

    -- one more clause was lifted, after the LETs of its subqueries
    pub clause_turn : (x y : Clause) (after_own : Numbering) (then last : Progress)
        → GoesOn whole said (rest_from own now.next i) now → i < length all → x ≡ get_or all i x
        → Given (clause_tree y) (spec.clause outer own now.next (clause_tree x)).clause now then
        → after_own ≡ (spec.clause outer own now.next (clause_tree x)).own
        → last ≡ record then { clauses = then.clauses ++ clause_tree y ∷ [] }
        → GoesOn whole said (rest_from after_own last.next (i + 1)) last
    clause_turn x y after_own then last goes lt is g same more = by_last where
      s : ScopedClause
      s = spec.clause outer own now.next (clause_tree x)

      t : ScopedClauses
      t = rest_from s.own s.clause.next (i + 1)

      by_x : rest_from own now.next i ≡ spec.clauses outer own now.next
          (clause_then (clause_tree x) (clauses (map clause_tree (drop (i + 1) all))))
      by_x = ap (λ cs. spec.clauses outer own now.next (clauses (map clause_tree cs))) (from_here all i x lt is)

      lifted : Progress
      lifted = record {
        clauses = (now.clauses ++ map let_of s.clause.subqueries) ++ clause_tree y ∷ [];
        said = now.said ++ s.clause.said;
        next = s.clause.next;
      }

      is_lifted : last ≡ lifted
      is_lifted = more ∙ ap (λ (p : Progress). let q : Progress = record p {
        clauses = p.clauses ++ clause_tree y ∷ [];
      } in q) g.1

      by_tree : whole.clauses ≡ before clause_then lifted.clauses t.clauses
      by_tree = goes.tree ∙ ap (λ (r : ScopedClauses). before clause_then now.clauses r.clauses) by_x
          ∙ ap (λ c. before clause_then now.clauses (with_lets s.clause.subqueries (clause_then c t.clauses)))
          (sym g.0)
          ∙ ap (before clause_then now.clauses)
          (sym (before_lets_of s.clause.subqueries (clause_then (clause_tree y) t.clauses)))
          ∙ sym (before_append clause_then now.clauses (map let_of s.clause.subqueries)
          (clause_then (clause_tree y) t.clauses))
          ∙ sym (before_append clause_then (now.clauses ++ map let_of s.clause.subqueries)
          (clause_tree y ∷ []) t.clauses)

      goes_on : GoesOn whole said t lifted
      goes_on = record {
        tree = by_tree;
        names = goes.names ∙ ap (λ (r : ScopedClauses). now.said ++ r.said) by_x
            ∙ sym (append_assoc now.said s.clause.said t.said);
        visible = goes.visible ∙ ap (λ (r : ScopedClauses). r.own) by_x;
        number = goes.number ∙ ap (λ (r : ScopedClauses). r.next) by_x;
      }

      by_last : GoesOn whole said (rest_from after_own last.next (i + 1)) last
      by_last = subst (λ (names : Numbering). GoesOn whole said (rest_from names last.next (i + 1)) last)
          (sym same) (subst (λ (p : Progress). GoesOn whole said (rest_from s.own p.next (i + 1)) p)
          (sym is_lifted) goes_on)

-- all clauses were lifted, and then what RETURN gives
module _ (outer : Numbering) (with : List (List ℕ)) (all : List Clause) (distinct : Bool) (e : ExprTree) (n : ℕ)
    (said : List (List ℕ)) (i : ℕ) (own : Numbering) (now then : Progress) (f : ExprTree)
  where
    abbrev pub whole : ScopedClauses
    whole = spec.clauses outer [] n (clauses (map clause_tree all))

    abbrev pub lifted_query : Scoped QueryTree
    lifted_query = spec.scope_query outer n (query with (clauses (map clause_tree all)) distinct e)

    pub query_given : GoesOn whole said (spec.clauses outer own now.next (clauses (map clause_tree (drop i all)))) now
        → length all ≤ i → Given f (spec.expr (own ++ outer) now.next e) now then
        → (query with (clauses then.clauses) distinct f ≡ lifted_query.tree)
        × (then.said ≡ said ++ lifted_query.said) × (then.next ≡ lifted_query.next)
    query_given goes past g = by_ends where
      ends : spec.clauses outer own now.next (clauses (map clause_tree (drop i all)))
          ≡ spec.clauses outer own now.next no_clauses
      ends = ap (λ cs. spec.clauses outer own now.next (clauses (map clause_tree cs))) (drop_all i all past)

      done : whole.clauses ≡ clauses now.clauses
      done = goes.tree ∙ ap (λ (r : ScopedClauses). before clause_then now.clauses r.clauses) ends
          ∙ before_clauses now.clauses

      names : whole.own ≡ own
      names = goes.visible ∙ ap (λ (r : ScopedClauses). r.own) ends

      number : whole.next ≡ now.next
      number = goes.number ∙ ap (λ (r : ScopedClauses). r.next) ends

      told : said ++ whole.said ≡ now.said
      told = goes.names ∙ ap (λ (r : ScopedClauses). now.said ++ r.said) ends ∙ append-nil now.said

      t : Scoped ExprTree
      t = spec.expr (whole.own ++ outer) whole.next e

      is_t : spec.expr (own ++ outer) now.next e ≡ t
      is_t = ap₂ (λ (ns : Numbering) m. spec.expr (ns ++ outer) m e) (sym names) (sym number)

      given : Given f t now then
      given = subst (λ (s : Scoped ExprTree). Given f s now then) is_t g

      tree : query with (clauses then.clauses) distinct f ≡ lifted_query.tree
      tree = ap₂ (λ cs r. query with cs distinct r)
          (ap (λ (p : Progress). clauses p.clauses) given.1 ∙ clauses_lets now.clauses t.subqueries
          ∙ ap (λ cs. append_clauses cs (with_lets t.subqueries no_clauses)) (sym done)) given.0

      by_ends : (query with (clauses then.clauses) distinct f ≡ lifted_query.tree)
          × (then.said ≡ said ++ lifted_query.said) × (then.next ≡ lifted_query.next)
      by_ends = (
        tree,
        ap (λ (p : Progress). p.said) given.1 ∙ ap (λ a. a ++ t.said) (sym told)
            ∙ append_assoc said whole.said t.said,
        ap (λ (p : Progress). p.next) given.1,
      )
