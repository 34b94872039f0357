-- Whether an expression is a variable or a subquery, in the code and in the tree.
use Rattle.std.proofs.Common.{◌≡◌, ℕ, List, Bool, true, false, rules, Box, Global, map, option_map}
use Rattle.aql_tree.specs.declared.syntax.Ident.{Ident}
use Rattle.aql_tree.specs.declared.syntax.Expr.{Expr, Var, Sub, the_lemmas}
use Rattle.aql_tree.specs.declared.syntax.Query.{Query, roll-Query, the_lemmas as query_lemmas}
use Rattle.aql_tree.specs.declared.syntax.Clause as clause
use Rattle.aql_tree.specs.declared.syntax.Clause.{Clause, the_lemmas as clause_lemmas}
use Rattle.aql_tree.specs.declared.syntax.Into.{Into, the_lemmas as into_lemmas}
use Rattle.aql_tree.specs.Tree.{ExprTree, variable, subquery, for_each, query}
use Rattle.aql_tree.specs.View.{tree, clauses, clause_tree, query_tree, into_part}

abbrev pub is_variable : ExprTree → Bool
is_variable (variable x) = true
is_variable e = false

abbrev pub is_subquery : ExprTree → Bool
is_subquery (subquery q) = true
is_subquery e = false

pub no_variable : (v : Expr) → ((x : Ident) → v ≡ Var x → ⊥) → is_variable (tree v) ≡ false
no_variable v not = search (rules, the_lemmas, not)

pub of_query : (b : Box Query Global) → tree (Sub b) ≡ subquery (query_tree b.value)
of_query b = search (rules, the_lemmas)

pub of_for : (x : Ident) (e : Expr) → clause_tree (clause.For x e) ≡ for_each x (tree e)
of_for x e = search (rules, clause_lemmas)

pub no_query : (v : Expr) → ((b : Box Query Global) → v ≡ Sub b → ⊥) → is_subquery (tree v) ≡ false
no_query v not = search (rules, the_lemmas, not)

-- ---- what a query and its clauses say, part by part

pub query_parts : (q : Query)
    → query_tree q ≡ query q.with (clauses (map clause_tree q.clauses)) q.distinct (tree q.result.value)
query_parts q = search (rules, query_lemmas)

pub query_made : (with : List (List ℕ)) (cs : List Clause) (distinct : Bool) (b : Box Expr Global)
    → query_tree (roll-Query (record { with = with; clauses = cs; distinct = distinct; result = b }))
    ≡ query with (clauses (map clause_tree cs)) distinct (tree b.value)
query_made with cs distinct b = search (rules, query_lemmas)

pub into_parts : (i : Into) → into_part i ≡ (i.var, option_map tree i.what, i.keep)
into_parts i = search (rules, into_lemmas)
