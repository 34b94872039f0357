-- Worked queries with what scoping makes of them: the query with numbers, and the names that the numbers
-- stand for. They go through the AQL manual's chapters on subqueries, on variables, on COLLECT and on
-- traversals.
use Rattle.std.specs.Prelude.{ℕ, ◌≡◌, List, [], ◌∷◌, map, Some, None, codes}
use Prim.Native.String.{String}
use Rattle.aql_tree.specs.declared.syntax.Ident.TheVariants.{Num}
use Rattle.aql_tree.specs.declared.syntax.Direction.TheVariants.{Outbound}
use Rattle.aql_tree.specs.Tree.{TraversalShape, ExprTree, variable, range_of, subquery, ClauseTree, for_each, for_documents, filter_by, let_be, QueryTree}
use Rattle.aql_tree.specs.Build as build
use Rattle.aql_tree.specs.View.{named, collect_clause, traversal_clause}
use Rattle.aql_meaning.specs.worked.Words.{int, txt, var, dot, for, set, agg, returning}
use Rattle.aql_meaning.specs.worked.Expressions.{items}
use Rattle.aql_scope.specs.Lifting.{scope_query}

-- the query becomes this one, and these are the names of the numbers from 1 on
pub record Becomes (written with_numbers : QueryTree) (names : List String) : Type 0 where
  pub tree : (scope_query [] 1 written).tree ≡ with_numbers
  pub said : (scope_query [] 1 written).said ≡ map (λ (name : String). codes name) names

-- ---- parts with numbers

abbrev pub nth : ℕ → ExprTree
nth n = variable (Num n)

abbrev pub for_nth : ℕ → ExprTree → ClauseTree
for_nth n e = for_each (Num n) e

abbrev pub set_nth : ℕ → ExprTree → ClauseTree
set_nth n e = let_be (Num n) e

-- ---- parts of the queries

-- (FOR y IN x RETURN y)
abbrev pub inner : ExprTree
inner = subquery (returning (for "y" (var "x") ∷ []) (var "y"))

abbrev pub inner_nth : ℕ → ℕ → ExprTree
inner_nth x y = subquery (returning (for_nth y (nth x) ∷ []) (nth y))

-- `COLLECT k = e`, and `COLLECT INTO g`
abbrev pub by_key : ExprTree → ClauseTree
by_key e = collect_clause (build.assignment (codes "k") e ∷ [], [], None)

abbrev pub all_into : ClauseTree
all_into = collect_clause ([], [], Some (build.collect_into (codes "g") None []))

-- the same with numbers, where INTO has its expression
abbrev pub by_nth : ℕ → ExprTree → ClauseTree
by_nth n e = collect_clause ((Num n, e) ∷ [], [], None)

abbrev pub into_nth : ℕ → ExprTree → ClauseTree
into_nth n e = collect_clause ([], [], Some (Num n, Some e, []))

-- `FOR v, e, p IN 1..2 OUTBOUND start edges PRUNE prune`
abbrev pub path_over : ExprTree → ExprTree → ClauseTree
path_over start prune =
    traversal_clause
    (build.traversal (record { vertex = codes "v"; edge = Some (codes "e"); path = Some (codes "p") })
    1 2 Outbound start (codes "edges" ∷ []) (Some prune) [])

abbrev pub path_shape : ℕ → ℕ → ℕ → TraversalShape
path_shape v e p = record {
  vertex = Num v;
  edge = Some (Num e);
  path = Some (Num p);
  min = 1;
  max = 2;
  direction = Outbound;
  options = build.default_options;
}

pub record WorkedQueries : Type 0 where
  -- FOR x IN docs FILTER (FOR y IN x RETURN y) LET z = (FOR y IN x RETURN y)
  -- RETURN [(FOR y IN x RETURN y), z]
  pub each_in_its_let : Becomes
      (returning (for "x" (var "docs") ∷ filter_by inner ∷ set "z" inner ∷ []) (items (inner ∷ var "z" ∷ [])))
      (returning (for_documents (Num 1) (codes "docs") ∷ set_nth 2 (inner_nth 1 3) ∷ filter_by (nth 2)
      ∷ set_nth 4 (inner_nth 1 5) ∷ set_nth 6 (inner_nth 1 7) ∷ []) (items (nth 6 ∷ nth 4 ∷ [])))
      ("x" ∷ "sub" ∷ "y" ∷ "z" ∷ "y" ∷ "sub" ∷ "y" ∷ [])
  -- RETURN (RETURN (RETURN 1))
  pub one_in_another : Becomes
      (returning [] (subquery (returning [] (subquery (returning [] (int 1))))))
      (returning
      (set_nth 1 (subquery (returning (set_nth 2 (subquery (returning [] (int 1))) ∷ []) (nth 2))) ∷ [])
      (nth 1))
      ("sub" ∷ "sub" ∷ [])
  -- LET docs = [1] FOR x IN docs RETURN x
  pub variable_before_collection : Becomes
      (returning (set "docs" (items (int 1 ∷ [])) ∷ for "x" (var "docs") ∷ []) (var "x"))
      (returning (set_nth 1 (items (int 1 ∷ [])) ∷ for_nth 2 (nth 1) ∷ []) (nth 2))
      ("docs" ∷ "x" ∷ [])
  -- FOR x IN [1] LET z = (FOR x IN [x] RETURN x) RETURN [x, z]
  pub latest_hides : Becomes
      (returning (for "x" (items (int 1 ∷ []))
      ∷ set "z" (subquery (returning (for "x" (items (var "x" ∷ [])) ∷ []) (var "x"))) ∷ [])
      (items (var "x" ∷ var "z" ∷ [])))
      (returning (for_nth 1 (items (int 1 ∷ []))
      ∷ set_nth 2 (subquery (returning (for_nth 3 (items (nth 1 ∷ [])) ∷ []) (nth 3))) ∷ [])
      (items (nth 1 ∷ nth 2 ∷ [])))
      ("x" ∷ "z" ∷ "x" ∷ [])
  -- FOR x IN 1..3 LET y = 4 COLLECT k = x AGGREGATE s = SUM(y) INTO g RETURN [k, s, g]
  pub grouped_with_all : Becomes
      (returning (for "x" (range_of (int 1) (int 3)) ∷ set "y" (int 4)
      ∷ collect_clause (
        build.assignment (codes "k") (var "x") ∷ [],
        agg "s" "SUM" (Some (var "y")) ∷ [],
        Some (build.collect_into (codes "g") None []),
      ) ∷ [])
      (items (var "k" ∷ var "s" ∷ var "g" ∷ [])))
      (returning (for_nth 1 (range_of (int 1) (int 3)) ∷ set_nth 2 (int 4)
      ∷ collect_clause (
        (Num 3, nth 1) ∷ [],
        (Num 4, codes "SUM", Some (nth 2)) ∷ [],
        Some (Num 5, Some (build.object (named (codes "x") (nth 1) ∷ named (codes "y") (nth 2) ∷ [])), []),
      ) ∷ [])
      (items (nth 3 ∷ nth 4 ∷ nth 5 ∷ [])))
      ("x" ∷ "y" ∷ "k" ∷ "s" ∷ "g" ∷ [])
  -- FOR o IN c LET z = (FOR x IN o COLLECT INTO g RETURN [o, g]) RETURN z
  pub outer_not_taken : Becomes
      (returning (for "o" (var "c") ∷ set "z" (subquery (returning (for "x" (var "o") ∷ all_into ∷ [])
      (items (var "o" ∷ var "g" ∷ [])))) ∷ []) (var "z"))
      (returning (for_documents (Num 1) (codes "c") ∷ set_nth 2 (subquery (returning (for_nth 3 (nth 1)
      ∷ into_nth 4 (build.object (named (codes "x") (nth 3) ∷ [])) ∷ []) (items (nth 1 ∷ nth 4 ∷ [])))) ∷ [])
      (nth 2))
      ("o" ∷ "z" ∷ "x" ∷ "g" ∷ [])
  -- FOR x IN 1..3 COLLECT k = x FOR z IN x RETURN z, where x is a collection after COLLECT
  pub hidden_by_collect : Becomes
      (returning (for "x" (range_of (int 1) (int 3)) ∷ by_key (var "x") ∷ for "z" (var "x") ∷ []) (var "z"))
      (returning (for_nth 1 (range_of (int 1) (int 3)) ∷ by_nth 2 (nth 1)
      ∷ for_documents (Num 3) (codes "x") ∷ []) (nth 3))
      ("x" ∷ "k" ∷ "z" ∷ [])
  -- LET s = "a/1" FOR v, e, p IN 1..2 OUTBOUND s edges PRUNE v.end RETURN p
  pub names_of_path : Becomes
      (returning (set "s" (txt "a/1") ∷ path_over (var "s") (dot (var "v") "end") ∷ []) (var "p"))
      (returning (set_nth 1 (txt "a/1")
      ∷ traversal_clause (path_shape 2 3 4, nth 1, codes "edges" ∷ [], Some (dot (nth 2) "end"), []) ∷ [])
      (nth 4))
      ("s" ∷ "v" ∷ "e" ∷ "p" ∷ [])
