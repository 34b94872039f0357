-- Worked queries: FOR, SORT, LIMIT, COLLECT and RETURN, each with what it prints.
use Rattle.std.specs.Prelude.{ℕ, negsuc, [], ◌∷◌, true, false, Some, None, codes}
use Prim.Native.String.{String}
use Rattle.aql_value.specs.Datum.{number, null}
use Rattle.aql_value.specs.Contents.{list, record_of}
use Rattle.aql_value.specs.Database.{Database}
use Rattle.aql_tree.specs.Tree.{ExprTree, subquery, range_of, filter_by, limit, ClauseTree, QueryTree}
use Rattle.aql_tree.specs.Build as build
use Rattle.aql_tree.specs.View.{sort, collect_clause, at}
use Rattle.aql_meaning.specs.worked.Words.{num, str, attr, document, collection, int, var, dot, fn, for, set, agg, returning, Answers, AnswersInAnyOrder}
use Rattle.aql_meaning.specs.worked.Expressions.{items, nothing}

-- `COLLECT WITH COUNT INTO n`
abbrev pub count_into : String → ClauseTree
count_into n = collect_clause ([], agg n "LENGTH" None ∷ [], None)

-- `COLLECT AGGREGATE s = SUM(e)`
abbrev pub sum_into : String → ExprTree → ClauseTree
sum_into s e = collect_clause ([], agg s "SUM" (Some e) ∷ [], None)

-- `x[n]`
abbrev pub place : String → ℕ → ExprTree
place x n = build.with_steps (var x) (at (int n)) []

-- `[m, n]`
abbrev pub pair : ℕ → ℕ → ExprTree
pair m n = items (int m ∷ int n ∷ [])

-- ---- databases

abbrev pub empty_c : Database
empty_c = collection "c" [] ∷ []

abbrev pub big_c : Database
big_c = collection "c" (document "c/1" "1" (attr "n" (num 9223372036854775807) ∷ [])
    ∷ document "c/2" "2" (attr "n" (num 1) ∷ []) ∷ document "c/3" "3"
    (attr "n" (number (negsuc 0)) ∷ []) ∷ []) ∷ []

abbrev pub a_and_b : Database
a_and_b = collection "A" (document "A/p" "p" [] ∷ document "A/q" "q" [] ∷ [])
    ∷ collection "B" (document "B/u" "u" [] ∷ document "B/v" "v" [] ∷ document "B/w" "w" [] ∷ []) ∷ []

abbrev pub with_ties : Database
with_ties =
    collection "c" (document "c/e" "e" (attr "n" (num 1) ∷ []) ∷ document "c/a" "a" (attr "n" (num 5) ∷ [])
    ∷ document "c/b" "b" (attr "n" (num 3) ∷ []) ∷ document "c/d" "d" (attr "n" (num 3) ∷ []) ∷ []) ∷ []

abbrev pub two : Database
two = collection "c" (document "c/a" "a" [] ∷ document "c/b" "b" [] ∷ []) ∷ []

abbrev pub groups : Database
groups = collection "c" (document "c/1" "1" (attr "g" (num 1) ∷ attr "n" (num 5) ∷ [])
    ∷ document "c/2" "2" (attr "g" (num 1) ∷ attr "n" null ∷ [])
    ∷ document "c/3" "3" (attr "g" (num 2) ∷ attr "n" (str "x") ∷ []) ∷ []) ∷ []

-- ---- queries with more than one answer

-- FOR a IN A LIMIT 1 RETURN a._key
abbrev pub first_key_of_a : QueryTree
first_key_of_a = returning (for "a" (var "A") ∷ limit 0 1 ∷ []) (dot (var "a") "_key")

-- LET x = (FOR a IN A LIMIT 1 RETURN a._key) FOR i IN 1..3 RETURN x[0]
abbrev pub one_subquery : QueryTree
one_subquery =
    returning (set "x" (subquery first_key_of_a) ∷ for "i" (range_of (int 1) (int 3)) ∷ []) (place "x" 0)

-- FOR a IN A LIMIT 1 FOR b IN B RETURN [a._key, b._key]
abbrev pub one_of_a : QueryTree
one_of_a = returning (for "a" (var "A") ∷ limit 0 1 ∷ for "b" (var "B") ∷ [])
    (items (dot (var "a") "_key" ∷ dot (var "b") "_key" ∷ []))

-- FOR x IN c RETURN x._key
abbrev pub keys_of_c : QueryTree
keys_of_c = returning (for "x" (var "c") ∷ []) (dot (var "x") "_key")

-- FOR x IN c SORT x.n DESC LIMIT 1, 2 RETURN x._key
abbrev pub second_and_third : QueryTree
second_and_third = returning (for "x" (var "c") ∷ sort ((dot (var "x") "n", true) ∷ []) ∷ limit 1 2 ∷ [])
    (dot (var "x") "_key")

pub record WorkedClauses : Type 0 where
  -- FOR d IN c COLLECT WITH COUNT INTO n RETURN n
  pub count_of_none : Answers empty_c (returning (for "d" (var "c") ∷ count_into "n" ∷ []) (var "n"))
      (num 0 ∷ [])
  -- COLLECT WITH COUNT INTO n RETURN n
  pub count_of_start : Answers [] (returning (count_into "n" ∷ []) (var "n")) (num 1 ∷ [])
  -- FOR d IN c COLLECT AGGREGATE s = SUM(d.n) RETURN s
  pub exact_sum : Answers big_c
      (returning (for "d" (var "c") ∷ sum_into "s" (dot (var "d") "n") ∷ []) (var "s"))
      (num 9223372036854775807 ∷ [])
  -- a subquery is evaluated once per row of its clause
  pub all_p : Answers a_and_b one_subquery (str "p" ∷ str "p" ∷ str "p" ∷ [])
  pub all_q : Answers a_and_b one_subquery (str "q" ∷ str "q" ∷ str "q" ∷ [])
  pub pairs_of_p : AnswersInAnyOrder a_and_b one_of_a
      (list (str "p" ∷ str "u" ∷ []) ∷ list (str "p" ∷ str "v" ∷ []) ∷ list (str "p" ∷ str "w" ∷ []) ∷ [])
  pub pairs_of_q : AnswersInAnyOrder a_and_b one_of_a
      (list (str "q" ∷ str "u" ∷ []) ∷ list (str "q" ∷ str "v" ∷ []) ∷ list (str "q" ∷ str "w" ∷ []) ∷ [])
  -- rows with equal keys come in either order
  pub ties : Answers with_ties second_and_third (str "b" ∷ str "d" ∷ [])
  pub ties_turned : Answers with_ties second_and_third (str "d" ∷ str "b" ∷ [])
  -- the documents of a collection come in any order
  pub each_document : AnswersInAnyOrder two keys_of_c (str "a" ∷ str "b" ∷ [])
  -- FOR x IN [1, null, 2, 0] FILTER x RETURN x
  pub true_like_kept : Answers []
      (returning (for "x" (items (int 1 ∷ nothing ∷ int 2 ∷ int 0 ∷ [])) ∷ filter_by (var "x") ∷ [])
      (var "x"))
      (num 1 ∷ num 2 ∷ [])
  -- FOR x IN [[1,1],[1,2]] SORT x[0], x[1] DESC RETURN x[1]
  pub second_key : Answers []
      (returning (for "x" (items (pair 1 1 ∷ pair 1 2 ∷ []))
      ∷ sort ((place "x" 0, false) ∷ (place "x" 1, true) ∷ []) ∷ []) (place "x" 1))
      (num 2 ∷ num 1 ∷ [])
  -- FOR x IN c LIMIT 0 RETURN x, and LIMIT 2, 9223372036854775807
  pub none_taken : Answers two (returning (for "x" (var "c") ∷ limit 0 0 ∷ []) (var "x")) []
  pub all_skipped : Answers two (returning (for "x" (var "c") ∷ limit 2 9223372036854775807 ∷ [])
      (var "x")) []
  -- FOR x IN [1, 1, null, {}.a] RETURN DISTINCT x
  pub distinct_in_row_order : Answers []
      (build.query [] (for "x" (items (int 1 ∷ int 1 ∷ nothing ∷ dot (build.object []) "a" ∷ [])) ∷ []) true
      (var "x"))
      (num 1 ∷ null ∷ [])
  -- FOR x IN [2,1,2] RETURN DISTINCT x
  pub distinct_keeps_the_first : Answers []
      (build.query [] (for "x" (items (int 2 ∷ int 1 ∷ int 2 ∷ [])) ∷ []) true (var "x")) (num 2 ∷ num 1 ∷ [])
  -- FOR d IN c COLLECT g = d.g AGGREGATE k = COUNT(), s = SUM(d.n), m = MAX(d.n) RETURN [g,k,s,m]
  pub three_aggregates : Answers groups
      (returning (for "d" (var "c")
      ∷ collect_clause (
        build.assignment (codes "g") (dot (var "d") "g") ∷ [],
        agg "k" "COUNT" None ∷ agg "s" "SUM" (Some (dot (var "d") "n")) ∷ agg "m" "MAX"
            (Some (dot (var "d") "n")) ∷ [],
        None,
      ) ∷ [])
      (items (var "g" ∷ var "k" ∷ var "s" ∷ var "m" ∷ [])))
      (list (num 1 ∷ num 2 ∷ num 5 ∷ num 5 ∷ []) ∷ list (num 2 ∷ num 1 ∷ null ∷ str "x" ∷ []) ∷ [])
  -- FOR x IN [3,1] COLLECT INTO g = x RETURN SORTED(g)
  pub into_alone : Answers []
      (returning (for "x" (items (int 3 ∷ int 1 ∷ []))
      ∷ collect_clause ([], [], Some (build.collect_into (codes "g") (Some (var "x")) [])) ∷ [])
      (fn "SORTED" (var "g" ∷ [])))
      (list (num 1 ∷ num 3 ∷ []) ∷ [])
  -- FOR x IN [3] LET y = 4 COLLECT INTO g RETURN g, and INTO g KEEP y
  pub into_all_variables : Answers []
      (returning (for "x" (items (int 3 ∷ [])) ∷ set "y" (int 4)
      ∷ collect_clause ([], [], Some (build.collect_into (codes "g") None [])) ∷ []) (var "g"))
      (list (record_of (attr "x" (num 3) ∷ attr "y" (num 4) ∷ []) ∷ []) ∷ [])
  pub into_kept_variables : Answers []
      (returning (for "x" (items (int 3 ∷ [])) ∷ set "y" (int 4)
      ∷ collect_clause ([], [], Some (build.collect_into (codes "g") None (codes "y" ∷ []))) ∷ []) (var "g"))
      (list (record_of (attr "y" (num 4) ∷ []) ∷ []) ∷ [])
  -- FOR x IN [2,1,2] COLLECT k = x WITH COUNT INTO n RETURN [k, n]
  pub counted_by_class : Answers []
      (returning (for "x" (items (int 2 ∷ int 1 ∷ int 2 ∷ []))
      ∷ collect_clause (build.assignment (codes "k") (var "x") ∷ [], agg "n" "LENGTH" None ∷ [], None) ∷ [])
      (items (var "k" ∷ var "n" ∷ [])))
      (list (num 1 ∷ num 1 ∷ []) ∷ list (num 2 ∷ num 2 ∷ []) ∷ [])
  -- FOR x IN [[2,1],[1,2],[1,1],[1,2]] COLLECT a = x[0], b = x[1] WITH COUNT INTO n RETURN [a, b, n]
  pub two_criteria : Answers []
      (returning (for "x" (items (pair 2 1 ∷ pair 1 2 ∷ pair 1 1 ∷ pair 1 2 ∷ []))
      ∷ collect_clause (
        build.assignment (codes "a") (place "x" 0) ∷ build.assignment (codes "b") (place "x" 1) ∷ [],
        agg "n" "LENGTH" None ∷ [],
        None,
      ) ∷ [])
      (items (var "a" ∷ var "b" ∷ var "n" ∷ [])))
      (list (num 1 ∷ num 1 ∷ num 1 ∷ []) ∷ list (num 1 ∷ num 2 ∷ num 2 ∷ [])
      ∷ list (num 2 ∷ num 1 ∷ num 1 ∷ []) ∷ [])
  -- FOR x IN [1, null, 1] COLLECT AGGREGATE n = COUNT_DISTINCT(x) RETURN n
  pub null_counts_as_distinct : Answers []
      (returning (for "x" (items (int 1 ∷ nothing ∷ int 1 ∷ []))
      ∷ collect_clause ([], agg "n" "COUNT_DISTINCT" (Some (var "x")) ∷ [], None) ∷ []) (var "n"))
      (num 2 ∷ [])
  -- FOR x IN [] COLLECT AGGREGATE s = SUM(x), m = MIN(x), u = SORTED_UNIQUE(x) RETURN [s, m, u]
  pub over_nothing : Answers []
      (returning (for "x" (items [])
      ∷ collect_clause (
        [],
        agg "s" "SUM" (Some (var "x")) ∷ agg "m" "MIN" (Some (var "x"))
            ∷ agg "u" "SORTED_UNIQUE" (Some (var "x")) ∷ [],
        None,
      ) ∷ [])
      (items (var "s" ∷ var "m" ∷ var "u" ∷ [])))
      (list (num 0 ∷ null ∷ list [] ∷ []) ∷ [])
  -- FOR x IN [9223372036854775807, 1] COLLECT AGGREGATE s = SUM(x) RETURN s
  pub sum_out_of_range : Answers []
      (returning (for "x" (items (int 9223372036854775807 ∷ int 1 ∷ [])) ∷ sum_into "s" (var "x") ∷ [])
      (var "s"))
      (null ∷ [])
