-- Worked queries: lists that are no answers.
use Rattle.std.specs.Prelude.{[], ◌∷◌, true, Some, None, codes}
use Rattle.aql_tree.specs.declared.syntax.Direction.TheVariants.{Outbound}
use Rattle.aql_tree.specs.Tree.{QueryTree}
use Rattle.aql_tree.specs.Build as build
use Rattle.aql_tree.specs.View.{sort, collect_clause}
use Rattle.aql_meaning.specs.worked.Words.{num, str, int, var, fn, for, returning, IsNoAnswer}
use Rattle.aql_meaning.specs.worked.Expressions.{items}
use Rattle.aql_meaning.specs.worked.Clauses.{a_and_b, one_subquery, two, keys_of_c}
use Rattle.aql_meaning.specs.worked.Traversals.{vertex_alone, traversal, key, at_key, ring, shortcut, diamond, chosen_paths, path_ab, path_ac, path_abc, path_abd, path_acd}

-- FOR x IN [1,2] SORT x DESC RETURN x
abbrev pub downwards : QueryTree
downwards =
    returning (for "x" (items (int 1 ∷ int 2 ∷ [])) ∷ sort ((var "x", true) ∷ []) ∷ []) (var "x")

-- FOR x IN [3,1] COLLECT INTO g = x RETURN LENGTH(g)
abbrev pub group_length : QueryTree
group_length = returning (for "x" (items (int 3 ∷ int 1 ∷ []))
    ∷ collect_clause ([], [], Some (build.collect_into (codes "g") (Some (var "x")) [])) ∷ [])
    (fn "LENGTH" (var "g" ∷ []))

pub record RefutedAnswers : Type 0 where
  -- FOR x IN [2,1,2] RETURN DISTINCT x: the first of equal values counts
  pub last_kept : IsNoAnswer []
      (build.query [] (for "x" (items (int 2 ∷ int 1 ∷ int 2 ∷ [])) ∷ []) true (var "x")) (num 1 ∷ num 2 ∷ [])
  -- the rows as they came, and not in descending order
  pub not_sorted : IsNoAnswer [] downwards (num 1 ∷ num 2 ∷ [])
  -- a document given twice in the place of another, and a document left out
  pub document_twice : IsNoAnswer two keys_of_c (str "a" ∷ str "a" ∷ [])
  pub document_left_out : IsNoAnswer two keys_of_c (str "a" ∷ [])
  -- a member that INTO does not take
  pub member_left_out : IsNoAnswer [] group_length (num 1 ∷ [])
  -- LET x = (FOR a IN A LIMIT 1 RETURN a._key) FOR i IN 1..3 RETURN x[0]: the subquery is evaluated once
  pub evaluated_again : IsNoAnswer a_and_b one_subquery (str "p" ∷ str "q" ∷ str "p" ∷ [])
  -- FOR v IN 1..4 OUTBOUND "n/a" e PRUNE v._key == "c" RETURN v._key: there is no path after c
  pub beyond_prune : IsNoAnswer ring
      (returning (traversal vertex_alone 1 4 Outbound "n/a" (at_key "c") [] ∷ []) key)
      (str "b" ∷ str "c" ∷ str "a" ∷ [])
  -- the path by b to a vertex that one step from a reaches
  pub later_depth : IsNoAnswer shortcut (chosen_paths None) (path_ab ∷ path_abc ∷ [])
  -- two paths to d, none to d, and the path to d by b, where b is pruned
  pub two_paths : IsNoAnswer diamond (chosen_paths None) (path_ab ∷ path_ac ∷ path_abd ∷ path_acd ∷ [])
  pub vertex_left_out : IsNoAnswer diamond (chosen_paths None) (path_ab ∷ path_ac ∷ [])
  pub beyond_pruned_b : IsNoAnswer diamond (chosen_paths (at_key "b")) (path_ab ∷ path_ac ∷ path_abd ∷ [])
