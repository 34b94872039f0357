-- The worked clauses: most are computed; where another order is an answer too, the order is given.
use Rattle.std.proofs.Common.{refl, List, [], ◌∷◌, false, true}
use Rattle.std.specs.Prelude.{codes}
use Rattle.aql_value.specs.Datum.{Datum}
use Rattle.aql_value.specs.Contents.{list}
use Rattle.aql_tree.specs.declared.syntax.Ident.TheVariants.{Name}
use Rattle.aql_tree.specs.Tree.{subquery, limit, range_of}
use Rattle.aql_tree.specs.View.{clauses, sort, at}
use Rattle.aql_tree.specs.Build as build
use Rattle.aql_meaning.specs.Row.{Row, empty_row, bind}
use Rattle.aql_meaning.specs.Meaning.{Changes, IsAnswer}
use Rattle.aql_meaning.specs.laws.SomeAnswer.{some_answer}
use Rattle.aql_meaning.specs.laws.Shuffles.{skip, flip, permutes}
use Rattle.aql_meaning.specs.worked.Words.{num, str, attr, document, int, var, dot, for, set, returning}
use Rattle.aql_meaning.specs.worked.Expressions.{items}
use Rattle.aql_meaning.specs.worked.Clauses.{WorkedClauses, a_and_b, two, with_ties, keys_of_c, one_of_a}
use Rattle.aql_meaning.proofs.Computed.{computed}
use Rattle.aql_meaning.proofs.Orders.{answer_behind, in_any_order}

-- the row with a document of A
abbrev at_a : Datum → Row
at_a d = bind (Name (codes "a")) empty_row d

abbrev p : Datum
p = document "A/p" "p" []

abbrev q : Datum
q = document "A/q" "q" []

q_first : Changes a_and_b (for "a" (var "A")) empty_row [] (empty_row ∷ []) (at_a q ∷ at_a p ∷ [])
q_first = permutes (flip (at_a p) (at_a q) [])

key_q : IsAnswer a_and_b (returning (for "a" (var "A") ∷ limit 0 1 ∷ []) (dot (var "a") "_key")) empty_row
    (str "q" ∷ [])
key_q =
    (answer_behind a_and_b [] (for "a" (var "A")) (clauses (limit 0 1 ∷ [])) false
    (dot (var "a") "_key") empty_row
    (at_a q ∷ at_a p ∷ []) q_first).1

pairs_q : IsAnswer a_and_b one_of_a empty_row
    (list (str "q" ∷ str "u" ∷ []) ∷ list (str "q" ∷ str "v" ∷ []) ∷ list (str "q" ∷ str "w" ∷ []) ∷ [])
pairs_q = (answer_behind a_and_b [] (for "a" (var "A")) (clauses (limit 0 1 ∷ for "b" (var "B") ∷ [])) false
    (items (dot (var "a") "_key" ∷ dot (var "b") "_key" ∷ [])) empty_row (at_a q ∷ at_a p ∷ []) q_first).1

-- the row with a document of c
abbrev at_x : Datum → Row
at_x d = bind (Name (codes "x")) empty_row d

abbrev of_c : Datum → Datum → Datum → Datum → List Row
of_c d e f g = at_x d ∷ at_x e ∷ at_x f ∷ at_x g ∷ []

pub worked_clauses : WorkedClauses
worked_clauses = record {
  count_of_none = computed _ _ _ refl;
  count_of_start = computed _ _ _ refl;
  exact_sum = computed _ _ _ refl;
  all_p = computed _ _ _ refl;
  all_q = record {
    answer = (answer_behind a_and_b []
        (set "x" (subquery (returning (for "a" (var "A") ∷ limit 0 1 ∷ []) (dot (var "a") "_key"))))
        (clauses (for "i" (range_of (int 1) (int 3)) ∷ [])) false
        (build.with_steps (var "x") (at (int 0)) []) empty_row
        (bind (Name (codes "x")) empty_row (list (str "q" ∷ [])) ∷ [])
        (list (str "q" ∷ []) ∷ [], ((str "q" ∷ [], key_q, refl), tt), refl)).1;
  };
  pairs_of_p = record {
    answer =
        λ out h. in_any_order a_and_b [] (clauses (for "a" (var "A") ∷ limit 0 1 ∷ for "b" (var "B") ∷ []))
        (items (dot (var "a") "_key" ∷ dot (var "b") "_key" ∷ [])) empty_row _ out refl
        (some_answer a_and_b one_of_a empty_row).1 h;
  };
  pairs_of_q = record {
    answer =
        λ out h. in_any_order a_and_b [] (clauses (for "a" (var "A") ∷ limit 0 1 ∷ for "b" (var "B") ∷ []))
        (items (dot (var "a") "_key" ∷ dot (var "b") "_key" ∷ [])) empty_row _ out refl pairs_q h;
  };
  ties = computed _ _ _ refl;
  ties_turned = record {
    answer = (answer_behind with_ties [] (for "x" (var "c"))
        (clauses (sort ((dot (var "x") "n", true) ∷ []) ∷ limit 1 2 ∷ [])) false
        (dot (var "x") "_key") empty_row
        (of_c (document "c/e" "e" (attr "n" (num 1) ∷ [])) (document "c/a" "a" (attr "n" (num 5) ∷ []))
        (document "c/d" "d" (attr "n" (num 3) ∷ [])) (document "c/b" "b" (attr "n" (num 3) ∷ [])))
        (permutes (skip _ (skip _ (flip _ _ []))))).1;
  };
  each_document = record {
    answer =
        λ out h. in_any_order two [] (clauses (for "x" (var "c") ∷ []))
        (dot (var "x") "_key") empty_row _ out refl
        (some_answer two keys_of_c empty_row).1 h;
  };
  true_like_kept = computed _ _ _ refl;
  second_key = computed _ _ _ refl;
  none_taken = computed _ _ _ refl;
  all_skipped = computed _ _ _ refl;
  distinct_in_row_order = computed _ _ _ refl;
  distinct_keeps_the_first = computed _ _ _ refl;
  three_aggregates = computed _ _ _ refl;
  into_alone = computed _ _ _ refl;
  into_all_variables = computed _ _ _ refl;
  into_kept_variables = computed _ _ _ refl;
  counted_by_class = computed _ _ _ refl;
  two_criteria = computed _ _ _ refl;
  null_counts_as_distinct = computed _ _ _ refl;
  over_nothing = computed _ _ _ refl;
  sum_out_of_range = computed _ _ _ refl;
}
