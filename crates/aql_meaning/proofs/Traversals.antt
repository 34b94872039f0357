-- The worked traversals: most are computed; where another set of paths may be chosen, the set is given.
use Rattle.std.proofs.Common.{◌≡◌, refl, inl, inr, ◌≤◌, List, [], ◌∷◌, Bool, false, arith}
use Rattle.std.specs.Prelude.{Option, None, codes, IsPermutation}
use Rattle.std.proofs.lemmas.List.Sorted.{IsPermutation-refl, IsPermutation-trans, IsPermutation-reverse}
use Rattle.aql_value.specs.Datum.{Datum, null, boolean}
use Rattle.aql_value.specs.Database.{Database}
use Rattle.aql_value.specs.Truth.{truth}
use Rattle.aql_tree.specs.declared.syntax.Direction.TheVariants.{Outbound, Inbound, Any}
use Rattle.aql_tree.specs.Tree.{ExprTree, ClauseTree, TraversalShape, no_clauses, clause_then}
use Rattle.aql_tree.specs.View.{clauses, maybe, members}
use Rattle.aql_tree.specs.Build as build
use Rattle.aql_meaning.specs.Row.{Row, empty_row}
use Rattle.aql_meaning.specs.Value.{value_or}
use Rattle.aql_meaning.specs.Paths.{Path, IsChosen, along, empty_path, extension, path_row, with_paths}
use Rattle.aql_meaning.specs.Options.{with_settings}
use Rattle.aql_meaning.specs.Visible.{edges_named}
use Rattle.aql_meaning.specs.Meaning.{IsAnswer}
use Rattle.aql_meaning.specs.laws.SomeAnswer.{some_answer}
use Rattle.aql_meaning.specs.worked.Words.{str, edge, returning, AnswersInAnyOrder}
use Rattle.aql_meaning.specs.worked.Traversals.{WorkedTraversals, traversal, all_three, vertex_alone, global, each_vertex_once, edges_of_path, key, at_key, keys_of_path, ring, diamond, gap, chosen_paths, path_ab, path_ac, path_abd, path_acd}
use Rattle.aql_meaning.proofs.Computed.{computed}
use Rattle.aql_meaning.proofs.Orders.{EndsFree, answer_behind, in_any_order}
use Rattle.aql_meaning.proofs.ChosenSets.{Made, only_start, one_more, chosen}

in_all_orders : (db : Database) (c : ClauseTree) (e : ExprTree) (values : List Datum)
    → EndsFree (clause_then c no_clauses) empty_row [] → IsAnswer db (returning (c ∷ []) e) empty_row values
    → AnswersInAnyOrder db (returning (c ∷ []) e) values
in_all_orders db c e values f h =
    record { answer = λ out p. in_any_order db [] (clauses (c ∷ [])) e empty_row values out f h p }

-- ---- the walk in the diamond

abbrev pub raw_shape : TraversalShape
raw_shape = (build.traversal all_three 1 2 Outbound (build.text []) [] None global).0

abbrev pub shape : TraversalShape
shape = with_settings (members global) raw_shape

abbrev pub edges : List Datum
edges = edges_named diamond (codes "e" ∷ [])

abbrev pub holds : Option ExprTree → Row → Bool
holds prune row = truth (value_or (maybe prune) null row (boolean false))

abbrev pub pruned : Option ExprTree → Path → Bool
pruned prune t = holds prune (path_row diamond shape empty_row t)

abbrev pub from_a : Path
from_a = empty_path (codes "n/a")

abbrev pub by : Path → Datum → Path
by t e = extension t (along e)

abbrev pub ab : Datum
ab = edge "e/1" "n/a" "n/b"

abbrev pub ac : Datum
ac = edge "e/2" "n/a" "n/c"

abbrev pub bd : Datum
bd = edge "e/3" "n/b" "n/d"

abbrev pub cd : Datum
cd = edge "e/4" "n/c" "n/d"

-- the last path first
abbrev set_by_b : List Path
set_by_b = by (by from_a ab) bd ∷ by from_a ac ∷ by from_a ab ∷ from_a ∷ []

abbrev set_by_c : List Path
set_by_c = by (by from_a ac) cd ∷ by from_a ac ∷ by from_a ab ∷ from_a ∷ []

module _ (prune : Option ExprTree) (no_a : pruned prune from_a ≡ false) where
  first_two : Made shape edges (pruned prune) (codes "n/a") 2 (by from_a ac ∷ by from_a ab ∷ from_a ∷ [])
  first_two =
      let start = only_start shape edges (pruned prune) (codes "n/a") 2 in
      let b = one_more shape edges (pruned prune) (codes "n/a") 2 (from_a ∷ []) from_a (along ab)
      start (inl refl) no_a (inl refl) (let k : 1 ≤ 2 = omega arith in k) refl in
      one_more shape edges (pruned prune) (codes "n/a") 2 (by from_a ab ∷ from_a ∷ []) from_a (along ac)
      b (inr (inl refl)) no_a (inr (inl refl)) (let k : 1 ≤ 2 = omega arith in k) refl

  d_from_c : pruned prune (by from_a ac) ≡ false → Made shape edges (pruned prune) (codes "n/a") 2 set_by_c
  d_from_c no_c =
      one_more shape edges (pruned prune) (codes "n/a") 2 (by from_a ac ∷ by from_a ab ∷ from_a ∷ [])
      (by from_a ac)
      (along cd) first_two (inl refl) no_c (inl refl) (let k : 2 ≤ 2 = omega arith in k) refl

  d_from_b : pruned prune (by from_a ab) ≡ false → Made shape edges (pruned prune) (codes "n/a") 2 set_by_b
  d_from_b no_b =
      one_more shape edges (pruned prune) (codes "n/a") 2 (by from_a ac ∷ by from_a ab ∷ from_a ∷ [])
      (by from_a ab)
      (along bd) first_two (inr (inl refl)) no_b (inl refl) (let k : 2 ≤ 2 = omega arith in k) refl

-- the answer of a set of chosen paths, the last path first
abbrev answer_of : (prune : Option ExprTree) (T : List Path)
    → IsChosen shape edges (pruned prune) (codes "n/a") 2 T
    → (out : List Datum) × IsAnswer diamond (chosen_paths prune) empty_row out
answer_of prune T h =
    answer_behind diamond []
    (traversal all_three 1 2 Outbound "n/a" prune global) no_clauses false keys_of_path empty_row
    (with_paths diamond shape (empty_row ∷ []) (T ∷ []))
    (str "n/a" ∷ [], (refl, tt), (T ∷ [], (h, tt), IsPermutation-refl _))

in_order : (prune : Option ExprTree) (values turned : List Datum) → IsPermutation turned values
    → IsAnswer diamond (chosen_paths prune) empty_row turned
    → AnswersInAnyOrder diamond (chosen_paths prune) values
in_order prune values turned p h = record {
  answer = λ out q.
      in_any_order diamond []
      (clauses (traversal all_three 1 2 Outbound "n/a" prune global ∷ [])) keys_of_path empty_row
      turned out refl h (IsPermutation-trans _ _ _ p q);
}

pub worked_traversals : WorkedTraversals
worked_traversals = record {
  round = in_all_orders ring (traversal vertex_alone 1 4 Outbound "n/a" None []) key _ refl
      (some_answer ring (returning (traversal vertex_alone 1 4 Outbound "n/a" None [] ∷ []) key) empty_row).1;
  pruned = in_all_orders ring (traversal vertex_alone 1 4 Outbound "n/a" (at_key "c") []) key _ refl
      (some_answer ring
      (returning (traversal vertex_alone 1 4 Outbound "n/a" (at_key "c") [] ∷ []) key) empty_row).1;
  pruned_at_once = computed _ _ _ refl;
  vertices_once =
      in_all_orders ring (traversal vertex_alone 1 4 Outbound "n/a" None each_vertex_once) key _ refl
      (some_answer ring
      (returning (traversal vertex_alone 1 4 Outbound "n/a" None each_vertex_once ∷ []) key) empty_row).1;
  from_an_object = computed _ _ _ refl;
  edges_counted = in_all_orders ring (traversal all_three 0 1 Outbound "n/a" None []) edges_of_path _ refl
      (some_answer ring
      (returning (traversal all_three 0 1 Outbound "n/a" None [] ∷ []) edges_of_path) empty_row).1;
  against_edges = in_all_orders diamond (traversal vertex_alone 1 1 Inbound "n/d" None []) key _ refl
      (some_answer diamond
      (returning (traversal vertex_alone 1 1 Inbound "n/d" None [] ∷ []) key) empty_row).1;
  both_ways = in_all_orders ring (traversal vertex_alone 0 1 Any "n/a" None []) key _ refl
      (some_answer ring (returning (traversal vertex_alone 0 1 Any "n/a" None [] ∷ []) key) empty_row).1;
  no_document = computed _ _ _ refl;
  no_id = computed _ _ _ refl;
  self_loop = computed _ _ _ refl;
  loop_again = computed _ _ _ refl;
  over_a_gap = in_all_orders gap (traversal vertex_alone 1 2 Outbound "n/a" None []) key _ refl
      (some_answer gap (returning (traversal vertex_alone 1 2 Outbound "n/a" None [] ∷ []) key) empty_row).1;
  d_by_b = in_order None _ (path_abd ∷ path_ac ∷ path_ab ∷ []) (IsPermutation-reverse _)
      (answer_of None set_by_b (chosen _ _ _ _ _ set_by_b (d_from_b None refl refl) refl)).1;
  d_by_c = in_order None _ (path_acd ∷ path_ac ∷ path_ab ∷ []) (IsPermutation-reverse _)
      (answer_of None set_by_c (chosen _ _ _ _ _ set_by_c (d_from_c None refl refl) refl)).1;
  not_by_b = in_order (at_key "b") _ (path_acd ∷ path_ac ∷ path_ab ∷ []) (IsPermutation-reverse _)
      (answer_of (at_key "b") set_by_c (chosen _ _ _ _ _ set_by_c (d_from_c (at_key "b") refl refl) refl)).1;
}
