-- The best of all candidates is the choice, and where there is one the rule use-indexes applies.
use Rattle.std.proofs.Common.{◌≡◌, ℕ, List, [], Option, Some, None, sym}
use Rattle.std.specs.Prelude.{option_map, MatchOption}
use Rattle.aql_tree.specs.declared.syntax.Ident.{Ident}
use Rattle.aql_tree.specs.Tree.{ExprTree}
use Rattle.aql_plan.specs.declared.facts.Facts.{Facts}
use Rattle.aql_plan.specs.FirstPlan.{conjuncts}
use Rattle.aql_plan.specs.Plan.{Plan, Over, Filter, top}
use Rattle.aql_rewrite.specs.Places.{Stays}
use Rattle.aql_rules_index.specs.declared.choice.Candidate.{Candidate}
use Rattle.aql_rules_index.specs.Choice.{Item, items_of, candidates, IsChosen}
use Rattle.aql_rules_index.specs.UseIndexes.{UsesIndex}
use Rattle.aql_rules_index.specs.inner.Readers.{bare_reading, var_and_coll, input_indexed}
use Rattle.aql_rules_index.specs.inner.Views.{candidate_tree}
use Rattle.aql_rules_index.specs.inner.Least.{best_of}
use Rattle.aql_rules_index.specs.laws.LeastGuess.{chosen_is, none_best}
use Rattle.aql_rules_index.specs.laws.IndexUsed.{no_candidate, used_at}

module _ (facts : Facts) (coll : ℕ) (is : List Item) where
  pub choice_is : (o : Option Candidate)
      → option_map candidate_tree o ≡ best_of facts coll None (candidates facts coll is)
      → MatchOption o (candidates facts coll is ≡ []) (λ c. IsChosen facts coll is (candidate_tree c))
  choice_is None h = none_best facts coll (candidates facts coll is) (sym h)
  choice_is (Some c) h = chosen_is facts coll is (candidate_tree c) (sym h)

module _ (facts : Facts) (p b : Plan) (c : ExprTree) (v : Ident) (coll : ℕ) (is : p ≡ Over b (Filter c))
    (read : var_and_coll (bare_reading (top b)) ≡ Some (v, coll)) where
  pub index_at : (o : Option Candidate)
      → MatchOption o (candidates facts coll (items_of v (conjuncts c)) ≡ [])
      (λ k. IsChosen facts coll (items_of v (conjuncts c)) (candidate_tree k))
      → MatchOption o (Stays (UsesIndex facts) [] p)
      (λ k. UsesIndex facts [] p (input_indexed (candidate_tree k) None p) None)
  index_at None h = no_candidate facts [] p b c v coll is read h
  index_at (Some k) h = used_at facts [] p b c v coll (candidate_tree k) is read h
