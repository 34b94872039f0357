-- What a plan gives without an unnecessary filter, it gave with it.
use Rattle.std.proofs.Common.{◌≡◌, ◌∙◌, ◌<◌, List, true, false, refl, ap, sym, subst, subst₂, arith, ◌+◌}
use Rattle.std.specs.Prelude.{Option, Some, None, MatchOption}
use Rattle.aql_value.specs.Datum.{Datum}
use Rattle.aql_value.specs.Truth.{truth}
use Rattle.aql_tree.specs.declared.syntax.Ident.{Ident}
use Rattle.aql_tree.specs.declared.syntax.Expr.{Expr}
use Rattle.aql_tree.specs.Tree.{ExprTree, literal}
use Rattle.aql_tree.specs.View.{tree}
use Rattle.aql_meaning.specs.Uses.{Uses}
use Rattle.aql_plan.specs.declared.facts.Facts.{Facts}
use Rattle.aql_plan.specs.Plan.{Plan, Over, Filter, NoResults}
use Rattle.aql_plan.specs.Needs.{result_uses}
use Rattle.aql_plan.specs.Runs.{Outside}
use Rattle.aql_plan.specs.Refines.{dataset}
use Rattle.aql_plan.specs.Shapes.{Shape, Shaped, plain_rows}
use Rattle.aql_plan_laws.specs.laws.Agreement.{rows_agree}
use Rattle.aql_plan.specs.laws.SomeRun.{some_run}
use Rattle.aql_rewrite.specs.declared.swap.Rename.{Rename}
use Rattle.aql_rewrite.specs.Places.{First}
use Rattle.aql_rewrite.specs.Placed.{Placed, IsWhole}
use Rattle.aql_rewrite.specs.Swaps.{Replaced, KeepsPlaced}
use Rattle.aql_rules_filter.specs.Readers.{literal_in, filter_in, plan_emptied}
use Rattle.aql_rules_filter.specs.Measures.{filters, is_filter}
use Rattle.aql_rules_filter.specs.RemoveUnnecessaryFilters.{Removes, passing, failing}
use Rattle.aql_rewrite.specs.laws.Falling.{total_falls}
use Rattle.aql_rules_filter.specs.laws.Filtered.{holds, filtered, all_pass, none_pass}
use Rattle.aql_rules_filter.specs.laws.Filters.{filter_shaped, same_filters}
use Rattle.aql_plan.specs.Nodes.{weight}
use Rattle.aql_rewrite.specs.Sums.{total}

pub removes_refine : (facts : Facts) (us : Uses) (p q : Plan) (r : Option Rename) → Removes us p q r
    → Replaced false facts us p q r
removes_refine facts _ _ _ _ (passing {us = us} {v = v} e) = λ db meets start out g. (
  out,
  (out, g, sym (filtered (literal v) out ∙ all_pass (holds (literal v)) (λ row. e) out)),
  rows_agree us out,
)
removes_refine facts _ _ _ _ (failing {us = us} {b = b} {v = v} e) = λ db meets start out g.
    let some = some_run b (dataset facts db) Outside start in (
      out,
      (
        some.0,
        some.1,
        g ∙ sym (filtered (literal v) some.0 ∙ none_pass (holds (literal v)) (λ row. e) some.0),
      ),
      rows_agree us out,
    )

pub removes_keep : (facts : Facts) (outer away : List Ident) (us : Uses) (p q : Plan) (r : Option Rename)
    → Placed false false facts outer away us p → Removes us p q r
    → KeepsPlaced false false facts outer us p q r
removes_keep facts outer away _ _ _ _ placed (passing {us = us} {b = b} {v = v} e) = record {
  suits = placed.suits.0;
  shape = λ s out h.
      let k = filter_shaped facts b (literal v) s out h in
      subst (λ (t : Shape). Shaped facts b t) (sym k.0) k.2;
  found = placed.found.0;
  vars = λ x used h. h;
  fewer = λ x. omega arith;
}
removes_keep facts outer away _ _ _ _ placed (failing {us = us} {b = b} {v = v} e) = record {
  suits = (placed.suits.0, tt);
  shape = λ s out h.
      let k = filter_shaped facts b (literal v) s out h in
      subst (λ (t : Shape). Shaped facts (Over b NoResults) t) (sym k.0) (plain_rows tt tt k.2);
  found = (placed.found.0, refl, refl, tt);
  vars = λ x used h. h;
  fewer = λ x. omega arith;
}

removes_lower : (us : Uses) (p q : Plan) (r : Option Rename) → Removes us p q r → filters q < filters p
removes_lower _ _ _ _ (passing e) = omega arith
removes_lower _ _ _ _ (failing e) = omega arith

pub removes_blind : (us vs : Uses) (p q : Plan) (r : Option Rename) → Removes us p q r → Removes vs p q r
removes_blind _ vs _ _ _ (passing e) = (passing e)
removes_blind _ vs _ _ _ (failing e) = (failing e)

pub removes_nameless : (us : Uses) (p q : Plan) (r : Option Rename) → Removes us p q r → r ≡ None
removes_nameless _ _ _ _ (passing e) = refl
removes_nameless _ _ _ _ (failing e) = refl

pub removes_shrink : (us : Uses) (p q : Plan) (r : Option Rename) → Removes us p q r
    → weight q + total is_filter q < weight p + total is_filter p
removes_shrink _ _ _ _ (passing e) = omega arith
removes_shrink _ _ _ _ (failing e) = omega arith

pub removes_fall : (facts : Facts) (p q : Plan) (r : Option Rename) → IsWhole false facts p
    → First Removes false result_uses p q r → filters q < filters p
removes_fall facts = total_falls is_filter same_filters facts Removes removes_lower

-- ---- what the rule finds

literal_is : (e : ExprTree) (v : Datum) → literal_in e ≡ Some v → e ≡ literal v
literal_is (literal u) v h = let k : u ≡ v = cc in ap literal k
literal_is e v h = cc

none_found : (us : Uses) (b : Plan) (e : ExprTree) → literal_in e ≡ None
    → (q : Plan) (r : Option Rename) → Removes us (Over b (Filter e)) q r → ⊥
none_found us _ _ h _ _ (passing t) = cc
none_found us _ _ h _ _ (failing t) = cc

pub removes_stays : (us : Uses) (p b : Plan) (e : ExprTree) → p ≡ Over b (Filter e) → literal_in e ≡ None
    → (q : Plan) (r : Option Rename) → Removes us p q r → ⊥
removes_stays us p b e d h =
    subst (λ (m : Plan). (q : Plan) (r : Option Rename) → Removes us m q r → ⊥) (sym d) (none_found us b e h)

-- what is left without the filter, and with NoResults in its place
input_left : (p b q : Plan) (e : ExprTree) (taken : Option Expr) → p ≡ Over b (Filter e)
    → MatchOption taken ((filter_in p ≡ None) × (q ≡ p)) (λ c. p ≡ Over q (Filter (tree c))) → q ≡ b
input_left p b q e None d h =
    let k : ◌≡◌ {A = Option (Plan × ExprTree)} None (Some (b, e)) = sym h.0 ∙ ap filter_in d in cc
input_left p b q e (Some c) d h = let k : Over q (Filter (tree c)) ≡ Over b (Filter e) = sym h ∙ d in cc

pub passing_at : (us : Uses) (p b q : Plan) (e : ExprTree) (v : Datum) (taken : Option Expr)
    → p ≡ Over b (Filter e) → literal_in e ≡ Some v → truth v ≡ true
    → MatchOption taken ((filter_in p ≡ None) × (q ≡ p)) (λ c. p ≡ Over q (Filter (tree c)))
    → Removes us p q None
passing_at us p b q e v taken d h t k = subst₂ (λ (m s : Plan). Removes us m s None)
    (sym (d ∙ ap (λ c. Over b (Filter c)) (literal_is e v h))) (sym (input_left p b q e taken d k))
    (passing t)

pub failing_at : (us : Uses) (p b q : Plan) (e : ExprTree) (v : Datum) → p ≡ Over b (Filter e)
    → literal_in e ≡ Some v → truth v ≡ false → q ≡ plan_emptied p → Removes us p q None
failing_at us p b q e v d h t k = subst₂ (λ (m s : Plan). Removes us m s None)
    (sym (d ∙ ap (λ c. Over b (Filter c)) (literal_is e v h))) (sym (k ∙ ap plan_emptied d)) (failing t)
