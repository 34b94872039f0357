-- The laws of the two rules, put together: the bounds that the items of a condition give hold wherever the
-- condition does, and items that are bounds hold wherever the bounds do.
use Rattle.std.proofs.Common.{◌≡◌, ◌∙◌, ℕ, List, [], ◌∷◌, true, ◌&&◌, Option, Some, None, refl, sym, ap, ap₂}
use Rattle.std.specs.List.{AllByRecursion, list_all, cons_option}
use Rattle.std.proofs.lemmas.Bool.{and_parts}
use Rattle.aql_value.specs.Datum.{Datum}
use Rattle.aql_tree.specs.declared.syntax.Ident.{Ident}
use Rattle.aql_tree.specs.Tree.{ExprTree, ExprTrees}
use Rattle.aql_meaning.specs.AtRows.{value_of, keys_of}
use Rattle.aql_meaning.specs.Documents.{Last, last_map, in_bounds}
use Rattle.aql_meaning.specs.Row.{Row, bind}
use Rattle.aql_plan.specs.declared.facts.IndexKind.{IndexKind}
use Rattle.aql_plan.specs.Facts.{attributes_in}
use Rattle.aql_plan.specs.FirstPlan.{conjuncts}
use Rattle.aql_plan.specs.Plan.{Reading}
use Rattle.aql_plan.specs.Runs.{Dataset}
use Rattle.aql_rules_index.specs.Choice.{Item, item_of, items_of, bounds_for}
use Rattle.aql_rules_index.specs.RemoveFilterCoveredByIndex.{Drops, no_more, keeps, drops}
use Rattle.aql_rules_filter.specs.laws.Filtered.{holds}
use Rattle.aql_rules_filter.specs.laws.Joined.{parts_hold}
use Rattle.aql_rules_index.specs.Tests.{in_index}
use Rattle.aql_rules_index.specs.Theorems.{bounds_by, UseIndexesRefines, RemoveFilterCoveredByIndexRefines}
use Rattle.aql_rules_index.specs.laws.Items.{item_is}
use Rattle.aql_rules_index.specs.laws.Implied.{Says, index_met, covered_says}
use Rattle.aql_rules_index.specs.laws.Rows.{narrowed, covered}

-- ---- use-indexes

module _ (x : Ident) (row : Row) (d : Datum) where
  pub all_say : (es : List ExprTree) → list_all (λ e. holds e (bind x row d)) es ≡ true
      → AllByRecursion (Says row d) (items_of x es)
  all_say [] h = tt
  all_say (e ∷ es) h =
      let k = and_parts (holds e (bind x row d)) (list_all (λ f. holds f (bind x row d)) es) h in
      by (item_of x e) refl k.0 (all_say es k.1)
    where
      by : (o : Option Item) → item_of x e ≡ o → holds e (bind x row d) ≡ true
          → AllByRecursion (Says row d) (items_of x es)
          → AllByRecursion (Says row d) (cons_option o (items_of x es))
      by None f g ih = ih
      by (Some i) f g ih = (sym (item_is x row d e i f) ∙ g, ih)

condition_in_bounds : (k : IndexKind) (names : List (List ℕ)) (x : Ident) (c : ExprTree) (row : Row)
    (d : Datum) → holds c (bind x row d) ≡ true
    → in_bounds names (keys_of (bounds_for k names (items_of x (conjuncts c))).equal row)
    (last_map (λ e. value_of e row) (bounds_for k names (items_of x (conjuncts c))).last) d ≡ true
condition_in_bounds k names x c row d h = index_met row d k names (items_of x (conjuncts c))
    (all_say x row d (conjuncts c) (parts_hold (bind x row d) c ∙ h))

pub uses_index : UseIndexesRefines
uses_index k w x index c f a b start out h =
    narrowed w x index (bounds_by k w x index c).equal (bounds_by k w x index c).last c f a
    (λ row d held. condition_in_bounds k (attributes_in w.facts x.coll index) x.var c row d held)
    b start out h

-- ---- remove-filter-covered-by-index

module _ (w : Dataset) (x : Reading) (index : ℕ) (equal : ExprTrees) (last : Last ExprTree) (row : Row)
    (d : Datum) (inside : in_index w x index equal last row d ≡ true) where
  -- what is left of the items holds where all of them do
  pub rest_holds : (es left : List ExprTree)
      → Drops (attributes_in w.facts x.coll index) x.var equal last es left
      → list_all (λ e. holds e (bind x.var row d)) es ≡ list_all (λ e. holds e (bind x.var row d)) left
  rest_holds _ _ no_more = refl
  rest_holds _ _ (keeps {e = e} {es = es} {left = left} r) =
      ap (λ b. holds e (bind x.var row d) && b) (rest_holds es left r)
  rest_holds _ _ (drops {e = e} {es = es} {left = left} (i, fits, is_bound) r) =
      ap₂ (λ a b. a && b)
      (item_is x.var row d e i fits
      ∙ covered_says row d (attributes_in w.facts x.coll index) equal last i is_bound inside)
      (rest_holds es left r)

-- items that are bounds may go: c is the condition, and e what is left of it
pub drops_items : RemoveFilterCoveredByIndexRefines
drops_items w x index equal last ordered c e left a gone rest b start out h =
    covered w x index equal last ordered c e a
    (λ row d inside. sym (parts_hold (bind x.var row d) c)
    ∙ rest_holds w x index equal last row d inside (conjuncts c) left gone ∙ sym (rest (bind x.var row d)))
    b start out h
