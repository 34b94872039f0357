-- Nodes over permuted rows: those that go by row give permuted rows, and for those that ignore the order it
-- does not count.
use Rattle.std.proofs.Common.{◌≡◌, ◌∙◌, ℕ, List, [], ◌∷◌, map, true, true≢false, refl, ap, ap₂, sym, subst}
use Rattle.std.specs.Prelude.{flat_map, IsPermutation, Option, Some, None, unwrap_or, option_map}
use Rattle.std.specs.List.{AllZip}
use Rattle.std.proofs.lemmas.List.Sorted.{IsPermutation-map, IsPermutation-trans, IsPermutation-sym}
use Rattle.aql_value.specs.Datum.{Datum, null}
use Rattle.aql_value.specs.Contents.{list, elements, same}
use Rattle.aql_func.specs.Aggregates.{Aggregate, aggregate, aggregate_named}
use Rattle.aql_func.specs.laws.Shuffles.{shuffled}
use Rattle.aql_tree.specs.declared.syntax.Ident.{Ident}
use Rattle.aql_tree.specs.Tree.{ExprTrees, AggregateTrees, no_aggregates, aggregate_then, IntoTree, no_into, into}
use Rattle.aql_meaning.specs.declared.grouping.Stage.TheVariants as stage
use Rattle.aql_meaning.specs.AtRows.{keys_of, passes, stops, values_of}
use Rattle.aql_meaning.specs.Clauses.{with_each, with_elements, filter_true, with_values}
use Rattle.aql_meaning.specs.Documents.{documents_kept}
use Rattle.aql_meaning.specs.Groups.{aggregate_of}
use Rattle.aql_meaning.specs.Paths.{Traverses}
use Rattle.aql_meaning.specs.Row.{Row, bind, bind_all}
use Rattle.aql_meaning.specs.Stages.{taken_at}
use Rattle.aql_meaning.specs.Visible.{aggregate_vars}
use Rattle.aql_meaning.specs.laws.RowByRow.{elements_flat, kept_flat, bound_flat, one_if, traversal_permuted}
use Rattle.aql_meaning.specs.laws.Shuffles.{shuffle, flat_permuted, alike_permutation}
use Rattle.aql_value.specs.Truth.{truth}
use Rattle.aql_plan.specs.Plan.{Node, EnumerateCollection, EnumerateList, Traversal, Calculation, Subquery, Filter, Sort, Collect}
use Rattle.aql_plan.specs.Runs.{Dataset, Outside, read, edges_in, result_of, Runs, Gives}
use Rattle.aql_plan.specs.Shapes.{IsNoFragment}
use Rattle.aql_plan_laws.specs.laws.Lists.{weaker}
use Rattle.aql_aggregate.specs.laws.Members.{distinct_alike}
use Rattle.aql_aggregate.specs.laws.Order.{same_any, in_any_order}
use Rattle.aql_rewrite.specs.laws.Flat.{each_flat}
use Rattle.aql_rules_order.specs.RemoveRedundantSorts.{goes_by_row, ignores_order}
use Rattle.aql_rules_order.specs.laws.Members.{argument_at, criteria_of, groups_of, members, aggregated, given_row, WithTaken, OfGroup, RowsGrouped, by_rows, as_defined}
use Rattle.aql_rules_order.specs.laws.Permuted.{filter_permuted, keyed_permuted, Valued, valued, their_values, by_its_value}

-- ---- one row after another

pub row_by_row : (n : Node) (w : Dataset) (start : Row) (rows others out : List Row) → goes_by_row n ≡ true
    → IsPermutation rows others → Gives n w Outside start rows out
    → (other : List Row) × Gives n w Outside start others other × IsPermutation out other
row_by_row (Calculation x e) w start rows others out l p g =
    by_its_value e (with_values x) (λ (k : Row × Datum). bind x k.0 k.1 ∷ []) (bound_flat x) rows others
    out p g
row_by_row (Subquery x s) w start rows others out l p g =
    let k = alike_permutation
    (λ row given. (results : List Row) × Runs s w Outside row results
    × (given ≡ bind x row (list (map result_of results)))) rows others out p g in
    (k.0, k.2, k.1)
row_by_row (Filter e) w start rows others out l p g =
    by_its_value e filter_true (λ (k : Row × Datum). one_if (truth k.1) k.0) kept_flat rows others out p g
row_by_row (EnumerateList x e) w start rows others out l p g =
    by_its_value e (with_elements x) (λ (k : Row × Datum). map (bind x k.0) (elements k.1)) (elements_flat x)
    rows others out p g
row_by_row n w start rows others out l p g = absurd (true≢false (sym l))

-- ---- COLLECT

aggregate_permuted : (name : List ℕ) (ts us : List Datum) → IsPermutation ts us
    → aggregate_of name ts ≡ aggregate_of name us
aggregate_permuted name ts us p = by (aggregate_named name)
  where
    by : (o : Option Aggregate) → unwrap_or (option_map (λ kind. aggregate kind ts) o) null
        ≡ unwrap_or (option_map (λ kind. aggregate kind us) o) null
    by None = refl
    by (Some kind) = (in_any_order kind ts us p).0

aggregated_permuted : (gs : AggregateTrees) (rows others : List Row) → IsPermutation rows others
    → aggregated gs rows ≡ aggregated gs others
aggregated_permuted no_aggregates rows others p = refl
aggregated_permuted (aggregate_then x name e rest) rows others p =
    ap₂ (λ v vs. v ∷ vs)
    (aggregate_permuted name (map (argument_at e) rows) (map (argument_at e) others)
    (IsPermutation-map (argument_at e) rows others p))
    (aggregated_permuted rest rows others p)

groups_permuted : (xs : List Ident) (es : ExprTrees) (rows others : List Row) → IsPermutation rows others
    → groups_of xs es rows ≡ groups_of xs es others
groups_permuted [] es rows others p = refl
groups_permuted (x ∷ xs) es rows others p =
    let q = IsPermutation-map (λ row. list (keys_of es row)) rows others p in
    ap (map elements) (distinct_alike (criteria_of es rows) (criteria_of es others)
    (λ t. same_any (same t) (shuffled (criteria_of es rows) (criteria_of es others) q)))

taken_permuted : (i : IntoTree) (own others : List Row) (row given out : Row) → IsPermutation own others
    → row ≡ given → WithTaken i own row out → WithTaken i others given out
taken_permuted no_into own others row given out p e h = h ∙ e
taken_permuted (into x what keep) own others row given out p e h =
    let f = taken_at (into x what keep) in (
      h.0,
      IsPermutation-trans (map f others) (map f own) h.0
          (IsPermutation-map f others own (IsPermutation-sym own others p)) h.1,
      h.2 ∙ ap (λ (r : Row). bind x r (list h.0)) e,
    )

grouped_permuted : (xs : List Ident) (es : ExprTrees) (gs : AggregateTrees) (i : IntoTree) (start : Row)
    (rows others out : List Row) → IsPermutation rows others
    → RowsGrouped xs es gs i start rows out → RowsGrouped xs es gs i start others out
grouped_permuted xs es gs i start rows others out p h =
    subst (λ (cs : List (List Datum)). AllZip (OfGroup xs es gs i start others) cs out)
    (groups_permuted xs es rows others p)
    (weaker (OfGroup xs es gs i start rows) (OfGroup xs es gs i start others)
    (λ c given k.
    let q = filter_permuted (λ row. same (list c) (list (keys_of es row))) rows others p in
    taken_permuted i (members es rows c) (members es others c)
    (given_row xs gs start (members es rows c) c) (given_row xs gs start (members es others c) c) given q
    (ap (λ vs. bind_all (aggregate_vars gs) vs (bind_all xs c start))
    (aggregated_permuted gs (members es rows c) (members es others c) q)) k)
    (groups_of xs es rows) out h)

-- ---- the order does not count

each_permuted : {X : Type 0} (f : Row → X → Row) (g : Row → List X) (rows others : List Row)
    → IsPermutation rows others
    → IsPermutation (with_each f rows (map g rows)) (with_each f others (map g others))
each_permuted f g rows others p =
    subst (λ (rs : List Row). IsPermutation rs (with_each f others (map g others))) (sym (each_flat f g rows))
    (subst (λ (rs : List Row). IsPermutation (flat_map (λ row. map (f row) (g row)) rows) rs)
    (sym (each_flat f g others))
    (flat_permuted (λ row. map (f row) (g row)) (shuffle rows others p)))

pub order_free : (n : Node) (w : Dataset) (start : Row) (rows others out : List Row) → ignores_order n ≡ true
    → IsNoFragment n → IsPermutation rows others → Gives n w Outside start rows out
    → Gives n w Outside start others out
order_free (Sort directions es n) w start rows others out l lone p g = (
  g.0,
  (
    g.1.0,
    IsPermutation-trans _ _ _ (keyed_permuted es others rows (IsPermutation-sym rows others p)) g.1.1,
    g.1.2,
    g.1.3,
  ),
  g.2,
)
order_free (EnumerateCollection x) w start rows others out l lone p g =
    IsPermutation-trans _ _ _
    (each_permuted (bind x.var)
    (λ row. documents_kept x.var (passes x.filter) x.attrs row (read w x.coll x.shard Outside)) others rows
    (IsPermutation-sym rows others p)) g
order_free (Traversal shape e colls prune keep) w start rows others out l lone p g =
    let k = traversal_permuted w.db shape (edges_in w.db colls) (stops prune) (Valued e) rows others g.0 p
    (values_of e rows, valued e rows, g.1) in (
      g.0,
      subst (λ (vs : List Datum). Traverses w.db shape (edges_in w.db colls) (stops prune) others vs g.0)
          (their_values e others k.0 k.1) k.2,
      g.2,
    )
order_free (Collect xs es gs i stage.Whole) w start rows others out l lone p g =
    as_defined xs es gs i start others out
    (grouped_permuted xs es gs i start rows others out p (by_rows xs es gs i start rows out g))
order_free (Collect xs es gs i stage.Partial) w start rows others out l lone p g = absurd lone
order_free (Collect xs es gs i stage.Final) w start rows others out l lone p g = absurd lone
order_free n w start rows others out l lone p g = absurd (true≢false (sym l))
