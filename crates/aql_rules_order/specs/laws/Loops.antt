-- Two loops over collections, one right over the other, give the same rows in either order.
use Rattle.std.proofs.Common.{◌≡◌, ◌∙◌, List, [], ◌∷◌, ◌++◌, map, true, false, true≢false, refl, ap, sym, subst}
use mathlib.Core.Path.{fun_ext}
use Rattle.std.specs.Prelude.{filter, flat_map, IsPermutation}
use Rattle.std.proofs.lemmas.List.Folds.{flat_map-map}
use Rattle.std.proofs.lemmas.List.Sorted.{IsPermutation-refl, IsPermutation-trans}
use Rattle.aql_value.specs.Datum.{Datum}
use Rattle.aql_tree.specs.declared.syntax.Ident.{Ident}
use Rattle.aql_tree.specs.Tree.{MaybeExpr, no_expr, one_expr}
use Rattle.aql_meaning.specs.AtRows.{passes}
use Rattle.aql_meaning.specs.Clauses.{with_each}
use Rattle.aql_meaning.specs.Documents.{projection, documents_kept}
use Rattle.aql_meaning.specs.Row.{Row, same_ident, bind}
use Rattle.aql_meaning.specs.Uses.{Uses}
use Rattle.aql_meaning.specs.laws.Rows.{binds_swap}
use Rattle.aql_meaning.specs.laws.Shuffles.{shuffle, flat_permuted}
use Rattle.aql_plan.specs.declared.facts.Facts.{Facts}
use Rattle.aql_plan.specs.Plan.{Reading, Plan, Over, EnumerateCollection}
use Rattle.aql_plan.specs.Refines.{dataset, RefinesFor}
use Rattle.aql_plan.specs.Runs.{Dataset, Outside, read}
use Rattle.aql_plan_laws.specs.laws.Agreement.{rows_agree}
use Rattle.aql_meaning.specs.laws.Idents.{same_is, same_apart}
use Rattle.aql_rules_order.specs.InterchangeAdjacentEnumerations.{is_missing}
use Rattle.aql_rules_order.specs.laws.Grid.{flat_flat, flat_each, grid}

-- ---- the rows of one loop

-- the documents that it gives for each row
abbrev documents_in : Dataset → Reading → List Datum
documents_in w x = map (projection x.attrs) (read w x.coll x.shard Outside)

abbrev rows_with : Dataset → Reading → Row → List Row
rows_with w x row = map (bind x.var row) (documents_in w x)

all_pass : {X : Type 0} (xs : List X) → filter (λ x. true) xs ≡ xs
all_pass [] = refl
all_pass (x ∷ xs) = ap (λ ys. x ∷ ys) (all_pass xs)

kept_all : (f : MaybeExpr) → is_missing f ≡ true → (bound : Datum → Row) (documents : List Datum)
    → filter (λ document. passes f (bound document)) documents ≡ documents
kept_all no_expr h bound documents = all_pass documents
kept_all (one_expr e) h bound documents = absurd (true≢false (sym h))

loop_rows : (w : Dataset) (x : Reading) → is_missing x.filter ≡ true → (rows : List Row)
    → with_each (bind x.var) rows
    (map (λ row. documents_kept x.var (passes x.filter) x.attrs row (read w x.coll x.shard Outside)) rows)
    ≡ flat_map (rows_with w x) rows
loop_rows w x h [] = refl
loop_rows w x h (row ∷ rows) =
    ap (λ documents. map (bind x.var row) (map (projection x.attrs) documents) ++ with_each (bind x.var) rows
    (map (λ row. documents_kept x.var (passes x.filter) x.attrs row (read w x.coll x.shard Outside)) rows))
    (kept_all x.filter h (bind x.var row) (read w x.coll x.shard Outside))
    ∙ ap (λ more. rows_with w x row ++ more) (loop_rows w x h rows)

-- ---- the rows of two loops

module _ (w : Dataset) (x y : Reading) (other : same_ident x.var y.var ≡ false) where
  either_first : (row : Row)
      → IsPermutation (flat_map (rows_with w x) (rows_with w y row))
      (flat_map (rows_with w y) (rows_with w x row))
  either_first row =
      let xs = documents_in w x in
      let ys = documents_in w y in
      let swapped : (λ (d e : Datum). bind x.var (bind y.var row d) e)
      ≡ (λ (d e : Datum). bind y.var (bind x.var row e) d)
      = fun_ext (λ d. fun_ext (λ e.
      sym (binds_swap y.var x.var row d e (same_apart x.var y.var other)))) in
      subst (λ (rows : List Row). IsPermutation rows (flat_map (rows_with w y) (rows_with w x row)))
      (sym (flat_map-map (rows_with w x) (bind y.var row) ys))
      (subst (λ (rows : List Row). IsPermutation (flat_map (λ d. rows_with w x (bind y.var row d)) ys) rows)
      (sym (flat_map-map (rows_with w y) (bind x.var row) xs))
      (subst (λ (f : Datum → Datum → Row). IsPermutation (flat_map (λ d. map (f d) xs) ys)
      (flat_map (λ e. map (λ d. bind y.var (bind x.var row e) d) ys) xs)) (sym swapped)
      (grid (λ d e. bind y.var (bind x.var row e) d) ys xs)))

  both_orders : (rows : List Row)
      → IsPermutation (flat_map (rows_with w x) (flat_map (rows_with w y) rows))
      (flat_map (rows_with w y) (flat_map (rows_with w x) rows))
  both_orders rows =
      subst (λ (out : List Row). IsPermutation out (flat_map (rows_with w y) (flat_map (rows_with w x) rows)))
      (sym (flat_flat (rows_with w y) (rows_with w x) rows))
      (subst (λ (out : List Row).
      IsPermutation (flat_map (λ row. flat_map (rows_with w x) (rows_with w y row)) rows) out)
      (sym (flat_flat (rows_with w x) (rows_with w y) rows))
      (flat_each (λ row. flat_map (rows_with w x) (rows_with w y row))
      (λ row. flat_map (rows_with w y) (rows_with w x row)) either_first rows))

-- the plan with y over x gives only what the one with x over y gives
pub loops_refine : (us : Uses) (facts : Facts) (b : Plan) (x y : Reading) → is_missing x.filter ≡ true
    → is_missing y.filter ≡ true → same_ident x.var y.var ≡ false
    → RefinesFor us facts (Over (Over b (EnumerateCollection x)) (EnumerateCollection y))
    (Over (Over b (EnumerateCollection y)) (EnumerateCollection x))
loops_refine us facts b x y h k other db meets start out g =
    let w = dataset facts db in
    let mid = g.0 in
    let rows = g.1.0 in
    let lower = subst (λ (given : List Row). IsPermutation given mid) (loop_rows w x h rows) g.1.2 in
    let upper = subst (λ (given : List Row). IsPermutation given out) (loop_rows w y k mid) g.2 in
    let between = flat_map (rows_with w y) rows in (
      out,
      (
        between,
        (
          rows,
          g.1.1,
          subst (λ (given : List Row). IsPermutation given between) (sym (loop_rows w y k rows))
              (IsPermutation-refl between),
        ),
        subst (λ (given : List Row). IsPermutation given out) (sym (loop_rows w x h between))
            (IsPermutation-trans _ _ _ (both_orders w x y other rows)
            (IsPermutation-trans _ _ _ (flat_permuted (rows_with w y) (shuffle _ _ lower)) upper)),
      ),
      rows_agree us out,
    )
