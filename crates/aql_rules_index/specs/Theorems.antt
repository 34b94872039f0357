-- What the rules on indexes rest on, each the contract of a function.
use Rattle.std.specs.Prelude.{◌≡◌, ℕ, List, ◌∷◌, [], Bool, true, take, Option, Some, None}
use Rattle.std.specs.List.{AllByRecursion, list_all}
use Rattle.aql_value.specs.Datum.{Datum}
use Rattle.aql_tree.specs.declared.syntax.Ident.{Ident}
use Rattle.aql_tree.specs.Tree.{ExprTree, ExprTrees, no_expr}
use Rattle.aql_meaning.specs.AtRows.{value_of, keys_of}
use Rattle.aql_meaning.specs.Documents.{Last, last_map, in_bounds}
use Rattle.aql_meaning.specs.Row.{Row, bind}
use Rattle.aql_plan.specs.declared.facts.IndexKind.{IndexKind}
use Rattle.aql_plan.specs.Facts.{attributes_in}
use Rattle.aql_plan.specs.FirstPlan.{conjuncts}
use Rattle.aql_plan.specs.Fits.{attribute_keys}
use Rattle.aql_plan.specs.Plan.{Reading, Plan, Over, EnumerateCollection, Index, Filter, Sort}
use Rattle.aql_plan.specs.Runs.{Dataset, Site, Outside, Runs, Gives}
use Rattle.aql_rules_filter.specs.laws.Filtered.{holds}
use Rattle.aql_rules_index.specs.Choice.{Item, item_of, items_of, bounds_for, Bounds}
use Rattle.aql_rules_index.specs.RemoveFilterCoveredByIndex.{IsCovered, Drops}
use Rattle.aql_rules_index.specs.Tests.{says, in_index}
use Rattle.aql_rules_index.specs.UseIndexForSort.{directions_of}

-- ---- items and bounds

-- an item that fits holds of a document beside a row as it says
abbrev pub ItemsHoldAsTheySay : Type 0
ItemsHoldAsTheySay = (x : Ident) (row : Row) (d : Datum) (e : ExprTree) (i : Item) → item_of x e ≡ Some i
    → holds e (bind x row d) ≡ says i row d

-- where all items hold, a document is in the bounds that they give to an index
abbrev pub BoundsAreImplied : Type 0
BoundsAreImplied = (row : Row) (d : Datum) (k : IndexKind) (names : List (List ℕ)) (is : List Item)
    → AllByRecursion (λ i. says i row d ≡ true) is
    → in_bounds names (keys_of (bounds_for k names is).equal row)
    (last_map (λ e. value_of e row) (bounds_for k names is).last) d ≡ true

-- an item that is one of the bounds holds where a document is in them
abbrev pub BoundsImply : Type 0
BoundsImply = (row : Row) (d : Datum) (names : List (List ℕ)) (equal : ExprTrees) (last : Last ExprTree)
    (i : Item) → IsCovered names equal last i
    → in_bounds names (keys_of equal row) (last_map (λ e. value_of e row) last) d ≡ true
    → says i row d ≡ true

-- ---- nodes

-- under a Filter whose condition holds only in its bounds an Index gives what an EnumerateCollection may give
abbrev pub IndexNarrows : Type 0
IndexNarrows = (w : Dataset) (x : Reading) (index : ℕ) (equal : ExprTrees) (last : Last ExprTree)
    (c : ExprTree) → x.filter ≡ no_expr → x.attrs ≡ None
    → ((row : Row) (d : Datum) → holds c (bind x.var row d) ≡ true
    → in_index w x index equal last row d ≡ true)
    → (b : Plan) (start : Row) (out : List Row)
    → Runs (Over (Over b (Index x index equal last None)) (Filter c)) w Outside start out
    → Runs (Over (Over b (EnumerateCollection x)) (Filter c)) w Outside start out

-- over an Index one condition may stand for another that holds alike in its bounds
abbrev pub ConditionMayBeReplaced : Type 0
ConditionMayBeReplaced = (w : Dataset) (x : Reading) (index : ℕ) (equal : ExprTrees) (last : Last ExprTree)
    (ordered : Option Bool) (c e : ExprTree) → x.attrs ≡ None
    → ((row : Row) (d : Datum) → in_index w x index equal last row d ≡ true
    → holds c (bind x.var row d) ≡ holds e (bind x.var row d))
    → (b : Plan) (start : Row) (out : List Row)
    → Runs (Over (Over b (Index x index equal last ordered)) (Filter e)) w Outside start out
    → Runs (Over (Over b (Index x index equal last ordered)) (Filter c)) w Outside start out

-- and one that holds in all of them may go with its Filter
abbrev pub FilterMayGo : Type 0
FilterMayGo = (w : Dataset) (x : Reading) (index : ℕ) (equal : ExprTrees) (last : Last ExprTree)
    (ordered : Option Bool) (c : ExprTree) → x.attrs ≡ None
    → ((row : Row) (d : Datum) → in_index w x index equal last row d ≡ true
    → holds c (bind x.var row d) ≡ true)
    → (b : Plan) (start : Row) (out : List Row)
    → Runs (Over b (Index x index equal last ordered)) w Outside start out
    → Runs (Over (Over b (Index x index equal last ordered)) (Filter c)) w Outside start out

-- ---- rules

-- the bounds that the items of a condition give to an index, as one of this kind
abbrev pub bounds_by : IndexKind → Dataset → Reading → ℕ → ExprTree → Bounds
bounds_by k w x index c =
    bounds_for k (attributes_in w.facts x.coll index) (items_of x.var (conjuncts c))

-- use-indexes: under a Filter any Index, with the bounds that the condition's items give to it as to a lookup
-- or as to a sorted index, gives what an EnumerateCollection may give
abbrev pub UseIndexesRefines : Type 0
UseIndexesRefines = (k : IndexKind) (w : Dataset) (x : Reading) (index : ℕ) (c : ExprTree)
    → x.filter ≡ no_expr → x.attrs ≡ None → (b : Plan) (start : Row) (out : List Row)
    → Runs (Over (Over b (Index x index (bounds_by k w x index c).equal (bounds_by k w x index c).last None))
    (Filter c)) w Outside start out
    → Runs (Over (Over b (EnumerateCollection x)) (Filter c)) w Outside start out

-- remove-filter-covered-by-index: items that are bounds of the Index may go
abbrev pub RemoveFilterCoveredByIndexRefines : Type 0
RemoveFilterCoveredByIndexRefines = (w : Dataset) (x : Reading) (index : ℕ) (equal : ExprTrees)
    (last : Last ExprTree) (ordered : Option Bool) (c e : ExprTree) (left : List ExprTree) → x.attrs ≡ None
    → Drops (attributes_in w.facts x.coll index) x.var equal last (conjuncts c) left
    → ((row : Row) → holds e row ≡ list_all (λ f. holds f row) left)
    → (b : Plan) (start : Row) (out : List Row)
    → Runs (Over (Over b (Index x index equal last ordered)) (Filter e)) w Outside start out
    → Runs (Over (Over b (Index x index equal last ordered)) (Filter c)) w Outside start out

-- use-index-for-sort: what an ordered Index gives of one row, the Index may give in any order too, and a Sort
-- by the first attributes of the index may give of that
abbrev pub OrderedIndexIsSorted : Type 0
OrderedIndexIsSorted = (w : Dataset) (site : Site) (x : Reading) (index : ℕ) (equal : ExprTrees)
    (last : Last ExprTree) (descending : Bool) (k : ℕ) (start row : Row) (out : List Row) → x.attrs ≡ None
    → Gives (Index x index equal last (Some descending)) w site start (row ∷ []) out
    → Gives (Index x index equal last None) w site start (row ∷ []) out
    × Gives (Sort (directions_of descending (take k (attributes_in w.facts x.coll index)))
    (attribute_keys x.var (take k (attributes_in w.facts x.coll index))) None) w site start out out
