-- The rule use-index-for-sort: a Sort without limit goes, over any number of Filter and Calculation nodes
-- over a node that reads documents for one row and keeps all their attributes, where the Sort's keys, all
-- ascending or all descending, are attributes of a sorted index in their order. An EnumerateCollection
-- becomes an ordered Index without bounds, on the first such index, where the keys begin with its first
-- attribute. An Index without the elements of an array becomes ordered, where the keys begin with its first
-- attribute or with the one behind its equalities.
use Rattle.std.specs.Prelude.{ℕ, ◌≡◌, ◌≤◌, ◌<◌, ◌⊎◌, List, map, length, take, drop, Bool, true, false, Option, Some, None}
use Rattle.aql_tree.specs.Tree.{ExprTree, ExprTrees, no_exprs}
use Rattle.aql_meaning.specs.Documents.{Last, no_last, one_of}
use Rattle.aql_meaning.specs.Uses.{Uses}
use Rattle.aql_plan.specs.declared.facts.Facts.{Facts}
use Rattle.aql_plan.specs.declared.facts.IndexKind.TheVariants as kind
use Rattle.aql_plan.specs.Facts.{indexes_in, attributes_in}
use Rattle.aql_plan.specs.Fits.{exprs_in, attribute_keys}
use Rattle.aql_plan.specs.Plan.{Reading, Plan, Over, Node, EnumerateCollection, Index, Calculation, Filter, Sort}
use Rattle.aql_rewrite.specs.declared.swap.Rename.{Rename}
use Rattle.aql_rules_order.specs.InlineSubqueries.{is_single}
use Rattle.aql_rules_index.specs.Choice.{kind_in}

-- ---- keys

-- a direction for each key, the same for all
abbrev pub directions_of : Bool → List (List ℕ) → List Bool
directions_of descending names = map (λ name. descending) names

-- the names are the first ones of a list, one or more
abbrev pub AreFirst : List (List ℕ) → List (List ℕ) → Type 0
AreFirst names all = (1 ≤ length names) × (length names ≤ length all) × (names ≡ take (length names) all)

-- a sorted index that there is
abbrev pub IsSorted : Facts → ℕ → ℕ → Type 0
IsSorted facts coll index =
    (index < length (indexes_in facts coll)) × (kind_in facts coll index ≡ kind.Sorted)

-- such an index begins with these names
abbrev pub Begins : Facts → ℕ → List (List ℕ) → ℕ → Type 0
Begins facts coll names index = IsSorted facts coll index × AreFirst names (attributes_in facts coll index)

-- and it is the first one that does
abbrev pub BeginsFirst : Facts → ℕ → List (List ℕ) → ℕ → Type 0
BeginsFirst facts coll names index = Begins facts coll names index
    × ((other : ℕ) → other < index → Begins facts coll names other → ⊥)

-- ---- plans

abbrev pub is_one_of : Last ExprTree → Bool
is_one_of (one_of e) = true
is_one_of last = false

-- the nodes between, which leave the order of rows
abbrev pub leaves_order : Node → Bool
leaves_order (Filter e) = true
leaves_order (Calculation x e) = true
leaves_order n = false

-- a plan whose node at the foot of such nodes comes in the order of the names
pub data Orders (facts : Facts) (descending : Bool) (names : List (List ℕ)) (es : ExprTrees)
    : Plan → Plan → Type 0 where
  enumeration : {b : Plan} {x : Reading} {index : ℕ} → is_single b ≡ true → x.attrs ≡ None
      → es ≡ attribute_keys x.var names → BeginsFirst facts x.coll names index
      → Orders facts descending names es (Over b (EnumerateCollection x))
      (Over b (Index x index no_exprs no_last (Some descending)))
  by_index : {b : Plan} {x : Reading} {index : ℕ} {equal : ExprTrees} {last : Last ExprTree}
      → is_single b ≡ true → x.attrs ≡ None → es ≡ attribute_keys x.var names
      → IsSorted facts x.coll index → is_one_of last ≡ false
      → AreFirst names (attributes_in facts x.coll index)
      ⊎ AreFirst names (drop (exprs_in equal) (attributes_in facts x.coll index))
      → Orders facts descending names es (Over b (Index x index equal last None))
      (Over b (Index x index equal last (Some descending)))
  below : {b c : Plan} {n : Node} → leaves_order n ≡ true → Orders facts descending names es b c
      → Orders facts descending names es (Over b n) (Over c n)

pub data SortsByIndex (facts : Facts) : Uses → Plan → Plan → Option Rename → Type 0 where
  sorted : {us : Uses} {b c : Plan} {descending : Bool} {names : List (List ℕ)} {es : ExprTrees}
      → Orders facts descending names es b c
      → SortsByIndex facts us (Over b (Sort (directions_of descending names) es None)) c None
