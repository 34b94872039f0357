-- Keys as attributes, and what becomes of a plan whose node at the foot an index orders: for the contracts of
-- private functions alone.
use Rattle.std.specs.Prelude.{ℕ, ◌≡◌, ◌≤◌, ◌<◌, ◌⊎◌, List, [], ◌∷◌, drop, Bool, false, Option, Some, None}
use Rattle.std.specs.List.{AllByRecursion}
use Rattle.aql_tree.specs.declared.syntax.Ident.{Ident}
use Rattle.aql_tree.specs.Tree.{variable, access, name_then, no_steps, ExprTrees, no_exprs, expr_then}
use Rattle.aql_plan.specs.declared.facts.Facts.{Facts}
use Rattle.aql_plan.specs.Facts.{attributes_in}
use Rattle.aql_plan.specs.Fits.{exprs_in}
use Rattle.aql_plan.specs.Plan.{Reading, Plan, Singleton, Over, Node, EnumerateCollection, Index, Sort}
use Rattle.aql_rules_index.specs.UseIndexForSort.{directions_of, IsSorted, is_one_of, Orders}
use Rattle.aql_rules_index.specs.inner.Readers.{IndexRead}

-- the keys are so many first ones of these attributes of a variable
abbrev pub AreAttributes : Ident → ExprTrees → List (List ℕ) → Type 0
AreAttributes x no_exprs names = Unit {0}
AreAttributes x (expr_then e es) [] = ⊥
AreAttributes x (expr_then e es) (name ∷ names) =
    (e ≡ access (variable x) (name_then name no_steps)) × AreAttributes x es names

-- and one or more
abbrev pub KeysAreFirst : Ident → ExprTrees → List (List ℕ) → Type 0
KeysAreFirst x es names = (1 ≤ exprs_in es) × AreAttributes x es names

-- all have one direction
abbrev pub AllGo : Bool → List Bool → Type 0
AllGo descending ds = AllByRecursion (λ d. d ≡ descending) ds

-- a sorted index of a collection begins with the keys, and the first one that does
abbrev pub KeysBegin : Facts → ℕ → Ident → ExprTrees → ℕ → Type 0
KeysBegin facts coll x es index =
    IsSorted facts coll index × KeysAreFirst x es (attributes_in facts coll index)

abbrev pub KeysBeginFirst : Facts → ℕ → Ident → ExprTrees → ℕ → Type 0
KeysBeginFirst facts coll x es index = KeysBegin facts coll x es index
    × ((other : ℕ) → other < index → KeysBegin facts coll x es other → ⊥)

-- an Index that has no order yet may give the order of the keys
abbrev pub MayOrder : Facts → IndexRead → ExprTrees → Type 0
MayOrder facts r es = (r.ordered ≡ None) × IsSorted facts r.coll r.index × (is_one_of r.last ≡ false)
    × (KeysAreFirst r.var es (attributes_in facts r.coll r.index)
    ⊎ KeysAreFirst r.var es (drop (exprs_in r.equal) (attributes_in facts r.coll r.index)))

-- what becomes of a plan for keys of one direction, and for any keys
abbrev pub OrdersTo : Facts → Bool → ExprTrees → Plan → Plan → Type 0
OrdersTo facts descending es b c = (names : List (List ℕ)) × Orders facts descending names es b c

abbrev pub OrdersBy : Facts → List Bool → ExprTrees → Plan → Plan → Type 0
OrdersBy facts ds es b c = (descending : Bool) × (names : List (List ℕ)) × (ds ≡ directions_of descending names)
    × Orders facts descending names es b c

-- the rows that a Sort without limit takes come in its order
pub data SortOrders (facts : Facts) : Plan → Plan → Type 0 where
  sort_orders : {b c : Plan} {ds : List Bool} {es : ExprTrees} → OrdersBy facts ds es b c
      → SortOrders facts (Over b (Sort ds es None)) (Over c (Sort ds es None))

-- how an EnumerateCollection reads that keeps all attributes
abbrev pub where_kept : Option (List (List ℕ)) → Reading → Option Reading
where_kept None x = Some x
where_kept (Some names) x = None

abbrev pub whole_enumeration : Node → Option Reading
whole_enumeration (EnumerateCollection x) = where_kept x.attrs x
whole_enumeration n = None

-- an Index in its order
abbrev pub ordered : Bool → Node → Node
ordered descending (Index x index equal last o) = Index x index equal last (Some descending)
ordered descending n = n

abbrev pub plan_ordered : Bool → Plan → Plan
plan_ordered descending Singleton = Singleton
plan_ordered descending (Over b n) = Over b (ordered descending n)
