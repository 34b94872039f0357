-- The rule remove-filter-covered-by-index: of a Filter over an Index that keeps all attributes each item goes
-- that is one of the bounds of the Index, and with the last item the Filter.
use Rattle.std.specs.Prelude.{ℕ, ◌≡◌, ◌<◌, ◌⊎◌, List, [], ◌∷◌, length, Bool, true, false, Option, None, Some}
use Rattle.std.specs.List.{AllByRecursion}
use Rattle.aql_value.specs.declared.operators.BinOp.TheVariants.{Eq, Lt, Le, Gt, Ge, IsIn}
use Rattle.aql_tree.specs.declared.syntax.Ident.{Ident}
use Rattle.aql_tree.specs.Tree.{ExprTree, ExprTrees, no_exprs, expr_then}
use Rattle.aql_meaning.specs.Documents.{End, Last, no_last, one_of, between}
use Rattle.aql_meaning.specs.Uses.{Uses}
use Rattle.aql_plan.specs.declared.facts.Facts.{Facts}
use Rattle.aql_plan.specs.Facts.{attributes_in}
use Rattle.aql_plan.specs.FirstPlan.{conjuncts}
use Rattle.aql_plan.specs.Plan.{Reading, Plan, Over, Index, Filter}
use Rattle.aql_rewrite.specs.declared.swap.Rename.{Rename}
use Rattle.aql_rules_filter.specs.Conditions.{all_of}
use Rattle.aql_rules_index.specs.Choice.{Item, item_of}

-- the item is this low or high end of a range
abbrev pub IsLow : Option (End ExprTree) → Item → Type 0
IsLow None i = ⊥
IsLow (Some end) i = (i.other ≡ end.limit)
    × (((end.inclusive ≡ true) × (i.op ≡ Ge)) ⊎ ((end.inclusive ≡ false) × (i.op ≡ Gt)))

abbrev pub IsHigh : Option (End ExprTree) → Item → Type 0
IsHigh None i = ⊥
IsHigh (Some end) i = (i.other ≡ end.limit)
    × (((end.inclusive ≡ true) × (i.op ≡ Le)) ⊎ ((end.inclusive ≡ false) × (i.op ≡ Lt)))

abbrev pub IsLast : Last ExprTree → Item → Type 0
IsLast no_last i = ⊥
IsLast (one_of e) i = (i.other ≡ e) × (i.op ≡ IsIn)
IsLast (between low high) i = IsLow low i ⊎ IsHigh high i

-- the item is one of the bounds of an index with these attributes
abbrev pub IsCovered : List (List ℕ) → ExprTrees → Last ExprTree → Item → Type 0
IsCovered [] equal last i = ⊥
IsCovered (name ∷ names) no_exprs last i = (i.name ≡ name) × IsLast last i
IsCovered (name ∷ names) (expr_then e equal) last i =
    ((i.name ≡ name) × (i.op ≡ Eq) × (i.other ≡ e)) ⊎ IsCovered names equal last i

-- the item, as it stands or mirrored, is one of the bounds
abbrev pub Goes : List (List ℕ) → Ident → ExprTrees → Last ExprTree → ExprTree → Type 0
Goes names x equal last e = (i : Item) × (item_of x e ≡ Some i) × IsCovered names equal last i

-- of the items of a condition some go that are bounds, and the others stay in order
pub data Drops (names : List (List ℕ)) (x : Ident) (equal : ExprTrees) (last : Last ExprTree)
    : List ExprTree → List ExprTree → Type 0 where
  no_more : Drops names x equal last [] []
  keeps : {e : ExprTree} {es left : List ExprTree} → Drops names x equal last es left
      → Drops names x equal last (e ∷ es) (e ∷ left)
  drops : {e : ExprTree} {es left : List ExprTree} → Goes names x equal last e
      → Drops names x equal last es left → Drops names x equal last (e ∷ es) left

-- one or more go, and none that is left is a bound
abbrev pub DropsAll : List (List ℕ) → Ident → ExprTrees → Last ExprTree → List ExprTree → List ExprTree
    → Type 0
DropsAll names x equal last es left = Drops names x equal last es left × (length left < length es)
    × AllByRecursion (λ e. Goes names x equal last e → ⊥) left

pub data RemovesCovered (facts : Facts) : Uses → Plan → Plan → Option Rename → Type 0 where
  some_left : {us : Uses} {b : Plan} {x : Reading} {index : ℕ} {equal : ExprTrees} {last : Last ExprTree}
      {ordered : Option Bool} {c e : ExprTree} {left : List ExprTree} → x.attrs ≡ None
      → DropsAll (attributes_in facts x.coll index) x.var equal last (conjuncts c) (e ∷ left)
      → RemovesCovered facts us (Over (Over b (Index x index equal last ordered)) (Filter c))
      (Over (Over b (Index x index equal last ordered)) (Filter (all_of (e ∷ left)))) None
  none_left : {us : Uses} {b : Plan} {x : Reading} {index : ℕ} {equal : ExprTrees} {last : Last ExprTree}
      {ordered : Option Bool} {c : ExprTree} → x.attrs ≡ None
      → DropsAll (attributes_in facts x.coll index) x.var equal last (conjuncts c) []
      → RemovesCovered facts us (Over (Over b (Index x index equal last ordered)) (Filter c))
      (Over b (Index x index equal last ordered)) None
