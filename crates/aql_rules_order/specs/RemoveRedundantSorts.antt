-- The rule remove-redundant-sorts: a Sort without limit goes where all its keys are constant, or where above
-- it, past only Calculation, Subquery, Filter and EnumerateList, stands a Sort, Collect, EnumerateCollection
-- or Traversal. An upper Sort without limit whose keys are constant goes before a lower one.
use Rattle.std.specs.Prelude.{◌≡◌, List, Bool, true, false, Option, None}
use Rattle.aql_tree.specs.Tree.{ExprTrees}
use Rattle.aql_meaning.specs.Uses.{Uses}
use Rattle.aql_plan.specs.Plan.{Plan, Over, Node, EnumerateCollection, EnumerateList, Traversal, Calculation, Subquery, Filter, Sort, Collect}
use Rattle.aql_rewrite.specs.Constant.{AreConstant}
use Rattle.aql_rewrite.specs.Children.{list_children}
use Rattle.aql_rewrite.specs.declared.swap.Rename.{Rename}

-- a Sort without limit whose keys are constant: it may give its rows in any order
abbrev pub IsIdle : Node → Type 0
IsIdle (Sort directions es None) = AreConstant (list_children es)
IsIdle n = ⊥

-- nodes that take one row after another
abbrev pub goes_by_row : Node → Bool
goes_by_row (Calculation x e) = true
goes_by_row (Subquery x s) = true
goes_by_row (Filter e) = true
goes_by_row (EnumerateList x e) = true
goes_by_row n = false

-- nodes for which the order of their rows does not count
abbrev pub ignores_order : Node → Bool
ignores_order (Sort directions es n) = true
ignores_order (Collect xs es gs i s) = true
ignores_order (EnumerateCollection x) = true
ignores_order (Traversal w e colls prune keep) = true
ignores_order n = false

-- a plan without a Sort that stands at its top, or below nodes that go by row
pub data WithoutSort : Plan → Plan → Type 0 where
  here : {b : Plan} {directions : List Bool} {es : ExprTrees}
      → WithoutSort (Over b (Sort directions es None)) b
  below : {b c : Plan} {n : Node} → goes_by_row n ≡ true → WithoutSort b c
      → WithoutSort (Over b n) (Over c n)

pub data Unsorts : Uses → Plan → Plan → Option Rename → Type 0 where
  constant_keys : {us : Uses} {b : Plan} {n : Node} → IsIdle n → Unsorts us (Over b n) b None
  order_lost : {us : Uses} {b c : Plan} {n : Node} → ignores_order n ≡ true → (IsIdle n → ⊥)
      → WithoutSort b c → Unsorts us (Over b n) (Over c n) None
