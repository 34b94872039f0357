-- What is left of the condition of a Filter over an Index, as the program finds it.
use Rattle.std.specs.Prelude.{ℕ, ◌≡◌, List, [], ◌∷◌, Bool, false, not, Some, None}
use Rattle.aql_value.specs.declared.operators.BinOp.{BinOp}
use Rattle.aql_value.specs.declared.operators.BinOp.TheVariants.{Lt, Le, Gt, Ge}
use Rattle.aql_tree.specs.Tree.{ExprTree}
use Rattle.aql_tree.specs.View.{tree}
use Rattle.aql_meaning.specs.Plain.{IsPlain}
use Rattle.aql_plan.specs.declared.facts.Facts.{Facts}
use Rattle.aql_plan.specs.Plan.{Plan, Over, Filter}
use Rattle.aql_rewrite.specs.Places.{Stays}
use Rattle.aql_rules_order.specs.Readers.{input_of}
use Rattle.aql_rules_index.specs.declared.remove_filter_covered_by_index.Change.{Change}
use Rattle.aql_rules_index.specs.declared.remove_filter_covered_by_index.Change.TheVariants as change
use Rattle.aql_rules_index.specs.Choice.{Item, item_of}
use Rattle.aql_rules_index.specs.RemoveFilterCoveredByIndex.{IsCovered, RemovesCovered}
use Rattle.aql_rules_index.specs.inner.Readers.{IndexRead, plan_with_cond}

-- the operators of low ends and of high ends
abbrev pub begins_range : BinOp → Bool → Bool
begins_range Ge inclusive = inclusive
begins_range Gt inclusive = not inclusive
begins_range op inclusive = false

abbrev pub ends_range : BinOp → Bool → Bool
ends_range Le inclusive = inclusive
ends_range Lt inclusive = not inclusive
ends_range op inclusive = false

-- the part is an item without a subquery that is one of the bounds
abbrev pub PlainGoes : List (List ℕ) → IndexRead → ExprTree → Type 0
PlainGoes names r e = (i : Item) × (item_of r.var e ≡ Some i) × IsPlain i.other
    × IsCovered names r.equal r.last i

-- the elements that are left where all go that are so
pub data Sifts (G : ExprTree → Type 0) : List ExprTree → List ExprTree → Type 0 where
  sifts_none : Sifts G [] []
  stays : {e : ExprTree} {es left : List ExprTree} → (G e → ⊥) → Sifts G es left
      → Sifts G (e ∷ es) (e ∷ left)
  goes : {e : ExprTree} {es left : List ExprTree} → G e → Sifts G es left → Sifts G (e ∷ es) left

-- no subquery stands in the condition of a Filter at the top
abbrev pub HasPlainFilter : Plan → Type 0
HasPlainFilter (Over b (Filter c)) = IsPlain c
HasPlainFilter p = Unit {0}

-- what becomes of the plan
abbrev pub IsChange : Facts → Plan → Change → Type 0
IsChange facts p change.Stays = Stays (RemovesCovered facts) [] p
IsChange facts p (change.Shrinks e) = RemovesCovered facts [] p (plan_with_cond (tree e) p) None
IsChange facts p change.Goes = RemovesCovered facts [] p (input_of p) None
