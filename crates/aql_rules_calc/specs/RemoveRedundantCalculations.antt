-- The rule remove-redundant-calculations: a Calculation goes where the same expression is calculated lower on
-- the same spine, with no Collect between, and its variable goes by the lower one's in the nodes above.
use Rattle.std.specs.Prelude.{◌≡◌, ℕ, false, Option, Some}
use Rattle.aql_tree.specs.declared.syntax.Ident.{Ident}
use Rattle.aql_tree.specs.declared.syntax.Ident.TheVariants.{Num}
use Rattle.aql_tree.specs.Tree.{ExprTree}
use Rattle.aql_meaning.specs.Uses.{Uses}
use Rattle.aql_plan.specs.Plan.{Plan, Over, Node, Calculation}
use Rattle.aql_rewrite.specs.declared.swap.Rename.{Rename}
use Rattle.aql_rewrite.specs.Nodes.{gives_new_rows}

-- the node calculates another expression, or none
abbrev pub IsNotOf : ExprTree → Node → Type 0
IsNotOf e n = (w : Ident) → n ≡ Calculation w e → ⊥

-- the nearest node that calculates e does so under w, and none above it makes new rows
pub data Calculates (e : ExprTree) (w : Ident) : Plan → Type 0 where
  here : {b : Plan} → Calculates e w (Over b (Calculation w e))
  further : {b : Plan} {n : Node} → IsNotOf e n → gives_new_rows n ≡ false → Calculates e w b
      → Calculates e w (Over b n)

abbrev pub renaming : ℕ → ℕ → Rename
renaming v w = record { from = v; to = w }

pub data Redundant : Uses → Plan → Plan → Option Rename → Type 0 where
  calculated_twice : {us : Uses} {b : Plan} {v w : ℕ} {e : ExprTree} → Calculates e (Num w) b
      → Redundant us (Over b (Calculation (Num v) e)) b (Some (renaming v w))
