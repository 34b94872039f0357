-- The rule simplify-conditions: a constant expression that is no literal and whose value is null, a bool or a
-- number becomes that literal; of an object literal with fixed names the member of a name takes the place of
-- access to it. Where both hold, the first one counts.
use Rattle.std.specs.Prelude.{ℕ, ◌≡◌, List, Bool, true, false, cond, bytes_eq}
use Rattle.aql_value.specs.Datum.{Datum, null, boolean, number}
use Rattle.aql_tree.specs.Tree.{ExprTree, literal, object_literal, access, StepTrees, no_steps, name_then}
use Rattle.aql_tree.specs.Tree.{MemberTrees, no_members, named_then, computed_then}
use Rattle.aql_meaning.specs.Row.{empty_row}
use Rattle.aql_meaning.specs.Value.{value}
use Rattle.aql_rewrite.specs.Constant.{IsConstant}

-- null, a bool or a number
abbrev pub is_scalar : Datum → Bool
is_scalar null = true
is_scalar (boolean b) = true
is_scalar (number n) = true
is_scalar v = false

abbrev pub is_literal : ExprTree → Bool
is_literal (literal v) = true
is_literal e = false

-- the value of an expression without variables
abbrev pub constant_value : ExprTree → Datum
constant_value e = value e null empty_row

abbrev pub IsComputed : ExprTree → Type 0
IsComputed e = (is_literal e ≡ false) × IsConstant e × (is_scalar (constant_value e) ≡ true)

-- all names of an object literal are fixed
abbrev pub all_named : MemberTrees → Bool
all_named no_members = true
all_named (named_then name e ms) = all_named ms
all_named (computed_then n e ms) = false

-- the last member of a name; `before` where there is none
abbrev pub last_of : List ℕ → MemberTrees → ExprTree → ExprTree
last_of name no_members before = before
last_of name (named_then n e ms) before = last_of name ms (cond (bytes_eq name n) e before)
last_of name (computed_then n e ms) before = last_of name ms before

-- an expression with steps after it, if there are any
abbrev pub with_steps : ExprTree → StepTrees → ExprTree
with_steps e no_steps = e
with_steps e ss = access e ss

pub data Simplifies : ExprTree → ExprTree → Type 0 where
  to_literal : {e : ExprTree} → IsComputed e → Simplifies e (literal (constant_value e))
  to_member : {ms : MemberTrees} {name : List ℕ} {ss : StepTrees} → all_named ms ≡ true
      → (IsComputed (access (object_literal ms) (name_then name ss)) → ⊥)
      → Simplifies (access (object_literal ms) (name_then name ss))
      (with_steps (last_of name ms (literal null)) ss)
