-- The expressions whose values a row holds (AQL fundamentals, Attribute access): a variable, and an attribute
-- of one at any depth, as in `x` and `x.a.b`.
use Rattle.std.specs.Prelude.{Bool, true, false}
use Rattle.aql_tree.specs.Tree.{ExprTree, variable, access, StepTrees, no_steps, name_then}

abbrev pub are_names : StepTrees → Bool
are_names no_steps = true
are_names (name_then name steps) = are_names steps
are_names steps = false

abbrev pub is_path : ExprTree → Bool
is_path (variable x) = true
is_path (access (variable x) steps) = are_names steps
is_path e = false
