-- What items and the bounds of an index say of a document beside a row.
use Rattle.std.specs.Prelude.{ℕ, Bool}
use Rattle.aql_value.specs.Datum.{Datum}
use Rattle.aql_value.specs.Contents.{at_name}
use Rattle.aql_value.specs.Truth.{truth}
use Rattle.aql_func.specs.Operators.{binary}
use Rattle.aql_tree.specs.Tree.{ExprTree, ExprTrees}
use Rattle.aql_meaning.specs.AtRows.{value_of, keys_of}
use Rattle.aql_meaning.specs.Documents.{Last, last_map, in_bounds}
use Rattle.aql_meaning.specs.Row.{Row}
use Rattle.aql_plan.specs.Facts.{attributes_in}
use Rattle.aql_plan.specs.Plan.{Reading}
use Rattle.aql_plan.specs.Runs.{Dataset}
use Rattle.aql_rules_index.specs.Choice.{Item}

-- the document's attribute stands so to the value of the other side
abbrev pub says : Item → Row → Datum → Bool
says i row d = truth (binary i.op (at_name d i.name) (value_of i.other row))

-- the document is in the bounds of an Index
abbrev pub in_index : Dataset → Reading → ℕ → ExprTrees → Last ExprTree → Row → Datum → Bool
in_index w x index equal last row d =
    in_bounds (attributes_in w.facts x.coll index) (keys_of equal row) (last_map (λ e. value_of e row) last) d
