-- The rows that groups give: the start row with the variables of the criteria, of the aggregates and of INTO.
use Rattle.std.specs.Prelude.{◌≡◌, ℕ, List, map, Option, Some, None, option_map}
use Rattle.aql_value.specs.Datum.{Datum}
use Rattle.aql_value.specs.Contents.{list, elements}
use Rattle.aql_tree.specs.declared.syntax.Ident.{Ident}
use Rattle.aql_tree.specs.declared.syntax.Ident.TheVariants.{Num}
use Rattle.aql_meaning.specs.Row.{Row, bind, bind_all}
use Rattle.aql_meaning.specs.Visible.{aggregate_vars, into_var}
use Rattle.aql_block.specs.Rows.{row_of, HasAll, only}
use Rattle.aql_exec_rows.specs.Settings.{criteria_vars, aggregate_trees, into_of}
use Rattle.aql_exec_rows.specs.GroupStates.{Result}
use Rattle.aql_exec_rows.specs.declared.grouping.Grouping.{Grouping}
use Rattle.aql_exec_rows.specs.declared.frame.Frame.{Frame}

abbrev pub numbered : List ℕ → List Ident
numbered ns = map (λ n. Num n) ns

-- the row with the array of what INTO took
abbrev pub with_into_values : Option ℕ → List Datum → Row → Row
with_into_values None taken row = row
with_into_values (Some n) taken row = bind (Num n) row (list taken)

-- the row of a group
abbrev pub framed : Frame → Result → Row
framed f r = with_into_values f.into r.taken (bind_all (numbered f.aggregates.items) r.aggregates
    (bind_all (numbered f.criteria.items) (elements r.criteria) (row_of f.start)))

-- each row has a value for each of these variables and for no other
abbrev pub FitsFrame : Frame → List ℕ → Type 0
FitsFrame f registers =
    (r : Result) → HasAll registers (framed f r) × (only registers (framed f r) ≡ framed f r)

-- the variables are those that a COLLECT is set to
pub record IsFrame (g : Grouping) (f : Frame) : Type 0 where
  pub criteria : numbered f.criteria.items ≡ criteria_vars g.criteria
  pub aggregates : numbered f.aggregates.items ≡ aggregate_vars (aggregate_trees g.aggregates)
  pub into_is : option_map (λ n. Num n) f.into ≡ into_var (into_of g.into)
  pub fits : FitsFrame f f.registers.items
