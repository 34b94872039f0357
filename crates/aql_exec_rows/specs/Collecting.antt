-- COLLECT: what it may still give, of the groups that it holds and of the rows that come.
use Rattle.std.specs.Prelude.{◌≡◌, ℕ, ◌+◌, ◌++◌, ◌⊎◌, List, [], length, map, reverse, Bool, true, false}
use Rattle.aql_meaning.specs.Row.{Row}
use Rattle.aql_meaning.specs.Groups.{GroupedRow, Collects}
use Rattle.aql_meaning.specs.Visible.{aggregate_vars, into_var}
use Rattle.aql_meaning.specs.Stages.{stage_functions}
use Rattle.aql_plan.specs.Fits.{AllKnown}
use Rattle.aql_block.specs.Rows.{row_of}
use Rattle.aql_block.specs.Tables.{rows_of}
use Rattle.aql_exec.specs.Rests.{Counter, Rest}
use Rattle.aql_exec_rows.specs.Settings.{criteria_vars, aggregate_trees, into_of, AreKinds}
use Rattle.aql_exec_rows.specs.GroupStates.{seen, Holds, finished_in}
use Rattle.aql_exec_rows.specs.Framed.{framed, IsFrame}
use Rattle.aql_exec_rows.specs.Sorting.{coming}
use Rattle.aql_exec_rows.specs.declared.grouping.Grouping.{Grouping}
use Rattle.aql_exec_rows.specs.declared.frame.Frame.{Frame}
use Rattle.aql_exec_rows.specs.declared.group.Finished.{Finished}
use Rattle.aql_exec_rows.specs.declared.collect.GroupRows.{GroupRows}

-- what a COLLECT makes of rows as it sees them, from a start row
abbrev pub CollectsBy : Grouping → Row → List GroupedRow → List Row → Type 0
CollectsBy g start rows out = Collects (criteria_vars g.criteria)
    (aggregate_vars (aggregate_trees g.aggregates)) (stage_functions g.stage (aggregate_trees g.aggregates))
    (into_var (into_of g.into)) start rows out

abbrev pub HasKinds : GroupRows → Type 0
HasKinds s = AreKinds s.grouping.stage s.grouping.aggregates s.kinds.items

-- the groups keep these rows; as long as no row came, an aggregate may be unknown
abbrev pub Keeps : GroupRows → List GroupedRow → Type 0
Keeps s rows = Holds s.grouping s.kinds.items rows s.groups × (HasKinds s ⊎ (rows ≡ []))

-- the rows that are in no group yet
abbrev pub more_rows : GroupRows → List Row → List GroupedRow
more_rows s rows = map (seen s.grouping) (rows_of s.block ++ coming s.closed rows)

-- the rows of these groups, from the last on
abbrev pub rows_from : Frame → List Finished → List Row
rows_from frame finished = map (framed frame) (reverse (finished_in finished))

-- what a COLLECT makes of the rows that the groups keep, whichever these are, and of those that are in no
-- group yet; once the groups are finished, their rows
abbrev pub LeavesGroups : Bool → GroupRows → List Row → List Row → Type 0
LeavesGroups true s rows out = out ≡ rows_from s.frame s.finished.items
LeavesGroups false s rows out = (before : List GroupedRow) → Keeps s before
    → CollectsBy s.grouping (row_of s.frame.start) (before ++ more_rows s rows) out

abbrev pub left_collect : GroupRows → List Row → Rest → Type 0
left_collect s rows r = LeavesGroups s.made s rows r.rows × ((c : Counter) → r.counts c ≡ 0)

-- how many rows may come of what it holds: a group gives one
abbrev pub room_of : GroupRows → ℕ
room_of s = (length s.groups.kept.items + length (rows_of s.block)) + length s.finished.items

pub record CollectIs (s : GroupRows) : Type 0 where
  pub kinds : AllKnown (aggregate_trees s.grouping.aggregates) → HasKinds s
  pub frame : IsFrame s.grouping s.frame
  pub kept : s.made ≡ false → (before : List GroupedRow) × Keeps s before
  pub made : s.made ≡ true → (s.closed ≡ true) × (rows_of s.block ≡ [])
