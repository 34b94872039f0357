-- What the groups keep of the rows that came, and what comes of them when all rows came.
use Rattle.std.specs.Prelude.{◌≡◌, ℕ, List, [], ◌∷◌, ◌++◌, length, map, filter, Bool, true, false, Option, Some, None, MatchOption, slice_get}
use Rattle.aql_value.specs.Datum.{Datum}
use Rattle.aql_value.specs.Contents.{list, elements, same, is_in}
use Rattle.aql_value.specs.View.{datum_of, datums_in}
use Rattle.aql_func.specs.Arguments.{argument}
use Rattle.aql_func.specs.Lists.{firsts}
use Rattle.aql_tree.specs.declared.syntax.Ident.{Ident}
use Rattle.aql_tree.specs.declared.syntax.Into.{Into}
use Rattle.aql_meaning.specs.Row.{Row}
use Rattle.aql_meaning.specs.Groups.{GroupedRow, aggregate_values}
use Rattle.aql_aggregate.specs.declared.staged.StagedKind.{StagedKind}
use Rattle.aql_aggregate.specs.declared.staged.StagedAccumulator.{StagedAccumulator}
use Rattle.aql_aggregate.specs.Staged.{Staged, staged, made, KeepsIn}
use Rattle.aql_exec_rows.specs.Settings.{criteria_vars, seen_by}
use Rattle.aql_exec_rows.specs.declared.grouping.Grouping.{Grouping}
use Rattle.aql_exec_rows.specs.declared.group.Group.{Group}
use Rattle.aql_exec_rows.specs.declared.group.Finished.{Finished}
use Rattle.aql_exec_rows.specs.declared.groups.Groups.{Groups}

-- a row of the input as COLLECT sees it
abbrev pub seen : Grouping → Row → GroupedRow
seen g row = seen_by g.stage g.criteria g.aggregates g.into row

-- ---- one group

-- the accumulator at a place keeps an aggregate of these members
abbrev pub AccumulatesAt : List StagedAccumulator → ℕ → Staged → List Datum → Type 0
AccumulatesAt accumulators n kind ts = MatchOption (slice_get accumulators n) ⊥ (λ a. KeepsIn a kind ts)

-- the arguments of the aggregate at a place
abbrev pub arguments_of : ℕ → List GroupedRow → List Datum
arguments_of n rows = map (λ (row : GroupedRow). argument row.arguments n) rows

-- each aggregate is kept of the members
abbrev pub AllAccumulate : List StagedKind → List StagedAccumulator → List GroupedRow → Type 0
AllAccumulate kinds accumulators members = (n : ℕ) (kind : StagedKind) → slice_get kinds n ≡ Some kind
    → AccumulatesAt accumulators n (staged kind) (arguments_of n members)

-- what INTO took of the members; nothing where there is no INTO
abbrev pub into_values_of : Option Into → List GroupedRow → List Datum
into_values_of None members = []
into_values_of (Some i) members = map (λ (row : GroupedRow). row.into_value) members

-- a group keeps the aggregates of its members, and these values of INTO
pub record IsGroup (kinds : List StagedKind) (members : List GroupedRow) (taken : List Datum) (g : Group)
    : Type 0 where
  pub count : length g.accumulators.items ≡ length kinds
  pub kept : AllAccumulate kinds g.accumulators.items members
  pub taken_is : g.taken ≡ taken

-- a group after it took one member more, with these arguments and these values of INTO
pub record Takes (arguments taken : List Datum) (g g' : Group) : Type 0 where
  pub count : length g'.accumulators.items ≡ length g.accumulators.items
  pub kept : (n : ℕ) (kind : Staged) (ts : List Datum) → AccumulatesAt g.accumulators.items n kind ts
      → AccumulatesAt g'.accumulators.items n kind (ts ++ argument arguments n ∷ [])
  pub taken_is : g'.taken ≡ g.taken ++ taken

-- a new key gets a group without members
abbrev pub Grows : List StagedKind → Bool → List Group → List Group → Type 0
Grows kinds true gs gs' = gs' ≡ gs
Grows kinds false gs gs' = (fresh : Group) × IsGroup kinds [] [] fresh × (gs' ≡ gs ++ fresh ∷ [])

-- ---- the groups

-- the criteria of a row as one array
abbrev pub key_of : GroupedRow → Datum
key_of row = list row.criteria

-- the rows of a key
abbrev pub members_of : Datum → List GroupedRow → List GroupedRow
members_of key rows = filter (λ row. same key (key_of row)) rows

-- the keys of the groups, in the order in which they were seen first; without criteria there is one
abbrev pub keys_seen : List Ident → List GroupedRow → List Datum
keys_seen [] rows = list [] ∷ []
keys_seen (x ∷ xs) rows = firsts (map key_of rows)

-- each group keeps the rows of its key, and no key comes twice
abbrev pub AreGroups : List StagedKind → Option Into → List GroupedRow → List Datum → List Group → Type 0
AreGroups kinds into rows [] [] = Unit {0}
AreGroups kinds into rows (key ∷ keys) (g ∷ gs) = (list (elements key) ≡ key) × (is_in keys key ≡ false)
    × IsGroup kinds (members_of key rows) (into_values_of into (members_of key rows)) g
    × AreGroups kinds into rows keys gs
AreGroups kinds into rows keys gs = ⊥

-- the groups keep these rows
pub record Holds (g : Grouping) (kinds : List StagedKind) (rows : List GroupedRow) (s : Groups)
    : Type 0 where
  pub keys : datums_in s.keys.keys ≡ keys_seen (criteria_vars g.criteria) rows
  pub groups : AreGroups kinds g.into rows (datums_in s.keys.keys) s.kept.items

-- ---- what comes of them

-- the criteria of a group as one array, the values of its aggregates, and what INTO took
pub record Result : Type 0 where
  pub criteria : Datum
  pub aggregates : List Datum
  pub taken : List Datum

abbrev pub finished_of : Finished → Result
finished_of f = record {
  criteria = datum_of f.criteria;
  aggregates = datums_in f.aggregates.items;
  taken = f.taken;
}

abbrev pub finished_in : List Finished → List Result
finished_in fs = map finished_of fs

-- what each aggregate makes of the values of its argument, or of states
abbrev pub functions_of : List StagedKind → List (List Datum → Datum)
functions_of kinds = map (λ k. made (staged k)) kinds

abbrev pub result_of_members : List StagedKind → Datum → List GroupedRow → List Datum → Result
result_of_members kinds key members taken =
    record { criteria = key; aggregates = aggregate_values (functions_of kinds) 0 members; taken = taken }

abbrev pub result_of : Option Into → List StagedKind → List GroupedRow → Datum → Result
result_of into kinds rows key =
    result_of_members kinds key (members_of key rows) (into_values_of into (members_of key rows))
