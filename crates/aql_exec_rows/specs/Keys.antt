-- Rows with their keys.
use Rattle.std.specs.Prelude.{ℕ, List, [], ◌∷◌, map, take, Option, Some, None}
use Rattle.aql_value.specs.Datum.{Datum}
use Rattle.aql_value.specs.View.{datum_of, datums_in}
use Rattle.aql_tree.specs.Tree.{ExprTrees}
use Rattle.aql_meaning.specs.Row.{Row}
use Rattle.aql_meaning.specs.AtRows.{keys_of}
use Rattle.aql_meaning.specs.Clauses.{KeyedRow}
use Rattle.aql_block.specs.Rows.{row_of}
use Rattle.aql_exec_rows.specs.declared.keyed.Keyed.{Keyed}
use Rattle.aql_exec_rows.specs.declared.keyed.KeyValues.{KeyValues}
use Rattle.aql_exec_rows.specs.declared.keyed.KeyValues.TheVariants.{One, Several}

-- a row with the values of its keys
abbrev pub with_keys : ExprTrees → Row → KeyedRow
with_keys es row = (keys_of es row, row)

-- the values of a row's keys; one that is alone stands without a list
abbrev pub values_in : KeyValues → List Datum
values_in (One v) = datum_of v ∷ []
values_in (Several vs) = datums_in vs.items

-- the rows that are held, with their keys
abbrev pub keyed_of : Keyed → KeyedRow
keyed_of k = (values_in k.keys, row_of k.row)

abbrev pub keyed_in : List Keyed → List KeyedRow
keyed_in ks = map keyed_of ks

-- the rows alone
abbrev pub rows_alone : List KeyedRow → List Row
rows_alone ks = map (λ (k : KeyedRow). k.1) ks

-- the first of a list, where only so many are asked for
abbrev pub first_of : {X : Type 0} → Option ℕ → List X → List X
first_of None xs = xs
first_of (Some count) xs = take count xs
