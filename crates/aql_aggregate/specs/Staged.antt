-- What an aggregate keeps in each stage of a COLLECT, and what it makes of that (the high-level operation
-- COLLECT, AGGREGATE; Cluster: grouping on shards).
use Rattle.std.specs.Prelude.{◌≡◌, List}
use Rattle.aql_value.specs.Datum.{Datum}
use Rattle.aql_func.specs.Aggregates.{Aggregate, aggregate, state, join}
use Rattle.aql_meaning.specs.declared.grouping.Stage.{Stage}
use Rattle.aql_meaning.specs.declared.grouping.Stage.TheVariants as stage
use Rattle.aql_aggregate.specs.View.{aggregate_of}
use Rattle.aql_aggregate.specs.States as members
use Rattle.aql_aggregate.specs.PartialStates.{kind_of, Keeps}
use Rattle.aql_aggregate.specs.Joined.{Joins}
use Rattle.aql_aggregate.specs.declared.staged.StagedKind.{StagedKind}
use Rattle.aql_aggregate.specs.declared.staged.StagedAccumulator.{StagedAccumulator}
use Rattle.aql_aggregate.specs.declared.staged.StagedAccumulator.TheVariants as code

-- an aggregate in a stage
abbrev pub Staged : Type 0
Staged = Stage × Aggregate

abbrev pub staged : StagedKind → Staged
staged k = (k.stage, aggregate_of k.kind)

-- what a stage makes of members, or the final one of states
abbrev pub made_in : Stage → Aggregate → List Datum → Datum
made_in stage.Whole kind ts = aggregate kind ts
made_in stage.Partial kind ts = state kind ts
made_in stage.Final kind ts = join kind ts

abbrev pub made : Staged → List Datum → Datum
made k ts = made_in k.0 k.1 ts

abbrev pub KeepsAt : StagedAccumulator → Stage → Aggregate → List Datum → Type 0
KeepsAt (code.Whole a) stage.Whole kind ts = members.Keeps a kind ts
KeepsAt (code.Partial a) stage.Partial kind ts = (kind_of a ≡ kind) × Keeps a ts
KeepsAt (code.Final a) stage.Final kind ts = Joins a kind ts
KeepsAt _ _ kind ts = ⊥

abbrev pub KeepsIn : StagedAccumulator → Staged → List Datum → Type 0
KeepsIn a k ts = KeepsAt a k.0 k.1 ts
