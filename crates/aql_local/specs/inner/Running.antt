-- What a run of a plan gives, and what it leaves.
use Rattle.std.specs.Prelude.{ℕ, ◌≡◌, Result, IfOk}
use Rattle.aql_value.specs.declared.memory.OutOfMemory.{OutOfMemory}
use Rattle.aql_plan.specs.declared.plan.Plan.{Plan}
use Rattle.aql_shard.specs.Holding.{Holding}
use Rattle.aql_shard.specs.Datasets.{stock}
use Rattle.aql_net.specs.Logs.{picks_in}
use Rattle.aql_engine.specs.Engine.{IsRunOver, OwnCounted}
use Rattle.aql_engine.specs.Run.{PickedBy}
use Rattle.aql_engine.specs.declared.engine.Ran.{Ran}

-- the servers hold the documents that they held; where there was memory, this is a run of the plan over them, in
-- steps of so many rows, which the servers counted, and its messages came as the picker picked
pub record HasRun {P : Type 0} (picks : P → ℕ → ℕ → P → Type 0) (plan : Plan) (batch : ℕ)
    (servers servers' : Holding) (picker picker' : P) (result : Result Ran OutOfMemory) : Type 0 where
  pub held : stock servers' ≡ stock servers
  pub run : IfOk result (λ ran. (ran.plan ≡ plan) × (ran.batch ≡ batch) × IsRunOver (stock servers) ran)
  pub counted : IfOk result (λ ran. OwnCounted servers.counts servers'.counts ran.tally)
  pub picked : IfOk result (λ ran. PickedBy picks picker (picks_in ran.log) picker')
