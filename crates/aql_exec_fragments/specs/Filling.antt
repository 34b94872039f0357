-- A fragment that begins over rows that its shard may get of what a Scatter keeps.
use Rattle.std.specs.Prelude.{ℕ, ◌≡◌, ◌≤◌, List, []}
use Rattle.aql_meaning.specs.Row.{Row}
use Rattle.aql_plan.specs.Runs.{Dataset}
use Rattle.aql_block.specs.declared.calls.Call.{Call}
use Rattle.aql_exec.specs.declared.feed.Executor.{Ghosts}
use Rattle.aql_exec.specs.declared.feed.Feed
use Rattle.aql_exec.specs.declared.surroundings.Surroundings
use Rattle.aql_exec.specs.Rests.{Rest}
use Rattle.aql_exec.specs.Steps.{IsCall}
use Rattle.aql_exec.specs.Operators.{ProducesOver}
use Rattle.aql_exec_fragments.specs.Feeds.{no_body}

module _ {S F W : Type 0} (g : Ghosts S W) (h : Feed.Ghosts F W) (p : Surroundings.Ghosts W) where
  -- over these documents, once the input of the Scatter gives no more rows, it may give these at the shard's
  -- port
  abbrev pub IsPart : S → Dataset → ℕ → List Row → Type 0
  IsPart s stock k part = (w : W) (ins : ℕ → Rest) → p.stock w ≡ stock → (ins 0).rows ≡ []
      → (r : Rest) × (r.rows ≡ part) × g.gives s w k no_body ins r

  pub record IsFresh (s : S) (stock : Dataset) (start : Row) (k : ℕ) (f : F) : Type 0 where
    pub valid : (w : W) → h.valid f w
    pub produces : (w : W) (r : Rest) → h.rests f w r
        → (part : List Row) × IsPart s stock k part × ProducesOver (h.plan f) (p.stock w) part start r
    pub may_come : (c : Call) → IsCall c → h.may f c
    pub no_link : (l : ℕ) → h.ours f l → ⊥
    pub budget : (w : W) → h.budget f w ≤ h.full f
