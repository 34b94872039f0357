-- A Gather over its fragments and over the Scatter that they share, as one executor over the Scatter's input:
-- what it may still give, its links, its budget, and what is true of it between two turns.
use Rattle.std.specs.Prelude.{ℕ, ◌≡◌, ◌+◌, length, Bool, true, false, Some, slice_get, cond}
use Rattle.aql_meaning.specs.Row.{Row}
use Rattle.aql_block.specs.Rows.{row_of}
use Rattle.aql_exec.specs.declared.feed.Executor.{Ghosts}
use Rattle.aql_exec.specs.declared.feed.Feed
use Rattle.aql_exec.specs.declared.surroundings.Surroundings
use Rattle.aql_exec.specs.Rests.{Counter, Rest, Ends}
use Rattle.aql_exec.specs.Promises.{Begun}
use Rattle.aql_exec.specs.Operators.{Operator, Shards, ProducesOver}
use Rattle.aql_exec_fragments.specs.declared.gather_node.GatherNode.{GatherNode}
use Rattle.aql_exec_fragments.specs.Feeds.{no_body, total, trees_of, OwnOfAny, exact_over, Gathering}

module _ {X S F W : Type 0} (gx : Ghosts X W) (gs : Ghosts S W) (h : Feed.Ghosts F W)
    (p : Surroundings.Ghosts W) where
  abbrev pub node_of : GatherNode X S F → Operator
  node_of c = Shards (gx.node c.gather) (gs.node c.scatter) (trees_of h c.fragments.items)

  -- what a fragment may give: what it has left, or something over rows that its shard may get
  abbrev pub FragmentGives : Bool → S → Row → W → (ℕ → Rest) → ℕ → F → Rest → Type 0
  FragmentGives true s start w ins k f r = h.rests f w r
  FragmentGives false s start w ins k f r = (part : Rest) × gs.gives s w k no_body ins part
      × ProducesOver (h.plan f) (p.stock w) part.rows start r

  pub record NodeGives (c : GatherNode X S F) (w : W) (ins : ℕ → Rest) (r : Rest) : Type 0 where
    pub lists : ℕ → Rest
    pub own : Rest
    pub filling : Rest
    pub ends : Ends (exact_over gx h p c.gather c.fragments.items) (gx.ended c.gather) lists
    pub each : (k : ℕ) (f : F) → slice_get c.fragments.items k ≡ Some f
        → FragmentGives c.filled c.scatter (row_of c.start) w ins k f (lists k)
    pub fills : gs.gives c.scatter w (length c.fragments.items) no_body ins filling
    pub gathers : gx.gives c.gather w 0 no_body lists own
    pub rows : r.rows ≡ own.rows
    pub counts : (k : Counter) → r.counts k ≡ own.counts k + filling.counts k

  abbrev pub own_of : GatherNode X S F → ℕ → Type 0
  own_of c l = (c.filled ≡ true) × OwnOfAny h c.fragments.items l

  -- its input is done
  pub record IsFilled (s : S) : Type 0 where
    pub ended : gs.ended s 0 ≡ true
    pub none_waits : (k : ℕ) → gs.waited s k → ⊥

  -- the Gather begins when the Scatter is filled
  pub record NodeIs (c : GatherNode X S F) (w : W) : Type 0 where
    pub gather_valid : gx.valid c.gather w
    pub scatter_valid : gs.valid c.scatter w
    pub unfilled : c.filled ≡ false → Begun (gx.node c.gather) (gx.unreported c.gather) (gx.ours c.gather)
        (gx.waited c.gather) (gx.stuck c.gather) (gx.busy c.gather) (gx.may c.gather) (gx.asks c.gather)
        (gx.ended c.gather) (gx.started c.gather)
    pub filled : c.filled ≡ true → IsFilled c.scatter × Gathering gx h p c.gather c.fragments.items w

  abbrev pub budget_of : GatherNode X S F → W → ℕ
  budget_of c w = gx.budget c.gather w 0 + cond c.filled
      (total (λ f. h.budget f w) (λ k. gx.row_cost c.gather k 0) c.fragments.items)
      (gs.budget c.scatter w 0 + total h.full (λ k. gx.row_cost c.gather k 0) c.fragments.items)

  abbrev pub full_of : GatherNode X S F → ℕ
  full_of c = gx.full c.gather 0
      + (gs.full c.scatter 0 + total h.full (λ k. gx.row_cost c.gather k 0) c.fragments.items)
