-- What the loop of an executor over feeds keeps.
use Rattle.std.specs.Prelude.{ℕ, ◌≡◌, ◌<◌, ◌≤◌, ◌⊎◌, List, [], length, Bool, true, Some, slice_get}
use Rattle.aql_meaning.specs.Row.{Row}
use Rattle.aql_block.specs.declared.calls.Call.{Call}
use Rattle.aql_block.specs.declared.tally.Tally.{Tally}
use Rattle.aql_exec.specs.declared.feed.Executor.{Ghosts}
use Rattle.aql_exec.specs.declared.feed.Feed
use Rattle.aql_exec.specs.declared.surroundings.Surroundings
use Rattle.aql_exec.specs.Rests.{Counts, Exact, Rest, with_rows, Prefixed, Ends}
use Rattle.aql_exec.specs.Rising.{ExactFor, Rises}
use Rattle.aql_exec.specs.Promises.{Beside}
use Rattle.aql_exec_fragments.specs.Feeds.{no_body, RestsAt, OwnOfAny, AllApart, SameFeeds, exact_over, GatheredRests, InputIs, gathered_budget}

-- each rest that is possible now leads to one that was possible before, past the rows that are unreported
abbrev pub LeadsAll : Exact → (ℕ → Rest → Type 0) → (ℕ → Bool) → (ℕ → ℕ) → ((ℕ → Rest) → Rest → Type 0)
    → Counts → (Rest → Type 0) → Type 0
LeadsAll e rests ended unreported gives d before =
    (ins : ℕ → Rest) → Ends e ended ins → ((k : ℕ) → rests k (ins k))
    → (s : ℕ → List Row) × ((k : ℕ) → length (s k) ≡ unreported k)
    × ((ins' : ℕ → Rest) → ((k : ℕ) → ins' k ≡ with_rows (s k) (ins k)) → (r : Rest) → gives ins' r
    → (b : Rest) × Prefixed e [] d r b × before b)

module _ {X F W : Type 0} (g : Ghosts X W) (h : Feed.Ghosts F W) (p : Surroundings.Ghosts W) where
  -- before the loop it was x0 over feeds0, in the world w0, with the tally t0
  pub record Turning (call : Call) (x0 : X) (feeds0 : List F) (w0 : W) (t0 : Tally) (x : X) (feeds : List F)
      (w : W) (t : Tally) : Type 0 where
    pub executor_valid : g.valid x w
    pub begun : (k : ℕ) → k < length feeds → g.started x k ≡ true
    pub inputs : (k : ℕ) (f : F) → slice_get feeds k ≡ Some f → InputIs g h p x f w k
    pub apart : AllApart h feeds
    pub added : Counts
    pub rises : Rises p (ExactFor (exact_over g h p x0 feeds0) call) t0 w0 t w added
    pub leads : LeadsAll (exact_over g h p x0 feeds0) (RestsAt h feeds w) (g.ended x) (g.unreported x)
        (g.gives x w 0 no_body) added (GatheredRests g h p x0 feeds0 w0)

  pub record Kept (x0 : X) (feeds0 : List F) (w0 : W) (x : X) (feeds : List F) (w : W) (call : Call)
      : Type 0 where
    pub node_kept : g.node x ≡ g.node x0
    pub full_kept : (f : ℕ) → g.full x f ≡ g.full x0 f
    pub row_cost_kept : (k f : ℕ) → g.row_cost x k f ≡ g.row_cost x0 k f
    pub feeds_kept : SameFeeds h feeds0 feeds
    pub may_come : g.may x 0 call
    pub budget_kept : gathered_budget g h p x0 x feeds w ≤ gathered_budget g h p x0 x0 feeds0 w0

  pub record Linked (feeds0 : List F) (w0 : W) (feeds : List F) (w : W) : Type 0 where
    pub ours_new : (l : ℕ) → OwnOfAny h feeds l → OwnOfAny h feeds0 l ⊎ (p.links w0 ≤ l)
    pub beside : Beside p (OwnOfAny h feeds0) w0 w
