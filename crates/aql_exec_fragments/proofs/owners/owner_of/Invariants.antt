use Rattle.std.proofs.Common.{ℕ, ◌≡◌, ◌<◌, Some}
use Rattle.std.specs.Prelude.{slice_get}
use Rattle.aql_exec_fragments.proofs.owners.owner_of.Given as goal

abbrev pub invariant-loop-at : goal.invariant-loop-at
invariant-loop-at g l = (k : ℕ) (f : g.row.F.Denot) → k < l.at → slice_get l.feeds k ≡ Some f
    → g.F.Feed.ours f l.link → ⊥
