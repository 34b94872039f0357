use Rattle.std.proofs.Common.{ℕ, ◌≡◌, ◌<◌, Some}
use Rattle.std.specs.Prelude.{slice_get}
use Rattle.aql_block.specs.Rows.{row_of}
use Rattle.aql_exec_fragments.specs.Feeds.{SameFeeds}
use Rattle.aql_exec_fragments.specs.Filling.{IsFresh}
use Rattle.aql_exec_fragments.proofs.filling.begin_fragments.Given as goal

abbrev pub invariant-loop-at : goal.invariant-loop-at
invariant-loop-at g l = record {
  same : SameFeeds g.F.Feed l.initial.fragments.items l.fragments.items;
  fresh : (k : ℕ) (f : g.row.F.Denot) → k < l.at → slice_get l.fragments.items k ≡ Some f
      → IsFresh g.S.Executor g.F.Feed g.W.Surroundings l.fn.scatter (g.W.Surroundings.stock l.fn.world)
      (row_of l.fn.start) k f;
}
