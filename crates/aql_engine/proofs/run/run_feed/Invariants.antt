use Rattle.std.proofs.Common.{◌≡◌, ◌+◌, ◌≤◌, ◌++◌, List, length, true}
use Rattle.aql_exec.specs.Lines.{Pick}
use Rattle.aql_exec.specs.Reads.{reads_little}
use Rattle.aql_block.specs.declared.calls.Call.{Call}
use Rattle.aql_block.specs.Rows.{row_of}
use Rattle.aql_exec.specs.Rests.{Counts, Rest, Prefixed}
use Rattle.aql_exec.specs.Rising.{IsExact, Rises}
use Rattle.aql_exec.specs.Steps.{IsCall}
use Rattle.aql_exec.specs.Operators.{Produces, exact_tree}
use Rattle.aql_engine.specs.Run.{rows_in, PickedBy}
use Rattle.aql_engine.proofs.run.run_feed.Given as goal

abbrev pub invariant-loop-blocks : goal.invariant-loop-blocks
invariant-loop-blocks g l =
    let f = g.F.Feed in
    let w = g.W.Surroundings in
    f.valid l.feed l.world
    × ((c : Call) → IsCall c → (c.offset ≡ 0) → (c.hard ≡ 18446744073709551615) → f.may l.feed c)
    × (f.plan l.feed ≡ f.plan l.fn.feed) × (w.stock l.world ≡ w.stock l.fn.world)
    × ((ks : List Pick) × ((w.deliveries l.world).picks ≡ (w.deliveries l.fn.world).picks ++ ks)
    × PickedBy g.P.Picker.picks l.fn.picker ks l.picker)
    × ((d : Counts) × Rises w (IsExact (exact_tree (f.plan l.fn.feed))) l.fn.tally l.fn.world l.tally l.world d
    × ((r : Rest) → f.rests l.feed l.world r
    → (b : Rest) × Prefixed (exact_tree (f.plan l.fn.feed)) (rows_in l.blocks.items) d r b
    × Produces (f.plan l.fn.feed) (w.stock l.fn.world) (row_of l.start) b))
    × (reads_little (f.plan l.fn.feed) ≡ true
    → l.tally.scanned_full ≤ l.fn.tally.scanned_full + length (rows_in l.blocks.items))
    × (w.batch l.world ≡ w.batch l.fn.world)

abbrev pub decreases-loop-blocks : goal.decreases-loop-blocks
decreases-loop-blocks g l = g.F.Feed.budget l.feed l.world + (g.W.Surroundings.deliveries l.world).left
