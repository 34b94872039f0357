use Rattle.std.proofs.Common.{◌+◌, ◌*◌}
use Rattle.aql_exec.specs.Steps.{weight}
use Rattle.aql_exec_fragments.specs.Feeds.{gathered_budget}
use Rattle.aql_exec_fragments.proofs.Loops.{Turning, Kept, Linked}
use Rattle.aql_exec_fragments.proofs.running.run_gather.Given as goal

abbrev pub invariant-loop-input : goal.invariant-loop-input
invariant-loop-input g l =
    let x = g.X.Executor in
    let h = g.F.Feed in
    let p = g.W.Surroundings in
    Turning x h p l.call l.initial.gather l.initial.feeds.items l.initial.world l.initial.tally
    l.gather l.feeds.items l.world l.tally
    × Kept x h p l.initial.gather l.initial.feeds.items l.initial.world l.gather l.feeds.items l.world l.call
    × Linked x h p l.initial.feeds.items l.initial.world l.feeds.items l.world

abbrev pub decreases-loop-input : goal.decreases-loop-input
decreases-loop-input g l =
    let x = g.X.Executor in
    gathered_budget x g.F.Feed g.W.Surroundings l.initial.gather l.gather l.feeds.items l.world * weight
    + x.waits_left l.gather
