use Rattle.std.proofs.Common.{refl}
use Rattle.aql_options.specs.Generated.{edge}
use Rattle.aql_options.proofs.Lists.{lines_more}
use Rattle.aql_options.proofs.generated.add_edges.Goals as goal

pub loop-before-preserved : goal.loop-before-preserved
loop-before-preserved c =
    lines_more (edge c.args.n) c.args.script.now.items c.loop-before.script.items _ _ c.loop-before.before
    c.in_ok-add_edge.ensures c.loop-before.invariant refl
