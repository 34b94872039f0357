use Rattle.std.proofs.Common.{◌≡◌, ◌++◌, map, length}
use Rattle.std.specs.Vec.Iter.{into_iter_items, into_iter_len}
use Rattle.aql_plan.specs.Runs.{result_of}
use Rattle.aql_engine.specs.Run.{rows_in}
use Rattle.aql_local.proofs.results.results_of.Given as goal

-- with the results of the blocks that are left they are all
abbrev pub invariant-loop-block : goal.invariant-loop-block
invariant-loop-block l = record {
  results : l.results ++ map result_of (rows_in (into_iter_items l.block-iterator))
      ≡ map result_of (rows_in l.fn.blocks.items);
  count : into_iter_len l.block-iterator ≡ length (into_iter_items l.block-iterator);
}
