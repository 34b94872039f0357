use Rattle.std.proofs.Common.{◌∙◌, List, length, ap, sym, subst}
use Rattle.std.specs.Prelude.{All}
use Rattle.aql_index.specs.Dealing.{IsOver}
use Rattle.aql_index.specs.Entries.{IndexView}
use Rattle.aql_shard.specs.declared.parts.Part.{Part}
use Rattle.aql_shard.proofs.Collected.{few_held}
use Rattle.aql_shard.proofs.Dealt.{all_over}
use Rattle.aql_shard.proofs.parts.build_at.Goals as goal

pub build_whole-requires : goal.build_whole-requires
build_whole-requires c =
    few_held c.args.catalog.now c.args.coll.0 _ c.collection_at.ensures.held c.recall_limits.ensures

pub build_shards-requires-clause-few : goal.build_shards-requires-clause-few
build_shards-requires-clause-few c =
    few_held c.args.catalog.now c.args.coll.0 _ c.collection_at.ensures.held c.recall_limits.ensures

pub build_shards-requires-clause-there : goal.build_shards-requires-clause-there
build_shards-requires-clause-there c =
    let documents = c.collection_at.result.1.now in
    let are = c.as_slice-indexes.ensures ∙ ap (λ (p : Part). p.indexes) c.in_ok-whole.ensures in
    subst (λ (indexes : List IndexView). All (IsOver (length documents)) indexes) (sym are)
    (all_over documents c.as_slice.result.now)
