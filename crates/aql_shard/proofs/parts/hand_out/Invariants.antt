use Rattle.std.proofs.Common.{◌≡◌, ◌≤◌, length, vec_len}
use Rattle.aql_shard.specs.inner.Dealt.{handed}
use Rattle.aql_shard.proofs.parts.hand_out.Given as goal

-- to hand out what is left leads to what it is to lead to
abbrev pub invariant-loop-index : goal.invariant-loop-index
invariant-loop-index l = record {
  rest : handed l.list l.indexes.items ≡ handed l.fn.parts l.fn.indexes.items;
  within : length l.indexes.items ≤ length l.list;
}

abbrev pub decreases-loop-index : goal.decreases-loop-index
decreases-loop-index l = vec_len l.indexes
