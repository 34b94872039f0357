use Rattle.std.proofs.Common.{◌≡◌, ◌+◌, ◌++◌, List, length, map, reverse}
use Rattle.std.specs.Prelude.{Option}
use Rattle.aql_value.specs.View.{datums_in}
use Rattle.aql_tree.specs.declared.syntax.Into.{Into}
use Rattle.aql_meaning.specs.Groups.{GroupedRow}
use Rattle.aql_aggregate.specs.declared.staged.StagedKind.{StagedKind}
use Rattle.aql_exec_rows.specs.GroupStates.{AreGroups, finished_in, result_of}
use Rattle.aql_exec_rows.proofs.groups.Groups.finish.Given as goal

-- the groups that are left stand under the keys that are left, and with what comes of them it is all
abbrev pub invariant-loop-key : goal.invariant-loop-key
invariant-loop-key l = record {
  paired : length l.kept.items ≡ length l.key-iterator;
  count : length l.all.items + length l.kept.items ≡ length l.fn.self.kept.items;
  results : (kinds : List StagedKind) (into : Option Into) (rows : List GroupedRow)
      → AreGroups kinds into rows (datums_in l.fn.self.keys.keys) l.fn.self.kept.items
      → AreGroups kinds into rows (datums_in l.key-iterator) (reverse l.kept.items)
      × (finished_in l.all.items ++ map (result_of into kinds rows) (datums_in l.key-iterator)
      ≡ map (result_of into kinds rows) (datums_in l.fn.self.keys.keys));
}
