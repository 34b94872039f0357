use Rattle.std.proofs.Common.{◌≡◌, true, drop}
use Rattle.aql_value.specs.Datum.{Datum}
use Rattle.aql_value.specs.View.{datums_in}
use Rattle.aql_value.specs.Contents.{is_in}
use Rattle.aql_func.specs.Lists.{add_all}
use Rattle.aql_func.proofs.lists.add_all_once.Given as goal

abbrev pub invariant-loop-value : goal.invariant-loop-value
invariant-loop-value l = record {
  added : add_all true l.out (datums_in (drop l.value-index l.more))
      ≡ add_all true (datums_in l.values) (datums_in l.more);
  seen : (t : Datum) → is_in (datums_in l.seen.keys) t ≡ is_in l.out t;
}
