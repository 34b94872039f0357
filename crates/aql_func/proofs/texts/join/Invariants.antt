use Rattle.std.proofs.Common.{◌≡◌, map, take}
use Rattle.std.specs.Prelude.{string_bytes}
use Rattle.aql_value.specs.View.{datums_in}
use Rattle.aql_value.specs.Convert.{to_text}
use Rattle.aql_func.specs.Aggregates.{without_null}
use Rattle.aql_func.specs.Texts.{join_by}
use Rattle.aql_func.proofs.Joins.{has_some}
use Rattle.aql_func.proofs.texts.join.Given as goal

abbrev pub invariant-loop-value : goal.invariant-loop-value
invariant-loop-value l = record {
  joined : string_bytes l.out ≡ join_by l.separator (map to_text
      (without_null (datums_in (take l.value-index l.values))));
  started : l.started ≡ has_some (map to_text (without_null (datums_in (take l.value-index l.values))));
}
