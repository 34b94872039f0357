use Rattle.std.proofs.Common.{◌≡◌, take}
use Rattle.aql_value.specs.View.{datums_in}
use Rattle.aql_value.proofs.copying.+copying.Given as goal

abbrev pub invariant-copy_items-loop-item : goal.invariant-copy_items-loop-item
invariant-copy_items-loop-item l = l.out ≡ datums_in (take l.item-index l.item-items)
