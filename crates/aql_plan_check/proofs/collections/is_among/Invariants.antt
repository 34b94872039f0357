use Rattle.std.proofs.Common.{◌≡◌, map, drop, eqb}
use Rattle.std.specs.List.{list_any}
use Rattle.aql_value.specs.declared.lists.CollNo.{CollNo}
use Rattle.aql_plan_check.proofs.collections.is_among.Given as goal

abbrev pub invariant-loop-other : goal.invariant-loop-other
invariant-loop-other l = list_any (eqb l.coll.0) (map (λ (c : CollNo). c.0) (drop l.other-index l.others))
    ≡ list_any (eqb l.coll.0) (map (λ (c : CollNo). c.0) l.others)
