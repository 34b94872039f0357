use Rattle.std.proofs.Common.{◌≡◌, map, drop}
use Rattle.aql_value.specs.Datum.{null}
use Rattle.aql_tree.specs.Tree.{literal}
use Rattle.aql_tree.specs.View.{members, member_part}
use Rattle.aql_rules_calc.specs.inner.Members.{or_null}
use Rattle.aql_rules_calc.specs.SimplifyConditions.{last_of}
use Rattle.aql_rules_calc.proofs.simplify_conditions.last_of.Given as goal

abbrev pub invariant-loop-field : goal.invariant-loop-field
invariant-loop-field l = last_of l.name (members (map member_part l.fields)) (literal null)
    ≡ last_of l.name (members (map member_part (drop l.field-index l.fields))) (or_null l.found)
