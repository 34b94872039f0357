use Rattle.std.proofs.Common.{◌≡◌, map, drop}
use Rattle.aql_tree.specs.View.{members, member_part}
use Rattle.aql_rules_calc.specs.SimplifyConditions.{all_named}
use Rattle.aql_rules_calc.proofs.simplify_conditions.all_named.Given as goal

abbrev pub invariant-loop-field : goal.invariant-loop-field
invariant-loop-field l = all_named (members (map member_part l.fields))
    ≡ all_named (members (map member_part (drop l.field-index l.fields)))
