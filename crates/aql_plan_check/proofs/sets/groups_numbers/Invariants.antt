use Rattle.std.proofs.Common.{drop, map}
use Rattle.std.specs.Prelude.{◌↔◌}
use Rattle.std.specs.List.{AllByRecursion}
use Rattle.aql_tree.specs.View.{let_part}
use Rattle.aql_meaning.specs.Numbered.{IsNumber}
use Rattle.aql_plan_check.proofs.sets.groups_numbers.Given as goal

abbrev pub invariant-loop-group : goal.invariant-loop-group
invariant-loop-group l = AllByRecursion IsNumber (map (λ l. l.0) (map let_part (drop l.group-index l.groups)))
    ↔ AllByRecursion IsNumber (map (λ l. l.0) (map let_part l.groups))
