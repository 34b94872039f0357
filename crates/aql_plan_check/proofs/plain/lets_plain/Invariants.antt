use Rattle.std.proofs.Common.{map, drop}
use Rattle.std.specs.Prelude.{◌↔◌}
use Rattle.aql_tree.specs.View.{trees, let_part}
use Rattle.aql_meaning.specs.Plain.{AllPlain}
use Rattle.aql_plan_check.proofs.plain.lets_plain.Given as goal

abbrev pub invariant-loop-each : goal.invariant-loop-each
invariant-loop-each l = AllPlain (trees (map (λ k. k.1) (map let_part (drop l.each-index l.lets))))
    ↔ AllPlain (trees (map (λ k. k.1) (map let_part l.lets)))
