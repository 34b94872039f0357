use Rattle.std.proofs.Common.{map, drop}
use Rattle.std.specs.Prelude.{◌↔◌}
use Rattle.aql_tree.specs.View.{trees, key_part}
use Rattle.aql_meaning.specs.Plain.{AllPlain}
use Rattle.aql_plan_check.proofs.plain.keys_plain.Given as goal

abbrev pub invariant-loop-key : goal.invariant-loop-key
invariant-loop-key l = AllPlain (trees (map (λ k. k.0) (map key_part (drop l.key-index l.keys))))
    ↔ AllPlain (trees (map (λ k. k.0) (map key_part l.keys)))
