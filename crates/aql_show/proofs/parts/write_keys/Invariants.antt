use Rattle.std.proofs.Common.{◌≡◌, ◌++◌, drop}
use Rattle.std.specs.Prelude.{codes}
use Rattle.aql_plan.specs.View.{directions, key_trees}
use Rattle.aql_show.specs.Lists.{listed}
use Rattle.aql_show.specs.Nodes.{key_texts}
use Rattle.aql_show.proofs.parts.write_keys.Given as goal

abbrev pub invariant-loop-key : goal.invariant-loop-key
invariant-loop-key l =
    l.out.items ++ listed l.lead (codes ", ")
    (key_texts l.known.names.now (directions (drop l.key-index l.keys)) (key_trees (drop l.key-index l.keys)))
    ≡ l.fn.out.items ++ listed (codes " ") (codes ", ")
    (key_texts l.known.names.now (directions l.keys) (key_trees l.keys))
