use Rattle.std.proofs.Common.{◌≡◌, ◌++◌, drop, map}
use Rattle.std.specs.Prelude.{codes}
use Rattle.aql_tree.specs.View.{trees, let_part}
use Rattle.aql_show.specs.Lists.{listed}
use Rattle.aql_show.specs.Nodes.{let_texts}
use Rattle.aql_show.proofs.parts.write_groups.Given as goal

abbrev pub invariant-loop-group : goal.invariant-loop-group
invariant-loop-group l =
    l.out.items ++ listed l.lead (codes ", ")
    (let_texts l.known.names.now (map (λ x. x.0) (map let_part (drop l.group-index l.groups)))
    (trees (map (λ x. x.1) (map let_part (drop l.group-index l.groups)))))
    ≡ l.fn.out.items ++ listed (codes " ") (codes ", ")
    (let_texts l.known.names.now (map (λ x. x.0) (map let_part l.groups))
    (trees (map (λ x. x.1) (map let_part l.groups))))
