use Rattle.std.proofs.Common.{◌≡◌, ◌++◌, drop, map}
use Rattle.std.specs.Prelude.{codes}
use Rattle.aql_tree.specs.View.{aggregates, aggregate_part}
use Rattle.aql_show.specs.Lists.{listed}
use Rattle.aql_show.specs.Nodes.{aggregate_texts}
use Rattle.aql_show.proofs.parts.write_aggregates.Given as goal

abbrev pub invariant-loop-aggregate : goal.invariant-loop-aggregate
invariant-loop-aggregate l =
    l.out.items ++ listed l.lead (codes ", ")
    (aggregate_texts l.known.names.now (aggregates (map aggregate_part (drop l.aggregate-index l.all))))
    ≡ l.fn.out.items ++ listed (codes " AGGREGATE ") (codes ", ")
    (aggregate_texts l.known.names.now (aggregates (map aggregate_part l.all)))
