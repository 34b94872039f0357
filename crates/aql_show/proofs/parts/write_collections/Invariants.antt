use Rattle.std.proofs.Common.{◌≡◌, ◌++◌, drop, map}
use Rattle.std.specs.Prelude.{codes}
use Rattle.aql_value.specs.declared.lists.CollNo.{CollNo}
use Rattle.aql_show.specs.Lists.{listed}
use Rattle.aql_show.specs.Names.{collection_text}
use Rattle.aql_show.proofs.parts.write_collections.Given as goal

abbrev pub invariant-loop-coll : goal.invariant-loop-coll
invariant-loop-coll l =
    l.out.items ++ listed l.lead (codes ",")
    (map (collection_text l.facts) (map (λ (c : CollNo). c.0) (drop l.coll-index l.colls)))
    ≡ l.fn.out.items ++ listed (codes " ") (codes ",")
    (map (collection_text l.facts) (map (λ (c : CollNo). c.0) l.colls))
