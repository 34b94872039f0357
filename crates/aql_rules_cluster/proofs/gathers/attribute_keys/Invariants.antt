use Rattle.std.proofs.Common.{◌≡◌, map, take}
use Rattle.aql_tree.specs.declared.syntax.Ident.TheVariants.{Num}
use Rattle.aql_tree.specs.View.{key_part}
use Rattle.aql_rules_cluster.specs.inner.Gathers.{key_by}
use Rattle.aql_rules_cluster.proofs.gathers.attribute_keys.Given as goal

abbrev pub invariant-loop-name : goal.invariant-loop-name
invariant-loop-name l =
    map key_part l.keys ≡ map (key_by (Num l.var) l.descending) (take l.name-index l.names)
