use Rattle.std.proofs.Common.{◌≡◌, ◌++◌, drop, map}
use Rattle.std.specs.Prelude.{codes}
use Rattle.aql_show.specs.Lists.{listed}
use Rattle.aql_show.specs.Names.{name_text}
use Rattle.aql_show.proofs.names.write_names.Given as goal

abbrev pub invariant-loop-name : goal.invariant-loop-name
invariant-loop-name l =
    l.out.items ++ listed l.lead (codes ",") (map name_text (drop l.name-index l.names))
    ≡ l.fn.out.items ++ listed l.front (codes ",") (map name_text l.names)
