use Rattle.std.proofs.Common.{◌++◌, List, map, drop}
use Rattle.aql_tree.specs.Tree.{ExprTree}
use Rattle.aql_rewrite.specs.ExprView.{lent}
use Rattle.aql_rules_index.specs.inner.Covering.{PlainGoes, Sifts}
use Rattle.aql_rules_index.specs.inner.Views.{read_tree}
use Rattle.aql_rules_index.proofs.remove_filter_covered_by_index.parts_left.Given as goal

abbrev pub invariant-loop-part : goal.invariant-loop-part
invariant-loop-part l = (rest : List ExprTree)
    → Sifts (PlainGoes l.names (read_tree l.read)) (map lent (drop l.part-index l.parts)) rest
    → Sifts (PlainGoes l.names (read_tree l.read)) (map lent l.parts) (map lent l.left.items ++ rest)
