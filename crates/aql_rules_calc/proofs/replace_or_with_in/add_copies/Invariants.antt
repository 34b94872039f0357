use Rattle.std.proofs.Common.{◌≡◌, ◌++◌, map, take}
use Rattle.aql_tree.specs.View.{tree}
use Rattle.aql_rules_calc.proofs.replace_or_with_in.add_copies.Given as goal

abbrev pub invariant-loop-expr : goal.invariant-loop-expr
invariant-loop-expr l = map tree l.to ≡ map tree l.initial.to ++ map tree (take l.expr-index l.all)
