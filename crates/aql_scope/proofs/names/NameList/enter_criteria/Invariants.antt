use Rattle.std.proofs.Common.{◌≡◌, map, drop}
use Rattle.aql_tree.specs.View.{let_part}
use Rattle.aql_meaning.specs.Visible.{onto}
use Rattle.aql_scope.specs.Numbering.{idents}
use Rattle.aql_scope.proofs.names.NameList.enter_criteria.Given as goal

abbrev pub invariant-loop-group : goal.invariant-loop-group
invariant-loop-group l =
    onto (map (λ p. p.0) (map let_part (drop l.group-index l.groups))) (idents l.self)
    ≡ onto (map (λ p. p.0) (map let_part l.groups)) (idents l.fn.self)
