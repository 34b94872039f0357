-- One variable after another.
use Rattle.std.proofs.Common.{ap, subst, List, map, drop, ◌+◌}
use Rattle.aql_tree.specs.declared.syntax.Ident.{Ident}
use Rattle.aql_tree.specs.declared.syntax.Let.{Let}
use Rattle.aql_tree.specs.View.{let_part}
use Rattle.aql_plan_check.specs.inner.Rows.{AreNumbers}
use Rattle.aql_plan_check.proofs.SameVariables.{adds_next}
use Rattle.aql_plan_check.proofs.Tests.{left}
use Rattle.aql_plan_check.proofs.rows.add_groups.Goals as goal

pub loop-group-preserved : goal.loop-group-preserved
loop-group-preserved c =
    let groups = c.args.groups.now in
    let i = c.loop-group.group-index in
    let e = ap (λ (l : List Let). map (λ l. l.0) (map let_part l))
    (left groups i c.group-item.result c.loop-group-test.true c.group-item.is) in
    record {
      rest = (subst (λ (l : List Ident). AreNumbers l) e c.loop-group.invariant.rest).1;
      done = adds_next c.args.rows.now.keys c.loop-group.rows.keys c.add_group.new.rows.keys
          (map (λ l. l.0) (map let_part groups)) (map (λ l. l.0) (map let_part (drop (i + 1) groups)))
          (map (λ l. l.0) (map let_part (drop i groups))) (let_part c.group-item.result).0 e
          c.loop-group.invariant.done c.in_ok-add_group.ensures;
    }
