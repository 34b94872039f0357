-- A traversal: its expressions, and its edges with its depths.
use Rattle.std.proofs.Common.{◌≤◌, sym, subst, List, map, eqb}
use Rattle.std.specs.Prelude.{◌↔◌, IsTrue}
use Rattle.std.specs.List.{AllByRecursion, IsDistinct}
use Rattle.aql_value.specs.declared.lists.CollNo.{CollNo}
use Rattle.aql_plan.specs.declared.plan.Node.{Node}
use Rattle.aql_plan.specs.Fits.{Fits, IsEdgeCollection}
use Rattle.aql_plan.specs.View.{node_tree}
use Rattle.aql_plan_check.proofs.Tests.{six}
use Rattle.aql_plan_check.proofs.fits.node_fits.Goals as goal

pub returns-then-traversal_is_plain : goal.returns-then-traversal_is_plain
returns-then-traversal_is_plain c =
    subst (λ (n : Node). IsTrue c.edges_fit.result ↔ Fits c.args.facts.now (node_tree n))
    (sym c.in-Traversal.is)
    (six c.edges_fit.result (c.traversal_is_plain.ensures.0 c.if-traversal_is_plain.true)
    (subst (λ (l : List CollNo). IsTrue c.edges_fit.result
    ↔ (AllByRecursion (IsEdgeCollection c.args.facts.now) (map (λ (k : CollNo). k.0) l)
    × (c.in-Traversal.min ≤ c.in-Traversal.max) × IsDistinct eqb (map (λ (k : CollNo). k.0) l)))
    c.as_slice-then-traversal_is_plain.ensures c.edges_fit.ensures))
