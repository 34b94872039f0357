use Rattle.std.proofs.Common.{◌∙◌, ap, refl}
use Rattle.std.specs.Prelude.{option_map}
use Rattle.aql_tree.specs.declared.syntax.Ident.TheVariants.{Num}
use Rattle.aql_plan.specs.View.{plan_tree}
use Rattle.aql_rewrite.specs.View.{above_uses}
use Rattle.aql_rules_filter.specs.laws.TraversalsOptimized.{gone_by, edge_at, path_at, traversal_stays}
use Rattle.aql_rules_filter.proofs.optimize_traversals.remove_variable.Goals as goal

pub returns-then-is_gone : goal.returns-then-is_gone
returns-then-is_gone c =
    let above = above_uses c.args.above.now in
    edge_at _ _ _ _ _ (plan_tree c.args.part.now) _ c.in-Some.ensures
    (gone_by (option_map (λ x. Num x) c.in-Some.edge) above (above_uses c.deref.result.now) _ _ _
    (ap above_uses c.deref.ensures.value ∙ c.in_ok-own.ensures) c.is_gone.ensures c.if-is_gone.true)
    c.remove_edge.ensures

pub returns-then-is_gone-2 : goal.returns-then-is_gone-2
returns-then-is_gone-2 c =
    let above = above_uses c.args.above.now in
    path_at _ _ _ _ _ (plan_tree c.args.part.now) _ c.in-Some.ensures
    (gone_by (option_map (λ x. Num x) c.in-Some.edge) above (above_uses c.deref.result.now) _ _ _
    (ap above_uses c.deref.ensures.value ∙ c.in_ok-own.ensures) c.is_gone.ensures c.if-is_gone.false)
    (gone_by (option_map (λ x. Num x) c.in-Some.path) above (above_uses c.deref-2.result.now) _ _ _
    (ap above_uses c.deref-2.ensures.value ∙ c.in_ok-own.ensures) c.is_gone-2.ensures c.if-is_gone-2.true)
    c.remove_path.ensures

pub returns : goal.returns
returns c =
    let above = above_uses c.args.above.now in (
      traversal_stays _ _ _ _ _ (plan_tree c.args.part.now) c.in-Some.ensures
          (gone_by (option_map (λ x. Num x) c.in-Some.edge) above (above_uses c.deref.result.now) _ _ _
          (ap above_uses c.deref.ensures.value ∙ c.in_ok-own.ensures) c.is_gone.ensures c.if-is_gone.false)
          (gone_by (option_map (λ x. Num x) c.in-Some.path) above (above_uses c.deref-2.result.now) _ _ _
          (ap above_uses c.deref-2.ensures.value ∙ c.in_ok-own.ensures) c.is_gone-2.ensures
          c.if-is_gone-2.false),
      refl,
    )
