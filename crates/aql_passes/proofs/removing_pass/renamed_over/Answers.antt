-- The renamings go into the top node.
use Rattle.std.proofs.Common.{◌∙◌, ap, sym, subst}
use Rattle.aql_plan.specs.Plan.{Plan, top}
use Rattle.aql_plan.specs.View.{plan_tree}
use Rattle.aql_rewrite.specs.Plain.{NodePlain}
use Rattle.aql_rewrite.specs.Renames.{top_each}
use Rattle.aql_rewrite.specs.laws.RenamedPlans.{top_over, over_plain}
use Rattle.aql_passes.proofs.removing_pass.renamed_over.Goals as goal

pub rename_top-requires : goal.rename_top-requires
rename_top-requires c =
    subst (λ (o : Plan). NodePlain (top o)) (sym c.with_below-part.ensures)
    (over_plain (plan_tree c.args.node) (plan_tree c.args.below) c.requires)

pub returns : goal.returns
returns c =
    c.in_ok-rename_top.ensures ∙ ap (top_each c.args.renames.now) c.with_below-part.ensures
    ∙ top_over c.args.renames.now (plan_tree c.args.node) (plan_tree c.args.below)
