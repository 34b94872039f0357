-- In a plan of the program each COLLECT has one expression for each of its variables.
use Rattle.std.proofs.Common.{◌≡◌, ◌∙◌, ◌+◌, List, [], ◌∷◌, map, length, refl, ap, add-one}
use Rattle.aql_tree.specs.declared.syntax.Let.{Let}
use Rattle.aql_tree.specs.View.{trees, let_part}
use Rattle.aql_plan.specs.declared.plan.Plan as code
use Rattle.aql_plan.specs.declared.plan.Plan.TheVariants.{Singleton, Over', Subquery'}
use Rattle.aql_plan.specs.declared.plan.Node as coded
use Rattle.aql_plan.specs.declared.plan.Node.TheVariants.{Collect}
use Rattle.aql_plan.specs.Plan as spec
use Rattle.aql_plan.specs.Fits.{exprs_in}
use Rattle.aql_plan.specs.View.{node_tree, plan_tree}

abbrev mutual
  pub Paired : spec.Plan → Type 0
  Paired spec.Singleton = Unit {0}
  Paired (spec.Over b n) = Paired b × IsPaired n

  pub IsPaired : spec.Node → Type 0
  IsPaired (spec.Subquery x body) = Paired body
  IsPaired (spec.Collect xs es gs i s) = exprs_in es ≡ length xs
  IsPaired n = Unit {0}

pub groups_paired : (ls : List Let)
    → exprs_in (trees (map (λ l. l.1) (map let_part ls))) ≡ length (map (λ l. l.0) (map let_part ls))
groups_paired [] = refl
groups_paired (l ∷ ls) = ap (λ n. n + 1) (groups_paired ls) ∙ add-one _

node_paired : (n : coded.Node) → IsPaired (node_tree n)
node_paired (Collect groups gs into stage) = groups_paired groups
node_paired n = tt

pub plan_paired : (p : code.Plan) → Paired (plan_tree p)
plan_paired Singleton = tt
plan_paired (Over' p b n) = (plan_paired b, node_paired n.value)
plan_paired (Subquery' p b var q body) = (plan_paired b, plan_paired body)
