-- How many nodes a plan has: a measure that many rules lower.
use Rattle.std.proofs.Common.{◌≡◌, ◌∙◌, ℕ, ◌+◌, ◌≤◌, ◌<◌, refl, ap, ap₂, arith}
use Rattle.std.specs.Prelude.{Option, Some, None}
use Rattle.aql_tree.specs.declared.syntax.Ident.{Ident}
use Rattle.aql_tree.specs.declared.syntax.Ident.TheVariants.{Num}
use Rattle.aql_tree.specs.Tree.{ExprTree, variable}
use Rattle.aql_meaning.specs.Substitution.{put}
use Rattle.aql_plan.specs.Plan.{Plan, Singleton, Over, Node, Subquery}
use Rattle.aql_plan.specs.Nodes.{weight, weight_in}
use Rattle.aql_plan.specs.Exprs.{map_plan, map_node}
use Rattle.aql_rewrite.specs.declared.swap.Rename.{Rename}
use Rattle.aql_rewrite.specs.Places.{renamed_by}
use Rattle.aql_rewrite.specs.laws.Carried.{Lowers, Lifts}

module _ (f : ExprTree → ExprTree) where
  mutual
    plan_weight : (p : Plan) → weight (map_plan f p) ≡ weight p
    plan_weight Singleton = refl
    plan_weight (Over b n) = ap₂ (λ x y. x + (y + 1)) (plan_weight b) (node_weight n)

    node_weight : (n : Node) → weight_in (map_node f n) ≡ weight_in n
    node_weight (Subquery x s) = plan_weight s
    node_weight n = refl

pub renamed_weight : (n : Node) (r : Option Rename) → weight_in (renamed_by r n) ≡ weight_in n
renamed_weight n None = refl
renamed_weight n (Some r) = node_weight (put (Num r.from) (variable (Num r.to))) n

pub weight_lifts : Lifts weight weight
weight_lifts = record {
  over = λ b c n r h. record {
    falls = omega (arith, h.falls, renamed_weight n r);
    stays = omega (arith, h.stays, renamed_weight n r);
  };
  with = λ b s t x h. record { falls = omega (arith, h.falls); stays = omega (arith, h.stays) };
}
