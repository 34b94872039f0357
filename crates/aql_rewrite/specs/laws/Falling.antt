-- A sum over nodes that a rule lowers at its place, it lowers in the whole plan.
use Rattle.std.proofs.Common.{◌≡◌, ℕ, ◌+◌, ◌<◌, false, [], refl, ap₂, arith}
use Rattle.std.specs.Prelude.{Option, Some, None}
use Rattle.aql_tree.specs.declared.syntax.Ident.TheVariants.{Num}
use Rattle.aql_tree.specs.Tree.{ExprTree, variable}
use Rattle.aql_meaning.specs.Substitution.{put}
use Rattle.aql_meaning.specs.Uses.{Uses}
use Rattle.aql_plan.specs.declared.facts.Facts.{Facts}
use Rattle.aql_plan.specs.Plan.{Plan, Singleton, Over, Node, Subquery}
use Rattle.aql_plan.specs.Needs.{result_uses}
use Rattle.aql_plan.specs.Exprs.{map_plan, map_node}
use Rattle.aql_rewrite.specs.declared.swap.Rename.{Rename}
use Rattle.aql_rewrite.specs.Places.{renamed_by, Rewriting, First}
use Rattle.aql_rewrite.specs.Placed.{IsWhole}
use Rattle.aql_rewrite.specs.laws.Carried.{Lifts, first_lowers}
use Rattle.aql_rewrite.specs.laws.PlacedBelow.{whole_placed}
use Rattle.aql_rewrite.specs.Sums.{total, node_total}

-- for a number that no change of expressions changes
module _ (size : Node → ℕ) (same : (f : ExprTree → ExprTree) (n : Node) → size (map_node f n) ≡ size n) where
  mutual
    total_mapped : (f : ExprTree → ExprTree) (p : Plan) → total size (map_plan f p) ≡ total size p
    total_mapped f Singleton = refl
    total_mapped f (Over b n) = ap₂ (λ x y. x + y) (total_mapped f b) (node_mapped f n)

    node_mapped : (f : ExprTree → ExprTree) (n : Node) → node_total size (map_node f n) ≡ node_total size n
    node_mapped f (Subquery x s) = total_mapped f s
    node_mapped f n = same f n

  node_renamed : (n : Node) (r : Option Rename) → node_total size (renamed_by r n) ≡ node_total size n
  node_renamed n None = refl
  node_renamed n (Some r) = node_mapped (put (Num r.from) (variable (Num r.to))) n

  total_lifts : Lifts (total size) (total size)
  total_lifts = record {
    over = λ b c n r h. record {
      falls = omega (arith, h.falls, node_renamed n r);
      stays = omega (arith, h.stays, node_renamed n r);
    };
    with = λ b s t x h. record { falls = omega (arith, h.falls); stays = omega (arith, h.stays) };
  }

  pub total_falls : (facts : Facts) (R : Rewriting)
      → ((us : Uses) (p q : Plan) (r : Option Rename) → R us p q r → total size q < total size p)
      → (p q : Plan) (r : Option Rename) → IsWhole false facts p → First R false result_uses p q r
      → total size q < total size p
  total_falls facts R law p q r whole h =
      (first_lowers false facts R (total size) (total size) total_lifts
      (λ outer away us p q r placed g. record {
        falls = law us p q r g;
        stays = omega (arith, law us p q r g);
      })
      h [] [] (whole_placed false facts p whole)).falls
