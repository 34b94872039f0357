-- A sum over nodes that a rule lowers at its place, it lowers in the whole plan: for any number, where the rule
-- renames nothing.
use Rattle.std.proofs.Common.{◌≡◌, ℕ, ◌<◌, false, [], refl, ap, arith}
use Rattle.std.specs.Prelude.{Option, None}
use Rattle.aql_meaning.specs.Uses.{Uses}
use Rattle.aql_plan.specs.declared.facts.Facts.{Facts}
use Rattle.aql_plan.specs.Plan.{Plan, Over, Node}
use Rattle.aql_plan.specs.Needs.{result_uses}
use Rattle.aql_rewrite.specs.declared.swap.Rename.{Rename}
use Rattle.aql_rewrite.specs.Places.{renamed_by, Rewriting, First}
use Rattle.aql_rewrite.specs.Placed.{IsWhole}
use Rattle.aql_rewrite.specs.Sums.{total, node_total}
use Rattle.aql_rewrite.specs.laws.Carried.{first_carried}
use Rattle.aql_rewrite.specs.laws.PlacedBelow.{whole_placed}

module _ (size : Node → ℕ) where
  over_falls : (b c : Plan) (n : Node) (r : Option Rename) → r ≡ None → total size c < total size b
      → total size (Over c (renamed_by r n)) < total size (Over b n)
  over_falls b c n r e h =
      let same : node_total size (renamed_by r n) ≡ node_total size n
      = ap (λ (o : Option Rename). node_total size (renamed_by o n)) e in
      omega (arith, h, same)

  pub nameless_falls : (facts : Facts) (R : Rewriting)
      → ((us : Uses) (p q : Plan) (r : Option Rename) → R us p q r
      → (r ≡ None) × (total size q < total size p))
      → (p q : Plan) (r : Option Rename) → IsWhole false facts p → First R false result_uses p q r
      → total size q < total size p
  nameless_falls facts R law p q r whole h =
      (first_carried false facts R (λ inside outer us p q r. (r ≡ None) × (total size q < total size p))
      (record {
        over = λ inside outer away us n b c r placed g. (g.0, over_falls b c n r g.0 g.1);
        with = λ outer away us x b s t r placed g. (refl, omega (arith, g.1));
      })
      (λ outer away us p q r placed g. law us p q r g) h [] [] (whole_placed false facts p whole)).1
