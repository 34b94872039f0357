-- Each application of a rule lowers a number of nodes outside fragments, where it does so at its place: those
-- of the input and the own one, or those of the body.
use Rattle.std.proofs.Common.{◌≡◌, ℕ, ◌+◌, ◌<◌, [], Bool, true, false, Option, Some, None, refl, arith}
use Rattle.aql_tree.specs.declared.syntax.Ident.{Ident}
use Rattle.aql_meaning.specs.Uses.{Uses}
use Rattle.aql_plan.specs.declared.facts.Facts.{Facts}
use Rattle.aql_plan.specs.Above.{input_inside}
use Rattle.aql_plan.specs.Needs.{result_uses}
use Rattle.aql_plan.specs.Plan.{Plan, Over, Node, Subquery}
use Rattle.aql_rewrite.specs.declared.swap.Rename.{Rename}
use Rattle.aql_rewrite.specs.Placed.{IsWhole}
use Rattle.aql_rewrite.specs.Places.{Rewriting, renamed_by, First}
use Rattle.aql_rewrite.specs.laws.Carried.{first_carried}
use Rattle.aql_rewrite.specs.laws.PlacedBelow.{whole_placed}

module _ (outside : Bool → Plan → ℕ) (own : Bool → Node → ℕ)
    (over : (inside : Bool) (b : Plan) (n : Node)
    → outside inside (Over b n) ≡ outside (input_inside n inside) b + own inside n)
    (of_body : (x : Ident) (s : Plan) → own false (Subquery x s) ≡ outside false s) where
  abbrev pub Fewer : Bool → Plan → Plan → Option Rename → Type 0
  Fewer inside p q r = (r ≡ None) × (outside inside q < outside inside p)

  over_fewer : (inside : Bool) (b c : Plan) (n : Node) (r : Option Rename)
      → Fewer (input_inside n inside) b c r → Fewer inside (Over b n) (Over c (renamed_by r n)) r
  over_fewer inside b c n None h = (refl, omega (arith, h.1, over inside b n, over inside c n))
  over_fewer inside b c n (Some r) h = let e = h.0 in absurd (cc)

  body_fewer : (b s t : Plan) (x : Ident) → outside false t < outside false s
      → Fewer false (Over b (Subquery x s)) (Over b (Subquery x t)) None
  body_fewer b s t x h = (
    refl,
    omega (arith, h, over false b (Subquery x s), over false b (Subquery x t), of_body x s, of_body x t),
  )

  pub falls : (facts : Facts) (R : Rewriting)
      → ((us : Uses) (p q : Plan) (r : Option Rename) → R us p q r → Fewer false p q r)
      → (p q : Plan) (r : Option Rename) → IsWhole true facts p → First R false result_uses p q r
      → outside false q < outside false p
  falls facts R fewer_at p q r whole h =
      (first_carried true facts R (λ inside outer us p q r. Fewer inside p q r) (record {
        over = λ inside outer away us n b c r placed k. over_fewer inside b c n r k;
        with = λ outer away us x b s t r placed k. body_fewer b s t x k.1;
      }) (λ outer away us p q r placed k. fewer_at us p q r k) h [] [] (whole_placed true facts p whole)).1
