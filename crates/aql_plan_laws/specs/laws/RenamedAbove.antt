-- A part of a plan is replaced by one that lacks a variable x, where y has its value: the nodes above go by
-- y.
use Rattle.std.proofs.Common.{◌≡◌, ◌∙◌, List, [], ◌∷◌, Bool, true, false, true≢false, cond, refl, ap, sym, subst}
use Rattle.std.specs.Prelude.{Option, Some, unwrap_or, ◌||◌}
use Rattle.std.specs.List.{AllZip}
use Rattle.aql_value.specs.Datum.{Datum, null}
use Rattle.aql_value.specs.Contents.{at_name}
use Rattle.aql_value.specs.Database.{Database}
use Rattle.aql_tree.specs.declared.syntax.Ident.{Ident}
use Rattle.aql_tree.specs.declared.syntax.Ident.TheVariants.{Num}
use Rattle.aql_tree.specs.Tree.{variable}
use Rattle.aql_meaning.specs.Row.{Row, value_at, same_ident}
use Rattle.aql_meaning.specs.Substitution.{put}
use Rattle.aql_meaning.specs.Uses.{Whole, Attribute, Uses, Agree}
use Rattle.aql_plan.specs.declared.facts.Facts.{Facts}
use Rattle.aql_plan.specs.Facts.{Meets}
use Rattle.aql_plan.specs.Plan.{Plan, Over, Node, Collect, NoResults, Scatter, Distribute, Gather}
use Rattle.aql_plan.specs.Runs.{Outside, result_of, Runs}
use Rattle.aql_plan.specs.Needs.{result_uses, under}
use Rattle.aql_plan.specs.Refines.{dataset, Refines}
use Rattle.aql_plan_laws.specs.laws.Lists.{map_equal}
use Rattle.aql_plan_laws.specs.laws.RunsAlike.{StartsAlike, gives_alike}
use Rattle.aql_plan.specs.Renaming.{NodeSets, IsOther, renamed_node, renamed, RefinesRenamed, is_used, IsGoneAfter}
use Rattle.aql_plan.specs.Above.{input_inside}
use Rattle.aql_plan_laws.specs.laws.Renamed.{Renamed, renaming}

module _ (x y : Ident) where
  unused_front : (a b : Bool) → (a || b) ≡ false → (a ≡ false) × (b ≡ false)
  unused_front true b h = absurd (true≢false h)
  unused_front false b h = (refl, h)

  unset : (b : Bool) → b ≡ false → (v w : Option Datum) → cond b v w ≡ w
  unset true h v w = absurd (true≢false h)
  unset false h v w = refl

  unused_agree : (us : Uses) → is_used x y us ≡ false → (row : Row) → Agree us (renamed x y row) row
  unused_agree [] h row = tt
  unused_agree (Whole z ∷ us) h row =
      let k = unused_front (same_ident x z) (is_used x y us) h in (
        ap (λ (o : Option Datum). unwrap_or o null)
            (unset (same_ident x z) k.0 (Some (value_at row y)) (row z)),
        unused_agree us k.1 row,
      )
  unused_agree (Attribute z name ∷ us) h row =
      let k = unused_front (same_ident x z) (is_used x y us) h in (
        ap (λ (o : Option Datum). at_name (unwrap_or o null) name)
            (unset (same_ident x z) k.0 (Some (value_at row y)) (row z)),
        unused_agree us k.1 row,
      )

  starts : (us : Uses) (n : Node) → IsGoneAfter x y n us → (start : Row) (free : IsOther x y (Num 0))
      → StartsAlike (put x (variable y)) (IsOther x y) (Renamed x y) (renaming x y) free us n start start
  starts us (Collect xs es gs i s) h start free = unused_agree us h start
  starts us n h start free = tt

  pub renamed_below : (n : Node) → input_inside n false ≡ false → NodeSets (IsOther x y) n
      → IsOther x y (Num 0) → (us : Uses)
      → IsGoneAfter x y n us → (facts : Facts) (q p : Plan) → RefinesRenamed x y (under n us) facts q p
      → RefinesRenamed x y us facts (Over q (renamed_node x y n)) (Over p n)
  renamed_below NoResults plain clear free us unused facts q p h db meets start out g =
      ([], refl, subst (λ (o : List Row). AllZip (Renamed x y us) o []) (sym g) tt)
  renamed_below (Scatter coll only) plain clear free us unused facts q p h db meets start out g =
      ([], refl, subst (λ (o : List Row). AllZip (Renamed x y us) o []) (sym g) tt)
  renamed_below (Distribute coll es) plain clear free us unused facts q p h db meets start out g =
      ([], refl, subst (λ (o : List Row). AllZip (Renamed x y us) o []) (sym g) tt)
  renamed_below (Gather directions es) plain clear free us unused facts q p h db meets start out g =
      absurd (true≢false plain)
  renamed_below n plain clear free us unused facts q p h db meets start out g =
      let a = h db meets start g.0 g.1 in
      let b = gives_alike (put x (variable y)) (IsOther x y) (Renamed x y) (renaming x y) free n clear us
      (dataset facts db) Outside Outside start start (starts us n unused start free) (λ coll shard. refl)
      g.0 a.0 out a.2 g.2 in
      (b.0, (a.0, a.1, b.1), b.2)

  pub renamed_answers : IsOther x y (Num 0) → (facts : Facts) (q p : Plan)
      → RefinesRenamed x y result_uses facts q p → Refines facts q p
  renamed_answers free facts q p h db meets start vs g =
      let a = h db meets start g.0 g.1 in (
        a.0,
        a.1,
        g.2 ∙ map_equal (Renamed x y result_uses) result_of result_of
            (λ r s k. (renaming x y).whole (Num 0) r s free k) g.0 a.0 a.2,
      )
