-- Where distribute-filtercalc-to-cluster applies: as the program finds it, and that each application leaves
-- fewer Filters and Calculations outside fragments.
use Rattle.std.proofs.Common.{◌≡◌, ◌≤◌, ◌<◌, true, false, true≢false, refl, ap, sym, subst, arith, ◌⊎◌, inl, inr}
use Rattle.std.specs.Prelude.{Option, None}
use Rattle.std.proofs.lemmas.Bool.{and_parts}
use Rattle.aql_tree.specs.declared.syntax.Ident.{Ident}
use Rattle.aql_tree.specs.Tree.{ExprTree}
use Rattle.aql_meaning.specs.Uses.{Uses}
use Rattle.aql_plan.specs.declared.facts.Facts.{Facts}
use Rattle.aql_plan.specs.Above.{input_inside}
use Rattle.aql_plan.specs.Needs.{result_uses}
use Rattle.aql_plan.specs.Plan.{Plan, Singleton, Over, Node, Filter, Calculation, Remote, Gather}
use Rattle.aql_rewrite.specs.declared.swap.Rename.{Rename}
use Rattle.aql_rewrite.specs.Placed.{IsWhole}
use Rattle.aql_rewrite.specs.Places.{Stays, First}
use Rattle.aql_rules_cluster.specs.DistributeFiltercalcToCluster.{gathered, MovesInside, filter_inside, calculation_inside}
use Rattle.aql_rules_cluster.specs.FiltersOutside.{filters_outside, filter_outside}
use Rattle.aql_rules_cluster.specs.inner.FilterParts.{is_filtercalc, goes_inside}
use Rattle.aql_rules_cluster.specs.inner.Fragments.{is_gathered, IsMovedBelow}
use Rattle.aql_rules_cluster.specs.laws.Falling.{falls}
use Rattle.aql_rules_cluster.specs.laws.Gathers.{IsGathered, gathered_from}
use Rattle.aql_rules_cluster.specs.laws.Passes.{KeepsRunning}
use Rattle.aql_rules_cluster.specs.laws.Walking.{NoPlaces, none_below, none_in_fragment}

-- ---- what the program sees

filtercalc_is : (n : Node) → is_filtercalc n ≡ true
    → ((e : ExprTree) × (n ≡ Filter e)) ⊎ ((x : Ident) × (e : ExprTree) × (n ≡ Calculation x e))
filtercalc_is (Filter e) h = inl (e, refl)
filtercalc_is (Calculation x e) h = inr (x, e, refl)
filtercalc_is n h = absurd (true≢false (sym h))

made : (facts : Facts) → 1 ≤ facts.servers → (us : Uses) (b q : Plan) (n : Node) → is_filtercalc n ≡ true
    → IsGathered b → IsMovedBelow (Over b n) q → MovesInside facts us (Over b n) q None
made facts servers us b q n h g moved = by (filtercalc_is n h)
  where
    moved_is : q ≡ gathered g.directions g.keys (Over g.fragment n)
    moved_is = moved g.fragment Remote (Gather g.directions g.keys) n (ap (λ (p : Plan). Over p n) g.is)

    Made : Node → Type 0
    Made m = MovesInside facts us (Over (gathered g.directions g.keys g.fragment) m)
        (gathered g.directions g.keys (Over g.fragment m)) None

    put : Made n → MovesInside facts us (Over b n) q None
    put k = subst (λ (o : Plan). MovesInside facts us (Over b n) o None) (sym moved_is)
        (subst (λ (p : Plan). MovesInside facts us (Over p n)
        (gathered g.directions g.keys (Over g.fragment n)) None) (sym g.is) k)

    by : ((e : ExprTree) × (n ≡ Filter e)) ⊎ ((x : Ident) × (e : ExprTree) × (n ≡ Calculation x e))
        → MovesInside facts us (Over b n) q None
    by (inl (e, is)) = put (subst Made (sym is) (filter_inside servers))
    by (inr (x, e, is)) = put (subst Made (sym is) (calculation_inside servers))

pub made_at : (facts : Facts) → 1 ≤ facts.servers → (us : Uses) (p q : Plan) → goes_inside p ≡ true
    → IsMovedBelow p q → MovesInside facts us p q None
made_at facts servers us Singleton q h moved = absurd (true≢false (sym h))
made_at facts servers us (Over b n) q h moved =
    let k = and_parts (is_filtercalc n) (is_gathered b) h in
    made facts servers us b q n k.0 (gathered_from b k.1) moved

pub stays : (facts : Facts) (us : Uses) (p : Plan) → goes_inside p ≡ false → Stays (MovesInside facts) us p
stays facts us _ h _ _ (filter_inside servers) = absurd (true≢false h)
stays facts us _ h _ _ (calculation_inside servers) = absurd (true≢false h)

-- without servers there is none
pub stays_alone : (facts : Facts) → facts.servers ≡ 0 → (us : Uses) (p : Plan)
    → Stays (MovesInside facts) us p
stays_alone facts e us _ _ _ (filter_inside servers) = omega (arith, servers, e)
stays_alone facts e us _ _ _ (calculation_inside servers) = omega (arith, servers, e)

-- ---- no place

blind : (facts : Facts) (us vs : Uses) (p q : Plan) (r : Option Rename) → MovesInside facts us p q r
    → MovesInside facts vs p q r
blind facts us vs _ _ _ (filter_inside servers) = filter_inside servers
blind facts us vs _ _ _ (calculation_inside servers) = calculation_inside servers

-- what the rule makes of a part has no place where the part has none below it
pub none_moved : (facts : Facts) {vs : Uses} {p q : Plan} {r : Option Rename} → MovesInside facts vs p q r
    → (c : Plan) (n : Node) → p ≡ Over c n → NoPlaces (MovesInside facts) (input_inside n false) c
    → NoPlaces (MovesInside facts) false q
none_moved facts (filter_inside {f = f} {directions = directions} {keys = keys} {e = e} servers) c n is none
    us =
    let R = MovesInside facts in
    let there = none_below R (gathered directions keys f) c (Filter e) n is none in
    (((none_in_fragment R (blind facts) f directions keys there _, tt), tt), stays facts us _ refl)
none_moved facts (calculation_inside {f = f} {directions = directions} {keys = keys} {x = x} {e = e} servers)
    c n is none us =
    let R = MovesInside facts in
    let there = none_below R (gathered directions keys f) c (Calculation x e) n is none in
    (((none_in_fragment R (blind facts) f directions keys there _, tt), tt), stays facts us _ refl)

-- ---- fewer Filters and Calculations outside

fewer_at : (facts : Facts) (us : Uses) (p q : Plan) (r : Option Rename) → MovesInside facts us p q r
    → (r ≡ None) × (filters_outside false q < filters_outside false p)
fewer_at facts _ _ _ _ (filter_inside servers) = (refl, omega arith)
fewer_at facts _ _ _ _ (calculation_inside servers) = (refl, omega arith)

pub moves_fall : (facts : Facts) (p q : Plan) (r : Option Rename) → IsWhole true facts p
    → First (MovesInside facts) false result_uses p q r → filters_outside false q < filters_outside false p
moves_fall facts p q r whole h = falls filters_outside filter_outside (λ inside b n. refl) (λ x s. refl) facts
    (MovesInside facts) (fewer_at facts) p q r whole h

-- ---- what stays

pub runs_on : (facts : Facts) (us : Uses) (p q : Plan) (r : Option Rename) → MovesInside facts us p q r
    → KeepsRunning false p q r
runs_on facts _ _ _ _ (filter_inside servers) = record {
  nameless = refl;
  readers = λ h. (((h.0.0.0, tt), tt), tt);
}
runs_on facts _ _ _ _ (calculation_inside servers) = record {
  nameless = refl;
  readers = λ h. (((h.0.0.0, tt), tt), tt);
}
