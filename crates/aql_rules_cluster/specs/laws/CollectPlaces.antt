-- Where collect-in-cluster applies: what its program looks at, and that each application leaves one Collect in
-- one stage fewer outside fragments.
use Rattle.std.proofs.Common.{◌≡◌, ◌∙◌, ◌≤◌, ◌<◌, [], Bool, true, false, Option, Some, None, refl, ap, sym, subst, arith}
use Rattle.aql_tree.specs.Tree.{no_exprs, no_into}
use Rattle.aql_meaning.specs.declared.grouping.Stage.TheVariants.{Whole, Partial, Final}
use Rattle.aql_meaning.specs.Uses.{Uses}
use Rattle.aql_plan.specs.declared.facts.Facts.{Facts}
use Rattle.aql_plan.specs.Above.{input_inside}
use Rattle.aql_plan.specs.Needs.{under, result_uses}
use Rattle.aql_plan.specs.Plan.{Plan, Singleton, Over, Node, Collect, Remote, Gather}
use Rattle.aql_rewrite.specs.declared.swap.Rename.{Rename}
use Rattle.aql_rewrite.specs.Placed.{IsWhole}
use Rattle.aql_rewrite.specs.Places.{Stays, First}
use Rattle.aql_rules_cluster.specs.CollectInCluster.{in_two_stages, CollectsInside, collected}
use Rattle.aql_rules_cluster.specs.CollectsOutside.{collects_outside, collect_outside}
use Rattle.aql_rules_cluster.specs.inner.Fragments.{is_gathered}
use Rattle.aql_rules_cluster.specs.inner.Groupings.{Grouping, grouping_by, grouping, IsGroupedInside}
use Rattle.aql_rules_cluster.specs.laws.Falling.{falls}
use Rattle.aql_rules_cluster.specs.laws.Gathers.{gathered_from}
use Rattle.aql_rules_cluster.specs.laws.Passes.{KeepsRunning}
use Rattle.aql_rules_cluster.specs.laws.Walking.{NoPlaces, none_below, none_in_fragment}

-- ---- what the program sees

-- no Collect in one stage without INTO over a Gather
pub stays : (facts : Facts) (us : Uses) (p : Plan) → grouping p ≡ None → Stays (CollectsInside facts) us p
stays facts us _ h _ _ (collected servers) = absurd (cc)

abbrev collect_of : Grouping → Node
collect_of g = Collect g.vars g.criteria g.aggregates no_into Whole

collect_from : (n : Node) (gathered : Bool) (g : Grouping) → grouping_by n gathered ≡ Some g
    → (n ≡ collect_of g) × (gathered ≡ true)
collect_from (Collect xs es gs no_into Whole) true g e =
    let k : record { vars = xs; criteria = es; aggregates = gs } ≡ g = cc in (ap collect_of k, refl)
collect_from (Collect xs es gs no_into Whole) false g e = absurd (cc)
collect_from n gathered g e = absurd (cc)

-- a Collect over a Gather, and what the program makes of it
pub made_at : (facts : Facts) → 1 ≤ facts.servers → (us : Uses) (p q : Plan) (g : Grouping)
    → grouping p ≡ Some g → IsGroupedInside g p q → CollectsInside facts us p q None
made_at facts servers us Singleton q g e h = absurd (cc)
made_at facts servers us (Over b n) q g e h =
    let k = collect_from n (is_gathered b) g e in
    let c = gathered_from b k.1 in
    let over : Node → Plan
    = Over (Over (Over c.fragment Remote) (Gather c.directions c.keys)) in
    let is : Over b n ≡ over (collect_of g) = ap (λ (o : Plan). Over o n) c.is ∙ ap over k.0 in
    subst (λ (o : Plan). CollectsInside facts us o q None) (sym is)
    (subst (λ (o : Plan). CollectsInside facts us (over (collect_of g)) o None)
    (sym (h c.fragment (Gather c.directions c.keys) is)) (collected servers))

-- ---- no place

blind : (facts : Facts) (us vs : Uses) (p q : Plan) (r : Option Rename) → CollectsInside facts us p q r
    → CollectsInside facts vs p q r
blind facts us vs _ _ _ (collected servers) = collected servers

-- without servers there is none
pub stays_alone : (facts : Facts) → facts.servers ≡ 0 → (us : Uses) (p : Plan)
    → Stays (CollectsInside facts) us p
stays_alone facts e us _ _ _ (collected servers) = omega (arith, servers, e)

-- what the rule makes of a part has no place where the part has none below it
pub none_collected : (facts : Facts) {vs : Uses} {p q : Plan} {r : Option Rename}
    → CollectsInside facts vs p q r → (c : Plan) (n : Node) → p ≡ Over c n
    → NoPlaces (CollectsInside facts) (input_inside n false) c → NoPlaces (CollectsInside facts) false q
none_collected facts (collected {fragment = f} {directions = directions} {keys = keys} {xs = xs} {es = es}
    {gs = gs} servers) c n e none us =
    let R = CollectsInside facts in
    let gathered = Over (Over f Remote) (Gather directions keys) in
    let inside = none_in_fragment R (blind facts) f directions keys
    (none_below R gathered c (Collect xs es gs no_into Whole) n e none) in
    let first = Over (Over f (Collect xs es gs no_into Partial)) Remote in
    let final = Collect xs es gs no_into Final in (
      ((((inside _, tt), tt), stays facts (under final us) (Over first (Gather [] no_exprs)) refl)),
      stays facts us (in_two_stages f xs es gs) refl,
    )

-- ---- fewer places

fewer_at : (facts : Facts) (us : Uses) (p q : Plan) (r : Option Rename) → CollectsInside facts us p q r
    → (r ≡ None) × (collects_outside false q < collects_outside false p)
fewer_at facts _ _ _ _ (collected servers) = (refl, omega arith)

pub collects_fall : (facts : Facts) (p q : Plan) (r : Option Rename) → IsWhole true facts p
    → First (CollectsInside facts) false result_uses p q r
    → collects_outside false q < collects_outside false p
collects_fall facts p q r whole h = falls collects_outside collect_outside (λ inside b n. refl) (λ x s. refl)
    facts (CollectsInside facts) (fewer_at facts) p q r whole h

-- ---- what stays

pub runs_on : (facts : Facts) (us : Uses) (p q : Plan) (r : Option Rename) → CollectsInside facts us p q r
    → KeepsRunning false p q r
runs_on facts _ _ _ _ (collected servers) = record {
  nameless = refl;
  readers = λ h. ((((h.0.0.0, tt), tt), tt), tt);
}
