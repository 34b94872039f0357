-- Where distribute-in-cluster applies: as the program finds it, and that each application leaves one foot
-- fewer that sends rows to all shards.
use Rattle.std.proofs.Common.{◌≡◌, ◌∙◌, ℕ, ◌≤◌, ◌<◌, List, Bool, true, false, Option, Some, None, refl, ap, sym, subst, arith}
use Rattle.aql_tree.specs.Tree.{ExprTrees}
use Rattle.aql_meaning.specs.Uses.{Uses}
use Rattle.aql_plan.specs.declared.facts.Facts.{Facts}
use Rattle.aql_plan.specs.Above.{input_inside}
use Rattle.aql_plan.specs.Needs.{under, result_uses}
use Rattle.aql_plan.specs.Plan.{Plan, Singleton, Over, Node, Scatter, Distribute, Remote, Gather, top}
use Rattle.aql_rewrite.specs.declared.swap.Rename.{Rename}
use Rattle.aql_rewrite.specs.Placed.{IsWhole}
use Rattle.aql_rewrite.specs.Places.{Stays, First, NoPlace}
use Rattle.aql_rules_cluster.specs.DistributeFiltercalcToCluster.{gathered}
use Rattle.aql_rules_cluster.specs.DistributeInCluster.{Distributes, distributed}
use Rattle.aql_rules_cluster.specs.FragmentParts.{over_link, ReadsHere, SameAbove, none_above, one_above}
use Rattle.aql_rules_cluster.specs.OnShards.{ReadsInFragments}
use Rattle.aql_rules_cluster.specs.ScattersToAll.{scatters_to_all, scatter_to_all}
use Rattle.aql_rules_cluster.specs.inner.Bottoms.{Bottom, bottom, sent_bottom, gathered_bottom, with_foot}
use Rattle.aql_rules_cluster.specs.inner.Distributions.{scattered, IsDistribution}
use Rattle.aql_rules_cluster.specs.laws.Bottoms.{bottom_is, bottom_found, reader_above}
use Rattle.aql_rules_cluster.specs.laws.Falling.{falls}
use Rattle.aql_rules_cluster.specs.laws.KeptAbove.{inside_above, none_at_gather, readers_above}
use Rattle.aql_rules_cluster.specs.laws.Passes.{KeepsRunning}
use Rattle.aql_rules_cluster.specs.laws.Walking.{NoPlaces, no_place_seen}

-- ---- what the program sees

module _ (facts : Facts) (p : Plan) where
  pub no_bottom : gathered_bottom p ≡ None → (m : Node) → IsDistribution facts p m → ⊥
  no_bottom e m d = let f = d.found in cc

  module _ (x : Bottom) (is : gathered_bottom p ≡ Some x) where
    same_bottom : (m : Node) (d : IsDistribution facts p m)
        → x ≡ record { lowest = d.lowest; foot = Over d.input (Scatter d.coll None) }
    same_bottom m d = let f = d.found in cc

    pub no_scatter : scattered (top x.foot) ≡ None → (m : Node) → IsDistribution facts p m → ⊥
    no_scatter e m d =
        let f = sym (ap (λ (y : Bottom). scattered (top y.foot)) (same_bottom m d)) ∙ e in cc

-- ---- what it makes of the part

some≢none : {X : Type 0} (x : X) → None ≡ Some x → ⊥
some≢none x e = cc

-- the fragment below a Gather over a link, with its bottom
pub record IsFragment (p : Plan) (x : Bottom) : Type 0 where
  pub fragment : Plan
  pub directions : List Bool
  pub keys : ExprTrees
  pub is : p ≡ gathered directions keys fragment
  pub found : bottom fragment ≡ Some x

sent_from : (b : Plan) (x : Bottom) → sent_bottom b ≡ Some x
    → (f : Plan) × (b ≡ Over f Remote) × (bottom f ≡ Some x)
sent_from (Over f Remote) x e = (f, refl, e)
sent_from b x e = absurd (some≢none x e)

gather_from : (b : Plan) (n : Node) (x : Bottom) → gathered_bottom (Over b n) ≡ Some x
    → IsFragment (Over b n) x
gather_from b (Gather directions keys) x e =
    let sent = sent_from b x e in record {
      fragment = sent.0;
      directions = directions;
      keys = keys;
      is = ap (λ (o : Plan). Over o (Gather directions keys)) sent.1;
      found = sent.2;
    }
gather_from b n x e = absurd (some≢none x e)

pub fragment_of : (p : Plan) (x : Bottom) → gathered_bottom p ≡ Some x → IsFragment p x
fragment_of Singleton x e = absurd (some≢none x e)
fragment_of (Over b n) x e = gather_from b n x e

module _ (facts : Facts) (servers : 1 ≤ facts.servers) (us : Uses) where
  made : (p : Plan) (m : Node) → IsDistribution facts p m → Distributes facts us p (with_foot m p) None
  made p m d =
      let old = Over d.input (Scatter d.coll None) in
      let f = fragment_of p (record { lowest = d.lowest; foot = old }) d.found in
      let low = bottom_is f.fragment (record { lowest = d.lowest; foot = old }) f.found in
      let node : low.node ≡ Scatter d.coll None = ap top (sym low.is) in
      let input : low.input ≡ d.input = let e = low.is in cc in
      let above = subst (λ (k : Node). SameAbove (over_link (Over d.input (Scatter d.coll None)) d.lowest)
      (over_link (Over d.input k) d.lowest) f.fragment (with_foot k f.fragment)) d.is
      (subst (λ (b : Plan). SameAbove (over_link (Over b (Scatter d.coll None)) d.lowest)
      (over_link (Over b m) d.lowest) f.fragment (with_foot m f.fragment)) input
      (subst (λ (k : Node). SameAbove (over_link (Over low.input k) d.lowest)
      (over_link (Over low.input m) d.lowest) f.fragment (with_foot m f.fragment)) node (low.set m))) in
      subst (λ (o : Plan). Distributes facts us o (with_foot m o) None) (sym f.is)
      (subst (λ (k : Node). Distributes facts us (gathered f.directions f.keys f.fragment)
      (gathered f.directions f.keys (with_foot k f.fragment)) None) (sym d.is)
      (distributed servers d.sends above))

  pub made_at : (p q : Plan) (m : Node) → IsDistribution facts p m → q ≡ with_foot m p
      → Distributes facts us p q None
  made_at p q m d e = subst (λ (o : Plan). Distributes facts us p o None) (sym e) (made p m d)

-- nothing is made where there is no such Distribute
pub stays : (facts : Facts) (us : Uses) (p : Plan) → ((m : Node) → IsDistribution facts p m → ⊥)
    → Stays (Distributes facts) us p
stays facts us _ none _ _ (distributed {b = b} {p = p} {q = q} {coll = coll} {n = n} {es = es} servers sends
    above) =
    none (Distribute coll es) (record {
      lowest = n;
      input = b;
      coll = coll;
      es = es;
      found = bottom_found (Over b (Scatter coll None)) (over_link (Over b (Distribute coll es)) n) n p q
          (reader_above coll n sends.0) refl above;
      sends = sends;
      is = refl;
    })

-- ---- the nodes above a foot

pub same_flipped : {old new p q : Plan} → SameAbove old new p q → SameAbove new old q p
same_flipped none_above = none_above
same_flipped (one_above i s) = one_above i (same_flipped s)

fewer_above : {old new p q : Plan} → scatters_to_all new < scatters_to_all old → SameAbove old new p q
    → scatters_to_all q < scatters_to_all p
fewer_above less none_above = less
fewer_above less (one_above i s) = omega (arith, fewer_above less s)

-- ---- no place

blind : (facts : Facts) (us vs : Uses) (p q : Plan) (r : Option Rename) → Distributes facts us p q r
    → Distributes facts vs p q r
blind facts us vs _ _ _ (distributed servers sends above) = distributed servers sends above

-- without servers there is none
pub stays_alone : (facts : Facts) → facts.servers ≡ 0 → (us : Uses) (p : Plan)
    → Stays (Distributes facts) us p
stays_alone facts e us _ _ _ (distributed servers sends above) = omega (arith, servers, e)

module _ (facts : Facts) (b : Plan) (coll : ℕ) (n : Node) (es : ExprTrees) (reads : ReadsHere coll n) where
  abbrev old : Plan
  old = over_link (Over b (Scatter coll None)) n

  abbrev new : Plan
  new = over_link (Over b (Distribute coll es)) n

  -- over a Distribute the rule does not apply again
  stays_there : (us : Uses) (directions : List Bool) (keys : ExprTrees) (p q : Plan) → SameAbove old new p q
      → Stays (Distributes facts) us (gathered directions keys q)
  stays_there us directions keys p q s =
      let found = bottom_found (Over b (Distribute coll es)) old n q p (reader_above coll n reads) refl
      (same_flipped s) in
      stays facts us (gathered directions keys q)
      (no_scatter facts (gathered directions keys q)
      (record { lowest = n; foot = Over b (Distribute coll es) }) found refl)

  none_inside : NoPlaces (Distributes facts) true old → NoPlaces (Distributes facts) true new
  none_inside none us =
      let R = Distributes facts in
      let e = inside_above n (reader_above coll n reads) in
      let k = subst (λ (i : Bool). NoPlace R i (under n us) (Over (Over b (Scatter coll None)) Remote)) e
      (none us).0 in (
        subst (λ (i : Bool). NoPlace R i (under n us) (Over (Over b (Distribute coll es)) Remote)) (sym e)
            ((no_place_seen R (blind facts) false _ _ b k.0.0, tt), tt),
        tt,
      )

  -- ---- fewer places

  fewer : scatters_to_all new < scatters_to_all old
  fewer = omega arith

  -- ---- what stays

  readers : ReadsInFragments true old → ReadsInFragments true new
  readers h =
      let e = inside_above n (reader_above coll n reads) in
      let k = subst (λ (i : Bool). ReadsInFragments i (Over (Over b (Scatter coll None)) Remote)) e h.0 in (
        subst (λ (i : Bool). ReadsInFragments i (Over (Over b (Distribute coll es)) Remote)) (sym e)
            ((k.0.0, tt), tt),
        h.1,
      )

-- what the rule makes of a part has no place where the part has none below it
pub none_distributed : (facts : Facts) {vs : Uses} {p q : Plan} {r : Option Rename}
    → Distributes facts vs p q r → (c : Plan) (m : Node) → p ≡ Over c m
    → NoPlaces (Distributes facts) (input_inside m false) c → NoPlaces (Distributes facts) false q
none_distributed facts (distributed {b = b} {p = p} {q = q} {coll = coll} {n = n} {es = es}
    {directions = directions} {keys = keys} servers sends above) c m is none =
    none_at_gather (Distributes facts) (blind facts) directions keys
    (over_link (Over b (Scatter coll None)) n) (over_link (Over b (Distribute coll es)) n) p q above
    (none_inside facts b coll n es sends.0)
    (λ us. stays_there facts b coll n es sends.0 us directions keys p q above) c m is none

fewer_at : (facts : Facts) (us : Uses) (p q : Plan) (r : Option Rename) → Distributes facts us p q r
    → (r ≡ None) × (scatters_to_all q < scatters_to_all p)
fewer_at facts _ _ _ _ (distributed {b = b} {coll = coll} {n = n} {es = es} servers sends above) = (
  refl,
  omega (arith, fewer_above (fewer facts b coll n es sends.0) above),
)

pub distributes_fall : (facts : Facts) (p q : Plan) (r : Option Rename) → IsWhole true facts p
    → First (Distributes facts) false result_uses p q r → scatters_to_all q < scatters_to_all p
distributes_fall facts p q r whole h = falls (λ inside. scatters_to_all) (λ inside. scatter_to_all)
    (λ inside b n. refl) (λ x s. refl) facts (Distributes facts) (fewer_at facts) p q r whole h

pub runs_on : (facts : Facts) (us : Uses) (p q : Plan) (r : Option Rename) → Distributes facts us p q r
    → KeepsRunning false p q r
runs_on facts _ _ _ _ (distributed {b = b} {coll = coll} {n = n} {es = es} servers sends above) = record {
  nameless = refl;
  readers = λ h. ((readers_above above (readers facts b coll n es sends.0) h.0.0, tt), tt);
}
