-- Where restrict-to-single-shard applies, that each application leaves one foot fewer that reaches all
-- shards, and that a well-formed plan stays so.
use Rattle.std.proofs.Common.{◌≡◌, ◌∙◌, ℕ, ◌<◌, ◌≤◌, List, [], Bool, true, false, refl, ap, sym, subst, arith}
use Rattle.std.specs.Prelude.{Option, Some, None}
use Rattle.aql_tree.specs.declared.syntax.Ident.{Ident}
use Rattle.aql_tree.specs.Tree.{ExprTrees}
use Rattle.aql_meaning.specs.AtRows.{keys_of}
use Rattle.aql_meaning.specs.Row.{empty_row}
use Rattle.aql_meaning.specs.Uses.{Uses}
use Rattle.aql_plan.specs.declared.facts.Facts.{Facts}
use Rattle.aql_plan.specs.Above.{input_inside}
use Rattle.aql_plan.specs.Facts.{shards_in}
use Rattle.aql_plan.specs.Needs.{under, result_uses}
use Rattle.aql_plan.specs.Plan.{Plan, Over, Node, Scatter, Distribute, Subquery, top}
use Rattle.aql_plan.specs.Shapes.{Shape, Shaped, scatter, distribute, plain_rows, lowest, other_reading, passing}
use Rattle.aql_plan.specs.Variables.{FindsAll}
use Rattle.aql_rewrite.specs.declared.swap.Rename.{Rename}
use Rattle.aql_rewrite.specs.Placed.{Placed, IsWhole}
use Rattle.aql_rewrite.specs.Places.{Stays, First}
use Rattle.aql_rewrite.specs.Sums.{total, node_total}
use Rattle.aql_rewrite.specs.Swaps.{KeepsPlaced}
use Rattle.aql_rules_cluster.specs.DistributeFiltercalcToCluster.{gathered}
use Rattle.aql_rules_cluster.specs.FragmentParts.{over_link, is_foot, is_above_foot, SameAbove, none_above, one_above}
use Rattle.aql_rules_cluster.specs.OnShards.{ReadsInFragments}
use Rattle.aql_rules_cluster.specs.OpenFeet.{open_foot}
use Rattle.aql_rules_cluster.specs.RestrictToSingleShard.{TakesToAll, all_rows, sent_rows, shard_for, Narrows, none_of_none, Restricts, restricted}
use Rattle.aql_rules_cluster.specs.inner.Bottoms.{Bottom, bottom, gathered_bottom, with_foot}
use Rattle.aql_rules_cluster.specs.laws.Bottoms.{bottom_is, bottom_found, reader_above}
use Rattle.aql_rules_cluster.specs.laws.DistributePlaces.{fragment_of, same_flipped}
use Rattle.aql_rules_cluster.specs.laws.Falling.{falls}
use Rattle.aql_rules_cluster.specs.laws.KeptAbove.{MayStand, kept_at_gather, none_at_gather, readers_above}
use Rattle.aql_rules_cluster.specs.laws.Passes.{KeepsRunning}
use Rattle.aql_shard.specs.laws.Split.{shard_below}
use Rattle.aql_rules_cluster.specs.laws.Walking.{NoPlaces, no_place_seen}

-- ---- feet

module _ (facts : Facts) (coll : ℕ) (n : Node) where
  takes_is_foot : (foot : Node) → TakesToAll facts coll n foot → is_foot foot ≡ true
  takes_is_foot _ all_rows = refl
  takes_is_foot _ (sent_rows p g) = refl

  takes_not_one : (c s : ℕ) (foot : Node) → foot ≡ Scatter c (Some s) → TakesToAll facts coll n foot → ⊥
  takes_not_one c s _ e all_rows = cc
  takes_not_one c s _ e (sent_rows p g) = cc

above_reader : (facts : Facts) (n foot narrower : Node) → Narrows facts n foot narrower
    → is_above_foot n ≡ true
above_reader facts n foot narrower k = reader_above k.coll n k.reads

-- the same nodes, over the feet
from_feet : (n : Node) → is_above_foot n ≡ true → {c d p q : Plan}
    → SameAbove (over_link c n) (over_link d n) p q → SameAbove c d p q
from_feet n i none_above = one_above i (one_above refl none_above)
from_feet n i (one_above j s) = one_above j (from_feet n i s)

-- ---- what the program finds

-- where the rule applies, it is at the bottom that is found there
pub record Finds (facts : Facts) (p : Plan) : Type 0 where
  pub lowest : Node
  pub input : Plan
  pub foot : Node
  pub narrower : Node
  pub narrows : Narrows facts lowest foot narrower
  pub found : gathered_bottom p ≡ Some (record { lowest = lowest; foot = Over input foot })
  pub none : none_of_none p ≡ true
  pub servers : 1 ≤ facts.servers

pub finds : (facts : Facts) (us : Uses) (p q : Plan) (r : Option Rename) → Restricts facts us p q r
    → Finds facts p
finds facts _ _ _ _ (restricted {b = b} {p = p} {q = q} {n = n} {foot = foot} {narrower = narrower} servers k
    same none) = record {
      lowest = n;
      input = b;
      foot = foot;
      narrower = narrower;
      narrows = k;
      found = bottom_found (Over b foot) (over_link (Over b narrower) n) n p q
          (above_reader facts n foot narrower k) (takes_is_foot facts k.coll n foot k.takes) same;
      none = none;
      servers = servers;
    }

-- what the program makes of a part where it applies
pub made_at : (facts : Facts) (us : Uses) (p : Plan) (x : Bottom) (narrower : Node) → 1 ≤ facts.servers
    → gathered_bottom p ≡ Some x → none_of_none p ≡ true → Narrows facts x.lowest (top x.foot) narrower
    → Restricts facts us p (with_foot narrower p) None
made_at facts us p x narrower servers found none k =
    let g = fragment_of p x found in
    let low = bottom_is g.fragment x g.found in
    let is = g.is in
    let narrows = subst (λ (c : Plan). Narrows facts x.lowest (top c) narrower) low.is k in
    subst (λ (o : Plan). Restricts facts us o (with_foot narrower o) None) (sym is)
    (restricted servers narrows (low.set narrower)
    (subst (λ (o : Plan). none_of_none o ≡ true) is none))

-- ---- no place

blind : (facts : Facts) (us vs : Uses) (p q : Plan) (r : Option Rename) → Restricts facts us p q r
    → Restricts facts vs p q r
blind facts us vs _ _ _ (restricted servers k same none) = restricted servers k same none

pub stays_alone : (facts : Facts) → facts.servers ≡ 0 → (us : Uses) (p : Plan) → Stays (Restricts facts) us p
stays_alone facts e us p q r h = omega (arith, (finds facts us p q r h).servers, e)

pub stays_at_bodies : (facts : Facts) (us : Uses) (b s : Plan) (v : Ident)
    → Stays (Restricts facts) us (Over b (Subquery v s))
stays_at_bodies facts us b s v q r h =
    let f = (finds facts us (Over b (Subquery v s)) q r h).found in absurd (cc)

-- bottoms that are the same have the same foot
same_top : (x y : Bottom) (o : Option Bottom) → o ≡ Some x → o ≡ Some y → top x.foot ≡ top y.foot
same_top x y o h k = let e : Some x ≡ Some y = sym h ∙ k in ap foot_found e
  where
    foot_found : Option Bottom → Node
    foot_found None = top x.foot
    foot_found (Some z) = top z.foot

-- a fragment that runs on one shard is no place
module _ (facts : Facts) (b p q : Plan) (n foot narrower : Node) (directions : List Bool) (keys : ExprTrees)
    (k : Narrows facts n foot narrower)
    (same : SameAbove (over_link (Over b foot) n) (over_link (Over b narrower) n) p q) where
  found_there : bottom q ≡ Some (record { lowest = n; foot = Over b narrower })
  found_there = bottom_found (Over b narrower) (over_link (Over b foot) n) n q p
      (above_reader facts n foot narrower k)
      (ap is_foot k.is) (same_flipped same)

  stays_there : (us : Uses) → Stays (Restricts facts) us (gathered directions keys q)
  stays_there us o r h =
      let f = finds facts us (gathered directions keys q) o r h in
      let same_foot = same_top (record { lowest = n; foot = Over b narrower })
      (record { lowest = f.lowest; foot = Over f.input f.foot }) (bottom q) found_there f.found in
      takes_not_one facts f.narrows.coll f.lowest k.coll (shard_for facts k.coll k.constants) f.foot
      (sym same_foot ∙ k.is) f.narrows.takes

  -- what is below the foot has none, where it had none
  none_below : NoPlaces (Restricts facts) true (Over b foot)
      → NoPlaces (Restricts facts) true (Over b narrower)
  none_below none = subst (λ (m : Node). NoPlaces (Restricts facts) true (Over b m)) (sym k.is) (λ us.
      (input_none k.takes none (under (Scatter k.coll (Some (shard_for facts k.coll k.constants))) us), tt))
    where
      input_none : {m : Node} → TakesToAll facts k.coll n m → NoPlaces (Restricts facts) true (Over b m)
          → NoPlaces (Restricts facts) false b
      input_none all_rows h us = no_place_seen (Restricts facts) (blind facts) false
          (under (Scatter k.coll None) []) us b (h []).0
      input_none (sent_rows {es = es} p g) h us = no_place_seen (Restricts facts) (blind facts) false
          (under (Distribute k.coll es) []) us b (h []).0

  none_there : (c : Plan) (m : Node) → gathered directions keys p ≡ Over c m
      → NoPlaces (Restricts facts) (input_inside m false) c
      → NoPlaces (Restricts facts) false (gathered directions keys q)
  none_there c m e none = none_at_gather (Restricts facts) (blind facts) directions keys (Over b foot)
      (Over b narrower) p q (from_feet n (above_reader facts n foot narrower k) same) none_below stays_there
      c m e none

-- what the rule makes of a part has no place where the part has none below it
pub none_restricted : (facts : Facts) {vs : Uses} {p q : Plan} {r : Option Rename} → Restricts facts vs p q r
    → (c : Plan) (m : Node) → p ≡ Over c m → NoPlaces (Restricts facts) (input_inside m false) c
    → NoPlaces (Restricts facts) false q
none_restricted facts (restricted {b = b} {p = p} {q = q} {n = n} {foot = foot} {narrower = narrower}
    {directions = directions} {keys = keys} servers k same none) c m e below =
    none_there facts b p q n foot narrower directions keys k same c m e below

-- ---- fewer places

module _ {old new : Plan} (fewer : total open_foot new < total open_foot old) where
  fewer_above : {p q : Plan} → SameAbove old new p q → total open_foot q < total open_foot p
  fewer_above none_above = fewer
  fewer_above (one_above {n = n} i s) = omega (arith, fewer_above s)

fewer_feet : (facts : Facts) (coll : ℕ) (n : Node) (b : Plan) (shard : ℕ) {m : Node}
    → TakesToAll facts coll n m
    → total open_foot (Over b (Scatter coll (Some shard))) < total open_foot (Over b m)
fewer_feet facts coll n b shard all_rows = omega arith
fewer_feet facts coll n b shard (sent_rows p g) = omega arith

fewer_at : (facts : Facts) (us : Uses) (p q : Plan) (r : Option Rename) → Restricts facts us p q r
    → (r ≡ None) × (total open_foot q < total open_foot p)
fewer_at facts _ _ _ _ (restricted {b = b} {p = p} {q = q} {n = n} {foot = foot} {narrower = narrower}
    {directions = directions} {keys = keys} servers k same none) =
    let feet = subst (λ (m : Node). total open_foot (Over b m) < total open_foot (Over b foot)) (sym k.is)
    (fewer_feet facts k.coll n b (shard_for facts k.coll k.constants) k.takes) in
    let inside = fewer_above feet (from_feet n (above_reader facts n foot narrower k) same) in
    (refl, omega (arith, inside))

pub restricts_fall : (facts : Facts) (p q : Plan) (r : Option Rename) → IsWhole true facts p
    → First (Restricts facts) false result_uses p q r → total open_foot q < total open_foot p
restricts_fall facts p q r whole h =
    falls (λ inside p. total open_foot p) (λ inside n. node_total open_foot n) (λ inside b n. refl)
    (λ x s. refl) facts (Restricts facts) (fewer_at facts) p q r whole h

-- ---- what stays

module _ (facts : Facts) (outer : List Ident) (b : Plan) (coll : ℕ) (n : Node) (shard : ℕ)
    (below : shard < shards_in facts coll) where
  scatter_stays : (s : Shape) → Shaped facts (Over b (Scatter coll None)) s
      → Shaped facts (Over b (Scatter coll (Some shard))) s
  scatter_stays s (scatter f h) = scatter (f, below) h
  scatter_stays s (plain_rows i f h) = absurd i
  scatter_stays s (lowest i f h) = absurd i
  scatter_stays s (other_reading i f h) = absurd i
  scatter_stays s (passing i f h) = absurd i

  distribute_stays : (es : ExprTrees) (s : Shape) → Shaped facts (Over b (Distribute coll es)) s
      → Shaped facts (Over b (Scatter coll (Some shard))) s
  distribute_stays es s (distribute f h) = scatter (f.0, below) h
  distribute_stays es s (plain_rows i f h) = absurd i
  distribute_stays es s (lowest i f h) = absurd i
  distribute_stays es s (other_reading i f h) = absurd i
  distribute_stays es s (passing i f h) = absurd i

  foot_stands : {m : Node} → TakesToAll facts coll n m → FindsAll outer (Over b m)
      → MayStand true facts outer (Over b (Scatter coll (Some shard))) (Over b m)
  foot_stands all_rows found = record {
    shape = λ s e h. scatter_stays s h;
    found = (found.0, refl, refl, tt);
    vars = refl;
    fewer = λ z. omega arith;
  }
  foot_stands (sent_rows {es = es} p g) found = record {
    shape = λ s e h. distribute_stays es s h;
    found = (found.0, refl, refl, tt);
    vars = refl;
    fewer = λ z. omega arith;
  }

  readers_stay : {m : Node} → TakesToAll facts coll n m → ReadsInFragments true (Over b m)
      → ReadsInFragments true (Over b (Scatter coll (Some shard)))
  readers_stay all_rows h = h
  readers_stay (sent_rows p g) h = h

pub restricts_keep : (facts : Facts) (outer away : List Ident) (us : Uses) (p q : Plan) (r : Option Rename)
    → Placed true false facts outer away us p → Restricts facts us p q r
    → KeepsPlaced true false facts outer us p q r
restricts_keep facts outer away us _ _ _ placed (restricted {b = b} {p = p} {q = q} {n = n} {foot = foot}
    {narrower = narrower} {directions = directions} {keys = keys} servers k same none) =
    let shard = shard_for facts k.coll k.constants in
    let below = shard_below (shards_in facts k.coll) (keys_of k.constants empty_row) k.some_shard in
    kept_at_gather facts outer away us directions keys (Over b foot) (Over b narrower) p q placed
    (from_feet n (above_reader facts n foot narrower k) same)
    (λ found. subst (λ (m : Node). MayStand true facts outer (Over b m) (Over b foot)) (sym k.is)
    (foot_stands facts outer b k.coll n shard below k.takes found))

pub runs_on : (facts : Facts) (us : Uses) (p q : Plan) (r : Option Rename) → Restricts facts us p q r
    → KeepsRunning false p q r
runs_on facts _ _ _ _ (restricted {b = b} {p = p} {q = q} {n = n} {foot = foot} {narrower = narrower}
    servers k same none) =
    let shard = shard_for facts k.coll k.constants in
    let below = shard_below (shards_in facts k.coll) (keys_of k.constants empty_row) k.some_shard in record {
      nameless = refl;
      readers = λ h. (
        (
          readers_above (from_feet n (above_reader facts n foot narrower k) same)
              (λ there. subst (λ (m : Node). ReadsInFragments true (Over b m)) (sym k.is)
              (readers_stay facts [] b k.coll n shard below k.takes there)) h.0.0,
          tt,
        ),
        tt,
      );
    }
