-- Where remove-unnecessary-remote-scatter applies: as the program finds it, and that what it makes of a part
-- is no place again, and has fewer nodes.
use Rattle.std.proofs.Common.{◌≡◌, ◌∙◌, ℕ, ◌≤◌, ◌<◌, Bool, true, false, true≢false, refl, ap, ap₂, sym, subst, arith}
use Rattle.std.specs.Prelude.{List, [], cond, ◌==◌, ◌&&◌, Option, Some, None}
use Rattle.std.proofs.lemmas.Bool.{and_parts, eqb-true, eq-eqb}
use Rattle.aql_tree.specs.Tree.{ExprTrees}
use Rattle.aql_meaning.specs.Uses.{Uses}
use Rattle.aql_plan.specs.declared.facts.Facts.{Facts}
use Rattle.aql_plan.specs.Above.{input_inside}
use Rattle.aql_plan.specs.Facts.{shards_in}
use Rattle.aql_plan.specs.Needs.{under, result_uses}
use Rattle.aql_plan.specs.Nodes.{weight, weight_in}
use Rattle.aql_plan.specs.Plan.{Plan, Singleton, Over, Node, EnumerateCollection, Index, Scatter, Distribute, Remote, Gather, top}
use Rattle.aql_rewrite.specs.declared.swap.Rename.{Rename}
use Rattle.aql_rewrite.specs.Placed.{IsWhole}
use Rattle.aql_rewrite.specs.Places.{Rewriting, Stays, First}
use Rattle.aql_rewrite.specs.laws.Carried.{first_lowers}
use Rattle.aql_rewrite.specs.laws.PlacedBelow.{whole_placed}
use Rattle.aql_rewrite.specs.laws.Weights.{weight_lifts}
use Rattle.aql_rules_cluster.specs.DistributeFiltercalcToCluster.{gathered}
use Rattle.aql_rules_cluster.specs.FragmentParts.{over_link, is_foot, is_above_foot, ReadsHere, SameAbove, none_above, one_above}
use Rattle.aql_rules_cluster.specs.OnShards.{ReadsInFragments}
use Rattle.aql_rules_cluster.specs.RemoveUnnecessaryRemoteScatter.{RunsOnOne, named, scattered, distributed, above_foot, with_shard, Joins, joined}
use Rattle.aql_rules_cluster.specs.inner.Bottoms.{Bottom, sent_foot, bottom_over, bottom, gathered_bottom, with_foot, reads_here}
use Rattle.aql_rules_cluster.specs.inner.Fragments.{is_gathered}
use Rattle.aql_rules_cluster.specs.inner.Joinings.{Shard, only_shard, scattered_to, sent_to_one, fragment_shard, gathered_shard, on_one_server, joined_shard, foot_joining, bottom_joining, joining, input, joined_over, joined_below}
use Rattle.aql_rules_cluster.specs.laws.Bottoms.{is_sent, bottom_is, bottom_found, gathered_bottom_is, none_sent, top_above, unsent, reads_is, reader_seen, reader_above}
use Rattle.aql_rules_cluster.specs.laws.Gathers.{gathered_from}
use Rattle.aql_rules_cluster.specs.laws.KeptAbove.{none_lower, none_higher, none_at_bottom, none_at_gather, readers_above}
use Rattle.aql_rules_cluster.specs.laws.Passes.{KeepsRunning}
use Rattle.aql_rules_cluster.specs.laws.Walking.{NoPlaces, none_below, no_place_seen}

-- ---- the shard of a fragment

module _ (facts : Facts) where
  only_is : (coll : ℕ) (s : Shard) → only_shard facts coll ≡ Some s
      → (shards_in facts coll ≡ 1) × (record { coll = coll; shard = 0 } ≡ s)
  only_is coll s h = by (shards_in facts coll == 1) refl h
    where
      by : (one : Bool) → (shards_in facts coll == 1) ≡ one
          → cond one (Some (record { coll = coll; shard = 0 })) None ≡ Some s
          → (shards_in facts coll ≡ 1) × (record { coll = coll; shard = 0 } ≡ s)
      by true e k = (eqb-true (shards_in facts coll) 1 e, cc)
      by false e k = absurd (cc)

  only_seen : (coll : ℕ) → shards_in facts coll ≡ 1
      → only_shard facts coll ≡ Some (record { coll = coll; shard = 0 })
  only_seen coll e = ap (λ (one : Bool). cond one (Some (record { coll = coll; shard = 0 })) None)
      (eq-eqb (shards_in facts coll) 1 e)

  abbrev RunsOn : Plan → Shard → Type 0
  RunsOn f s = RunsOnOne facts f s.coll s.shard

  scattered_is : (n : Node) (s : Shard) → scattered_to facts n ≡ Some s
      → (only : Option ℕ) × (n ≡ Scatter s.coll only) × ((b : Plan) → RunsOn (Over b n) s)
  scattered_is (Scatter coll None) s h =
      let e = only_is coll s h in (
        None,
        ap (λ (t : Shard). Scatter t.coll None) e.1,
        λ b. subst (RunsOn (Over b (Scatter coll None))) e.1 (scattered e.0),
      )
  scattered_is (Scatter coll (Some shard)) s h =
      let e : record { coll = coll; shard = shard } ≡ s = cc in (
        Some shard,
        ap (λ (t : Shard). Scatter t.coll (Some shard)) e,
        λ b. subst (RunsOn (Over b (Scatter coll (Some shard)))) e named,
      )
  scattered_is n s h = absurd (cc)

  sent_is_one : (n : Node) (s : Shard) → sent_to_one facts n ≡ Some s → (b : Plan) → RunsOn (Over b n) s
  sent_is_one (Distribute coll es) s h b =
      let e = only_is coll s h in subst (RunsOn (Over b (Distribute coll es))) e.1 (distributed e.0)
  sent_is_one n s h b = (scattered_is n s h).2 b

  fragment_is : (f : Plan) (s : Shard) → fragment_shard facts f ≡ Some s → RunsOn f s
  fragment_is Singleton s h = absurd (cc)
  fragment_is (Over b n) s h = by (is_above_foot n) refl (λ k. fragment_is b s k) h
    where
      by : (i : Bool) → is_above_foot n ≡ i → (fragment_shard facts b ≡ Some s → RunsOn b s)
          → cond i (fragment_shard facts b) (sent_to_one facts n) ≡ Some s → RunsOn (Over b n) s
      by true e lower k = above_foot e (lower k)
      by false e lower k = sent_is_one n s k b

  abbrev one_shard : ℕ → ℕ → Option Shard
  one_shard coll shard = Some (record { coll = coll; shard = shard })

  fragment_seen : {f : Plan} {coll shard : ℕ} → RunsOnOne facts f coll shard
      → fragment_shard facts f ≡ one_shard coll shard
  fragment_seen named = refl
  fragment_seen (scattered {coll = coll} e) = only_seen coll e
  fragment_seen (distributed {coll = coll} e) = only_seen coll e
  fragment_seen (above_foot {b = b} {n = n} i h) =
      ap (λ (above : Bool). cond above (fragment_shard facts b) (sent_to_one facts n)) i ∙ fragment_seen h

  scatter_seen : (b : Plan) (coll c shard : ℕ) (only : Option ℕ)
      → RunsOnOne facts (Over b (Scatter coll only)) c shard
      → scattered_to facts (Scatter coll only) ≡ one_shard c shard
  scatter_seen b coll c shard only named = refl
  scatter_seen b coll c shard only (scattered e) = only_seen coll e
  scatter_seen b coll c shard only (above_foot i h) = absurd (true≢false (sym i))

  record GatheredOn (g : Plan) (s : Shard) : Type 0 where
    pub fragment : Plan
    pub directions : List Bool
    pub keys : ExprTrees
    pub is : g ≡ gathered directions keys fragment
    pub on : RunsOn fragment s

  gathered_is : (g : Plan) (s : Shard) → gathered_shard facts g ≡ Some s → GatheredOn g s
  gathered_is Singleton s h = absurd (cc)
  gathered_is (Over b n) s h = by (is_gathered (Over b n)) refl h
    where
      by : (i : Bool) → is_gathered (Over b n) ≡ i → cond i (fragment_shard facts b) None ≡ Some s
          → GatheredOn (Over b n) s
      by true e k =
          let g = gathered_from (Over b n) e in
          let below : b ≡ Over g.fragment Remote = cc in record {
            fragment = g.fragment;
            directions = g.directions;
            keys = g.keys;
            is = g.is;
            on = fragment_is g.fragment s (ap (fragment_shard facts) (sym below) ∙ k);
          }
      by false e k = absurd (cc)

  -- ---- what the program sees

  -- the lowest node of the upper fragment, with the shards of both
  record Sees (n : Node) (foot : Plan) (shard : ℕ) : Type 0 where
    pub gather : Plan
    pub node : Node
    pub is : foot ≡ Over gather node
    pub high : Shard
    pub low : Shard
    pub scatters : scattered_to facts node ≡ Some high
    pub gathers : gathered_shard facts gather ≡ Some low
    pub reads : reads_here high.coll n ≡ true
    pub near : on_one_server facts low high ≡ true
    pub shard_is : high.shard ≡ shard

  both_seen : (n : Node) (g : Plan) (m : Node) (shard : ℕ) (high low : Option Shard)
      → scattered_to facts m ≡ high → gathered_shard facts g ≡ low
      → joined_shard facts n high low ≡ Some shard → Sees n (Over g m) shard
  both_seen n g m shard None low e f h = absurd (cc)
  both_seen n g m shard (Some high) None e f h = absurd (cc)
  both_seen n g m shard (Some high) (Some low) e f h =
      by (reads_here high.coll n && on_one_server facts low high) refl h
    where
      by : (i : Bool) → (reads_here high.coll n && on_one_server facts low high) ≡ i
          → cond i (Some high.shard) None ≡ Some shard → Sees n (Over g m) shard
      by true i k =
          let both = and_parts (reads_here high.coll n) (on_one_server facts low high) i in record {
            gather = g;
            node = m;
            is = refl;
            high = high;
            low = low;
            scatters = e;
            gathers = f;
            reads = both.0;
            near = both.1;
            shard_is = cc;
          }
      by false i k = absurd (cc)

  foot_seen : (n : Node) (foot : Plan) (shard : ℕ) → foot_joining facts n foot ≡ Some shard
      → Sees n foot shard
  foot_seen n Singleton shard h = absurd (cc)
  foot_seen n (Over g m) shard h =
      both_seen n g m shard (scattered_to facts m) (gathered_shard facts g) refl refl h

-- ---- what the program makes

-- in the place of the lowest node and all below it
joined_above : (shard : ℕ) (old new p q foot : Plan) (n : Node) → old ≡ over_link foot n
    → is_above_foot n ≡ true → is_foot (top foot) ≡ true → SameAbove old new p q
    → SameAbove old (Over (input (input (input foot))) (with_shard shard n)) p (joined_below shard p)
joined_above shard old new _ _ foot n e i f none_above =
    let put = Over (input (input (input foot))) (with_shard shard n) in
    let made : joined_below shard (over_link foot n) ≡ put
    = ap (λ (o : Option Plan).
    joined_over shard (Over foot Remote) n o (joined_below shard (Over foot Remote)))
    (is_sent foot f) in
    subst (λ (o : Plan). SameAbove old put old (joined_below shard o)) (sym e)
    (subst (λ (o : Plan). SameAbove old put old o) (sym made) none_above)
joined_above shard old new _ _ foot n e i f (one_above {p = p} {q = q} {n = m} j s) =
    let put = Over (input (input (input foot))) (with_shard shard n) in
    let made : joined_below shard (Over p m) ≡ Over (joined_below shard p) m
    = ap (λ (o : Option Plan). joined_over shard p m o (joined_below shard p))
    (unsent old new p q foot n e i s) in
    subst (SameAbove old put (Over p m)) (sym made)
    (one_above j (joined_above shard old new p q foot n e i f s))

-- the link and the Gather above a fragment stay
gathered_stays : (shard : ℕ) (directions : List Bool) (keys : ExprTrees) (f : Plan)
    → sent_foot f ≡ None → sent_foot (Over f Remote) ≡ None
    → joined_below shard (gathered directions keys f) ≡ gathered directions keys (joined_below shard f)
gathered_stays shard directions keys f none far =
    ap (λ (o : Option Plan). joined_over shard (Over f Remote) (Gather directions keys) o
    (joined_below shard (Over f Remote))) far
    ∙ ap (λ (o : Option Plan). Over (joined_over shard f Remote o (joined_below shard f))
    (Gather directions keys)) none

module _ (facts : Facts) (servers : 1 ≤ facts.servers) (us : Uses) (shard : ℕ) where
  made_of : (directions : List Bool) (keys : ExprTrees) (f : Plan) (x : Bottom) → bottom f ≡ Some x
      → Sees facts x.lowest x.foot shard
      → Joins facts us (gathered directions keys f) (joined_below shard (gathered directions keys f)) None
  made_of directions keys f x e sees =
      let n = x.lowest in
      let b = bottom_is f x e in
      let lower = gathered_is facts sees.gather sees.low sees.gathers in
      let upper = scattered_is facts sees.node sees.high sees.scatters in
      let g = gathered lower.directions lower.keys lower.fragment in
      let foot = Over g (Scatter sees.high.coll upper.0) in
      let over : Over b.input b.node ≡ foot = sym b.is ∙ sees.is ∙ ap₂ Over lower.is upper.1 in
      let old = over_link (Over b.input b.node) n in
      let same = b.set b.node in
      let again = with_foot b.node f in
      let link : old ≡ over_link foot n = ap (λ (o : Plan). over_link o n) over in
      let put = Over lower.fragment (with_shard sees.high.shard n) in
      let made : SameAbove old put f (joined_below sees.high.shard f)
      = joined_above sees.high.shard old old f again foot n link b.above refl same in
      let stays = gathered_stays sees.high.shard directions keys f
      (unsent old old f again foot n link b.above same)
      (none_sent f Remote (top_above old old f again b.above same)) in
      subst (λ (s : ℕ). Joins facts us (gathered directions keys f)
      (joined_below s (gathered directions keys f)) None) sees.shard_is
      (subst (λ (o : Plan). Joins facts us (gathered directions keys f) o None) (sym stays)
      (joined servers lower.on
      (subst (λ (m : Node). RunsOnOne facts (Over g m) sees.high.coll sees.high.shard) upper.1 (upper.2 g))
      (eqb-true _ _ sees.near) (reads_is sees.high.coll n sees.reads)
      (subst (λ (o : Plan). SameAbove o put f (joined_below sees.high.shard f)) link made)))

  made_by : (p : Plan) (o : Option Bottom) → gathered_bottom p ≡ o → bottom_joining facts o ≡ Some shard
      → Joins facts us p (joined_below shard p) None
  made_by p None e h = absurd (cc)
  made_by p (Some x) e h =
      let g = gathered_bottom_is p x e in
      subst (λ (o : Plan). Joins facts us o (joined_below shard o) None) (sym g.is)
      (made_of g.directions g.keys g.fragment x g.bottom (foot_seen facts x.lowest x.foot shard h))

  pub made_at : (p q : Plan) → joining facts p ≡ Some shard → q ≡ joined_below shard p
      → Joins facts us p q None
  made_at p q h e =
      subst (λ (o : Plan). Joins facts us p o None) (sym e) (made_by p (gathered_bottom p) refl h)

-- wherever the rule applies, the program sees it
joins_seen : (facts : Facts) (us : Uses) (p q : Plan) (r : Option Rename) → Joins facts us p q r
    → (shard : ℕ) × (joining facts p ≡ Some shard)
joins_seen facts _ _ _ _ (joined {f = f} {p = p} {q = q} {n = n} {coll = coll} {high = high} {only = only}
    {between = between} {between_keys = between_keys} servers lower upper same here above) =
    let g = gathered between between_keys f in
    let foot = Over g (Scatter coll only) in (
      high,
      ap (bottom_joining facts)
          (bottom_found foot (Over f (with_shard high n)) n p q (reader_above coll n here) refl above)
          ∙ ap₂ (joined_shard facts n) (scatter_seen facts g coll coll high only upper)
          (fragment_seen facts lower)
          ∙ ap (λ (b : Bool). cond b (Some high) None)
          (ap₂ (λ a b. a && b) (reader_seen coll n here) (eq-eqb _ _ same)),
    )

pub stays : (facts : Facts) (us : Uses) (p : Plan) → joining facts p ≡ None → Stays (Joins facts) us p
stays facts us p h q r k = let seen = joins_seen facts us p q r k in let e = sym h ∙ seen.1 in absurd (cc)

-- without servers there is none
pub stays_alone : (facts : Facts) → facts.servers ≡ 0 → (us : Uses) (p : Plan) → Stays (Joins facts) us p
stays_alone facts e us _ _ _ (joined servers lower upper same here above) = omega (arith, servers, e)

blind : (facts : Facts) (us vs : Uses) (p q : Plan) (r : Option Rename) → Joins facts us p q r
    → Joins facts vs p q r
blind facts us vs _ _ _ (joined servers lower upper same here above) =
    joined servers lower upper same here above

-- ---- no place again

reads_own : (coll shard : ℕ) (n : Node) → reads_here coll (with_shard shard n) ≡ false
reads_own coll shard (EnumerateCollection x) = by (x.coll == coll)
  where
    by : (b : Bool) → (b && false) ≡ false
    by true = refl
    by false = refl
reads_own coll shard (Index x index equal last ordered) = by (x.coll == coll)
  where
    by : (b : Bool) → (b && false) ≡ false
    by true = refl
    by false = refl
reads_own coll shard n = refl

own_above : (coll shard : ℕ) (n : Node) → ReadsHere coll n → is_above_foot (with_shard shard n) ≡ true
own_above coll shard (EnumerateCollection x) h = refl
own_above coll shard (Index x index equal last ordered) h = refl
own_above coll shard n h = absurd h

own_unsent : (coll shard : ℕ) (n : Node) (b : Plan) → ReadsHere coll n
    → sent_foot (Over b (with_shard shard n)) ≡ None
own_unsent coll shard (EnumerateCollection x) b h = refl
own_unsent coll shard (Index x index equal last ordered) b h = refl
own_unsent coll shard n b h = absurd h

top_higher : (old new p q : Plan) → is_above_foot (top new) ≡ true → SameAbove old new p q
    → is_above_foot (top q) ≡ true
top_higher old new _ _ h none_above = h
top_higher old new _ _ h (one_above i s) = i

module _ (facts : Facts) (n : Node) (reads : (coll : ℕ) → reads_here coll n ≡ false) where
  -- a node that reads no shard of its fragment goes nowhere
  nothing_joined : (high low : Option Shard) → joined_shard facts n high low ≡ None
  nothing_joined None low = refl
  nothing_joined (Some high) None = refl
  nothing_joined (Some high) (Some low) =
      ap (λ (b : Bool). cond (b && on_one_server facts low high) (Some high.shard) None) (reads high.coll)

  no_joining : (foot : Plan) → foot_joining facts n foot ≡ None
  no_joining Singleton = refl
  no_joining (Over g m) = nothing_joined (scattered_to facts m) (gathered_shard facts g)

  module _ (f : Plan) (shard : ℕ) (above : is_above_foot n ≡ true) (far : sent_foot (Over f n) ≡ None) where
    higher_unsent : (old new p q : Plan) → new ≡ Over f n → SameAbove old new p q → sent_foot q ≡ None
    higher_unsent old new _ _ e none_above = subst (λ (o : Plan). sent_foot o ≡ None) (sym e) far
    higher_unsent old new _ _ e (one_above {p = p} {q = q} {n = m} i s) = none_sent q m
        (top_higher old new p q (subst (λ (o : Plan). is_above_foot (top o) ≡ true) (sym e) above) s)

    -- so what goes together after it went together below it before
    over_own : (o : Option Plan) → bottom_joining facts (bottom_over n o (bottom f)) ≡ Some shard
        → bottom_joining facts (bottom f) ≡ Some shard
    over_own (Some foot) h = let e = sym (no_joining foot) ∙ h in absurd (cc)
    over_own None h = h

    lower_joining : (old new p q : Plan) → new ≡ Over f n → SameAbove old new p q
        → bottom_joining facts (bottom q) ≡ Some shard → bottom_joining facts (bottom f) ≡ Some shard
    lower_joining old new _ _ e none_above h = over_own (sent_foot f)
        (ap (λ (a : Bool). bottom_joining facts (cond a (bottom_over n (sent_foot f) (bottom f)) None))
        (sym above)
        ∙ ap (λ (o : Plan). bottom_joining facts (bottom o)) (sym e) ∙ h)
    lower_joining old new _ _ e (one_above {p = p} {q = q} {n = m} i s) h = lower_joining old new p q e s
        (ap (λ (o : Option Plan). bottom_joining facts (bottom_over m o (bottom q)))
        (sym (higher_unsent old new p q e s))
        ∙ ap (λ (a : Bool). bottom_joining facts (cond a (bottom_over m (sent_foot q) (bottom q)) None))
        (sym i)
        ∙ h)

module _ (facts : Facts) where
  abbrev R : Rewriting
  R = Joins facts

  -- below the link of the upper fragment
  none_below_link : (coll : ℕ) (b : Plan) (only : Option ℕ) (n : Node) → ReadsHere coll n
      → NoPlaces R true (over_link (Over b (Scatter coll only)) n) → NoPlaces R false b
  none_below_link coll b only n here none us =
      no_place_seen R (blind facts) false (under (Scatter coll only) (under Remote [])) us b
      (none_lower R (blind facts) (Over (Over b (Scatter coll only)) Remote) n (reader_above coll n here) none
      []).0.0

  none_gathered : (directions : List Bool) (keys : ExprTrees) (f : Plan)
      → NoPlaces R false (gathered directions keys f) → NoPlaces R true f
  none_gathered directions keys f none us =
      no_place_seen R (blind facts) true (under Remote (under (Gather directions keys) [])) us f (none []).0.0

  -- what the rule makes of a part has no place where the part has none below it
  pub none_joined : {vs : Uses} {p q : Plan} {r : Option Rename} → R vs p q r → (c : Plan) (m : Node)
      → p ≡ Over c m → NoPlaces R (input_inside m false) c → NoPlaces R false q
  none_joined (joined {f = f} {p = p} {q = q} {n = n} {coll = coll} {high = high} {only = only}
      {between = between} {directions = directions} {between_keys = between_keys} {keys = keys} servers lower
      upper same here above) c m is none =
      let g = gathered between between_keys f in
      let old = over_link (Over g (Scatter coll only)) n in
      let own = with_shard high n in
      let there = none_below R (Over p Remote) c (Gather directions keys) m is none in
      let inside : NoPlaces R true p
      = λ us. no_place_seen R (blind facts) true (under Remote []) us p (there []).0 in
      let lower_none = none_below_link coll g only n here (none_at_bottom R (blind facts) above inside) in
      none_at_gather R (blind facts) directions keys old (Over f own) p q above
      (λ before. none_higher R (blind facts) f own (own_above coll high n here)
      (none_gathered between between_keys f lower_none))
      (λ us s r k.
      let seen = joins_seen facts us (gathered directions keys q) s r k in
      let low = lower_joining facts own (λ c. reads_own c high n) f seen.0 (own_above coll high n here)
      (own_unsent coll high n f here) old (Over f own) p q refl above seen.1 in
      (lower_none us).1 (joined_below seen.0 g) None
      (made_at facts servers us seen.0 g (joined_below seen.0 g) low refl))
      c m is none

-- ---- fewer nodes

own_weight : (shard : ℕ) (n : Node) → weight_in (with_shard shard n) ≡ weight_in n
own_weight shard (EnumerateCollection x) = refl
own_weight shard (Index x index equal last ordered) = refl
own_weight shard n = refl

weight_above : {old new p q : Plan} → SameAbove old new p q → weight new < weight old → weight q < weight p
weight_above none_above h = h
weight_above (one_above i s) h = omega (arith, weight_above s h)

fewer_at : (facts : Facts) (us : Uses) (p q : Plan) (r : Option Rename) → Joins facts us p q r
    → weight q < weight p
fewer_at facts _ _ _ _ (joined {n = n} {high = high} servers lower upper same here above) =
    omega (arith, weight_above above (omega (arith, own_weight high n)))

pub joins_fall : (facts : Facts) (p q : Plan) (r : Option Rename) → IsWhole true facts p
    → First (Joins facts) false result_uses p q r → weight q < weight p
joins_fall facts p q r whole h =
    (first_lowers true facts (Joins facts) weight weight weight_lifts
    (λ outer away us p q r placed g. record {
      falls = fewer_at facts us p q r g;
      stays = omega (arith, fewer_at facts us p q r g);
    }) h [] [] (whole_placed true facts p whole)).falls

-- ---- what stays

readers_below : (coll high : ℕ) (only : Option ℕ) (directions : List Bool) (keys : ExprTrees) (f : Plan)
    (n : Node) → ReadsHere coll n
    → ReadsInFragments true (over_link (Over (gathered directions keys f) (Scatter coll only)) n)
    → ReadsInFragments true (Over f (with_shard high n))
readers_below coll high only directions keys f (EnumerateCollection x) i h = (h.0.0.0.0.0, refl)
readers_below coll high only directions keys f (Index x index equal last ordered) i h = (h.0.0.0.0.0, refl)
readers_below coll high only directions keys f n i h = absurd i

pub runs_on : (facts : Facts) (us : Uses) (p q : Plan) (r : Option Rename) → Joins facts us p q r
    → KeepsRunning false p q r
runs_on facts _ _ _ _ (joined {f = f} {n = n} {coll = coll} {high = high} {only = only} {between = between}
    {between_keys = between_keys} servers lower upper same here above) = record {
      nameless = refl;
      readers = λ h.
          ((readers_above above (readers_below coll high only between between_keys f n here) h.0.0, tt), tt);
    }
