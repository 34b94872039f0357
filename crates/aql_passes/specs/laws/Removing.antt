-- From the lowest node up, each node once with all that is renamed below it, is a way of applications each at
-- the first place.
use Rattle.std.proofs.Common.{◌≡◌, ◌∙◌, ◌+◌, ◌≤◌, List, [], ◌∷◌, ◌++◌, Bool, true, false, true≢false, append_assoc, refl, ap, sym, subst, subst₂, arith}
use Rattle.std.specs.Prelude.{Option, Some, None, option_to_list}
use Rattle.std.proofs.lemmas.List.{append-nil}
use Rattle.aql_tree.specs.declared.syntax.Ident.{Ident}
use Rattle.aql_meaning.specs.Uses.{Uses}
use Rattle.aql_plan.specs.declared.facts.Facts.{Facts}
use Rattle.aql_plan.specs.Needs.{under, result_uses}
use Rattle.aql_plan.specs.Nodes.{over, body_in, with_body, weight, weight_in}
use Rattle.aql_plan.specs.Plan.{Plan, Singleton, Over, Node, Subquery, top}
use Rattle.aql_plan.specs.Shapes.{HasNoFragment, IsNoFragment}
use Rattle.aql_plan_laws.specs.laws.UsesMapped.{lone_node}
use Rattle.aql_rewrite.specs.declared.swap.Rename.{Rename}
use Rattle.aql_rewrite.specs.Placed.{Placed, IsPlaced, IsWhole}
use Rattle.aql_rewrite.specs.Places.{renamed_by, Rewriting, Stays, NoPlace, First, below, here, body, Reaches, at_once as reached_at_once, next as then_next, IsPass}
use Rattle.aql_rewrite.specs.Renames.{renaming, renamed_by_each, over_each}
use Rattle.aql_rewrite.specs.laws.Renamings.{by_each_more}
use Rattle.aql_rewrite.specs.laws.Standing.{outside}
use Rattle.aql_rewrite.specs.laws.Steps.{Refining, Keeping, part_kept, some_step, refines_through_answers, sets_self, sets_through}
use Rattle.aql_rewrite.specs.laws.Walk.{none_at, weight_below}
use Rattle.aql_rewrite.specs.laws.Weights.{renamed_weight}
use Rattle.aql_rewrite.specs.Apart.{is_start, has_body}
use Rattle.aql_rewrite.specs.laws.Taken.{Taken}
use Rattle.aql_rewrite.specs.laws.PassSteps.{Sound}
use Rattle.aql_rewrite.specs.Removed.{TakesAway}
use Rattle.aql_passes.specs.inner.Removed.{Way, at_once, next, Removes, NoPlaceUnder}
use Rattle.aql_passes.specs.laws.Changing.{no_body}
use Rattle.aql_passes.specs.laws.Finishing.{no_place_seen, first_seen}
use Rattle.aql_passes.specs.laws.StaysPlaced.{placed_kept}

-- ---- what is renamed in a node

lone_each : (rs : List Rename) (n : Node) → IsNoFragment n → IsNoFragment (renamed_by_each rs n)
lone_each [] n h = h
lone_each (r ∷ rs) n h = lone_each rs (renamed_by (Some r) n) (lone_node (renaming r) n h)

each_weight : (rs : List Rename) (n : Node) → weight_in (renamed_by_each rs n) ≡ weight_in n
each_weight [] n = refl
each_weight (r ∷ rs) n = each_weight rs (renamed_by (Some r) n) ∙ renamed_weight n (Some r)

pub over_none : (m b k : Plan) → k ≡ over m b → k ≡ over_each [] m b
over_none Singleton b k e = e
over_none (Over c n) b k e = e

-- ---- bodies

pub record BodyOf (k s : Plan) : Type 0 where
  pub input : Plan
  pub var : Ident
  pub was : k ≡ Over input (Subquery var s)

pub body_of : (k s : Plan) → has_body (top k) ≡ true → k ≡ with_body k s → BodyOf k s
body_of Singleton s h e = absurd (true≢false (sym h))
body_of (Over b (Subquery v r)) s h e =
    let d : r ≡ s = cc in record { input = b; var = v; was = ap (λ (o : Plan). Over b (Subquery v o)) d }
body_of (Over b n) s h e = absurd (true≢false (sym h))

pub body_within : (k s : Plan) → BodyOf k s → (body_in (top k) ≡ Some s) × (weight s + 1 ≤ weight k)
body_within k s d = (
  ap (λ (o : Plan). body_in (top o)) d.was,
  subst (λ (o : Plan). weight s + 1 ≤ weight o) (sym d.was) (omega arith),
)

body_made : (k m s t q : Plan) (d : BodyOf k s) → m ≡ with_body k Singleton → q ≡ with_body m t
    → q ≡ Over d.input (Subquery d.var t)
body_made k m s t q d e f =
    f ∙ ap (λ (o : Plan). with_body o t) (e ∙ ap (λ (o : Plan). with_body o Singleton) d.was)

module _ (R : Rewriting) (blind : (us vs : Uses) (p q : Plan) (r : Option Rename) → R us p q r → R vs p q r)
    (removes : (us : Uses) (p q : Plan) (r : Option Rename) → R us p q r
    → (p ≡ Over q (top p)) × (body_in (top p) ≡ None)) where
  -- ---- ways

  joined : {us : Uses} {p m q : Plan} {rs ss : List Rename} {x y z : Bool} → Way R us p m rs x y
      → Way R us m q ss y z → Way R us p q (rs ++ ss) x z
  joined {us = us} {p = p} {m = m} {rs = rs} {x = x} {y = y} h at_once =
      subst (λ (qs : List Rename). Way R us p m qs x y) (sym (append-nil rs)) h
  joined {us = us} {p = p} {rs = rs} {x = x} h (next {q = q} {rs = ss} {r = r} k s) =
      subst (λ (qs : List Rename). Way R us p q qs x true) (append_assoc rs ss (option_to_list r))
      (next (joined h k) s)

  way_below : (n : Node) {b c : Plan} {rs : List Rename} {x y : Bool} → IsNoFragment n → Way R [] b c rs x y
      → Way R [] (Over b n) (Over c (renamed_by_each rs n)) rs x y
  way_below n i at_once = at_once
  way_below n {b = b} {x = x} i (next {m = m} {q = q} {rs = rs} {r = r} k s) =
      let o = renamed_by_each rs n in
      subst (λ (l : Node). Way R [] (Over b n) (Over q l) (rs ++ option_to_list r) x true)
      (sym (by_each_more rs r n))
      (next (way_below n i k)
      (below (subst (λ (w : Bool). First R w (under o []) m q r) (sym (outside o (lone_each rs n i)))
      (first_seen R blind s (under o [])))))

  stays_whole : (b s : Plan) (v : Ident) → Stays R [] (Over b (Subquery v s))
  stays_whole b s v q r h = none s (removes [] (Over b (Subquery v s)) q r h).1
    where
      none : (s : Plan) → Some s ≡ None → ⊥
      none s e = cc

  way_inside : (b : Plan) (v : Ident) {s t : Plan} {rs : List Rename} {x y : Bool} → NoPlace R false [] b
      → Way R [] s t rs x y → Way R [] (Over b (Subquery v s)) (Over b (Subquery v t)) [] x y
  way_inside b v h at_once = at_once
  way_inside b v h (next {m = m} k s) =
      next (way_inside b v h k)
      (body (no_place_seen R blind false [] (under (Subquery v m) []) b h) (stays_whole b m v)
      (first_seen R blind s result_uses))

  -- ---- how many nodes

  first_weight : {inside : Bool} {us : Uses} {p q : Plan} {r : Option Rename} → First R inside us p q r
      → weight q ≤ weight p
  first_weight (below {n = n} {r = r} h) = omega (arith, first_weight h, renamed_weight n r)
  first_weight (here {us = us} {b = b} {q = q} {n = n} {r = r} m h) =
      omega (arith, weight_below (Over b n) q (removes us (Over b n) q r h).0)
  first_weight (body m g h) = omega (arith, first_weight h)

  pub way_weight : {us : Uses} {p q : Plan} {rs : List Rename} {x y : Bool} → Way R us p q rs x y
      → weight q ≤ weight p
  way_weight at_once = omega arith
  way_weight (next k s) = omega (arith, way_weight k, first_weight s)

  -- ---- as the program holds them: b was the input of p and m is left, c is what b came to with rs renamed
  -- above, and k is m over c with this in it

  pub start_removes : (p : Plan) (rs : List Rename) (x : Bool) → is_start p ≡ true → rs ≡ []
      → Removes R p p rs x x
  start_removes Singleton rs x h e =
      subst (λ (qs : List Rename). Removes R Singleton Singleton qs x x) (sym e)
      (record { reached = at_once; ended = tt })
  start_removes (Over b n) rs x h e = absurd (true≢false (sym h))

  module _ (p m b c k : Plan) (rs : List Rename) (x y : Bool) (lone : HasNoFragment p) (t : Taken p m b)
      (made : k ≡ over_each rs m c) (done : Removes R b c rs x y) where
    abbrev new_top : Node
    new_top = renamed_by_each rs (top m)

    over_top : k ≡ Over c new_top
    over_top = made ∙ ap (λ (o : Plan). over_each rs o c) t.left

    lone_top : IsNoFragment (top m)
    lone_top = (subst HasNoFragment t.was lone).1

    pub input_reached : Way R [] p k rs x y
    input_reached = subst₂ (λ (o l : Plan). Way R [] o l rs x y) (sym t.was) (sym over_top)
        (way_below (top m) lone_top done.reached)

    pub input_ended : NoPlaceUnder R k
    input_ended = subst (NoPlaceUnder R) (sym over_top) done.ended

    -- the node stays
    pub then_inside : (q : Plan) (z : Bool) → Removes R k q [] y z → Removes R p q rs x z
    then_inside q z h = record {
      reached = subst (λ (qs : List Rename). Way R [] p q qs x z) (append-nil rs)
          (joined input_reached h.reached);
      ended = h.ended;
    }

    -- the node goes, and q was its input
    pub then_gone : (q : Plan) (r : Rename) → TakesAway R k r → k ≡ over k q
        → Removes R p q (rs ++ r ∷ []) x true
    then_gone q r takes e =
        let n = new_top in
        let same : c ≡ q = input_is c q n (subst (λ (o : Plan). o ≡ over o q) over_top e) in
        let none = subst (λ (w : Bool). NoPlace R w (under n []) c)
        (sym (outside n (lone_each rs (top m) lone_top)))
        (no_place_seen R blind false [] (under n []) c done.ended) in
        let rewritten = subst (λ (o : Plan). R [] o c (Some r)) over_top
        (takes c (over_top ∙ ap (Over c) (sym (ap top over_top)))) in
        record {
          reached = next input_reached
              (subst₂ (λ (o l : Plan). First R false [] o l (Some r)) (sym over_top) same
              (here none rewritten));
          ended = subst (λ (o : Plan). NoPlace R false [] o) same done.ended;
        }
      where
        input_is : (c q : Plan) (n : Node) → Over c n ≡ Over q n → c ≡ q
        input_is c q n e = cc

  -- ---- a part that stays, with or without a body

  module _ (k : Plan) (lone : HasNoFragment k) (none : NoPlaceUnder R k) (stays : Stays R [] k) where
    pub bare_removes : (x : Bool) → has_body (top k) ≡ false → Removes R k k [] x x
    bare_removes x h = record { reached = at_once; ended = by k lone h none stays }
      where
        by : (k : Plan) → HasNoFragment k → has_body (top k) ≡ false → NoPlaceUnder R k → Stays R [] k
            → NoPlace R false [] k
        by Singleton l h m s = tt
        by (Over b n) l h m s = (
          subst (λ (w : Bool). NoPlace R w (under n []) b) (sym (outside n l.1))
              (no_place_seen R blind false [] (under n []) b m),
          none_at R [] (Over b n) s (no_body n h),
        )

    pub body_removes : (m s t q : Plan) (rs : List Rename) (x y : Bool)
        → BodyOf k s → m ≡ with_body k Singleton → q ≡ with_body m t
        → Removes R s t rs x y → Removes R k q [] x y
    body_removes m s t q rs x y d e f h =
        let v = d.var in
        let b = d.input in
        let input = subst (NoPlaceUnder R) d.was none in
        subst₂ (λ (o l : Plan). Removes R o l [] x y) (sym d.was) (sym (body_made k m s t q d e f)) (record {
          reached = way_inside b v input h.reached;
          ended = (
            no_place_seen R blind false [] (under (Subquery v t) []) b input,
            (stays_whole b t v, no_place_seen R blind false [] result_uses t h.ended),
          );
        })

  -- ---- the whole plan

  way_reaches : {p q : Plan} {rs : List Rename} {x y : Bool} → x ≡ false → Way R [] p q rs x y
      → Reaches R p q y
  way_reaches {p = p} e at_once = subst (λ (c : Bool). Reaches R p p c) (sym e) reached_at_once
  way_reaches e (next k s) = then_next (way_reaches e k) (first_seen R blind s result_uses)

  pub removed_pass : (p q : Plan) (rs : List Rename) (x y : Bool) → x ≡ false → Removes R p q rs x y
      → IsPass R p q y
  removed_pass p q rs x y e h = record {
    reached = way_reaches e h.reached;
    ended = no_place_seen R blind false [] result_uses q h.ended;
  }

  module _ (facts : Facts) (fragments : Bool) (without : fragments ≡ false)
      (refining : Refining fragments facts R) (keeping : Keeping fragments facts R) where
    refines : Refining false facts R
    refines = subst (λ (f : Bool). Refining f facts R) without refining

    keeps : Keeping false facts R
    keeps = subst (λ (f : Bool). Keeping f facts R) without keeping

    way_placed : (outer away : List Ident) {p q : Plan} {rs : List Rename} {x y : Bool}
        → Placed false false facts outer away [] p → Way R [] p q rs x y
        → Placed false false facts outer away [] q
    way_placed outer away h at_once = h
    way_placed outer away h (next {m = m} {q = q} {r = r} k s) =
        let before = way_placed outer away h k in
        placed_kept facts outer away [] m q r before
        (part_kept false facts R refines keeps outer away [] m q r before s) refl

    pub stays_placed : (p q : Plan) (rs : List Rename) (x y : Bool) → IsPlaced false false facts [] p
        → Way R [] p q rs x y → IsPlaced false false facts [] q
    stays_placed p q rs x y h w = (h.0, h.1, way_placed h.0 h.1 h.2 w)

    reached_sound : {p q : Plan} {c : Bool} → IsWhole false facts p → Reaches R p q c → Sound R facts p q
    reached_sound {p = p} whole reached_at_once = record {
      refines = λ db meets start vs a. a;
      whole = whole;
      sets = sets_self p;
    }
    reached_sound {p = p} whole (then_next {q = m} {s = q} {r = r} k h) =
        let before = reached_sound whole k in
        let s = some_step false facts R refines keeps result_uses m q r refl before.whole h in record {
          refines = refines_through_answers facts p m q s.refines before.refines;
          whole = s.whole;
          sets = sets_through p m q before.sets s.sets;
        }

    pub removed_sound : (p q : Plan) (rs : List Rename) (x y : Bool) → x ≡ false → IsWhole false facts p
        → Removes R p q rs x y → Sound R facts p q
    removed_sound p q rs x y e whole h = reached_sound whole (way_reaches e h.reached)
