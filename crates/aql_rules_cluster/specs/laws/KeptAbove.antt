-- What stays of a fragment over another foot or lowest node, where that one may stand there: a well-formed
-- plan stays so, no place comes in, and no reader comes out of a fragment.
use Rattle.std.proofs.Common.{◌≡◌, List, [], ◌++◌, Bool, true, false, true≢false, Option, None, refl, ap, sym, subst, arith}
use Rattle.std.specs.List.{list_any}
use Rattle.aql_tree.specs.declared.syntax.Ident.{Ident}
use Rattle.aql_tree.specs.Tree.{ExprTrees}
use Rattle.aql_meaning.specs.Row.{same_ident}
use Rattle.aql_meaning.specs.Uses.{Uses}
use Rattle.aql_plan.specs.declared.facts.Facts.{Facts}
use Rattle.aql_plan.specs.Above.{input_inside}
use Rattle.aql_plan.specs.Needs.{sets, under}
use Rattle.aql_plan.specs.Plan.{Plan, Over, Node, Collect, Return, Scatter, Distribute, Remote, Gather}
use Rattle.aql_plan.specs.Shapes.{KeepsShape}
use Rattle.aql_plan.specs.Variables.{vars_of, are_among, FindsAll, FindsInside, vars_set, set_once, input_uses, filter_uses}
use Rattle.aql_plan_laws.specs.laws.Among.{count_append}
use Rattle.aql_plan_laws.specs.laws.ShapesKept.{kept_over}
use Rattle.aql_rewrite.specs.declared.swap.Rename.{Rename}
use Rattle.aql_rewrite.specs.Placed.{Placed}
use Rattle.aql_rewrite.specs.Places.{Rewriting, Stays, NoPlace}
use Rattle.aql_rewrite.specs.Swaps.{SetsNoMore, KeepsPlaced}
use Rattle.aql_rules_cluster.specs.DistributeFiltercalcToCluster.{gathered}
use Rattle.aql_rules_cluster.specs.FragmentParts.{is_above_foot, SameAbove, none_above, one_above}
use Rattle.aql_rules_cluster.specs.OnShards.{ReadsInFragments}
use Rattle.aql_rules_cluster.specs.laws.Walking.{NoPlaces, none_below, no_place_seen}

pub inside_above : (n : Node) → is_above_foot n ≡ true → input_inside n true ≡ true
inside_above (Scatter coll only) h = absurd (true≢false (sym h))
inside_above (Distribute coll es) h = absurd (true≢false (sym h))
inside_above n h = refl

-- ---- well-formed plans

-- q may stand for p in a well-formed plan: in its shapes, with its variables
pub record MayStand (inside : Bool) (facts : Facts) (outer : List Ident) (q p : Plan) : Type 0 where
  pub shape : KeepsShape inside facts q p
  pub found : FindsAll outer q
  pub vars : vars_of outer q ≡ vars_of outer p
  pub fewer : SetsNoMore p q

vars_over : (outer : List Ident) (q p : Plan) (n : Node) → vars_of outer q ≡ vars_of outer p
    → vars_of outer (Over q n) ≡ vars_of outer (Over p n)
vars_over outer q p (Collect xs es gs i s) e = refl
vars_over outer q p (Return distinct v) e = refl
vars_over outer q p n e = ap (λ (xs : List Ident). sets n ++ xs) e

fewer_over : (q p : Plan) (n : Node) → SetsNoMore p q → SetsNoMore (Over p n) (Over q n)
fewer_over q p n h z = omega (
  arith,
  h z,
  count_append z (set_once n) (vars_set q),
  count_append z (set_once n) (vars_set p),
)

-- below any node
pub may_stand_over : (inside : Bool) (facts : Facts) (outer : List Ident) (q p : Plan) (n : Node)
    → FindsAll outer (Over p n) → MayStand (input_inside n inside) facts outer q p
    → MayStand inside facts outer (Over q n) (Over p n)
may_stand_over inside facts outer q p n found k = record {
  shape = kept_over facts q p n inside k.shape;
  found = subst (λ (xs : List Ident). FindsAll outer q × (are_among (input_uses n) xs ≡ true)
      × (are_among (filter_uses n) (sets n ++ xs) ≡ true) × FindsInside xs n) (sym k.vars)
      (k.found, found.1, found.2, found.3);
  vars = vars_over outer q p n k.vars;
  fewer = fewer_over q p n k.fewer;
}

-- below the nodes of a fragment
pub may_stand_above : {facts : Facts} {outer : List Ident} {old new p q : Plan} → SameAbove old new p q
    → (FindsAll outer old → MayStand true facts outer new old) → FindsAll outer p
    → MayStand true facts outer q p
may_stand_above none_above k found = k found
may_stand_above {facts = facts} {outer = outer} (one_above {p = p} {q = q} {n = n} i s) k found =
    may_stand_over true facts outer q p n found
    (subst (λ (inside : Bool). MayStand inside facts outer q p) (sym (inside_above n i))
    (may_stand_above s k found.0))

-- as a part outside fragments
pub kept_placed : (facts : Facts) (outer away : List Ident) (us : Uses) (q p : Plan)
    → Placed true false facts outer away us p → MayStand false facts outer q p
    → KeepsPlaced true false facts outer us p q None
kept_placed facts outer away us q p placed k = record {
  suits = placed.suits;
  shape = k.shape;
  found = k.found;
  vars = λ z used h. subst (λ (xs : List Ident). list_any (same_ident z) xs ≡ true) (sym k.vars) h;
  fewer = k.fewer;
}

-- at the Gather of a fragment
pub kept_at_gather : (facts : Facts) (outer away : List Ident) (us : Uses) (directions : List Bool)
    (keys : ExprTrees) (old new p q : Plan)
    → Placed true false facts outer away us (gathered directions keys p) → SameAbove old new p q
    → (FindsAll outer old → MayStand true facts outer new old)
    → KeepsPlaced true false facts outer us (gathered directions keys p) (gathered directions keys q) None
kept_at_gather facts outer away us directions keys old new p q placed s k =
    let found = placed.found in
    kept_placed facts outer away us (gathered directions keys q) (gathered directions keys p) placed
    (may_stand_over false facts outer (Over q Remote) (Over p Remote) (Gather directions keys) found
    (may_stand_over true facts outer q p Remote found.0 (may_stand_above s k found.0.0)))

-- ---- places

module _ (R : Rewriting)
    (blind : (us vs : Uses) (p q : Plan) (r : Option Rename) → R us p q r → R vs p q r) where
  -- no node of a fragment is a place, so only what is below its foot counts
  pub none_lower : (p : Plan) (n : Node) → is_above_foot n ≡ true → NoPlaces R true (Over p n)
      → NoPlaces R true p
  none_lower p n i none us =
      subst (λ (inside : Bool). NoPlace R inside us p) (inside_above n i)
      (no_place_seen R blind (input_inside n true) (under n []) us p (none []).0)

  pub none_higher : (q : Plan) (n : Node) → is_above_foot n ≡ true → NoPlaces R true q
      → NoPlaces R true (Over q n)
  none_higher q n i none us = (
    subst (λ (inside : Bool). NoPlace R inside (under n us) q) (sym (inside_above n i)) (none (under n us)),
    tt,
  )

  pub none_in : {old new p q : Plan} → SameAbove old new p q → (NoPlaces R true old → NoPlaces R true new)
      → NoPlaces R true p → NoPlaces R true q
  none_in none_above k none = k none
  none_in (one_above {p = p} {q = q} {n = n} i s) k none =
      none_higher q n i (none_in s k (none_lower p n i none))

  pub none_at_bottom : {old new p q : Plan} → SameAbove old new p q → NoPlaces R true p → NoPlaces R true old
  none_at_bottom none_above none = none
  none_at_bottom (one_above {p = p} {n = n} i s) none = none_at_bottom s (none_lower p n i none)

  -- at the Gather of a fragment
  pub none_at_gather : (directions : List Bool) (keys : ExprTrees) (old new p q : Plan)
      → SameAbove old new p q
      → (NoPlaces R true old → NoPlaces R true new)
      → ((us : Uses) → Stays R us (gathered directions keys q)) → (c : Plan) (n : Node)
      → gathered directions keys p ≡ Over c n → NoPlaces R (input_inside n false) c
      → NoPlaces R false (gathered directions keys q)
  none_at_gather directions keys old new p q s k stays c n is none us =
      let there = none_below R (Over p Remote) c (Gather directions keys) n is none in
      let inside : NoPlaces R true p
      = λ vs. no_place_seen R blind true (under Remote []) vs p (there []).0 in
      ((none_in s k inside (under Remote (under (Gather directions keys) us)), tt), stays us)

-- ---- readers

pub readers_above : {old new p q : Plan} → SameAbove old new p q
    → (ReadsInFragments true old → ReadsInFragments true new) → ReadsInFragments true p
    → ReadsInFragments true q
readers_above none_above k h = k h
readers_above (one_above {p = p} {q = q} {n = n} i s) k h = (
  subst (λ (inside : Bool). ReadsInFragments inside q) (sym (inside_above n i))
      (readers_above s k
      (subst (λ (inside : Bool). ReadsInFragments inside p) (inside_above n i) h.0)),
  h.1,
)
