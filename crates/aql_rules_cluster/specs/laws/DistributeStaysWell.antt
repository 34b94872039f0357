-- A well-formed plan stays so under distribute-in-cluster, and sets no more.
use Rattle.std.proofs.Common.{◌≡◌, ℕ, List, Bool, true, Option, refl, sym, subst, arith}
use Rattle.std.specs.Prelude.{false, None, length}
use Rattle.aql_tree.specs.declared.syntax.Ident.{Ident}
use Rattle.aql_tree.specs.Tree.{ExprTrees}
use Rattle.aql_meaning.specs.Plain.{AllPlain}
use Rattle.aql_meaning.specs.Uses.{Uses}
use Rattle.aql_plan.specs.declared.facts.Facts.{Facts}
use Rattle.aql_plan.specs.Facts.{keys_in}
use Rattle.aql_plan.specs.Fits.{exprs_in, Fits}
use Rattle.aql_plan.specs.Plan.{Plan, Over, Node, Scatter, Distribute, Remote, Gather}
use Rattle.aql_plan.specs.Shapes.{Shape, Shaped, calculated, with_subquery, plain_rows, ordered_rows, scatter, distribute, remote, lowest, lowest_in_order, other_reading, passing, sorting, gather, gather_in_order, partial, joining, finishing, returning}
use Rattle.aql_plan.specs.Variables.{vars_of, FindsAll}
use Rattle.aql_plan_laws.specs.laws.ShapesKept.{under_top}
use Rattle.aql_rewrite.specs.declared.swap.Rename.{Rename}
use Rattle.aql_rewrite.specs.Placed.{Placed}
use Rattle.aql_rewrite.specs.Swaps.{KeepsPlaced}
use Rattle.aql_rules_cluster.specs.DistributeFiltercalcToCluster.{gathered}
use Rattle.aql_rules_cluster.specs.DistributeInCluster.{SendsByKeys, Distributes, distributed}
use Rattle.aql_rules_cluster.specs.FragmentParts.{over_link, SameAbove, none_above, one_above}
use Rattle.aql_rules_cluster.specs.laws.Bottoms.{reader_above}
use Rattle.aql_rules_cluster.specs.laws.KeptAbove.{inside_above, MayStand, may_stand_over, kept_at_gather}
use Rattle.aql_rules_cluster.specs.laws.KeysGiven.{given_many, given_plain, given_found}

-- a node of a part that has a shape fits
node_fits : (facts : Facts) (b : Plan) (n : Node) (s : Shape) → Shaped facts (Over b n) s → Fits facts n
node_fits facts b n s (calculated f h) = f
node_fits facts b n s (with_subquery g h) = tt
node_fits facts b n s (plain_rows i f h) = f
node_fits facts b n s (ordered_rows e f h) = f
node_fits facts b n s (scatter f h) = f
node_fits facts b n s (distribute f h) = f
node_fits facts b n s (remote i h) = tt
node_fits facts b n s (lowest i f h) = f
node_fits facts b n s (lowest_in_order e f h) = f
node_fits facts b n s (other_reading i f h) = f
node_fits facts b n s (passing i f h) = f
node_fits facts b n s (sorting f h) = f
node_fits facts b n s (gather h) = tt
node_fits facts b n s (gather_in_order f h) = f
node_fits facts b n s (partial f h) = f
node_fits facts b n s (joining h) = tt
node_fits facts b n s (finishing f h) = f
node_fits facts b n s (returning f h) = f

-- so does the lowest part of a fragment
part_shaped : (facts : Facts) {old new p q : Plan} → SameAbove old new p q → (s : Shape) → Shaped facts p s
    → (t : Shape) × Shaped facts old t
part_shaped facts none_above s h = (s, h)
part_shaped facts (one_above {p = p} {n = n} i above) s h =
    let below = under_top facts p n s h in part_shaped facts above below.0 below.2

low_shaped : (facts : Facts) (directions : List Bool) (keys : ExprTrees) {old new p q : Plan}
    → SameAbove old new p q → (s : Shape) → Shaped facts (gathered directions keys p) s
    → (t : Shape) × Shaped facts old t
low_shaped facts directions keys {p = p} above s h =
    let sent = under_top facts (Over p Remote) (Gather directions keys) s h in
    let part = under_top facts p Remote sent.0 sent.2 in
    part_shaped facts above part.0 part.2

-- a Distribute may stand where a Scatter does
foot_shaped : (facts : Facts) (b : Plan) (coll : ℕ) (es : ExprTrees) (s : Shape) → AllPlain es
    → exprs_in es ≡ length (keys_in facts coll) → Shaped facts (Over b (Scatter coll None)) s
    → Shaped facts (Over b (Distribute coll es)) s
foot_shaped facts b coll es s plain many (scatter f h) = distribute (f, plain, many) h
foot_shaped facts b coll es s plain many (plain_rows i f h) = absurd i
foot_shaped facts b coll es s plain many (lowest i f h) = absurd i
foot_shaped facts b coll es s plain many (other_reading i f h) = absurd i
foot_shaped facts b coll es s plain many (passing i f h) = absurd i

module _ (facts : Facts) (outer : List Ident) (b : Plan) (coll : ℕ) (n : Node) (es : ExprTrees)
    (sends : SendsByKeys facts coll n es) where
  abbrev old : Plan
  old = over_link (Over b (Scatter coll None)) n

  abbrev new : Plan
  new = over_link (Over b (Distribute coll es)) n

  -- in place of the Scatter; that the expressions hold no subquery, the lowest node tells
  foot_stands : FindsAll outer old → AllPlain es
      → MayStand true facts outer (Over b (Distribute coll es)) (Over b (Scatter coll None))
  foot_stands found plain = record {
    shape = λ s e h. foot_shaped facts b coll es s plain (given_many facts n coll es sends.0 sends.1) h;
    found = (
      found.0.0.0,
      given_found facts n es (vars_of outer b) found.1 found.2 sends.1,
      refl,
      tt,
    );
    vars = refl;
    fewer = λ z. omega arith;
  }

  low_stands : FindsAll outer old → AllPlain es → MayStand true facts outer new old
  low_stands found plain = may_stand_over true facts outer (Over (Over b (Distribute coll es)) Remote)
      (Over (Over b (Scatter coll None)) Remote) n found
      (subst (λ (inside : Bool). MayStand inside facts outer (Over (Over b (Distribute coll es)) Remote)
      (Over (Over b (Scatter coll None)) Remote)) (sym (inside_above n (reader_above coll n sends.0)))
      (may_stand_over true facts outer (Over b (Distribute coll es)) (Over b (Scatter coll None)) Remote
      found.0 (foot_stands found plain)))

pub distributes_keep : (facts : Facts) (outer away : List Ident) (us : Uses) (p q : Plan) (r : Option Rename)
    → Placed true false facts outer away us p → Distributes facts us p q r
    → KeepsPlaced true false facts outer us p q r
distributes_keep facts outer away _ _ _ _ placed (distributed {us = us} {b = b} {p = p} {q = q} {coll = coll}
    {n = n} {es = es} {directions = directions} {keys = keys} servers sends above) =
    let low = low_shaped facts directions keys above placed.shaped.0 placed.shaped.2 in
    let plain = given_plain facts n es
    (node_fits facts (Over (Over b (Scatter coll None)) Remote) n low.0 low.1) sends.1 in
    kept_at_gather facts outer away us directions keys (over_link (Over b (Scatter coll None)) n)
    (over_link (Over b (Distribute coll es)) n) p q placed above
    (λ found. low_stands facts outer b coll n es sends found plain)
