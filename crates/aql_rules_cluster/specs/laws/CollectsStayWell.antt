-- A well-formed plan stays so under collect-in-cluster, and sets no more.
use Rattle.std.proofs.Common.{◌≡◌, List, [], ◌∷◌, ◌++◌, Bool, true, false, Option, refl, sym, subst, arith}
use Rattle.std.specs.Prelude.{◌||◌}
use Rattle.aql_tree.specs.declared.syntax.Ident.{Ident}
use Rattle.aql_tree.specs.Tree.{ExprTrees, AggregateTrees, no_into}
use Rattle.aql_meaning.specs.declared.grouping.Stage.TheVariants as stage
use Rattle.aql_meaning.specs.Uses.{Uses}
use Rattle.aql_meaning.specs.Visible.{aggregate_vars}
use Rattle.aql_meaning.specs.laws.Idents.{same_self}
use Rattle.aql_plan.specs.declared.facts.Facts.{Facts}
use Rattle.aql_plan.specs.Fits.{Fits}
use Rattle.aql_plan.specs.Needs.{as_wholes}
use Rattle.aql_plan.specs.Plan.{Plan, Over, Collect, Remote, Gather}
use Rattle.aql_plan.specs.Shapes.{Shape, Rows, Fragment, Sent, is_inside, Shaped, plain_rows, remote, lowest, other_reading, passing, joining, partial, finishing}
use Rattle.aql_plan.specs.Variables.{are_among}
use Rattle.aql_rewrite.specs.declared.swap.Rename.{Rename}
use Rattle.aql_rewrite.specs.Placed.{Placed}
use Rattle.aql_rewrite.specs.Swaps.{KeepsPlaced}
use Rattle.aql_rewrite.specs.laws.Among.{has, Within, and_true, has_back, within_self, within_front, within_back, among_join}
use Rattle.aql_rules_cluster.specs.CollectInCluster.{in_two_stages, CollectsInside, collected}
use Rattle.aql_rules_cluster.specs.laws.SortsStayWell.{gathered_rows, sent_fragment}

-- ---- how the nodes stand

-- a Collect in one stage stands outside fragments, over rows
pub whole_outside : (facts : Facts) (b : Plan) (xs : List Ident) (es : ExprTrees) (gs : AggregateTrees)
    (s : Shape) → is_inside s ≡ false → Shaped facts (Over b (Collect xs es gs no_into stage.Whole)) s
    → (s ≡ Rows false) × Fits facts (Collect xs es gs no_into stage.Whole) × Shaped facts b (Rows false)
whole_outside facts b xs es gs s o (plain_rows i f h) = (refl, f, h)
whole_outside facts b xs es gs s o (lowest i f h) = absurd i
whole_outside facts b xs es gs s o (other_reading i f h) = absurd i
whole_outside facts b xs es gs s o (passing i f h) = absurd i

module _ (facts : Facts) (f : Plan) (directions : List Bool) (keys : ExprTrees) (xs : List Ident)
    (es : ExprTrees) (gs : AggregateTrees) where
  stands : (s : Shape) → is_inside s ≡ false
      → Shaped facts (Over (Over (Over f Remote) (Gather directions keys))
      (Collect xs es gs no_into stage.Whole)) s
      → Shaped facts (in_two_stages f xs es gs) s
  stands s o h =
      let gathered = Over (Over f Remote) (Gather directions keys) in
      let k = whole_outside facts gathered xs es gs s o h in
      let g = gathered_rows facts (Over f Remote) directions keys (Rows false) refl k.2 in
      let inside = sent_fragment facts f (Sent (Fragment g.0)) (Fragment g.0) refl g.1 in
      subst (Shaped facts (in_two_stages f xs es gs)) (sym k.0)
      (finishing k.1 (joining (remote tt (partial k.1 inside))))

-- ---- what the final stage uses is there

wholes_among : (xs ys : List Ident) → Within xs ys → are_among (as_wholes xs) ys ≡ true
wholes_among [] ys w = refl
wholes_among (x ∷ xs) ys w = and_true (has x ys) (are_among (as_wholes xs) ys)
    (w x (subst (λ (b : Bool). (b || has x xs) ≡ true) (sym (same_self x)) refl))
    (wholes_among xs ys (λ z h. w z (has_back z (x ∷ []) xs h)))

-- ---- the rule

pub collects_keep : (facts : Facts) (outer away : List Ident) (us : Uses) (p q : Plan) (r : Option Rename)
    → Placed true false facts outer away us p → CollectsInside facts us p q r
    → KeepsPlaced true false facts outer us p q r
collects_keep facts outer away _ _ _ _ placed (collected {us = us} {fragment = f} {directions = directions}
    {keys = keys} {xs = xs} {es = es} {gs = gs} servers) =
    let found = placed.found in
    let ys = aggregate_vars gs in
    let first = within_front xs (xs ++ (ys ++ [])) outer (within_front xs xs (ys ++ []) (within_self xs)) in
    let others = within_front ys (xs ++ (ys ++ [])) outer
    (within_back ys xs (ys ++ []) (within_front ys ys [] (within_self ys))) in
    let states = among_join (as_wholes xs) (as_wholes ys) ((xs ++ (ys ++ [])) ++ outer)
    (wholes_among xs ((xs ++ (ys ++ [])) ++ outer) first)
    (wholes_among ys ((xs ++ (ys ++ [])) ++ outer) others) in record {
      suits = placed.suits;
      shape = stands facts f directions keys xs es gs;
      found = ((((found.0.0.0, found.1, refl, tt), refl, refl, tt), refl, refl, tt), states, refl, tt);
      vars = λ z used h. h;
      fewer = λ z. omega arith;
    }
