-- The plan from its lowest node up, each node's expressions to their end, and a body with its node, is a way
-- of applications each at the first place.
use Rattle.std.proofs.Common.{◌≡◌, ◌∙◌, Bool, false, List, [], length, refl, ap, sym, subst}
use Rattle.std.specs.Prelude.{None}
use Rattle.aql_tree.specs.declared.syntax.Ident.{Ident}
use Rattle.aql_tree.specs.Tree.{ExprTree}
use Rattle.aql_meaning.specs.Uses.{Uses}
use Rattle.aql_plan.specs.Above.{input_inside}
use Rattle.aql_plan.specs.Needs.{under, result_uses}
use Rattle.aql_plan.specs.Nodes.{body_in}
use Rattle.aql_plan.specs.Plan.{Plan, Singleton, Over, Node, Subquery}
use Rattle.aql_plan.specs.Shapes.{HasNoFragment, IsNoFragment}
use Rattle.aql_rewrite.specs.FirstInExpr.{none_left, FirstOf}
use Rattle.aql_rewrite.specs.NodeExprs.{node_exprs, over_exprs}
use Rattle.aql_rewrite.specs.Places.{Stays, NoPlace, NoPlaceAt, First, below, here, body}
use Rattle.aql_passes.specs.AtExprs.{AtExprs}
use Rattle.aql_rewrite.specs.inner.Applications.{Applications, at_once, next, Application}
use Rattle.aql_passes.specs.inner.Ends.{AllEnd, ExprsEnd, PlanEnds}
use Rattle.aql_passes.specs.laws.Ended.{as_many, each_new, first_longer}
use Rattle.aql_passes.specs.laws.ExprsAgain.{exprs_own, exprs_again}
use Rattle.aql_passes.specs.laws.ExprsBack.{exprs_back}
use Rattle.aql_passes.specs.laws.NoneFirst.{stays_at_node}
use Rattle.aql_passes.specs.laws.SameShape.{still_plain}
use Rattle.aql_rewrite.specs.laws.Standing.{outside}
use Rattle.aql_rewrite.specs.laws.StepByStep.{joined, along}

module _ (R : ExprTree → ExprTree → Type 0) where
  abbrev Way : Uses → Plan → Plan → Bool → Bool → Type 0
  Way us p q x y = Applications Plan (Application (AtExprs R) us) p q x y

  abbrev Placeless : Plan → Type 0
  Placeless p = (us : Uses) → NoPlace (AtExprs R) false us p

  -- ---- the input of a node

  step_below : (n : Node) (us : Uses) (b c : Plan) → IsNoFragment n → Application (AtExprs R) (under n us) b c
      → Application (AtExprs R) us (Over b n) (Over c n)
  step_below n us b c i h = below (subst (λ (o : Bool). First (AtExprs R) o (under n us) b c None)
      (sym (outside n i)) h)

  none_below : (n : Node) (us : Uses) (b : Plan) → IsNoFragment n → Placeless b
      → NoPlace (AtExprs R) (input_inside n false) (under n us) b
  none_below n us b i h = subst (λ (o : Bool). NoPlace (AtExprs R) o (under n us) b)
      (sym (outside n i)) (h (under n us))

  way_below : (n : Node) (us : Uses) (b c : Plan) (x y : Bool) → IsNoFragment n → Way (under n us) b c x y
      → Way us (Over b n) (Over c n) x y
  way_below n us b c x y i h =
      along Plan Plan (Application (AtExprs R) (under n us)) (Application (AtExprs R) us) (λ p. Over p n)
      (λ p q f. step_below n us p q i f) h

  -- ---- its expressions

  step_here : (n : Node) (us : Uses) (b : Plan) (es : List ExprTree) → IsNoFragment n → Placeless b
      → FirstOf R (node_exprs n) es → Application (AtExprs R) us (Over b n) (Over b (over_exprs n es))
  step_here n us b es i m f = here (none_below n us b i m) (es, f, refl)

  module _ (n : Node) (cs : List ExprTree) (of : cs ≡ node_exprs n) where
    back : {es : List ExprTree} {x y : Bool} → Applications (List ExprTree) (FirstOf R) cs es x y
        → node_exprs (over_exprs n es) ≡ es
    back {es = es} h = exprs_back n es ∙ each_new (node_exprs n) es (as_many R h ∙ ap length of)

    way_here : (us : Uses) (b : Plan) {es : List ExprTree} {x y : Bool} → IsNoFragment n → Placeless b
        → Applications (List ExprTree) (FirstOf R) cs es x y
        → Way us (Over b n) (Over b (over_exprs n es)) x y
    way_here us b i m (at_once {x = x}) = subst (λ (o : Node). Way us (Over b n) (Over b o) x x)
        (sym (ap (over_exprs n) of ∙ exprs_own n)) at_once
    way_here us b i m (next {m = ds} {d = es} k f) =
        next (way_here us b i m k)
        (subst (λ (o : Node). Application (AtExprs R) us (Over b (over_exprs n ds)) (Over b o))
        (exprs_again n ds es ∙ ap (over_exprs n) (first_longer R f))
        (step_here (over_exprs n ds) us b es (still_plain n ds i) m
        (subst (λ (fs : List ExprTree). FirstOf R fs es) (sym (back k)) f)))

  no_body : (n : Node) (es : List ExprTree) → body_in n ≡ None → body_in (over_exprs n es) ≡ None
  no_body (Subquery x s) es e = cc
  no_body n es e = refl

  none_here : (n : Node) (stays : Type 0) → body_in n ≡ None → stays → NoPlaceAt (AtExprs R) false stays n
  none_here (Subquery x s) stays e h = cc
  none_here n stays e h = h

  over_node : (n : Node) (b c : Plan) (es : List ExprTree) (x y z : Bool) → IsNoFragment n → body_in n ≡ None
      → PlanEnds R b c x y → AllEnd R (node_exprs n) es y z
      → PlanEnds R (Over b n) (Over c (over_exprs n es)) x z
  over_node n b c es x y z i e h k =
      let m = over_exprs n es in record {
        reached = λ us. joined Plan (Application (AtExprs R) us)
            (way_below n us b c x y i (h.reached (under n us)))
            (way_here n (node_exprs n) refl us c i h.ended k.reached);
        ended = λ us. (
          none_below m us c (still_plain n es i) h.ended,
          none_here m (Stays (AtExprs R) us (Over c m)) (no_body n es e)
              (stays_at_node R (Over c m) es (sym (back n (node_exprs n) refl k.reached)) k.ended),
        );
      }

  -- ---- its body

  stays_at_subquery : (us : Uses) (v : Ident) (b s : Plan) → Stays (AtExprs R) us (Over b (Subquery v s))
  stays_at_subquery us v b s = stays_at_node R (Over b (Subquery v s)) [] refl none_left

  pub body_ends : (v : Ident) (b c s t : Plan) (x y z : Bool) → HasNoFragment s
      → PlanEnds R b c x y → PlanEnds R s t y z
      → PlanEnds R (Over b (Subquery v s)) (Over c (Subquery v t)) x z
  body_ends v b c s t x y z i h k = record {
    reached = λ us. joined Plan (Application (AtExprs R) us)
        (way_below (Subquery v s) us b c x y i (h.reached (under (Subquery v s) us)))
        (along Plan Plan (Application (AtExprs R) result_uses) (Application (AtExprs R) us)
        (λ p. Over c (Subquery v p))
        (λ p q f. body (h.ended (under (Subquery v p) us)) (stays_at_subquery us v c p) f)
        (k.reached result_uses));
    ended = λ us. (h.ended (under (Subquery v t) us), (stays_at_subquery us v c t, k.ended result_uses));
  }

  -- ---- as the program holds them

  pub start_ends : (x : Bool) → PlanEnds R Singleton Singleton x x
  start_ends x = record { reached = λ us. at_once; ended = λ us. tt }

  pub node_ends : (n m : Node) (b c : Plan) (x y z : Bool) → HasNoFragment (Over b n) → body_in n ≡ None
      → PlanEnds R b c x y → ExprsEnd R n m y z → PlanEnds R (Over b n) (Over c m) x z
  node_ends n m b c x y z i e h k =
      subst (λ (o : Node). PlanEnds R (Over b n) (Over c o) x z) (sym k.2)
      (over_node n b c k.0 x y z i.1 e h k.1)
